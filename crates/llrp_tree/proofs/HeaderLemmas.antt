-- A header says the same in every frame that begins with it.
use Rattle.std.proofs.Common.{◌≡◌, ℕ, ◌+◌, ◌*◌, ◌≤◌, Bool, inl, List, [], ◌++◌, length, take, drop, Some, sym, ap, ◌∙◌, subst, arith, length-drop}
use Rattle.std.proofs.lemmas.List.{append-nil, take-append-le, drop-append-le}
use Rattle.tag_bits.specs.Digits.{value, digits_of_bytes}
use Rattle.tag_bits.proofs.ByteLemmas.{length-bytes}
use Rattle.llrp_schema.specs.declared.kinds.KindSet.{KindSet}
use Rattle.llrp_tree.specs.declared.fault.Fault.{Fault}
use Rattle.llrp_tree.specs.declared.header.Header.{Header}
use Rattle.llrp_tree.specs.FirstFault.{number, first_failing, header_checks_in, FirstFaultIn}
use Rattle.llrp_tree.specs.Calls.Standing.{HeaderSaysIn}
use Rattle.llrp_tree.specs.Calls.Header.{HasHeaderIn, HasHeaderFaultIn}

-- a number in bytes is the same with more digits after them
pub number_ahead : (bytes : List ℕ) (later : List Bool) (place width : ℕ) → place + width ≤ 8 * length bytes → value (take width (drop place (digits_of_bytes bytes))) ≡ number (digits_of_bytes bytes ++ later) place width
number_ahead bytes later place width le =
    let long : length (digits_of_bytes bytes) ≡ 8 * length bytes = length-bytes bytes in
    let left = length-drop place (digits_of_bytes bytes) in
    ap value (sym (ap (λ (x : List Bool). take width x) (drop-append-le place (digits_of_bytes bytes) later (omega arith)) ∙ take-append-le width (drop place (digits_of_bytes bytes)) later (omega arith)))

-- the header of a frame that ends with these bytes
pub own_header : (p : KindSet) (limit : ℕ) (bytes : List ℕ) (h : Header) → HasHeaderIn p limit bytes h → HeaderSaysIn p limit (digits_of_bytes bytes) h.version h.kind h.octets h.id
own_header p limit bytes h f = subst (λ (x : List Bool). HeaderSaysIn p limit x h.version h.kind h.octets h.id) (append-nil (digits_of_bytes bytes)) (f [])

pub own_header_fault : (p : KindSet) (limit : ℕ) (bytes : List ℕ) (fault : Fault) → HasHeaderFaultIn p limit bytes fault → FirstFaultIn p bytes limit fault.bit fault.reason
own_header_fault p limit bytes fault f = inl (subst (λ (x : List Bool). first_failing (header_checks_in p limit x) ≡ Some (fault.bit, fault.reason)) (append-nil (digits_of_bytes bytes)) (f []))
