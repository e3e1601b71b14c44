-- The texts of whole items that a printer holds.
use Rattle.std.proofs.Common.{◌≡◌, ℕ, Bool, List, [], ◌∷◌, ◌++◌, length, sym, ap, ◌∙◌, append_assoc}
use Rattle.std.specs.Prelude.{codes, decimal}
use Rattle.std.proofs.lemmas.List.{append-nil}
use Rattle.llrp_stream.specs.declared.item.End.{End}
use Rattle.llrp_stream.specs.declared.item.End.TheVariants.{Clean, Rest, Dead}
use Rattle.llrp_listing.proofs.Marked.{marked_more}
use Rattle.llrp_listing.proofs.TextLemmas.{grown, grown_thrice}
use Rattle.llrp_json.specs.JsonValues.{member, object}
use Rattle.llrp_json.specs.JsonLines.{end_json}
use Rattle.llrp_json.specs.JsonItems.{more_members}
use Rattle.llrp_json.specs.Calls.OpenJson.{Holds}
use Rattle.llrp_json.proofs.NodeTexts.{object_first}

-- an object and LF were appended
pub line_of_object : (first : List ℕ) (more : List (List ℕ)) (old t1 t2 new : List ℕ) → t1 ≡ old ++ (123 ∷ first) → t2 ≡ t1 ++ more_members more → new ≡ t2 ++ 125 ∷ 10 ∷ [] → new ≡ old ++ (object (first ∷ more) ++ 10 ∷ [])
line_of_object first more old t1 t2 new p q r =
    let start : List ℕ = 123 ∷ first in
    let members : List ℕ = more_members more in
    grown_thrice old t1 t2 new start members (125 ∷ 10 ∷ []) p q r
    ∙ ap (λ (x : List ℕ). old ++ (start ++ x)) (sym (append_assoc members (125 ∷ []) (10 ∷ []))) ∙ ap (λ (x : List ℕ). old ++ x) (sym (append_assoc start (members ++ 125 ∷ []) (10 ∷ [])))
    ∙ ap (λ (x : List ℕ). old ++ (x ++ 10 ∷ [])) (sym (object_first first more))

-- the line of a rest was appended
pub line_of_rest : (octets : ℕ) (old t1 t2 new : List ℕ) → t1 ≡ old ++ codes "{\"rest\":" → t2 ≡ t1 ++ decimal octets → new ≡ t2 ++ codes "}\n" → new ≡ old ++ end_json (Rest octets)
unfolding end_json
line_of_rest octets old t1 t2 new p q r = line_of_object (member (codes "rest") (decimal octets)) [] old t2 t2 new (grown old t1 t2 (codes "{\"rest\":") (decimal octets) p q) (sym (append-nil t2)) r

-- an end that has no line
pub no_line : (end : End) (text : List ℕ) → end_json end ≡ [] → text ≡ text ++ end_json end
no_line end text none = sym (append-nil text) ∙ ap (λ (x : List ℕ). text ++ x) (sym none)

pub clean_line : (end : End) (text : List ℕ) → end ≡ Clean → text ≡ text ++ end_json end
unfolding end_json
clean_line end text e = no_line end text (ap (λ (x : End). end_json x) e)

pub dead_line : (end : End) (text : List ℕ) → end ≡ Dead → text ≡ text ++ end_json end
unfolding end_json
dead_line end text e = no_line end text (ap (λ (x : End). end_json x) e)

-- the text of an item was appended
pub more_held : (mark place depth : ℕ) (parent : Bool) (old new was more : List ℕ) → Holds mark depth parent old was [] → new ≡ old ++ more → place ≡ length new → Holds place depth parent new (was ++ more) []
more_held mark place depth parent old new was more h e all = record { marked = marked_more mark place old new was more h.marked e all; deep = h.deep; parent_is = tt }
