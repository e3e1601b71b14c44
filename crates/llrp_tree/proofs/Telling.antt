-- Checks, one after another, at a reader's place.
use Rattle.std.proofs.Common.{◌≡◌, ℕ, ◌-◌, ◌≤◌, Bool, true, false, List, [], ◌∷◌, ◌++◌, length, drop, Option, Some, None, refl, sym, ap, subst, ◌∙◌, arith}
use Rattle.std.specs.Prelude.{if◌then◌else◌}
use Rattle.std.specs.Str.{is_utf8}
use Rattle.std.proofs.lemmas.Bool.{leb-true}
use Rattle.llrp_schema.specs.declared.kinds.ParamKind.{ParamKind}
use Rattle.llrp_schema.specs.declared.kinds.Tail.{Tail}
use Rattle.llrp_schema.specs.declared.kinds.Tail.TheVariants.{Absent, Words, Text, Bits, Data}
use Rattle.llrp_schema.specs.Schema.{GroupRule}
use Rattle.llrp_tree.specs.declared.TheConstants.{MAX_DEPTH}
use Rattle.llrp_tree.specs.declared.fault.Reason.{Reason}
use Rattle.llrp_tree.specs.Tree.{Forest}
use Rattle.llrp_tree.specs.Lawful.{has_place}
use Rattle.llrp_tree.specs.OpenTree.{root_of, Begun, covers, has_tail, takes_more}
use Rattle.llrp_tree.specs.FirstFault.{Check, first_failing, tail_end, tail_at, tail_checks, kind_checks, checks, NextPart, next_part, next_fault}
use Rattle.llrp_tree.specs.Calls.Standing.{IsAt}
use Rattle.llrp_tree.specs.Private.Standing.{IsFaultOf}
use Rattle.llrp_tree.proofs.ReadDigits.{length_covered}

-- each check holds
abbrev pub AllHold : List Check → Type 0
AllHold [] = Unit {0}
AllHold (c ∷ cs) = (c.holds ≡ true) × AllHold cs

pub all_hold : (cs : List Check) → first_failing cs ≡ None → AllHold cs
all_hold [] e = tt
all_hold (c ∷ cs) e =
    (let M : Bool → Type 0 = λ b. c.holds ≡ b → (if b then first_failing cs else Some (c.bit, c.reason)) ≡ None → (c.holds ≡ true) × AllHold cs in
    elim c.holds as M [ true ↦ λ h f. (h, all_hold cs f) | false ↦ λ h f. absurd cc ]) refl e

-- what the checks of a tail say where they hold
pub tail_checked : (form : Tail) (fields : List ℕ) (at stop : ℕ) (ds : List Bool) → at ≤ stop → has_tail form ≡ true → AllHold (tail_checks form fields at stop ds) → (tail_end form fields at stop ds ≤ stop) × (form ≡ Text → is_utf8 (tail_at form fields (stop - at) ds) ≡ true)
tail_checked Absent fields at stop ds le e p = absurd cc
tail_checked Words fields at stop ds le e p = (leb-true (tail_end Words fields at stop ds) stop p.1.0, λ t. absurd cc)
tail_checked Text fields at stop ds le e p = (leb-true (tail_end Text fields at stop ds) stop p.1.0, λ t. p.1.1.0)
tail_checked Bits fields at stop ds le e p = (leb-true (tail_end Bits fields at stop ds) stop p.0, λ t. absurd cc)
tail_checked Data fields at stop ds le e p = (omega arith, λ t. absurd cc)

-- and those of a child's kind
pub record KindPasses (found : Option ParamKind) (gs : List GroupRule) (cs : Forest) (level : ℕ) (more : List Check) : Type 0 where
  pub kind : ParamKind
  pub is : found ≡ Some kind
  pub has : has_place gs kind ≡ true
  pub takes : takes_more gs kind cs ≡ true
  pub deep : level ≤ MAX_DEPTH
  pub others : AllHold more

pub kind_checked : (found : Option ParamKind) (gs : List GroupRule) (cs : Forest) (level at type_at : ℕ) (more : List Check) → AllHold (kind_checks found gs cs level at type_at ++ more) → KindPasses found gs cs level more
kind_checked None gs cs level at type_at more p = absurd (let e : false ≡ true = p.0 in cc)
kind_checked (Some kind) gs cs level at type_at more p = record { kind = kind; is = refl; has = p.0; takes = p.1.0; deep = leb-true level MAX_DEPTH p.1.1.0; others = p.1.1.1 }

-- a check that fails at a reader's place is the fault of the digits
pub fault_is : (ds : List Bool) (b : Begun) (outer : List Begun) (at : ℕ) (tn : NextPart) (bit : ℕ) (reason : Reason) → IsAt ds (b ∷ outer) at → next_part b at (drop at ds) ≡ tn
    → first_failing (checks tn (length (b ∷ outer)) b at (drop at ds)) ≡ Some (bit, reason) → IsFaultOf (root_of b.head outer) ds bit reason
unfolding next_fault
fault_is ds b outer at tn bit reason st e f =
    let long = length_covered (covers (b ∷ outer)) at ds st.covered st.within in
    let M : ℕ → Type 0 = λ n. first_failing (checks (next_part b n (drop at ds)) (length (b ∷ outer)) b n (drop at ds)) ≡ Some (bit, reason) in
    record { tree = b ∷ outer; at = at; stands = st; fails = subst M (sym long) (ap (λ (u : NextPart). first_failing (checks u (length (b ∷ outer)) b at (drop at ds))) e ∙ f); root = refl }
