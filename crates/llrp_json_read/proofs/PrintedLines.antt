-- A line that is printed of a frame says its message.
use Rattle.std.proofs.Common.{◌≡◌, ◌∙◌, ◌-◌, ℕ, Bool, true, List, [], ◌∷◌, ◌++◌, length, take, drop, nat_eq, ap, arith, sym, subst, Option, Some}
use Rattle.std.specs.Cmp.Lexicographic.{pointwise, same_text}
use Rattle.std.proofs.lemmas.List.{append_cancel_right, take-append-drop, take_all}
use Rattle.llrp_schema.specs.declared.kinds.KindSet.{KindSet}
use Rattle.llrp_tree.specs.OpenTree.{Begun}
use Rattle.llrp_tree.specs.Tree.{MessageTree}
use Rattle.llrp_stream.specs.Calls.Frames.{GivesIn, TakesOn, set_of}
use Rattle.llrp_stream.specs.Items.{FrameIn}
use Rattle.llrp_stream.specs.declared.engine.frames.Frames.{Frames}
use Rattle.llrp_stream.specs.declared.engine.frames.Outcome.{Outcome}
use Rattle.llrp_stream.specs.declared.engine.frames.Outcome.TheVariants.{Whole}
use Rattle.llrp_json.specs.JsonLines.{IsMessageJson}
use Rattle.llrp_json_read.specs.JsonLine.{SaysLine}
use Rattle.llrp_json_read.specs.Private.Printed.{IsLineOf}
use Rattle.llrp_json_read.proofs.PrintedMessages.{printed_line_says}

-- a text that ends so, and whose front is such a line
pub ended_line : (text suffix front line : List ℕ) (same : Bool) → suffix ≡ 10 ∷ [] → pointwise nat_eq (drop (length text - length suffix) text) suffix ≡ true → front ≡ take (length text - length suffix) text
    → same ≡ pointwise nat_eq front line → same ≡ true → text ≡ line ++ 10 ∷ []
ended_line text suffix front line same lf ends is tested holds =
    let k = length text - length suffix in
    let parts : text ≡ front ++ suffix = sym (take-append-drop k text) ∙ ap (λ (x : List ℕ). take k text ++ x) (same_text _ _ (sym ends)) ∙ ap (λ (x : List ℕ). x ++ suffix) (sym is) in
    let alike : front ≡ line = same_text front line (sym holds ∙ tested) in
    parts ∙ ap (λ (x : List ℕ). x ++ suffix) alike ∙ ap (λ (x : List ℕ). line ++ x) lf

-- all octets were taken as one frame, and a printer received its message
pub takes_frame : (begins stands : List ℕ → List Begun → Type 0) (ends : List ℕ → MessageTree → List ℕ → Type 0) (p : KindSet) (limit within : ℕ) (frame : List ℕ) (new : Frames) (used : ℕ) (outcome : Option Outcome)
    → set_of new ≡ p → within ≡ limit → used ≡ length frame → outcome ≡ Some Whole → TakesOn (begins []) (stands []) (ends []) (λ now. stands now []) within [] frame new used outcome
    → (m : MessageTree) × FrameIn p m frame limit × (now : List ℕ) × ends [] m now × stands now []
takes_frame begins stands ends p limit within frame new used outcome set bound all whole takes =
    let t = subst (λ (o : Option Outcome). TakesOn (begins []) (stands []) (ends []) (λ now. stands now []) within [] frame new used o) whole takes in
    let one = subst (λ (q : KindSet). GivesIn q (stands []) (ends []) (λ now. stands now []) within (take used frame) Whole) set t.2 in
    let here = subst (λ (n : ℕ). GivesIn p (stands []) (ends []) (λ now. stands now []) n (take used frame) Whole) bound one in
    let same : take used frame ≡ frame = take_all used frame (omega (arith, all)) in
    subst (λ (f : List ℕ). GivesIn p (stands []) (ends []) (λ now. stands now []) limit f Whole) same here

-- and the line that it printed is this one
pub says_line : (p : KindSet) (limit : ℕ) (m : MessageTree) (frame line text now : List ℕ) → FrameIn p m frame limit → IsMessageJson m text → now ≡ text ++ 10 ∷ [] → now ≡ line ++ 10 ∷ [] → IsLineOf p limit m frame line
says_line p limit m frame line text now one is printed same =
    let e : text ≡ line = append_cancel_right text line (10 ∷ []) (sym printed ∙ same) in
    (subst (λ (t : List ℕ). SaysLine p t m) e (printed_line_says p m text one.frame.lawful one.own is), one.frame)
