-- The next bytes on a way of messages are messages, and then nothing or a front of one more.
use Rattle.std.proofs.Common.{◌≡◌, ℕ, ◌<◌, ◌⊎◌, inl, inr, List, [], ◌∷◌, ◌++◌, map, take, drop, length, refl, sym, ap, subst, ◌∙◌, arith}
use Rattle.std.specs.List.{AllByRecursion, AllZip}
use Rattle.llrp_schema.specs.declared.kinds.KindSet.TheVariants.{Profile}
use Rattle.llrp_tree.specs.declared.TheConstants.{MAX_LIMIT}
use Rattle.llrp_tree.specs.Tree.{MessageTree}
use Rattle.llrp_tree.specs.Frame.{Frame}
use Rattle.llrp_stream.specs.declared.item.Item.{Item}
use Rattle.llrp_stream.specs.declared.item.Item.TheVariants.{Msg, Bad}
use Rattle.llrp_stream.specs.declared.item.End.TheVariants.{Broken}
use Rattle.llrp_stream.specs.Cuts.{length_field, IsPartial, Breaks, joined}
use Rattle.llrp_stream.specs.Items.{FrameIn, ItemsSoFar}
use Rattle.llrp_stream.proofs.FrontLemmas.{length_field-append}
use Rattle.llrp_stream.proofs.ItemLemmas.{below_or_not}
use Rattle.llrp_stream.proofs.PrefixLemmas.{cut, end_of, ends}
use Rattle.llrp_stream.proofs.Unique.{After, after_front, none_left}
use Rattle.llrp_session.specs.Calls.MessageWorld.{AreSendable}
use Rattle.llrp_endpoints.specs.ByteWorld.{Way}
use Rattle.llrp_endpoints.specs.Sending.{AreFrames}
use Rattle.llrp_endpoints.specs.EndsAgree.{IsMessage, IsFrontOfMessage, NextAreMessages}
use Rattle.llrp_endpoints.proofs.FrameFronts.{within, is_frame}
use Rattle.llrp_endpoints.proofs.ByteRuns.{next_bytes}

not_broken : (front : List ℕ) → end_of front ≡ Broken → ⊥
not_broken [] e = cc
not_broken (b ∷ bytes) e = cc

-- ---- what follows the whole messages

-- a frame is no front that is less than it
frame_is_longer : (m : MessageTree) (frame more front later : List ℕ) → Frame m frame MAX_LIMIT → front ++ later ≡ frame ++ more → IsPartial front → length front < length frame
frame_is_longer m frame more front later f e p = elim (below_or_not (length front) (length frame)) [
  | inl shorter ↦ shorter
  | inr le ↦
      let is = is_frame m frame f in
      let c = cut front later frame more e le in
      let same : length_field front ≡ length frame = ap length_field c.first ∙ length_field-append frame c.middle (omega (arith, is.header)) ∙ is.whole in
      elim p [ inl short ↦ absurd (omega (arith, short, le, is.header)) | inr part ↦ absurd (omega (arith, part.1, same, le)) ]
]

front_is : (limit : ℕ) (rest : List MessageTree) (frames : List (List ℕ)) (front later : List ℕ) → AreSendable limit rest → AllZip (λ m frame. Frame m frame MAX_LIMIT) rest frames
    → front ++ later ≡ joined frames → IsPartial front → (front ≡ []) ⊎ IsFrontOfMessage limit front
front_is limit [] [] [] later s each e p = inl refl
front_is limit [] [] (b ∷ front) later s each e p = absurd (omega (arith, ap length e))
front_is limit [] (f ∷ frames) front later s each e p = absurd each
front_is limit (m ∷ rest) [] front later s each e p = absurd each
front_is limit (m ∷ rest) (f ∷ frames) front later s each e p =
    let lt = frame_is_longer m f (joined frames) front later each.0 e p in
    let c = cut f (joined frames) front later (sym e) (omega (arith, lt)) in
    inr (record { message = m; later = c.middle; frame = subst (λ (x : List ℕ). FrameIn Profile m x limit) c.first (within limit m f (s.0, tt) each.0); unfinished = p })

pub last_sendable : (limit : ℕ) (a b : List MessageTree) → AreSendable limit (a ++ b) → AreSendable limit b
last_sendable limit [] b s = s
last_sendable limit (m ∷ a) b s = last_sendable limit a b s.1

-- ---- however many of their frames are taken

first_are : (items more : List Item) (messages : List MessageTree) → map Msg messages ≡ items ++ more → AllByRecursion IsMessage items
first_are [] more messages e = tt
first_are (i ∷ items) more [] e = absurd (omega (arith, ap length e))
first_are (Msg m ∷ items) more (k ∷ messages) e = let later : map Msg messages ≡ items ++ more = cc in (tt, first_are items more messages later)
first_are (Bad id fault ∷ items) more (k ∷ messages) e = cc

others_are : (limit : ℕ) (bytes : List ℕ) (messages : List MessageTree) (front : List ℕ) → ItemsSoFar limit bytes (map Msg messages) front → IsPartial front
    → (items : List Item) (rest : List ℕ) → ItemsSoFar limit bytes items rest → AllByRecursion IsMessage items × (Breaks rest → ⊥)
others_are limit bytes messages front h p items rest other =
    let after : After limit rest items (map Msg messages) (end_of front) =
    after_front limit other.frames items rest h.frames (map Msg messages) front (end_of front) other.each other.are (sym other.whole ∙ h.whole) (ends front p) h.each h.are in
    (first_are items after.more messages after.are, λ b. not_broken front (none_left limit rest after.more (end_of front) Broken after.next b).1)

-- ---- a way

pub next_are_messages : (limit : ℕ) (messages : List MessageTree) (way : Way) → AreSendable limit messages → AreFrames messages (way.read ++ way.coming) → NextAreMessages limit way
next_are_messages limit messages way s f n =
    let p = next_bytes limit n messages way s f in
    let sendable : AreSendable limit p.rest = last_sendable limit p.first p.rest (subst (AreSendable limit) p.parts s) in
    let bytes : List ℕ = way.read ++ take n way.coming in
    let others = others_are limit bytes p.first p.front p.whole p.unfinished in
    record {
      messages = p.first;
      front = p.front;
      whole = p.whole;
      one_more = front_is limit p.rest p.left.frames p.front (drop n way.coming) sendable p.left.each p.left.whole p.unfinished;
      no_fault = λ items rest other. (others items rest other).0;
      no_break = λ items rest other. (others items rest other).1;
    }
