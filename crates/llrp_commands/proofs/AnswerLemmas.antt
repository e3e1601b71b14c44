-- What commands answer.
use Rattle.std.proofs.Common.{◌≡◌, ℕ, ◌+◌, List, ◌∷◌, ◌++◌, ◌<◌, length, take, drop, get_or, append_assoc, append-nil, Err, Ok, [], sym, ap, ◌∙◌, inl, inr}
use Rattle.std.specs.Prelude.{Result}
use Rattle.std.specs.List.{flat_map}
use Rattle.std.proofs.lemmas.List.{drop_more, take-append-drop}
use Rattle.std.proofs.lemmas.List.Concat.{flat_map-append}
use Rattle.llrp_schema.specs.declared.kinds.KindSet.{KindSet}
use Rattle.llrp_listing.specs.declared.outcome.ToolErr.{ToolErr}
use Rattle.llrp_listing.specs.declared.outcome.ToolErr.TheVariants.{Listing, Script, Hex, Read, Write, Bound, Memory, Broken, Peer, Strange, Early}
use Rattle.llrp_commands.specs.Calls.Command.{NotEncoded}
use Rattle.llrp_commands.specs.Private.Command.{memory_error}
use Rattle.llrp_listing.specs.Calls.Copying.{Writes}
use Rattle.llrp_stream.specs.Device.{SourceLog, SinkLog, Wrote}
use Rattle.llrp_listing.specs.Encoding.{EncodeStoppedIn}
use Rattle.llrp_stream.proofs.WritingLemmas.{wrote_more, wrote_then_failed}

-- a write stopped in a part of a text
writes_stop : (old mid new : SinkLog) (done part rest text : List ℕ) (e : ToolErr) → Wrote old mid done → text ≡ done ++ (part ++ rest) → Writes part mid new (Err e) → Writes text old new (Err e)
writes_stop old mid new done part rest text Write so is stop =
    let whole : text ≡ (done ++ stop.0) ++ (stop.1.0 ++ rest) =
    is ∙ ap (λ (x : List ℕ). done ++ (x ++ rest)) stop.1.1 ∙ ap (λ (x : List ℕ). done ++ x) (append_assoc stop.0 stop.1.0 rest) ∙ sym (append_assoc done stop.0 (stop.1.0 ++ rest)) in
    (done ++ stop.0, (stop.1.0 ++ rest, whole), wrote_then_failed old mid new done stop.0 so stop.2)
writes_stop old mid new done part rest text Read so is stop = absurd stop.2
writes_stop old mid new done part rest text Bound so is stop = absurd stop.2
writes_stop old mid new done part rest text Memory so is stop = absurd stop.2
writes_stop old mid new done part rest text (Script at) so is stop = absurd stop.2
writes_stop old mid new done part rest text Hex so is stop = absurd stop.2
writes_stop old mid new done part rest text Broken so is stop = absurd stop.2
writes_stop old mid new done part rest text Early so is stop = absurd stop.2
writes_stop old mid new done part rest text (Peer status) so is stop = absurd stop.2
writes_stop old mid new done part rest text Strange so is stop = absurd stop.2
writes_stop old mid new done part rest text (Listing line reason) so is stop = absurd stop.2

-- a write stopped in the front of a text
pub writes_front : (old new : SinkLog) (front rest : List ℕ) (e : ToolErr) → Writes front old new (Err e) → Writes (front ++ rest) old new (Err e)
writes_front old new front rest e w = (w.0, (w.1.0 ++ rest, ap (λ (x : List ℕ). x ++ rest) w.1.1 ∙ append_assoc w.0 w.1.0 rest), w.2)

-- what is written after the front of a text was
pub writes_after : (old mid new : SinkLog) (front rest : List ℕ) (r : Result (Unit {0}) ToolErr) → Wrote old mid front → Writes rest mid new r → Writes (front ++ rest) old new r
writes_after old mid new front rest (Ok u) so w = wrote_more old mid new front rest so w
writes_after old mid new front rest (Err e) so w = writes_stop old mid new front rest [] (front ++ rest) e so (ap (λ (x : List ℕ). front ++ x) (sym (append-nil rest))) w

pub parts_stop : {X : Type 0} (f : X → List ℕ) (parts : List X) (i : ℕ) (d : X) (old mid new : SinkLog) (e : ToolErr) → i < length parts → Wrote old mid (flat_map f (take i parts)) → Writes (f (get_or parts i d)) mid new (Err e) → Writes (flat_map f parts) old new (Err e)
parts_stop f parts i d old mid new e lt so stop =
    let last = get_or parts i d in
    let rest = drop (i + 1) parts in
    let all : parts ≡ take i parts ++ (last ∷ rest) = sym (take-append-drop i parts) ∙ ap (λ x. take i parts ++ x) (drop_more parts i d lt) in
    writes_stop old mid new (flat_map f (take i parts)) (f last) (flat_map f rest) (flat_map f parts) e so (ap (flat_map f) all ∙ flat_map-append f (take i parts) (last ∷ rest)) stop

-- encode stopped over memory
pub not_encoded : (p : KindSet) (limit : ℕ) (r0 r1 : SourceLog) (m0 m1 : SinkLog) (error : ToolErr) → EncodeStoppedIn p limit r0 r1 m0 m1 error → NotEncoded p limit r0 r1 (memory_error error)
not_encoded p limit r0 r1 m0 m1 (Listing line reason) s = (s.0, s.2)
not_encoded p limit r0 r1 m0 m1 Read s = (s.0, s.1, s.3)
not_encoded p limit r0 r1 m0 m1 Bound s = (s.0, s.2)
not_encoded p limit r0 r1 m0 m1 Memory s = (s.0, s.2)
not_encoded p limit r0 r1 m0 m1 Write s = elim s.2 [ inl begun ↦ (begun.0, begun.1) | inr all ↦ (all.0, inr all.2) ]
not_encoded p limit r0 r1 m0 m1 (Script at) s = s
not_encoded p limit r0 r1 m0 m1 Hex s = s
not_encoded p limit r0 r1 m0 m1 Broken s = s
not_encoded p limit r0 r1 m0 m1 Early s = s
not_encoded p limit r0 r1 m0 m1 (Peer status) s = s
not_encoded p limit r0 r1 m0 m1 Strange s = s
