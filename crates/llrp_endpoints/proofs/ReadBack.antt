-- The frames of messages that may be sent are read back as these messages.
use Rattle.std.proofs.Common.{ℕ, List, [], ◌∷◌, sym, ◌∙◌, arith}
use Rattle.std.specs.List.{AllZip}
use Rattle.std.proofs.lemmas.List.{append-nil}
use Rattle.llrp_schema.specs.declared.kinds.KindSet.TheVariants.{Profile}
use Rattle.llrp_tree.specs.declared.TheConstants.{MAX_LIMIT}
use Rattle.llrp_tree.specs.Tree.{MessageTree}
use Rattle.llrp_tree.specs.Frame.{Frame}
use Rattle.llrp_tree.proofs.LengthLemmas.{spelled_length}
use Rattle.llrp_stream.specs.Cuts.{joined}
use Rattle.llrp_stream.specs.Items.{ItemsSoFar}
use Rattle.llrp_session.specs.Calls.MessageWorld.{AreSendable}
use Rattle.llrp_listing.specs.Private.Profile.{AreSpellings}
use Rattle.llrp_endpoints.specs.Sending.{AreFrames}
use Rattle.llrp_listing.proofs.PrintsBack.{as_items, are_frames, are_items}

within : (limit : ℕ) (messages : List MessageTree) (frames : List (List ℕ)) → AreSendable limit messages → AllZip (λ m frame. Frame m frame MAX_LIMIT) messages frames → AreSpellings limit messages frames
within limit [] [] s h = tt
within limit [] (f ∷ frames) s h = absurd h
within limit (m ∷ messages) [] s h = absurd h
within limit (m ∷ messages) (f ∷ frames) s h =
    let long = spelled_length m f h.0.spelled in
    let fits = s.0.within in
    (record { frame = record { lawful = h.0.lawful; octets = h.0.octets; spelled = h.0.spelled; short = omega (arith, long, fits) }; own = s.0.own }, within limit messages frames s.1 h.1)

pub frames_read_back : (limit : ℕ) (messages : List MessageTree) (bytes : List ℕ) → AreSendable limit messages → AreFrames messages bytes → ItemsSoFar limit bytes (as_items messages) []
frames_read_back limit messages bytes s p =
    let each = within limit messages p.frames s p.each in
    record { frames = p.frames; whole = p.whole ∙ sym (append-nil (joined p.frames)); each = are_frames Profile limit messages p.frames each; are = are_items Profile limit messages p.frames each }
