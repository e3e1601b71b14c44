-- Rows of messages, and what they spell.
use Rattle.std.proofs.Common.{ℕ, List, [], ◌∷◌, ◌++◌, refl, sym}
use Rattle.std.proofs.lemmas.List.{append-nil}
use Rattle.std.proofs.lemmas.List.Concat.{flat_map-append}
use Rattle.llrp_schema.specs.declared.kinds.KindSet.{KindSet}
use Rattle.llrp_tree.specs.Tree.{MessageTree}
use Rattle.llrp_tree.specs.Frame.{Frame}
use Rattle.llrp_stream.specs.Items.{FrameIn}
use Rattle.llrp_listing.specs.Encoding.{AreSpelled}
use Rattle.llrp_listing.specs.Private.Encoder.{AreFramed}
use Rattle.llrp_listing.proofs.Zips.{zip_append}

pub spells_nothing : {p : KindSet} (limit : ℕ) → AreSpelled p limit [] []
spells_nothing limit = record { frames = []; each = tt; bytes_are = refl }

pub spells_more : {p : KindSet} (limit : ℕ) (ms ns : List MessageTree) (bs cs : List ℕ) → AreSpelled p limit ms bs → AreSpelled p limit ns cs → AreSpelled p limit (ms ++ ns) (bs ++ cs)
spells_more {p} limit ms ns bs cs a b = record {
  frames = a.frames ++ b.frames;
  each = zip_append (λ m frame. FrameIn p m frame limit) ms ns a.frames b.frames a.each b.each;
  bytes_are = rw (a.bytes_are, b.bytes_are) (sym (flat_map-append (λ (frame : List ℕ). frame) a.frames b.frames));
}

pub frames_nothing : (limit : ℕ) → AreFramed limit [] []
frames_nothing limit = record { frames = []; each = tt; bytes_are = refl }

-- one frame is that of one message
pub frames_one : (limit : ℕ) (m : MessageTree) (frame : List ℕ) → Frame m frame limit → AreFramed limit (m ∷ []) frame
frames_one limit m frame f = record { frames = frame ∷ []; each = (f, tt); bytes_are = sym (append-nil frame) }
