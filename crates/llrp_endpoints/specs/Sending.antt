-- The frames of messages, one after another.
use Rattle.std.specs.Prelude.{◌≡◌, ℕ, List, ◌++◌}
use Rattle.std.specs.List.{AllZip}
use Rattle.llrp_tree.specs.declared.TheConstants.{MAX_LIMIT}
use Rattle.llrp_tree.specs.Tree.{MessageTree}
use Rattle.llrp_tree.specs.Frame.{Frame}
use Rattle.llrp_stream.specs.Cuts.{joined}

-- The bytes are the frames of the messages in order (LLRP 1.1, section 17.1).
pub record AreFrames (messages : List MessageTree) (bytes : List ℕ) : Type 0 where
  pub frames : List (List ℕ)
  pub each : AllZip (λ m frame. Frame m frame MAX_LIMIT) messages frames
  pub whole : bytes ≡ joined frames

-- new is old with the frames of these messages at its end
pub record Adds (messages : List MessageTree) (old new : List ℕ) : Type 0 where
  pub text : List ℕ
  pub frames : AreFrames messages text
  pub whole : new ≡ old ++ text
