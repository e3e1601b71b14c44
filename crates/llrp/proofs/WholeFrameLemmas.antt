-- The whole frames at the front of octets.
use Rattle.std.proofs.Common.{◌≡◌, ◌∙◌, ℕ, ◌≤◌, List, [], ◌∷◌, ◌++◌, length, arith, refl, sym, ap, append_assoc}
use Rattle.std.specs.List.{AllByRecursion}
use Rattle.llrp_stream.specs.Cuts.{IsFrame, joined, length_field}
use Rattle.llrp_stream.specs.Calls.Lengths.{IsLength}
use Rattle.llrp_stream.proofs.FrontLemmas.{length_field-append}
use Rattle.llrp_stream.proofs.RunLemmas.{each_push, joined_push}

-- as many octets as the front says are a frame
pub front_frame : (octets frame after : List ℕ) (count : ℕ) → IsLength octets count → octets ≡ frame ++ after → length frame ≡ count → IsFrame frame
front_frame octets frame after count is parts long =
    record { header = omega (arith, is.ten, long); whole = sym (length_field-append frame after (omega (arith, is.ten, long))) ∙ sym (ap length_field parts) ∙ sym is.octets_are ∙ sym long }

-- the frames of a loop so far, and what is left
pub record Passed (limit : ℕ) (octets rest : List ℕ) : Type 0 where
  pub frames : List (List ℕ)
  pub parts : octets ≡ joined frames ++ rest
  pub each : AllByRecursion IsFrame frames
  pub short : AllByRecursion (λ frame. length frame ≤ limit) frames

pub none_passed : (limit : ℕ) (octets : List ℕ) → Passed limit octets octets
none_passed limit octets = record { frames = []; parts = refl; each = tt; short = tt }

pub one_passed : (limit : ℕ) (octets rest frame after : List ℕ) → Passed limit octets rest → IsFrame frame → length frame ≤ limit → rest ≡ frame ++ after → Passed limit octets after
one_passed limit octets rest frame after p is short parts =
    record {
      frames = p.frames ++ (frame ∷ []);
      parts = p.parts ∙ ap (λ (x : List ℕ). joined p.frames ++ x) parts ∙ sym (append_assoc (joined p.frames) frame after) ∙ ap (λ (x : List ℕ). x ++ after) (sym (joined_push p.frames frame));
      each = each_push IsFrame p.frames frame p.each is;
      short = each_push (λ (f : List ℕ). length f ≤ limit) p.frames frame p.short short;
    }
