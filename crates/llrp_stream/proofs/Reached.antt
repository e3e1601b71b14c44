-- A front of a frame, and each frame that begins with it.
use Rattle.std.proofs.Common.{◌≡◌, ℕ, ◌+◌, ◌-◌, ◌*◌, ◌≤◌, Bool, List, ◌++◌, length, take, drop, sym, ap, subst, ◌∙◌, arith, length-append}
use Rattle.std.proofs.lemmas.List.{take-append-le, drop-append-le, drop-drop, length-replicate}
use Rattle.std.proofs.Math.ListN.{replicate}
use Rattle.tag_bits.specs.Digits.{digits_of_bytes}
use Rattle.tag_bits.proofs.ByteLemmas.{length-bytes, bytes-append, drop-bytes}
use Rattle.llrp_tree.specs.OpenTree.{Begun, root_of, root_set}
use Rattle.llrp_tree.specs.Calls.Standing.{IsAt}
use Rattle.llrp_tree.specs.Private.Standing.{Tells}
use Rattle.llrp_tree.specs.Spelling.{Head}
use Rattle.llrp_tree.specs.declared.fault.FrameErr.{FrameErr}
use Rattle.llrp_schema.specs.declared.kinds.KindSet.{KindSet}
use Rattle.llrp_stream.specs.Calls.Front.{Reaches}

pub stands_in : {p : KindSet} (front more : List ℕ) (n : ℕ) (t : List Begun) (at : ℕ) → Reaches p front n t at → length (front ++ more) ≡ n → IsAt (digits_of_bytes (front ++ more)) t at
stands_in front more n t at r e =
    let long : length (digits_of_bytes front) ≡ 8 * length front = length-bytes front in
    let all : length (digits_of_bytes (front ++ more)) ≡ 8 * length (front ++ more) = length-bytes (front ++ more) in
    let lf = length-append front more in
    record {
      is_open = r.is_open;
      covered = r.covered ∙ sym (ap (λ (x : List Bool). take at x) (bytes-append front more) ∙ take-append-le at (digits_of_bytes front) (digits_of_bytes more) (omega (arith, r.within)));
      within = omega (arith, r.within);
      ends = r.ends ∙ omega arith;
    }

-- a fault of a frame of this set of kinds
pub root_tells : {p : KindSet} (h : Head) (outer : List Begun) (ds : List Bool) (e : FrameErr) → root_of h outer ≡ p → Tells (root_of h outer) ds e → Tells p ds e
root_tells h outer ds e own t = subst (λ (q : KindSet). Tells q ds e) own t

pub reaches_in : {p : KindSet} (front : List ℕ) (n : ℕ) (t : List Begun) (at : ℕ) → length front ≤ n → at ≤ 8 * length front → root_set t ≡ p → ((more : List ℕ) → length (front ++ more) ≡ n → IsAt (digits_of_bytes (front ++ more)) t at) → Reaches p front n t at
reaches_in front n t at le within own f =
    let more : List ℕ = replicate (n - length front) 0 in
    let e : length (front ++ more) ≡ n = length-append front more ∙ ap (λ (k : ℕ). length front + k) (length-replicate (n - length front) 0) ∙ omega arith in
    let st = f more e in
    let long : length (digits_of_bytes front) ≡ 8 * length front = length-bytes front in
    let all : length (digits_of_bytes (front ++ more)) ≡ 8 * length (front ++ more) = length-bytes (front ++ more) in
    record {
      is_open = st.is_open;
      covered = st.covered ∙ (ap (λ (x : List Bool). take at x) (bytes-append front more) ∙ take-append-le at (digits_of_bytes front) (digits_of_bytes more) (omega arith));
      within = within;
      ends = st.ends ∙ all ∙ ap (λ (k : ℕ). 8 * k) e;
      fits = le;
      root = own;
    }

-- what follows a place
pub seen : (front more octets : List ℕ) (a bit : ℕ) → a ≤ length front → drop a front ≡ octets → drop (8 * a + bit) (digits_of_bytes (front ++ more)) ≡ drop bit (digits_of_bytes octets ++ digits_of_bytes more)
seen front more octets a bit le d =
    sym (drop-drop bit (8 * a) (digits_of_bytes (front ++ more)) ∙ ap (λ (k : ℕ). drop k (digits_of_bytes (front ++ more))) (omega arith))
    ∙ ap (λ (x : List Bool). drop bit x) (drop-bytes a (front ++ more) (let l = length-append front more in omega arith) ∙ ap (λ (x : List ℕ). digits_of_bytes x) (drop-append-le a front more le ∙ ap (λ (x : List ℕ). x ++ more) d) ∙ bytes-append octets more)
