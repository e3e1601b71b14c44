-- Bytes as the text of a word.
use Rattle.std.proofs.Common.{◌≡◌, ℕ, ◌<◌, ◌≤◌, true, List, [], ◌∷◌, Some, None, Ok, Err, ap, ◌∙◌, arith}
use Rattle.std.specs.Prelude.{Result, MatchResult}
use Rattle.std.specs.Result.{result_ok}
use Rattle.std.specs.Str.{IsUtf8}
use Rattle.std.proofs.lemmas.Bool.{ne_eqb}
use Rattle.std.specs.Borrow.{Bor}
use Rattle.tag_uri.specs.TagText.{IsTextOf}
use Rattle.tag_uri.proofs.TextBytes.{is_visible, visible, text_visible}
use Rattle.llrp_listing.specs.Calls.Splits.{Lacks}
use Rattle.tag_uri.proofs.UriLemmas.{left, right}

-- and neither spaces nor line ends
visible_lacks : (byte : ℕ) (text : List ℕ) → byte < 33 → visible text ≡ true → Lacks byte text
visible_lacks byte [] low h = tt
visible_lacks byte (c ∷ text) low h = (ne_eqb c byte (λ e. apart c (left (is_visible c) _ h) e), visible_lacks byte text low (right (is_visible c) _ h))
  where
    above : (c : ℕ) → is_visible c ≡ true → 33 ≤ c
    above c h = grind arith

    apart : (c : ℕ) → is_visible c ≡ true → c ≡ byte → ⊥
    apart c h e = let t = above c h in omega (arith, t, e)

-- a word's text has neither spaces nor line ends
pub text_lacks : (byte w : ℕ) (text : List ℕ) → byte < 33 → IsTextOf w text → Lacks byte text
text_lacks byte w text low h = visible_lacks byte text low (text_visible w text h)

-- bytes that were not read as text are none
pub no_text : {E : Type 0} (Q : E → Type 0) (r : Result (Bor (List ℕ)) E) (bytes : List ℕ) → None ≡ result_ok r → MatchResult r (λ s. (s.now ≡ bytes) × IsUtf8 bytes) (λ e. ¬ (IsUtf8 bytes) × Q e) → IsUtf8 bytes → ⊥
no_text Q (Ok s) bytes e h u = cc
no_text Q (Err x) bytes e h u = h.0 u

-- text that was read is these bytes
pub that_text : {E : Type 0} (Q : E → Type 0) (r : Result (Bor (List ℕ)) E) (bytes : List ℕ) (s : Bor (List ℕ)) → Some s ≡ result_ok r → MatchResult r (λ s. (s.now ≡ bytes) × IsUtf8 bytes) (λ e. ¬ (IsUtf8 bytes) × Q e) → s.now ≡ bytes
that_text Q (Ok t) bytes s e h = let same : s ≡ t = cc in ap (λ (x : Bor (List ℕ)). x.now) same ∙ h.0
that_text Q (Err x) bytes s e h = cc
