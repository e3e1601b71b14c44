-- A string that a line has is read back, and the lexer passes over it.
use Rattle.std.proofs.Common.{◌≡◌, ℕ, zero, suc, ◌<◌, ◌≤◌, Bool, true, false, cond, List, [], ◌∷◌, ◌++◌, Some, inl, inr, ◌⊎◌, refl, sym, ap, ap₂, ◌∙◌, subst, arith, append_assoc}
use Rattle.std.proofs.lemmas.Bool.{cases_eq, cases_lt, ne_eqb, le-ltb}
use lib.Utf8.{encode}
use Rattle.hex.specs.Hex.{encode_with}
use Rattle.json.specs.Text.{content, plain, prepend, code_unit, short_escape}
use Rattle.json.specs.Word.{is_operator, is_space}
use Rattle.json.specs.Token.{string}
use Rattle.json.specs.Lex.{Lexeme, token, string_token, Mode, lex, lex_byte, between, in_string, operator, space, other}
use Rattle.llrp_json.specs.JsonValues.{escaped, inside}
use Rattle.llrp_json.specs.JsonValues as written

-- what both readers make of what stands for x in a string, before any text
record Passes (x : ℕ) : Type 0 where
  read : (r : List ℕ) → content plain (escaped x ++ r) ≡ prepend (x ∷ []) (content plain r)
  lexed : (r : List ℕ) → lex in_string (escaped x ++ r) ≡ lex in_string r

-- P holds below n, counted down from the top
abbrev Each : (ℕ → Type 0) → ℕ → Type 0
Each P zero = Unit {0}
Each P (suc n) = P n × Each P n

each_below : (P : ℕ → Type 0) (n : ℕ) → Each P n → (x : ℕ) → x < n → P x
each_below P zero h x lt = absurd (omega arith)
each_below P (suc n) h x lt = go (each_below P n h.1 x) (cases_eq x n)
  where
    go : (x < n → P x) → (x ≡ n) ⊎ (x ≡ n → ⊥) → P x
    go below (inl e) = subst P (sym e) h.0
    go below (inr ne) = below (omega arith)

controls : Each Passes 32
unfolding encode_with content lex code_unit short_escape encode
controls = (record { read = λ r. refl; lexed = λ r. refl }, (record { read = λ r. refl; lexed = λ r. refl }, (record { read = λ r. refl; lexed = λ r. refl }, (record { read = λ r. refl; lexed = λ r. refl }, (record { read = λ r. refl; lexed = λ r. refl }, (record { read = λ r. refl; lexed = λ r. refl }, (record { read = λ r. refl; lexed = λ r. refl }, (record { read = λ r. refl; lexed = λ r. refl }, (record { read = λ r. refl; lexed = λ r. refl }, (record { read = λ r. refl; lexed = λ r. refl }, (record { read = λ r. refl; lexed = λ r. refl }, (record { read = λ r. refl; lexed = λ r. refl }, (record { read = λ r. refl; lexed = λ r. refl }, (record { read = λ r. refl; lexed = λ r. refl }, (record { read = λ r. refl; lexed = λ r. refl }, (record { read = λ r. refl; lexed = λ r. refl }, (record { read = λ r. refl; lexed = λ r. refl }, (record { read = λ r. refl; lexed = λ r. refl }, (record { read = λ r. refl; lexed = λ r. refl }, (record { read = λ r. refl; lexed = λ r. refl }, (record { read = λ r. refl; lexed = λ r. refl }, (record { read = λ r. refl; lexed = λ r. refl }, (record { read = λ r. refl; lexed = λ r. refl }, (record { read = λ r. refl; lexed = λ r. refl }, (record { read = λ r. refl; lexed = λ r. refl }, (record { read = λ r. refl; lexed = λ r. refl }, (record { read = λ r. refl; lexed = λ r. refl }, (record { read = λ r. refl; lexed = λ r. refl }, (record { read = λ r. refl; lexed = λ r. refl }, (record { read = λ r. refl; lexed = λ r. refl }, (record { read = λ r. refl; lexed = λ r. refl }, (record { read = λ r. refl; lexed = λ r. refl }, tt))))))))))))))))))))))))))))))))

quote_passes : Passes 34
unfolding content lex short_escape
quote_passes = record { read = λ r. refl; lexed = λ r. refl }

backslash_passes : Passes 92
unfolding content lex short_escape
backslash_passes = record { read = λ r. refl; lexed = λ r. refl }

stays_inside : (o s : Bool) (x : ℕ) (r : List ℕ) (k : Mode → List Lexeme) → lex_byte in_string (cond o operator (cond s space other)) x r k ≡ k in_string
stays_inside true s x r k = refl
stays_inside false true x r k = refl
stays_inside false false x r k = refl

pub escaped_plain : (x : ℕ) → (x ≡ 34 → ⊥) → (x ≡ 92 → ⊥) → 32 ≤ x → escaped x ≡ x ∷ []
escaped_plain x q b l = rw (ne_eqb x 34 q, ne_eqb x 92 b, le-ltb x 32 l)

plain_passes : (x : ℕ) → (x ≡ 34 → ⊥) → (x ≡ 92 → ⊥) → 32 ≤ x → Passes x
unfolding content lex
plain_passes x q b l =
    let same = escaped_plain x q b l in
    record {
      read = λ r. rw (same, ne_eqb x 34 q, ne_eqb x 92 b, le-ltb x 32 l);
      lexed = λ r. rw (same, ne_eqb x 34 q, ne_eqb x 92 b) (stays_inside (is_operator x) (is_space x) x r (λ m. lex m r));
    }

passes : (x : ℕ) → Passes x
passes x = go (cases_eq x 34) (cases_eq x 92) (cases_lt x 32)
  where
    go : (x ≡ 34) ⊎ (x ≡ 34 → ⊥) → (x ≡ 92) ⊎ (x ≡ 92 → ⊥) → (x < 32) ⊎ (32 ≤ x) → Passes x
    go (inl e) b c = subst Passes (sym e) quote_passes
    go (inr q) (inl e) c = subst Passes (sym e) backslash_passes
    go (inr q) (inr b) (inl c) = each_below Passes 32 controls x c
    go (inr q) (inr b) (inr l) = plain_passes x q b l

content_inside : (s r : List ℕ) → content plain (inside s ++ 34 ∷ r) ≡ Some s
unfolding content
content_inside [] r = refl
content_inside (x ∷ s) r = ap (content plain) (append_assoc (escaped x) (inside s) (34 ∷ r)) ∙ (passes x).read _ ∙ ap (prepend (x ∷ [])) (content_inside s r)

lex_inside : (s r : List ℕ) → lex in_string (inside s ++ 34 ∷ r) ≡ lex between r
unfolding lex
lex_inside [] r = refl
lex_inside (x ∷ s) r = ap (lex in_string) (append_assoc (escaped x) (inside s) (34 ∷ r)) ∙ (passes x).lexed _ ∙ lex_inside s r

-- a string, before any text
pub lex_string : (s r : List ℕ) → lex between (written.string s ++ r) ≡ token (string s) ∷ lex between r
unfolding lex
lex_string s r =
    ap (λ l. lex between (34 ∷ l)) (append_assoc (inside s) (34 ∷ []) r) ∙ ap₂ (λ o l. token (string_token o) ∷ l) (content_inside s r) (lex_inside s r)
