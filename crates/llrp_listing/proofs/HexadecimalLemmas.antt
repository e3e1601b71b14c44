-- What the decoder of pairs of digits answers, by the digits' values.
use Rattle.std.proofs.Common.{◌≡◌, ℕ, ◌+◌, ◌*◌, ◌%◌, List, [], ◌∷◌, length, Option, Some, None, Result, Ok, Err, refl, sym, ap, ◌∙◌, arith, inl, inr}
use Rattle.std.specs.Result.{result_unwrap_or}
use Rattle.std.specs.Prelude.{filter, not}
use Rattle.std.proofs.lemmas.Bool.Decides.{nat_tests}
use Rattle.hex.specs.Hex.{hex_digit_value, decode_pairs, decode_of, pair_value, value_at, digit_or_error, ◌>>=◌}
use Rattle.hex.specs.declared.error.FromHexError.{FromHexError}
use Rattle.hex.proofs.HexLemmas.{decode_of-ok, decode_of-even}
use Rattle.hex.proofs.Pairs.{cons_byte, decode_pairs-ok_pair}
use Rattle.llrp_listing.specs.Calls.Hexadecimal.{is_space, IsHexDigit, IsHexOf, IsNoHex, SpellBytes}

-- what an `Ok` after a step shows
bind_ok : {A B : Type 0} (r : Result A FromHexError) (f : A → Result B FromHexError) (y : B) → (r >>= f) ≡ Ok y → (x : A) × (r ≡ Ok x) × (f x ≡ Ok y)
bind_ok (Ok x) f y h = (x, refl, h)
bind_ok (Err e) f y h = cc h

-- the value of a digit that was read
digit_read : (c i : ℕ) (o : Option ℕ) (v : ℕ) → digit_or_error c i o ≡ Ok v → o ≡ Some v
digit_read c i (Some w) v h = ap Some (ap (λ (r : Result ℕ FromHexError). result_unwrap_or r 0) h)
digit_read c i None v h = cc h

digit_tells : (c n : ℕ) → hex_digit_value c ≡ Some n → IsHexDigit c n
digit_tells c n h = grind (arith, nat_tests)

digit_told : (c n : ℕ) → IsHexDigit c n → hex_digit_value c ≡ Some n
digit_told c n (inl p) = grind (arith, nat_tests)
digit_told c n (inr (ten, below, inl e)) = grind (arith, nat_tests)
digit_told c n (inr (ten, below, inr e)) = grind (arith, nat_tests)

-- what was decoded is spelled
spelled : (i : ℕ) (s bytes : List ℕ) → decode_pairs i s ≡ Ok bytes → SpellBytes s bytes
unfolding decode_pairs
spelled i [] [] h = tt
spelled i [] (b ∷ bytes) h = cc h
spelled i (a ∷ []) bytes h = cc h
spelled i (a ∷ (b ∷ rest)) [] h =
    let p0 = bind_ok (pair_value a b i) _ [] h in
    let p3 = bind_ok (decode_pairs (i + 2) rest) _ [] p0.2 in
    cc p3.2
spelled i (a ∷ (b ∷ rest)) (byte ∷ bytes) h =
    let p0 = bind_ok (pair_value a b i) _ (byte ∷ bytes) h in
    let p1 = bind_ok (value_at a i) _ p0.0 p0.1 in
    let p2 = bind_ok (value_at b (i + 1)) _ p0.0 p1.2 in
    let p3 = bind_ok (decode_pairs (i + 2) rest) _ (byte ∷ bytes) p0.2 in
    let e : p0.0 ∷ p3.0 ≡ byte ∷ bytes = ap (λ (r : Result (List ℕ) FromHexError). result_unwrap_or r []) p3.2 in
    let first : p0.0 ≡ byte = cc in
    let others : p3.0 ≡ bytes = cc in
    let sum : p1.0 * 16 + p2.0 ≡ p0.0 = ap (λ (r : Result ℕ FromHexError). result_unwrap_or r 0) p2.2 in (
      p1.0,
      p2.0,
      digit_tells a p1.0 (digit_read a i (hex_digit_value a) p1.0 p1.1),
      digit_tells b p2.0 (digit_read b (i + 1) (hex_digit_value b) p2.0 p2.1),
      omega (arith, first, sum),
      spelled (i + 2) rest bytes (p3.1 ∙ ap Ok others),
    )

-- what is spelled is decoded
decoded : (i : ℕ) (s bytes : List ℕ) → SpellBytes s bytes → decode_pairs i s ≡ Ok bytes
unfolding decode_pairs
decoded i [] [] h = refl
decoded i [] (b ∷ bytes) h = absurd h
decoded i (a ∷ []) bytes h = absurd h
decoded i (a ∷ (b ∷ rest)) [] h = absurd h
decoded i (a ∷ (b ∷ rest)) (byte ∷ bytes) (high, low, p, q, sum, more) =
    let x = digit_told a high p in
    let y = digit_told b low q in
    let same : high * 16 + low ≡ byte = omega (arith, sum) in
    let pair : pair_value a b i ≡ Ok byte = rw (x, y) (ap (λ (n : ℕ). Ok n) same) in
    decode_pairs-ok_pair i a b byte rest pair ∙ ap (cons_byte byte) (decoded (i + 2) rest bytes more)

even : (s bytes : List ℕ) → SpellBytes s bytes → length s % 2 ≡ 0
even [] bytes h = refl
even (a ∷ []) bytes h = absurd h
even (a ∷ (b ∷ rest)) [] h = absurd h
even (a ∷ (b ∷ rest)) (byte ∷ bytes) (high, low, p, q, sum, more) = let ih = even rest bytes more in omega arith

-- what was decoded is spelled, and what is spelled is decoded
pub spelled_if_ok : (s bytes : List ℕ) → decode_of s ≡ Ok bytes → SpellBytes s bytes
spelled_if_ok s bytes h = spelled 0 s bytes (sym (decode_of-even s (decode_of-ok s bytes h).0) ∙ h)

pub ok_if_spelled : (s bytes : List ℕ) → SpellBytes s bytes → decode_of s ≡ Ok bytes
ok_if_spelled s bytes h = decode_of-even s (even s bytes h) ∙ decoded 0 s bytes h

none_if_err : (s : List ℕ) (e : FromHexError) → decode_of s ≡ Err e → (bytes : List ℕ) → ¬ SpellBytes s bytes
none_if_err s e h bytes spell = cc (sym h ∙ ok_if_spelled s bytes spell)

-- a text whose digits were decoded
pub is_hex : (text digits bytes : List ℕ) → digits ≡ filter (λ byte. not (is_space byte)) text → decode_of digits ≡ Ok bytes → IsHexOf text bytes
is_hex text digits bytes e h = spelled_if_ok (filter (λ byte. not (is_space byte)) text) bytes (ap decode_of (sym e) ∙ h)

-- a text whose digits were refused
pub is_no_hex : (text digits : List ℕ) (error : FromHexError) → digits ≡ filter (λ byte. not (is_space byte)) text → decode_of digits ≡ Err error → IsNoHex text
is_no_hex text digits error e h = none_if_err (filter (λ byte. not (is_space byte)) text) error (ap decode_of (sym e) ∙ h)
