-- Hexadecimal digits of either case, and the lines of words.
use Rattle.std.proofs.Common.{◌≡◌, ℕ, suc, ◌+◌, ◌/◌, ◌%◌, ◌^◌, ◌<◌, ◌≤◌, true, false, List, [], ◌∷◌, length, refl, sym, ap, ◌∙◌, arith, inl, inr, Some, Result, Ok, Err}
use Rattle.std.specs.Prelude.{◌⊎◌, nat_lt, map, slice_index}
use Rattle.std.specs.Char.{to_ascii_uppercase}
use Rattle.std.specs.Result.{result_ok}
use Rattle.std.proofs.lemmas.List.{length-map}
use Rattle.std.proofs.lemmas.Bool.{cases_lt, lt-ltb, le-ltb}
use Rattle.std.proofs.lemmas.Bool.Decides.{nat_tests}
use Rattle.hex.specs.Hex.{encode_with, encode_upper, upper_digits, IsBytes}
use Rattle.hex.specs.Hex.{decode_sized}
use Rattle.hex.specs.declared.error.FromHexError.{FromHexError}
use Rattle.hex.proofs.HexLemmas.{decode_of-ok, decode_sized-ok, decode_sized-twice}
use Rattle.tag_bits.specs.Digits.{digits_of_bytes, word_digits}
use Rattle.tag_uri.proofs.HexadecimalLemmas.{glyph, length-hexadecimal}
use Rattle.llrp_stream.specs.Device.{SinkLog}
use Rattle.llrp_listing.specs.declared.outcome.ToolErr.{ToolErr}
use Rattle.llrp_listing.specs.declared.outcome.ToolErr.TheVariants.{Listing, Script, Hex, Read, Write, Bound, Broken, Memory, Peer, Strange, Early}
use Rattle.llrp_listing.specs.declared.outcome.Verdict.{Verdict}
use Rattle.llrp_listing.specs.Calls.Copying.{Writes}
use Rattle.llrp_listing.specs.Calls.EpcLines.{AreDigitsOf, Prints, PrintsEpc}
use Rattle.llrp_listing.specs.Calls.Hexadecimal.{IsHexDigit, SpellBytes}
use Rattle.llrp_listing.proofs.HexadecimalLemmas.{ok_if_spelled, spelled_if_ok}
use Rattle.llrp_listing.proofs.WordDigits.{twelve, word_text, bytes_spelled}

-- a digit in upper case
digit_raised : (c n : ℕ) → IsHexDigit c n → to_ascii_uppercase c ≡ slice_index upper_digits n
digit_raised c n (inl p) =
    let ten : nat_lt n 10 ≡ true = lt-ltb n 10 p.0 in
    let raised : to_ascii_uppercase c ≡ 48 + n = grind (arith, nat_tests) in
    raised ∙ sym (glyph n (omega arith) ∙ rw ten refl)
digit_raised c n (inr (ten, below, inl e)) =
    let test : nat_lt n 10 ≡ false = le-ltb n 10 ten in
    let raised : to_ascii_uppercase c ≡ 55 + n = grind (arith, nat_tests) in
    raised ∙ sym (glyph n below ∙ rw test refl)
digit_raised c n (inr (ten, below, inr e)) =
    let test : nat_lt n 10 ≡ false = le-ltb n 10 ten in
    let raised : to_ascii_uppercase c ≡ 55 + n = grind (arith, nat_tests) in
    raised ∙ sym (glyph n below ∙ rw test refl)

-- and what is a digit in upper case is one
digit_lowered : (c n : ℕ) → n < 16 → to_ascii_uppercase c ≡ slice_index upper_digits n → IsHexDigit c n
digit_lowered c n below e =
    elim (cases_lt n 10) [
      | inl few ↦
          let test : nat_lt n 10 ≡ true = lt-ltb n 10 few in
          let raised : to_ascii_uppercase c ≡ 48 + n = e ∙ glyph n below ∙ rw test refl in
          let same : c ≡ 48 + n = grind (arith, nat_tests) in
          inl (few, same)
      | inr ten ↦
          let test : nat_lt n 10 ≡ false = le-ltb n 10 ten in
          let raised : to_ascii_uppercase c ≡ 55 + n = e ∙ glyph n below ∙ rw test refl in
          inr (ten, below, either c n ten below raised)
    ]
  where
    either : (c n : ℕ) → 10 ≤ n → n < 16 → to_ascii_uppercase c ≡ 55 + n → (c ≡ 55 + n) ⊎ (c ≡ 87 + n)
    either c n ten below raised =
        elim (cases_lt c 97) [
          | inl low ↦ let same : c ≡ 55 + n = grind (arith, nat_tests) in inl same
          | inr high ↦ let same : c ≡ 87 + n = grind (arith, nat_tests) in inr same
        ]

-- digits that spell bytes are the bytes' upper-case digits once they are raised
pub spelled_raised : (s bytes : List ℕ) → SpellBytes s bytes → map to_ascii_uppercase s ≡ encode_upper bytes
unfolding encode_with
spelled_raised [] [] h = refl
spelled_raised [] (b ∷ bytes) h = absurd h
spelled_raised (a ∷ []) bytes h = absurd h
spelled_raised (a ∷ (b ∷ rest)) [] h = absurd h
spelled_raised (a ∷ (b ∷ rest)) (byte ∷ bytes) (high, low, p, q, sum, more) =
    let small : low < 16 = digit_small b low q in
    let first : byte / 16 ≡ high = omega arith in
    let second : byte % 16 ≡ low = omega arith in
    rw (first, second, digit_raised a high p, digit_raised b low q, spelled_raised rest bytes more) refl
  where
    digit_small : (c n : ℕ) → IsHexDigit c n → n < 16
    digit_small c n (inl p) = omega arith
    digit_small c n (inr p) = p.1

-- and the other way round
pub raised_spelled : (s bytes : List ℕ) → IsBytes bytes → map to_ascii_uppercase s ≡ encode_upper bytes → SpellBytes s bytes
unfolding encode_with
raised_spelled [] [] h e = tt
raised_spelled [] (b ∷ bytes) h e = cc
raised_spelled (a ∷ []) [] h e = cc
raised_spelled (a ∷ []) (b ∷ bytes) h e = cc
raised_spelled (a ∷ (b ∷ rest)) [] h e = cc
raised_spelled (a ∷ (b ∷ rest)) (byte ∷ bytes) h e =
    let small : byte < 256 = h 0 in
    let first : to_ascii_uppercase a ≡ slice_index upper_digits (byte / 16) = cc in
    let second : to_ascii_uppercase b ≡ slice_index upper_digits (byte % 16) = cc in
    let others : map to_ascii_uppercase rest ≡ encode_upper bytes = cc in (
      byte / 16,
      byte % 16,
      digit_lowered a (byte / 16) (omega arith) first,
      digit_lowered b (byte % 16) (omega arith) second,
      omega arith,
      raised_spelled rest bytes (λ i. h (suc i)) others,
    )

-- a word's digits decode
pub digits_decode : (text : List ℕ) (word : ℕ) → AreDigitsOf text word → (bytes : List ℕ) × (decode_sized text 12 ≡ Ok bytes)
digits_decode text word are =
    let b = bytes_spelled word in
    let count : length text ≡ 24 = sym (length-map text to_ascii_uppercase) ∙ ap length are.raised ∙ length-hexadecimal 24 word in
    (b.0, decode_sized-twice text 12 count ∙ ok_if_spelled text b.0 (raised_spelled text b.0 b.1 (are.raised ∙ b.2)))

pub some_ok : (r : Result (List ℕ) FromHexError) (bytes : List ℕ) → Some bytes ≡ result_ok r → r ≡ Ok bytes
some_ok (Ok b) bytes e = cc
some_ok (Err x) bytes e = cc

-- what decodes to a word's bytes is its digits
pub decoded_digits : (text bytes : List ℕ) (word : ℕ) → word < 2 ^ 96 → decode_sized text 12 ≡ Ok bytes → word_digits word ≡ digits_of_bytes bytes → AreDigitsOf text word
decoded_digits text bytes word below e d =
    let count = decode_sized-ok text 12 bytes e in
    let decoded = sym (decode_sized-twice text 12 count) ∙ e in
    let spell = spelled_if_ok text bytes decoded in
    record {
      below = below;
      raised = spelled_raised text bytes spell ∙ sym (word_text bytes word below (twelve bytes word d) (decode_of-ok text bytes decoded).3 (sym d));
    }

-- where writing what is printed of a text failed, a front of it was written
pub front_written : (text lines : List ℕ) (verdict : Verdict) (w0 w1 : SinkLog) (e : ToolErr) → Prints text verdict lines → Writes lines w0 w1 (Err e) → PrintsEpc text w0 w1 (Err e)
front_written text lines verdict w0 w1 Write are stopped = (verdict, lines, stopped.0, are, stopped.1, stopped.2)
front_written text lines verdict w0 w1 Memory are stopped = absurd stopped.2
front_written text lines verdict w0 w1 Read are stopped = absurd stopped.2
front_written text lines verdict w0 w1 Bound are stopped = absurd stopped.2
front_written text lines verdict w0 w1 Hex are stopped = absurd stopped.2
front_written text lines verdict w0 w1 (Listing at reason) are stopped = absurd stopped.2
front_written text lines verdict w0 w1 (Script at) are stopped = absurd stopped.2
front_written text lines verdict w0 w1 Broken are stopped = absurd stopped.2
front_written text lines verdict w0 w1 Early are stopped = absurd stopped.2
front_written text lines verdict w0 w1 (Peer status) are stopped = absurd stopped.2
front_written text lines verdict w0 w1 Strange are stopped = absurd stopped.2
