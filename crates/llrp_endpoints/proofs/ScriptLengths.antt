-- How long the lines of a script's entries are.
use Rattle.std.proofs.Common.{◌≡◌, ℕ, suc, ◌+◌, ◌-◌, ◌^◌, ◌<◌, ◌≤◌, Bool, true, false, List, [], ◌∷◌, ◌++◌, cond, length, Option, Some, ap, ◌∙◌, arith, decimal, ℤ, pos, negsuc, inl, inr, length-append}
use Rattle.std.specs.Prelude.{FitsSigned, option_map, unwrap_or}
use Rattle.std.specs.Fmt.{signed_decimal}
use Rattle.std.specs.Int.{w8}
use Rattle.std.specs.List.{join_with_byte}
use Rattle.std.proofs.lemmas.Fmt.{length-decimal-le, length-decimal-le_wide}
use Rattle.tag_epc.specs.declared.epc.Parts.{Parts}
use Rattle.tag_epc.specs.declared.epc.Parts.TheVariants.{Partitioned, General}
use Rattle.tag_epc.specs.declared.scheme.Row.{Row}
use Rattle.tag_epc.specs.Layout.{Layout, layout_of, scheme_name}
use Rattle.tag_epc.specs.LawfulWord.{IsLawfulEpc, kind_of_parts}
use Rattle.tag_uri.specs.Decimal.{padded, plain}
use Rattle.tag_uri.specs.TagText.{IsTextOf, tag_uri, raw_uri, components_of, reference_digits}
use Rattle.tag_uri.proofs.DecimalLemmas.{length-padded}
use Rattle.tag_uri.proofs.HexadecimalLemmas.{length-hexadecimal}
use Rattle.tag_uri.proofs.LawfulTexts.{last_small}
use Rattle.tag_uri.proofs.PrintLemmas.{at_row, row_facts, general_room, name_short}
use Rattle.tag_uri.proofs.ReadLemmas.{bool_cases}
use Rattle.tag_uri.proofs.RowDigits.{reference_digits-at}
use Rattle.tag_uri.proofs.TextLaws.{sound_of}
use Rattle.llrp_session.specs.declared.types.Sighting.{Sighting}
use Rattle.llrp_endpoints.specs.declared.script.Action.{Action}
use Rattle.llrp_endpoints.specs.declared.script.Action.TheVariants.{Seen, Tick}
use Rattle.llrp_endpoints.specs.declared.script.Entry.{Entry}
use Rattle.llrp_endpoints.specs.declared.script.TheConstants.{LONGEST_ENTRY}
use Rattle.llrp_endpoints.specs.Calls.Script.{IsSightingLine, IsActionLine, IsEntryLine, IsSightingInRange, IsActionInRange, IsInRange}

-- ---- the text of a word

joined_length : (a : List ℕ) (b : List ℕ) (cs : List (List ℕ)) → length (join_with_byte 46 (a ∷ b ∷ cs)) ≡ length a + (1 + length (join_with_byte 46 (b ∷ cs)))
joined_length a b cs = omega (arith, length-append a (46 ∷ join_with_byte 46 (b ∷ cs)))

-- the components of an EPC with a company prefix, of which the last may be missing
four_short : (f k c m r last : ℕ) (b : Bool) → k + m + length (plain last) ≤ 25 → length (join_with_byte 46 (padded 1 f ∷ padded k c ∷ padded m r ∷ cond b [] (plain last ∷ []))) ≤ 30
four_short f k c m r last true room = omega (arith, room, length-padded 1 f, length-padded k c, length-padded m r, joined_length (padded 1 f) (padded k c) (padded m r ∷ []), joined_length (padded k c) (padded m r) [])
four_short f k c m r last false room =
    omega (arith, room, length-padded 1 f, length-padded k c, length-padded m r, joined_length (padded 1 f) (padded k c) (padded m r ∷ plain last ∷ []), joined_length (padded k c) (padded m r) (plain last ∷ []), joined_length (padded m r) (plain last) [])

components_short : (epc : Parts) → IsLawfulEpc epc → length (join_with_byte 46 (components_of epc)) ≤ 30
components_short (Partitioned kind f k c r last) h =
    let l : Layout = h.has.layout in
    let known : layout_of kind ≡ Some l = h.has.scheme in
    let sound = sound_of kind l known in
    let a = at_row kind l f k c r last known sound h in
    let below : last < 2 ^ 64 = elim (bool_cases l.zero_tail) [ inl e ↦ let z = a.last_fits.zero e in omega (arith, z) | inr e ↦ last_small l last sound e a.last_fits ] in
    let facts = row_facts kind l f k c r last a.row known sound h below a.placed in
    let digits : unwrap_or (reference_digits l.rows k) 0 ≡ a.row.reference_digits =
    ap (λ (o : Option ℕ). unwrap_or o 0) (reference_digits-at l k (12 - k) sound (omega (arith, a.short)))
    ∙ ap (λ (o : Option Row). unwrap_or (option_map (λ x. x.reference_digits) o) 0) a.placed in
    rw known (four_short f k c (unwrap_or (reference_digits l.rows k) 0) r last l.zero_tail (omega (arith, digits, facts.room)))
components_short (General m o s) h =
    let g = general_room m o s h in
    omega (arith, g.0, g.1, g.2, joined_length (plain m) (plain o) (plain s ∷ []), joined_length (plain o) (plain s) [])

uri_short : (epc : Parts) → IsLawfulEpc epc → length (tag_uri epc) ≤ 51
unfolding tag_uri
uri_short epc h = omega (arith, components_short epc h, name_short (kind_of_parts epc), length-append (scheme_name (kind_of_parts epc)) (58 ∷ join_with_byte 46 (components_of epc)))

raw_short : (w : ℕ) → length (raw_uri w) ≤ 51
unfolding raw_uri
raw_short w = omega (arith, length-hexadecimal 24 w)

text_short : (w : ℕ) (text : List ℕ) → IsTextOf w text → length text ≤ 51
text_short w text (inl (epc, has, is)) = omega (arith, ap length is, uri_short epc has.lawful)
text_short w text (inr (none, is)) = omega (arith, ap length is, raw_short w)

-- ---- lines

decimal_short : (n : ℕ) → n < 2 ^ 64 → length (decimal n) ≤ 20
decimal_short n lt = length-decimal-le_wide 20 n (omega arith) (omega (arith, lt)) (omega arith)

signed_short : (z : ℤ) → FitsSigned w8 z → length (signed_decimal z) ≤ 4
signed_short (pos n) f = let t : n < 128 = f.sfits in omega (arith, length-decimal-le 3 n (omega arith) (omega (arith, t)) (omega (arith, t)))
signed_short (negsuc n) f = let t : n < 128 = f.sfits in omega (arith, length-decimal-le 3 (suc n) (omega arith) (omega (arith, t)) (omega (arith, t)))

sighting_short : (s : Sighting) (text : List ℕ) → IsSightingInRange s → IsSightingLine s text → length text ≤ 62
sighting_short s text r h =
    let t = r.antenna in
    omega (arith, ap length h.2, length-decimal-le 5 s.antenna (omega arith) (omega (arith, t)) (omega (arith, t)), signed_short s.rssi r.rssi, text_short s.epc h.0 h.1, length-append (decimal s.antenna) (32 ∷ (signed_decimal s.rssi ++ (32 ∷ h.0))), length-append (signed_decimal s.rssi) (32 ∷ h.0))

action_short : (a : Action) (text : List ℕ) → IsActionInRange a → IsActionLine a text → length text ≤ 67
action_short (Seen s) text r h = omega (arith, ap length h.2, sighting_short s h.0 r h.1)
action_short Tick text r h = omega (arith, ap length h)

-- the line of an entry
pub line_short : (e : Entry) (line : List ℕ) → IsInRange e → IsEntryLine e line → length line ≤ LONGEST_ENTRY
line_short e line r h =
    omega (arith, ap length h.2, decimal_short e.after r.after, decimal_short e.now r.now, action_short e.action h.0 r.action h.1, length-append (decimal e.after) (32 ∷ (decimal e.now ++ (32 ∷ h.0))), length-append (decimal e.now) (32 ∷ h.0))
