-- The parts of a tag URI, written from the last to the first.
use Rattle.std.proofs.Common.{◌≡◌, ℕ, ◌+◌, ◌-◌, ◌/◌, ◌%◌, ◌^◌, ◌<◌, ◌≤◌, Bool, true, false, cond, List, [], ◌∷◌, ◌++◌, Option, Some, length, take, drop, refl, sym, ap, ◌∙◌, subst, arith, append_assoc}
use Rattle.std.specs.List.{join_with_byte}
use Rattle.std.specs.Prelude.{◌&&◌}
use Rattle.std.specs.List.{All}
use Rattle.std.specs.Str.{IsUtf8}
use Rattle.std.proofs.lemmas.List.Elements.{All-nil, All-cons}
use Rattle.std.proofs.lemmas.Str.Ascii.{IsAscii-from_all}
use Rattle.std.proofs.lemmas.Str.{IsUtf8-from_ascii}
use Rattle.std.proofs.lemmas.List.{take_at}
use Rattle.tag_epc.specs.declared.kind.Kind.{Kind}
use Rattle.tag_epc.specs.declared.kind.Kind.TheVariants.{Gid}
use Rattle.tag_epc.specs.declared.scheme.Row.{Row}
use Rattle.tag_epc.specs.declared.epc.Parts.{Parts}
use Rattle.tag_epc.specs.declared.epc.Parts.TheVariants.{Partitioned, General}
use Rattle.tag_epc.specs.Layout.{Layout, layout_of, scheme_name, row_at}
use Rattle.tag_epc.specs.Calls.Layout.{is_sound}
use Rattle.tag_uri.specs.Decimal.{padded, plain}
use Rattle.tag_uri.specs.Room.{HasText}
use Rattle.tag_epc.specs.LawfulWord.{IsLawfulEpc}
use Rattle.tag_uri.specs.TagText.{tag_uri, tag_start, partitioned_components, raw_uri, IsTextOf}
use Rattle.tag_uri.proofs.TextBytes.{is_visible, visible, text_visible, uri_visible, raw_visible}
use Rattle.tag_uri.proofs.PrintLemmas.{four_parts, three_parts, name_short, row_facts}

-- the room after six parts and what is in front of them
pub six_parts : (at end p1 p2 p3 p4 p5 p6 : ℕ) (r0 r1 r2 r3 r4 r5 r6 r7 tail reference company start : List ℕ) (filter : ℕ)
    → drop p1 r1 ≡ tail ++ drop end r0 → drop p2 r2 ≡ reference ++ drop p1 r1 → drop p3 r3 ≡ 46 ∷ drop p2 r2
    → drop p4 r4 ≡ company ++ drop p3 r3 → drop p5 r5 ≡ 46 ∷ drop p4 r4 → drop p6 r6 ≡ filter ∷ drop p5 r5
    → take at r6 ≡ take at r0 → r7 ≡ take at r6 ++ (start ++ drop p6 r6)
    → r7 ≡ take at r0 ++ ((start ++ filter ∷ 46 ∷ (company ++ 46 ∷ (reference ++ tail))) ++ drop end r0)
six_parts at end p1 p2 p3 p4 p5 p6 r0 r1 r2 r3 r4 r5 r6 r7 tail reference company start filter e1 e2 e3 e4 e5 e6 kept e =
    rw (e, kept, e6, e5, e4, e3, e2, e1) (simp append_assoc refl)

-- the same after five
pub five_parts : (at end p1 p2 p3 p4 p5 : ℕ) (r0 r1 r2 r3 r4 r5 r6 a b c start : List ℕ)
    → drop p1 r1 ≡ a ++ drop end r0 → drop p2 r2 ≡ 46 ∷ drop p1 r1 → drop p3 r3 ≡ b ++ drop p2 r2
    → drop p4 r4 ≡ 46 ∷ drop p3 r3 → drop p5 r5 ≡ c ++ drop p4 r4
    → take at r5 ≡ take at r0 → r6 ≡ take at r5 ++ (start ++ drop p5 r5)
    → r6 ≡ take at r0 ++ ((start ++ (c ++ 46 ∷ (b ++ 46 ∷ a))) ++ drop end r0)
five_parts at end p1 p2 p3 p4 p5 r0 r1 r2 r3 r4 r5 r6 a b c start e1 e2 e3 e4 e5 kept e =
    rw (e, kept, e5, e4, e3, e2, e1) (simp append_assoc refl)

joined_partitioned : (l : Layout) (row : Row) (f k c r last : ℕ) (b : Bool) → is_sound l ≡ true → k ≤ 12 → row_at l (12 - k) ≡ Some row → b ≡ l.zero_tail → f < 8
    → (48 + f) ∷ 46 ∷ (padded k c ++ 46 ∷ (padded row.reference_digits r ++ cond b [] (46 ∷ plain last))) ≡ join_with_byte 46 (partitioned_components (Some l) f k c r last)
unfolding padded
joined_partitioned l row f k c r last b sound short placed tail few =
    let tl : List ℕ = cond b [] (46 ∷ plain last) in
    let m : List ℕ = padded row.reference_digits r in
    let c1 : List ℕ = padded k c in
    let one : padded 1 f ≡ (48 + f) ∷ [] = (let d : 48 + f / 10 ^ 0 % 10 ≡ 48 + f = omega arith in rw d refl) in
    let whole = four_parts l row [] (padded 1 f) (padded 1 f ++ 46 ∷ []) ((padded 1 f ++ 46 ∷ []) ++ c1) (((padded 1 f ++ 46 ∷ []) ++ c1) ++ 46 ∷ []) ((((padded 1 f ++ 46 ∷ []) ++ c1) ++ 46 ∷ []) ++ m)
    (((((padded 1 f ++ 46 ∷ []) ++ c1) ++ 46 ∷ []) ++ m) ++ tl) f k c r last b sound short placed tail refl refl refl refl refl refl in
    let flat : (48 + f) ∷ 46 ∷ (c1 ++ 46 ∷ (m ++ tl)) ≡ ((((((48 + f) ∷ []) ++ 46 ∷ []) ++ c1) ++ 46 ∷ []) ++ m) ++ tl = simp append_assoc refl in
    flat ∙ ap (λ (x : List ℕ). ((((x ++ 46 ∷ []) ++ c1) ++ 46 ∷ []) ++ m) ++ tl) (sym one) ∙ whole

pub name_at : (kind : Kind) (l : Layout) → layout_of kind ≡ Some l → scheme_name kind ≡ l.name
name_at kind l known = rw known refl

pub name_few : (kind : Kind) (l : Layout) (name : List ℕ) → layout_of kind ≡ Some l → name ≡ l.name → length name ≤ 8
name_few kind l name known named = subst (λ (x : List ℕ). length x ≤ 8) (name_at kind l known ∙ sym named) (name_short kind)

-- what is in front of the last component is short
pub front_few : (kind : Kind) (l : Layout) (row : Row) (name : List ℕ) (f k c r last : ℕ) → layout_of kind ≡ Some l → name ≡ l.name → is_sound l ≡ true
    → IsLawfulEpc (Partitioned kind f k c r last) → last < 2 ^ 64 → row_at l (12 - k) ≡ Some row → length name + k + row.reference_digits ≤ 33
front_few kind l row name f k c r last known named sound lawful small placed =
    let facts = row_facts kind l f k c r last row known sound lawful small placed in
    omega (arith, facts.room, name_few kind l name known named)

-- the tag URI of an EPC with a company prefix, by its parts
pub partitioned_uri : (kind : Kind) (l : Layout) (row : Row) (name : List ℕ) (f k c r last : ℕ) (b : Bool) → layout_of kind ≡ Some l → name ≡ l.name → is_sound l ≡ true → k ≤ 12 → row_at l (12 - k) ≡ Some row → b ≡ l.zero_tail → f < 8
    → (tag_start ++ (name ++ 58 ∷ [])) ++ (48 + f) ∷ 46 ∷ (padded k c ++ 46 ∷ (padded row.reference_digits r ++ cond b [] (46 ∷ plain last))) ≡ tag_uri (Partitioned kind f k c r last)
unfolding tag_uri
partitioned_uri kind l row name f k c r last b known named sound short placed tail few =
    let j = joined_partitioned l row f k c r last b sound short placed tail few in
    let back : join_with_byte 46 (partitioned_components (Some l) f k c r last) ≡ join_with_byte 46 (partitioned_components (layout_of kind) f k c r last) = ap (λ (o : Option Layout). join_with_byte 46 (partitioned_components o f k c r last)) (sym known) in
    let join : List ℕ = join_with_byte 46 (partitioned_components (layout_of kind) f k c r last) in
    let n : name ≡ scheme_name kind = named ∙ sym (name_at kind l known) in
    ap (λ (x : List ℕ). (tag_start ++ (name ++ 58 ∷ [])) ++ x) (j ∙ back) ∙ ap (λ (x : List ℕ). (tag_start ++ (x ++ 58 ∷ [])) ++ join) n ∙ ap (λ (x : List ℕ). tag_start ++ x) (append_assoc (scheme_name kind) (58 ∷ []) join)

pub general_uri : (m o s : ℕ) (name : List ℕ) → name ≡ scheme_name Gid
    → (tag_start ++ (name ++ 58 ∷ [])) ++ (plain m ++ 46 ∷ (plain o ++ 46 ∷ plain s)) ≡ tag_uri (General m o s)
unfolding tag_uri
general_uri m o s name named =
    let whole = three_parts [] (plain m) (plain m ++ 46 ∷ []) ((plain m ++ 46 ∷ []) ++ plain o) (((plain m ++ 46 ∷ []) ++ plain o) ++ 46 ∷ []) ((((plain m ++ 46 ∷ []) ++ plain o) ++ 46 ∷ []) ++ plain s) m o s refl refl refl refl refl in
    let flat : plain m ++ 46 ∷ (plain o ++ 46 ∷ plain s) ≡ (((plain m ++ 46 ∷ []) ++ plain o) ++ 46 ∷ []) ++ plain s = simp append_assoc refl in
    rw (named, flat, whole) refl

-- ---- the text in room

pub text_at_start : (old new : List ℕ) (end : ℕ) (text : List ℕ) → HasText old new 0 end text → take end new ≡ text
text_at_start old new end text h =
    let ends : length text ≡ end = let e = h.ends in omega arith in
    ap (λ (x : List ℕ). take end x) h.octets ∙ take_at text (drop end old) end ends

pub left : (a b : Bool) → (a && b) ≡ true → a ≡ true
left true b e = refl
left false b e = e

pub right : (a b : Bool) → (a && b) ≡ true → b ≡ true
right true b e = e
right false b e = cc

pub visible_low : (text : List ℕ) → visible text ≡ true → All (λ b. b < 128) text
visible_low [] h = All-nil (λ b. b < 128)
visible_low (c ∷ text) h = All-cons (λ b. b < 128) c text (low c (left (is_visible c) _ h)) (visible_low text (right (is_visible c) _ h))
  where
    low : (c : ℕ) → is_visible c ≡ true → c < 128
    low c h = grind arith

visible_utf8 : (text : List ℕ) → visible text ≡ true → IsUtf8 text
visible_utf8 text h = IsUtf8-from_ascii text (IsAscii-from_all text (visible_low text h))

pub word_text_utf8 : (w : ℕ) (text : List ℕ) → IsTextOf w text → IsUtf8 text
word_text_utf8 w text h = visible_utf8 text (text_visible w text h)

pub uri_utf8 : (epc : Parts) → IsLawfulEpc epc → IsUtf8 (tag_uri epc)
uri_utf8 epc h = visible_utf8 (tag_uri epc) (uri_visible epc h)

pub raw_utf8 : (w : ℕ) → IsUtf8 (raw_uri w)
raw_utf8 w = visible_utf8 (raw_uri w) (raw_visible w)
