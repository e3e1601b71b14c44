-- The octets that parameters and messages spell, and how they move to buffers.
use Rattle.std.proofs.Common.{◌≡◌, ℕ, zero, suc, ◌+◌, ◌-◌, ◌*◌, ◌^◌, ◌<◌, ◌≤◌, List, [], ◌∷◌, ◌++◌, Bool, refl, ap, subst, ◌∙◌, sym, arith, append_assoc, length, append-nil, length-append, take, drop, get_or, inl, inr}
use Rattle.std.specs.Prelude.{min, ◌==◌, false, replicate}
use Rattle.std.specs.Borrow.{Bor}
use Rattle.std.proofs.lemmas.List.{take-append-drop, length-take, length-take-le, length-drop, drop_all, drop-drop, length-replicate}
use Rattle.std.proofs.lemmas.Bool.{cases_lt, eqb-false}
use Rattle.std.proofs.Math.Nat.{pow-le-pow_right}
use Rattle.std.proofs.Math.Seq.{take-append_seam, drop-append_seam, drop-append-add, take-length}
use Rattle.tag_bits.specs.Digits.{digits, digits_of_bytes, value}
use Rattle.tag_bits.proofs.DigitLemmas.{digits_from, value-below, digits-injective, take-seam, drop-seam, length-digits}
use Rattle.tag_bits.proofs.ByteLemmas.{bytes-nil, bytes-cons, bytes-append, length-bytes}
use Rattle.llrp_schema.specs.declared.kinds.ParamKind.{ParamKind}
use Rattle.llrp_schema.specs.declared.kinds.MsgKind.{MsgKind}
use Rattle.llrp_schema.specs.declared.kinds.Kind.TheVariants.{Message, Parameter}
use Rattle.llrp_schema.specs.Schema.{fields_of, tail_of}
use Rattle.llrp_schema.specs.declared.kinds.Tail.{Tail}
use Rattle.llrp_schema.specs.declared.kinds.Tail.TheVariants.{Absent, Words, Text, Bits, Data}
use Rattle.llrp_schema.proofs.TableLaws.{few_bits, whole_octets}
use Rattle.std.proofs.lemmas.List.{take_rest}
use Rattle.std.specs.Prelude.{if◌then◌else◌, true, ◌/◌, ◌%◌}
use Rattle.std.specs.Int.{bytes_high_first}
use Rattle.llrp_schema.specs.Schema.{bits_of, is_tv}
use Rattle.llrp_tree.proofs.SpellingLemmas.{appends_same, appends_number, whole_number, whole_digits}
use Rattle.llrp_tree.specs.declared.TheConstants.{LEVELS, MAX_DEPTH}
use Rattle.llrp_tree.specs.Tree.{Forest, none, Tree, MessageTree, add, add_all, forest, trees}
use Rattle.llrp_tree.specs.Lawful.{octets, head_octets, body_octets, count_octets, levels, AreOctets, AllLawful, tree_octets, message_octets}
use Rattle.llrp_tree.specs.Calls.Lawful.{own_octets}
use Rattle.llrp_tree.specs.Spelling.{message, spread, field_digits, count_digits, body_digits, head_of, head_digits, forest_digits, message_digits}
use Rattle.llrp_tree.specs.Calls.Spelling.{tree_digits}
use Rattle.llrp_tree.specs.Private.HeadOctets.{octets_in, spelled, unfinished, following, AreDeep, Moves}
use Rattle.llrp_tree.specs.Calls.HeadOctets.{leading_digits, message_start, parameter_start}
use Rattle.llrp_tree.specs.Calls.Writing.{Appends}
use Rattle.llrp_tree.proofs.OctetLemmas.{octets-append}
use Rattle.llrp_tree.proofs.TreeLemmas.{forest-trees}
use Rattle.llrp_tree.proofs.MessageTails.{no_count}
use Rattle.llrp_tree.proofs.LengthLemmas.{length-spell}
use Rattle.llrp_tree.proofs.Frames.{few_levels}

-- ---- digits in groups of eight

nothing_left : {A : Type 0} (xs : List A) → length xs ≡ 0 → [] ≡ xs
nothing_left [] h = refl
nothing_left (x ∷ xs) h = absurd (omega arith)

pub octets_spell : (n : ℕ) (ds : List Bool) → length ds ≡ 8 * n → digits_of_bytes (octets_in n ds) ≡ ds
octets_spell zero ds h = bytes-nil ∙ nothing_left ds (omega arith)
octets_spell (suc n) ds h =
    let one : length (take 8 ds) ≡ 8 = length-take-le 8 ds (omega arith) in
    let more : length (drop 8 ds) ≡ 8 * n = length-drop 8 ds ∙ omega arith in
    bytes-cons (value (take 8 ds)) (octets_in n (drop 8 ds))
    ∙ ap (λ (x : List Bool). x ++ digits_of_bytes (octets_in n (drop 8 ds))) (digits_from 8 (value (take 8 ds)) (take 8 ds) one refl)
    ∙ ap (λ (x : List Bool). take 8 ds ++ x) (octets_spell n (drop 8 ds) more)
    ∙ take-append-drop 8 ds

few_digits : (ds : List Bool) → length ds ≤ 8 → value ds < 256
few_digits ds h =
    let p : 2 ^ length ds ≤ 2 ^ 8 = pow-le-pow_right (omega arith) h in
    omega (arith, value-below ds, p)

pub octets_are : (n : ℕ) (ds : List Bool) → AreOctets (octets_in n ds)
octets_are zero ds = tt
octets_are (suc n) ds = (few_digits (take 8 ds) (omega (arith, length-take 8 ds)), octets_are n (drop 8 ds))

-- octets are what they spell
pub same_octets : (xs ys : List ℕ) → AreOctets xs → AreOctets ys → digits_of_bytes xs ≡ digits_of_bytes ys → xs ≡ ys
same_octets [] [] h g e = refl
same_octets [] (y ∷ ys) h g e = absurd (omega (arith, length-bytes [], length-bytes (y ∷ ys), ap (λ (d : List Bool). length d) e))
same_octets (x ∷ xs) [] h g e = absurd (omega (arith, length-bytes [], length-bytes (x ∷ xs), ap (λ (d : List Bool). length d) e))
same_octets (x ∷ xs) (y ∷ ys) h g e =
    let split : digits 8 x ++ digits_of_bytes xs ≡ digits 8 y ++ digits_of_bytes ys = sym (bytes-cons x xs) ∙ e ∙ bytes-cons y ys in
    let first : digits 8 x ≡ digits 8 y = sym (take-seam 8 (digits 8 x) (digits_of_bytes xs) (length-digits 8 x)) ∙ ap (λ (d : List Bool). take 8 d) split ∙ take-seam 8 (digits 8 y) (digits_of_bytes ys) (length-digits 8 y) in
    let others : digits_of_bytes xs ≡ digits_of_bytes ys = sym (drop-seam 8 (digits 8 x) (digits_of_bytes xs) (length-digits 8 x)) ∙ ap (λ (d : List Bool). drop 8 d) split ∙ drop-seam 8 (digits 8 y) (digits_of_bytes ys) (length-digits 8 y) in
    let head : x ≡ y = digits-injective 8 x y h.0 g.0 first in
    let tail : xs ≡ ys = same_octets xs ys h.1 g.1 others in
    ap (λ (o : ℕ). o ∷ xs) head ∙ ap (λ (os : List ℕ). y ∷ os) tail

-- ---- rows of parameters

pub spelled_digits : (f : Forest) → digits_of_bytes (spelled f) ≡ forest_digits f
unfolding spelled
spelled_digits f = octets_spell (octets f) (forest_digits f) (length-spell f)

pub spelled_are : (f : Forest) → AreOctets (spelled f)
unfolding spelled
spelled_are f = octets_are (octets f) (forest_digits f)

pub spelled_none : spelled none ≡ []
unfolding spelled
spelled_none = refl

spell-none : forest_digits none ≡ []
unfolding forest_digits
spell-none = refl

spell-add : (f : Forest) (t : Tree) → forest_digits (add f t) ≡ forest_digits f ++ tree_digits t
unfolding forest_digits
spell-add f t = refl

spell-onto : (before : Forest) (ts : List Tree) → forest_digits (add_all before ts) ≡ forest_digits before ++ forest_digits (forest ts)
spell-onto before [] = sym (append-nil (forest_digits before)) ∙ ap (λ (d : List Bool). forest_digits before ++ d) (sym spell-none)
spell-onto before (t ∷ ts) =
    let own : forest_digits (forest (t ∷ ts)) ≡ tree_digits t ++ forest_digits (forest ts) =
    spell-onto (add none t) ts ∙ ap (λ (d : List Bool). d ++ forest_digits (forest ts)) (spell-add none t ∙ ap (λ (d : List Bool). d ++ tree_digits t) spell-none) in
    spell-onto (add before t) ts ∙ ap (λ (d : List Bool). d ++ forest_digits (forest ts)) (spell-add before t)
    ∙ append_assoc (forest_digits before) (tree_digits t) (forest_digits (forest ts)) ∙ ap (λ (d : List Bool). forest_digits before ++ d) (sym own)

pub spell-first : (t : Tree) (ts : List Tree) → forest_digits (forest (t ∷ ts)) ≡ tree_digits t ++ forest_digits (forest ts)
spell-first t ts =
    spell-onto (add none t) ts ∙ ap (λ (d : List Bool). d ++ forest_digits (forest ts)) (spell-add none t ∙ ap (λ (d : List Bool). d ++ tree_digits t) spell-none)

regrouped : (h f k t c r : List Bool) → (h ++ ((f ++ (k ++ t)) ++ c)) ++ r ≡ (h ++ (f ++ k)) ++ (t ++ (c ++ r))
regrouped h f k t c r = simp append_assoc refl

tree_parts : (t : Tree) → tree_digits t ≡ head_digits (head_of t.kind (tree_octets t)) ++ ((field_digits (fields_of (Parameter t.kind)) (spread (fields_of (Parameter t.kind)) t.fields) ++ (count_digits (tail_of (Parameter t.kind)) t.tail ++ digits_of_bytes t.tail)) ++ forest_digits t.children)
unfolding body_digits
tree_parts t = refl

-- The first parameter of a row: what comes before its tail, its tail, its children; then the others.
pub first_node : (t : Tree) (ts : List Tree) (start : List ℕ) → AreOctets start → AreOctets t.tail
    → digits_of_bytes start ≡ head_digits (head_of t.kind (tree_octets t)) ++ leading_digits (Parameter t.kind) t.fields t.tail
    → spelled (forest (t ∷ ts)) ≡ start ++ (t.tail ++ (spelled t.children ++ spelled (forest ts)))
first_node t ts start h g e =
    let h2 : List Bool = head_digits (head_of t.kind (tree_octets t)) in
    let f2 : List Bool = field_digits (fields_of (Parameter t.kind)) (spread (fields_of (Parameter t.kind)) t.fields) in
    let k2 : List Bool = count_digits (tail_of (Parameter t.kind)) t.tail in
    let c2 : List Bool = forest_digits t.children in
    let r2 : List Bool = forest_digits (forest ts) in
    let rest : digits_of_bytes (spelled t.children ++ spelled (forest ts)) ≡ c2 ++ r2 =
    bytes-append (spelled t.children) (spelled (forest ts)) ∙ ap (λ (d : List Bool). d ++ digits_of_bytes (spelled (forest ts))) (spelled_digits t.children) ∙ ap (λ (d : List Bool). c2 ++ d) (spelled_digits (forest ts)) in
    let right : digits_of_bytes (start ++ (t.tail ++ (spelled t.children ++ spelled (forest ts)))) ≡ (h2 ++ (f2 ++ k2)) ++ (digits_of_bytes t.tail ++ (c2 ++ r2)) =
    bytes-append start (t.tail ++ (spelled t.children ++ spelled (forest ts)))
    ∙ ap (λ (d : List Bool). d ++ digits_of_bytes (t.tail ++ (spelled t.children ++ spelled (forest ts)))) e
    ∙ ap (λ (d : List Bool). (h2 ++ (f2 ++ k2)) ++ d) (bytes-append t.tail (spelled t.children ++ spelled (forest ts)) ∙ ap (λ (d : List Bool). digits_of_bytes t.tail ++ d) rest) in
    let left : digits_of_bytes (spelled (forest (t ∷ ts))) ≡ (h2 ++ ((f2 ++ (k2 ++ digits_of_bytes t.tail)) ++ c2)) ++ r2 =
    spelled_digits (forest (t ∷ ts)) ∙ spell-first t ts ∙ ap (λ (d : List Bool). d ++ r2) (tree_parts t) in
    same_octets _ _ (spelled_are (forest (t ∷ ts)))
    (octets-append start _ h (octets-append t.tail _ g (octets-append (spelled t.children) (spelled (forest ts)) (spelled_are t.children) (spelled_are (forest ts)))))
    (left ∙ regrouped h2 f2 k2 (digits_of_bytes t.tail) c2 r2 ∙ sym right)

-- ---- levels

levels_below : (a b : Forest) (ts : List Tree) → levels a ≤ levels b → levels (add_all a ts) ≤ levels (add_all b ts)
levels_below a b [] h = h
levels_below a b (t ∷ ts) h = levels_below (add a t) (add b t) ts (omega arith)

levels_kept : (f : Forest) (ts : List Tree) → levels f ≤ levels (add_all f ts)
levels_kept f [] = omega arith
levels_kept f (t ∷ ts) =
    let one : levels f ≤ levels (add f t) = omega arith in
    omega (arith, one, levels_kept (add f t) ts)

pub levels_of_first : (t : Tree) (ts : List Tree) → levels t.children + 1 ≤ levels (forest (t ∷ ts))
levels_of_first t ts =
    let one : levels t.children + 1 ≤ levels (add none t) = omega arith in
    omega (arith, one, levels_kept (add none t) ts)

pub levels_of_others : (t : Tree) (ts : List Tree) → levels (forest ts) ≤ levels (forest (t ∷ ts))
levels_of_others t ts = levels_below none (add none t) ts (omega arith)

pub levels_some : (ts : List Tree) → 0 < length ts → 1 ≤ levels (forest ts)
levels_some [] h = absurd (omega arith)
levels_some (t ∷ ts) h = omega (arith, levels_of_first t ts)

-- ---- rows that follow one another

pub following-push : (rows : List (Bor (List Tree))) (row : Bor (List Tree)) → following (rows ++ row ∷ []) ≡ spelled (forest row.now) ++ following rows
following-push [] row = sym (append-nil (spelled (forest row.now)))
following-push (r ∷ rows) row =
    ap (λ (x : List ℕ). x ++ spelled (forest r.now)) (following-push rows row) ∙ append_assoc (spelled (forest row.now)) (following rows) (spelled (forest r.now))

pub AreDeep-push : (depth : ℕ) (rows : List (Bor (List Tree))) (row : Bor (List Tree)) → AreDeep depth rows → 0 < length row.now → depth + length rows + levels (forest row.now) ≤ MAX_DEPTH → AreDeep depth (rows ++ row ∷ [])
AreDeep-push depth [] row h some fits = (some, omega arith, tt)
AreDeep-push depth (r ∷ rows) row h some fits = (h.0, h.1, AreDeep-push (depth + 1) rows row h.2 some (omega arith))

pub AreDeep-pop : (depth : ℕ) (rows : List (Bor (List Tree))) (row : Bor (List Tree)) → AreDeep depth (rows ++ row ∷ []) → AreDeep depth rows × (0 < length row.now) × (depth + length rows + levels (forest row.now) ≤ MAX_DEPTH)
AreDeep-pop depth [] row h = (tt, h.0, omega (arith, h.1))
AreDeep-pop depth (r ∷ rows) row h =
    let p = AreDeep-pop (depth + 1) rows row h.2 in
    ((h.0, h.1, p.0), p.1, omega (arith, p.2))

-- ---- what is left of a node

pub drop_some : (start tail : List ℕ) (from : ℕ) → from < length start → drop from start ++ tail ≡ [] → ⊥
drop_some start tail from lt e =
    let none_left : length (drop from start) + length tail ≡ 0 = sym (length-append (drop from start) tail) ∙ ap (λ (x : List ℕ). length x) e in
    omega (arith, none_left, length-drop from start)

pub empty_row : (row : List Tree) (octets : List ℕ) → length row ≡ 0 → octets ≡ spelled (forest row) ++ octets
empty_row [] octets h = ap (λ (x : List ℕ). x ++ octets) (sym spelled_none)
empty_row (t ∷ ts) octets h = absurd (omega arith)

-- ---- heads and fields

-- a count has two octets at most
few_counted : (form : Tail) → count_octets form ≤ 2
few_counted Absent = omega arith
few_counted Words = omega arith
few_counted Text = omega arith
few_counted Bits = omega arith
few_counted Data = omega arith

-- a parameter's fields and count fill octets, 14 at most
pub leading_fits : (kind : ParamKind) → (bits_of (fields_of (Parameter kind)) + 8 * count_octets (tail_of (Parameter kind)) ≤ 112) × ((bits_of (fields_of (Parameter kind)) + 8 * count_octets (tail_of (Parameter kind))) % 8 ≡ 0)
leading_fits kind = (omega (arith, few_bits (Parameter kind), few_counted (tail_of (Parameter kind))), omega (arith, whole_octets (Parameter kind)))

head_bounds : (kind : ParamKind) → (1 ≤ head_octets kind) × (head_octets kind ≤ 4)
head_bounds kind = elim (is_tv kind) as (λ b. (1 ≤ (if b then 1 else 4)) × ((if b then 1 else 4) ≤ 4)) [ true ↦ (omega arith, omega arith) | false ↦ (omega arith, omega arith) ]

-- how many bits come before the tail of a parameter, where they fill sixteen octets at most
pub record StartBits (h l w : ℕ) : Type 0 where
  pub few : l ≤ 120
  pub small : h + l ≤ 128
  pub whole : w % 8 ≡ 0
  pub some : 8 ≤ w

pub start_bits : (kind : ParamKind) (h l w : ℕ) → own_octets (Parameter kind) [] ≤ 16 → h ≡ 8 * head_octets kind → l ≡ bits_of (fields_of (Parameter kind)) + 8 * count_octets (tail_of (Parameter kind)) → w ≡ h + l → StartBits h l w
unfolding body_octets
start_bits kind h l w short eh el ew =
    let hb = head_bounds kind in
    let octets8 : bits_of (fields_of (Parameter kind)) % 8 ≡ 0 = whole_octets (Parameter kind) in
    record {
      few = omega (arith, short, octets8, eh, el, hb.0);
      small = omega (arith, short, octets8, eh, el);
      whole = omega (arith, octets8, eh, el, ew);
      some = omega (arith, eh, ew, hb.0);
    }

-- the bits of a head
pub head_fits : (kind : ParamKind) (h : ℕ) → h ≡ 8 * head_octets kind → (8 ≤ h) × (h ≤ 32) × (h % 8 ≡ 0)
head_fits kind h eh = let hb = head_bounds kind in (omega (arith, eh, hb.0), omega (arith, eh, hb.1), omega (arith, eh))

-- the same of a message's fields
pub message_bits : (kind : MsgKind) (l : ℕ) → own_octets (Message kind) [] ≤ 16 → l ≡ bits_of (fields_of (Message kind)) → (l ≤ 48) × (l % 8 ≡ 0)
unfolding body_octets
message_bits kind l short el =
    let octets8 : bits_of (fields_of (Message kind)) % 8 ≡ 0 = whole_octets (Message kind) in
    (omega (arith, short, octets8, el), omega (arith, octets8, el))

-- the same parts have the same digits
pub same_parameter : (k l : ParamKind) (m n : ℕ) (fs gs ts us : List ℕ) → k ≡ l → m ≡ n → fs ≡ gs → ts ≡ us → parameter_start k m fs ts ≡ parameter_start l n gs us
same_parameter k l m n fs gs ts us ek en ef et = rw (ek, en, ef, et) refl

pub same_message : (v w : ℕ) (k l : MsgKind) (m n i j : ℕ) (fs gs : List ℕ) → v ≡ w → k ≡ l → m ≡ n → i ≡ j → fs ≡ gs → message_start v k m i fs ≡ message_start w l n j gs
same_message v w k l m n i j fs gs ev ek en ei ef = rw (ev, ek, en, ei, ef) refl

pub four_parts : (h o i : List Bool) → h ++ (o ++ i) ≡ (h ++ o) ++ i
four_parts h o i = sym (append_assoc h o i)

-- the last octets of a number
pub last_octets : (bytes : List ℕ) (bits n : ℕ) → bits ≤ 128 → bits % 8 ≡ 0 → n < 2 ^ bits → bytes ≡ bytes_high_first 16 n → Appends [] (drop (16 - bits / 8) bytes) (digits bits n)
last_octets bytes bits n few whole lt e =
    let size : length bytes ≡ 16 = ap (λ (x : List ℕ). length x) e in
    let rest : drop (16 - bits / 8) bytes ≡ take (16 - (16 - bits / 8)) (drop (16 - bits / 8) bytes) =
    sym (take_rest bytes (16 - bits / 8)) ∙ ap (λ (i : ℕ). take (i - (16 - bits / 8)) (drop (16 - bits / 8) bytes)) size in
    appends_same _ _ _ _ (appends_number [] (drop (16 - bits / 8) bytes) bytes (bits / 8) n (omega (arith, few)) (whole_number n bits whole lt) e rest) (whole_digits n bits whole)

-- the same where eight octets come before them
pub last_behind : (all bytes : List ℕ) (bits n : ℕ) → bits ≤ 128 → bits % 8 ≡ 0 → n < 2 ^ bits → bytes ≡ bytes_high_first 16 n → drop 8 all ≡ bytes → Appends [] (drop (24 - bits / 8) all) (digits bits n)
last_behind all bytes bits n few whole lt e behind = subst (λ (x : List ℕ). Appends [] x (digits bits n)) (sym (behind_eight all bytes (bits / 8) (omega (arith, few)) behind)) (last_octets bytes bits n few whole lt e)
  where
    behind_eight : (all bytes : List ℕ) (k : ℕ) → k ≤ 16 → drop 8 all ≡ bytes → drop (24 - k) all ≡ drop (16 - k) bytes
    behind_eight all bytes k few e =
        let place : 24 - k ≡ 8 + (16 - k) = omega arith in
        ap (λ (i : ℕ). drop i all) place ∙ sym (drop-drop (16 - k) 8 all) ∙ ap (λ (x : List ℕ). drop (16 - k) x) e

-- the octets of two numbers, one after the other
pub one_after_other : (all xs ys : List ℕ) (ds es : List Bool) → all ≡ xs ++ ys → Appends [] xs ds → Appends [] ys es → Appends [] all (ds ++ es)
one_after_other all xs ys ds es e p q = record {
  more = p.more ++ q.more;
  whole = e ∙ ap (λ (x : List ℕ). x ++ ys) p.whole ∙ ap (λ (x : List ℕ). p.more ++ x) q.whole;
  octets = octets-append p.more q.more p.octets q.octets;
  spelled = bytes-append p.more q.more ∙ ap (λ (x : List Bool). x ++ digits_of_bytes q.more) p.spelled ∙ ap (λ (x : List Bool). ds ++ x) q.spelled;
}

-- ---- the parts of a row

pub row_parts : (row : List Tree) (t : Tree) → 1 ≤ length row → t ≡ get_or row 0 t → row ≡ t ∷ take (length row - 1) (drop 1 row)
row_parts [] t some is = absurd (omega arith)
row_parts (x ∷ xs) t some is =
    let count : length xs ≡ length (x ∷ xs) - 1 = omega arith in
    ap (λ (y : Tree). y ∷ xs) (sym is) ∙ ap (λ (ys : List Tree). t ∷ ys) (sym (take-length xs) ∙ ap (λ (n : ℕ). take n xs) count)

pub others_fit : (n : ℕ) (row rest : List Tree) (t : Tree) → row ≡ t ∷ rest → n + levels (forest row) ≤ MAX_DEPTH → n + levels (forest rest) ≤ MAX_DEPTH
others_fit n row rest t e h =
    let whole : levels (forest row) ≡ levels (forest (t ∷ rest)) = ap (λ (ts : List Tree). levels (forest ts)) e in
    omega (arith, h, whole, levels_of_others t rest)

pub children_fit : (n m : ℕ) (row rest lent : List Tree) (t : Tree) → row ≡ t ∷ rest → lent ≡ trees t.children → n + levels (forest row) ≤ MAX_DEPTH → m ≤ n + 1 → m + levels (forest lent) ≤ MAX_DEPTH
children_fit n m row rest lent t e l h g =
    let whole : levels (forest row) ≡ levels (forest (t ∷ rest)) = ap (λ (ts : List Tree). levels (forest ts)) e in
    let own : levels (forest lent) ≡ levels t.children = ap (λ (ts : List Tree). levels (forest ts)) l ∙ ap levels (forest-trees t.children) in
    omega (arith, h, g, whole, own, levels_of_first t rest)

pub room_for : (n : ℕ) (row : List Tree) → 0 < length row → n + levels (forest row) ≤ MAX_DEPTH → n < LEVELS
room_for n row some h = omega (arith, h, levels_some row some)

joined_up : (s a c r p : List ℕ) → (s ++ (a ++ (c ++ r))) ++ p ≡ (s ++ a) ++ (c ++ (r ++ p))
joined_up s a c r p = simp append_assoc refl

pub begun_octets : (whole rows : List (Bor (List Tree))) (row : Bor (List Tree)) (rest : List Tree) (t : Tree) (bytes : List ℕ) (from : ℕ) (tail : List ℕ) (lent : List Tree) (between after : List ℕ)
    → whole ≡ rows ++ row ∷ [] → row.now ≡ t ∷ rest
    → Appends [] (drop from bytes) (head_digits (head_of t.kind (tree_octets t)) ++ leading_digits (Parameter t.kind) t.fields t.tail)
    → tail ≡ t.tail → AreOctets tail → lent ≡ trees t.children
    → between ≡ spelled (forest rest) ++ following rows → after ≡ spelled (forest lent) ++ between
    → following whole ≡ unfinished bytes from tail ++ after
begun_octets whole rows row rest t bytes from tail lent between after ew er s et h el eb ea =
    let octets2 : AreOctets t.tail = subst (λ (x : List ℕ). AreOctets x) et h in
    let own : spelled (forest row.now) ≡ s.more ++ (t.tail ++ (spelled t.children ++ spelled (forest rest))) =
    ap (λ (ts : List Tree). spelled (forest ts)) er ∙ first_node t rest s.more s.octets octets2 s.spelled in
    let below : spelled (forest lent) ≡ spelled t.children = ap (λ (ts : List Tree). spelled (forest ts)) el ∙ ap spelled (forest-trees t.children) in
    let later : after ≡ spelled t.children ++ (spelled (forest rest) ++ following rows) =
    ea ∙ ap (λ (x : List ℕ). x ++ between) below ∙ ap (λ (x : List ℕ). spelled t.children ++ x) eb in
    ap following ew ∙ following-push rows row ∙ ap (λ (x : List ℕ). x ++ following rows) own
    ∙ joined_up s.more t.tail (spelled t.children) (spelled (forest rest)) (following rows)
    ∙ ap (λ (x : List ℕ). (s.more ++ t.tail) ++ x) (sym later)
    ∙ ap (λ (x : List ℕ). (x ++ t.tail) ++ after) (sym s.whole)
    ∙ ap (λ (x : List ℕ). (drop from bytes ++ x) ++ after) (sym et)

-- ---- moves

drop_more : {A : Type 0} (n k : ℕ) (xs : List A) → drop k (drop n xs) ≡ drop (n + k) xs
drop_more n k xs = drop-drop k n xs

pub move_start : (start tail lent old new : List ℕ) (from place count : ℕ) → lent ≡ drop from start → count ≡ min (length lent) (length old - place) → place ≤ length old
    → new ≡ take place old ++ (take count lent ++ drop (place + count) old)
    → Moves (drop from start ++ tail) (drop (from + count) start ++ tail) old new place count
move_start start tail lent old new from place count e c h copied =
    let few : count ≤ length lent = omega (arith, c) in
    let split : drop from start ≡ take count lent ++ drop (from + count) start =
    sym e ∙ sym (take-append-drop count lent) ∙ ap (λ (x : List ℕ). take count lent ++ x) (ap (λ (x : List ℕ). drop count x) e ∙ drop_more from count start) in
    record {
      moved = take count lent;
      counted = length-take-le count lent few;
      left = ap (λ (x : List ℕ). x ++ tail) split ∙ append_assoc (take count lent) (drop (from + count) start) tail;
      fits = omega (arith, c, h);
      copied = copied;
    }

pub moves_both : (a b c old mid new : List ℕ) (place n k : ℕ) → Moves a b old mid place n → Moves b c mid new (place + n) k → Moves a c old new place (n + k)
moves_both a b c old mid new place n k p q =
    let front : List ℕ = take place old ++ p.moved in
    let room : length (take place old) ≡ place = length-take-le place old (omega (arith, p.fits)) in
    let reach : length front ≡ place + n = length-append (take place old) p.moved ∙ omega (arith, room, p.counted) in
    let middle : mid ≡ front ++ drop (place + n) old = p.copied ∙ sym (append_assoc (take place old) p.moved (drop (place + n) old)) in
    let first : take (place + n) mid ≡ front =
    ap (λ (x : List ℕ). take (place + n) x) middle ∙ ap (λ (i : ℕ). take i (front ++ drop (place + n) old)) (sym reach) ∙ take-append_seam front (drop (place + n) old) in
    let back : drop (place + n + k) mid ≡ drop (place + n + k) old =
    ap (λ (x : List ℕ). drop (place + n + k) x) middle ∙ ap (λ (i : ℕ). drop (i + k) (front ++ drop (place + n) old)) (sym reach) ∙ drop-append-add front (drop (place + n) old) k ∙ drop_more (place + n) k old in
    let sum : place + n + k ≡ place + (n + k) = omega arith in
    let size : length mid ≡ length old =
    ap (λ (x : List ℕ). length x) middle ∙ length-append front (drop (place + n) old) ∙ omega (arith, reach, p.fits, length-drop (place + n) old) in
    record {
      moved = p.moved ++ q.moved;
      counted = length-append p.moved q.moved ∙ omega (arith, p.counted, q.counted);
      left = p.left ∙ ap (λ (x : List ℕ). p.moved ++ x) q.left ∙ sym (append_assoc p.moved q.moved c);
      fits = omega (arith, q.fits, size);
      copied = q.copied ∙ ap (λ (x : List ℕ). x ++ (q.moved ++ drop (place + n + k) mid)) first ∙ ap (λ (x : List ℕ). front ++ (q.moved ++ x)) back
          ∙ ap (λ (i : ℕ). front ++ (q.moved ++ drop i old)) sum
          ∙ append_assoc (take place old) p.moved (q.moved ++ drop (place + (n + k)) old)
          ∙ ap (λ (x : List ℕ). take place old ++ x) (sym (append_assoc p.moved q.moved (drop (place + (n + k)) old)));
    }

pub moved_count : (a b old new : List ℕ) (place n : ℕ) → Moves a b old new place n → length a ≡ n + length b
moved_count a b old new place n p = ap (λ (x : List ℕ). length x) p.left ∙ length-append p.moved b ∙ omega (arith, p.counted)

pub fill_count : (a b old new : List ℕ) (place n : ℕ) → Moves a b old new place n → (place + n < length old → b ≡ []) → n ≡ min (length a) (length old - place)
fill_count a b old new place n p full =
    elim (cases_lt (place + n) (length old)) [
      | inl lt ↦ let gone : length b ≡ 0 = ap (λ (x : List ℕ). length x) (full lt) in omega (arith, moved_count a b old new place n p, gone, lt)
      | inr ge ↦ omega (arith, moved_count a b old new place n p, p.fits, ge)
    ]

pub fill_left : (a b old new : List ℕ) (place n : ℕ) → Moves a b old new place n → b ≡ drop n a
fill_left a b old new place n p =
    sym (drop-append_seam p.moved b) ∙ ap (λ (i : ℕ). drop i (p.moved ++ b)) p.counted ∙ ap (λ (x : List ℕ). drop n x) (sym p.left)

pub fill_filled : (a b old new : List ℕ) (place n : ℕ) → Moves a b old new place n → new ≡ take place old ++ (take n a ++ drop (place + n) old)
fill_filled a b old new place n p =
    let front : take n a ≡ p.moved = ap (λ (x : List ℕ). take n x) p.left ∙ ap (λ (i : ℕ). take i (p.moved ++ b)) (sym p.counted) ∙ take-append_seam p.moved b in
    p.copied ∙ ap (λ (x : List ℕ). take place old ++ (x ++ drop (place + n) old)) (sym front)

pub refilled : (n : ℕ) (xs items : List ℕ) → n ≡ length items → length xs ≡ length items → take n (xs ++ drop (length xs) items) ≡ xs
refilled n xs items e h = ap (λ (i : ℕ). take i (xs ++ drop (length xs) items)) (e ∙ sym h) ∙ take-append_seam xs (drop (length xs) items)

-- octets in the place of as many zeros at the end
pub zeros_filled : (out bytes grown filled : List ℕ) (n place left : ℕ) → grown ≡ out ++ replicate left 0 → place ≡ length out → left ≡ length bytes → n ≡ min (length bytes) (length grown - place)
    → filled ≡ take place grown ++ (take n bytes ++ drop (place + n) grown) → filled ≡ out ++ bytes
zeros_filled out bytes grown filled n place left eg ep el en ef =
    let size : length grown ≡ length out + left = ap (λ (x : List ℕ). length x) eg ∙ length-append out (replicate left 0) ∙ omega (arith, length-replicate {A = ℕ} left 0) in
    let whole : n ≡ length bytes = omega (arith, size, ep, el, en) in
    let front : take place grown ≡ out = ap (λ (x : List ℕ). take place x) eg ∙ ap (λ (i : ℕ). take i (out ++ replicate left 0)) ep ∙ take-append_seam out (replicate left 0) in
    let all : take n bytes ≡ bytes = ap (λ (i : ℕ). take i bytes) whole ∙ take-length bytes in
    let past : length grown ≤ place + n = omega (arith, size, ep, el, whole) in
    ef ∙ ap (λ (x : List ℕ). x ++ (take n bytes ++ drop (place + n) grown)) front ∙ ap (λ (x : List ℕ). out ++ (x ++ drop (place + n) grown)) all
    ∙ ap (λ (x : List ℕ). out ++ (bytes ++ x)) (drop_all (place + n) grown past) ∙ ap (λ (x : List ℕ). out ++ x) (append-nil bytes)

-- ---- whole messages

whole_message : (m : MessageTree) → ((head_digits (message m.version m.kind (message_octets m) m.id) ++ leading_digits (Message m.kind) m.fields []) ++ digits_of_bytes m.tail) ++ forest_digits m.children ≡ message_digits m
unfolding body_digits
whole_message m =
    let h2 : List Bool = head_digits (message m.version m.kind (message_octets m) m.id) in
    let f2 : List Bool = field_digits (fields_of (Message m.kind)) (spread (fields_of (Message m.kind)) m.fields) in
    let k2 : List Bool = count_digits (tail_of (Message m.kind)) [] in
    let t2 : List Bool = digits_of_bytes m.tail in
    append_assoc (h2 ++ (f2 ++ k2)) t2 (forest_digits m.children) ∙ append_assoc h2 (f2 ++ k2) (t2 ++ forest_digits m.children)
    ∙ ap (λ (d : List Bool). h2 ++ d) (sym (append_assoc (f2 ++ k2) t2 (forest_digits m.children)))
    ∙ ap (λ (d : List Bool). h2 ++ (d ++ forest_digits m.children)) (append_assoc f2 k2 t2)
    ∙ ap (λ (d : List Bool). h2 ++ ((f2 ++ (d ++ t2)) ++ forest_digits m.children)) (no_count m.kind [] ∙ sym (no_count m.kind m.tail))

pub message_spelled : (m : MessageTree) (bytes : List ℕ) (from : ℕ) (tail : List ℕ) (lent : List Tree) (after : List ℕ)
    → Appends [] (drop from bytes) (head_digits (message m.version m.kind (message_octets m) m.id) ++ leading_digits (Message m.kind) m.fields [])
    → tail ≡ m.tail → AreOctets m.tail → lent ≡ trees m.children → after ≡ spelled (forest lent) ++ []
    → AreOctets (unfinished bytes from tail ++ after) × (digits_of_bytes (unfinished bytes from tail ++ after) ≡ message_digits m)
message_spelled m bytes from tail lent after s et os el ea =
    let later : after ≡ spelled m.children = ea ∙ append-nil (spelled (forest lent)) ∙ ap (λ (ts : List Tree). spelled (forest ts)) el ∙ ap spelled (forest-trees m.children) in
    let all : unfinished bytes from tail ++ after ≡ (s.more ++ m.tail) ++ spelled m.children =
    ap (λ (x : List ℕ). (x ++ tail) ++ after) s.whole ∙ ap (λ (x : List ℕ). (s.more ++ x) ++ after) et ∙ ap (λ (x : List ℕ). (s.more ++ m.tail) ++ x) later in
    let front : List Bool = head_digits (message m.version m.kind (message_octets m) m.id) ++ leading_digits (Message m.kind) m.fields [] in (
      subst (λ (x : List ℕ). AreOctets x) (sym all) (octets-append (s.more ++ m.tail) (spelled m.children) (octets-append s.more m.tail s.octets os) (spelled_are m.children)),
      ap digits_of_bytes all ∙ bytes-append (s.more ++ m.tail) (spelled m.children)
          ∙ ap (λ (d : List Bool). d ++ digits_of_bytes (spelled m.children)) (bytes-append s.more m.tail ∙ ap (λ (d : List Bool). d ++ digits_of_bytes m.tail) s.spelled)
          ∙ ap (λ (d : List Bool). (front ++ digits_of_bytes m.tail) ++ d) (spelled_digits m.children)
          ∙ whole_message m,
    )

pub some_row : (row : List Tree) → (length row == 0) ≡ false → 0 < length row
some_row row e = some_from (length row) (eqb-false (length row) 0 e) where
  some_from : (n : ℕ) → (n ≡ 0 → ⊥) → 0 < n
  some_from zero h = absurd (h refl)
  some_from (suc n) h = omega arith

pub message_fit : (n : ℕ) (m : MessageTree) (lent : List Tree) → n ≡ 0 → lent ≡ trees m.children → AllLawful m.children → n + levels (forest lent) ≤ MAX_DEPTH
message_fit n m lent e el h =
    let own : levels (forest lent) ≡ levels m.children = ap (λ (ts : List Tree). levels (forest ts)) el ∙ ap levels (forest-trees m.children) in
    omega (arith, e, own, few_levels m.children h)
