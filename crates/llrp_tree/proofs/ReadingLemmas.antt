-- What the functions that read a frame find, as steps of an open tree.
use Rattle.std.proofs.Common.{◌≡◌, ℕ, zero, suc, ◌+◌, ◌-◌, ◌*◌, ◌<◌, ◌≤◌, Bool, true, false, cond, not, List, [], ◌∷◌, ◌++◌, length, take, drop, Option, Some, None, refl, sym, ap, subst, ◌∙◌, arith, length-append, length-drop, map, get_or}
use Rattle.std.specs.Prelude.{nat_le, if◌then◌else◌, ◌==◌}
use Rattle.std.specs.Str.{is_utf8}
use Rattle.std.proofs.lemmas.Bool.{le-leb, lt-leb, leb-true, leb-false, eqb-true}
use Rattle.std.proofs.lemmas.List.{drop-drop, length-take-le, take_more, take_all, take-append-drop, length-map}
use Rattle.std.proofs.lemmas.List.Elements.{filter-append}
use Rattle.std.proofs.lemmas.List.Sums.{sum_by_push}
use Rattle.std.proofs.Math.Seq.{drop-cons}
use Rattle.std.proofs.Math.ListN.{get_or-map}
use Rattle.tag_bits.specs.Digits.{digits_of_bytes}
use Rattle.tag_bits.proofs.ByteLemmas.{bytes-cons, drop-bytes}
use Rattle.llrp_schema.specs.declared.kinds.Kind.{Kind}
use Rattle.llrp_schema.specs.declared.kinds.Tail.{Tail}
use Rattle.llrp_schema.specs.declared.kinds.Tail.TheVariants.{Absent, Words, Text, Bits, Data}
use Rattle.llrp_schema.specs.declared.kinds.Field.{Field}
use Rattle.llrp_schema.specs.Schema.{FieldRule, GroupRule, bits_of, fields_of, tail_of}
use Rattle.llrp_schema.specs.Calls.Schema.{field_rule}
use Rattle.llrp_schema.proofs.TableLaws.{field_widths, few_plain_fields}
use Rattle.llrp_tree.specs.declared.fault.FrameErr.{FrameErr}
use Rattle.llrp_tree.specs.declared.fault.FrameErr.TheVariants.{Memory, Bad}
use Rattle.llrp_tree.specs.Tree.{none, Tree, forest}
use Rattle.llrp_tree.specs.Lawful.{first, count_octets, AreOctets, is_member, has_place, count, AllLawful, IsLawfulTree, IsLawfulMessage}
use Rattle.llrp_tree.specs.Checks.{members, none_missing}
use Rattle.llrp_tree.specs.Lawful.{at_most}
use Rattle.llrp_tree.specs.Spelling.{Head, spread}
use Rattle.llrp_tree.specs.OpenTree.{root_of, Begun, kind_of_head, has_tail, in_range, plain_values, is_enough}
use Rattle.llrp_tree.specs.Calls.OpenTree.{as_read}
use Rattle.llrp_tree.specs.FirstFault.{number, octets_at, tail_length, tail_at, tail_end, field_checks, tail_checks, checks, NextPart, ReadField, ReadTail, next_part}
use Rattle.llrp_tree.specs.Calls.Standing.{IsAt, begin_node, leading}
use Rattle.llrp_tree.specs.Private.Standing.{FailsFirst, Tells, TailSpans}
use Rattle.llrp_tree.proofs.TreeLemmas.{trees-forest}
use Rattle.llrp_tree.proofs.LawLemmas.{count-members}
use Rattle.llrp_tree.proofs.Leading.{plain, length-spread, drop_all}
use Rattle.llrp_tree.proofs.LastPart.{field_turn, tail_turn}
use Rattle.llrp_tree.proofs.Growing.{grow_field, grow_tail}
use Rattle.llrp_tree.proofs.Telling.{fault_is}

-- ---- groups

not_below : (m n : ℕ) → nat_le m n ≡ not (nat_le (n + 1) m)
not_below m n =
    (elim (nat_le m n) as (λ b. nat_le m n ≡ b → b ≡ not (nat_le (n + 1) m)) [
      | true ↦ λ e. let le = leb-true m n e in sym (ap not (lt-leb (n + 1) m (omega arith)))
      | false ↦ λ e. let lt = leb-false m n e in sym (ap not (le-leb (n + 1) m (omega arith)))
    ]) refl

counted : (g : GroupRule) (ts : List Tree) → members g ts ≡ count g (forest ts)
counted g ts = sym (count-members g (forest ts) ∙ ap (members g) (trees-forest ts))

pub full_is : (o : Option ℕ) (m r : ℕ) (g : GroupRule) (ts : List Tree) → o ≡ Some m → r ≡ members g ts → nat_le m r ≡ not (at_most o (count g (forest ts) + 1))
full_is o m r g ts is e =
    ap (λ (n : ℕ). nat_le m n) (e ∙ counted g ts) ∙ not_below m (count g (forest ts)) ∙ ap (λ (p : Option ℕ). not (at_most p (count g (forest ts) + 1))) (sym is)

pub enough_is : (gs : List GroupRule) (ts : List Tree) → none_missing gs ts ≡ is_enough gs (forest ts)
unfolding none_missing is_enough
enough_is [] ts = refl
enough_is (g ∷ gs) ts = rw (counted g ts, enough_is gs ts) refl

-- ---- fields

-- what follows from a field's check
pub tells : (ds : List Bool) (b : Begun) (outer : List Begun) (at : ℕ) (tn : NextPart) (e : FrameErr) → IsAt ds (b ∷ outer) at → next_part b at (drop at ds) ≡ tn
    → FailsFirst (checks tn (length (b ∷ outer)) b at (drop at ds)) e → Tells (root_of b.head outer) ds e
tells ds b outer at tn Memory st t f = tt
tells ds b outer at tn (Bad x) st t f = fault_is ds b outer at tn x.bit x.reason st t f

pub field_tells : (ds : List Bool) (kind : Kind) (h : Head) (stop : ℕ) (vs : List ℕ) (outer : List Begun) (at : ℕ) (r : FieldRule) (after : List FieldRule) (e : FrameErr)
    → kind_of_head h ≡ kind → drop (length vs) (fields_of kind) ≡ r ∷ after → IsAt ds (leading h stop vs ∷ outer) at → FailsFirst (field_checks r at stop (drop at ds)) e → Tells (root_of h outer) ds e
unfolding checks
field_tells ds kind h stop vs outer at r after e k d st x =
    tells ds (leading h stop vs) outer at (ReadField r) e st (field_turn h stop vs 0 outer [] r after (ap (λ (j : Kind). drop (length vs) (fields_of j)) k ∙ d) at (drop at ds)) x

pub field_grows : (ds : List Bool) (kind : Kind) (h : Head) (stop : ℕ) (vs ws : List ℕ) (outer : List Begun) (at : ℕ) (r : FieldRule) (after : List FieldRule) (n : ℕ)
    → kind_of_head h ≡ kind → drop (length vs) (fields_of kind) ≡ r ∷ after → at + r.width ≤ stop → n ≡ number (drop at ds) 0 r.width → in_range r n ≡ true → ws ≡ vs ++ n ∷ []
    → IsAt ds (leading h stop vs ∷ outer) at → IsAt ds (leading h stop ws ∷ outer) (at + r.width)
field_grows ds kind h stop vs ws outer at r after n k d le is fit push st =
    let g = grow_field h stop vs outer ds at r after st (ap (λ (j : Kind). drop (length vs) (fields_of j)) k ∙ d) le (ap (in_range r) (sym is) ∙ fit) in
    let P : List ℕ → Type 0 = λ x. IsAt ds (leading h stop x ∷ outer) (at + r.width) in
    subst P (ap (λ (m : ℕ). vs ++ m ∷ []) (sym is) ∙ sym push) g

-- one rule more: a plain field has a value more, a reserved one is zero
pub spread-plain_more : (done : List FieldRule) (r : FieldRule) (ws : List ℕ) (v : ℕ) → r.reserved ≡ false → length ws ≡ length (plain done) → spread (done ++ r ∷ []) (ws ++ v ∷ []) ≡ spread done ws ++ v ∷ []
spread-plain_more [] r [] v e l = rw e refl
spread-plain_more [] r (w ∷ ws) v e l = absurd (omega (arith, l))
spread-plain_more (d ∷ done) r [] v e l =
    (elim d.reserved as (λ b. d.reserved ≡ b → 0 ≡ length (cond (not b) (d ∷ plain done) (plain done)) → (if b then 0 ∷ spread (done ++ r ∷ []) (v ∷ []) else v ∷ spread (done ++ r ∷ []) []) ≡ (if b then 0 ∷ spread done [] else 0 ∷ spread done []) ++ v ∷ [])
    [ true ↦ λ f g. ap (λ (x : List ℕ). 0 ∷ x) (spread-plain_more done r [] v e g) | false ↦ λ f g. absurd (omega (arith, g)) ]) refl l
spread-plain_more (d ∷ done) r (w ∷ ws) v e l =
    (elim d.reserved as (λ b. d.reserved ≡ b → suc (length ws) ≡ length (cond (not b) (d ∷ plain done) (plain done)) → (if b then 0 ∷ spread (done ++ r ∷ []) (w ∷ ws ++ v ∷ []) else w ∷ spread (done ++ r ∷ []) (ws ++ v ∷ [])) ≡ (if b then 0 ∷ spread done (w ∷ ws) else w ∷ spread done ws) ++ v ∷ [])
    [ true ↦ λ f g. ap (λ (x : List ℕ). 0 ∷ x) (spread-plain_more done r (w ∷ ws) v e g) | false ↦ λ f g. ap (λ (x : List ℕ). w ∷ x) (spread-plain_more done r ws v e (omega (arith, g))) ]) refl l

pub spread-reserved_more : (done : List FieldRule) (r : FieldRule) (ws : List ℕ) → r.reserved ≡ true → spread (done ++ r ∷ []) ws ≡ spread done ws ++ 0 ∷ []
spread-reserved_more [] r ws e = rw e refl
spread-reserved_more (d ∷ done) r ws e =
    elim d.reserved as (λ b. (if b then 0 ∷ spread (done ++ r ∷ []) ws else first ws ∷ spread (done ++ r ∷ []) (Rattle.llrp_tree.specs.Lawful.others ws)) ≡ (if b then 0 ∷ spread done ws else first ws ∷ spread done (Rattle.llrp_tree.specs.Lawful.others ws)) ++ 0 ∷ [])
    [ true ↦ ap (λ (x : List ℕ). 0 ∷ x) (spread-reserved_more done r ws e) | false ↦ ap (λ (x : List ℕ). first ws ∷ x) (spread-reserved_more done r (Rattle.llrp_tree.specs.Lawful.others ws) e) ]

-- plain values of all rules come back
pub plain-spread_all : (rules : List FieldRule) (ws : List ℕ) → length ws ≡ length (plain rules) → plain_values rules (spread rules ws) ≡ ws
plain-spread_all [] [] l = refl
plain-spread_all [] (w ∷ ws) l = absurd (omega (arith, l))
plain-spread_all (r ∷ rules) [] l =
    (elim r.reserved as (λ b. r.reserved ≡ b → 0 ≡ length (cond (not b) (r ∷ plain rules) (plain rules)) → plain_values (r ∷ rules) (if b then 0 ∷ spread rules [] else 0 ∷ spread rules []) ≡ [])
    [ true ↦ λ f g. rw f (plain-spread_all rules [] g) | false ↦ λ f g. absurd (omega (arith, g)) ]) refl l
plain-spread_all (r ∷ rules) (w ∷ ws) l =
    (elim r.reserved as (λ b. r.reserved ≡ b → suc (length ws) ≡ length (cond (not b) (r ∷ plain rules) (plain rules)) → plain_values (r ∷ rules) (if b then 0 ∷ spread rules (w ∷ ws) else w ∷ spread rules ws) ≡ w ∷ ws) [
      | true ↦ λ f g. rw f (plain-spread_all rules (w ∷ ws) g)
      | false ↦ λ f g. rw f (ap (λ (x : List ℕ). w ∷ x) (plain-spread_all rules ws (omega (arith, g))))
    ]) refl l

-- ---- tails

octets_first : (n : ℕ) (bs : List ℕ) → AreOctets bs → n ≤ length bs → octets_at n (digits_of_bytes bs) ≡ take n bs
unfolding octets_at
octets_first zero bs o le = refl
octets_first (suc n) [] o le = absurd (omega arith)
octets_first (suc n) (b ∷ bs) o le =
    rw (bytes-cons b bs, Rattle.llrp_tree.proofs.ReadDigits.number_own 8 b (digits_of_bytes bs) o.0, Rattle.llrp_tree.proofs.ReadDigits.drop_own 8 b (digits_of_bytes bs), octets_first n bs o.1 (omega arith)) refl

octets_behind : (n : ℕ) (bs : List ℕ) → AreOctets bs → AreOctets (drop n bs)
octets_behind zero bs o = o
octets_behind (suc n) [] o = tt
octets_behind (suc n) (b ∷ bs) o = octets_behind n bs o.1

-- the octets that are read from some place are those of the bytes there
pub octets_are : (bs : List ℕ) (from n : ℕ) → AreOctets bs → from + n ≤ length bs → octets_at n (drop (8 * from) (digits_of_bytes bs)) ≡ take n (drop from bs)
octets_are bs from n o le = ap (λ (x : List Bool). octets_at n x) (drop-bytes from bs (omega arith)) ∙ octets_first n (drop from bs) (octets_behind from bs o) (omega (arith, length-drop from bs))

tail_octets_are : (form : Tail) (fields bs : List ℕ) (at from to stop : ℕ) → AreOctets bs → stop ≤ length bs → TailSpans form fields (8 * at) (8 * stop) (drop (8 * at) (digits_of_bytes bs)) (8 * from) (8 * to)
    → tail_at form fields (8 * stop - 8 * at) (drop (8 * at) (digits_of_bytes bs)) ≡ take (to - from) (drop from bs)
tail_octets_are form fields bs at from to stop o le s =
    let rest : List Bool = drop (8 * at) (digits_of_bytes bs) in
    let n : ℕ = tail_length form fields (8 * stop - 8 * at) rest in
    let is_from : from ≡ at + count_octets form = omega (arith, s.begins) in
    let many : n ≡ to - from = omega (arith, s.begins, s.ends) in
    let place : 8 * count_octets form + 8 * at ≡ 8 * from = omega arith in
    ap (λ (x : List Bool). octets_at n x) (drop-drop (8 * count_octets form) (8 * at) (digits_of_bytes bs) ∙ ap (λ (k : ℕ). drop k (digits_of_bytes bs)) (omega arith))
    ∙ ap (λ (k : ℕ). octets_at k (drop (8 * from) (digits_of_bytes bs))) many
    ∙ octets_are bs from (to - from) o (omega (arith, s.within, s.begins, s.ends))

is_absent : (form : Tail) → has_tail form ≡ false → form ≡ Absent
is_absent Absent e = refl
is_absent Words e = absurd cc
is_absent Text e = absurd cc
is_absent Bits e = absurd cc
is_absent Data e = absurd cc

fails_with_tail : (form : Tail) (fields : List ℕ) (at stop : ℕ) (ds : List Bool) (e : FrameErr) → FailsFirst (tail_checks form fields at stop ds) e → has_tail form ≡ true
fails_with_tail Absent fields at stop ds Memory f = absurd f
fails_with_tail Absent fields at stop ds (Bad x) f = absurd cc
fails_with_tail Words fields at stop ds e f = refl
fails_with_tail Text fields at stop ds e f = refl
fails_with_tail Bits fields at stop ds e f = refl
fails_with_tail Data fields at stop ds Memory f = absurd f
fails_with_tail Data fields at stop ds (Bad x) f = absurd cc

-- data has all octets up to the stop
pub data_spans : (fields : List ℕ) (at stop : ℕ) (rest : List Bool) → at ≤ stop → TailSpans Data fields (8 * at) (8 * stop) rest (8 * at) (8 * stop)
data_spans fields at stop rest le = record { begins = omega arith; ends = omega arith; within = omega arith; text = λ e. absurd cc }

all_spread : (rules : List FieldRule) (ws : List ℕ) → drop (length (spread rules ws)) rules ≡ []
all_spread rules ws = drop_all rules (length (spread rules ws)) (length-spread rules ws)

pub tail_tells : (ds : List Bool) (kind : Kind) (h : Head) (stop : ℕ) (ws : List ℕ) (outer : List Begun) (at : ℕ) (e : FrameErr)
    → kind_of_head h ≡ kind → length ws ≡ length (plain (fields_of kind)) → IsAt ds (leading h stop (spread (fields_of kind) ws) ∷ outer) at → FailsFirst (tail_checks (tail_of kind) ws at stop (drop at ds)) e → Tells (root_of h outer) ds e
unfolding checks
tail_tells ds kind h stop ws outer at e k l st f =
    let rules : List FieldRule = fields_of kind in
    let vs : List ℕ = spread rules ws in
    let back = plain-spread_all rules ws l in
    let has = fails_with_tail (tail_of kind) ws at stop (drop at ds) e f in
    let P : Kind → Type 0 = λ j. FailsFirst (tail_checks (tail_of j) (plain_values (fields_of j) vs) at stop (drop at ds)) e in
    tells ds (leading h stop vs) outer at ReadTail e st
    (tail_turn h stop vs [] outer [] at (drop at ds) (ap (λ (j : Kind). drop (length vs) (fields_of j)) k ∙ all_spread rules ws) (ap (λ (j : Kind). has_tail (tail_of j)) k ∙ has))
    (subst P (sym k) (subst (λ (x : List ℕ). FailsFirst (tail_checks (tail_of kind) x at stop (drop at ds)) e) (sym back) f))

pub tail_grows : (bs : List ℕ) (h : Head) (stop : ℕ) (ws : List ℕ) (outer : List Begun) (at from to : ℕ) (os : List ℕ) → length ws ≡ length (plain (fields_of (kind_of_head h))) → AreOctets bs → stop ≤ length bs
    → TailSpans (tail_of (kind_of_head h)) ws (8 * at) (8 * stop) (drop (8 * at) (digits_of_bytes bs)) (8 * from) (8 * to) → os ≡ take (to - from) (drop from bs)
    → IsAt (digits_of_bytes bs) (leading h (8 * stop) (spread (fields_of (kind_of_head h)) ws) ∷ outer) (8 * at)
    → IsAt (digits_of_bytes bs) (begin_node h (8 * stop) (spread (fields_of (kind_of_head h)) ws) (as_read (tail_of (kind_of_head h)) os) none ∷ outer) (8 * to)
tail_grows bs h stop ws outer at from to os l o le s is st =
    let ds : List Bool = digits_of_bytes bs in
    let form : Tail = tail_of (kind_of_head h) in
    let rules : List FieldRule = fields_of (kind_of_head h) in
    let vs : List ℕ = spread rules ws in
    let rest : List Bool = drop (8 * at) ds in
    let back = plain-spread_all rules ws l in
    (elim (has_tail form) as (λ b. has_tail form ≡ b → IsAt ds (begin_node h (8 * stop) vs (if b then Some os else None) none ∷ outer) (8 * to)) [
      | true ↦ λ has.
          let again : tail_at form (plain_values rules vs) (8 * stop - 8 * at) rest ≡ os = ap (λ (x : List ℕ). tail_at form x (8 * stop - 8 * at) rest) back ∙ tail_octets_are form ws bs at from to stop o le s ∙ sym is in
          let end : tail_end form (plain_values rules vs) (8 * at) (8 * stop) rest ≡ 8 * to = ap (λ (x : List ℕ). tail_end form x (8 * at) (8 * stop) rest) back ∙ sym s.ends in
          let within = s.within in
          let g = grow_tail h (8 * stop) vs outer ds (8 * at) st (length-spread rules ws) has (omega (arith, end)) (λ t. ap (λ (x : List ℕ). is_utf8 (tail_at form x (8 * stop - 8 * at) rest)) back ∙ s.text t) in
          subst (λ (x : List ℕ). IsAt ds (begin_node h (8 * stop) vs (Some x) none ∷ outer) (8 * to)) again (subst (λ (n : ℕ). IsAt ds (begin_node h (8 * stop) vs (Some (tail_at form (plain_values rules vs) (8 * stop - 8 * at) rest)) none ∷ outer) n) end g)
      | false ↦ λ has.
          let absent = is_absent form has in
          let end : 8 * to ≡ 8 * at = s.ends ∙ ap (λ (f : Tail). tail_end f ws (8 * at) (8 * stop) rest) absent ∙ omega arith in
          subst (λ (n : ℕ). IsAt ds (begin_node h (8 * stop) vs None none ∷ outer) n) (sym end) st
    ]) refl

pub tail_grown : (bs : List ℕ) (kind : Kind) (h : Head) (stop : ℕ) (ws : List ℕ) (outer : List Begun) (at from to : ℕ) (os : List ℕ) → kind_of_head h ≡ kind → length ws ≡ length (plain (fields_of kind)) → AreOctets bs → stop ≤ length bs
    → TailSpans (tail_of kind) ws (8 * at) (8 * stop) (drop (8 * at) (digits_of_bytes bs)) (8 * from) (8 * to) → os ≡ take (to - from) (drop from bs)
    → IsAt (digits_of_bytes bs) (leading h (8 * stop) (spread (fields_of kind) ws) ∷ outer) (8 * at)
    → IsAt (digits_of_bytes bs) (begin_node h (8 * stop) (spread (fields_of kind) ws) (as_read (tail_of kind) os) none ∷ outer) (8 * to)
tail_grown bs kind h stop ws outer at from to os k =
    let P : Kind → Type 0 = λ j. length ws ≡ length (plain (fields_of j)) → AreOctets bs → stop ≤ length bs
    → TailSpans (tail_of j) ws (8 * at) (8 * stop) (drop (8 * at) (digits_of_bytes bs)) (8 * from) (8 * to) → os ≡ take (to - from) (drop from bs)
    → IsAt (digits_of_bytes bs) (leading h (8 * stop) (spread (fields_of j) ws) ∷ outer) (8 * at)
    → IsAt (digits_of_bytes bs) (begin_node h (8 * stop) (spread (fields_of j) ws) (as_read (tail_of j) os) none ∷ outer) (8 * to) in
    subst P k (tail_grows bs h stop ws outer at from to os)

-- ---- the rules of a kind, as the code has them

-- the element at a place, as a rule
pub rule_at : (fs : List Field) (kind : Kind) (i : ℕ) (d : Field) (ws : List ℕ) → map field_rule fs ≡ fields_of kind → i < length fs
    → drop (length (spread (take i (map field_rule fs)) ws)) (fields_of kind) ≡ field_rule (get_or fs i d) ∷ drop (suc i) (map field_rule fs)
rule_at fs kind i d ws same lt =
    let all : length (map field_rule fs) ≡ length fs = length-map fs field_rule in
    let many : length (spread (take i (map field_rule fs)) ws) ≡ i = length-spread (take i (map field_rule fs)) ws ∙ length-take-le i (map field_rule fs) (omega arith) in
    ap (λ (n : ℕ). drop n (fields_of kind)) many ∙ ap (λ (x : List FieldRule). drop i x) (sym same)
    ∙ drop-cons (map field_rule fs) i (field_rule d) (omega arith)
    ∙ ap (λ (x : FieldRule). x ∷ drop (suc i) (map field_rule fs)) (get_or-map field_rule fs i d)

pub rule_width : (fs : List Field) (kind : Kind) (i : ℕ) (d : Field) → map field_rule fs ≡ fields_of kind → i < length fs → (1 ≤ (get_or fs i d).width) × ((get_or fs i d).width ≤ 96)
rule_width fs kind i d same lt =
    let long : i < length (fields_of kind) = (let a = length-map fs field_rule in let b = ap (λ (x : List FieldRule). length x) same in omega arith) in
    let w = field_widths kind i (field_rule d) long in
    subst (λ (r : FieldRule). (1 ≤ r.width) × (r.width ≤ 96)) (ap (λ (x : List FieldRule). get_or x i (field_rule d)) (sym same) ∙ get_or-map field_rule fs i d) w

-- the rules up to one more
pub taken_more : (fs : List Field) (i : ℕ) (d : Field) → i < length fs → take (i + 1) (map field_rule fs) ≡ take i (map field_rule fs) ++ field_rule (get_or fs i d) ∷ []
taken_more fs i d lt = take_more (map field_rule fs) i (field_rule d) (let a = length-map fs field_rule in omega arith) ∙ ap (λ (r : FieldRule). take i (map field_rule fs) ++ r ∷ []) (get_or-map field_rule fs i d)

pub all_taken : (fs : List Field) (kind : Kind) (i : ℕ) → map field_rule fs ≡ fields_of kind → length fs ≤ i → take i (map field_rule fs) ≡ fields_of kind
all_taken fs kind i same le = take_all i (map field_rule fs) (let a = length-map fs field_rule in omega arith) ∙ same

plain-append : (xs ys : List FieldRule) → plain (xs ++ ys) ≡ plain xs ++ plain ys
plain-append xs ys = filter-append (λ field. not field.reserved) xs ys

pub plain-one : (r : FieldRule) → r.reserved ≡ false → length (plain (r ∷ [])) ≡ 1
plain-one r e = rw e refl

pub plain-none : (r : FieldRule) → r.reserved ≡ true → length (plain (r ∷ [])) ≡ 0
plain-none r e = rw e refl

-- a plain field has a place
pub plain_has_room : (fs : List Field) (kind : Kind) (i : ℕ) (d : Field) (ws : List ℕ) → map field_rule fs ≡ fields_of kind → i < length fs → (get_or fs i d).reserved ≡ false → length ws ≡ length (plain (take i (map field_rule fs))) → length ws < 12
plain_has_room fs kind i d ws same lt e l =
    let r : FieldRule = field_rule (get_or fs i d) in
    let few = few_plain_fields kind in
    let split : fields_of kind ≡ (take i (map field_rule fs) ++ r ∷ []) ++ drop (i + 1) (map field_rule fs) = sym same ∙ sym (take-append-drop (i + 1) (map field_rule fs)) ∙ ap (λ (x : List FieldRule). x ++ drop (i + 1) (map field_rule fs)) (taken_more fs i d lt) in
    let a = ap (λ (x : List FieldRule). length (plain x)) split in
    let b = ap (λ (x : List FieldRule). length x) (plain-append (take i (map field_rule fs) ++ r ∷ []) (drop (i + 1) (map field_rule fs))) in
    let c = length-append (plain (take i (map field_rule fs) ++ r ∷ [])) (plain (drop (i + 1) (map field_rule fs))) in
    let f = ap (λ (x : List FieldRule). length x) (plain-append (take i (map field_rule fs)) (r ∷ [])) in
    let g = length-append (plain (take i (map field_rule fs))) (plain (r ∷ [])) in
    let h = plain-one r e in
    omega arith

pub width_more : (fs : List Field) (i : ℕ) (d : Field) → i < length fs → bits_of (take (i + 1) (map field_rule fs)) ≡ bits_of (take i (map field_rule fs)) + (get_or fs i d).width
width_more fs i d lt = ap bits_of (taken_more fs i d lt) ∙ sum_by_push (λ (r : FieldRule). r.width) (take i (map field_rule fs)) (field_rule (get_or fs i d))

pub count_plain : (fs : List Field) (i : ℕ) (d : Field) → i < length fs → (get_or fs i d).reserved ≡ false → length (plain (take (i + 1) (map field_rule fs))) ≡ length (plain (take i (map field_rule fs))) + 1
count_plain fs i d lt e =
    let r : FieldRule = field_rule (get_or fs i d) in
    let f = ap (λ (x : List FieldRule). length (plain x)) (taken_more fs i d lt) in
    let g = ap (λ (x : List FieldRule). length x) (plain-append (take i (map field_rule fs)) (r ∷ [])) in
    let h = length-append (plain (take i (map field_rule fs))) (plain (r ∷ [])) in
    let k = plain-one r e in
    omega arith

pub count_reserved : (fs : List Field) (i : ℕ) (d : Field) → i < length fs → (get_or fs i d).reserved ≡ true → length (plain (take (i + 1) (map field_rule fs))) ≡ length (plain (take i (map field_rule fs)))
count_reserved fs i d lt e =
    let r : FieldRule = field_rule (get_or fs i d) in
    let f = ap (λ (x : List FieldRule). length (plain x)) (taken_more fs i d lt) in
    let g = ap (λ (x : List FieldRule). length x) (plain-append (take i (map field_rule fs)) (r ∷ [])) in
    let h = length-append (plain (take i (map field_rule fs))) (plain (r ∷ [])) in
    let k = plain-none r e in
    omega arith

-- what a loop over the rules has read, with one field more
module _ (ds : List Bool) (fs : List Field) (kind : Kind) (i : ℕ) (d : Field) (h : Head) (stop : ℕ) (ws : List ℕ) (outer : List Begun) (at v : ℕ)
    (same : map field_rule fs ≡ fields_of kind) (lt : i < length fs) (k : kind_of_head h ≡ kind) (st : IsAt ds (leading h stop (spread (take i (map field_rule fs)) ws) ∷ outer) at) where
  abbrev rule : FieldRule
  rule = field_rule (get_or fs i d)

  pub rule_tells : (e : FrameErr) → FailsFirst (field_checks (field_rule (get_or fs i d)) at stop (drop at ds)) e → Tells (root_of h outer) ds e
  rule_tells e f = field_tells ds kind h stop (spread (take i (map field_rule fs)) ws) outer at rule (drop (suc i) (map field_rule fs)) e k (rule_at fs kind i d ws same lt) st f

  module _ (fit : at + (get_or fs i d).width ≤ stop) (is : v ≡ number (drop at ds) 0 (get_or fs i d).width) (ranges : in_range (field_rule (get_or fs i d)) v ≡ true) where
    grown_to : (us : List ℕ) → us ≡ spread (take i (map field_rule fs)) ws ++ v ∷ [] → IsAt ds (leading h stop us ∷ outer) (at + (get_or fs i d).width)
    grown_to us e = field_grows ds kind h stop (spread (take i (map field_rule fs)) ws) us outer at rule (drop (suc i) (map field_rule fs)) v k (rule_at fs kind i d ws same lt) fit is ranges e st

    pub plain_grows : (news : List ℕ) → (get_or fs i d).reserved ≡ false → length ws ≡ length (plain (take i (map field_rule fs))) → news ≡ ws ++ v ∷ [] → IsAt ds (leading h stop (spread (take (i + 1) (map field_rule fs)) news) ∷ outer) (at + (get_or fs i d).width)
    plain_grows news e l push = grown_to (spread (take (i + 1) (map field_rule fs)) news) (ap (λ (x : List FieldRule). spread x news) (taken_more fs i d lt) ∙ ap (λ (x : List ℕ). spread (take i (map field_rule fs) ++ rule ∷ []) x) push ∙ spread-plain_more (take i (map field_rule fs)) rule ws v e l)

    pub reserved_grows : (get_or fs i d).reserved ≡ true → IsAt ds (leading h stop (spread (take (i + 1) (map field_rule fs)) ws) ∷ outer) (at + (get_or fs i d).width)
    reserved_grows e =
        let zero_is : v ≡ 0 = eqb-true v 0 (sym (ap (λ (b : Bool). if b then v == 0 else nat_le v (get_or fs i d).greatest) e) ∙ ranges) in
        grown_to (spread (take (i + 1) (map field_rule fs)) ws) (ap (λ (x : List FieldRule). spread x ws) (taken_more fs i d lt) ∙ spread-reserved_more (take i (map field_rule fs)) rule ws e ∙ ap (λ (n : ℕ). spread (take i (map field_rule fs)) ws ++ n ∷ []) (sym zero_is))
