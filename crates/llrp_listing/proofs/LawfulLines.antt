-- The lines of lawful messages are said, and can be closed.
use Rattle.std.proofs.Common.{◌≡◌, ℕ, suc, ◌+◌, ◌*◌, ◌^◌, ◌<◌, ◌≤◌, Bool, true, false, cond, List, [], ◌∷◌, ◌++◌, map, filter, not, length, None, Some, refl, sym, ap, subst, ◌∙◌, arith, decimal, append_assoc, length-append}
use Rattle.std.specs.Prelude.{nat_lt, if◌then◌else◌}
use Rattle.std.specs.List.{AllZip, flat_map, list_all}
use Rattle.std.proofs.Math.Nat.{le-max_left, le-max_right, max-le}
use Rattle.std.proofs.lemmas.List.{append-nil}
use Rattle.llrp_schema.specs.declared.kinds.Kind.{Kind}
use Rattle.llrp_schema.specs.declared.kinds.Kind.TheVariants.{Message, Parameter}
use Rattle.llrp_schema.specs.declared.kinds.KindSet.{KindSet}
use Rattle.llrp_schema.specs.declared.kinds.KindSet.TheVariants.{Profile, Standard}
use Rattle.llrp_schema.specs.declared.kinds.Tail.{Tail}
use Rattle.llrp_schema.specs.declared.kinds.Tail.TheVariants.{Absent, Words, Text, Bits, Data}
use Rattle.llrp_schema.specs.Schema.{FieldRule, fields_of, groups_of, is_tv, plain_fields_of, set_of_kind, rule_of, message_rule, param_rule, message_kinds, param_kinds, whole_message_kinds, whole_param_kinds, tail_of}
use Rattle.llrp_schema.proofs.PlaceLemmas.{child_set}
use Rattle.llrp_schema.proofs.TableLaws.{every_rule, message_tail}
use Rattle.llrp_tree.specs.declared.TheConstants.{MAX_DEPTH}
use Rattle.llrp_tree.specs.Tree as tree
use Rattle.llrp_tree.specs.Tree.{MessageTree}
use Rattle.llrp_tree.specs.Lawful.{levels, octets, head_octets, body_octets, AreInRange, AreOctets, ArePlaced, IsTail, AreLawful, AllLawful, IsLawfulMessage, message_octets}
use Rattle.llrp_tree.specs.Checks.{first_fault, first_message_fault}
use Rattle.llrp_tree.proofs.LawLemmas.{lawful_exactly, message_exactly}
use Rattle.llrp_tree.proofs.LengthLemmas.{frame_length}
use Rattle.llrp_stream.specs.Items.{FrameIn}
use Rattle.llrp_listing.specs.declared.outcome.Refusal.TheVariants.{OverLimit}
use Rattle.llrp_listing.specs.Encoding.{AreSpelled}
use Rattle.llrp_listing.specs.FirstRefusal.{AllClose}
use Rattle.llrp_listing.specs.Calls.FirstRefusal.{Lists}
use Rattle.llrp_listing.specs.LineChecks.{IsOpenLevel, IsInForm, AreInForm, IsTailOf, SaysNode, SaysLine, longest}
use Rattle.llrp_listing.specs.Lines.{TextLine, Ended, lines_of}
use Rattle.llrp_listing.specs.Calls.ListingLaws.{AreShort}
use Rattle.llrp_listing.specs.ListingRules.{closing, node_refusal, message_refusal, lines_onto, row, rules_for}
use Rattle.llrp_listing.specs.MessageListing.{parameter_lines, message_lines, messages_lines, IsListingOf}
use Rattle.llrp_listing.specs.NodeLine.{NodeLine, NumberForm, Version, Id, Unsigned, Signed, Epc, field_form, number_forms, spaced, message_line, parameter_line, IsLine}
use Rattle.llrp_listing.specs.OpenText.{Outline, end, node}
use Rattle.llrp_listing.proofs.Cutting.{ended}
use Rattle.tag_uri.proofs.UriLemmas.{left, right}
use Rattle.llrp_listing.proofs.LineShape.{rest_words, rest_visible, level_visible, line_printed, printed_no_lf}
use Rattle.llrp_listing.proofs.ShortLines.{few_in, line_octets, line_short, most_octets}
use Rattle.llrp_listing.proofs.TreeLines.{parameters_back, nodes_row}

-- ---- numbers in their ranges are in their forms

abbrev fits_form : NumberForm → ℕ → Bool
fits_form Version g = false
fits_form Id g = false
fits_form Unsigned g = nat_lt g (10 ^ 20)
fits_form Signed g = nat_lt g (2 ^ 8)
fits_form Epc g = nat_lt g (2 ^ 96)

abbrev fits : FieldRule → Bool
fits r = fits_form (field_form r) r.greatest

all_fit : (kind : Kind) → list_all fits (plain_fields_of kind) ≡ true
unfolding fields_of rule_of message_rule param_rule message_kinds whole_message_kinds param_kinds whole_param_kinds
all_fit kind = every_rule (λ row. list_all fits (filter (λ field. not field.reserved) row.fields)) (refl, refl) (refl, refl) kind

pub below : (v g m : ℕ) → nat_lt g m ≡ true → v ≤ g → v < m
below v g m h le = grind arith

in_form : (f : NumberForm) (g v : ℕ) → fits_form f g ≡ true → v ≤ g → IsInForm f v
in_form Version g v h le = let no : ⊥ = cc in absurd no
in_form Id g v h le = let no : ⊥ = cc in absurd no
in_form Unsigned g v h le = below v g (10 ^ 20) h le
in_form Signed g v h le = below v g (2 ^ 8) h le
in_form Epc g v h le = below v g (2 ^ 96) h le

all_in_form : (rs : List FieldRule) (vs : List ℕ) → list_all fits rs ≡ true → AreInRange rs vs → AreInForm (map field_form rs) vs
all_in_form [] [] h p = tt
all_in_form [] (v ∷ vs) h p = absurd p
all_in_form (r ∷ rs) [] h p = absurd p
all_in_form (r ∷ rs) (v ∷ vs) h p = (in_form (field_form r) r.greatest v (left _ _ h) p.0, all_in_form rs vs (right _ _ h) p.1)

parameter_in_form : (kind : _) (vs : List ℕ) → AreInRange (plain_fields_of (Parameter kind)) vs → AreInForm (number_forms (Parameter kind)) vs
unfolding number_forms
parameter_in_form kind vs p = all_in_form (plain_fields_of (Parameter kind)) vs (all_fit (Parameter kind)) p

message_in_form : (m : MessageTree) → IsLawfulMessage m → AreInForm (number_forms (Message m.kind)) (m.version ∷ m.id ∷ m.fields)
unfolding number_forms
message_in_form m l = (l.version, (l.id, all_in_form (plain_fields_of (Message m.kind)) m.fields (all_fit (Message m.kind)) l.obeys.ranges))

tail_form : (form : Tail) (fields tail : List ℕ) → IsTail form fields tail → AreOctets tail → IsTailOf form tail
tail_form Absent fields tail t os = t
tail_form Words fields tail t os = (os, (t.0, t.2))
tail_form Text fields tail t os = os
tail_form Bits fields tail t os = os
tail_form Data fields tail t os = os

-- ---- lines that can be said

-- The parts of a line are in their forms, at a level that may be.
pub record Well (e : ℕ × NodeLine) : Type 0 where
  deep : e.0 ≤ MAX_DEPTH
  placed : IsOpenLevel e.0 e.1.kind
  numbers : AreInForm (number_forms e.1.kind) e.1.numbers
  tail : IsTailOf (tail_of e.1.kind) e.1.tail
  few : length e.1.tail ≤ most_octets (set_of_kind e.1.kind)

abbrev pub AllWell : List (ℕ × NodeLine) → Type 0
AllWell [] = Unit {0}
AllWell (e ∷ es) = Well e × AllWell es

well_append : (a b : List (ℕ × NodeLine)) → AllWell a → AllWell b → AllWell (a ++ b)
well_append [] b p q = q
well_append (e ∷ a) b p q = (p.0, well_append a b p.1 q)

few_octets : (kind : _) (fields tail : List ℕ) (children : tree.Forest) → AreLawful kind fields tail children → length tail ≤ 65535
unfolding body_octets
few_octets kind fields tail children l = omega (arith, l.long)

parameter_well : (level : ℕ) (kind : _) (fields tail : List ℕ) (children : tree.Forest) → 1 ≤ level → level ≤ MAX_DEPTH → AreLawful kind fields tail children → Well (level, parameter_line kind fields tail)
parameter_well level kind fields tail children least deep l = record {
  deep = deep;
  placed = least;
  numbers = parameter_in_form kind fields l.obeys.ranges;
  tail = tail_form (tail_of (Parameter kind)) fields tail l.obeys.form l.obeys.bytes;
  few = few_in (set_of_kind (Parameter kind)) (few_octets kind fields tail children l);
}

parameters_well : (level : ℕ) (f : tree.Forest) → 1 ≤ level → levels f + level ≤ MAX_DEPTH + 1 → AllLawful f → AllWell (parameter_lines level f)
parameters_well level tree.none least deep h = tt
parameters_well level (tree.and before kind fields tail children) least deep h =
    let a = le-max_left (levels before) (levels children + 1) in
    let b = le-max_right (levels before) (levels children + 1) in
    well_append (parameter_lines level before) ((level, parameter_line kind fields tail) ∷ parameter_lines (suc level) children) (parameters_well level before least (omega (arith, deep, a)) h.0)
    (parameter_well level kind fields tail children least (omega (arith, deep, b)) h.1, parameters_well (suc level) children (omega arith) (omega (arith, deep, b)) h.2)

few_levels : (f : tree.Forest) → AllLawful f → levels f ≤ MAX_DEPTH
few_levels tree.none h = omega arith
few_levels (tree.and before kind fields tail children) h = max-le (few_levels before h.0) h.1.deep

few_data : (m : MessageTree) → IsLawfulMessage m → length m.tail ≤ most_octets (set_of_kind (Message m.kind))
unfolding body_octets
few_data m l = by_set (set_of_kind (Message m.kind)) refl
  where
    none_of : (form : Tail) → form ≡ Absent → IsTail form m.fields m.tail → m.tail ≡ []
    none_of form e t = subst (λ (f : Tail). IsTail f m.fields m.tail) e t

    by_set : (p : KindSet) → set_of_kind (Message m.kind) ≡ p → length m.tail ≤ most_octets p
    by_set Profile own = omega (arith, ap (λ (x : List ℕ). length x) (none_of (tail_of (Message m.kind)) (message_tail m.kind own) l.obeys.form))
    by_set Standard own = omega (arith, l.long)

message_well : (m : MessageTree) → IsLawfulMessage m → AllWell (message_lines m)
message_well m l = (
  record { deep = omega arith; placed = refl; numbers = message_in_form m l; tail = tail_form (tail_of (Message m.kind)) m.fields m.tail l.obeys.form l.obeys.bytes; few = few_data m l },
  parameters_well 1 m.children (omega arith) (omega (arith, few_levels m.children l.children)) l.children,
)

-- ---- they are of one set

-- each line is of a kind of the profile
abbrev pub AreOf : KindSet → List (ℕ × NodeLine) → Type 0
AreOf p [] = Unit {0}
AreOf p (e ∷ es) = (set_of_kind e.1.kind ≡ p) × AreOf p es

of_append : (p : KindSet) (a b : List (ℕ × NodeLine)) → AreOf p a → AreOf p b → AreOf p (a ++ b)
of_append p [] b h k = k
of_append p (e ∷ a) b h k = (h.0, of_append p a b h.1 k)

-- parameters are of the profile of what they are below
parameters_of_set : (p : KindSet) (level : ℕ) (parent : Kind) (f : tree.Forest) → set_of_kind parent ≡ p → ArePlaced (groups_of parent) f → AllLawful f → AreOf p (parameter_lines level f)
unfolding ArePlaced
parameters_of_set p level parent tree.none is placed h = tt
parameters_of_set p level parent (tree.and before kind fields tail children) is placed h =
    let here : set_of_kind (Parameter kind) ≡ p = child_set parent kind placed.1 ∙ is in
    of_append p (parameter_lines level before) ((level, parameter_line kind fields tail) ∷ parameter_lines (suc level) children) (parameters_of_set p level parent before is placed.0 h.0)
    (here, parameters_of_set p (suc level) (Parameter kind) children here h.1.obeys.placed h.2)

message_of_profile : (p : KindSet) (m : MessageTree) → set_of_kind (Message m.kind) ≡ p → IsLawfulMessage m → AreOf p (message_lines m)
message_of_profile p m is l = (is, parameters_of_set p 1 (Message m.kind) m.children is l.obeys.placed l.children)

-- ---- they are said

said_line : {p : KindSet} (e : ℕ × NodeLine) (t : List ℕ) → (z : IsLine e t) → set_of_kind e.1.kind ≡ p → Well e → SaysNode p (decimal e.0 ++ spaced (rest_words e.1 z.numbers)) e.0 e.1
said_line e t z own w = record {
  short = subst (λ (q : KindSet). length (decimal e.0 ++ spaced (rest_words e.1 z.numbers)) ≤ longest q) own (line_short e.0 e.1 z.numbers w.deep w.numbers z.are w.tail w.few);
  deep = w.deep;
  placed = w.placed;
  own = own;
  numbers = w.numbers;
  tail = w.tail;
  text = record { numbers = z.numbers; are = z.are; text_is = append_assoc (decimal e.0) (spaced (rest_words e.1 z.numbers)) (10 ∷ []) };
}

-- a well-formed line is at most so long, with its LF
pub line_bound : (e : ℕ × NodeLine) (t : List ℕ) → IsLine e t → Well e → length t ≤ suc (longest (set_of_kind e.1.kind))
line_bound e t z w =
    let bytes = decimal e.0 ++ spaced (rest_words e.1 z.numbers) in
    let is : t ≡ bytes ++ (10 ∷ []) = z.text_is ∙ sym (append_assoc (decimal e.0) (spaced (rest_words e.1 z.numbers)) (10 ∷ [])) in
    omega (arith, ap length is, length-append bytes (10 ∷ []), line_short e.0 e.1 z.numbers w.deep w.numbers z.are w.tail w.few)

said_lines : (p : KindSet) (es : List (ℕ × NodeLine)) (ts : List (List ℕ)) → AllZip IsLine es ts → AreOf p es → AllWell es → AllZip (SaysLine p) (lines_of (flat_map (λ line. line) ts)) es
unfolding lines_of
said_lines p [] [] z o w = tt
said_lines p [] (t ∷ ts) z o w = absurd z
said_lines p (e ∷ es) [] z o w = absurd z
said_lines p (e ∷ es) (t ∷ ts) z o w =
    let texts = z.0.numbers in
    let bytes = decimal e.0 ++ spaced (rest_words e.1 texts) in
    let more = flat_map (λ (line : List ℕ). line) ts in
    let is : t ≡ bytes ++ (10 ∷ []) = z.0.text_is ∙ sym (append_assoc (decimal e.0) (spaced (rest_words e.1 texts)) (10 ∷ [])) in
    let printed = line_printed (decimal e.0) (rest_words e.1 texts) (level_visible e.0 w.0.deep) (rest_visible e.1 texts w.0.numbers z.0.are w.0.tail) in
    let cut : lines_of (t ++ more) ≡ Ended bytes ∷ lines_of more = ap (λ (x : List ℕ). lines_of (x ++ more)) is ∙ ap lines_of (append_assoc bytes (10 ∷ []) more) ∙ ended bytes more (printed_no_lf bytes printed) in
    subst (λ (x : List TextLine). AllZip (SaysLine p) x (e ∷ es)) (sym cut) (said_line e t z.0 o.0 w.0, said_lines p es ts z.1 o.1 w.1)

-- ---- they can be closed

parameters_close : (limit : ℕ) (f : tree.Forest) (after : Outline NodeLine) → AllLawful f → AllClose (closing limit) after → AllClose (closing limit) (lines_onto f after)
parameters_close limit tree.none after h c = c
parameters_close limit (tree.and before kind fields tail children) after h c =
    let l = h.1 in
    let e : closing limit (parameter_line kind fields tail) (lines_onto children end) ≡ None = ap node_refusal (ap (first_fault kind fields tail) (parameters_back children) ∙ (lawful_exactly kind fields tail children l.obeys.bytes).0 l) in
    parameters_close limit before (node (parameter_line kind fields tail) (lines_onto children end) after) h.0 (e, parameters_close limit children end h.2 tt, c)

message_closes : (limit : ℕ) (m : MessageTree) → IsLawfulMessage m → message_octets m ≤ limit → closing limit (message_line m) (lines_onto m.children end) ≡ None
message_closes limit m l le =
    ap (λ (f : tree.Forest). message_refusal limit (record m { children = f }) (first_message_fault m.version m.kind m.fields m.tail f)) (parameters_back m.children)
    ∙ ap (message_refusal limit m) ((message_exactly m l.id l.obeys.bytes l.children).0 l) ∙ within limit (message_octets m) le
  where
    within : (limit n : ℕ) → n ≤ limit → (if nat_lt limit n then Some OverLimit else None) ≡ None
    within limit n le = let f : nat_lt limit n ≡ false = grind arith in rw f refl

-- the messages of a set of kinds with these frames
abbrev Frames : KindSet → ℕ → List MessageTree → List (List ℕ) → Type 0
Frames p limit ms frames = AllZip (λ m frame. FrameIn p m frame limit) ms frames

row_closes : (p : KindSet) (limit : ℕ) (ms : List MessageTree) (frames : List (List ℕ)) → Frames p limit ms frames → AllClose (closing limit) (row ms)
row_closes p limit [] frames z = tt
row_closes p limit (m ∷ ms) [] z = absurd z
row_closes p limit (m ∷ ms) (b ∷ frames) z =
    (message_closes limit m z.0.frame.lawful (omega (arith, frame_length m b limit z.0.frame, z.0.frame.short)), parameters_close limit m.children end z.0.frame.lawful.children tt, row_closes p limit ms frames z.1)

row_well : (p : KindSet) (limit : ℕ) (ms : List MessageTree) (frames : List (List ℕ)) → Frames p limit ms frames → AllWell (messages_lines ms)
row_well p limit [] frames z = tt
row_well p limit (m ∷ ms) [] z = absurd z
row_well p limit (m ∷ ms) (b ∷ frames) z = well_append (message_lines m) (messages_lines ms) (message_well m z.0.frame.lawful) (row_well p limit ms frames z.1)

row_own : (p : KindSet) (limit : ℕ) (ms : List MessageTree) (frames : List (List ℕ)) → Frames p limit ms frames → AreOf p (messages_lines ms)
row_own p limit [] frames z = tt
row_own p limit (m ∷ ms) [] z = absurd z
row_own p limit (m ∷ ms) (b ∷ frames) z = of_append p (message_lines m) (messages_lines ms) (message_of_profile p m z.0.own z.0.frame.lawful) (row_own p limit ms frames z.1)

-- the listing of messages lists their lines
pub lists : {p : KindSet} (limit : ℕ) (text bytes : List ℕ) (ms : List MessageTree) → IsListingOf ms text → AreSpelled p limit ms bytes → Lists (rules_for p limit) (lines_of text) (row ms)
lists {p} limit text bytes ms l s =
    let said : AllZip (SaysLine p) (lines_of text) (messages_lines ms) = subst (λ (t : List ℕ). AllZip (SaysLine p) (lines_of t) (messages_lines ms)) (sym l.text_is) (said_lines p (messages_lines ms) l.texts l.each (row_own p limit ms s.frames s.each) (row_well p limit ms s.frames s.each)) in
    record { says = subst (λ (es : List (ℕ × NodeLine)). AllZip (SaysLine p) (lines_of text) es) (sym (nodes_row ms)) said; close = row_closes p limit ms s.frames s.each }

-- each line is that long at most
pub lines_bound : (p : KindSet) (es : List (ℕ × NodeLine)) (ts : List (List ℕ)) → AllZip IsLine es ts → AreOf p es → AllWell es → AreShort p ts
lines_bound p [] [] z o w = tt
lines_bound p [] (t ∷ ts) z o w = absurd z
lines_bound p (e ∷ es) [] z o w = absurd z
lines_bound p (e ∷ es) (t ∷ ts) z o w = (subst (λ (q : KindSet). length t ≤ suc (longest q)) o.0 (line_bound e t z.0 w.0), lines_bound p es ts z.1 o.1 w.1)

-- the lines of a lawful message are short
pub message_bound : (m : MessageTree) (ts : List (List ℕ)) → IsLawfulMessage m → AllZip IsLine (message_lines m) ts → AreShort (set_of_kind (Message m.kind)) ts
message_bound m ts l z = lines_bound (set_of_kind (Message m.kind)) (message_lines m) ts z (message_of_profile (set_of_kind (Message m.kind)) m refl l) (message_well m l)

-- ---- their octets

-- the most octets of lines, each with its LF
abbrev most_of : List (ℕ × NodeLine) → ℕ
most_of [] = 0
most_of (e ∷ es) = 2001 + 3 * length e.1.tail + most_of es

most_append : (a b : List (ℕ × NodeLine)) → most_of (a ++ b) ≡ most_of a + most_of b
most_append [] b = omega arith
most_append (e ∷ a) b = omega (arith, most_append a b)

line_most : (e : ℕ × NodeLine) (t : List ℕ) → IsLine e t → Well e → length t ≤ 2001 + 3 * length e.1.tail
line_most e t z w =
    let bytes = decimal e.0 ++ spaced (rest_words e.1 z.numbers) in
    let is : t ≡ bytes ++ (10 ∷ []) = z.text_is ∙ sym (append_assoc (decimal e.0) (spaced (rest_words e.1 z.numbers)) (10 ∷ [])) in
    omega (arith, ap length is, length-append bytes (10 ∷ []), line_octets e.0 e.1 z.numbers w.deep w.numbers z.are w.tail)

lines_most : (es : List (ℕ × NodeLine)) (ts : List (List ℕ)) → AllZip IsLine es ts → AllWell es → length (flat_map (λ line. line) ts) ≤ most_of es
lines_most [] [] z w = omega arith
lines_most [] (t ∷ ts) z w = absurd z
lines_most (e ∷ es) [] z w = absurd z
lines_most (e ∷ es) (t ∷ ts) z w = omega (arith, length-append t (flat_map (λ (line : List ℕ). line) ts), line_most e t z.0 w.0, lines_most es ts z.1 w.1)

one_head : (kind : _) → 1 ≤ head_octets kind
one_head kind = elim (is_tv kind) as (λ b. 1 ≤ cond b 1 4) [ true ↦ omega arith | false ↦ omega arith ]

forest_most : (level : ℕ) (f : tree.Forest) → most_of (parameter_lines level f) ≤ 2001 * octets f
unfolding body_octets
forest_most level tree.none = omega arith
forest_most level (tree.and before kind fields tail children) =
    omega (arith, most_append (parameter_lines level before) ((level, parameter_line kind fields tail) ∷ parameter_lines (suc level) children), forest_most level before, one_head kind, forest_most (suc level) children)

message_most : (m : MessageTree) → most_of (message_lines m) ≤ 2001 * message_octets m
unfolding body_octets
message_most m = omega (arith, forest_most 1 m.children)

-- the listing of a lawful message has at most 2,001 octets for each of its frame
pub listing_octets : (m : MessageTree) (text : List ℕ) → IsLawfulMessage m → IsListingOf (m ∷ []) text → length text ≤ 2001 * message_octets m
listing_octets m text l h =
    let same : messages_lines (m ∷ []) ≡ message_lines m = append-nil (message_lines m) in
    let z = subst (λ (es : List (ℕ × NodeLine)). AllZip IsLine es h.texts) same h.each in
    omega (arith, ap length h.text_is, lines_most (message_lines m) h.texts z (message_well m l), message_most m)
