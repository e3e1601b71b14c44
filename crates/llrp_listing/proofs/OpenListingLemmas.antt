-- How the lines of an open tree grow.
use Rattle.std.proofs.Common.{◌≡◌, ℕ, suc, ◌+◌, ◌≤◌, true, false, not, ◌⊎◌, inl, inr, List, [], ◌∷◌, ◌++◌, length, take, drop, map, Option, Some, None, refl, sym, ap, subst, ◌∙◌, arith, append_assoc, length-append}
use Rattle.std.specs.Prelude.{decimal, filter, unwrap_or, if◌then◌else◌, cond, IfSome}
use Rattle.std.proofs.lemmas.List.{append-nil, take_at, drop_at, take-append-le, drop-append-le, take-append-drop, take_all, drop_all, length-take-le}
use Rattle.std.proofs.lemmas.Grind.{flat_map-append}
use Rattle.llrp_schema.specs.declared.kinds.MsgKind.{MsgKind}
use Rattle.llrp_schema.specs.declared.kinds.ParamKind.{ParamKind}
use Rattle.llrp_schema.specs.declared.kinds.Kind.{Kind}
use Rattle.llrp_schema.specs.declared.kinds.Kind.TheVariants.{Message, Parameter}
use Rattle.llrp_schema.specs.declared.kinds.Tail.{Tail}
use Rattle.llrp_schema.specs.declared.kinds.Tail.TheVariants.{Absent, Words, Text, Bits, Data}
use Rattle.llrp_schema.specs.Schema.{FieldRule, fields_of, name_of}
use Rattle.llrp_tree.specs.Tree.{Forest, none, MessageTree}
use Rattle.llrp_tree.specs.Lawful.{AreInRange, AreOctets}
use Rattle.llrp_tree.proofs.OctetLemmas.{octets-append}
use Rattle.llrp_tree.specs.Spelling.{Head, message, tlv, tv}
use Rattle.llrp_tree.specs.OpenTree.{Begun, kind_of_head, plain_values, rules, form, due, Rest, tail_due, AreLeading, IsReadTail, IsHead, IsOpenTree}
use Rattle.llrp_tree.specs.Calls.Standing.{leading}
use Rattle.llrp_tree.proofs.Leading.{plain_in_range}
use Rattle.llrp_tree.proofs.WholeNodes.{no_field_due}
use Rattle.llrp_listing.specs.NodeLine.{NodeLine, NumberForm, number_forms, field_form, IsNumberText, AreNumberTexts, tail_texts, spaced, IsLine, message_line, parameter_line}
use Rattle.llrp_listing.specs.MessageListing.{AreLines, parameter_lines, message_lines}
use Rattle.llrp_listing.specs.Private.Printing.{AppendsLines}
use Rattle.llrp_listing.proofs.PrintingLemmas.{lines_append}
use Rattle.llrp_stream.specs.Calls.Received.{with_field, with_child, with_closed, with_value, with_octets, IsNextField, IsNextValue, IsBeforeTail, IsInTail, AreWhole, IsReady, IsMessageOf}
use Rattle.llrp_listing.specs.Private.Tails.{AreTold, MoreTail}
use Rattle.llrp_listing.specs.Private.OpenListing.{AreFirstTexts, first_numbers, numbers_of, read_texts, IsBegunLine, Opened, Begins}
use Rattle.llrp_tree.proofs.BodyLemmas.{head_of_tree as head_of_open}
use Rattle.llrp_stream.proofs.BuildingLemmas.{more_plain, same_plain, none_dropped}

-- ---- a text that grew

module _ (mark : ℕ) (old new x : List ℕ) (le : mark ≤ length old) (e : new ≡ old ++ x) where
  pub grown_drop : drop mark new ≡ drop mark old ++ x
  grown_drop = ap (λ (y : List ℕ). drop mark y) e ∙ drop-append-le mark old x le

  pub grown_take : take mark new ≡ take mark old
  grown_take = ap (λ (y : List ℕ). take mark y) e ∙ take-append-le mark old x le

  pub grown_long : mark ≤ length new
  grown_long = let a = length-append old x in let b = ap (λ (y : List ℕ). length y) e in omega arith

-- ---- a line that begins

spaced_append : (a b : List (List ℕ)) → spaced (a ++ b) ≡ spaced a ++ spaced b
spaced_append a b = flat_map-append (λ word. 32 ∷ word) a b

pub message_begins : (v : ℕ) (k : MsgKind) (n id stop : ℕ) (old text : List ℕ) → Opened [] old → text ≡ old ++ ((decimal 0 ++ spaced (name_of (Message k) ∷ [])) ++ ((32 ∷ decimal v) ++ (32 ∷ decimal id)))
    → Begins (leading (message v k n id) stop [] ∷ []) text
unfolding number_forms
message_begins v k n id stop old text o e = (
  [],
  (decimal 0 ++ spaced (name_of (Message k) ∷ [])) ++ ((32 ∷ decimal v) ++ (32 ∷ decimal id)),
  refl,
  record { words = decimal v ∷ decimal id ∷ []; are = (refl, (refl, tt)); text_is = ap (λ (x : List ℕ). (decimal 0 ++ spaced (name_of (Message k) ∷ [])) ++ x) (sym (append-nil (spaced (decimal v ∷ decimal id ∷ [])) ∙ ap (λ (x : List ℕ). (32 ∷ decimal v) ++ x) (append-nil (32 ∷ decimal id)))); told = tt },
  refl,
  e ∙ ap (λ (x : List ℕ). x ++ ((decimal 0 ++ spaced (name_of (Message k) ∷ [])) ++ ((32 ∷ decimal v) ++ (32 ∷ decimal id)))) o,
)

no_numbers : (h : Head) (k : ParamKind) → kind_of_head h ≡ Parameter k → first_numbers h [] ≡ []
no_numbers (message v m n id) k e = absurd cc
no_numbers (tlv j n) k e = refl
no_numbers (tv j) k e = refl

no_texts : (forms : List NumberForm) (ns : List ℕ) → ns ≡ [] → AreFirstTexts forms ns []
no_texts forms ns e = subst (λ (x : List ℕ). AreFirstTexts forms x []) (sym e) tt

pub parameter_begins : (h : Head) (k : ParamKind) (stop level : ℕ) (t : List Begun) (old text : List ℕ) → Opened t old → length t ≡ level → kind_of_head h ≡ Parameter k → text ≡ old ++ (decimal level ++ spaced (name_of (Parameter k) ∷ []))
    → Begins (leading h stop [] ∷ t) text
parameter_begins h k stop level t old text o l e is =
    let line : List ℕ = decimal level ++ spaced (name_of (Parameter k) ∷ []) in (
      old,
      line,
      o,
      record { words = []; are = no_texts (number_forms (kind_of_head h)) (first_numbers h []) (no_numbers h k e); text_is = ap (λ (m : ℕ). decimal m ++ spaced (name_of (Parameter k) ∷ [])) (sym l) ∙ ap (λ (j : Kind). decimal (length t) ++ spaced (name_of j ∷ [])) (sym e) ∙ sym (append-nil (decimal (length t) ++ spaced (name_of (kind_of_head h) ∷ []))); told = tt },
      refl,
      is,
    )

-- ---- a field

abbrev pub plain : List FieldRule → List FieldRule
plain rules = filter (λ field. not field.reserved) rules

-- the form of the next number
next_form : (rs : List FieldRule) (vs : List ℕ) (r : FieldRule) (others : List FieldRule) → drop (length vs) rs ≡ r ∷ others → r.reserved ≡ false
    → drop (length (plain_values rs vs)) (map field_form (plain rs)) ≡ field_form r ∷ map field_form (plain others)
next_form [] vs r others e f = absurd (none_dropped vs r others e)
next_form (s ∷ rs) [] r others e f = (let same : s ≡ r = cc in let after : rs ≡ others = cc in let g : s.reserved ≡ false = ap (λ (x : FieldRule). x.reserved) same ∙ f in rw g (ap (λ (x : FieldRule). field_form x ∷ map field_form (plain rs)) same ∙ ap (λ (x : List FieldRule). field_form r ∷ map field_form (plain x)) after))
next_form (s ∷ rs) (u ∷ vs) r others e f =
    let rest = next_form rs vs r others e f in
    elim s.reserved as (λ b. drop (length (if b then plain_values rs vs else u ∷ plain_values rs vs)) (map field_form (cond (not b) (s ∷ plain rs) (plain rs))) ≡ field_form r ∷ map field_form (plain others)) [ true ↦ rest | false ↦ rest ]

one_text_more : (forms : List NumberForm) (ns : List ℕ) (ws : List (List ℕ)) (f : NumberForm) (fs : List NumberForm) (n : ℕ) (w : List ℕ) → drop (length ns) forms ≡ f ∷ fs → AreFirstTexts forms ns ws → IsNumberText f n w → AreFirstTexts forms (ns ++ n ∷ []) (ws ++ w ∷ [])
one_text_more [] [] ws f fs n w e a t = absurd (let z : [] ≡ f ∷ fs = e in cc)
one_text_more [] (m ∷ ns) ws f fs n w e a t = absurd a
one_text_more (g ∷ gs) [] (x ∷ ws) f fs n w e a t = absurd a
one_text_more (g ∷ gs) [] [] f fs n w e a t = (let same : g ≡ f = cc in (subst (λ (x : NumberForm). IsNumberText x n w) (sym same) t, tt))
one_text_more (g ∷ gs) (m ∷ ns) [] f fs n w e a t = absurd a
one_text_more (g ∷ gs) (m ∷ ns) (x ∷ ws) f fs n w e a t = (a.0, one_text_more gs ns ws f fs n w e a.1 t)

numbers_more : (h : Head) (ps : List ℕ) (v : ℕ) → first_numbers h (ps ++ v ∷ []) ≡ first_numbers h ps ++ v ∷ []
numbers_more (message version k n id) ps v = refl
numbers_more (tlv k n) ps v = refl
numbers_more (tv k) ps v = refl

forms_from : (h : Head) (ps : List ℕ) (f : NumberForm) (fs : List NumberForm) → drop (length ps) (map field_form (plain (fields_of (kind_of_head h)))) ≡ f ∷ fs → drop (length (first_numbers h ps)) (number_forms (kind_of_head h)) ≡ f ∷ fs
unfolding number_forms
forms_from (message version k n id) ps f fs e = e
forms_from (tlv k n) ps f fs e = e
forms_from (tv k) ps f fs e = e

more_words : (start : List ℕ) (ws : List (List ℕ)) (w : List ℕ) → (start ++ (spaced ws ++ [])) ++ (32 ∷ w) ≡ start ++ (spaced (ws ++ w ∷ []) ++ [])
more_words start ws w = append_assoc start (spaced ws ++ []) (32 ∷ w) ∙ ap (λ (x : List ℕ). start ++ x) (ap (λ (x : List ℕ). x ++ (32 ∷ w)) (append-nil (spaced ws)) ∙ sym (append-nil (spaced (ws ++ w ∷ [])) ∙ spaced_append ws (w ∷ []) ∙ ap (λ (x : List ℕ). spaced ws ++ x) (append-nil (32 ∷ w))))

pub field_begins : (b : Begun) (outer : List Begun) (rule : FieldRule) (v : ℕ) (word old text : List ℕ) → Begins (b ∷ outer) old → IsNextField (b ∷ outer) rule → rule.reserved ≡ false → IsNumberText (field_form rule) v word → text ≡ old ++ (32 ∷ word)
    → Begins (with_field v (b ∷ outer)) text
field_begins b outer rule v word old text o nx f t e =
    let same : nx.node ≡ b = (let z = nx.tree_is in cc) in
    let next : drop (length b.fields) (rules b) ≡ rule ∷ nx.others = ap (λ (x : Begun). drop (length x.fields) (rules x)) (sym same) ∙ nx.next in
    let bare : b.tail ≡ None = ap (λ (x : Begun). x.tail) (sym same) ∙ nx.untailed in
    let start : List ℕ = decimal (length outer) ++ spaced (name_of (kind_of_head b.head) ∷ []) in
    let forms = forms_from b.head (plain_values (rules b) b.fields) (field_form rule) (map field_form (plain nx.others)) (next_form (rules b) b.fields rule nx.others next f) in
    let l = o.3 in
    let are = one_text_more (number_forms (kind_of_head b.head)) (numbers_of b) l.words (field_form rule) (map field_form (plain nx.others)) v word forms l.are t in
    let nums : first_numbers b.head (plain_values (rules b) b.fields) ++ v ∷ [] ≡ first_numbers b.head (plain_values (rules b) (b.fields ++ v ∷ [])) = sym (numbers_more b.head (plain_values (rules b) b.fields) v) ∙ ap (λ (x : List ℕ). first_numbers b.head x) (sym (more_plain (rules b) b.fields v rule nx.others next f)) in (
      o.0,
      o.1 ++ (32 ∷ word),
      o.2,
      record {
        words = l.words ++ word ∷ [];
        are = subst (λ (x : List ℕ). AreFirstTexts (number_forms (kind_of_head b.head)) x (l.words ++ word ∷ [])) nums are;
        text_is = ap (λ (x : List ℕ). x ++ (32 ∷ word)) (l.text_is ∙ ap (λ (x : Option (List ℕ)). start ++ (spaced l.words ++ spaced (read_texts (form b) x))) bare) ∙ more_words start l.words word
            ∙ ap (λ (x : Option (List ℕ)). start ++ (spaced (l.words ++ word ∷ []) ++ spaced (read_texts (form b) x))) (sym bare);
        told = l.told;
      },
      o.4,
      e ∙ ap (λ (x : List ℕ). x ++ (32 ∷ word)) o.5 ∙ append_assoc o.0 o.1 (32 ∷ word),
    )

pub reserved_begins : (b : Begun) (outer : List Begun) (rule : FieldRule) (v : ℕ) (old : List ℕ) → Begins (b ∷ outer) old → IsNextField (b ∷ outer) rule → rule.reserved ≡ true → Begins (with_field v (b ∷ outer)) old
reserved_begins b outer rule v old o nx f =
    let same : nx.node ≡ b = (let z = nx.tree_is in cc) in
    let next : drop (length b.fields) (rules b) ≡ rule ∷ nx.others = ap (λ (x : Begun). drop (length x.fields) (rules x)) (sym same) ∙ nx.next in
    let l = o.3 in
    let nums : first_numbers b.head (plain_values (rules b) b.fields) ≡ first_numbers b.head (plain_values (rules b) (b.fields ++ v ∷ [])) = ap (λ (x : List ℕ). first_numbers b.head x) (sym (same_plain (rules b) b.fields v rule nx.others next f)) in
    (o.0, o.1, o.2, record { words = l.words; are = subst (λ (x : List ℕ). AreFirstTexts (number_forms (kind_of_head b.head)) x l.words) nums l.are; text_is = l.text_is; told = l.told }, o.4, o.5)

-- ---- a line that ends

no_lines_below : (level : ℕ) (f : Forest) → f ≡ none → AreLines (parameter_lines level f) []
no_lines_below level f e = subst (λ (x : Forest). AreLines (parameter_lines level x) []) (sym e) (record { texts = []; each = tt; text_is = refl })

pub ready_opened : (t : List Begun) (old text : List ℕ) → Begins t old → text ≡ old ++ 10 ∷ [] → Opened t text
ready_opened [] old text o e = absurd o
ready_opened (b ∷ outer) old text o e = (
  o.0,
  o.1,
  [],
  o.2,
  o.3,
  no_lines_below (length outer + 1) b.children o.4,
  e ∙ ap (λ (x : List ℕ). x ++ 10 ∷ []) o.5 ∙ append_assoc o.0 o.1 (10 ∷ []) ∙ ap (λ (x : List ℕ). o.0 ++ x) (sym (append-nil (o.1 ++ 10 ∷ []))),
)

-- ---- a whole line

complete : (forms : List NumberForm) (ns : List ℕ) (ws : List (List ℕ)) → AreFirstTexts forms ns ws → length ns ≡ length forms → AreNumberTexts forms ns ws
complete [] [] [] a l = tt
complete [] [] (w ∷ ws) a l = absurd a
complete [] (n ∷ ns) ws a l = absurd a
complete (f ∷ fs) [] ws a l = absurd (omega (arith, l))
complete (f ∷ fs) (n ∷ ns) [] a l = absurd a
complete (f ∷ fs) (n ∷ ns) (w ∷ ws) a l = (a.0, complete fs ns ws a.1 (omega (arith, l)))

pub in_range_length : (rs : List FieldRule) (vs : List ℕ) → AreInRange rs vs → length vs ≡ length rs
in_range_length [] [] a = refl
in_range_length [] (v ∷ vs) a = absurd a
in_range_length (r ∷ rs) [] a = absurd a
in_range_length (r ∷ rs) (v ∷ vs) a = ap suc (in_range_length rs vs a.1)

whole_texts : (form : Tail) (tail : Option (List ℕ)) → tail_due form tail ≡ Rest → read_texts form tail ≡ tail_texts form (unwrap_or tail [])
whole_texts Absent None e = refl
whole_texts Words None e = absurd cc
whole_texts Text None e = absurd cc
whole_texts Bits None e = absurd cc
whole_texts Data None e = absurd cc
whole_texts form (Some os) e = refl

rearranged : (a b c d : List ℕ) → (((a ++ b) ++ (c ++ d)) ++ 10 ∷ []) ≡ a ++ ((b ++ (c ++ d)) ++ (10 ∷ []))
rearranged a b c d = simp append_assoc

line_whole : (level : ℕ) (name : List ℕ) (words tails : List (List ℕ)) → ((decimal level ++ spaced (name ∷ [])) ++ (spaced words ++ spaced tails)) ++ 10 ∷ [] ≡ decimal level ++ (spaced (name ∷ (words ++ tails)) ++ (10 ∷ []))
line_whole level name words tails =
    ap (λ (x : List ℕ). ((decimal level ++ x) ++ (spaced words ++ spaced tails)) ++ 10 ∷ []) (append-nil (32 ∷ name))
    ∙ rearranged (decimal level) (32 ∷ name) (spaced words) (spaced tails)
    ∙ ap (λ (x : List ℕ). decimal level ++ (((32 ∷ name) ++ x) ++ (10 ∷ []))) (sym (spaced_append words tails))

pub fields_in : (b : Begun) (outer : List Begun) → IsOpenTree (b ∷ outer) → AreLeading (rules b) b.fields
unfolding IsOpenTree
fields_in b outer s = s.0.fields

pub all_due : (b : Begun) → due b ≡ Rest → (drop (length b.fields) (rules b) ≡ []) × (tail_due (form b) b.tail ≡ Rest)
unfolding due
all_due b d = no_field_due (drop (length b.fields) (rules b)) (tail_due (form b) b.tail) d

length-map_forms : (rs : List FieldRule) → length (map field_form rs) ≡ length rs
length-map_forms [] = refl
length-map_forms (r ∷ rs) = ap suc (length-map_forms rs)

all_numbers : (h : Head) (ps : List ℕ) → length ps ≡ length (plain (fields_of (kind_of_head h))) → length (first_numbers h ps) ≡ length (number_forms (kind_of_head h))
unfolding number_forms
all_numbers (message v k n id) ps l = let a = length-map_forms (plain (fields_of (Message k))) in omega (arith, l)
all_numbers (tlv k n) ps l = l ∙ sym (length-map_forms (plain (fields_of (Parameter k))))
all_numbers (tv k) ps l = l ∙ sym (length-map_forms (plain (fields_of (Parameter k))))

-- a line of which all is read
pub whole_line : (level : ℕ) (b : Begun) (outer : List Begun) (line : List ℕ) → IsBegunLine level b line → IsOpenTree (b ∷ outer) → due b ≡ Rest
    → IsLine (level, record { kind = kind_of_head b.head; numbers = numbers_of b; tail = unwrap_or b.tail [] }) (line ++ 10 ∷ [])
whole_line level b outer line l o d =
    let r = all_due b d in
    let len = in_range_length (plain (rules b)) (plain_values (rules b) b.fields) (plain_in_range (rules b) b.fields (fields_in b outer o) r.0) in
    record {
      numbers = l.words;
      are = complete (number_forms (kind_of_head b.head)) (numbers_of b) l.words l.are (all_numbers b.head (plain_values (rules b) b.fields) len);
      text_is = ap (λ (x : List ℕ). x ++ 10 ∷ []) (l.text_is ∙ ap (λ (x : List (List ℕ)). (decimal level ++ spaced (name_of (kind_of_head b.head) ∷ [])) ++ (spaced l.words ++ spaced x)) (whole_texts (form b) b.tail r.1))
          ∙ line_whole level (name_of (kind_of_head b.head)) l.words (tail_texts (form b) (unwrap_or b.tail []));
    }

one_line : (x : ℕ × NodeLine) (text : List ℕ) → IsLine x text → AreLines (x ∷ []) text
one_line x text l = record { texts = text ∷ []; each = (l, tt); text_is = sym (append-nil text) }

-- the lines of a child that is closed come last
child_at : (h : Head) (stop : ℕ) (p : Begun) (outer : List Begun) → IsHead h stop (p ∷ outer) → (level : ℕ) (before : Forest) (vs : List ℕ) (tail : Option (List ℕ)) (cs : Forest) (line above below : List ℕ)
    → IsLine (level, record { kind = kind_of_head h; numbers = first_numbers h (plain_values (fields_of (kind_of_head h)) vs); tail = unwrap_or tail [] }) line
    → AreLines (parameter_lines level before) above → AreLines (parameter_lines (level + 1) cs) below → AreLines (parameter_lines level (with_child before h vs tail cs)) (above ++ (line ++ below))
child_at (message version k n id) stop p outer i level before vs tail cs line above below l ab be = absurd i
child_at (tlv k n) stop p outer i level before vs tail cs line above below l ab be =
    let be2 : AreLines (parameter_lines (suc level) cs) below = subst (λ (m : ℕ). AreLines (parameter_lines m cs) below) (let z : level + 1 ≡ suc level = omega arith in z) be in
    lines_append (parameter_lines level before) ((level, parameter_line k (plain_values (fields_of (Parameter k)) vs) (unwrap_or tail [])) ∷ parameter_lines (suc level) cs) above (line ++ below) ab
    (lines_append ((level, parameter_line k (plain_values (fields_of (Parameter k)) vs) (unwrap_or tail [])) ∷ []) (parameter_lines (suc level) cs) line below (one_line (level, parameter_line k (plain_values (fields_of (Parameter k)) vs) (unwrap_or tail [])) line l) be2)
child_at (tv k) stop p outer i level before vs tail cs line above below l ab be =
    let be2 : AreLines (parameter_lines (suc level) cs) below = subst (λ (m : ℕ). AreLines (parameter_lines m cs) below) (let z : level + 1 ≡ suc level = omega arith in z) be in
    lines_append (parameter_lines level before) ((level, parameter_line k (plain_values (fields_of (Parameter k)) vs) (unwrap_or tail [])) ∷ parameter_lines (suc level) cs) above (line ++ below) ab
    (lines_append ((level, parameter_line k (plain_values (fields_of (Parameter k)) vs) (unwrap_or tail [])) ∷ []) (parameter_lines (suc level) cs) line below (one_line (level, parameter_line k (plain_values (fields_of (Parameter k)) vs) (unwrap_or tail [])) line l) be2)

closed_text : (above pline pbelow bline bbelow text inner : List ℕ) → inner ≡ above ++ ((pline ++ 10 ∷ []) ++ pbelow) → text ≡ inner ++ ((bline ++ 10 ∷ []) ++ bbelow)
    → text ≡ above ++ ((pline ++ 10 ∷ []) ++ (pbelow ++ ((bline ++ 10 ∷ []) ++ bbelow)))
closed_text above pline pbelow bline bbelow text inner e f =
    f ∙ ap (λ (x : List ℕ). x ++ ((bline ++ 10 ∷ []) ++ bbelow)) e ∙ append_assoc above ((pline ++ 10 ∷ []) ++ pbelow) ((bline ++ 10 ∷ []) ++ bbelow)
    ∙ ap (λ (x : List ℕ). above ++ x) (append_assoc (pline ++ 10 ∷ []) pbelow ((bline ++ 10 ∷ []) ++ bbelow))

-- a node that is closed
pub closed_opened : (t : List Begun) (text : List ℕ) → Opened t text → IsReady t → Opened (with_closed t) text
closed_opened [] text o r = o
closed_opened (b ∷ []) text o r = o
closed_opened (b ∷ p ∷ outer) text o r =
    let same : r.node ≡ b = (let z = r.tree_is in cc) in
    let d : due b ≡ Rest = ap due (sym same) ∙ r.ready in
    let u = o.3 in
    let l = whole_line (length (p ∷ outer)) b (p ∷ outer) o.1 o.4 r.is_open d in
    let i = head_of_open b (p ∷ outer) r.is_open in
    let lv : length (p ∷ outer) ≡ length outer + 1 = omega arith in
    let l2 = subst (λ (n : ℕ). IsLine (n, record { kind = kind_of_head b.head; numbers = numbers_of b; tail = unwrap_or b.tail [] }) (o.1 ++ 10 ∷ [])) lv l in
    let be = subst (λ (n : ℕ). AreLines (parameter_lines (n + 1) b.children) o.2) lv o.5 in (
      u.0,
      u.1,
      u.2 ++ ((o.1 ++ 10 ∷ []) ++ o.2),
      u.3,
      record { words = u.4.words; are = u.4.are; text_is = u.4.text_is; told = u.4.told },
      child_at b.head b.stop p outer i (length outer + 1) p.children b.fields b.tail b.children (o.1 ++ 10 ∷ []) u.2 o.2 l2 u.5 be,
      closed_text u.0 u.1 u.2 o.1 o.2 text o.0 u.6 o.6,
    )

message_at : (h : Head) (vs : List ℕ) (tail : Option (List ℕ)) (cs : Forest) (m : MessageTree) (line below : List ℕ) → IsMessageOf h vs tail cs m → IsLine (0, record { kind = kind_of_head h; numbers = first_numbers h (plain_values (fields_of (kind_of_head h)) vs); tail = unwrap_or tail [] }) line
    → AreLines (parameter_lines 1 cs) below → AreLines (message_lines m) (line ++ below)
message_at (message version k n id) vs tail cs m line below e l be =
    subst (λ (x : MessageTree). AreLines (message_lines x) (line ++ below)) (sym e)
    (lines_append ((0, message_line (record { version = version; id = id; kind = k; fields = plain_values (fields_of (Message k)) vs; tail = unwrap_or tail []; children = cs })) ∷ []) (parameter_lines 1 cs) line below
    (one_line (0, message_line (record { version = version; id = id; kind = k; fields = plain_values (fields_of (Message k)) vs; tail = unwrap_or tail []; children = cs })) line l) be)
message_at (tlv k n) vs tail cs m line below e l be = absurd e
message_at (tv k) vs tail cs m line below e l be = absurd e

pub read_tail_in : (b : Begun) (outer : List Begun) → IsOpenTree (b ∷ outer) → IsReadTail (form b) (plain_values (rules b) b.fields) b.tail
unfolding IsOpenTree
read_tail_in b outer s = s.0.tail

-- a message that is whole
pub ended_lines : (b : Begun) (m : MessageTree) (text : List ℕ) → Opened (b ∷ []) text → IsReady (b ∷ []) → IsMessageOf b.head b.fields b.tail b.children m → AreLines (message_lines m) text
ended_lines b m text o r e =
    let same : r.node ≡ b = (let z = r.tree_is in cc) in
    let d : due b ≡ Rest = ap due (sym same) ∙ r.ready in
    let l = whole_line 0 b [] o.1 o.4 r.is_open d in
    let a = message_at b.head b.fields b.tail b.children m (o.1 ++ 10 ∷ []) o.2 e l o.5 in
    subst (λ (x : List ℕ). AreLines (message_lines m) x) (sym (o.6 ∙ ap (λ (x : List ℕ). x ++ ((o.1 ++ 10 ∷ []) ++ o.2)) o.3)) a

pub field_of : (t : List Begun) (rule : FieldRule) (v : ℕ) (word old text : List ℕ) → Begins t old → IsNextField t rule → rule.reserved ≡ false → IsNumberText (field_form rule) v word → text ≡ old ++ (32 ∷ word) → Begins (with_field v t) text
field_of [] rule v word old text o nx f t e = absurd o
field_of (b ∷ outer) rule v word old text o nx f t e = field_begins b outer rule v word old text o nx f t e

pub reserved_of : (t : List Begun) (rule : FieldRule) (v : ℕ) (old : List ℕ) → Begins t old → IsNextField t rule → rule.reserved ≡ true → Begins (with_field v t) old
reserved_of [] rule v old o nx f = absurd o
reserved_of (b ∷ outer) rule v old o nx f = reserved_begins b outer rule v old o nx f

pub nothing_after : (text : List ℕ) (n : ℕ) → n ≡ length text → drop n text ≡ []
nothing_after text n e = drop_all n text (omega arith)

-- the text of a message that is whole was appended, and nothing follows
pub appended : (mark new : ℕ) (text was : List ℕ) (b : Begun) (m : MessageTree) → new ≡ length text → mark ≤ length text → take mark text ≡ was → AreLines (message_lines m) (drop mark text)
    → (now : List ℕ) × (new ≤ length text) × (take new text ≡ now) × Opened [] (drop new text) × AppendsLines (message_lines m) was now
appended mark new text was b m e le w a =
    (text, omega arith, take_all new text (omega arith), nothing_after text new e, (drop mark text, sym (take-append-drop mark text) ∙ ap (λ (x : List ℕ). x ++ drop mark text) w, a))

pub taken_back : (mark : ℕ) (text cut was : List ℕ) → cut ≡ take mark text → mark ≤ length text → take mark text ≡ was → (mark ≤ length cut) × (take mark cut ≡ was) × Opened [] (drop mark cut)
taken_back mark text cut was e le w =
    let l : length cut ≡ mark = ap (λ (x : List ℕ). length x) e ∙ length-take-le mark text le in
    (omega arith, take_all mark cut (omega arith) ∙ e ∙ w, drop_all mark cut (omega arith))

-- the text of an unfinished message was taken back
pub given_up : (mark : ℕ) (text cut was : List ℕ) (t : List Begun) → cut ≡ take mark text
    → ((mark ≤ length text) × (take mark text ≡ was) × Begins t (drop mark text)) ⊎ ((mark ≤ length text) × (take mark text ≡ was) × Opened t (drop mark text))
    → (mark ≤ length cut) × (take mark cut ≡ was) × Opened [] (drop mark cut)
given_up mark text cut was t e o = (elim o [ inl x ↦ taken_back mark text cut was e x.0 x.1 | inr x ↦ taken_back mark text cut was e x.0 x.1 ])

-- ---- a whole value

value_text : (above line below old text value : List ℕ) → old ≡ above ++ ((line ++ 10 ∷ []) ++ below) → text ≡ old ++ value → text ≡ above ++ ((line ++ 10 ∷ []) ++ (below ++ value))
value_text above line below old text value e f =
    f ∙ ap (λ (x : List ℕ). x ++ value) e ∙ append_assoc above ((line ++ 10 ∷ []) ++ below) value ∙ ap (λ (x : List ℕ). above ++ x) (append_assoc (line ++ 10 ∷ []) below value)

-- the lines of a parameter of a type and a value come last
pub value_opened : (t : List Begun) (level : ℕ) (k : ParamKind) (v : ℕ) (line old text : List ℕ) → Opened t old → length t ≡ level → IsNextValue t k v → IsLine (level, parameter_line k (v ∷ []) []) line → text ≡ old ++ line → Opened (with_value k v t) text
value_opened [] level k v line old text o l nx i e = absurd (let z : [] ≡ nx.node ∷ nx.outer = nx.tree_is in cc)
value_opened (b ∷ outer) level k v line old text o l nx i e =
    let lv : level ≡ length outer + 1 = omega arith in
    let i2 = subst (λ (n : ℕ). IsLine (n, parameter_line k (v ∷ []) []) line) lv i in (
      o.0,
      o.1,
      o.2 ++ line,
      o.3,
      record { words = o.4.words; are = o.4.are; text_is = o.4.text_is; told = o.4.told },
      lines_append (parameter_lines (length outer + 1) b.children) ((length outer + 1, parameter_line k (v ∷ []) []) ∷ []) o.2 line o.5 (one_line (length outer + 1, parameter_line k (v ∷ []) []) line i2),
      value_text o.0 o.1 o.2 old text line o.6 e,
    )

-- ---- a tail

told_none : (f : Tail) → AreTold f []
told_none Absent = tt
told_none Words = (tt, (0, refl))
told_none Text = tt
told_none Bits = tt
told_none Data = tt

told_first : (f : Tail) (tail : Option (List ℕ)) → tail ≡ None → AreTold f (unwrap_or tail [] ++ [])
told_first f tail e = subst (λ (x : Option (List ℕ)). AreTold f (unwrap_or x [] ++ [])) (sym e) (told_none f)

told_more : (f : Tail) (before octets : List ℕ) → AreTold f before → AreOctets octets → AreWhole f octets → AreTold f (before ++ octets)
told_more Absent before octets t os whole = tt
told_more Words before octets t os whole = (
  octets-append before octets t.0 os,
  (t.1.0 + whole.0, length-append before octets ∙ (let a = t.1.1 in let b = whole.1 in omega arith)),
)
told_more Text before octets t os whole = tt
told_more Bits before octets t os whole = tt
told_more Data before octets t os whole = tt

told_next : (f g : Tail) (tail : Option (List ℕ)) (before octets : List ℕ) → tail ≡ Some before → f ≡ g → AreTold g before → AreOctets octets → AreWhole g octets → AreTold f (unwrap_or tail [] ++ octets)
told_next f g tail before octets e same t os whole =
    subst (λ (x : Tail). AreTold x (unwrap_or tail [] ++ octets)) (sym same) (subst (λ (x : Option (List ℕ)). AreTold g (unwrap_or x [] ++ octets)) (sym e) (told_more g before octets t os whole))

told_before : (f g : Tail) (tail : Option (List ℕ)) (before : List ℕ) → tail ≡ Some before → f ≡ g → IfSome tail (λ octets. AreTold f octets) → AreTold g before
told_before f g tail before e same t = subst (λ (x : Tail). AreTold x before) same (subst (λ (x : Option (List ℕ)). IfSome x (λ octets. AreTold f octets)) e t)

more_line : (start w s : List ℕ) → (start ++ (w ++ [])) ++ s ≡ start ++ (w ++ s)
more_line start w s = append_assoc start (w ++ []) s ∙ ap (λ (x : List ℕ). start ++ (x ++ s)) (append-nil w)

pub tail_begins : (t : List Begun) (f : Tail) (old text : List ℕ) → Begins t old → IsBeforeTail t f → text ≡ old ++ spaced (tail_texts f []) → Begins (with_octets [] t) text
tail_begins [] f old text o nx e = absurd o
tail_begins (b ∷ outer) f old text o nx e =
    let same : nx.node ≡ b = (let z = nx.tree_is in cc) in
    let bare : b.tail ≡ None = ap (λ (x : Begun). x.tail) (sym same) ∙ nx.untailed in
    let formed : form b ≡ f = ap form (sym same) ∙ nx.form_is in
    let start : List ℕ = decimal (length outer) ++ spaced (name_of (kind_of_head b.head) ∷ []) in
    let s : List ℕ = spaced (tail_texts f []) in
    let l = o.3 in (
      o.0,
      o.1 ++ s,
      o.2,
      record {
        words = l.words;
        are = l.are;
        text_is = ap (λ (x : List ℕ). x ++ s) (l.text_is ∙ ap (λ (x : Option (List ℕ)). start ++ (spaced l.words ++ spaced (read_texts (form b) x))) bare) ∙ more_line start (spaced l.words) s
            ∙ ap (λ (x : Tail). start ++ (spaced l.words ++ spaced (tail_texts x []))) (sym formed)
            ∙ ap (λ (x : Option (List ℕ)). start ++ (spaced l.words ++ spaced (tail_texts (form b) (unwrap_or x [] ++ [])))) (sym bare);
        told = told_first (form b) b.tail bare;
      },
      o.4,
      e ∙ ap (λ (x : List ℕ). x ++ s) o.5 ∙ append_assoc o.0 o.1 s,
    )

nested : (a b c d e : List ℕ) → (a ++ (b ++ (c ++ d))) ++ e ≡ a ++ (b ++ (c ++ (d ++ e)))
nested a b c d e = simp append_assoc

-- more octets of a tail, where the text before them is known to stay
pub octets_begin : (mark : ℕ) (t : List Begun) (f : Tail) (octets old text : List ℕ) → mark ≤ length old → Begins t (drop mark old) → IsInTail t f → AreOctets octets → AreWhole f octets → MoreTail f old text octets
    → (mark ≤ length text) × (take mark text ≡ take mark old) × Begins (with_octets octets t) (drop mark text)
octets_begin mark [] f octets old text le o nx os whole m = absurd o
octets_begin mark (b ∷ outer) f octets old text le o nx os whole m =
    let same : nx.node ≡ b = (let z = nx.tree_is in cc) in
    let tailed : b.tail ≡ Some nx.so_far = ap (λ (x : Begun). x.tail) (sym same) ∙ nx.tail_is in
    let formed : form b ≡ f = ap form (sym same) ∙ nx.form_is in
    let start : List ℕ = decimal (length outer) ++ spaced (name_of (kind_of_head b.head) ∷ []) in
    let l = o.3 in
    let told : AreTold f nx.so_far = told_before (form b) f b.tail nx.so_far tailed formed l.told in
    let w : List ℕ = spaced l.words in
    let t0 : List ℕ = take mark old in
    let s0 : List ℕ = spaced (tail_texts f nx.so_far) in
    let s1 : List ℕ = spaced (tail_texts f (nx.so_far ++ octets)) in
    let line : o.1 ≡ start ++ (w ++ s0) = l.text_is ∙ ap (λ (x : Option (List ℕ)). start ++ (w ++ spaced (read_texts (form b) x))) tailed ∙ ap (λ (x : Tail). start ++ (w ++ spaced (tail_texts x nx.so_far))) formed in
    let before : old ≡ (t0 ++ (o.0 ++ (start ++ w))) ++ s0 =
    sym (take-append-drop mark old) ∙ ap (λ (x : List ℕ). t0 ++ x) (o.5 ∙ ap (λ (x : List ℕ). o.0 ++ x) line) ∙ sym (nested t0 o.0 start w s0) in
    let after : text ≡ t0 ++ (o.0 ++ (start ++ (w ++ s1))) = m (t0 ++ (o.0 ++ (start ++ w))) nx.so_far told before ∙ nested t0 o.0 start w s1 in
    let rest : List ℕ = o.0 ++ (start ++ (w ++ s1)) in
    let marked : length t0 ≡ mark = length-take-le mark old le in
    let long = ap (λ (x : List ℕ). length x) after ∙ length-append t0 rest in (
      omega (arith, long, marked),
      ap (λ (x : List ℕ). take mark x) after ∙ take_at t0 rest mark marked,
      (
        o.0,
        start ++ (w ++ s1),
        o.2,
        record {
          words = l.words;
          are = l.are;
          text_is = ap (λ (x : Tail). start ++ (w ++ spaced (tail_texts x (nx.so_far ++ octets)))) (sym formed)
              ∙ ap (λ (x : Option (List ℕ)). start ++ (w ++ spaced (tail_texts (form b) (unwrap_or x [] ++ octets)))) (sym tailed);
          told = told_next (form b) f b.tail nx.so_far octets tailed formed told os whole;
        },
        o.4,
        ap (λ (x : List ℕ). drop mark x) after ∙ drop_at t0 rest mark marked,
      ),
    )
