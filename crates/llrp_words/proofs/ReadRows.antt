-- A walk over words that meets no fault leaves rows whose values pass the readers of their arguments.
use Rattle.std.proofs.Common.{◌≡◌, ◌∙◌, ℕ, zero, suc, ◌<◌, ◌&&◌, ◌||◌, ◌⊎◌, inl, inr, Bool, true, false, cond, not, List, [], ◌∷◌, ◌++◌, length, is_some, Option, Some, None, refl, sym, ap, subst, arith, length-append, ◌==◌, ltb, eqb-true, ltb-true}
use Rattle.std.specs.Prelude.{IfSome, find, fold, slice_get, option_map, option_and_then, drop, encode_utf8}
use Rattle.std.specs.List.{list_any}
use Rattle.std.specs.Option.{option_map_or}
use Rattle.std.specs.Str.{bytes_eq, chars}
use Rattle.std.proofs.lemmas.Bool.{and_parts, ne_eqb}
use Rattle.std.proofs.lemmas.Slice.Eq.{bytes_eq-Decides}
use Rattle.clap.specs.Lexer.{long_of, short_of}
use Rattle.clap.specs.Facts.{explicit_source, parser_of_value, unwrap_or_range}
use Rattle.clap.specs.Values.{read_as, refused_kind}
use Rattle.clap.specs.declared.error.kind.ErrorKind.TheVariants.{TooManyValues}
use Rattle.clap.specs.ValueTests.{accepts}
use Rattle.clap.specs.declared.builder.ArgAction.{ArgAction}
use Rattle.clap.specs.declared.builder.ArgAction.TheVariants.{Append, Set, SetTrue, Help}
use Rattle.clap.specs.declared.builder.value_parser.Reading.{Reading}
use Rattle.clap.specs.declared.parser.matches.ValueSource.{ValueSource}
use Rattle.clap.specs.declared.parser.matches.ValueSource.TheVariants.{CommandLine, DefaultValue}
use Rattle.clap.specs.Kinds.{Kinds, check_kinds, or_else, range_kinds, request_kinds, value_kinds}
use Rattle.clap.specs.Faults.{values_fault, action_fault, use_fault, settle_fault, react_fault, option_fault, long_fault, short_fault, bundle_step_fault, flags_fault, bundle_fault, flag_word_fault, other_fault, word_fault, positional_fault, step_fault, stray_fault, turn_fault, walk_fault, given_default_fault, default_fault, defaults_fault, check_fault, level_fault}
use Rattle.clap.specs.Simple.{Shape}
use Rattle.clap.specs.Takes.{is_given}
use Rattle.clap.specs.Walk.{Held, Names, Outcome, done, waits, plain, refused, Row, Rule, Step, next, trailing, subcommand, value, Text, Waiting, idle, option, positional, Walk, action_of, reading_by}
use Rattle.clap.specs.Walk.{used, used_as, values_or_missing, more_values, with_values, without, settled, settled_rows, used_by_id, arg_by_id, arg_by_long, arg_by_short, arg_by_index, has_long, has_short, takes_values, first_of, one_of, with_default, finished, is_empty}
use Rattle.clap.specs.Walk.{subcommand_met, subcommand_or_other, word_met, is_pending, takes_several, positional_held, pushed, to_positional, after_step, walked, walked_from, walk, walk_from, has_row, default_rows, nothing_held, rows_after, most_values}
use Rattle.clap.specs.Walk.{reacted, option_met, flag_met, long_met, short_met, attached_value, bundle, bundle_met, bundle_step, plain_word, option_word, after_flag, long_or_other, short_or_plain}

-- two steps without a fault
pub both : (a b : Kinds) → or_else a b ≡ [] → (a ≡ []) × (b ≡ [])
both [] b e = (refl, e)
both (k ∷ ks) b e = cc

-- values of an argument of these rules: there are some, its reader takes each, and they are read so
abbrev pub Passes : List Rule → Text → Reading → List Text → Type 0
Passes c id how values = (0 < length values) × IfSome (arg_by_id c id) (λ a. (how ≡ reading_by a) × (values_fault a values ≡ []))

-- the values of each row pass
abbrev pub AllPass : List Rule → List Row → Type 0
AllPass c [] = Unit {0}
AllPass c (r ∷ rs) = Passes c r.id r.reading r.values × AllPass c rs

some_more : (xs ys : List Text) → 0 < length ys → 0 < length (xs ++ ys)
some_more xs ys lt = omega (arith, length-append xs ys)

values_more : (a : Rule) (xs ys : List Text) → values_fault a xs ≡ [] → values_fault a ys ≡ [] → values_fault a (xs ++ ys) ≡ []
values_more a [] ys e f = f
values_more a (x ∷ xs) ys e f =
    let parts = both (value_kinds a.ignore_case (parser_of_value a.parser) x) _ e in
    ap (λ (k : Kinds). or_else k (values_fault a (xs ++ ys))) parts.0 ∙ values_more a xs ys parts.1 f

passes_more : (c : List Rule) (id : Text) (how other : Reading) (xs ys : List Text) → Passes c id how xs → Passes c id other ys → Passes c id how (xs ++ ys)
passes_more c id how other xs ys p q = (some_more xs ys q.0, go (arg_by_id c id) p.1 q.1)
  where
    go : (o : Option Rule) → IfSome o (λ a. (how ≡ reading_by a) × (values_fault a xs ≡ [])) → IfSome o (λ a. (other ≡ reading_by a) × (values_fault a ys ≡ []))
        → IfSome o (λ a. (how ≡ reading_by a) × (values_fault a (xs ++ ys) ≡ []))
    go None e f = tt
    go (Some a) e f = (e.0, values_more a xs ys e.1 f.1)

with_values_pass : (c : List Rule) (id : Text) (how : Reading) (s : ValueSource) (values : List Text) (rows : List Row) → Passes c id how values → AllPass c rows → AllPass c (with_values id how s values rows)
with_values_pass c id how s values [] p h = (p, tt)
with_values_pass c id how s values (r ∷ rs) p h = go (with_values_pass c id how s values rs p h.1) (bytes_eq r.id id) refl
  where
    go : AllPass c (with_values id how s values rs) → (b : Bool) → bytes_eq r.id id ≡ b → AllPass c (cond b (more_values s values r ++ rs) (r ∷ with_values id how s values rs))
    go later true e = (passes_more c r.id r.reading how r.values values h.0 (subst (λ (t : Text). Passes c t how values) (sym ((bytes_eq-Decides r.id id).0 e)) p), h.1)
    go later false e = (h.0, later)

without_pass : (c : List Rule) (id : Text) (rows : List Row) → AllPass c rows → AllPass c (without id rows)
without_pass c id [] h = tt
without_pass c id (r ∷ rs) h =
    elim (bytes_eq r.id id) as (λ b. AllPass c (cond b rs (r ∷ without id rs))) [ true ↦ h.1 | false ↦ (h.0, without_pass c id rs h.1) ]

-- a use of an argument without a fault leaves rows that pass
abbrev pub KeepsPassing : List Rule → Type 0
KeepsPassing c = (p : Rule → Bool) (a : Rule) → find p c ≡ Some a → (again : Bool) (values : List Text) (rows : List Row) → use_fault again a values rows ≡ [] → AllPass c rows → AllPass c (used a values rows)

by_id_pass : (c : List Rule) (k : KeepsPassing c) (again : Bool) (p : Rule → Bool) (o : Option Rule) (values : List Text) (rows : List Row) → find p c ≡ o
    → option_map_or (λ a. use_fault again a values rows) o [] ≡ [] → AllPass c rows → AllPass c (used_by_id o values rows)
by_id_pass c k again p None values rows e pass h = h
by_id_pass c k again p (Some a) values rows e pass h = k p a e again values rows pass h

settled_rows_pass : (c : List Rule) (k : KeepsPassing c) (again : Bool) (o : Option (Text × List Text)) (rows : List Row)
    → option_map_or (λ p. option_map_or (λ a. use_fault again a p.1 rows) (arg_by_id c p.0) []) o [] ≡ [] → AllPass c rows → AllPass c (settled_rows c o rows)
settled_rows_pass c k again None rows pass h = h
settled_rows_pass c k again (Some p) rows pass h = by_id_pass c k again (λ a. bytes_eq a.id p.0) (arg_by_id c p.0) p.1 rows refl pass h

settled_pass : (c : List Rule) (k : KeepsPassing c) (again : Bool) (h : Held) → settle_fault c again h ≡ [] → AllPass c h.rows → AllPass c (settled c h).rows
settled_pass c k again h pass s = settled_rows_pass c k again h.pending h.rows pass s

-- a word does not change the rows but by a use without a fault
reacted_pass : (c : List Rule) (k : KeepsPassing c) (again : Bool) (p : Rule → Bool) (a : Rule) (values : List Text) (h : Held) → find p c ≡ Some a
    → react_fault c again a values h ≡ [] → AllPass c h.rows → AllPass c (reacted c a values h).rows
reacted_pass c k again p a values h e pass s =
    let parts = both (settle_fault c again h) _ pass in
    k p a e again values (settled c h).rows parts.1 (settled_pass c k again h parts.0 s)

option_pass : (c : List Rule) (k : KeepsPassing c) (again : Bool) (p : Rule → Bool) (a : Rule) (v : Option Text) (h : Held) → find p c ≡ Some a
    → option_fault c again a v h ≡ [] → AllPass c h.rows → AllPass c (option_met c a v h).0.rows
option_pass c k again p a (Some v) h e pass s = reacted_pass c k again p a (v ∷ []) h e pass s
option_pass c k again p a None h e pass s = settled_pass c k again h pass s

flag_pass : (c : List Rule) (k : KeepsPassing c) (again : Bool) (p : Rule → Bool) (a : Rule) (v : Option Text) (h : Held) → find p c ≡ Some a
    → (is_some v ≡ false → react_fault c again a [] h ≡ []) → AllPass c h.rows → AllPass c (flag_met c a v h).0.rows
flag_pass c k again p a (Some v) h e pass s = s
flag_pass c k again p a None h e pass s = reacted_pass c k again p a [] h e (pass refl) s

long_pass : (c : List Rule) (k : KeepsPassing c) (again : Bool) (p : Rule → Bool) (o : Option Rule) (v : Option Text) (h : Held) → find p c ≡ o
    → long_fault c again o v h ≡ [] → AllPass c h.rows → AllPass c (long_met c o v h).0.rows
long_pass c k again p None v h e pass s = s
long_pass c k again p (Some a) v h e pass s = go (takes_values a) pass
  where
    go : (b : Bool) → cond b (option_fault c again a v h) (cond (is_some v) (TooManyValues ∷ []) (react_fault c again a [] h)) ≡ [] → AllPass c (cond b (option_met c a v h) (flag_met c a v h)).0.rows
    go true f = option_pass c k again p a v h e f s
    go false f = flag_pass c k again p a v h e (λ none. rw none at f) s

-- the rest of a bundle leaves rows that pass
abbrev RestPasses : List Rule → Bool → ℕ → Type 0
RestPasses c again n = (flags : Text) (skip : ℕ) (so_far : Outcome) (h : Held) → flags_fault c again n flags skip h ≡ [] → AllPass c h.rows → AllPass c (bundle_met c n flags skip so_far h).0.rows

short_pass : (c : List Rule) (k : KeepsPassing c) (again : Bool) (n : ℕ) (rest_pass : RestPasses c again n) (p : Rule → Bool) (o : Option Rule) (rest : Text) (h : Held) → find p c ≡ o
    → short_fault c again o rest h (flags_fault c again n rest 0) ≡ [] → AllPass c h.rows → AllPass c (short_met c o rest h (bundle_met c n rest 0 done)).0.rows
short_pass c k again n rest_pass p None rest h e pass s = s
short_pass c k again n rest_pass p (Some a) rest h e pass s = go (takes_values a) pass
  where
    go : (b : Bool) → cond b (option_fault c again a (attached_value rest) h) (or_else (react_fault c again a [] h) (flags_fault c again n rest 0 (reacted c a [] h))) ≡ []
        → AllPass c (cond b (option_met c a (attached_value rest) h) (bundle_met c n rest 0 done (reacted c a [] h))).0.rows
    go true f = option_pass c k again p a (attached_value rest) h e f s
    go false f =
        let parts = both (react_fault c again a [] h) _ f in
        rest_pass rest 0 done (reacted c a [] h) parts.1 (reacted_pass c k again p a [] h e parts.0 s)

bundle_pass : (c : List Rule) (k : KeepsPassing c) (again : Bool) (n : ℕ) → RestPasses c again n
unfolding flags_fault bundle_met
bundle_pass c k again zero flags skip so_far h pass s = s
bundle_pass c k again (suc n) flags skip so_far h pass s = go (bundle_pass c k again n) (slice_get (chars flags) 0) skip pass
  where
    go : RestPasses c again n → (o : Option ℕ) (skip : ℕ) → bundle_step_fault c again o flags skip h (flags_fault c again n) ≡ [] → AllPass c (bundle_step c o flags skip so_far h (bundle_met c n)).0.rows
    go ih None skip f = s
    go ih (Some x) zero f = short_pass c k again n ih (λ a. not (is_some a.index) && has_short a x) (arg_by_short c x) (drop (length (encode_utf8 x)) flags) h refl f s
    go ih (Some x) (suc skip) f = ih (drop (length (encode_utf8 x)) flags) skip so_far h f s

plain_pass : (c : List Rule) (waiting : Waiting) (word : Text) (h : Held) → AllPass c h.rows → AllPass c (plain_word c waiting word h).0.rows
plain_pass c idle word h s = s
plain_pass c positional word h s = s
plain_pass c (option id) word h s = go (arg_by_id c id)
  where
    go : (o : Option Rule) → AllPass c (option_word o id word h).0.rows
    go None = s
    go (Some a) = s

after_flag_pass : (c : List Rule) (waiting : Waiting) (word : Text) (h : Held) (o : Outcome) → AllPass c h.rows → AllPass c (after_flag c waiting word h o).0.rows
after_flag_pass c waiting word h done s = s
after_flag_pass c waiting word h (waits id) s = s
after_flag_pass c waiting word h plain s = plain_pass c waiting word h s
after_flag_pass c waiting word h refused s = plain_pass c waiting word h s

flag_word_pass : (c : List Rule) (k : KeepsPassing c) (again : Bool) (waiting : Waiting) (word : Text) (o : Option (Text × Option Text)) (h : Held)
    → flag_word_fault c again o word h ≡ [] → AllPass c h.rows → AllPass c (long_or_other c waiting word o h).0.rows
flag_word_pass c k again waiting word (Some p) h pass s =
    after_flag_pass c waiting word (long_met c (arg_by_long c p.0) p.1 h).0 (long_met c (arg_by_long c p.0) p.1 h).1
    (long_pass c k again (λ a. not (is_some a.index) && has_long a p.0) (arg_by_long c p.0) p.1 h refl pass s)
flag_word_pass c k again waiting word None h pass s = go (short_of word) pass
  where
    go : (o : Option Text) → option_map_or (λ flags. bundle_fault c again flags h) o [] ≡ [] → AllPass c (short_or_plain c waiting word o h).0.rows
    go None f = plain_pass c waiting word h s
    go (Some flags) f =
        after_flag_pass c waiting word (bundle c flags h).0 (bundle c flags h).1 (bundle_pass c k again (length flags) flags h.skip plain (record h { skip = 0 }) f s)

word_pass : (s : Shape) (k : KeepsPassing s.rules) (names : Names) (is_trailing : Bool) (waiting : Waiting) (position : ℕ) (word : Text) (h : Held)
    → word_fault s names is_trailing waiting word h ≡ [] → AllPass s.rules h.rows → AllPass s.rules (word_met s.rules names is_trailing waiting position word h).0.rows
word_pass s k names true waiting position word h pass sound = sound
word_pass s k names false waiting position word h pass sound = go (subcommand_met names waiting word) pass
  where
    other : (b : Bool) → cond b [] (flag_word_fault s.rules s.args_override_self (long_of word) word h) ≡ []
        → AllPass s.rules (cond b (h, trailing position) (long_or_other s.rules waiting word (long_of word) h)).0.rows
    other true f = sound
    other false f = flag_word_pass s.rules k s.args_override_self waiting word (long_of word) h f sound

    go : (o : Option Text) → other_fault s o word h ≡ [] → AllPass s.rules (subcommand_or_other s.rules o waiting position word h).0.rows
    go (Some name) f = sound
    go None f = other (bytes_eq word (45 ∷ 45 ∷ [])) f

positional_pass : (c : List Rule) (k : KeepsPassing c) (again : Bool) (a : Rule) (word : Text) (h : Held)
    → positional_fault c again a h ≡ [] → AllPass c h.rows → AllPass c (positional_held c a word h).rows
positional_pass c k again a word h pass sound = go (is_pending a h.pending && takes_several a) pass
  where
    go : (b : Bool) → cond b [] (settle_fault c again h) ≡ [] → AllPass c (pushed a.id word (cond b h (settled c h))).rows
    go true f = sound
    go false f = settled_pass c k again h f sound

step_pass : (s : Shape) (k : KeepsPassing s.rules) (word : Text) (w : Walk) (h : Held) (step : Step)
    → step_fault s w.position h step ≡ [] → AllPass s.rules h.rows → AllPass s.rules (after_step s.rules word w h step).held.rows
step_pass s k word w h (next waiting) pass sound = sound
step_pass s k word w h (trailing position) pass sound = sound
step_pass s k word w h (subcommand name) pass sound = sound
step_pass s k word w h value pass sound = go (arg_by_index s.rules w.position) pass
  where
    go : (o : Option Rule) → option_map_or (λ a. positional_fault s.rules s.args_override_self a h) o (stray_fault s) ≡ [] → AllPass s.rules (to_positional s.rules o word w h).held.rows
    go None f = sound
    go (Some a) f = positional_pass s.rules k s.args_override_self a word h f sound

turn_pass : (s : Shape) (k : KeepsPassing s.rules) (names : Names) (w : Walk) (word : Text)
    → turn_fault s names w word ≡ [] → AllPass s.rules w.held.rows → AllPass s.rules (walked s.rules names w word).held.rows
unfolding walked
turn_pass s k names w word pass sound = go w.stopped pass
  where
    go : (o : Option (Text × List Text)) → cond (is_some o) [] (or_else (word_fault s names w.is_trailing w.waiting word w.held)
        (step_fault s w.position (word_met s.rules names w.is_trailing w.waiting w.position word w.held).0 (word_met s.rules names w.is_trailing w.waiting w.position word w.held).1)) ≡ []
        → AllPass s.rules (walked_from s.rules names o w word).held.rows
    go (Some p) f = sound
    go None f =
        let parts = both (word_fault s names w.is_trailing w.waiting word w.held) _ f in
        let met = word_met s.rules names w.is_trailing w.waiting w.position word w.held in
        step_pass s k word w met.0 met.1 parts.1 (word_pass s k names w.is_trailing w.waiting w.position word w.held parts.0 sound)

walk_pass : (s : Shape) (k : KeepsPassing s.rules) (names : Names) (w : Walk) (words : List Text)
    → walk_fault s names w words ≡ [] → AllPass s.rules w.held.rows → AllPass s.rules (fold (walked s.rules names) w words).held.rows
unfolding walk_fault
walk_pass s k names w [] pass sound = sound
walk_pass s k names w (word ∷ rest) pass sound =
    let parts = both (turn_fault s names w word) _ pass in
    walk_pass s k names (walked s.rules names w word) rest parts.1 (turn_pass s k names w word parts.0 sound)

-- ---- after the walk

-- each rule is the one that its id finds among these
abbrev pub AllFound : List Rule → List Rule → Type 0
AllFound c [] = Unit {0}
AllFound c (a ∷ rest) = (arg_by_id c a.id ≡ Some a) × AllFound c rest

-- values of an argument that its id finds
pub passes_by : (c : List Rule) (a : Rule) (values : List Text) → arg_by_id c a.id ≡ Some a → 0 < length values → values_fault a values ≡ [] → Passes c a.id (reading_by a) values
passes_by c a values found lt pass = (lt, subst (λ (o : Option Rule). IfSome o (λ x. (reading_by a ≡ reading_by x) × (values_fault x values ≡ []))) (sym found) (refl, pass))

default_pass : (c : List Rule) (rows : List Row) (a : Rule) → arg_by_id c a.id ≡ Some a → default_fault rows a ≡ [] → AllPass c rows → AllPass c (with_default rows a)
default_pass c rows a found pass sound = go (has_row a.id rows) a.defaults pass
  where
    go : (b : Bool) (ds : List Text) → cond (b || is_empty ds) [] (given_default_fault a ds) ≡ [] → AllPass c (cond b rows (default_rows a.id (reading_by a) ds rows))
    go true ds e = sound
    go false [] e = sound
    go false (v ∷ vs) e =
        let some : is_empty (v ∷ vs) ≡ false = ne_eqb (length (v ∷ vs)) 0 (λ (z : length (v ∷ vs) ≡ 0). omega (arith, z)) in
        let given : given_default_fault a (v ∷ vs) ≡ [] = rw some at e in
        let parts = both (request_kinds (action_of a)) (values_fault a (v ∷ vs)) given in
        with_values_pass c a.id (reading_by a) DefaultValue (v ∷ vs) rows (passes_by c a (v ∷ vs) found (omega arith) parts.1) sound

defaults_pass : (c : List Rule) (rows : List Row) (rest : List Rule) → AllFound c rest → defaults_fault rows rest ≡ [] → AllPass c rows → AllPass c (fold with_default rows rest)
unfolding defaults_fault
defaults_pass c rows [] found pass sound = sound
defaults_pass c rows (a ∷ rest) found pass sound =
    let parts = both (default_fault rows a) _ pass in
    defaults_pass c (with_default rows a) rest found.1 parts.1 (default_pass c rows a found.0 parts.0 sound)

-- there is a row of this id
abbrev pub HasRow : Text → List Row → Type 0
HasRow id rows = (r : Row) × (find (λ (x : Row). bytes_eq x.id id) rows ≡ Some r)

row_found : (id : Text) (rows : List Row) → has_row id rows ≡ true → HasRow id rows
row_found id [] e = cc
row_found id (r ∷ rs) e = go (row_found id rs) (bytes_eq r.id id) e
  where
    go : (has_row id rs ≡ true → HasRow id rs) → (b : Bool) → (b || has_row id rs) ≡ true → (x : Row) × (cond b (Some r) (find (λ (y : Row). bytes_eq y.id id) rs) ≡ Some x)
    go later true f = (r, refl)
    go later false f = later f

with_values_row : (id : Text) (how : Reading) (s : ValueSource) (values : List Text) (rows : List Row) → has_row id (with_values id how s values rows) ≡ true
with_values_row id how s values [] = ap (λ (b : Bool). b || false) ((bytes_eq-Decides id id).1 refl)
with_values_row id how s values (r ∷ rs) = go (with_values_row id how s values rs) (bytes_eq r.id id) refl
  where
    go : has_row id (with_values id how s values rs) ≡ true → (b : Bool) → bytes_eq r.id id ≡ b → has_row id (cond b (more_values s values r ++ rs) (r ∷ with_values id how s values rs)) ≡ true
    go later true e = ap (λ (b : Bool). b || has_row id rs) e
    go later false e = ap (λ (b : Bool). b || has_row id (with_values id how s values rs)) e ∙ later

with_values_keep : (id other : Text) (how : Reading) (s : ValueSource) (values : List Text) (rows : List Row) → has_row id rows ≡ true → has_row id (with_values other how s values rows) ≡ true
with_values_keep id other how s values [] h = cc
with_values_keep id other how s values (r ∷ rs) h = go (with_values_keep id other how s values rs) (bytes_eq r.id other)
  where
    rest : (has_row id rs ≡ true → has_row id (with_values other how s values rs) ≡ true) → (b : Bool) → (b || has_row id rs) ≡ true → (b || has_row id (with_values other how s values rs)) ≡ true
    rest later true f = refl
    rest later false f = later f

    go : (has_row id rs ≡ true → has_row id (with_values other how s values rs) ≡ true) → (b : Bool) → has_row id (cond b (more_values s values r ++ rs) (r ∷ with_values other how s values rs)) ≡ true
    go later true = h
    go later false = rest later (bytes_eq r.id id) h

default_keeps : (id : Text) (rows : List Row) (a : Rule) → has_row id rows ≡ true → has_row id (with_default rows a) ≡ true
default_keeps id rows a h = go (has_row a.id rows) a.defaults
  where
    go : (b : Bool) (ds : List Text) → has_row id (cond b rows (default_rows a.id (reading_by a) ds rows)) ≡ true
    go true ds = h
    go false [] = h
    go false (v ∷ vs) = with_values_keep id a.id (reading_by a) DefaultValue (v ∷ vs) rows h

defaults_keep : (id : Text) (rows : List Row) (rest : List Rule) → has_row id rows ≡ true → has_row id (fold with_default rows rest) ≡ true
defaults_keep id rows [] h = h
defaults_keep id rows (a ∷ rest) h = defaults_keep id (with_default rows a) rest (default_keeps id rows a h)

default_there : (rows : List Row) (a : Rule) → 0 < length a.defaults → has_row a.id (with_default rows a) ≡ true
default_there rows a lt = go (has_row a.id rows) refl a.defaults lt
  where
    go : (b : Bool) → has_row a.id rows ≡ b → (ds : List Text) → 0 < length ds → has_row a.id (cond b rows (default_rows a.id (reading_by a) ds rows)) ≡ true
    go true e ds l = e
    go false e [] l = absurd (omega arith)
    go false e (v ∷ vs) l = with_values_row a.id (reading_by a) DefaultValue (v ∷ vs) rows

-- the rule is one of these
abbrev pub IsAmong : Rule → List Rule → Type 0
IsAmong a [] = ⊥
IsAmong a (x ∷ xs) = (a ≡ x) ⊎ IsAmong a xs

defaults_there : (a : Rule) (rows : List Row) (rest : List Rule) → IsAmong a rest → 0 < length a.defaults → has_row a.id (fold with_default rows rest) ≡ true
defaults_there a rows [] among lt = absurd among
defaults_there a rows (x ∷ rest) (inl e) lt = defaults_keep a.id (with_default rows x) rest (subst (λ (y : Rule). has_row a.id (with_default rows y) ≡ true) e (default_there rows a lt))
defaults_there a rows (x ∷ rest) (inr among) lt = defaults_there a (with_default rows x) rest among lt

given_row : (id : Text) (rows : List Row) → is_given id rows ≡ true → HasRow id rows
given_row id rows e = go (find (λ (x : Row). bytes_eq x.id id) rows) e
  where
    go : (o : Option Row) → option_map_or (λ (r : Row). explicit_source r.source) o false ≡ true → (r : Row) × (o ≡ Some r)
    go None f = cc
    go (Some r) f = (r, refl)

required_given : (a : Rule) (rows : List Row) (rules : List Rule) → IsAmong a rules → a.required ≡ true → list_any (λ (x : Rule). x.required && not (is_given x.id rows)) rules ≡ false → is_given a.id rows ≡ true
required_given a rows [] among required none = absurd among
required_given a rows (x ∷ rest) (inl e) required none = go a.required (is_given a.id rows) required (rw (← e) at none)
  where
    go : (b g : Bool) → b ≡ true → ((b && not g) || list_any (λ (y : Rule). y.required && not (is_given y.id rows)) rest) ≡ false → g ≡ true
    go true true r f = refl
    go true false r f = cc
    go false g r f = cc
required_given a rows (x ∷ rest) (inr among) required none = required_given a rows rest among required (go (x.required && not (is_given x.id rows)) none)
  where
    go : (b : Bool) → (b || list_any (λ (y : Rule). y.required && not (is_given y.id rows)) rest) ≡ false → list_any (λ (y : Rule). y.required && not (is_given y.id rows)) rest ≡ false
    go true f = cc
    go false f = f

-- nothing that is wanted is missing
check_passes : (a b c : Bool) → check_kinds a b c ≡ [] → (b ≡ false) × (c ≡ false)
check_passes true b c e = cc
check_passes false true c e = cc
check_passes false false true e = cc
check_passes false false false e = (refl, refl)

-- a command that wants a subcommand has one
pub subcommand_there : (s : Shape) (rows : List Row) (has : Bool) → check_fault s rows has ≡ [] → (not has && s.subcommand_required) ≡ false
subcommand_there s rows has pass =
    (check_passes (not has && (s.arg_required_else_help && not (list_any (λ r. explicit_source r.source) rows))) (not has && s.subcommand_required)
    (not (s.subcommand_negates_reqs && has) && list_any (λ a. a.required && not (is_given a.id rows)) s.rules) pass).0

row_passes : (c : List Rule) (id : Text) (rows : List Row) (r : Row) → AllPass c rows → find (λ (x : Row). bytes_eq x.id id) rows ≡ Some r → Passes c id r.reading r.values
row_passes c id [] r sound e = cc
row_passes c id (x ∷ xs) r sound e = go (row_passes c id xs r sound.1) (bytes_eq x.id id) refl e
  where
    go : (find (λ (y : Row). bytes_eq y.id id) xs ≡ Some r → Passes c id r.reading r.values) → (b : Bool) → bytes_eq x.id id ≡ b → cond b (Some x) (find (λ (y : Row). bytes_eq y.id id) xs) ≡ Some r → Passes c id r.reading r.values
    go later true is f =
        let same : x ≡ r = cc in
        subst (λ (y : Row). Passes c id y.reading y.values) same (subst (λ (t : Text). Passes c t x.reading x.values) ((bytes_eq-Decides x.id id).0 is) sound.0)
    go later false is f = later f

-- An argument has a word that its reader takes, and is read as that says.
pub record HasRead (a : Rule) (rows : List Row) : Type 0 where
  pub word : Text
  pub given : first_of a.id rows ≡ Some word
  pub read : one_of a.id rows ≡ Some (read_as (reading_by a) word)
  pub taken : accepts a.ignore_case (parser_of_value a.parser) word ≡ true

pub has_read : (c : List Rule) (a : Rule) (rows : List Row) → arg_by_id c a.id ≡ Some a → AllPass c rows → HasRow a.id rows → HasRead a rows
has_read c a rows found sound there = values (row_passes c a.id rows there.0 sound there.1) there.0.values refl
  where
    accepted : (b : Bool) → cond b [] (refused_kind (parser_of_value a.parser) ∷ []) ≡ [] → b ≡ true
    accepted true e = refl
    accepted false e = cc

    values : Passes c a.id there.0.reading there.0.values → (vs : List Text) → there.0.values ≡ vs → HasRead a rows
    values p [] e = absurd (let none : 0 < 0 = subst (λ (xs : List Text). 0 < length xs) e p.0 in omega arith)
    values p (v ∷ vs) e =
        let is = subst (λ (o : Option Rule). IfSome o (λ x. (there.0.reading ≡ reading_by x) × (values_fault x there.0.values ≡ []))) found p.1 in
        let first : slice_get there.0.values 0 ≡ Some v = ap (λ (xs : List Text). slice_get xs 0) e in
        let pass = both (value_kinds a.ignore_case (parser_of_value a.parser) v) _ (subst (λ (xs : List Text). values_fault a xs ≡ []) e is.1) in
        record {
          word = v;
          given = ap (option_and_then (λ (r : Row). slice_get r.values 0)) there.1 ∙ first;
          read = ap (option_and_then (λ (r : Row). option_map (read_as r.reading) (slice_get r.values 0))) there.1 ∙ ap (λ (how : Reading). option_map (read_as how) (slice_get there.0.values 0)) is.0 ∙ ap (option_map (read_as (reading_by a))) first;
          taken = accepted (accepts a.ignore_case (parser_of_value a.parser) v) pass.0;
        }

-- What a level of the parse without a fault leaves.
pub record LevelPasses (s : Shape) (rows : List Row) : Type 0 where
  pub sound : AllPass s.rules rows
  pub defaults : (a : Rule) → IsAmong a s.rules → 0 < length a.defaults → HasRow a.id rows
  pub required : (a : Rule) → IsAmong a s.rules → a.required ≡ true → s.subcommand_negates_reqs ≡ false → HasRow a.id rows

level_passes : (s : Shape) (k : KeepsPassing s.rules) (found : AllFound s.rules s.rules) (words : List Text) → level_fault s [] nothing_held words false [] ≡ [] → LevelPasses s (rows_after s.rules [] words)
level_passes s k found words pass =
    let end = (walk s.rules [] nothing_held words).held in
    let p0 = both (walk_fault s [] (walk_from nothing_held) words) _ pass in
    let p1 = both (settle_fault s.rules s.args_override_self end) _ p0.1 in
    let p2 = both (defaults_fault (settled s.rules end).rows s.rules) _ p1.1 in
    let rows = finished s.rules end in
    record {
      sound = defaults_pass s.rules (settled s.rules end).rows s.rules found p2.0 (settled_pass s.rules k s.args_override_self end p1.0 (walk_pass s k [] (walk_from nothing_held) words p0.0 tt));
      defaults = λ a among lt. row_found a.id rows (defaults_there a (settled s.rules end).rows s.rules among lt);
      required = λ a among required plain. given_row a.id rows (required_given a rows s.rules among required (missing s.subcommand_negates_reqs plain (check_passes _ _ _ p2.1).1));
    }
  where
    missing : (b : Bool) {m : Bool} → b ≡ false → (not (b && false) && m) ≡ false → m ≡ false
    missing true e f = cc
    missing false e f = f

-- ---- uses that leave rows that pass

abbrev pub UsePasses : List Rule → Rule → Type 0
UsePasses c a = (again : Bool) (values : List Text) (rows : List Row) → use_fault again a values rows ≡ [] → AllPass c rows → AllPass c (used a values rows)

-- an argument whose last use counts, and that takes a value
set_passes : (c : List Rule) (a : Rule) → arg_by_id c a.id ≡ Some a → action_of a ≡ Set → (unwrap_or_range a.range).start_inclusive ≡ 1 → UsePasses c a
set_passes c a found is one again [] rows pass sound =
    let none : range_kinds 1 (most_values a) 0 ≡ [] = subst (λ (n : ℕ). range_kinds n (most_values a) 0 ≡ []) one (both (range_kinds (unwrap_or_range a.range).start_inclusive (most_values a) 0) _ pass).0 in
    cc
set_passes c a found is one again (v ∷ vs) rows pass sound =
    let act = subst (λ (x : ArgAction). action_fault x again a (v ∷ vs) rows ≡ []) is (both (range_kinds (unwrap_or_range a.range).start_inclusive (most_values a) (length (v ∷ vs))) _ pass).1 in
    let values = (both _ (values_fault a (v ∷ vs)) act).1 in
    subst (λ (x : ArgAction). AllPass c (used_as x a.id (reading_by a) (v ∷ vs) rows)) (sym is)
    (with_values_pass c a.id (reading_by a) CommandLine (v ∷ vs) (without a.id rows) (passes_by c a (v ∷ vs) found (omega arith) values) (without_pass c a.id rows sound))

-- an argument all of whose uses count, and that takes a value in each
append_passes : (c : List Rule) (a : Rule) → arg_by_id c a.id ≡ Some a → action_of a ≡ Append → (unwrap_or_range a.range).start_inclusive ≡ 1 → UsePasses c a
append_passes c a found is one again [] rows pass sound =
    let none : range_kinds 1 (most_values a) 0 ≡ [] = subst (λ (n : ℕ). range_kinds n (most_values a) 0 ≡ []) one (both (range_kinds (unwrap_or_range a.range).start_inclusive (most_values a) 0) _ pass).0 in
    cc
append_passes c a found is one again (v ∷ vs) rows pass sound =
    let act = subst (λ (x : ArgAction). action_fault x again a (v ∷ vs) rows ≡ []) is (both (range_kinds (unwrap_or_range a.range).start_inclusive (most_values a) (length (v ∷ vs))) _ pass).1 in
    subst (λ (x : ArgAction). AllPass c (used_as x a.id (reading_by a) (v ∷ vs) rows)) (sym is)
    (with_values_pass c a.id (reading_by a) CommandLine (v ∷ vs) rows (passes_by c a (v ∷ vs) found (omega arith) act) sound)

-- a flag, which has its one value where it is given
flag_passes : (c : List Rule) (a : Rule) → arg_by_id c a.id ≡ Some a → action_of a ≡ SetTrue → 0 < length a.missing → UsePasses c a
flag_passes c a found is some again values rows pass sound =
    let act = subst (λ (x : ArgAction). action_fault x again a (values_or_missing a values) rows ≡ []) is (both (range_kinds (unwrap_or_range a.range).start_inclusive (most_values a) (length values)) _ pass).1 in
    let fine = (both _ (values_fault a (values_or_missing a values)) act).1 in
    subst (λ (x : ArgAction). AllPass c (used_as x a.id (reading_by a) (values_or_missing a values) rows)) (sym is)
    (with_values_pass c a.id (reading_by a) CommandLine (values_or_missing a values) (without a.id rows) (passes_by c a (values_or_missing a values) found (there values) fine) (without_pass c a.id rows sound))
  where
    there : (vs : List Text) → 0 < length (values_or_missing a vs)
    there [] = some
    there (v ∷ vs) = omega arith

-- a call for help is a fault
help_passes : (c : List Rule) (a : Rule) → action_of a ≡ Help → UsePasses c a
help_passes c a is again values rows pass sound =
    let none = subst (λ (x : ArgAction). action_fault x again a (values_or_missing a values) rows ≡ []) is (both (range_kinds (unwrap_or_range a.range).start_inclusive (most_values a) (length values)) _ pass).1 in
    cc

abbrev pub AllUsesPass : List Rule → List Rule → Type 0
AllUsesPass c [] = Unit {0}
AllUsesPass c (a ∷ rest) = UsePasses c a × AllUsesPass c rest

uses_pass : (c rest : List Rule) → AllUsesPass c rest → (p : Rule → Bool) (a : Rule) → find p rest ≡ Some a → UsePasses c a
uses_pass c [] all p a e = cc
uses_pass c (x ∷ xs) all p a e = go (uses_pass c xs all.1 p a) (p x) e
  where
    go : (find p xs ≡ Some a → UsePasses c a) → (b : Bool) → cond b (Some x) (find p xs) ≡ Some a → UsePasses c a
    go later true f = let same : x ≡ a = cc in subst (UsePasses c) same all.0
    go later false f = later f

-- ---- arguments of a program

-- whether an argument is of one of four sorts: its last use counts, or all do, with a value in each; a flag, which has its value where it is given; or help
abbrev pub is_plain : ArgAction → Rule → Bool
is_plain Set a = (unwrap_or_range a.range).start_inclusive == 1
is_plain Append a = (unwrap_or_range a.range).start_inclusive == 1
is_plain SetTrue a = ltb 0 (length a.missing)
is_plain Help a = true
is_plain _ a = false

abbrev pub are_plain : List Rule → Bool
are_plain [] = true
are_plain (a ∷ rest) = is_plain (action_of a) a && are_plain rest

plain_passes : (c : List Rule) (a : Rule) → arg_by_id c a.id ≡ Some a → is_plain (action_of a) a ≡ true → UsePasses c a
plain_passes c a found sorted = go (action_of a) refl sorted
  where
    go : (x : ArgAction) → action_of a ≡ x → is_plain x a ≡ true → UsePasses c a
    go Set is e = set_passes c a found is (eqb-true _ _ e)
    go Append is e = append_passes c a found is (eqb-true _ _ e)
    go SetTrue is e = flag_passes c a found is (ltb-true _ _ e)
    go Help is e = help_passes c a is
    go _ is e = cc

all_uses_pass : (c rest : List Rule) → AllFound c rest → are_plain rest ≡ true → AllUsesPass c rest
all_uses_pass c [] found sorted = tt
all_uses_pass c (a ∷ rest) found sorted =
    let parts = and_parts (is_plain (action_of a) a) (are_plain rest) sorted in
    (plain_passes c a found.0 parts.0, all_uses_pass c rest found.1 parts.1)

-- none of the arguments has this id
abbrev pub is_other : Text → List Rule → Bool
is_other id [] = true
is_other id (a ∷ rest) = not (bytes_eq id a.id) && is_other id rest

-- each has an id of its own
abbrev pub are_apart : List Rule → Bool
are_apart [] = true
are_apart (a ∷ rest) = is_other a.id rest && are_apart rest

not_true : (b : Bool) → not b ≡ true → b ≡ false
not_true true e = cc
not_true false e = refl

found_after : (x : Rule) (c rest : List Rule) → is_other x.id rest ≡ true → AllFound c rest → AllFound (x ∷ c) rest
found_after x c [] other found = tt
found_after x c (a ∷ rest) other found =
    let parts = and_parts (not (bytes_eq x.id a.id)) (is_other x.id rest) other in
    (ap (λ (b : Bool). cond b (Some x) (arg_by_id c a.id)) (not_true (bytes_eq x.id a.id) parts.0) ∙ found.0, found_after x c rest parts.1 found.1)

all_found : (c : List Rule) → are_apart c ≡ true → AllFound c c
all_found [] apart = tt
all_found (a ∷ rest) apart =
    let parts = and_parts (is_other a.id rest) (are_apart rest) apart in
    (ap (λ (b : Bool). cond b (Some a) (arg_by_id rest a.id)) ((bytes_eq-Decides a.id a.id).1 refl), found_after a rest rest parts.0 (all_found rest parts.1))

pub among : (p : Rule → Bool) (c : List Rule) (a : Rule) → find p c ≡ Some a → IsAmong a c
among p [] a e = cc
among p (x ∷ xs) a e = go (among p xs a) (p x) e
  where
    go : (find p xs ≡ Some a → IsAmong a xs) → (b : Bool) → cond b (Some x) (find p xs) ≡ Some a → (a ≡ x) ⊎ IsAmong a xs
    go later true f = inl (let same : a ≡ x = cc in same)
    go later false f = inr (later f)

-- a level of the parse without a fault, where the arguments are such ones
pub plain_level : (s : Shape) → are_apart s.rules ≡ true → are_plain s.rules ≡ true → (words : List Text) → level_fault s [] nothing_held words false [] ≡ [] → LevelPasses s (rows_after s.rules [] words)
plain_level s apart sorted words pass =
    let found = all_found s.rules apart in
    level_passes s (λ p a e. uses_pass s.rules s.rules (all_uses_pass s.rules s.rules found sorted) p a e) found words pass
