-- A parse of the program's words that succeeds has found a command, with the arguments that it needs.
use Rattle.std.proofs.Common.{◌≡◌, ◌∙◌, ℕ, ◌<◌, ◌&&◌, ◌||◌, inl, inr, Bool, true, false, cond, not, List, [], ◌∷◌, is_some, Option, Some, None, refl, sym, ap, arith, codes, length}
use Rattle.std.specs.Prelude.{IfSome, find, fold, option_and_then, option_map, pos, slice_get}
use Rattle.std.specs.Option.{option_map_or}
use Rattle.std.specs.Str.{bytes_eq}
use Rattle.std.proofs.lemmas.Int.{ints}
use Rattle.std.proofs.lemmas.Slice.Eq.{bytes_eq-Decides}
use Rattle.clap.specs.Lexer.{long_of, short_of}
use Rattle.clap.specs.Values.{read_as, reading_of}
use Rattle.clap.specs.Facts.{parser_of_value}
use Rattle.clap.specs.ValueTests.{accepts}
use Rattle.clap.specs.declared.builder.value_parser.ValueParser.{ValueParser}
use Rattle.clap.specs.declared.builder.value_parser.ValueParser.TheVariants.{Signed, Bool as BoolParser}
use Rattle.clap.specs.declared.error.kind.ErrorKind.{ErrorKind}
use Rattle.clap.specs.Kinds.{Kinds, or_else}
use Rattle.clap.specs.Faults.{fault_of, defaults_fault, entered_fault, level_fault, other_fault, settle_fault, step_fault, turn_fault, walk_fault, word_fault}
use Rattle.clap.specs.Simple.{Shape, argument_words, built, entered, label_of, names_of, rows_at, filled, with_index, built_leaf, inherited}
use Rattle.clap.specs.Walk.{Held, Names, Outcome, done, waits, plain, refused, Row, Rule, Step, next, trailing, subcommand, value, Text, Waiting, idle, option, positional, Walk, answers_to, arg_by_id, nothing_held, rows_after}
use Rattle.clap.specs.Walk.{subcommand_met, subcommand_or_other, word_met, to_positional, after_step, walked, walked_from, walk, walk_from, arg_by_index, arg_by_long, bundle, long_met, settled, finished}
use Rattle.clap.specs.Walk.{one_of, row_text, plain_word, after_flag, long_or_other, short_or_plain}
use Rattle.clap.proofs.ValueTestLemmas.{accepts-Accepts}
use Rattle.llrp_words.specs.declared.arguments.TheConstants.{MOST_OCTETS}
use Rattle.llrp_words.specs.Private.Parse.{HasFlagWord, HasNumberIn, HasPlan, HasWord, IsFound, IsParse, MayHaveNumberIn, MayHaveNumberWord}
use Rattle.llrp_words.specs.Calls.Arguments.{access_app, ask_app, command_in, encode_app, epc_app, explain_app, fields_app, flag_rule, inventory_app, least_longest, limit_rule, llrp_app, longest_rule, loop_app, needed_number_rule, needed_option_rule, needed_rule, ranged_rule, show_app, sim_app, stop_app, top_app, watch_app}
use Rattle.llrp_words.proofs.ReadRows.{HasRead, LevelPasses, among, both, has_read, plain_level, subcommand_there}

-- ---- a walk without a fault does not stop at help

-- the step enters no help
abbrev EntersNoHelp : Step → Type 0
EntersNoHelp (subcommand name) = bytes_eq name (codes "help") ≡ false
EntersNoHelp (next waiting) = Unit {0}
EntersNoHelp (trailing position) = Unit {0}
EntersNoHelp value = Unit {0}

-- where the walk stopped is not help
abbrev IsNoHelp : Option (Text × List Text) → Type 0
IsNoHelp stop = IfSome stop (λ p. bytes_eq p.0 (codes "help") ≡ false)

plain_no_help : (c : List Rule) (waiting : Waiting) (word : Text) (h : Held) → EntersNoHelp (plain_word c waiting word h).1
plain_no_help c idle word h = tt
plain_no_help c positional word h = tt
plain_no_help c (option id) word h = tt

after_flag_no_help : (c : List Rule) (waiting : Waiting) (word : Text) (h : Held) (o : Outcome) → EntersNoHelp (after_flag c waiting word h o).1
after_flag_no_help c waiting word h done = tt
after_flag_no_help c waiting word h (waits id) = tt
after_flag_no_help c waiting word h plain = plain_no_help c waiting word h
after_flag_no_help c waiting word h refused = plain_no_help c waiting word h

flag_word_no_help : (c : List Rule) (waiting : Waiting) (word : Text) (o : Option (Text × Option Text)) (h : Held) → EntersNoHelp (long_or_other c waiting word o h).1
flag_word_no_help c waiting word (Some p) h = after_flag_no_help c waiting word (long_met c (arg_by_long c p.0) p.1 h).0 (long_met c (arg_by_long c p.0) p.1 h).1
flag_word_no_help c waiting word None h = go (short_of word)
  where
    go : (o : Option Text) → EntersNoHelp (short_or_plain c waiting word o h).1
    go None = plain_no_help c waiting word h
    go (Some flags) = after_flag_no_help c waiting word (bundle c flags h).0 (bundle c flags h).1

word_no_help : (s : Shape) → s.disable_help_subcommand ≡ false → (names : Names) (is_trailing : Bool) (waiting : Waiting) (position : ℕ) (word : Text) (h : Held)
    → word_fault s names is_trailing waiting word h ≡ [] → EntersNoHelp (word_met s.rules names is_trailing waiting position word h).1
word_no_help s offers names true waiting position word h pass = tt
word_no_help s offers names false waiting position word h pass = go (subcommand_met names waiting word) pass
  where
    other : (b : Bool) → EntersNoHelp (cond b (h, trailing position) (long_or_other s.rules waiting word (long_of word) h)).1
    other true = tt
    other false = flag_word_no_help s.rules waiting word (long_of word) h

    none : (b d : Bool) (k : ErrorKind) (l : Kinds) → d ≡ false → cond (b && not d) (k ∷ l) [] ≡ [] → b ≡ false
    none true true k l e f = absurd (cc)
    none true false k l e f = cc
    none false d k l e f = refl

    go : (o : Option Text) → other_fault s o word h ≡ [] → EntersNoHelp (subcommand_or_other s.rules o waiting position word h).1
    go (Some name) f = none (bytes_eq name (codes "help")) s.disable_help_subcommand _ _ offers f
    go None f = other (bytes_eq word (45 ∷ 45 ∷ []))

step_no_help : (s : Shape) (word : Text) (w : Walk) (h : Held) (step : Step) → EntersNoHelp step → IsNoHelp w.stopped → IsNoHelp (after_step s.rules word w h step).stopped
step_no_help s word w h (next waiting) e stop = stop
step_no_help s word w h (trailing position) e stop = stop
step_no_help s word w h (subcommand name) e stop = e
step_no_help s word w h value e stop = go (arg_by_index s.rules w.position)
  where
    go : (o : Option Rule) → IsNoHelp (to_positional s.rules o word w h).stopped
    go None = stop
    go (Some a) = tt

turn_no_help : (s : Shape) → s.disable_help_subcommand ≡ false → (names : Names) (w : Walk) (word : Text) → turn_fault s names w word ≡ [] → IsNoHelp w.stopped → IsNoHelp (walked s.rules names w word).stopped
unfolding walked
turn_no_help s offers names w word pass stop = go w.stopped stop pass
  where
    go : (o : Option (Text × List Text)) → IsNoHelp o → cond (is_some o) [] (or_else (word_fault s names w.is_trailing w.waiting word w.held)
        (step_fault s w.position (word_met s.rules names w.is_trailing w.waiting w.position word w.held).0 (word_met s.rules names w.is_trailing w.waiting w.position word w.held).1)) ≡ []
        → IsNoHelp (walked_from s.rules names o w word).stopped
    go (Some p) helpless f = helpless
    go None helpless f =
        let parts = both (word_fault s names w.is_trailing w.waiting word w.held) _ f in
        let met = word_met s.rules names w.is_trailing w.waiting w.position word w.held in
        step_no_help s word w met.0 met.1 (word_no_help s offers names w.is_trailing w.waiting w.position word w.held parts.0) stop

walk_no_help : (s : Shape) → s.disable_help_subcommand ≡ false → (names : Names) (w : Walk) (words : List Text) → walk_fault s names w words ≡ [] → IsNoHelp w.stopped → IsNoHelp (fold (walked s.rules names) w words).stopped
unfolding walk_fault
walk_no_help s offers names w [] pass stop = stop
walk_no_help s offers names w (word ∷ rest) pass stop =
    let parts = both (turn_fault s names w word) _ pass in
    walk_no_help s offers names (walked s.rules names w word) rest parts.1 (turn_no_help s offers names w word parts.0 stop)

-- ---- what a command's arguments give

from_zero : (low high : ℕ) (id : Text) (rows : List Row) → HasNumberIn low high id rows → HasNumberIn 0 high id rows
from_zero low high id rows h = record { word = h.word; given = h.given; read = h.read; spells = (h.spells.0, h.spells.1, omega (arith, ints, h.spells.2), h.spells.3) }

-- an argument that was read is a number in its range
number_read : (a : Rule) (rows : List Row) (low high : ℕ) → a.parser ≡ Some (Signed (pos low) (pos high)) → HasRead a rows → HasNumberIn low high a.id rows
number_read a rows low high is r =
    record {
      word = r.word;
      given = r.given;
      read = r.read ∙ ap (λ (p : Option ValueParser). Some (read_as (reading_of (parser_of_value p)) r.word)) is;
      spells = accepts-Accepts a.ignore_case (Signed (pos low) (pos high)) r.word (ap (λ (p : Option ValueParser). accepts a.ignore_case (parser_of_value p) r.word) (sym is) ∙ r.taken);
    }

-- a flag's word is one of two
flag_read : (name : Text) (a : Rule) (rows : List Row) → a.id ≡ name → a.parser ≡ Some BoolParser → HasRead a rows → HasFlagWord name rows
flag_read name a rows id is r =
    let read : one_of name rows ≡ Some r.word = ap (λ (t : Text). one_of t rows) (sym id) ∙ r.read ∙ ap (λ (p : Option ValueParser). Some (read_as (reading_of (parser_of_value p)) r.word)) is in
    let taken : (bytes_eq r.word (codes "true") || bytes_eq r.word (codes "false")) ≡ true = ap (λ (p : Option ValueParser). accepts a.ignore_case (parser_of_value p) r.word) (sym is) ∙ r.taken in
    go (bytes_eq r.word (codes "true")) refl read taken
  where
    go : (b : Bool) → bytes_eq r.word (codes "true") ≡ b → one_of name rows ≡ Some r.word → (b || bytes_eq r.word (codes "false")) ≡ true → HasFlagWord name rows
    go true e read t = (true, read ∙ ap (λ (w : Text). Some w) ((bytes_eq-Decides r.word (codes "true")).0 e))
    go false e read t = (false, inl (read ∙ ap (λ (w : Text). Some w) ((bytes_eq-Decides r.word (codes "false")).0 t)))

-- the arguments of the commands, as the built program has them
abbrev the_flag : Text → Rule
the_flag name = with_index 1 (filled (flag_rule name))

abbrev the_number : Text → (low high : ℕ) → Rule
the_number name low high = with_index 1 (filled (ranged_rule name low high))

-- what a level of the parse left of one of its arguments
module _ (s : Shape) (rows : List Row) (level : LevelPasses s rows) where
  pub flag_given : (name : Text) → arg_by_id s.rules name ≡ Some (the_flag name) → HasFlagWord name rows
  flag_given name e =
      flag_read name (the_flag name) rows refl refl (has_read s.rules (the_flag name) rows e level.sound (level.defaults (the_flag name) (among (λ (x : Rule). bytes_eq x.id name) s.rules (the_flag name) e) (omega arith)))

  -- an argument that must be given
  pub required_read : s.subcommand_negates_reqs ≡ false → (a : Rule) → arg_by_id s.rules a.id ≡ Some a → a.required ≡ true → HasRead a rows
  required_read keeps a e wanted = has_read s.rules a rows e level.sound (level.required a (among (λ (x : Rule). bytes_eq x.id a.id) s.rules a e) wanted keeps)

  pub word_given : s.subcommand_negates_reqs ≡ false → (a : Rule) → arg_by_id s.rules a.id ≡ Some a → a.required ≡ true → HasWord a.id rows
  word_given keeps a e wanted = let r = required_read keeps a e wanted in (r.word, r.given)

  -- one that is there where it is not given
  pub default_given : (a : Rule) (low high : ℕ) → a.parser ≡ Some (Signed (pos low) (pos high)) → arg_by_id s.rules a.id ≡ Some a → 0 < length a.defaults → HasNumberIn low high a.id rows
  default_given a low high is e lt = number_read a rows low high is (has_read s.rules a rows e level.sound (level.defaults a (among (λ (x : Rule). bytes_eq x.id a.id) s.rules a e) lt))

  -- an option that may be given
  pub number_given : (name : Text) (low high : ℕ) → arg_by_id s.rules name ≡ Some (the_number name low high) → MayHaveNumberIn low high name rows
  number_given name low high e = go (find (λ (r : Row). bytes_eq r.id name) rows) refl
    where
      go : (o : Option Row) → find (λ (r : Row). bytes_eq r.id name) rows ≡ o → MayHaveNumberIn low high name rows
      go None none = inl (ap (option_and_then row_text) none, ap (option_and_then (λ (r : Row). slice_get r.values 0)) none)
      go (Some r) there = inr (number_read (the_number name low high) rows low high refl (has_read s.rules (the_number name low high) rows e level.sound (r, there)))

  pub count_given : (name : Text) (low : ℕ) → arg_by_id s.rules name ≡ Some (the_number name low 65535) → MayHaveNumberWord name rows
  count_given name low e = go (number_given name low 65535 e)
    where
      go : MayHaveNumberIn low 65535 name rows → MayHaveNumberWord name rows
      go (inl none) = inl none
      go (inr h) = inr (from_zero low 65535 name rows h)

-- a command of this name gives what it needs
abbrev Gives : Shape → Type 0
Gives s = (name : Text) (words : List Text) → bytes_eq name (codes "help") ≡ false → answers_to name (label_of s) ≡ true → level_fault s [] nothing_held words false [] ≡ [] → IsParse s.name (rows_after s.rules [] words)

abbrev AllGive : List Shape → Type 0
AllGive [] = Unit {0}
AllGive (s ∷ ss) = Gives s × AllGive ss

found_parse : (subs : List Shape) → AllGive subs → (name : Text) (words : List Text) → bytes_eq name (codes "help") ≡ false
    → option_map_or (λ s. level_fault s [] nothing_held words false []) (find (λ s. answers_to name (label_of s)) subs) [] ≡ []
    → IfSome (option_map (λ s. rows_at s words) (find (λ s. answers_to name (label_of s)) subs)) (λ p. IsParse p.0 p.1)
found_parse [] all name words helpless pass = tt
found_parse (s ∷ ss) all name words helpless pass = go (found_parse ss all.1 name words helpless) (answers_to name (label_of s)) refl pass
  where
    go : (option_map_or (λ s. level_fault s [] nothing_held words false []) (find (λ s. answers_to name (label_of s)) ss) [] ≡ []
        → IfSome (option_map (λ s. rows_at s words) (find (λ s. answers_to name (label_of s)) ss)) (λ p. IsParse p.0 p.1))
        → (b : Bool) → answers_to name (label_of s) ≡ b → option_map_or (λ s. level_fault s [] nothing_held words false []) (cond b (Some s) (find (λ s. answers_to name (label_of s)) ss)) [] ≡ []
        → IfSome (option_map (λ s. rows_at s words) (cond b (Some s) (find (λ s. answers_to name (label_of s)) ss))) (λ p. IsParse p.0 p.1)
    go later true e f = all.0 name words helpless e f
    go later false e f = later f

help_gives : (aliases : List Text) (name : Text) → aliases ≡ [] → bytes_eq name (codes "help") ≡ false → answers_to name (codes "help", aliases) ≡ true → ⊥
help_gives [] name e helpless met = go (bytes_eq (codes "help") name) refl met
  where
    go : (b : Bool) → bytes_eq (codes "help") name ≡ b → (b || false) ≡ true → ⊥
    go true is f =
        let same : bytes_eq name (codes "help") ≡ true = (bytes_eq-Decides name (codes "help")).1 (sym ((bytes_eq-Decides (codes "help") name).0 is)) in
        let bad : true ≡ false = sym same ∙ helpless in
        cc
    go false is f = cc
help_gives (a ∷ rest) name e helpless met = cc

-- ---- the program's commands

-- a command of the program, as it is built
abbrev built_sub : Shape → Shape
built_sub s = built_leaf (inherited top_app.top s)

abbrev the_limit : Rule
the_limit = with_index 1 (filled limit_rule)

abbrev the_longest : Text → Rule
the_longest default = with_index 1 (filled (longest_rule default))

abbrev the_host : Rule
the_host = with_index 1 (filled (needed_rule (codes "HOST")))

abbrev the_port : Rule
the_port = with_index 2 (filled (needed_number_rule (codes "PORT") 1 65535))

abbrev the_own_port : Rule
the_own_port = with_index 1 (filled (needed_number_rule (codes "PORT") 0 65535))

abbrev the_file : Rule
the_file = with_index 2 (filled (needed_rule (codes "FILE")))

abbrev the_tag : Rule
the_tag = with_index 2 (filled (needed_option_rule (codes "tag")))

show_gives : Gives (built_sub show_app.top)
show_gives name words helpless met pass =
    let s = built_sub show_app.top in
    let level = plain_level s refl refl words pass in
    let flag = flag_given s (rows_after s.rules [] words) level in
    ((flag (codes "hex") refl, flag (codes "all") refl, default_given s _ level the_limit 10 MOST_OCTETS refl refl (omega arith), flag (codes "json") refl), flag (codes "keys") refl, flag (codes "segments") refl)

encode_gives : Gives (built_sub encode_app.top)
encode_gives name words helpless met pass =
    let s = built_sub encode_app.top in
    let level = plain_level s refl refl words pass in
    let flag = flag_given s (rows_after s.rules [] words) level in
    ((flag (codes "hex") refl, flag (codes "all") refl, default_given s _ level the_limit 10 MOST_OCTETS refl refl (omega arith), flag (codes "json") refl), flag (codes "keys") refl)

epc_gives : Gives (built_sub epc_app.top)
epc_gives name words helpless met pass =
    let s = built_sub epc_app.top in
    let level = plain_level s refl refl words pass in
    let flag = flag_given s (rows_after s.rules [] words) level in
    let number = number_given s (rows_after s.rules [] words) level in
    (flag (codes "forms") refl, flag (codes "list") refl, flag (codes "json") refl, number (codes "prefix-digits") 6 12 refl, number (codes "filter") 0 7 refl)

fields_gives : Gives (built_sub fields_app.top)
fields_gives name words helpless met pass = let s = built_sub fields_app.top in flag_given s _ (plain_level s refl refl words pass) (codes "all") refl

explain_gives : Gives (built_sub explain_app.top)
explain_gives name words helpless met pass =
    let s = built_sub explain_app.top in
    let level = plain_level s refl refl words pass in
    let flag = flag_given s (rows_after s.rules [] words) level in
    ((flag (codes "hex") refl, flag (codes "all") refl, default_given s _ level the_limit 10 MOST_OCTETS refl refl (omega arith), flag (codes "json") refl), number_given s _ level (codes "only") 0 4294967295 refl)

sim_gives : Gives (built_sub sim_app.top)
sim_gives name words helpless met pass =
    let s = built_sub sim_app.top in
    let level = plain_level s refl refl words pass in
    let flag = flag_given s (rows_after s.rules [] words) level in (
      number_read the_own_port _ 0 65535 refl (required_read s _ level refl the_own_port refl refl),
      flag (codes "all") refl,
      count_given s _ level (codes "clients") 0 refl,
      flag (codes "ready") refl,
      flag (codes "keep") refl,
    )

-- a command with a plan
plan_gives : (s : Shape) (rows : List Row) → LevelPasses s rows → arg_by_id s.rules (codes "every") ≡ Some (the_number (codes "every") 0 65535) → arg_by_id s.rules (codes "polls") ≡ Some (the_number (codes "polls") 0 65535) → arg_by_id s.rules (codes "reports") ≡ Some (the_number (codes "reports") 1 65535)
    → arg_by_id s.rules (codes "check") ≡ Some (the_flag (codes "check")) → arg_by_id s.rules (codes "clean") ≡ Some (the_flag (codes "clean")) → arg_by_id s.rules (codes "json") ≡ Some (the_flag (codes "json")) → arg_by_id s.rules (codes "all") ≡ Some (the_flag (codes "all")) → HasPlan rows
plan_gives s rows level every polls reports check clean json all = (
  count_given s rows level (codes "every") 0 every,
  count_given s rows level (codes "polls") 0 polls,
  count_given s rows level (codes "reports") 1 reports,
  flag_given s rows level (codes "check") check,
  flag_given s rows level (codes "clean") clean,
  flag_given s rows level (codes "json") json,
  flag_given s rows level (codes "all") all,
)

inventory_gives : Gives (built_sub inventory_app.top)
inventory_gives name words helpless met pass =
    let s = built_sub inventory_app.top in
    let level = plain_level s refl refl words pass in (
      word_given s _ level refl the_host refl refl,
      from_zero 1 65535 (codes "PORT") _ (number_read the_port _ 1 65535 refl (required_read s _ level refl the_port refl refl)),
      plan_gives s _ level refl refl refl refl refl refl refl,
      count_given s _ level (codes "timeout") 1 refl,
      default_given s _ level (the_longest (codes "65536")) least_longest MOST_OCTETS refl refl (omega arith),
      flag_given s _ level (codes "verbose") refl,
      flag_given s _ level (codes "keys") refl,
    )

loop_gives : Gives (built_sub loop_app.top)
loop_gives name words helpless met pass = let s = built_sub loop_app.top in plan_gives s _ (plain_level s refl refl words pass) refl refl refl refl refl refl refl

watch_gives : Gives (built_sub watch_app.top)
watch_gives name words helpless met pass =
    let s = built_sub watch_app.top in
    let level = plain_level s refl refl words pass in
    let flag = flag_given s (rows_after s.rules [] words) level in
    let number = number_given s (rows_after s.rules [] words) level in
    let count = count_given s (rows_after s.rules [] words) level in (
      word_given s _ level refl the_host refl refl,
      (
        number (codes "id") 1 4294967295 refl,
        count (codes "every") 1 refl,
        count (codes "keepalive") 0 refl,
        count (codes "again") 1 refl,
        flag (codes "text") refl,
        default_given s _ level (the_longest (codes "1048576")) least_longest MOST_OCTETS refl refl (omega arith),
        flag (codes "verbose") refl,
        number (codes "for") 1 4294967295 refl,
        flag (codes "messages") refl,
        flag (codes "keys") refl,
      ),
    )

stop_gives : Gives (built_sub stop_app.top)
stop_gives name words helpless met pass =
    let s = built_sub stop_app.top in
    let level = plain_level s refl refl words pass in
    let flag = flag_given s (rows_after s.rules [] words) level in
    let number = number_given s (rows_after s.rules [] words) level in
    let count = count_given s (rows_after s.rules [] words) level in (
      word_given s _ level refl the_host refl refl,
      (
        (
          number (codes "id") 1 4294967295 refl,
          count (codes "every") 1 refl,
          count (codes "keepalive") 0 refl,
          count (codes "again") 1 refl,
          flag (codes "text") refl,
          default_given s _ level (the_longest (codes "1048576")) least_longest MOST_OCTETS refl refl (omega arith),
          flag (codes "verbose") refl,
          number (codes "for") 1 4294967295 refl,
          flag (codes "messages") refl,
          flag (codes "keys") refl,
        ),
        count (codes "timeout") 1 refl,
      ),
    )

ask_gives : Gives (built_sub ask_app.top)
ask_gives name words helpless met pass =
    let s = built_sub ask_app.top in
    let level = plain_level s refl refl words pass in
    let flag = flag_given s (rows_after s.rules [] words) level in
    (word_given s _ level refl the_host refl refl, (word_given s _ level refl the_file refl refl, flag (codes "json") refl, count_given s _ level (codes "timeout") 1 refl, flag (codes "go-on") refl, flag (codes "raw") refl))

access_gives : Gives (built_sub access_app.top)
access_gives name words helpless met pass =
    let s = built_sub access_app.top in
    let level = plain_level s refl refl words pass in
    let count = count_given s (rows_after s.rules [] words) level in (
      word_given s _ level refl the_host refl refl,
      (
        word_given s _ level refl the_tag refl refl,
        flag_given s _ level (codes "verify") refl,
        count (codes "antenna") 1 refl,
        count (codes "settle") 1 refl,
        count (codes "timeout") 1 refl,
        flag_given s _ level (codes "json") refl,
      ),
    )

all_give : AllGive (built llrp_app).subs
unfolding llrp_app
all_give = (
  show_gives,
  (
    encode_gives,
    (epc_gives, (fields_gives, (explain_gives, (sim_gives, (inventory_gives, (loop_gives, (watch_gives, (stop_gives, (ask_gives, (access_gives, (λ name words helpless met pass. absurd (help_gives [] name refl helpless met), tt))))))))))),
  ),
)

-- where the parse succeeds a command was found, with what it needs
pub found_if_parsed : (words : List Text) → fault_of llrp_app words ≡ [] → IsFound (command_in words)
unfolding llrp_app command_in
found_if_parsed words pass =
    let top = (built llrp_app).top in
    let names = names_of (built llrp_app) in
    let end = walk top.rules names nothing_held (argument_words llrp_app words) in
    let p0 = both (walk_fault top names (walk_from nothing_held) (argument_words llrp_app words)) _ pass in
    let p1 = both (entered_fault (built llrp_app) end.stopped) _ p0.1 in
    let p2 = both (settle_fault top.rules top.args_override_self end.held) _ p1.1 in
    let p3 = both (defaults_fault (settled top.rules end.held).rows top.rules) _ p2.1 in
    entered_parse end.stopped (walk_no_help top refl names (walk_from nothing_held) (argument_words llrp_app words) p0.0 tt) p1.0 (subcommand_there top (finished top.rules end.held) (is_some (entered (built llrp_app) end.stopped)) p3.1)
  where
    there : (o : Option (Text × List Row)) → IfSome o (λ p. IsParse p.0 p.1) → (not (is_some o) && true) ≡ false → IsFound o
    there None h e = cc
    there (Some p) h e = h

    entered_parse : (stop : Option (Text × List Text)) → IsNoHelp stop → entered_fault (built llrp_app) stop ≡ [] → (not (is_some (entered (built llrp_app) stop)) && true) ≡ false → IsFound (entered (built llrp_app) stop)
    entered_parse None helpless f e = cc
    entered_parse (Some p) helpless f e = there (entered (built llrp_app) (Some p)) (found_parse (built llrp_app).subs all_give p.0 p.1 helpless f) e
