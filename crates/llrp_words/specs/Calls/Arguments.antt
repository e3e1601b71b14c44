-- The words that the program takes after its name, and the command that they name.
use Rattle.std.specs.Prelude.{◌≡◌, ◌≢◌, ◌⊎◌, ◌||◌, ℕ, pos, ◌≤◌, List, [], ◌∷◌, Option, Some, None, Bool, true, false, if◌then◌else◌, is_some, unwrap_or, codes, fold, option_map, option_and_then, ◌++◌}
use Rattle.std.specs.Str.{bytes_eq}
use Rattle.std.specs.Borrow.{Bor}
use Rattle.std.specs.Str.Parse.{signed_digits_value}
use Rattle.clap.specs.Words.{App, Rule, Row, Text, new_app, new_rule, with_rule, with_subcommand, subcommand_of, first_of, all_of}
use Rattle.clap.specs.Faults.{fault_of}
use Rattle.clap.specs.Walk.{is_empty, one_of}
use Rattle.clap.specs.declared.builder.ArgAction.TheVariants.{Append, SetTrue}
use Rattle.clap.specs.declared.builder.value_parser.ValueParser.TheVariants.{Signed}
use Rattle.llrp_words.specs.declared.arguments.TheConstants.{MOST_OCTETS}
use Rattle.llrp_words.specs.declared.arguments.NetworkCommand.{NetworkCommand}
use Rattle.llrp_words.specs.declared.arguments.NetworkCommand.TheVariants.{Sim, Inventory, Loop, Watch, Stop, Ask, Access}
use Rattle.llrp_words.specs.declared.arguments.access_words.AccessWords.{AccessWords}
use Rattle.llrp_words.specs.declared.arguments.ask_words.AskWords.{AskWords}
use Rattle.llrp_words.specs.declared.arguments.label_words.LabelWords.{LabelWords}
use Rattle.llrp_words.specs.declared.arguments.sim_words.SimWords.{SimWords}
use Rattle.llrp_words.specs.declared.arguments.watch_words.WatchWords.{WatchWords}
use Rattle.llrp_words.specs.declared.arguments.watch_words.StopWords.{StopWords}
use Rattle.llrp_words.specs.declared.arguments.PlanWords.{PlanWords}

-- ---- arguments

-- a flag
abbrev pub flag_rule : Text → Rule
flag_rule name = record (new_rule name) { long = Some name; action = Some SetTrue }

-- an option with a number in a range
abbrev pub ranged_rule : Text → (low high : ℕ) → Rule
ranged_rule name low high = record (new_rule name) { long = Some name; value_names = 1; parser = Some (Signed (pos low) (pos high)) }

-- an option with a number in a range, which is this one where it is not given
abbrev pub default_rule : Text → (low high : ℕ) → Text → Rule
default_rule name low high default = record (ranged_rule name low high) { defaults = default ∷ [] }

-- an option with a text; one that must be given, and one that may be given several times
abbrev pub text_option_rule : Text → Rule
text_option_rule name = record (new_rule name) { long = Some name; value_names = 1 }

abbrev pub needed_option_rule : Text → Rule
needed_option_rule name = record (text_option_rule name) { required = true }

abbrev pub texts_rule : Text → Rule
texts_rule name = record (text_option_rule name) { action = Some Append }

-- an argument by its place that must be given, and one of which there may be several
abbrev pub needed_rule : Text → Rule
needed_rule name = record (new_rule name) { required = true }

abbrev pub several_rule : Text → Rule
several_rule name = record (new_rule name) { action = Some Append }

-- a number by its place that must be given
abbrev pub needed_number_rule : Text → (low high : ℕ) → Rule
needed_number_rule name low high = record (new_rule name) { required = true; parser = Some (Signed (pos low) (pos high)) }

-- an option with a number to 65,535, from 0 or from 1 on, and one from 1 to 4,294,967,295
abbrev pub number_rule : Text → Rule
number_rule name = ranged_rule name 0 65535

abbrev pub count_rule : Text → Rule
count_rule name = ranged_rule name 1 65535

abbrev pub long_count_rule : Text → Rule
long_count_rule name = ranged_rule name 1 4294967295

-- the option --limit of a stream, and of a client; the least that a client's messages may be bounded by is 4,096: it adds ROSpecs of this many octets
abbrev pub limit_rule : Rule
limit_rule = default_rule (codes "limit") 10 MOST_OCTETS (codes "65536")

abbrev pub least_longest : ℕ
least_longest = 4096

abbrev pub longest_rule : Text → Rule
longest_rule default = default_rule (codes "limit") least_longest MOST_OCTETS default

-- ---- commands

-- a command with these arguments
abbrev pub app_with : Text → List Rule → App
app_with name rules = fold with_rule (new_app name) rules

-- what commands have in common: a stream, labels, a plan, a reader with its ROSpec
abbrev pub stream_rules : List Rule
stream_rules = flag_rule (codes "hex") ∷ flag_rule (codes "all") ∷ limit_rule ∷ flag_rule (codes "json") ∷ []

abbrev pub label_rules : List Rule
label_rules = flag_rule (codes "keys") ∷ text_option_rule (codes "schemes") ∷ []

abbrev pub plan_rules : List Rule
plan_rules =
    text_option_rule (codes "rospec") ∷ number_rule (codes "every") ∷ number_rule (codes "polls") ∷ count_rule (codes "reports")
    ∷ flag_rule (codes "check") ∷ flag_rule (codes "clean") ∷ flag_rule (codes "json") ∷ flag_rule (codes "all") ∷ []

abbrev pub target_rules : List Rule
target_rules = needed_rule (codes "HOST") ∷ text_option_rule (codes "rospec") ∷ long_count_rule (codes "id") ∷ []

abbrev pub show_app : App
show_app =
    app_with (codes "show")
    (stream_rules ++ (text_option_rule (codes "names") ∷ (label_rules ++ (flag_rule (codes "segments") ∷ text_option_rule (codes "port") ∷ several_rule (codes "FILE") ∷ []))))

abbrev pub encode_app : App
encode_app = app_with (codes "encode") (stream_rules ++ (label_rules ++ (several_rule (codes "FILE") ∷ [])))

abbrev pub epc_app : App
epc_app =
    app_with (codes "epc")
    (new_rule (codes "TEXT") ∷ flag_rule (codes "forms") ∷ flag_rule (codes "list") ∷ flag_rule (codes "json") ∷ text_option_rule (codes "to") ∷ ranged_rule (codes "prefix-digits") 6 12
    ∷ ranged_rule (codes "filter") 0 7 ∷ text_option_rule (codes "prefixes") ∷ text_option_rule (codes "schemes") ∷ [])

abbrev pub fields_app : App
fields_app = app_with (codes "fields") (new_rule (codes "NAME") ∷ flag_rule (codes "all") ∷ [])

abbrev pub explain_app : App
explain_app = app_with (codes "explain") (stream_rules ++ (ranged_rule (codes "only") 0 4294967295 ∷ several_rule (codes "FILE") ∷ []))

abbrev pub sim_app : App
sim_app =
    app_with (codes "sim")
    (needed_number_rule (codes "PORT") 0 65535 ∷ flag_rule (codes "all") ∷ text_option_rule (codes "bind") ∷ number_rule (codes "clients") ∷ text_option_rule (codes "clock")
    ∷ text_option_rule (codes "answers") ∷ flag_rule (codes "ready") ∷ flag_rule (codes "keep") ∷ [])

abbrev pub inventory_app : App
inventory_app =
    app_with (codes "inventory")
    (needed_rule (codes "HOST") ∷ needed_number_rule (codes "PORT") 1 65535 ∷ (plan_rules ++ (count_rule (codes "timeout") ∷ longest_rule (codes "65536") ∷ flag_rule (codes "verbose") ∷ label_rules)))

abbrev pub loop_app : App
loop_app = app_with (codes "loop") plan_rules

abbrev pub watch_rules : List Rule
watch_rules =
    target_rules
    ++ (count_rule (codes "every") ∷ number_rule (codes "keepalive") ∷ count_rule (codes "again") ∷ flag_rule (codes "text") ∷ text_option_rule (codes "antennas") ∷ longest_rule (codes "1048576")
    ∷ text_option_rule (codes "save") ∷ flag_rule (codes "verbose") ∷ long_count_rule (codes "for") ∷ text_option_rule (codes "name") ∷ text_option_rule (codes "power") ∷ flag_rule (codes "messages")
    ∷ text_option_rule (codes "access") ∷ label_rules)

abbrev pub watch_app : App
watch_app = app_with (codes "watch") watch_rules

-- it takes what watch takes, and --timeout
abbrev pub stop_app : App
stop_app = app_with (codes "stop") (watch_rules ++ (count_rule (codes "timeout") ∷ []))

abbrev pub ask_app : App
ask_app =
    app_with (codes "ask")
    (needed_rule (codes "HOST") ∷ needed_rule (codes "FILE") ∷ flag_rule (codes "json") ∷ count_rule (codes "timeout") ∷ flag_rule (codes "go-on") ∷ flag_rule (codes "raw") ∷ [])

abbrev pub access_app : App
access_app =
    app_with (codes "access")
    (needed_rule (codes "HOST") ∷ needed_option_rule (codes "tag") ∷ texts_rule (codes "read") ∷ texts_rule (codes "write") ∷ text_option_rule (codes "epc") ∷ texts_rule (codes "lock")
    ∷ text_option_rule (codes "password-file") ∷ flag_rule (codes "verify") ∷ count_rule (codes "antenna") ∷ count_rule (codes "settle") ∷ count_rule (codes "timeout") ∷ flag_rule (codes "json") ∷ [])

-- the program before its commands, which has a version
abbrev pub top_app : App
top_app = let a = new_app (codes "llrp") in record a { top = record a.top { no_binary_name = true; subcommand_required = true; has_version = true } }

-- the program before the commands that it runs itself, and before those of them that last
abbrev pub streams_app : App
streams_app = with_subcommand (with_subcommand (with_subcommand (with_subcommand (with_subcommand top_app show_app.top) encode_app.top) epc_app.top) fields_app.top) explain_app.top

abbrev pub runs_app : App
runs_app = with_subcommand (with_subcommand (with_subcommand streams_app sim_app.top) inventory_app.top) loop_app.top

-- the program: a command is wanted, and there are show, encode, epc, fields, explain, sim, inventory, loop, watch, stop, ask and access
unfoldable pub llrp_app : App
llrp_app = with_subcommand (with_subcommand (with_subcommand (with_subcommand runs_app watch_app.top) stop_app.top) ask_app.top) access_app.top

-- the parse of the words succeeds: nothing in them is a fault
unfoldable pub parses : List Text → Bool
parses words = is_empty (fault_of llrp_app words)

-- the command that the words name, and its arguments
unfoldable pub command_in : List Text → Option (Text × List Row)
command_in words = subcommand_of llrp_app words

-- the command's name
abbrev pub name_in : Option (Text × List Row) → Option Text
name_in found = option_map (λ p. p.0) found

-- the value of a flag
abbrev pub flag_in : Text → Option (Text × List Row) → Option Text
flag_in id found = option_and_then (λ p. one_of id p.1) found

-- the value of the flag --hex, of --all and of --json
abbrev pub hex_in : Option (Text × List Row) → Option Text
hex_in found = flag_in (codes "hex") found

abbrev pub all_in : Option (Text × List Row) → Option Text
all_in found = flag_in (codes "all") found

abbrev pub json_in : Option (Text × List Row) → Option Text
json_in found = flag_in (codes "json") found

-- the word of an argument: as it was given, or as it is where it is not given
abbrev pub word_in : Text → Option (Text × List Row) → Option Text
word_in id found = option_and_then (λ p. first_of id p.1) found

-- the number that the word of an argument spells
abbrev pub HasNumber : Text → Option (Text × List Row) → ℕ → Type 0
HasNumber id found n = option_map (signed_digits_value 10) (word_in id found) ≡ Some (pos n)

-- the flag was given, or it was not
abbrev pub IsFlag : Option Text → Bool → Type 0
IsFlag found true = found ≡ Some (codes "true")
IsFlag found false = (found ≡ Some (codes "false")) ⊎ (found ≡ None)

-- The words name this command, with --hex or without, with --all or without, with --json or without, and with this limit, given by --limit or not.
pub record Asks (words : List Text) (name : Text) (hex all json : Bool) (limit : ℕ) : Type 0 where
  pub parsed : parses words ≡ true
  pub named : name_in (command_in words) ≡ Some name
  pub flag : IsFlag (hex_in (command_in words)) hex
  pub kinds : IsFlag (all_in (command_in words)) all
  pub form : IsFlag (json_in (command_in words)) json
  pub bound : HasNumber (codes "limit") (command_in words) limit

-- the option was given with a word that spells this number, or it was not given
abbrev pub HasOptionalNumber : Text → Option (Text × List Row) → Option ℕ → Type 0
HasOptionalNumber id found (Some n) = HasNumber id found n
HasOptionalNumber id found None = word_in id found ≡ None

-- the words name explain so, with this id of --only or none
abbrev pub AsksExplain : List Text → (hex all json : Bool) → (only : Option ℕ) → (limit : ℕ) → Type 0
AsksExplain words hex all json only limit = Asks words (codes "explain") hex all json limit × HasOptionalNumber (codes "only") (command_in words) only

-- The words have --keys or not, and this word of --schemes or none.
abbrev pub AsksLabels : List Text → Bool → Option Text → Type 0
AsksLabels words keys schemes = IsFlag (flag_in (codes "keys") (command_in words)) keys × (word_in (codes "schemes") (command_in words) ≡ schemes)

-- they ask for no labels
abbrev pub AsksNoLabels : List Text → Type 0
AsksNoLabels words = AsksLabels words false None

-- The words have --segments or not, and this word of --port or none.
abbrev pub AsksSegments : List Text → Bool → Option Text → Type 0
AsksSegments words segments port = IsFlag (flag_in (codes "segments") (command_in words)) segments × (word_in (codes "port") (command_in words) ≡ port)

-- one of the two is there
abbrev pub asks_segments : (segments : Bool) → (port : Option Text) → Bool
asks_segments segments port = segments || is_some port

-- they ask for no segments
abbrev pub AsksNoSegments : List Text → Type 0
AsksNoSegments words = AsksSegments words false None

-- if the words are parsed and name show, they ask for it with each flag or without, and with one limit
abbrev pub AsksShowIfNamed : List Text → Type 0
AsksShowIfNamed words =
    parses words ≡ true → name_in (command_in words) ≡ Some (codes "show")
    → (hex : Bool) × (all : Bool) × (json : Bool) × (limit : ℕ) × Asks words (codes "show") hex all json limit

-- the same of encode
abbrev pub AsksEncodeIfNamed : List Text → Type 0
AsksEncodeIfNamed words =
    parses words ≡ true → name_in (command_in words) ≡ Some (codes "encode")
    → (hex : Bool) × (all : Bool) × (json : Bool) × (limit : ℕ) × Asks words (codes "encode") hex all json limit

-- the same of explain
abbrev pub AsksExplainIfNamed : List Text → Type 0
AsksExplainIfNamed words =
    parses words ≡ true → name_in (command_in words) ≡ Some (codes "explain")
    → (hex : Bool) × (all : Bool) × (json : Bool) × (only : Option ℕ) × (limit : ℕ) × AsksExplain words hex all json only limit

-- The words name a command that reads standard input to its end.
pub record AsksForInput (words : List Text) : Type 0 where
  pub parsed : parses words ≡ true
  pub named : (name_in (command_in words) ≡ Some (codes "show")) ⊎ (name_in (command_in words) ≡ Some (codes "encode")) ⊎ (name_in (command_in words) ≡ Some (codes "explain"))

-- a command that reads files
abbrev pub reads_files : Option Text → Bool
reads_files None = false
reads_files (Some name) = bytes_eq name (codes "show") || (bytes_eq name (codes "encode") || bytes_eq name (codes "explain"))

-- the words of the argument FILE of such a command, in their order; none where it was not given
abbrev pub files_in : Option (Text × List Row) → List Text
files_in found = if reads_files (name_in found) then unwrap_or (option_and_then (λ p. all_of (codes "FILE") p.1) found) [] else []

-- the files that the words ask a command to read; none where they ask for none
abbrev pub FilesAsked : List Text → List Text → Type 0
FilesAsked words files = files ≡ (if parses words then files_in (command_in words) else [])

-- the texts of an option that may be given several times, in their order; none where it was not given
abbrev pub texts_in : Text → Option (Text × List Row) → List Text
texts_in id found = unwrap_or (option_and_then (λ p. all_of id p.1) found) []

-- those that the words give it
abbrev pub TextsAsked : Text → List Text → List Text → Type 0
TextsAsked id words texts = texts ≡ (if parses words then texts_in id (command_in words) else [])

-- The words name a command that the program runs itself.
pub record AsksElsewhere (words : List Text) : Type 0 where
  pub parsed : parses words ≡ true
  pub no_show : name_in (command_in words) ≢ Some (codes "show")
  pub no_encode : name_in (command_in words) ≢ Some (codes "encode")
  pub no_epc : name_in (command_in words) ≢ Some (codes "epc")
  pub no_fields : name_in (command_in words) ≢ Some (codes "fields")
  pub no_explain : name_in (command_in words) ≢ Some (codes "explain")

-- the option was given with this text, or it was not given
abbrev pub HasOptionalText : Text → Option (Text × List Row) → Option (Bor Text) → Type 0
HasOptionalText id found text = word_in id found ≡ option_map (λ t. t.now) text

-- The words name epc, with or without a text, --forms, --list, --json, a form, a word for the set of schemes, a number of digits, a filter value and a file of company prefixes.
pub record AsksEpcWith (words : List Text) (text : Option Text) (forms list json : Bool) (to schemes : Option Text) (count filter : Option ℕ) (file : Option Text) : Type 0 where
  pub parsed : parses words ≡ true
  pub named : name_in (command_in words) ≡ Some (codes "epc")
  pub given : word_in (codes "TEXT") (command_in words) ≡ text
  pub all : IsFlag (flag_in (codes "forms") (command_in words)) forms
  pub lines : IsFlag (flag_in (codes "list") (command_in words)) list
  pub object : IsFlag (json_in (command_in words)) json
  pub form : word_in (codes "to") (command_in words) ≡ to
  pub set : word_in (codes "schemes") (command_in words) ≡ schemes
  pub digits : HasOptionalNumber (codes "prefix-digits") (command_in words) count
  pub value : HasOptionalNumber (codes "filter") (command_in words) filter
  pub table : word_in (codes "prefixes") (command_in words) ≡ file

-- The words name epc, with this text and no option.
abbrev pub AsksEpc : List Text → Text → Type 0
AsksEpc words text = AsksEpcWith words (Some text) false false false None None None None None

-- if the words are parsed and name epc, they ask for it with one text or none, and each option or not
abbrev pub AsksEpcIfNamed : List Text → Type 0
AsksEpcIfNamed words =
    parses words ≡ true → name_in (command_in words) ≡ Some (codes "epc")
    → (text : Option Text) × (forms : Bool) × (list : Bool) × (json : Bool) × (to schemes : Option Text) × (count filter : Option ℕ) × (file : Option Text) × AsksEpcWith words text forms list json to schemes count filter file

-- The words name epc with this file of company prefixes.
pub record AsksEpcFile (words : List Text) (file : Text) : Type 0 where
  pub parsed : parses words ≡ true
  pub named : name_in (command_in words) ≡ Some (codes "epc")
  pub table : word_in (codes "prefixes") (command_in words) ≡ Some file

-- the file that the words name so, or none where they name none
abbrev pub FileAsked : List Text → Option (Bor Text) → Type 0
FileAsked words (Some file) = AsksEpcFile words file.now
FileAsked words None = (file : Text) → AsksEpcFile words file → ⊥

-- these are the options of a plan
abbrev pub IsPlan : Option (Text × List Row) → PlanWords → Type 0
IsPlan found plan =
    HasOptionalText (codes "rospec") found plan.rospec
    × HasOptionalNumber (codes "every") found plan.every × HasOptionalNumber (codes "polls") found plan.polls × HasOptionalNumber (codes "reports") found plan.reports
    × IsFlag (flag_in (codes "check") found) plan.check × IsFlag (flag_in (codes "clean") found) plan.clean
    × IsFlag (json_in found) plan.json × IsFlag (all_in found) plan.all

-- these are the port and the options of sim
abbrev pub IsSim : Option (Text × List Row) → SimWords → Type 0
IsSim found words =
    HasNumber (codes "PORT") found words.port × IsFlag (all_in found) words.all
    × HasOptionalText (codes "bind") found words.bind × HasOptionalNumber (codes "clients") found words.clients
    × HasOptionalText (codes "clock") found words.clock × HasOptionalText (codes "answers") found words.answers
    × IsFlag (flag_in (codes "ready") found) words.ready × IsFlag (flag_in (codes "keep") found) words.keep

-- these are the labels of lines of tags
abbrev pub AreTagLabels : Option (Text × List Row) → LabelWords → Type 0
AreTagLabels found labels = IsFlag (flag_in (codes "keys") found) labels.keys × HasOptionalText (codes "schemes") found labels.schemes

-- these are the options of watch
abbrev pub IsWatch : Option (Text × List Row) → WatchWords → Type 0
IsWatch found words =
    HasOptionalText (codes "rospec") found words.rospec × HasOptionalNumber (codes "id") found words.id
    × HasOptionalNumber (codes "every") found words.every × HasOptionalNumber (codes "keepalive") found words.keepalive
    × HasOptionalNumber (codes "again") found words.again × IsFlag (flag_in (codes "text") found) words.text
    × HasOptionalText (codes "antennas") found words.antennas × HasNumber (codes "limit") found words.limit
    × HasOptionalText (codes "save") found words.save × IsFlag (flag_in (codes "verbose") found) words.verbose
    × HasOptionalNumber (codes "for") found words.seconds × HasOptionalText (codes "name") found words.name
    × HasOptionalText (codes "power") found words.power × IsFlag (flag_in (codes "messages") found) words.messages
    × HasOptionalText (codes "access") found words.access × AreTagLabels found words.labels

-- these are those of stop: of watch, and --timeout
abbrev pub IsStop : Option (Text × List Row) → StopWords → Type 0
IsStop found words = IsWatch found words.watch × HasOptionalNumber (codes "timeout") found words.timeout

-- these are those of ask
abbrev pub IsAsk : Option (Text × List Row) → AskWords → Type 0
IsAsk found words = (word_in (codes "FILE") found ≡ Some words.file.now) × IsFlag (json_in found) words.json × HasOptionalNumber (codes "timeout") found words.timeout × IsFlag (flag_in (codes "go-on") found) words.goes_on × IsFlag (flag_in (codes "raw") found) words.raw

-- these are the options of access
abbrev pub IsAccess : Option (Text × List Row) → AccessWords → Type 0
IsAccess found words =
    (word_in (codes "tag") found ≡ Some words.tag.now) × HasOptionalText (codes "epc") found words.epc × HasOptionalText (codes "password-file") found words.password_file
    × IsFlag (flag_in (codes "verify") found) words.verify × HasOptionalNumber (codes "antenna") found words.antenna
    × HasOptionalNumber (codes "settle") found words.settle × HasOptionalNumber (codes "timeout") found words.timeout × IsFlag (json_in found) words.json

-- the command that was found is this one, with these arguments
abbrev pub IsNetwork : Option (Text × List Row) → NetworkCommand → Type 0
IsNetwork found (Sim words) = (name_in found ≡ Some (codes "sim")) × IsSim found words
IsNetwork found (Inventory host port plan timeout limit verbose labels) =
    (name_in found ≡ Some (codes "inventory")) × (word_in (codes "HOST") found ≡ Some host.now) × HasNumber (codes "PORT") found port
    × IsPlan found plan × HasOptionalNumber (codes "timeout") found timeout × HasNumber (codes "limit") found limit
    × IsFlag (flag_in (codes "verbose") found) verbose × AreTagLabels found labels
IsNetwork found (Loop plan) = (name_in found ≡ Some (codes "loop")) × IsPlan found plan
IsNetwork found (Watch host words) = (name_in found ≡ Some (codes "watch")) × (word_in (codes "HOST") found ≡ Some host.now) × IsWatch found words
IsNetwork found (Ask host words) = (name_in found ≡ Some (codes "ask")) × (word_in (codes "HOST") found ≡ Some host.now) × IsAsk found words
IsNetwork found (Access host words) = (name_in found ≡ Some (codes "access")) × (word_in (codes "HOST") found ≡ Some host.now) × IsAccess found words
IsNetwork found (Stop host words) = (name_in found ≡ Some (codes "stop")) × (word_in (codes "HOST") found ≡ Some host.now) × IsStop found words

-- a client can be made with this many octets of a message at most
abbrev pub IsLongest : ℕ → Type 0
IsLongest limit = (least_longest ≤ limit) × (limit ≤ MOST_OCTETS)

-- the most octets of a message are bounded so
abbrev pub IsBounded : NetworkCommand → Type 0
IsBounded (Watch host words) = IsLongest words.limit
IsBounded (Inventory host port plan timeout limit verbose labels) = IsLongest limit
IsBounded command = Unit {0}

-- The words name this command, which the program runs itself.
abbrev pub AsksNetwork : List Text → NetworkCommand → Type 0
AsksNetwork words command = (parses words ≡ true) × IsNetwork (command_in words) command

-- the command that the words name, or none where they name none of these
abbrev pub NetworkAsked : List Text → Option NetworkCommand → Type 0
NetworkAsked words (Some command) = AsksNetwork words command
NetworkAsked words None = (command : NetworkCommand) → AsksNetwork words command → ⊥

-- The words name fields, with --all or without, and with a name or without.
pub record AsksFields (words : List Text) (all : Bool) (name : Option Text) : Type 0 where
  pub parsed : parses words ≡ true
  pub named : name_in (command_in words) ≡ Some (codes "fields")
  pub kinds : IsFlag (all_in (command_in words)) all
  pub given : word_in (codes "NAME") (command_in words) ≡ name

-- if the words are parsed and name fields, they ask for it with --all or without, and with one name or none
abbrev pub AsksFieldsIfNamed : List Text → Type 0
AsksFieldsIfNamed words =
    parses words ≡ true → name_in (command_in words) ≡ Some (codes "fields") → (all : Bool) × (name : Option Text) × AsksFields words all name
