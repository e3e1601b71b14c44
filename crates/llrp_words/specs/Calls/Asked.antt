-- What the words ask for: a command, and what its arguments say.
use Rattle.std.specs.Prelude.{ℕ, List, Bool, false, Option, Some, None, if◌then◌else◌, codes, nat_abs, option_map, unwrap_or}
use Rattle.std.specs.Str.{bytes_eq}
use Rattle.std.specs.Str.Parse.{signed_digits_value}
use Rattle.clap.specs.Words.{Row, Text}
use Rattle.llrp_words.specs.Calls.Arguments.{all_in, command_in, flag_in, hex_in, json_in, name_in, parses, word_in}

-- ---- what the arguments of each command say

-- show: whether it reads hexadecimal digits, takes the whole standard and writes JSON, the most octets of a message, the word for the names of fields, whether keys
-- follow EPCs, the word for the set of schemes, whether it reads segments, and the word for the reader's port
pub record Show : Type 0 where
  pub hex : Bool
  pub all : Bool
  pub json : Bool
  pub limit : ℕ
  pub names : Option Text
  pub keys : Bool
  pub schemes : Option Text
  pub segments : Bool
  pub port : Option Text

-- encode: whether it writes hexadecimal digits, takes the whole standard and reads JSON, and the same of its limit and of what follows EPCs
pub record Encode : Type 0 where
  pub hex : Bool
  pub all : Bool
  pub json : Bool
  pub limit : ℕ
  pub keys : Bool
  pub schemes : Option Text

-- epc: its text, whether all forms are asked for, texts are read and JSON is written, the name of a form, the word for the set of schemes, how many digits a
-- company prefix has, the filter value, and the file of company prefixes
pub record Epc : Type 0 where
  pub text : Option Text
  pub forms : Bool
  pub list : Bool
  pub json : Bool
  pub to : Option Text
  pub schemes : Option Text
  pub count : Option ℕ
  pub filter : Option ℕ
  pub file : Option Text

-- fields: whether it takes the whole standard, and a name
pub record Fields : Type 0 where
  pub all : Bool
  pub name : Option Text

-- explain: as show, and the id of the frames that are explained
pub record Explain : Type 0 where
  pub hex : Bool
  pub all : Bool
  pub json : Bool
  pub limit : ℕ
  pub only : Option ℕ

-- what is asked for: one of these; a command that the program runs itself; or nothing, but help or what is wrong with the words
pub data Asked : Type 0 where
  show : Show → Asked
  encode : Encode → Asked
  epc : Epc → Asked
  fields : Fields → Asked
  explain : Explain → Asked
  elsewhere : Asked
  nothing : Asked

-- ---- what the words ask for

-- the flag was given
abbrev pub is_given : Option Text → Bool
is_given None = false
is_given (Some word) = bytes_eq word (codes "true")

-- the number that the word of an argument spells, if it has one
abbrev pub number_in : Text → Option (Text × List Row) → Option ℕ
number_in id found = option_map nat_abs (option_map (signed_digits_value 10) (word_in id found))

-- the number of --limit
abbrev pub limit_in : Option (Text × List Row) → ℕ
limit_in found = unwrap_or (number_in (codes "limit") found) 65536

abbrev pub show_in : Option (Text × List Row) → Show
show_in found = record {
  hex = is_given (hex_in found);
  all = is_given (all_in found);
  json = is_given (json_in found);
  limit = limit_in found;
  names = word_in (codes "names") found;
  keys = is_given (flag_in (codes "keys") found);
  schemes = word_in (codes "schemes") found;
  segments = is_given (flag_in (codes "segments") found);
  port = word_in (codes "port") found;
}

abbrev pub encode_in : Option (Text × List Row) → Encode
encode_in found = record {
  hex = is_given (hex_in found);
  all = is_given (all_in found);
  json = is_given (json_in found);
  limit = limit_in found;
  keys = is_given (flag_in (codes "keys") found);
  schemes = word_in (codes "schemes") found;
}

abbrev pub epc_in : Option (Text × List Row) → Epc
epc_in found = record {
  text = word_in (codes "TEXT") found;
  forms = is_given (flag_in (codes "forms") found);
  list = is_given (flag_in (codes "list") found);
  json = is_given (json_in found);
  to = word_in (codes "to") found;
  schemes = word_in (codes "schemes") found;
  count = number_in (codes "prefix-digits") found;
  filter = number_in (codes "filter") found;
  file = word_in (codes "prefixes") found;
}

abbrev pub fields_in : Option (Text × List Row) → Fields
fields_in found = record { all = is_given (all_in found); name = word_in (codes "NAME") found }

abbrev pub explain_in : Option (Text × List Row) → Explain
explain_in found = record {
  hex = is_given (hex_in found);
  all = is_given (all_in found);
  json = is_given (json_in found);
  limit = limit_in found;
  only = number_in (codes "only") found;
}

-- the command with this name, and these arguments
abbrev pub asked_by : Option Text → Option (Text × List Row) → Asked
asked_by None found = nothing
asked_by (Some name) found =
    if bytes_eq name (codes "show") then show (show_in found)
    else if bytes_eq name (codes "encode") then encode (encode_in found)
    else if bytes_eq name (codes "epc") then epc (epc_in found)
    else if bytes_eq name (codes "fields") then fields (fields_in found)
    else if bytes_eq name (codes "explain") then explain (explain_in found)
    else elsewhere

-- what the words ask for
unfoldable pub asked : List Text → Asked
asked words = if parses words then asked_by (name_in (command_in words)) (command_in words) else nothing
