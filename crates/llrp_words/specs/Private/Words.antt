-- Words of private functions.
use Rattle.std.specs.Prelude.{◌≡◌, List, Option, codes}
use Rattle.clap.specs.Words.{Row, Text}
use Rattle.llrp_words.specs.declared.arguments.label_words.LabelWords.{LabelWords}
use Rattle.llrp_words.specs.declared.arguments.segment_words.SegmentWords.{SegmentWords}
use Rattle.llrp_words.specs.Calls.Arguments.{HasOptionalText, files_in, flag_in, texts_in}
use Rattle.llrp_words.specs.Calls.Requests.{HasFlag}

-- these are the labels of a listing
abbrev pub IsLabelWords : Option (Text × List Row) → LabelWords → Type 0
IsLabelWords found words = HasFlag (flag_in (codes "keys") found) words.keys × HasOptionalText (codes "schemes") found words.schemes

-- these are the segments of a capture
abbrev pub IsSegmentWords : Option (Text × List Row) → SegmentWords → Type 0
IsSegmentWords found words = HasFlag (flag_in (codes "segments") found) words.segments × HasOptionalText (codes "port") found words.port

-- the files are those of the command that was found
abbrev pub IsFiles : Option (Text × List Row) → List Text → Type 0
IsFiles found files = files ≡ files_in found

-- these are the texts of an option of the command that was found
abbrev pub IsTexts : Text → Option (Text × List Row) → List Text → Type 0
IsTexts id found texts = texts ≡ texts_in id found
