-- Which message says that a ROSpec became active (LLRP 1.1, section 14).
use Rattle.std.specs.Prelude.{◌==◌, ◌&&◌, ◌||◌, Bool, false, List, [], ◌∷◌, slice_index}
use Rattle.llrp_schema.specs.declared.kinds.ParamKind.{ParamKind}
use Rattle.llrp_schema.specs.declared.kinds.ParamKind.TheVariants.{RoSpecEvent, ReaderEventNotificationData}
use Rattle.llrp_schema.specs.declared.kinds.Kind.TheVariants.{Parameter}
use Rattle.llrp_schema.specs.Schema.{number_of}
use Rattle.llrp_tree.specs.Tree.{Tree, MessageTree, trees}

-- it is of this kind
abbrev pub is_parameter : Tree → ParamKind → Bool
is_parameter t kind = number_of (Parameter t.kind) == number_of (Parameter kind)

-- a ROSpecEvent whose EventType is 0, Start of ROSpec
abbrev pub is_start : Tree → Bool
is_start t = is_parameter t RoSpecEvent && (slice_index t.fields 0 == 0)

-- such an event is among these parameters
abbrev pub has_start : List Tree → Bool
has_start [] = false
has_start (t ∷ ts) = is_start t || has_start ts

-- such an event is in a ReaderEventNotificationData of these parameters
abbrev pub starts_below : List Tree → Bool
starts_below [] = false
starts_below (t ∷ ts) = (is_parameter t ReaderEventNotificationData && has_start (trees t.children)) || starts_below ts

-- a message says that a ROSpec became active
abbrev pub says_start : MessageTree → Bool
says_start m = starts_below (trees m.children)
