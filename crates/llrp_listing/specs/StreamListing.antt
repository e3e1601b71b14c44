-- The listing of a stream: the lines of each message, a line for each frame that is none, and a line for an end that is not clean.
use Rattle.std.specs.Prelude.{◌≡◌, ℕ, List, [], ◌++◌, Bool, true, false, ◌&&◌, codes, decimal}
use Rattle.std.specs.List.{flat_map, list_all, AllZip}
use Rattle.llrp_tree.specs.declared.fault.Fault.{Fault}
use Rattle.llrp_tree.specs.declared.fault.Reason.{Reason}
use Rattle.llrp_tree.specs.declared.fault.Reason.TheVariants.{Reserved, Version, MessageType, MessageLength, Short, Value, Count, Utf8, ParamType, Misplaced, TooMany, TooDeep, ParamLength, Extra, Missing}
use Rattle.llrp_stream.specs.declared.item.Item.{Item}
use Rattle.llrp_stream.specs.declared.item.Item.TheVariants.{Msg, Bad}
use Rattle.llrp_stream.specs.declared.item.End.{End}
use Rattle.llrp_stream.specs.declared.item.End.TheVariants.{Clean, Rest, Broken, Dead}
use Rattle.llrp_listing.specs.MessageListing.{AreLines, message_lines}

-- the word for a fault
unfoldable pub frame_fault_name : Reason → List ℕ
frame_fault_name Reserved = codes "Reserved"
frame_fault_name Version = codes "Version"
frame_fault_name MessageType = codes "MessageType"
frame_fault_name MessageLength = codes "MessageLength"
frame_fault_name Short = codes "Short"
frame_fault_name Value = codes "Value"
frame_fault_name Count = codes "Count"
frame_fault_name Utf8 = codes "Utf8"
frame_fault_name ParamType = codes "ParamType"
frame_fault_name Misplaced = codes "Misplaced"
frame_fault_name TooMany = codes "TooMany"
frame_fault_name TooDeep = codes "TooDeep"
frame_fault_name ParamLength = codes "ParamLength"
frame_fault_name Extra = codes "Extra"
frame_fault_name Missing = codes "Missing"

-- the line of a frame that is no message's: its id, and the bit and the word of its first fault
unfoldable pub fault_text : ℕ → Fault → List ℕ
fault_text id fault = codes "! " ++ (decimal id ++ (codes " " ++ (decimal fault.bit ++ (codes " " ++ (frame_fault_name fault.reason ++ codes "\n")))))

-- the text of an item
abbrev pub IsItemText : Item → List ℕ → Type 0
IsItemText (Msg message) text = AreLines (message_lines message) text
IsItemText (Bad id fault) text = text ≡ fault_text id fault

-- the line of an end, if it has one
unfoldable pub end_text : End → List ℕ
end_text Clean = []
end_text (Rest n) = codes "? " ++ (decimal n ++ codes "\n")
end_text Broken = codes "! BROKEN\n"
end_text Dead = []

-- The texts of items, one after another, where this says what the text of an item is.
pub record AreTexts (IsText : Item → List ℕ → Type 0) (items : List Item) (text : List ℕ) : Type 0 where
  pub texts : List (List ℕ)
  pub each : AllZip IsText items texts
  pub text_is : text ≡ flat_map (λ item. item) texts

-- The text of items and of an end: the items' texts in order, and then the end's.
pub record IsStreamText (IsText : Item → List ℕ → Type 0) (text_of_end : End → List ℕ) (items : List Item) (end : End) (text : List ℕ) : Type 0 where
  pub front : List ℕ
  pub lines : AreTexts IsText items front
  pub text_is : text ≡ front ++ text_of_end end

-- the text is the listing of these items and this end
abbrev pub IsStreamListing : List Item → End → List ℕ → Type 0
IsStreamListing items end text = IsStreamText IsItemText end_text items end text

-- the item is a message
abbrev pub is_message : Item → Bool
is_message (Msg message) = true
is_message (Bad id fault) = false

-- the stream ends where a frame ends
abbrev pub is_clean : End → Bool
is_clean Clean = true
is_clean (Rest n) = false
is_clean Broken = false
is_clean Dead = false

-- each frame is a message's, and the end is clean
unfoldable pub is_lawful : List Item → End → Bool
is_lawful items end = list_all is_message items && is_clean end
