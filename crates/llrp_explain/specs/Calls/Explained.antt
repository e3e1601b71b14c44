-- The text of a frame with every bit accounted for, and of the frames of a stream; as text, or an object of JSON a line.
use Rattle.std.specs.Prelude.{◌≡◌, ℕ, ◌+◌, List, [], ◌∷◌, ◌++◌, length, drop, Bool, true, false, ◌&&◌, ◌==◌, Option, Some, None, codes, decimal}
use Rattle.tag_bits.specs.Digits.{digits_of_bytes}
use Rattle.llrp_schema.specs.declared.kinds.KindSet.{KindSet}
use Rattle.llrp_tree.specs.declared.fault.Reason.{Reason}
use Rattle.llrp_tree.specs.Tree.{MessageTree}
use Rattle.llrp_tree.specs.OpenTree.{Begun}
use Rattle.llrp_tree.specs.FirstFault.{FirstFaultIn}
use Rattle.llrp_stream.specs.declared.item.End.{End}
use Rattle.llrp_stream.specs.declared.item.End.TheVariants.{Clean, Rest, Broken, Dead}
use Rattle.llrp_stream.specs.Cuts.{Cuts}
use Rattle.llrp_stream.specs.Items.{FrameIn, id_field}
use Rattle.llrp_explain.specs.declared.form.Form.{Form}
use Rattle.llrp_explain.specs.declared.form.Form.TheVariants.{Text, Json}
use Rattle.llrp_explain.specs.Calls.ExplainJson.{frame_json}
use Rattle.llrp_explain.specs.Calls.ExplainLines.{message_lines, open_lines}
use Rattle.llrp_explain.specs.Calls.ExplainText.{readings_text}
use Rattle.llrp_explain.specs.Calls.FaultLines.{IsFaultTree, refused_lines}
use Rattle.llrp_explain.specs.Calls.FaultSentences.{refusal_text}
use Rattle.llrp_explain.specs.Calls.HeaderFaults.{fault_line, header_sentence, refused_text}

-- ---- a frame

-- The text of a fault; `rest` are the digits after the open tree. Of one in the header the fields of that up to the one that fails, and what is wrong with it; of any other the lines of the open tree of which FirstFault speaks, and what is refused after it.
unfoldable pub fault_text : KindSet → (limit : ℕ) → List Begun → (bit : ℕ) → Reason → (rest : List Bool) → List ℕ
fault_text p limit [] bit reason rest = refused_text 0 (refused_lines [] reason rest) ++ fault_line bit (header_sentence p limit reason rest)
fault_text p limit (b ∷ outer) bit reason rest = readings_text None 0 (open_lines (b ∷ outer)) ++ refusal_text (b ∷ outer) bit reason rest

-- what comes before the lines of a frame: its number, how many octets it has, and the names of the columns
unfoldable pub frame_title : (number octets : ℕ) → List ℕ
frame_title number octets = codes "frame " ++ (decimal number ++ (codes ", " ++ (decimal octets ++ codes " octets\nBIT WIDTH LEVEL FIELD VALUE\n")))

-- what is written of a frame by its number, how many octets it has, and the text of its lines
abbrev pub in_form : Form → (number octets : ℕ) → List ℕ → List ℕ
in_form Text number octets lines = frame_title number octets ++ lines
in_form Json number octets lines = frame_json number octets lines

-- of a frame that spells a message, the lines of that message
abbrev pub IsExplainedMessage : KindSet → (limit : ℕ) → (frame lines : List ℕ) → Type 0
IsExplainedMessage p limit frame lines = (m : MessageTree) × FrameIn p m frame limit × (lines ≡ readings_text None 0 (message_lines m))

-- of any other, the text of its first fault
abbrev pub IsExplainedFault : KindSet → (limit : ℕ) → (frame lines : List ℕ) → Type 0
IsExplainedFault p limit frame lines =
    (bit : ℕ) × (reason : Reason) × FirstFaultIn p frame limit bit reason × (tree : List Begun) × (at : ℕ) × IsFaultTree p limit frame bit reason tree at × (lines ≡ fault_text p limit tree bit reason (drop at (digits_of_bytes frame)))

-- the text of a frame's lines, and whether it spells a message
abbrev pub IsExplained : KindSet → (limit : ℕ) → (frame lines : List ℕ) → Bool → Type 0
IsExplained p limit frame lines true = IsExplainedMessage p limit frame lines
IsExplained p limit frame lines false = IsExplainedFault p limit frame lines

-- a frame with this id is asked for: any is, or those with one id
abbrev pub is_asked : Option ℕ → (id : ℕ) → Bool
is_asked None id = true
is_asked (Some only) id = only == id

-- of a frame that is not asked for nothing is written
abbrev pub written_if : Bool → List ℕ → List ℕ
written_if true text = text
written_if false text = []

-- what is written of the frame with a number, if its id (LLRP 1.1, section 17.1) is asked for, and whether it spells a message
abbrev pub IsWritten : Form → (only : Option ℕ) → KindSet → (limit number : ℕ) → (frame text : List ℕ) → Bool → Type 0
IsWritten form only p limit number frame text lawful = (lines : List ℕ) × IsExplained p limit frame lines lawful × (text ≡ written_if (is_asked only (id_field frame)) (in_form form number (length frame) lines))

-- ---- a stream

-- what is written of frames that are numbered from one on, and whether each spells a message
abbrev pub AreExplained : Form → (only : Option ℕ) → KindSet → (limit number : ℕ) → (frames : List (List ℕ)) → (text : List ℕ) → Bool → Type 0
AreExplained form only p limit number [] text all = (text ≡ []) × (all ≡ true)
AreExplained form only p limit number (frame ∷ frames) text all =
    (one later : List ℕ) × (this others : Bool) × IsWritten form only p limit number frame one this × AreExplained form only p limit (number + 1) frames later others × (text ≡ one ++ later) × (all ≡ (this && others))

-- how many octets are left of an unfinished frame
abbrev pub rest_line : Form → ℕ → List ℕ
rest_line Text n = codes "? " ++ (decimal n ++ codes "\n")
rest_line Json n = codes "{\"rest\":" ++ (decimal n ++ codes "}\n")

-- no frame begins with what is left
abbrev pub broken_line : Form → List ℕ
broken_line Text = codes "! BROKEN\n"
broken_line Json = codes "{\"broken\":true}\n"

-- the line of an end, if it has one
unfoldable pub end_line : Form → End → List ℕ
end_line form Clean = []
end_line form (Rest n) = rest_line form n
end_line form Broken = broken_line form
end_line form Dead = []

abbrev pub is_clean : End → Bool
is_clean Clean = true
is_clean (Rest n) = false
is_clean Broken = false
is_clean Dead = false

-- What is written of a stream: of its frames that are asked for, where all are numbered from 1 on, and the line of its end; and whether all of it is lawful.
pub record ExplainsOnly (form : Form) (only : Option ℕ) (p : KindSet) (limit : ℕ) (stream text : List ℕ) (lawful : Bool) : Type 0 where
  pub frames : List (List ℕ)
  pub end : End
  pub cut : Cuts stream frames end
  pub front : List ℕ
  pub all : Bool
  pub are : AreExplained form only p limit 1 frames front all
  pub text_is : text ≡ front ++ end_line form end
  pub lawful_is : lawful ≡ (all && is_clean end)

-- the same of all frames
abbrev pub ExplainsStreamIn : Form → KindSet → (limit : ℕ) → (stream text : List ℕ) → Bool → Type 0
ExplainsStreamIn form p limit stream text lawful = ExplainsOnly form None p limit stream text lawful

-- and as text
abbrev pub ExplainsStream : KindSet → (limit : ℕ) → (stream text : List ℕ) → Bool → Type 0
ExplainsStream p limit stream text lawful = ExplainsStreamIn Text p limit stream text lawful
