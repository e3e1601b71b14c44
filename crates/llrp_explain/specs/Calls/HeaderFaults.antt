-- The text of a fault: a line that says it, and before it what is refused; and the sentence for a fault of the header.
use Rattle.std.specs.Prelude.{ℕ, ◌/◌, List, [], ◌∷◌, ◌++◌, Bool, codes, decimal}
use Rattle.llrp_schema.specs.declared.kinds.KindSet.{KindSet}
use Rattle.llrp_schema.specs.declared.kinds.KindSet.TheVariants.{Profile, Standard}
use Rattle.llrp_tree.specs.declared.fault.Reason.{Reason}
use Rattle.llrp_tree.specs.declared.fault.Reason.TheVariants.{Version, MessageType, MessageLength}
use Rattle.llrp_tree.specs.FirstFault.{number}
use Rattle.llrp_explain.specs.Calls.ExplainLines.{ExplainLine}
use Rattle.llrp_explain.specs.Calls.ExplainText.{lines_text, fault_place}
use Rattle.llrp_explain.specs.Calls.FaultText.{not_zero}

abbrev pub set_words : KindSet → List ℕ
set_words Profile = codes "the profile"
set_words Standard = codes "the standard"

-- what is wrong in a header, by its digits
unfoldable pub header_sentence : KindSet → (limit : ℕ) → Reason → (rest : List Bool) → List ℕ
header_sentence p limit Version rest = codes "Version: " ++ (decimal (number rest 3 3) ++ codes ", not 1 or 2")
header_sentence p limit MessageType rest = codes "MessageType: " ++ (decimal (number rest 6 10) ++ (codes " is of no message of " ++ set_words p))
header_sentence p limit MessageLength rest = codes "MessageLength: " ++ (decimal (number rest 16 32) ++ (codes " octets, the limit is " ++ decimal limit))
header_sentence p limit _ rest = not_zero 3 (number rest 0 3)

abbrev pub fault_line : (bit : ℕ) → List ℕ → List ℕ
fault_line bit sentence = fault_place bit (bit / 8) ++ (sentence ++ codes "\n")

-- the lines of what is refused, from a bit on, under a heading where there are any
abbrev pub refused_text : (bit : ℕ) → List ExplainLine → List ℕ
refused_text bit [] = []
refused_text bit (l ∷ lines) = codes "then, refused:\n" ++ lines_text bit (l ∷ lines)
