-- What the printer of a frame holds at its end, and what is made of it.
use Rattle.std.specs.Prelude.{◌≡◌, ℕ, ◌++◌, List, [], drop, Bool, true, false, ◌&&◌, Option, None}
use Rattle.tag_bits.specs.Digits.{digits_of_bytes}
use Rattle.llrp_schema.specs.declared.kinds.KindSet.{KindSet}
use Rattle.llrp_tree.specs.declared.fault.Reason.{Reason}
use Rattle.llrp_tree.specs.Tree.{MessageTree}
use Rattle.llrp_tree.specs.OpenTree.{Begun}
use Rattle.llrp_tree.specs.FirstFault.{FirstFaultIn}
use Rattle.llrp_stream.specs.declared.engine.frames.Outcome.{Outcome}
use Rattle.llrp_stream.specs.declared.engine.frames.Outcome.TheVariants.{Whole, Bad}
use Rattle.llrp_stream.specs.Items.{FrameIn}
use Rattle.llrp_stream.specs.Calls.Frames.{IsRefused}
use Rattle.llrp_explain.specs.declared.form.Form.{Form}
use Rattle.llrp_explain.specs.declared.printer.FramePrinter.{FramePrinter}
use Rattle.llrp_explain.specs.Calls.ExplainLines.{message_lines}
use Rattle.llrp_explain.specs.Calls.ExplainText.{readings_text}
use Rattle.llrp_explain.specs.Calls.Printed.{Holds}
use Rattle.llrp_explain.specs.Calls.Printing.{IsRefusal}
use Rattle.llrp_explain.specs.Calls.FaultLines.{IsFaultTree}
use Rattle.llrp_explain.specs.Calls.Explained.{IsWritten, fault_text}

-- the lines of a message
abbrev pub Ends : FramePrinter → MessageTree → Type 0
Ends printer m = Holds [] (message_lines m) printer.lines

-- the text of the fault of a frame was appended
abbrev pub IsRefusedText : KindSet → (limit : ℕ) → (frame : List ℕ) → (bit : ℕ) → Reason → (old new : List ℕ) → Type 0
IsRefusedText p limit frame bit reason old new = (tree : List Begun) × (at : ℕ) × IsFaultTree p limit frame bit reason tree at × (new ≡ old ++ fault_text p limit tree bit reason (drop at (digits_of_bytes frame)))

-- The printer received a frame, which turned out so.
abbrev pub IsGiven : FramePrinter → KindSet → (limit : ℕ) → (frame : List ℕ) → Outcome → Type 0
IsGiven printer p limit frame Whole = (m : MessageTree) × FrameIn p m frame limit × Ends printer m
IsGiven printer p limit frame (Bad id fault) = FirstFaultIn p frame limit fault.bit fault.reason × IsRefused (IsRefusal printer) p limit frame fault

-- what is written of a frame was appended, which has this number: nothing where it is not asked for
abbrev pub IsAppended : Form → (only : Option ℕ) → KindSet → (limit number : ℕ) → (frame old new : List ℕ) → (before after : Bool) → Type 0
IsAppended form only p limit number frame old new before after = (one : List ℕ) × (this : Bool) × (new ≡ old ++ one) × IsWritten form only p limit number frame one this × (after ≡ (before && this))

-- the lines of the message of a frame were appended, or the text of its fault
abbrev pub IsOutcomeText : KindSet → (limit : ℕ) → (frame old new : List ℕ) → Bool → Type 0
IsOutcomeText p limit frame old new true = (m : MessageTree) × FrameIn p m frame limit × (new ≡ old ++ readings_text None 0 (message_lines m))
IsOutcomeText p limit frame old new false = (bit : ℕ) × (reason : Reason) × FirstFaultIn p frame limit bit reason × IsRefusedText p limit frame bit reason old new
