-- What a printer of lines holds.
use Rattle.std.specs.Prelude.{◌≡◌, ℕ, ◌<◌, List, ◌++◌, None}
use Rattle.llrp_explain.specs.declared.lines.Lines.{Lines}
use Rattle.llrp_explain.specs.Calls.ExplainLines.{ExplainLine, bits_of_lines}
use Rattle.llrp_explain.specs.Calls.ExplainText.{kind_after, readings_text}

-- After a text it holds the text of these lines, the bit at which the next one begins, and the kind whose fields come next; so long as that bit has 32 bits, as each bit of a frame has.
unfoldable pub Holds : List ℕ → List ExplainLine → Lines → Type 0
Holds was lines printer = bits_of_lines lines < 4294967296 → (printer.text.items ≡ was ++ readings_text None 0 lines) × (printer.bit ≡ bits_of_lines lines) × (printer.kind ≡ kind_after None lines)

-- it holds these lines more
abbrev pub Adds : List ExplainLine → Lines → Lines → Type 0
Adds more old new = (was : List ℕ) (lines : List ExplainLine) → Holds was lines old → Holds was (lines ++ more) new
