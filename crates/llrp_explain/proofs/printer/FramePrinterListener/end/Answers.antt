use Rattle.std.proofs.Common.{[], ◌∷◌}
use Rattle.llrp_explain.specs.Calls.ExplainLines.{message_lines, open_lines}
use Rattle.llrp_explain.proofs.OpenLines.{ended_lines, holds_same}
use Rattle.llrp_explain.proofs.printer.FramePrinterListener.end.Goals as goal

pub returns : goal.returns
returns c = λ was b m st r is. ([], tt, holds_same [] (open_lines (b ∷ [])) (message_lines m) c.args.self.now.lines (ended_lines b m r is) st.0)
