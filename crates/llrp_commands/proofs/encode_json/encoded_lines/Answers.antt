use Rattle.llrp_commands.proofs.EncodeJsonLemmas.{lines_not_encoded}
use Rattle.llrp_commands.proofs.encode_json.encoded_lines.Goals as goal

pub returns-in-Err : goal.returns-in-Err
returns-in-Err g c = rw c.memory_lines_error.ensures (lines_not_encoded _ _ _ _ _ _ c.in-Err.error c.in-Err.ensures)
