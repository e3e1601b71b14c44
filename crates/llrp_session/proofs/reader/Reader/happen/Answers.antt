use Rattle.std.proofs.Common.{rules}
use Rattle.llrp_session.proofs.reader.Reader.happen.Goals as goal

pub returns-then-is_err-clause-reader_unchanged : goal.returns-then-is_err-clause-reader_unchanged
returns-then-is_err-clause-reader_unchanged c = search rules
