use Rattle.std.proofs.Common.{◌∙◌, sym}
use Rattle.std.proofs.lemmas.Bool.{true≢false}
use Rattle.std.proofs.lemmas.Slice.Eq.{bytes_eq-Decides}
use Rattle.llrp_files.proofs.FilesLemmas.{write_line}
use Rattle.llrp_files.proofs.files.is_unwritten.Goals as goal

pub returns-clause-yes : goal.returns-clause-yes
returns-clause-yes c = λ e. (bytes_eq-Decides _ _).0 (sym c.eq.ensures ∙ e) ∙ sym write_line

pub returns-clause-no : goal.returns-clause-no
returns-clause-no c = λ e is. true≢false (sym ((bytes_eq-Decides _ _).1 (is ∙ write_line)) ∙ sym c.eq.ensures ∙ e)
