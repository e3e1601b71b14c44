use Rattle.std.proofs.Common.{ℕ, List, subst}
use Rattle.llrp_c.specs.AllSchemes.{ReadsTextInAll}
use Rattle.llrp_c.proofs.all_schemes.llrp_word_in_all.Goals as goal

pub returns-in-Ok-clause-read : goal.returns-in-Ok-clause-read
returns-in-Ok-clause-read c = λ twelve utf8.
    (c.read.result, c.code-in-Ok.ensures, subst (λ (text : List ℕ). ReadsTextInAll text c.args.word.now c.read.new.word c.read.result) c.in-Ok.ensures.cases.0 c.read.ensures)
