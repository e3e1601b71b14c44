use Rattle.std.proofs.Common.{◌∙◌, sym}
use Rattle.clap.specs.Words.{found_of}
use Rattle.clap.proofs.WalkLemmas.{first_value-rows}
use Rattle.llrp_words.proofs.arguments.optional_text.Goals as goal

pub returns : goal.returns
returns c = λ name. sym (first_value-rows (found_of c.args.inner.now) c.args.id.now) ∙ sym c.get_str.ensures
