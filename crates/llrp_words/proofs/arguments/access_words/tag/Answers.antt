use Rattle.std.proofs.Common.{◌∙◌, ap, sym, codes, Option, is_some}
use Rattle.std.specs.Prelude.{option_map}
use Rattle.std.specs.Borrow.{Bor}
use Rattle.clap.specs.Words.{Text, found_of}
use Rattle.clap.proofs.CallerLemmas.{some_of_text}
use Rattle.clap.proofs.WalkLemmas.{first_value-rows}
use Rattle.llrp_words.proofs.arguments.access_words.tag.Goals as goal

pub unwrap-requires : goal.unwrap-requires
unwrap-requires c = some_of_text _ c.get_str.result _ (c.get_str.ensures ∙ first_value-rows (found_of c.args.inner.now) (codes "tag")) (ap (λ (o : Option Text). is_some o) c.requires.1)

pub returns : goal.returns
returns c = λ name. sym (first_value-rows (found_of c.args.inner.now) (codes "tag")) ∙ sym c.get_str.ensures ∙ ap (option_map (λ (s : Bor Text). s.now)) c.unwrap.ensures
