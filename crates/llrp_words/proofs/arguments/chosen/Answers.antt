use Rattle.std.proofs.Common.{◌∙◌, ap, sym, subst}
use Rattle.std.specs.Prelude.{option_map}
use Rattle.clap.specs.Words.{found_of, rows_of, subcommand_rows_of}
use Rattle.llrp_words.specs.Private.Parse.{IsFound}
use Rattle.llrp_words.proofs.ArgumentLemmas.{found_as}
use Rattle.llrp_words.proofs.CommandLemmas.{names_are}
use Rattle.llrp_words.proofs.arguments.chosen.Goals as goal

pub request_named-requires : goal.request_named-requires
request_named-requires c =
    let name = ap (option_map (λ p. p.0.now)) (sym c.unwrap.ensures) ∙ c.subcommand.ensures.name ∙ names_are _ _ _ in
    let rows = ap (option_map (λ p. rows_of (found_of p.1.now))) (sym c.unwrap.ensures) ∙ c.subcommand.ensures.rows in
    subst IsFound (found_as _ _ (subcommand_rows_of c.args.matches.now) name rows) c.requires
