use Rattle.std.proofs.Common.{codes, refl}
use Rattle.llrp_words.specs.Calls.Arguments.{command_in, word_in}
use Rattle.llrp_words.proofs.ArgumentLemmas.{found_fields}
use Rattle.llrp_words.proofs.CommandLemmas.{no_fault}
use Rattle.llrp_words.proofs.GivenArguments.{found_if_parsed}
use Rattle.llrp_words.proofs.laws.fields_has_flag.Goals as goal

pub returns : goal.returns
returns c = λ words parsed named.
    let all = found_fields (command_in words) (found_if_parsed words (no_fault words parsed)) named in
    (all.0, word_in (codes "NAME") (command_in words), record { parsed = parsed; named = named; kinds = all.1; given = refl })
