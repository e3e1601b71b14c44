use Rattle.std.proofs.Common.{refl}
use Rattle.llrp_general.specs.Calls.Serving.{setting}
use Rattle.llrp_general.proofs.ServeLemmas.{served_alone}
use Rattle.llrp_general.proofs.serve.run_serve_whole.Goals as goal

pub returns : goal.returns
returns g c = served_alone (setting c.args.core c.args.answers.pairs.items c.args.script) _ c.run_serve_among.result.1 _ _ _ _ c.run_serve_among.result.0 refl c.run_serve_among.ensures
