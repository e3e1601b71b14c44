use Rattle.std.proofs.Common.{◌≡◌, get_or, rules}
use Rattle.llrp_session.proofs.ReadFields.{field_within}
use Rattle.llrp_session.proofs.parse.find.field.Goals as goal

pub returns-in-Some-clause-fits : goal.returns-in-Some-clause-fits
returns-in-Some-clause-fits c =
    let value : c.unwrap_or.result ≡ get_or c.in-Some.node.now.fields c.args.i 0 = search rules in
    let here = rw c.in-Some.is at c.requires in
    rw value (field_within c.args.kind c.in-Some.node.now c.args.i here.0 here.1)
