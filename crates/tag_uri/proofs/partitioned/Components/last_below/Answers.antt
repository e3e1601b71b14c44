use Rattle.tag_uri.proofs.ReadLemmas.{digits_of_last, last_is}
use Rattle.tag_uri.proofs.partitioned.Components.last_below.Goals as goal

pub number_below-requires-clause-digits : goal.number_below-requires-clause-digits
number_below-requires-clause-digits c = (digits_of_last c.args.self.now c.args.width c.in-Some.last c.in-Some.is c.requires.digits).digits

pub returns-in-Some-clause-last : goal.returns-in-Some-clause-last
returns-in-Some-clause-last c = last_is c.args.self.now c.args.width c.in-Some.last c.number_below.result c.in-Some.is c.requires.narrow c.requires.digits c.requires.plain c.number_below.ensures
