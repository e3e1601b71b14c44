use Rattle.llrp_stream.proofs.ValueLemmas.{value_lawful}
use Rattle.llrp_stream.proofs.engine.open_nodes.parameter_of.Goals as goal

pub of_lawful-requires : goal.of_lawful-requires
of_lawful-requires c =
    rw (c.new-tail.ensures, c.new-children.ensures, c.new.ensures.items, c.new-2.ensures.items) (value_lawful c.args.kind c.args.value c.requires.short c.requires.fits).0
