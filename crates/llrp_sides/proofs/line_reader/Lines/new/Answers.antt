use Rattle.llrp_sides.proofs.LineLemmas.{stands_new}
use Rattle.llrp_sides.proofs.line_reader.Lines.new.Goals as goal

pub returns-clause-stands : goal.returns-clause-stands
returns-clause-stands c =
    let e = c.new.ensures in
    stands_new c.args.form c.args.port _ c.new-2.ensures.items e.pairs e.lawful e.time e.form e.port
