use Rattle.llrp_labels.proofs.label.key_among.Goals as goal

pub returns-then-schemes : goal.returns-then-schemes
returns-then-schemes c = rw c.if-schemes.true c.form_in_all.ensures

pub returns-else-schemes : goal.returns-else-schemes
returns-else-schemes c = rw c.if-schemes.false c.text_in.ensures
