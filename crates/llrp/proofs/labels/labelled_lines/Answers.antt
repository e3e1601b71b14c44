use Rattle.llrp.proofs.labels.labelled_lines.Goals as goal

pub returns-in-Some : goal.returns-in-Some
returns-in-Some c = rw c.in-Some.is (rw c.are_objects.ensures at c.label_tags.ensures)
