use Rattle.llrp_labels.proofs.tags.push_tag.Goals as goal

pub returns-then-json : goal.returns-then-json
returns-then-json c = rw c.if-json.true c.push_object.ensures

pub returns-else-json : goal.returns-else-json
returns-else-json c = rw c.if-json.false c.push_words.ensures
