use Rattle.tag_uri.proofs.TextLaws.{words_apart, texts_same, text_or_fault}
use Rattle.tag_uri.proofs.laws.one_text.Goals as goal

pub returns-clause-one : goal.returns-clause-one
returns-clause-one c = words_apart

pub returns-clause-no_fault : goal.returns-clause-no_fault
returns-clause-no_fault c = text_or_fault

pub returns-clause-same : goal.returns-clause-same
returns-clause-same c = texts_same
