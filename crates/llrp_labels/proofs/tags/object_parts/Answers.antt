use Rattle.llrp_labels.proofs.TagLemmas.{no_end, no_start, no_quote, object_is}
use Rattle.llrp_labels.proofs.tags.object_parts.Goals as goal

pub returns-in_default : goal.returns-in_default
returns-in_default c = λ text rest o. no_start c.args.line.now c.object_start.result.now text rest c.object_start.ensures c.in_default.ensures.cases o

pub returns-in_default-split_once : goal.returns-in_default-split_once
returns-in_default-split_once c = λ text rest o.
    no_quote c.args.line.now c.object_start.result.now c.in-Some.after.now text rest c.object_start.ensures c.in-Some.ensures.cases.0 c.in-Some.ensures.cases.1 c.in_default-split_once.ensures o

pub returns-in-Some-strip_suffix : goal.returns-in-Some-strip_suffix
returns-in-Some-strip_suffix c =
    object_is c.args.line.now c.object_start.result.now c.in-Some.after.now c.in-Some-split_once.text.now c.in-Some-split_once.rest.now c.as_slice.result.now c.in-Some-strip_suffix.rest.now c.object_start.ensures c.in-Some.ensures.cases.0 c.in-Some.ensures.cases.1 c.in-Some-split_once.ensures
    c.as_slice.ensures c.in-Some-strip_suffix.ensures.cases.0 c.in-Some-strip_suffix.ensures.cases.1

pub returns-in-None : goal.returns-in-None
returns-in-None c = λ text rest o.
    no_end c.args.line.now c.object_start.result.now c.in-Some.after.now c.in-Some-split_once.text.now c.in-Some-split_once.rest.now c.as_slice.result.now text rest c.object_start.ensures c.in-Some.ensures.cases.0 c.in-Some.ensures.cases.1 c.in-Some-split_once.ensures c.as_slice.ensures c.in-None.ensures.cases o
