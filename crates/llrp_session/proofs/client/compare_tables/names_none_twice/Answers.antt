use Rattle.std.proofs.Common.{◌∙◌, sym}
use Rattle.llrp_session.proofs.NamedTwice.{named_again, named_once, none_named}
use Rattle.llrp_session.proofs.client.compare_tables.names_none_twice.Goals as goal

pub returns-then-is_named : goal.returns-then-is_named
returns-then-is_named c =
    sym (c.loop-rest.invariant ∙ named_again c.loop-rest.rest.now c.rospec-item.result c.in-len1-up.len_at_least c.rospec-item.is (sym c.is_named.ensures ∙ c.if-is_named.true))

pub loop-rest-preserved : goal.loop-rest-preserved
loop-rest-preserved c =
    c.loop-rest.invariant ∙ named_once c.loop-rest.rest.now c.rospec-item.result c.in-len1-up.len_at_least c.rospec-item.is (sym c.is_named.ensures ∙ c.if-is_named.false)

pub returns : goal.returns
returns c = sym (c.loop-rest.invariant ∙ none_named c.loop-rest.rest.now c.in_default.len_below)
