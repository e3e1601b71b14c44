use Rattle.std.proofs.Common.{ℕ, List, ◌++◌, map, ap, sym, ◌∙◌, arith}
use Rattle.llrp_schema.specs.Calls.Schema.{group_rule}
use Rattle.llrp_tree.proofs.SpellingLemmas.{none_below}
use Rattle.std.proofs.lemmas.Result.{on_ok_weaker}
use Rattle.llrp_explain.proofs.MissingLemmas.{none_missing, here_missing, later_missing, seen_later, groups_first, rules_of, narrow_first, narrow_later, fewer_later}
use Rattle.llrp_explain.proofs.missing.+push_first_missing.Goals as goal

pub returns-in_default : goal.returns-in_default
returns-in_default t c = λ children seen. none_missing (map group_rule c.args.groups.now) children c.args.text.now.items (ap (map group_rule) (none_below c.args.groups.now c.in_default.len_below))

pub returns-then-here : goal.returns-then-here
returns-then-here t c = on_ok_weaker c.push_choice.result
    (λ e children seen. e ∙ ap (λ (y : List ℕ). c.args.text.now.items ++ y) (
    let first = groups_first c.args.groups.now _ c.in-len1-up.len_at_least in
    let lacks = c.lacks-here.ensures.yes c.if-here.true in
    sym (here_missing _ _ (map group_rule c.args.groups.now) children c.args.seen (rules_of c.args.groups.now _ _ first) seen lacks.0 lacks.1)))
    c.push_choice.ensures

pub push_first_missing-requires : goal.push_first_missing-requires
push_first_missing-requires t c =
    let less = fewer_later c.args.groups.now c.in-len1-up.len_at_least in
    (omega (arith, c.decreases, less), narrow_later c.args.groups.now c.in-len1-up.len_at_least c.requires)

pub returns : goal.returns
returns t c = on_ok_weaker c.push_first_missing.result
    (λ f children seen. (
    let first = groups_first c.args.groups.now _ c.in-len1-up.len_at_least in
    let rules = rules_of c.args.groups.now _ _ first in
    f children (seen_later _ _ (map group_rule c.args.groups.now) children c.args.seen rules seen)
    ∙ ap (λ (y : List ℕ). c.args.text.now.items ++ y) (later_missing _ _ (map group_rule c.args.groups.now) children c.args.seen rules seen (narrow_first c.args.groups.now _ _ first c.requires) (c.lacks-here.ensures.no c.if-here.false))))
    c.push_first_missing.ensures
