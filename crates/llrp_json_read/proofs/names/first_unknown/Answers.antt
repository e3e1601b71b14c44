use Rattle.std.proofs.Common.{◌≡◌, ◌+◌, false, true, ◌∷◌, drop, sym, ap, ◌∙◌, arith}
use Rattle.std.specs.Prelude.{map}
use Rattle.std.proofs.lemmas.List.{drop_more}
use Rattle.json.specs.Value.{members_view}
use Rattle.llrp_json_read.specs.ObjectMembers.{unknown}
use Rattle.llrp_json_read.specs.Private.Words.{member_rule}
use Rattle.llrp_json_read.proofs.MemberLemmas.{known_here, unknown_here}
use Rattle.llrp_json_read.proofs.names.first_unknown.Goals as goal

pub returns-then-not-is_among : goal.returns-then-not-is_among
returns-then-not-is_among c =
    let xs = c.args.members.now in
    let rules = map member_rule c.args.rules.now in
    let i = c.loop-member.member-index in
    let m = c.member-item.result in
    let here : drop i xs ≡ m ∷ drop (i + 1) xs = drop_more xs i m (omega arith) ∙ ap (λ y. y ∷ drop (i + 1) xs) (sym c.member-item.is) in
    let off : c.is_among.result ≡ false = grind arith in
    sym (sym c.loop-member.invariant ∙ ap (λ ys. unknown (members_view ys) rules) here ∙ unknown_here m (drop (i + 1) xs) rules c.is_among.result c.is_among.ensures off)

pub loop-member-preserved : goal.loop-member-preserved
loop-member-preserved c =
    let xs = c.args.members.now in
    let rules = map member_rule c.args.rules.now in
    let i = c.loop-member.member-index in
    let m = c.member-item.result in
    let here : drop i xs ≡ m ∷ drop (i + 1) xs = drop_more xs i m (omega arith) ∙ ap (λ y. y ∷ drop (i + 1) xs) (sym c.member-item.is) in
    let on : c.is_among.result ≡ true = grind arith in
    sym (known_here m (drop (i + 1) xs) rules c.is_among.result c.is_among.ensures on) ∙ ap (λ ys. unknown (members_view ys) rules) (sym here) ∙ c.loop-member.invariant
