use Rattle.std.proofs.Common.{◌∙◌, ℕ, List, [], sym, ap}
use Rattle.llrp_schema.specs.declared.kinds.MsgKind.{MsgKind}
use Rattle.llrp_schema.specs.declared.kinds.Kind.TheVariants.{Message}
use Rattle.llrp_schema.specs.declared.kinds.KindSet.TheVariants.{Profile}
use Rattle.llrp_schema.specs.Schema.{groups_of, message_in, number_of}
use Rattle.llrp_tree.specs.Tree.{Tree, forest}
use Rattle.llrp_tree.proofs.TreeLemmas.{forest-trees}
use Rattle.llrp_endpoints.specs.Heard.{message_where, own_row}
use Rattle.llrp_endpoints.proofs.OwnParts.{message_there, no_message}
use Rattle.llrp_endpoints.proofs.heard.own_message.Goals as goal

pub returns-in_default : goal.returns-in_default
returns-in_default c =
    let found = ap (λ (k : MsgKind). message_in Profile (number_of (Message k))) (sym c.kind.ensures) ∙ ap (message_in Profile) (sym c.number.ensures) ∙ sym c.msg_of.ensures in
    sym (no_message c.args.message.now (found ∙ c.in_default.is))

pub returns : goal.returns
returns c =
    let m = c.args.message.now in
    let kind = c.in-Some.kind in
    let found = ap (λ (k : MsgKind). message_in Profile (number_of (Message k))) (sym c.kind.ensures) ∙ ap (message_in Profile) (sym c.number.ensures) ∙ sym c.msg_of.ensures in
    let row = c.as_slice.ensures ∙ c.children.ensures in
    let is = c.in_ok-children.ensures ∙ ap (λ (ts : List Tree). own_row (groups_of (Message kind)) (forest ts)) row ∙ ap (own_row (groups_of (Message kind))) (forest-trees m.children) in
    c.lawful_message.ensures
    ∙ ap (λ (v : ℕ). message_where (record { version = v; id = c.id.result; kind = kind; fields = c.fields.result.now; tail = []; children = forest c.new.result })) c.version.ensures
    ∙ ap (λ (i : ℕ). message_where (record { version = m.version; id = i; kind = kind; fields = c.fields.result.now; tail = []; children = forest c.new.result })) c.id.ensures
    ∙ ap (λ (fs : List ℕ). message_where (record { version = m.version; id = m.id; kind = kind; fields = fs; tail = []; children = forest c.new.result })) c.fields.ensures
    ∙ ap (λ (ts : List Tree). message_where (record { version = m.version; id = m.id; kind = kind; fields = m.fields; tail = []; children = forest ts })) c.new.ensures
    ∙ message_there m kind (forest c.in_ok-children.children.items) (found ∙ c.in-Some.is) is
