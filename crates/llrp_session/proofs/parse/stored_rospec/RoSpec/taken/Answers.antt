use Rattle.std.proofs.Common.{◌≡◌, ◌∷◌, [], ◌∙◌, ap, sym, length, arith}
use Rattle.llrp_session.specs.RoSpec.{rospec_of}
use Rattle.llrp_session.proofs.OnlyRoSpec.{adds_one, last_of}
use Rattle.llrp_session.proofs.parse.stored_rospec.RoSpec.taken.Goals as goal

pub settings-settings-requires : goal.settings-settings-requires
settings-settings-requires c =
    let one = adds_one c.args.message c.requires.0 c.lawful.ensures c.requires.1 in
    let items : c.into_vec-children.result.items ≡ one.rospec ∷ [] = c.into_vec-children.ensures ∙ c.into_children.ensures ∙ one.only in
    let same = last_of c.pop.new.self.items c.in-Some.spec one.rospec (sym c.in-Some.ensures.items ∙ items) in
    rw same one.kind

pub unreachable-requires : goal.unreachable-requires
unreachable-requires c =
    let one = adds_one c.args.message c.requires.0 c.lawful.ensures c.requires.1 in
    let items : c.into_vec-children.result.items ≡ one.rospec ∷ [] = c.into_vec-children.ensures ∙ c.into_children.ensures ∙ one.only in
    let size = ap length items in
    omega (arith, size, c.in-None.ensures.cases.0)

pub invariant_of-result : goal.invariant_of-result
invariant_of-result c =
    let one = adds_one c.args.message c.requires.0 c.lawful.ensures c.requires.1 in
    let items : c.into_vec-children.result.items ≡ one.rospec ∷ [] = c.into_vec-children.ensures ∙ c.into_children.ensures ∙ one.only in
    let same = last_of c.pop.new.self.items c.in-Some.spec one.rospec (sym c.in-Some.ensures.items ∙ items) in
    (rw same one.kind, c.settings-settings.ensures)

pub returns : goal.returns
returns c =
    let one = adds_one c.args.message c.requires.0 c.lawful.ensures c.requires.1 in
    let items : c.into_vec-children.result.items ≡ one.rospec ∷ [] = c.into_vec-children.ensures ∙ c.into_children.ensures ∙ one.only in
    let same = last_of c.pop.new.self.items c.in-Some.spec one.rospec (sym c.in-Some.ensures.items ∙ items) in
    λ rospec e. ap rospec_of (same ∙ sym (one.added rospec e))
