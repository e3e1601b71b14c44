use Rattle.std.proofs.Common.{◌≡◌, ◌∙◌, None, Some, ap, sym}
use Rattle.llrp_schema.specs.declared.kinds.ParamKind.TheVariants.{RoSpec}
use Rattle.llrp_endpoints.specs.Heard.{kept_where}
use Rattle.llrp_endpoints.proofs.WholePlans.{known_is}
use Rattle.llrp_endpoints.proofs.plan.text.known.Goals as goal

pub unreachable-requires : goal.unreachable-requires
unreachable-requires c = let e = sym c.in-None.is ∙ c.in_ok-known.ensures ∙ ap (kept_where RoSpec) c.fields.ensures ∙ known_is c.args.rospec.now c.requires c.lawful.ensures in cc
