-- Words of private functions on what a client says besides its plan.
use Rattle.std.specs.Prelude.{List, []}
use Rattle.llrp_tree.specs.Tree.{MessageTree}
use Rattle.llrp_endpoints.specs.declared.asides.Aside.{Aside}
use Rattle.llrp_endpoints.specs.declared.asides.Aside.TheVariants.{Nothing, Enabling, Deleting}
use Rattle.llrp_endpoints.specs.Asides.{Asides}

-- those of one kind
abbrev pub aside_of : Aside → Asides → List MessageTree
aside_of Nothing a = []
aside_of Enabling a = a.enabling
aside_of Deleting a = a.deleting
