-- What the code keeps of what a client says besides its plan.
use Rattle.std.specs.Prelude.{◌==◌, ◌&&◌, Bool, not, slice_index_or, Option, None, Some}
use Rattle.llrp_schema.specs.declared.kinds.Kind.TheVariants.{Message}
use Rattle.llrp_schema.specs.declared.kinds.MsgKind.TheVariants.{WholeDeleteAccessSpec}
use Rattle.llrp_schema.specs.Schema.{number_of}
use Rattle.llrp_tree.specs.Tree.{MessageTree}
use Rattle.llrp_endpoints.specs.declared.asides.AsideMessages.{AsideMessages}
use Rattle.llrp_endpoints.specs.Asides.{Asides, no_asides}

abbrev pub asides_in : Option AsideMessages → Asides
asides_in None = no_asides
asides_in (Some a) = record { enabling = a.enabling.items; deleting = a.deleting.items; whole = None }

-- the same, with a message in place of ADD_ROSPEC or none
abbrev pub said_in : Option AsideMessages → Option MessageTree → Asides
said_in a whole = record (asides_in a) { whole = whole }

-- ---- messages on AccessSpecs

-- it is a DELETE_ACCESSSPEC of one AccessSpec; that with the AccessSpecID 0 deletes all (LLRP 1.1, section 12)
abbrev pub deletes_one : MessageTree → Bool
deletes_one m = (number_of (Message m.kind) == number_of (Message WholeDeleteAccessSpec)) && not (slice_index_or m.fields 0 0 == 0)
