-- What a reader reads in a lawful message is a lawful request.
use Rattle.std.proofs.Common.{ℕ, ◌≤◌, List, arith, get_or}
use Rattle.std.specs.Prelude.{Option, None, Some}
use Rattle.llrp_schema.specs.declared.kinds.MsgKind.{MsgKind}
use Rattle.llrp_schema.specs.declared.kinds.MsgKind.TheVariants as kinds
use Rattle.llrp_schema.specs.declared.kinds.ParamKind.TheVariants.{RoSpec}
use Rattle.llrp_schema.specs.declared.kinds.Kind.TheVariants.{Message}
use Rattle.llrp_schema.specs.Schema.{rule_of, message_rule, fields_of, plain_fields_of}
use Rattle.llrp_tree.specs.Tree.{Tree, Forest, MessageTree}
use Rattle.llrp_tree.specs.Lawful.{AreInRange, AllLawful, IsLawfulMessage}
use Rattle.llrp_session.specs.RoSpec.{first_in}
use Rattle.llrp_session.specs.Reading.{adding, request_in, request_of}
use Rattle.llrp_session.specs.Calls.LawfulStates.{IsLawfulRequest}
use Rattle.llrp_session.proofs.ToldOfLawful.{IsFound, found-first_in, first_in_range}

lawful-adding : (o : Option Tree) → IsFound RoSpec o → IsLawfulRequest (adding o)
lawful-adding None h = tt
lawful-adding (Some rospec) h = h

-- the first field of these messages is a ROSpecID
lawful-request_in : (kind : MsgKind) (fields : List ℕ) (row : Forest) → AreInRange (plain_fields_of (Message kind)) fields → AllLawful row → IsLawfulRequest (request_in kind fields row)
unfolding fields_of rule_of message_rule
lawful-request_in kinds.AddRoSpec fields row r l = lawful-adding (first_in RoSpec row) (found-first_in RoSpec row l)
lawful-request_in kinds.DeleteRoSpec fields row r l = let le : get_or fields 0 0 ≤ 4294967295 = first_in_range (plain_fields_of (Message kinds.DeleteRoSpec)) fields r in omega arith
lawful-request_in kinds.StartRoSpec fields row r l = let le : get_or fields 0 0 ≤ 4294967295 = first_in_range (plain_fields_of (Message kinds.StartRoSpec)) fields r in omega arith
lawful-request_in kinds.StopRoSpec fields row r l = let le : get_or fields 0 0 ≤ 4294967295 = first_in_range (plain_fields_of (Message kinds.StopRoSpec)) fields r in omega arith
lawful-request_in kinds.EnableRoSpec fields row r l = let le : get_or fields 0 0 ≤ 4294967295 = first_in_range (plain_fields_of (Message kinds.EnableRoSpec)) fields r in omega arith
lawful-request_in kinds.DisableRoSpec fields row r l = let le : get_or fields 0 0 ≤ 4294967295 = first_in_range (plain_fields_of (Message kinds.DisableRoSpec)) fields r in omega arith
lawful-request_in kinds.SetReaderConfig fields row r l = tt
lawful-request_in kinds.GetReport fields row r l = tt
lawful-request_in kinds.CloseConnection fields row r l = tt
lawful-request_in kinds.KeepaliveAck fields row r l = tt
lawful-request_in kinds.EnableEventsAndReports fields row r l = tt
lawful-request_in kinds.ErrorMessage fields row r l = tt
lawful-request_in _ fields row r l = tt

pub lawful_request : (m : MessageTree) → IsLawfulMessage m → IsLawfulRequest (request_of m)
unfolding request_of
lawful_request m h = lawful-request_in m.kind m.fields m.children h.obeys.ranges h.children
