use Rattle.std.proofs.Common.{◌≡◌, ◌+◌, ◌≤◌, drop}
use Rattle.json.specs.Value.{members_view}
use Rattle.llrp_json_read.specs.ObjectMembers.{count_of}
use Rattle.llrp_json_read.proofs.names.count_of.Given as goal

abbrev pub invariant-loop-member : goal.invariant-loop-member
invariant-loop-member l =
    record {
      counted : l.count + count_of l.name (members_view (drop l.member-index l.members)) ≡ count_of l.name (members_view l.members);
      few : l.count ≤ l.member-index;
    }
