use Rattle.std.proofs.Common.{refl}
use Rattle.llrp_commands.proofs.fields.no_name_line.Goals as goal

pub returns : goal.returns
returns c =
    rw (← c.as_bytes.ensures.value, c.in_ok-push.ensures.items, c.in_ok-extend_from_slice-2.ensures.items, c.in_ok-extend_from_slice.ensures.items, c.new-line.ensures.items, c.as_slice.ensures.value, c.in_ok-names.ensures) refl
