use Rattle.std.proofs.Common.{refl}
use Rattle.llrp_explain.proofs.nearest.nearest_names.Goals as goal

pub returns : goal.returns
returns c =
    rw (c.in_ok-push_names.ensures, c.new-text.ensures.items, c.first_few.ensures, c.as_slice-3.ensures.value, c.in_ok-found.ensures, c.in_ok-count.ensures, c.as_slice.ensures.value, c.as_slice-2.ensures.value, c.in_ok-kinds.ensures) refl
