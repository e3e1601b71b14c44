use Rattle.llrp_stream.specs.Cuts.{IsFrame, length_field}
use Rattle.llrp_c.proofs.reports.read_tags.Goals as goal

pub decode_frame_in-requires-clause-own_length : goal.decode_frame_in-requires-clause-own_length
unfolding length_field
decode_frame_in-requires-clause-own_length c =
    let is : IsFrame c.args.frame.now = c.is_frame.ensures.0 c.if-not-is_frame.false in
    is.whole
