use Rattle.std.proofs.Common.{refl}
use Rattle.tag_schemes.proofs.WriteFacts.{pieces}
use Rattle.tag_schemes.proofs.write_text.print_further.Goals as goal

pub returns : goal.returns
returns c =
    pieces c.args.epc _ _ _ _ _ _ _ _ _ _ _ refl c.name.ensures c.new-text.ensures c.push_str.ensures.bytes c.push_str-2.ensures.bytes c.push_str-3.ensures.bytes c.push_padded.ensures.digits c.push_str-4.ensures.bytes
    c.push_padded-2.ensures.digits c.push_str-5.ensures.bytes c.push_reference.ensures
