use Rattle.std.proofs.Common.{◌∙◌, arith}
use Rattle.std.specs.Prelude.{drop}
use Rattle.tag_bits.specs.Digits.{digits_of_bytes}
use Rattle.llrp_explain.proofs.AskedLemmas.{head_whole, id_is}
use Rattle.llrp_explain.proofs.asked.id_of.Goals as goal

pub returns-then-head-lt-HEADER_OCTETS : goal.returns-then-head-lt-HEADER_OCTETS
returns-then-head-lt-HEADER_OCTETS c = λ frame is long. let whole = head_whole c.args.head.now frame is long in absurd (omega (arith, whole, c.if-head-lt-HEADER_OCTETS.true))

pub returns : goal.returns
returns c = λ frame is long. c.from_bit.ensures.value (digits_of_bytes (drop 10 frame)) ∙ id_is c.args.head.now frame is
