-- A search by number finds exactly the kind with the number, among the kinds of its form and profile.
use Rattle.llrp_schema.proofs.TableLaws.{message_found, tlv_found, tv_found}
use Rattle.llrp_schema.proofs.laws.numbers_are_found.Goals as goal

pub returns-clause-message : goal.returns-clause-message
returns-clause-message c = message_found

pub returns-clause-tlv : goal.returns-clause-tlv
returns-clause-tlv c = tlv_found

pub returns-clause-tv : goal.returns-clause-tv
returns-clause-tv c = tv_found
