use Rattle.std.proofs.Common.{rules}
use Rattle.llrp_session.specs.Calls.Answers.{answer_of}
use Rattle.llrp_session.proofs.AnswersLawful.{deletion_lawful, enabling_lawful, disabling_lawful, listing_lawful}
use Rattle.llrp_session.proofs.answers.answer.Goals as goal

pub of_access-requires : goal.of_access-requires
of_access-requires c = rw (c.version-version.ensures, c.id-id.ensures, c.fields-fields.ensures) (deletion_lawful c.args.request.now.version c.args.request.now.id c.args.request.now.fields c.lawful.ensures.version c.lawful.ensures.id)

pub of_access-requires-in-WholeEnableAccessSpec : goal.of_access-requires-in-WholeEnableAccessSpec
of_access-requires-in-WholeEnableAccessSpec c = rw (c.version-version.ensures, c.id-id.ensures, c.fields-fields.ensures) (enabling_lawful c.args.request.now.version c.args.request.now.id c.args.request.now.fields c.lawful.ensures.version c.lawful.ensures.id)

pub of_access-requires-in-WholeDisableAccessSpec : goal.of_access-requires-in-WholeDisableAccessSpec
of_access-requires-in-WholeDisableAccessSpec c = rw (c.version-version.ensures, c.id-id.ensures, c.fields-fields.ensures) (disabling_lawful c.args.request.now.version c.args.request.now.id c.args.request.now.fields c.lawful.ensures.version c.lawful.ensures.id)

pub of_access-requires-in-WholeGetAccessSpecs : goal.of_access-requires-in-WholeGetAccessSpecs
of_access-requires-in-WholeGetAccessSpecs c = rw (c.version-version.ensures, c.id-id.ensures, c.fields-fields.ensures) (listing_lawful c.args.request.now.version c.args.request.now.id c.args.request.now.fields c.lawful.ensures.version c.lawful.ensures.id)

pub returns-in_default : goal.returns-in_default
unfolding answer_of
returns-in_default c = search rules

pub returns : goal.returns
unfolding answer_of
returns c = search rules
