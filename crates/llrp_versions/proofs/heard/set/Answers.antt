use Rattle.llrp_versions.proofs.LawfulResponses.{fine, set_fine, set_unsupported, unsupported}
use Rattle.llrp_versions.proofs.heard.set.Goals as goal

pub response-requires-clause-status : goal.response-requires-clause-status
response-requires-clause-status c = fine

pub response-requires-clause-message : goal.response-requires-clause-message
response-requires-clause-message c = set_fine c.args.request.now c.lawful.ensures

pub response-requires-in-None-wanted-clause-status : goal.response-requires-in-None-wanted-clause-status
response-requires-in-None-wanted-clause-status c = unsupported

pub response-requires-in-None-wanted-clause-message : goal.response-requires-in-None-wanted-clause-message
response-requires-in-None-wanted-clause-message c = set_unsupported c.args.request.now c.lawful.ensures
