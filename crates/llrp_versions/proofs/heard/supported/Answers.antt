use Rattle.llrp_versions.proofs.LawfulResponses.{fine, same_numbers}
use Rattle.llrp_versions.proofs.heard.supported.Goals as goal

pub response-requires-clause-status : goal.response-requires-clause-status
response-requires-clause-status c = fine

pub response-requires-clause-message : goal.response-requires-clause-message
response-requires-clause-message c = same_numbers c.args.request.now c.args.version c.number.result c.number-greatest.result c.number.ensures c.number-greatest.ensures c.lawful.ensures
