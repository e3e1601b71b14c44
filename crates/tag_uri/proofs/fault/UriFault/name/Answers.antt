use Rattle.std.proofs.Common.{rules}
use Rattle.tag_uri.proofs.fault.UriFault.name.Goals as goal

pub returns-in-Digits : goal.returns-in-Digits
returns-in-Digits c = search rules
