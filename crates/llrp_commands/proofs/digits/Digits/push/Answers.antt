use Rattle.std.proofs.Common.{refl}
use Rattle.llrp_commands.proofs.DigitLemmas.{octet_came}
use Rattle.llrp_commands.proofs.digits.Digits.push.Goals as goal

pub returns-in_ok-push-in-Some : goal.returns-in_ok-push-in-Some
returns-in_ok-push-in-Some c = λ text octets digit s space value.
    octet_came text octets c.args.self.now.octets.items c.push.new.self.items c.args.self.now.half _ c.in-Some.high digit c.args.value c.in-Some.is refl c.in_ok-push-in-Some.ensures.items s space value
