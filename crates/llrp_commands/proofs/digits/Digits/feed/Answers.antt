use Rattle.std.proofs.Common.{ℕ, ◌++◌, sym, take, get_or}
use Rattle.llrp_commands.proofs.DigitLemmas.{space_came, taken_all, taken_front, taken_more}
use Rattle.llrp_commands.proofs.digits.Digits.feed.Goals as goal

pub loop-octet-preserved-then-is_space : goal.loop-octet-preserved-then-is_space
loop-octet-preserved-then-is_space c = λ text octets s.
    let i : ℕ = c.loop-octet.octet-index in
    let now = c.loop-octet.invariant text octets s in
    let space = space_came (text ++ take i c.args.piece.now) (octets ++ c.loop-octet.self.octets.items) c.loop-octet.self.half (get_or c.args.piece.now i 0) now (sym c.if-is_space.ensures) in
    taken_more text c.args.piece.now (octets ++ c.loop-octet.self.octets.items) c.loop-octet.self.half i c.loop-octet-test.true space

pub returns-in_default : goal.returns-in_default
returns-in_default c = λ text octets s.
    taken_front text c.args.piece.now (octets ++ c.loop-octet.self.octets.items) c.loop-octet.self.half c.loop-octet.octet-index c.loop-octet-test.true (c.loop-octet.invariant text octets s) (sym c.if-is_space.ensures) c.in_default.ensures

pub loop-octet-preserved : goal.loop-octet-preserved
loop-octet-preserved c = λ text octets s.
    let i : ℕ = c.loop-octet.octet-index in
    let now = c.loop-octet.invariant text octets s in
    let more = c.in_ok-push.ensures (text ++ take i c.args.piece.now) octets (get_or c.args.piece.now i 0) now (sym c.if-is_space.ensures) c.in-Some.ensures in
    taken_more text c.args.piece.now (octets ++ c.push.new.self.octets.items) c.push.new.self.half i c.loop-octet-test.true more

pub returns : goal.returns
returns c = λ text octets s.
    taken_all text c.args.piece.now (octets ++ c.loop-octet.self.octets.items) c.loop-octet.self.half c.loop-octet.octet-index c.loop-octet-test.false (c.loop-octet.invariant text octets s)
