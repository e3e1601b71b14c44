use Rattle.std.proofs.Common.{sym, ◌∙◌, inl, inr}
use Rattle.llrp_listing.proofs.TailWords.{digits_read, digits_refused, capital_refused}
use Rattle.llrp_json_read.proofs.tails.read_digits.Goals as goal

pub returns-then-has_capital : goal.returns-then-has_capital
returns-then-has_capital c = capital_refused c.args.digits.now (sym c.has_capital.ensures ∙ c.if-has_capital.true)

pub returns-in-Ok : goal.returns-in-Ok
returns-in-Ok c = digits_read c.args.digits.now c.in-Ok.octets.items (sym c.has_capital.ensures ∙ c.if-has_capital.false) c.in-Ok.ensures.ok

pub returns-in_default : goal.returns-in_default
returns-in_default c = elim c.in-Err.ensures.err [ inl full ↦ absurd (c.in_default.not-OutOfMemory full) | inr bad ↦ digits_refused c.args.digits.now c.in-Err.error bad ]
