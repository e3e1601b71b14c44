use Rattle.std.proofs.Common.{ℕ, ◌-◌, Option, Some, None, length, map, take, drop, get_or}
use Rattle.std.specs.Prelude.{IfSome}
use Rattle.llrp_schema.specs.Calls.Schema.{field_rule}
use Rattle.llrp_listing.specs.Private.LineReading.{forms_of}
use Rattle.llrp_listing.specs.Private.ShortLines.{AreSpaced}
use Rattle.llrp_listing.proofs.BodyWords.{forms_none, forms_plain}
use Rattle.llrp_listing.proofs.ShortReading.{is_unsigned}
use Rattle.llrp_listing.proofs.SpacedNumbers.{more_spaced, none_spaced}
use Rattle.llrp_listing.proofs.encode.several.+numbers_from.Goals as goal

some_more : (r : Option ℕ) (P Q : ℕ → Type 0) → IfSome r P → ((n : ℕ) → P n → Q n) → IfSome r Q
some_more None P Q h f = tt
some_more (Some n) P Q h f = f n h

pub returns-in-empty-clause-spaced : goal.returns-in-empty-clause-spaced
returns-in-empty-clause-spaced t c = none_spaced _ c.args.line.now c.args.from c.args.fields.now.items (forms_none c.args.rules.now c.in-empty.len_below)

pub returns-in_ok-number-in-len1-up-clause-spaced : goal.returns-in_ok-number-in-len1-up-clause-spaced
returns-in_ok-number-in-len1-up-clause-spaced t c =
    let rules = c.args.rules.now in
    let line = c.args.line.now in
    let rest = forms_of (map field_rule (take (length rules - 1) (drop 1 rules))) in
    let x = c.in_ok-number-in-len1-up in
    let new = c.numbers_from-in-len1-up.new.fields.items in
    some_more c.numbers_from-in-len1-up.result (λ end. AreSpaced rest line x.end end c.push.new.self.items new) (λ end. AreSpaced (forms_of (map field_rule rules)) line c.args.from end c.args.fields.now.items new) c.numbers_from-in-len1-up.ensures.spaced
    (λ end s. more_spaced _ rest (forms_of (map field_rule rules)) line c.args.from x.end end x.number c.args.fields.now.items c.push.new.self.items new (forms_plain rules _ c.in-len1-up.len_at_least c.if-rule.false) (is_unsigned (get_or rules 0 _) c.if-rule-eq-EPC_BITS.false c.if-rule-2.false) x.ensures.below x.ensures.text c.push.ensures.items s)
