use Rattle.std.proofs.Common.{◌≡◌, ◌<◌, ◌∙◌, ap, arith, length}
use Rattle.std.proofs.lemmas.Bool.Decides.{nat_tests}
use Rattle.llrp_stream.specs.declared.item.End.TheVariants.{Clean}
use Rattle.llrp_sides.proofs.StretchTakes.{ends_broken, ends_held, ends_long, no_octets}
use Rattle.llrp_sides.proofs.stretch.Stretch.ending.Goals as goal

pub returns-then-self : goal.returns-then-self
returns-then-self c = λ bytes listing stands. ends_broken c.args.self.now bytes listing c.if-self.true stands

pub returns-in-Some : goal.returns-in-Some
returns-in-Some c = λ bytes listing stands. ends_long c.args.self.now bytes listing c.in-Some.decoder c.finish.result c.if-self.false c.in-Some.is c.finish.ensures.stands_in stands

pub returns-in-None : goal.returns-in-None
returns-in-None c =
    let none : length c.args.self.now.held.items ≡ 0 = grind (arith, nat_tests) in
    λ bytes listing stands. ends_held c.args.self.now bytes listing Clean c.if-self.false c.in-None.is (λ front held partial. held ∙ no_octets _ none) stands

pub returns-in-None-2 : goal.returns-in-None-2
returns-in-None-2 c =
    let some : 0 < length c.args.self.now.held.items = grind (arith, nat_tests) in
    let count : c.len.result ≡ length c.args.self.now.held.items = grind arith in
    λ bytes listing stands. ends_held c.args.self.now bytes listing _ c.if-self.false c.in-None-2.is (λ front held partial.
    let same : length front ≡ length c.args.self.now.held.items = ap length held in
    (omega arith, omega arith, partial)) stands
