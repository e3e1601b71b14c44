use Rattle.std.proofs.Common.{◌≡◌, ◌++◌, ◌∙◌, refl, sym}
use Rattle.std.proofs.lemmas.Result.{on_ok_weaker}
use Rattle.llrp_sides.proofs.StretchTakes.{still_broken, takes_held, takes_nothing, takes_past}
use Rattle.llrp_sides.proofs.stretch.Stretch.take.Goals as goal

pub returns-then-self : goal.returns-then-self
returns-then-self c = λ bytes listing stands. still_broken c.args.stamp c.args.octets.now bytes listing c.args.self.now c.args.text.now c.if-self.true stands

pub returns-in_default : goal.returns-in_default
returns-in_default c =
    let all : c.as_slice.result.now ≡ c.args.self.now.held.items ++ c.args.octets.now = cc (c.as_slice.ensures.value, c.in_ok-extend_from_slice.ensures.items, c.replace-all.ensures.value) in
    on_ok_weaker c.take_frames.result (λ t. λ bytes listing stands. takes_held c.args.stamp c.args.octets.now c.as_slice.result.now bytes listing c.args.self.now _ c.take_frames.new.self c.args.text.now c.take_frames.new.text
    c.if-self.false (sym c.take.ensures.value ∙ c.in_default.is) refl refl refl c.take.ensures.after all t stands) c.take_frames.ensures

pub returns-in-Some-2 : goal.returns-in-Some-2
returns-in-Some-2 c = on_ok_weaker c.take_frames-in-Some-2.result (λ t. λ bytes listing stands. takes_past c.args.stamp c.in-Some.decoder c.args.octets.now c.split_at.result.1.now bytes listing c.in-Some-2.used c.in_ok-used.field-0 c.args.self.now _ c.read_past.new.self c.take_frames-in-Some-2.new.self
    c.args.text.now c.read_past.new.text c.take_frames-in-Some-2.new.text c.if-self.false (sym c.take.ensures.value ∙ c.in-Some.is) refl refl refl c.take.ensures.after c.in-Some-2.is c.in_ok-used.ensures.passes c.split_at.ensures.back t stands) c.take_frames-in-Some-2.ensures

pub returns-in-None : goal.returns-in-None
returns-in-None c = λ bytes listing stands. takes_nothing c.args.stamp c.in-Some.decoder c.args.octets.now bytes listing c.in_ok-used.field-0 c.args.self.now _ c.read_past.new.self c.args.text.now c.read_past.new.text
    c.if-self.false (sym c.take.ensures.value ∙ c.in-Some.is) refl refl refl c.in-None.is c.in_ok-used.ensures.passes stands
