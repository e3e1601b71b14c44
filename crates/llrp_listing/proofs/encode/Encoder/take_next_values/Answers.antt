use Rattle.std.proofs.Common.{◌++◌, [], ℕ, List, arith, refl, subst, sym}
use Rattle.std.proofs.lemmas.List.{append-nil}
use Rattle.llrp_listing.specs.Private.EncoderState.{Stands}
use Rattle.llrp_listing.proofs.encode.Encoder.take_next_values.Goals as goal

pub returns-then-not-may_be_value : goal.returns-then-not-may_be_value
returns-then-not-may_be_value g c = record {
  taken = [];
  parts = refl;
  stands = λ start before s. subst (λ (z : List ℕ). Stands start (g.W.Sink.log c.args.w.now) z c.args.self.now) (sym (append-nil before)) s;
  number = omega arith;
  set = refl;
  limit = refl;
  sink = refl;
}
