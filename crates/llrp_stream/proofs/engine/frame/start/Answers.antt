use Rattle.std.proofs.Common.{◌≡◌, ℕ, ◌*◌, true, inl, List, [], length, drop, refl, sym, ap, ◌∙◌, subst, arith}
use Rattle.std.proofs.lemmas.List.{drop_all}
use Rattle.std.specs.Prelude.{reverse}
use Rattle.llrp_schema.specs.declared.kinds.Kind.TheVariants.{Message}
use Rattle.llrp_tree.specs.Spelling.{message}
use Rattle.llrp_tree.specs.Calls.Standing.{leading}
use Rattle.llrp_stream.specs.declared.engine.stack.StackNode.{StackNode}
use Rattle.llrp_stream.specs.Calls.Reading.{AreLevels}
use Rattle.llrp_stream.proofs.ReadyPart.{resting}
use Rattle.llrp_stream.proofs.WholeFrames.{header_reaches, header_length}
use Rattle.llrp_stream.proofs.engine.frame.start.Goals as goal

pub returns-then-bare-clause-stands : goal.returns-then-bare-clause-stands
returns-then-bare-clause-stands g c = λ was bytes limit o ten says most.
    let h = c.args.header.now in
    let bare : c.is_bare-bare.result ≡ true = cc (c.if-bare.true) in
    let l = header_length limit bytes h.version h.kind h.octets h.id ten says in
    let reach = header_reaches _ limit bytes h.version h.kind h.octets h.id ten c.requires.least says in
    let empty : AreLevels (reverse c.clear.new.self.items) (Message h.kind) [] = subst (λ (x : List StackNode). AreLevels (reverse x) (Message h.kind) []) (sym c.clear.ensures) tt in
    let behind : drop 10 bytes ≡ c.args.body.now.raw.items = drop_all 10 bytes (omega (arith, ten)) ∙ sym c.requires.raw in
    let none_raw = ap (λ (x : List ℕ). length x) c.requires.raw in (
      record {
        are = record {
          node = leading (message h.version h.kind h.octets h.id) (8 * h.octets) [];
          outer = [];
          reads = record {
            level = record { kind = sym c.begun-body.ensures.kind; stop = ap (λ (n : ℕ). 8 * n) (sym c.begun-body.ensures.stop); seen = c.begun-body.ensures.seen };
            levels = empty;
            stage = record { ready = resting (leading (message h.version h.kind h.octets h.id) (8 * h.octets) []) (Message h.kind) refl refl (c.is_bare-bare.ensures.fields bare) (c.is_bare-bare.ensures.tail bare); aligned = refl; reaches = reach };
            before = omega (arith, ten);
            small = omega (arith, l.1, most);
            bit_small = omega arith;
          };
          told = c.in_ok-ready.ensures was _ (c.in_ok-message.ensures was o);
        };
        raw = behind;
        few = omega (arith, none_raw);
        held = inl c.requires.raw;
      },
      refl,
      refl,
    )

pub returns-clause-stands : goal.returns-clause-stands
returns-clause-stands g c = λ was bytes limit o ten says most.
    let h = c.args.header.now in
    let l = header_length limit bytes h.version h.kind h.octets h.id ten says in
    let reach = header_reaches _ limit bytes h.version h.kind h.octets h.id ten c.requires.least says in
    let empty : AreLevels (reverse c.clear.new.self.items) (Message h.kind) [] = subst (λ (x : List StackNode). AreLevels (reverse x) (Message h.kind) []) (sym c.clear.ensures) tt in
    let behind : drop 10 bytes ≡ c.args.body.now.raw.items = drop_all 10 bytes (omega (arith, ten)) ∙ sym c.requires.raw in
    let none_raw = ap (λ (x : List ℕ). length x) c.requires.raw in (
      record {
        are = record {
          node = leading (message h.version h.kind h.octets h.id) (8 * h.octets) [];
          outer = [];
          reads = record {
            level = record { kind = sym c.begun-body.ensures.kind; stop = ap (λ (n : ℕ). 8 * n) (sym c.begun-body.ensures.stop); seen = c.begun-body.ensures.seen };
            levels = empty;
            stage = record { bare = refl; count = refl; first_is = refl; reaches = reach };
            before = omega (arith, ten);
            small = omega (arith, l.1, most);
            bit_small = omega arith;
          };
          told = c.in_ok-message.ensures was o;
        };
        raw = behind;
        few = omega (arith, none_raw);
        held = inl c.requires.raw;
      },
      refl,
      refl,
    )
