use Rattle.std.proofs.Common.{◌≡◌, List, ℕ, [], ◌∷◌, length, refl, sym, subst, ◌∙◌, arith, eqb-true}
use Rattle.llrp_stream.specs.Calls.Frames.{Refuses}
use Rattle.llrp_stream.specs.Private.Frames.{Begins}
use Rattle.llrp_stream.proofs.engine.frames.Frames.begin_any.Goals as goal

no_octets : (xs : List ℕ) → length xs ≡ 0 → xs ≡ []
no_octets [] e = refl
no_octets (x ∷ xs) e = absurd (omega (arith, e))

pub returns-then-piece-ge-HEADER_OCTETS-clause-takes : goal.returns-then-piece-ge-HEADER_OCTETS-clause-takes
returns-then-piece-ge-HEADER_OCTETS-clause-takes g c = λ was st.
    let fresh : c.args.self.now.body.raw.items ≡ [] = no_octets c.args.self.now.body.raw.items (eqb-true (length c.args.self.now.body.raw.items) 0 (sym c.is_empty.ensures ∙ c.if-is_empty.true)) in
    subst (λ (x : List ℕ). Begins (g.L.Listener.begins c.begin_here.new.listener was) (g.L.Listener.stands c.begin_here.new.listener was) (g.L.Listener.ends c.begin_here.new.listener was) (λ now. g.L.Listener.stands c.begin_here.new.listener now []) c.args.self.now.limit x c.args.piece.now c.begin_here.new.self c.begin_here.result) (sym fresh) (c.begin_here.ensures.takes was st)

pub returns-then-piece-ge-HEADER_OCTETS-clause-refuses : goal.returns-then-piece-ge-HEADER_OCTETS-clause-refuses
returns-then-piece-ge-HEADER_OCTETS-clause-refuses g c = λ was st.
    let fresh : c.args.self.now.body.raw.items ≡ [] = no_octets c.args.self.now.body.raw.items (eqb-true (length c.args.self.now.body.raw.items) 0 (sym c.is_empty.ensures ∙ c.if-is_empty.true)) in
    subst (λ (x : List ℕ). Refuses (g.L.Listener.faulty c.begin_here.new.listener was) c.args.self.now.body.reader.set c.args.self.now.limit x c.args.piece.now c.begin_here.new.self c.begin_here.result) (sym fresh) (c.begin_here.ensures.refuses was st)
