use Rattle.std.proofs.Common.{◌≡◌, ℕ, ◌≤◌, Bool, true, false, inl, inr, List, [], ◌∷◌, ◌++◌, Ok, refl, sym, ap, ◌∙◌, subst, arith, append_assoc, length, drop, take, get_or}
use Rattle.std.proofs.lemmas.Result.{err_from_is_err_and}
use Rattle.std.proofs.lemmas.List.{append-nil}
use Rattle.llrp_tree.specs.OpenTree.{Begun}
use Rattle.llrp_stream.specs.Private.Reading.{IsComplete}
use Rattle.llrp_stream.specs.Calls.Pieces.{BodyStands, Awaits}
use Rattle.llrp_stream.proofs.PieceLemmas.{chunk_fits, chunk_fed, chunk_whole, chunk_tells, head_split, parts_first, parts_last}
use Rattle.llrp_tree.specs.declared.fault.Fault.{Fault}
use Rattle.llrp_tree.specs.declared.fault.FrameErr.{FrameErr}
use Rattle.std.specs.Prelude.{Result, Err, ◌==◌}
use Rattle.std.proofs.lemmas.Bool.{eqb-true}
use Rattle.llrp_stream.specs.declared.engine.body.Body.{Body}
use Rattle.llrp_stream.specs.Private.Pieces.{Feeds}
use Rattle.llrp_stream.proofs.engine.body.Body.feed.Goals as goal

fed_all : (begins stands : List Begun → Type 0) (faulty : List Begun → List ℕ → Fault → Type 0) (start old new : Body) (front piece done rest : List ℕ) (result : Result Bool FrameErr) → piece ≡ done ++ rest → length (front ++ piece) ≤ start.reader.octets → old.reader.octets ≡ start.reader.octets → old.reader.set ≡ start.reader.set
    → Feeds begins stands faulty old new (front ++ done) rest result → Feeds begins stands faulty start new front piece result
fed_all begins stands faulty start old new front piece done rest (Ok false) e le same set f =
    (subst (λ (x : List ℕ). Awaits begins stands new x) (append_assoc front done rest ∙ ap (λ (x : List ℕ). front ++ x) (sym e)) f.0, f.1 ∙ same, f.2 ∙ set)
fed_all begins stands faulty start old new front piece done rest (Ok true) e le same set f =
    (subst (λ (x : List ℕ). IsComplete stands new.reader x) (append_assoc front done rest ∙ ap (λ (x : List ℕ). front ++ x) (sym e)) f.0, f.1 ∙ same, f.2 ∙ set)
fed_all begins stands faulty start old new front piece done rest (Err x) e le same set f =
    chunk_tells front piece done rest [] (parts_last piece done rest e) stands faulty old.reader.set start.reader.set old.reader.octets start.reader.octets x set same f

at_ok : (begins stands : List Begun → Type 0) (faulty : List Begun → List ℕ → Fault → Type 0) (old new : Body) (front piece : List ℕ) (x y : Bool) → x ≡ y → Feeds begins stands faulty old new front piece (Ok x) → Feeds begins stands faulty old new front piece (Ok y)
at_ok begins stands faulty old new front piece x y e f = subst (λ (z : Bool). Feeds begins stands faulty old new front piece (Ok z)) e f

empty_of : (xs : List ℕ) → (length xs == 0) ≡ true → xs ≡ []
empty_of [] e = refl
empty_of (x ∷ xs) e = absurd (omega (arith, eqb-true (length (x ∷ xs)) 0 e))

some_of : (xs : List ℕ) → (length xs == 0) ≡ false → 1 ≤ length xs
some_of [] e = absurd (let z : true ≡ false = e in cc)
some_of (x ∷ xs) e = omega arith

none_is : (n : ℕ) → true ≡ (n == 0) → (n == 0) ≡ true
none_is n e = sym e

first_of : (rest a b : List ℕ) → 1 ≤ length rest → a ≡ take 1 rest → b ≡ drop 1 rest → rest ≡ get_or a 0 0 ∷ b
first_of rest a b le e f = head_split rest le ∙ ap (λ (x : List ℕ). get_or x 0 0 ∷ drop 1 rest) (sym e) ∙ ap (λ (x : List ℕ). get_or a 0 0 ∷ x) (sym f)

still_short : (begins stands : List Begun → Type 0) (now : Body) (front : List ℕ) → BodyStands begins stands now front → (now.raw.items ≡ [] → ⊥) → Awaits begins stands now front
still_short begins stands now front st ne = record { stands_for = st; short = elim st.held [ inl e ↦ absurd (ne e) | inr s ↦ s ] }

empty_raw : (xs : List ℕ) → xs ≡ [] → (length xs == 0) ≡ false → ⊥
empty_raw [] e f = (let z : true ≡ false = f in cc)
empty_raw (x ∷ xs) e f = cc

pub raw-init : goal.raw-init
raw-init g c = λ was front st le. record { done = []; parts = refl; are = subst (λ (x : List ℕ). BodyStands (g.L.Listener.begins c.args.listener.now was) (g.L.Listener.stands c.args.listener.now was) c.args.self.now x) (sym (append-nil front)) st; same = refl; set = refl }

pub returns-then-is_empty : goal.returns-then-is_empty
returns-then-is_empty g c = λ was front st le.
    let f = c.raw.invariant was front st le in
    let none : c.raw.rest.now ≡ [] = empty_of c.raw.rest.now (sym c.is_empty-in-raw.ensures ∙ c.if-is_empty.true) in
    (subst (λ (x : List ℕ). Awaits (g.L.Listener.begins c.raw.listener was) (g.L.Listener.stands c.raw.listener was) c.raw.self x) (ap (λ (x : List ℕ). front ++ x) (sym (f.parts ∙ ap (λ (x : List ℕ). f.done ++ x) none ∙ append-nil f.done))) (still_short _ _ c.raw.self (front ++ f.done) f.are (λ z. empty_raw c.raw.self.raw.items z (sym c.is_empty.ensures ∙ c.raw-test.true))), f.same, f.set)

pub feed_octet-requires-clause-few : goal.feed_octet-requires-clause-few
feed_octet-requires-clause-few g c = let w = c.requires in (c.raw.invariant w.0 w.1 w.2 w.3).are.few

pub feed_octet-requires-clause-some : goal.feed_octet-requires-clause-some
feed_octet-requires-clause-some g c =
    let w = c.requires in
    let f = c.raw.invariant w.0 w.1 w.2 w.3 in
    let x : ℕ = get_or c.split_at.result.0.now 0 0 in
    let is : c.raw.rest.now ≡ x ∷ c.split_at.result.1.now = first_of c.raw.rest.now c.split_at.result.0.now c.split_at.result.1.now (some_of c.raw.rest.now (sym c.is_empty-in-raw.ensures ∙ c.if-is_empty.false)) c.split_at.ensures.front c.split_at.ensures.back in
    (w.0, w.1 ++ f.done, f.are, chunk_fits w.1 c.args.piece.now f.done (x ∷ []) c.split_at.result.1.now (parts_first c.args.piece.now f.done c.raw.rest.now c.split_at.result.1.now x f.parts is) c.args.self.now.reader.octets c.raw.self.reader.octets w.3 f.same)

pub returns-in_err-whole : goal.returns-in_err-whole
returns-in_err-whole g c = λ was front st le.
    let f = c.raw.invariant was front st le in
    let x : ℕ = get_or c.split_at.result.0.now 0 0 in
    let is : c.raw.rest.now ≡ x ∷ c.split_at.result.1.now = first_of c.raw.rest.now c.split_at.result.0.now c.split_at.result.1.now (some_of c.raw.rest.now (sym c.is_empty-in-raw.ensures ∙ c.if-is_empty.false)) c.split_at.ensures.front c.split_at.ensures.back in
    let ps = parts_first c.args.piece.now f.done c.raw.rest.now c.split_at.result.1.now x f.parts is in
    let fit = chunk_fits front c.args.piece.now f.done (x ∷ []) c.split_at.result.1.now ps c.args.self.now.reader.octets c.raw.self.reader.octets le f.same in
    let p = err_from_is_err_and c.from_residual.result c.from_residual.ensures.1 in
    rw (p.1, p.2) (chunk_tells front c.args.piece.now f.done (x ∷ []) c.split_at.result.1.now ps (g.L.Listener.stands c.feed_octet.new.listener was) (g.L.Listener.faulty c.feed_octet.new.listener was) c.raw.self.reader.set c.args.self.now.reader.set c.raw.self.reader.octets c.args.self.now.reader.octets c.in_err-whole.field-0.0 f.set f.same (c.in_err-whole.ensures was (front ++ f.done) f.are fit))

pub returns-then-whole : goal.returns-then-whole
returns-then-whole g c = λ was front st le.
    let f = c.raw.invariant was front st le in
    let x : ℕ = get_or c.split_at.result.0.now 0 0 in
    let is : c.raw.rest.now ≡ x ∷ c.split_at.result.1.now = first_of c.raw.rest.now c.split_at.result.0.now c.split_at.result.1.now (some_of c.raw.rest.now (sym c.is_empty-in-raw.ensures ∙ c.if-is_empty.false)) c.split_at.ensures.front c.split_at.ensures.back in
    let ps = parts_first c.args.piece.now f.done c.raw.rest.now c.split_at.result.1.now x f.parts is in
    let fit = chunk_fits front c.args.piece.now f.done (x ∷ []) c.split_at.result.1.now ps c.args.self.now.reader.octets c.raw.self.reader.octets le f.same in
    let w = at_ok _ _ (g.L.Listener.faulty c.feed_octet.new.listener was) c.raw.self c.feed_octet.new.self (front ++ f.done) (x ∷ []) c.in_ok-whole.whole true c.if-whole.true (c.in_ok-whole.ensures was (front ++ f.done) f.are fit) in
    (chunk_whole front c.args.piece.now f.done (x ∷ []) c.split_at.result.1.now ps _ c.feed_octet.new.self.reader c.args.self.now.reader.octets le (w.1 ∙ f.same) w.0, w.1 ∙ f.same, w.2 ∙ f.set)

pub raw-preserved : goal.raw-preserved
raw-preserved g c = λ was front st le.
    let f = c.raw.invariant was front st le in
    let x : ℕ = get_or c.split_at.result.0.now 0 0 in
    let is : c.raw.rest.now ≡ x ∷ c.split_at.result.1.now = first_of c.raw.rest.now c.split_at.result.0.now c.split_at.result.1.now (some_of c.raw.rest.now (sym c.is_empty-in-raw.ensures ∙ c.if-is_empty.false)) c.split_at.ensures.front c.split_at.ensures.back in
    let ps = parts_first c.args.piece.now f.done c.raw.rest.now c.split_at.result.1.now x f.parts is in
    let fit = chunk_fits front c.args.piece.now f.done (x ∷ []) c.split_at.result.1.now ps c.args.self.now.reader.octets c.raw.self.reader.octets le f.same in
    let w = at_ok _ _ (g.L.Listener.faulty c.feed_octet.new.listener was) c.raw.self c.feed_octet.new.self (front ++ f.done) (x ∷ []) c.in_ok-whole.whole false c.if-whole.false (c.in_ok-whole.ensures was (front ++ f.done) f.are fit) in
    chunk_fed front c.args.piece.now f.done (x ∷ []) c.split_at.result.1.now ps _ _ c.args.self.now c.feed_octet.new.self w.0.stands_for (w.1 ∙ f.same) (w.2 ∙ f.set)

pub feed_piece-requires-clause-fresh : goal.feed_piece-requires-clause-fresh
feed_piece-requires-clause-fresh g c = empty_of c.raw.self.raw.items (none_is (length c.raw.self.raw.items) c.raw-test.ensures)

pub feed_piece-requires-clause-some : goal.feed_piece-requires-clause-some
feed_piece-requires-clause-some g c =
    let w = c.requires in
    let f = c.raw.invariant w.0 w.1 w.2 w.3 in
    (w.0, w.1 ++ f.done, f.are, chunk_fits w.1 c.args.piece.now f.done c.raw.rest.now [] (parts_last c.args.piece.now f.done c.raw.rest.now f.parts) c.args.self.now.reader.octets c.raw.self.reader.octets w.3 f.same)

pub returns : goal.returns
returns g c = λ was front st le.
    let f = c.raw.invariant was front st le in
    let fit = chunk_fits front c.args.piece.now f.done c.raw.rest.now [] (parts_last c.args.piece.now f.done c.raw.rest.now f.parts) c.args.self.now.reader.octets c.raw.self.reader.octets le f.same in
    fed_all _ _ (g.L.Listener.faulty c.feed_piece.new.listener was) c.args.self.now c.raw.self c.feed_piece.new.self front c.args.piece.now f.done c.raw.rest.now c.feed_piece.result f.parts le f.same f.set (c.feed_piece.ensures was (front ++ f.done) f.are fit)
