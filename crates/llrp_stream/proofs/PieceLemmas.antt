-- A piece that is read after raw octets.
use Rattle.llrp_schema.specs.declared.kinds.KindSet.{KindSet}
use Rattle.std.proofs.Common.{◌≡◌, ℕ, ◌+◌, ◌<◌, ◌≤◌, inr, List, [], ◌∷◌, ◌++◌, length, take, drop, get_or, refl, sym, ap, subst, ◌∙◌, arith, append_assoc, length-append, length-drop}
use Rattle.std.proofs.lemmas.List.{append-nil}
use Rattle.arrayvec.specs.ArrayVec.{ArrayVec}
use Rattle.llrp_tree.specs.OpenTree.{Begun}
use Rattle.llrp_tree.specs.declared.fault.Fault.{Fault}
use Rattle.llrp_tree.specs.declared.fault.FrameErr.{FrameErr}
use Rattle.llrp_stream.specs.declared.engine.body_reader.BodyReader.{BodyReader}
use Rattle.llrp_stream.specs.declared.engine.body.Body.{Body}
use Rattle.llrp_stream.specs.Private.Front.{FailsHanded}
use Rattle.llrp_stream.specs.Calls.Reading.{Are}
use Rattle.llrp_stream.specs.Private.Reading.{IsComplete}
use Rattle.llrp_stream.specs.Calls.Pieces.{BodyStands, Awaits, IsShort}
use Rattle.llrp_stream.specs.Private.Pieces.{ReadOn, FedSoFar}
use Rattle.llrp_stream.proofs.MoreOctets.{are_more, behind_more, behind_on, fails_more, whole_ends}

module _ (begins stands : List Begun → Type 0) (old : Body) (front piece : List ℕ) (st : BodyStands begins stands old front) (le : length (front ++ piece) ≤ old.reader.octets) where
  pub are_then : Are begins stands old.reader (front ++ piece)
  are_then = are_more begins stands old.reader front piece le st.are

  pub behind_then : drop old.reader.at (front ++ piece) ≡ old.raw.items ++ piece
  behind_then = behind_more front piece old.raw.items old.reader.at st.are.reads.before st.raw

pub stands_on : (begins stands : List Begun → Type 0) (old new : BodyReader) (front octets : List ℕ) (used : ℕ) (raw : ArrayVec ℕ) → drop old.at front ≡ octets → ReadOn begins stands old new front octets used → raw.items ≡ drop used octets → length front < old.octets
    → Awaits begins stands (record { reader = new; raw = raw }) front
stands_on begins stands old new front octets used raw d r e lt =
    let short : IsShort begins stands new front r.are = record { more = omega (arith, lt, r.same); undecided = r.undecided } in
    record {
      stands_for = record { are = r.are; raw = behind_on front octets old.at used new.at d r.place ∙ sym e; few = (let l = length-drop used octets in let m = ap (λ (x : List ℕ). length x) e in omega (arith, r.left)); held = inr short };
      short = short;
    }

pub short_of : (begins stands : List Begun → Type 0) (old : Body) (front piece octets : List ℕ) → BodyStands begins stands old front → octets ≡ old.raw.items ++ piece → old.reader.at + length octets < old.reader.octets → length (front ++ piece) < old.reader.octets
short_of begins stands old front piece octets st e lt =
    let a = length-append front piece in
    let b = length-append old.raw.items piece in
    let c = ap (λ (x : List ℕ). length x) e in
    let d = ap (λ (x : List ℕ). length x) st.raw in
    let f = length-drop old.reader.at front in
    omega (arith, a, b, c, d, f, lt, st.are.reads.before)

-- a message that is whole leaves nothing of a piece
pub none_behind : (stands : List Begun → Type 0) (r : BodyReader) (front done rest : List ℕ) → IsComplete stands r (front ++ done) → length (front ++ (done ++ rest)) ≤ r.octets → rest ≡ []
none_behind stands r front done [] w le = refl
none_behind stands r front done (x ∷ rest) w le =
    let e = whole_ends stands r (front ++ done) w in
    let a = length-append front done in
    let b = length-append front (done ++ x ∷ rest) in
    let c = length-append done (x ∷ rest) in
    absurd (omega (arith, e, a, b, c, le))

-- a piece in parts: what is done, a chunk, and others
module _ (front piece done chunk others : List ℕ) (parts : piece ≡ (done ++ chunk) ++ others) where
  pub joined : ((front ++ done) ++ chunk) ++ others ≡ front ++ piece
  joined = ap (λ (x : List ℕ). x ++ others) (append_assoc front done chunk) ∙ append_assoc front (done ++ chunk) others ∙ ap (λ (x : List ℕ). front ++ x) (sym parts)

  pub chunk_fits : (n m : ℕ) → length (front ++ piece) ≤ n → m ≡ n → length ((front ++ done) ++ chunk) ≤ m
  chunk_fits n m le e = let a = ap (λ (x : List ℕ). length x) joined in let b = length-append ((front ++ done) ++ chunk) others in omega arith

  pub chunk_fed : (begins stands : List Begun → Type 0) (old new : Body) → BodyStands begins stands new ((front ++ done) ++ chunk) → new.reader.octets ≡ old.reader.octets → new.reader.set ≡ old.reader.set → FedSoFar begins stands old new front piece others
  chunk_fed begins stands old new st e set = record { done = done ++ chunk; parts = parts; are = subst (λ (x : List ℕ). BodyStands begins stands new x) (append_assoc front done chunk) st; same = e; set = set }

  pub chunk_whole : (stands : List Begun → Type 0) (r : BodyReader) (n : ℕ) → length (front ++ piece) ≤ n → r.octets ≡ n → IsComplete stands r ((front ++ done) ++ chunk) → IsComplete stands r (front ++ piece)
  chunk_whole stands r n le e w =
      let none : others ≡ [] = none_behind stands r (front ++ done) chunk others w (let a = ap (λ (x : List ℕ). length x) joined in let b = ap (λ (x : List ℕ). length x) (append_assoc (front ++ done) chunk others) in omega arith) in
      subst (λ (x : List ℕ). IsComplete stands r x) (sym (append-nil ((front ++ done) ++ chunk)) ∙ ap (λ (x : List ℕ). ((front ++ done) ++ chunk) ++ x) (sym none) ∙ joined) w

  pub chunk_tells : (stands : List Begun → Type 0) (faulty : List Begun → List ℕ → Fault → Type 0) (p q : KindSet) (n m : ℕ) (e : FrameErr) → p ≡ q → n ≡ m → FailsHanded stands faulty p ((front ++ done) ++ chunk) n e → FailsHanded stands faulty q (front ++ piece) m e
  chunk_tells stands faulty p q n m e set same f =
      subst (λ (x : KindSet). FailsHanded stands faulty x (front ++ piece) m e) set (subst (λ (k : ℕ). FailsHanded stands faulty p (front ++ piece) k e) same (subst (λ (x : List ℕ). FailsHanded stands faulty p x n e) joined (fails_more _ stands faulty ((front ++ done) ++ chunk) others n e f)))

pub head_split : (rest : List ℕ) → 1 ≤ length rest → rest ≡ get_or (take 1 rest) 0 0 ∷ drop 1 rest
head_split [] le = absurd (omega arith)
head_split (x ∷ xs) le = refl

pub parts_first : (piece done rest others : List ℕ) (x : ℕ) → piece ≡ done ++ rest → rest ≡ x ∷ others → piece ≡ (done ++ x ∷ []) ++ others
parts_first piece done rest others x e f = e ∙ ap (λ (y : List ℕ). done ++ y) f ∙ sym (append_assoc done (x ∷ []) others)

pub parts_last : (piece done rest : List ℕ) → piece ≡ done ++ rest → piece ≡ (done ++ rest) ++ []
parts_last piece done rest e = e ∙ sym (append-nil (done ++ rest))
