-- A fault that was handed to a listener, and the frame that has it.
use Rattle.std.proofs.Common.{◌≡◌, inl, inr, ℕ, ◌+◌, ◌*◌, ◌<◌, ◌≤◌, List, [], ◌∷◌, ◌++◌, length, take, drop, Option, Some, None, refl, sym, ap, subst, ◌∙◌, arith, append_assoc, length-append}
use Rattle.std.specs.Prelude.{Result, Ok, Err, IfOk}
use Rattle.std.proofs.Math.Seq.{take-add}
use Rattle.std.proofs.lemmas.List.{append-nil, drop-append-le, take-append-drop}
use Rattle.llrp_schema.specs.declared.kinds.KindSet.{KindSet}
use Rattle.llrp_tree.specs.declared.fault.Fault.{Fault}
use Rattle.tag_bits.specs.Digits.{digits_of_bytes}
use Rattle.llrp_tree.specs.Calls.Deciding.{deciding}
use Rattle.llrp_tree.specs.OpenTree.{Begun, covers}
use Rattle.llrp_stream.specs.declared.header.FaultyHeader.{FaultyHeader}
use Rattle.llrp_stream.specs.declared.item.FeedErr.{FeedErr}
use Rattle.llrp_stream.specs.declared.engine.body.Body.{Body}
use Rattle.llrp_stream.specs.declared.engine.frames.Came.{Came}
use Rattle.llrp_stream.specs.declared.engine.frames.Frames.{Frames}
use Rattle.llrp_stream.specs.declared.engine.frames.Outcome.{Outcome}
use Rattle.llrp_stream.specs.declared.engine.frames.Outcome.TheVariants.{Whole, Bad}
use Rattle.llrp_stream.specs.declared.state.State.{State}
use Rattle.llrp_stream.specs.declared.state.State.TheVariants as state
use Rattle.llrp_stream.specs.Cuts.{length_field}
use Rattle.llrp_stream.specs.Calls.Front.{AreDeciding}
use Rattle.llrp_stream.specs.Calls.Received.{FailsAt, IsFaultIn, IsRefusedIn, StandAfter}
use Rattle.llrp_stream.specs.Calls.Frames.{EndsRefused, IsPassed, IsRefused, IsRefusedAt, Refuses}
use Rattle.llrp_stream.specs.Private.Frames.{KeepsFault}
use Rattle.llrp_stream.specs.Private.Headers.{IsFaulty}
use Rattle.llrp_stream.specs.Private.Received.{IsHanded}
use Rattle.llrp_stream.proofs.FrontLemmas.{length_field-append, header_fault-append}

-- ---- more octets of the frame

deciding_more : (bits : ℕ) (front more : List ℕ) (n : ℕ) (t : List Begun) → AreDeciding bits front n t → AreDeciding bits (front ++ more) n t
deciding_more bits front more n t d = λ later long.
    let same = append_assoc front more later in
    subst (λ (x : List ℕ). deciding t (drop (length (covers t)) (digits_of_bytes x)) ≤ bits) (sym same) (d (more ++ later) (sym (ap (λ (x : List ℕ). length x) same) ∙ long))

stand_more : (t : List Begun) (front more : List ℕ) (n : ℕ) (handed : List ℕ) (fault : Fault) → StandAfter t front n handed fault → StandAfter t (front ++ more) n handed fault
stand_more t front more n handed fault s = record {
  place = s.place;
  is = s.is;
  within = omega (arith, s.within, length-append front more);
  later = s.later ++ more;
  are = drop-append-le s.place front more s.within ∙ ap (λ (x : List ℕ). x ++ more) s.are ∙ append_assoc handed s.later more;
  decide = elim s.decide [ inl e ↦ inl e | inr d ↦ inr (deciding_more (8 * (s.place + length handed)) front more n t d) ];
}

fault_more : (p : KindSet) (front more : List ℕ) (n : ℕ) (t : List Begun) (fault : Fault) → IsFaultIn p front n t fault → IsFaultIn p (front ++ more) n t fault
fault_more p front more n t fault f = record {
  tree = f.tree;
  is = f.is;
  root = f.root;
  fails = λ later long.
      let same = append_assoc front more later in
      subst (λ (x : List ℕ). FailsAt (digits_of_bytes x) f.tree fault.bit fault.reason) (sym same) (f.fails (more ++ later) (sym (ap (λ (x : List ℕ). length x) same) ∙ long));
}

module _ (faulty : List Begun → List ℕ → Fault → Type 0) where
  pub handed_more : (p : KindSet) (front more : List ℕ) (n : ℕ) (fault : Fault) → IsHanded faulty p front n fault → IsHanded faulty p (front ++ more) n fault
  handed_more p front more n fault h = (h.0, h.1, h.2, fault_more p front more n h.0 fault h.3, stand_more h.0 front more n h.1 fault h.4)

  pub refused_more : (p : KindSet) (limit : ℕ) (front more : List ℕ) (fault : Fault) → 10 ≤ length front → IsRefused faulty p limit front fault → IsRefused faulty p limit (front ++ more) fault
  refused_more p limit front more fault ten r =
      let same = length_field-append front more (omega (arith, ten)) in (
        r.0,
        r.1,
        r.2,
        record {
          fault_is = elim r.3.fault_is [
            | inl h ↦ inl (h.0, header_fault-append p limit front more ten ∙ h.1, h.2)
            | inr f ↦ inr (subst (λ (n : ℕ). IsFaultIn p (front ++ more) n r.0 fault × (n ≤ limit)) (sym same) (fault_more p front more (length_field front) r.0 fault f.0, f.1))
          ];
          after = subst (λ (n : ℕ). StandAfter r.0 (front ++ more) n r.1 fault) (sym same) (stand_more r.0 front more (length_field front) r.1 fault r.3.after);
        },
      )

  -- ---- where it is handed on

  -- a fault of the header
  pub header_refused : (p : KindSet) (limit : ℕ) (bytes : List ℕ) (n : ℕ) (header : FaultyHeader) → length bytes ≡ 10 → IsFaulty p limit bytes header → IsRefusedIn p limit bytes n [] bytes header.fault
  unfolding covers deciding
  header_refused p limit bytes n header ten f = record {
    fault_is = inl (refl, f.fault_is, ten);
    after = record { place = 0; is = (omega arith, omega arith); within = omega arith; later = []; are = sym (append-nil bytes); decide = inr (λ more long. omega arith) };
  }

  -- a fault after it
  pub body_refused : (limit id : ℕ) (body : Body) (front more : List ℕ) (fault : Fault) → IsPassed limit id body front → IsHanded faulty body.reader.set (front ++ more) body.reader.octets fault → IsRefused faulty body.reader.set limit (front ++ more) fault
  body_refused limit id body front more fault p h =
      let same : body.reader.octets ≡ length_field (front ++ more) = p.octets_are ∙ sym (length_field-append front more (omega (arith, p.long))) in
      (h.0, h.1, h.2, record { fault_is = inr (subst (λ (n : ℕ). IsFaultIn body.reader.set (front ++ more) n h.0 fault × (n ≤ limit)) same (h.3, p.within)); after = subst (λ (n : ℕ). StandAfter h.0 (front ++ more) n h.1 fault) same h.4 })

  -- ---- what a feed takes

  module _ (p : KindSet) (limit : ℕ) where
    refused_at : (old new : State) (front : List ℕ) → old ≡ new → IsRefusedAt faulty p limit old front → IsRefusedAt faulty p limit new front
    refused_at old new front e r = subst (λ (x : State). IsRefusedAt faulty p limit x front) e r

    -- what is skipped
    pub skip_refused : (header : FaultyHeader) (front piece : List ℕ) (new : State) (used : ℕ) (outcome : Option Outcome) → 10 ≤ length front → KeepsFault header new outcome → IsRefused faulty p limit front header.fault → EndsRefused faulty p limit front piece new used outcome
    skip_refused header front piece new used None ten k r = refused_at (state.Skipping k.0 header) new (front ++ piece) (sym k.1) (refused_more p limit front piece header.fault ten r)
    skip_refused header front piece new used (Some Whole) ten k r = absurd k
    skip_refused header front piece new used (Some (Bad id fault)) ten k r = subst (λ (x : Fault). IsRefused faulty p limit (front ++ take used piece) x) (sym k) (refused_more p limit front (take used piece) header.fault ten r)

    -- the first n octets of a piece belong to the front
    pub refused_behind : (front piece mid rest : List ℕ) (new : State) (used n : ℕ) (outcome : Option Outcome) → mid ≡ front ++ take n piece → rest ≡ drop n piece → EndsRefused faulty p limit mid rest new used outcome → EndsRefused faulty p limit front piece new (used + n) outcome
    refused_behind front piece mid rest new used n None em er t =
        let whole : mid ++ rest ≡ front ++ piece =
        ap (λ (x : List ℕ). x ++ rest) em ∙ ap (λ (x : List ℕ). (front ++ take n piece) ++ x) er ∙ append_assoc front (take n piece) (drop n piece) ∙ ap (λ (x : List ℕ). front ++ x) (take-append-drop n piece) in
        subst (λ (x : List ℕ). IsRefusedAt faulty p limit new x) whole t
    refused_behind front piece mid rest new used n (Some Whole) em er t = tt
    refused_behind front piece mid rest new used n (Some (Bad id fault)) em er t =
        let sum : n + used ≡ used + n = omega arith in
        let whole : mid ++ take used rest ≡ front ++ take (used + n) piece =
        ap (λ (x : List ℕ). x ++ take used rest) em ∙ ap (λ (x : List ℕ). (front ++ take n piece) ++ take used x) er ∙ append_assoc front (take n piece) (take used (drop n piece)) ∙ ap (λ (x : List ℕ). front ++ x) (sym (take-add n used piece) ∙ ap (λ (k : ℕ). take k piece) sum) in
        subst (λ (x : List ℕ). IsRefused faulty p limit x fault) whole t

    -- a message has no fault
    pub whole_refuses : (used : ℕ) (front piece : List ℕ) (new : Frames) (result : Result Came FeedErr) → IfOk result (λ came. came ≡ record { used = used; outcome = Some Whole }) → Refuses faulty p limit front piece new result
    whole_refuses used front piece new (Ok came) e = subst (λ (x : Came). EndsRefused faulty p limit front piece new.state x.used x.outcome) (sym e) tt
    whole_refuses used front piece new (Err error) e = tt

    -- of a header that is not whole, nothing is said
    pub start_refused : (mid front : List ℕ) (s : State) → (mid ≡ [] → s ≡ state.Between) → (0 < length mid → s ≡ state.Header) → IsRefusedAt faulty p limit s front
    start_refused [] front s none some = refused_at state.Between s front (sym (none refl)) tt
    start_refused (x ∷ xs) front s none some = refused_at state.Header s front (sym (some (omega arith))) tt
