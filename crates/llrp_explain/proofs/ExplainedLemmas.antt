-- The texts of frames, one after another.
use Rattle.std.proofs.Common.{◌≡◌, ℕ, suc, ◌+◌, ◌<◌, ◌≤◌, List, [], ◌∷◌, ◌++◌, length, take, Bool, true, false, ◌&&◌, refl, sym, ap, subst, ◌∙◌, arith, append_assoc, length-append, inl, inr, Option, Some, Ok, Err}
use Rattle.std.specs.Prelude.{min}
use Rattle.std.specs.List.{AllByRecursion}
use Rattle.std.proofs.lemmas.List.{append-nil, length-take-le}
use Rattle.std.proofs.lemmas.Grind.{flat_map-append}
use Rattle.llrp_schema.specs.declared.kinds.KindSet.{KindSet}
use Rattle.llrp_stream.specs.declared.item.End.{End}
use Rattle.llrp_stream.specs.declared.item.End.TheVariants.{Broken}
use Rattle.llrp_stream.specs.Items.{FrameIn}
use Rattle.llrp_tree.specs.FirstFault.{FirstFaultIn}
use Rattle.llrp_stream.proofs.StreamEnd.{front_of}
use Rattle.llrp_stream.specs.declared.engine.frames.Frames.{Frames}
use Rattle.llrp_stream.specs.declared.engine.frames.Outcome.{Outcome}
use Rattle.llrp_stream.specs.declared.engine.frames.Outcome.TheVariants.{Whole, Bad}
use Rattle.llrp_stream.specs.declared.state.State.{State}
use Rattle.llrp_stream.specs.declared.state.State.TheVariants.{Between}
use Rattle.llrp_stream.specs.Cuts.{IsFrame, Breaks, joined, EndsStream}
use Rattle.llrp_stream.specs.Calls.Frames.{Comes, ComesAt, ComesTo, EndsRefused, GivesIn, IsBroken, IsFrontOf, IsIdle, IsRefusedAt, limit_of, set_of}
use Rattle.llrp_stream.proofs.FrontLemmas.{no_frame_breaks}
use Rattle.llrp_explain.specs.declared.explained.Explainer.{Explainer}
use Rattle.llrp_explain.specs.declared.form.Form.{Form}
use Rattle.llrp_explain.specs.declared.printer.FramePrinter.{FramePrinter}
use Rattle.llrp_explain.specs.Calls.Explained.{AreExplained, ExplainsOnly, IsWritten, end_line, is_clean}
use Rattle.llrp_explain.specs.Calls.Explaining.{ExplainedSoFar, StandsAt}
use Rattle.llrp_explain.specs.Calls.Printing.{Begins, IsRefusal, Stands}
use Rattle.llrp_explain.specs.Private.Printing.{Ends, IsAppended, IsGiven}

-- ---- frames

are_more : (form : Form) (only : Option ℕ) (p : KindSet) (limit n : ℕ) (frames : List (List ℕ)) (frame text one : List ℕ) (all this : Bool) → AreExplained form only p limit n frames text all → IsWritten form only p limit (n + length frames) frame one this
    → AreExplained form only p limit n (frames ++ frame ∷ []) (text ++ one) (all && this)
are_more form only p limit n [] frame text one all this a i = (
  one,
  [],
  this,
  true,
  subst (λ (m : ℕ). IsWritten form only p limit m frame one this) (let z : n + 0 ≡ n = omega arith in z) i,
  (refl, refl),
  ap (λ (t : List ℕ). t ++ one) a.0 ∙ sym (append-nil one),
  ap (λ (b : Bool). b && this) a.1 ∙ same_and this,
) where
  same_and : (b : Bool) → b ≡ (b && true)
  same_and true = refl
  same_and false = refl
are_more form only p limit n (f ∷ frames) frame text one all this a i =
    let rest = are_more form only p limit (n + 1) frames frame a.1 one a.3 this a.5 (subst (λ (m : ℕ). IsWritten form only p limit m frame one this) (let z : n + suc (length frames) ≡ n + 1 + length frames = omega arith in z) i) in (
      a.0,
      a.1 ++ one,
      a.2,
      a.3 && this,
      a.4,
      rest,
      ap (λ (t : List ℕ). t ++ one) a.6 ∙ append_assoc a.0 a.1 one,
      ap (λ (b : Bool). b && this) a.7 ∙ grouped a.2 a.3 this,
    )
  where
    grouped : (x y z : Bool) → ((x && y) && z) ≡ (x && (y && z))
    grouped true y z = refl
    grouped false y z = refl

each_more : (frames : List (List ℕ)) (frame : List ℕ) → AllByRecursion IsFrame frames → IsFrame frame → AllByRecursion IsFrame (frames ++ frame ∷ [])
each_more [] frame e i = (i, tt)
each_more (f ∷ frames) frame e i = (e.0, each_more frames frame e.1 i)

joined_more : (frames : List (List ℕ)) (frame : List ℕ) → joined (frames ++ frame ∷ []) ≡ joined frames ++ frame
joined_more frames frame = flat_map-append (λ (l : List ℕ). l) frames (frame ∷ []) ∙ ap (λ (l : List ℕ). joined frames ++ l) (append-nil frame)

-- each frame has ten octets at least
frames_long : (frames : List (List ℕ)) → AllByRecursion IsFrame frames → length frames ≤ length (joined frames)
frames_long [] e = omega arith
frames_long (f ∷ frames) e =
    let rest = frames_long frames e.1 in
    let ten = e.0.header in
    let long = length-append f (joined frames) in
    omega arith

-- ---- a stream that comes in pieces

idle_comes : (printer : FramePrinter) (frames : Frames) → IsIdle frames → ComesTo (Begins printer) (Stands printer) frames []
idle_comes printer frames i = subst (λ (s : State). ComesAt (Begins printer) (Stands printer) frames.limit s frames.body []) (sym i.0) (refl, i.1, tt)

idle_refused : (printer : FramePrinter) (p : KindSet) (limit : ℕ) (s : State) → s ≡ Between → IsRefusedAt (IsRefusal printer) p limit s []
idle_refused printer p limit s is = subst (λ (x : State). IsRefusedAt (IsRefusal printer) p limit x []) (sym is) tt

nothing_stands : (e : Explainer) → IsIdle e.frames → e.octets ≡ 0 → e.head.items ≡ [] → StandsAt e []
nothing_stands e idle o h = inl (idle_comes e.printer e.frames idle, idle_refused e.printer e.set e.limit e.frames.state idle.0, o, h)

pub nothing_explained : (e : Explainer) → e.count ≡ 0 → e.octets ≡ 0 → e.head.items ≡ [] → e.lawful ≡ true → e.text.items ≡ [] → IsIdle e.frames → set_of e.frames ≡ e.set → limit_of e.frames ≡ e.limit → ExplainedSoFar e [] []
nothing_explained e c o h l t idle p m = record {
  parts = [];
  front = [];
  whole = refl;
  each = tt;
  are = (t, l);
  count_is = c;
  stands = nothing_stands e idle o h;
  set_is = p;
  limit_is = m;
}

-- what a feed gives of a frame
pub given : (printer : FramePrinter) (p q : KindSet) (limit : ℕ) (front piece : List ℕ) (state : State) (used : ℕ) (outcome : Outcome) → q ≡ p → GivesIn q (Stands printer) (λ m now. Ends printer m) (λ now. Stands printer []) limit (front ++ take used piece) outcome
    → EndsRefused (IsRefusal printer) p limit front piece state used (Some outcome) → IsGiven printer p limit (front ++ take used piece) outcome
given printer p q limit front piece state used Whole e g r = (g.0, subst (λ (x : KindSet). FrameIn x g.0 (front ++ take used piece) limit) e g.1, g.3)
given printer p q limit front piece state used (Bad id fault) e g r = (subst (λ (x : KindSet). FirstFaultIn x (front ++ take used piece) limit fault.bit fault.reason) e g.1, r)

-- octets of a frame that is not whole came, or of what no frame begins with
pub more_came : (e new : Explainer) (stream taken piece : List ℕ) (s : ExplainedSoFar e stream taken) → new.form ≡ e.form → new.only ≡ e.only → new.set ≡ e.set → new.limit ≡ e.limit → new.count ≡ e.count → new.lawful ≡ e.lawful → new.text ≡ e.text → StandsAt new (s.front ++ piece) → set_of new.frames ≡ new.set → limit_of new.frames ≡ new.limit → ExplainedSoFar new (stream ++ piece) taken
more_came e new stream taken piece s em eo ep el ec ew et st ps ls =
    record {
      parts = s.parts;
      front = s.front ++ piece;
      whole = ap (λ (x : List ℕ). x ++ piece) s.whole ∙ append_assoc (joined s.parts) s.front piece;
      each = s.each;
      are = rw (em, eo, ep, el, ew, et) s.are;
      count_is = ec ∙ s.count_is;
      stands = st;
      set_is = ps;
      limit_is = ls;
    }

-- no more of it is 2^64 octets long
pub room_of : (e : Explainer) (stream taken piece : List ℕ) (used : ℕ) (s : ExplainedSoFar e stream taken) → e.octets ≡ min (length s.front) 18446744073709551615 → length (stream ++ piece) < 18446744073709551616 → used ≤ length piece → 10 ≤ length (s.front ++ take used piece) → (e.count + 1 < 18446744073709551616) × (min (e.octets + used) 18446744073709551615 ≡ length (s.front ++ take used piece))
room_of e stream taken piece used s old room le ten =
    let count = s.count_is in
    let few = frames_long s.parts s.each in
    let whole = ap (λ (x : List ℕ). length x) s.whole in
    let all = length-append stream piece in
    let both = length-append (joined s.parts) s.front in
    let one = length-append s.front (take used piece) in
    let near = length-take-le used piece le in
    (omega (arith, count, few, whole, all, both, one, near, le, ten, room), omega (arith, old, one, near, all, both, whole, le, room))

-- a frame came to its end
pub frame_came : (e new : Explainer) (stream taken piece : List ℕ) (used : ℕ) (s : ExplainedSoFar e stream taken) → new.form ≡ e.form → new.only ≡ e.only → new.set ≡ e.set → new.limit ≡ e.limit → new.count ≡ e.count + 1 → new.octets ≡ 0 → new.head.items ≡ [] → IsFrame (s.front ++ take used piece)
    → IsAppended e.form e.only e.set e.limit (e.count + 1) (s.front ++ take used piece) e.text.items new.text.items e.lawful new.lawful → IsIdle new.frames → set_of new.frames ≡ new.set → limit_of new.frames ≡ new.limit → ExplainedSoFar new (stream ++ take used piece) taken
frame_came e new stream taken piece used s em en ep el ec eo eh is a idle ps ls =
    let frame : List ℕ = s.front ++ take used piece in
    let number : e.count + 1 ≡ 1 + length s.parts = (let c = s.count_is in omega (arith, c)) in
    let one = subst (λ (n : ℕ). IsWritten e.form e.only e.set e.limit n frame a.0 a.1) number a.3 in
    let all = are_more e.form e.only e.set e.limit 1 s.parts frame (taken ++ e.text.items) a.0 e.lawful a.1 s.are one in
    let text : (taken ++ e.text.items) ++ a.0 ≡ taken ++ new.text.items = append_assoc taken e.text.items a.0 ∙ ap (λ (x : List ℕ). taken ++ x) (sym a.2) in
    let none = nothing_stands new idle eo eh in
    record {
      parts = s.parts ++ frame ∷ [];
      front = [];
      whole = ap (λ (x : List ℕ). x ++ take used piece) s.whole ∙ append_assoc (joined s.parts) s.front (take used piece) ∙ sym (joined_more s.parts frame) ∙ sym (append-nil (joined (s.parts ++ frame ∷ [])));
      each = each_more s.parts frame s.each is;
      are = rw (em, en, ep, el, a.4, sym text) all;
      count_is = (let l = length-append s.parts (frame ∷ []) in let c = s.count_is in ec ∙ omega (arith, l, c));
      stands = none;
      set_is = ps;
      limit_is = ls;
    }

-- text was taken
pub text_taken : (e new : Explainer) (stream taken : List ℕ) → new.form ≡ e.form → new.only ≡ e.only → new.set ≡ e.set → new.limit ≡ e.limit → new.count ≡ e.count → new.octets ≡ e.octets → new.head ≡ e.head → new.lawful ≡ e.lawful → new.frames ≡ e.frames → new.printer ≡ e.printer → new.text.items ≡ [] → ExplainedSoFar e stream taken → ExplainedSoFar new stream (taken ++ e.text.items)
text_taken e new stream taken em en ep el ec eo eh ew ef er et s = record {
  parts = s.parts;
  front = s.front;
  whole = s.whole;
  each = s.each;
  are = rw (em, en, ep, el, ew, et, append-nil (taken ++ e.text.items)) s.are;
  count_is = ec ∙ s.count_is;
  stands = rw (ep, el, ef, er, eo, eh) s.stands;
  set_is = ap set_of ef ∙ s.set_is ∙ sym ep;
  limit_is = ap limit_of ef ∙ s.limit_is ∙ sym el;
}

-- ---- the end of a stream

ends_at : (e : Explainer) (front : List ℕ) (end : End) → StandsAt e front → ((f : List ℕ) → IsFrontOf e.frames f → EndsStream f end) → (IsBroken e.frames → end ≡ Broken) → EndsStream front end
ends_at e front end (inl c) f b = f front (front_of (Begins e.printer) (Stands e.printer) e.frames front c.0)
ends_at e front end (inr c) f b = subst (λ (x : End). EndsStream front x) (sym (b c.0)) c.1

pub explained_whole : (e : Explainer) (stream taken text : List ℕ) (end : End) (lawful : Bool) → ExplainedSoFar e stream taken → ((f : List ℕ) → IsFrontOf e.frames f → EndsStream f end) → (IsBroken e.frames → end ≡ Broken) → text ≡ e.text.items ++ end_line e.form end → lawful ≡ (e.lawful && is_clean end)
    → ExplainsOnly e.form e.only e.set e.limit stream (taken ++ text) lawful
explained_whole e stream taken text end lawful s f b t l = record {
  frames = s.parts;
  end = end;
  cut = record { tail = s.front; whole = s.whole; each = s.each; ends = ends_at e s.front end s.stands f b };
  front = taken ++ e.text.items;
  all = e.lawful;
  are = s.are;
  text_is = ap (λ (x : List ℕ). taken ++ x) t ∙ sym (append_assoc taken e.text.items (end_line e.form end));
  lawful_is = l;
}

-- a piece with which no frame begins, and what follows it
pub broken_after : (e new : Explainer) (stream taken piece more : List ℕ) (s : ExplainedSoFar e stream taken) → IsBroken new.frames
    → ((front : List ℕ) → ComesTo (Begins e.printer) (Stands e.printer) e.frames front → Breaks (front ++ piece)) → StandsAt new (s.front ++ (piece ++ more))
broken_after e new stream taken piece more s b f = inr (b, subst Breaks (append_assoc s.front piece more) (no_frame_breaks (s.front ++ piece) more (breaks s.front s.stands)))
  where
    breaks : (front : List ℕ) → StandsAt e front → Breaks (front ++ piece)
    breaks front (inl c) = f front c.0
    breaks front (inr c) = no_frame_breaks front piece c.1

-- where a frame may come, it came to a front
pub comes_of : (e : Explainer) (stream taken : List ℕ) (s : ExplainedSoFar e stream taken) → Comes (λ was. Begins e.printer) (λ was. Stands e.printer) e.frames
comes_of e stream taken s = elim s.stands [ inl c ↦ inl ([], s.front, c.0) | inr c ↦ inr (inl c.0) ]

-- a piece that was taken was of a frame
pub of_frame : {T E : Type 0} (e : Explainer) (stream taken : List ℕ) (s : ExplainedSoFar e stream taken) (x : T) (y : E) → (IsBroken e.frames → Ok x ≡ Err y)
    → ComesTo (Begins e.printer) (Stands e.printer) e.frames s.front × IsRefusedAt (IsRefusal e.printer) (set_of e.frames) (limit_of e.frames) e.frames.state s.front × (e.octets ≡ min (length s.front) 18446744073709551615) × (e.head.items ≡ take 10 s.front)
of_frame e stream taken s x y broken =
    elim s.stands [
      | inl c ↦ (c.0, subst (λ (p : KindSet). IsRefusedAt (IsRefusal e.printer) p (limit_of e.frames) e.frames.state s.front) (sym s.set_is) (subst (λ (n : ℕ). IsRefusedAt (IsRefusal e.printer) e.set n e.frames.state s.front) (sym s.limit_is) c.1), c.2, c.3)
      | inr c ↦ absurd (let z = broken c.0 in cc)
    ]

pub more_octets : (front piece : List ℕ) (octets used sum : ℕ) → octets ≡ min (length front) 18446744073709551615 → used ≡ length piece → sum ≡ min (octets + used) 18446744073709551615 → sum ≡ min (length (front ++ piece)) 18446744073709551615
more_octets front piece octets used sum o u s = (let long = length-append front piece in omega (arith, o, u, s, long))

-- what is said of a frame by the frames' own set and limit
pub by_own : (printer : FramePrinter) (p q : KindSet) (n m : ℕ) (state : State) (front piece : List ℕ) (used : ℕ) (outcome : Option Outcome) → p ≡ q → n ≡ m → EndsRefused (IsRefusal printer) p n front piece state used outcome → EndsRefused (IsRefusal printer) q m front piece state used outcome
by_own printer p q n m state front piece used outcome ep en r = subst (λ (x : KindSet). EndsRefused (IsRefusal printer) x m front piece state used outcome) ep (subst (λ (k : ℕ). EndsRefused (IsRefusal printer) p k front piece state used outcome) en r)
