-- What doings one after another make of a reader, and what a piece makes of one in real time.
use Rattle.std.proofs.Common.{◌≡◌, ℕ, ◌+◌, min, if◌then◌else◌, Bool, true, false, List, [], ◌∷◌, ◌++◌, length, take, drop, Option, Some, None, Result, Ok, Err, refl, sym, ap, subst, ◌∙◌, append_assoc, arith}
use Rattle.std.proofs.lemmas.List.{append-nil, take-append-drop}
use Rattle.llrp_schema.specs.declared.kinds.KindSet.{KindSet}
use Rattle.llrp_schema.specs.declared.kinds.KindSet.TheVariants.{Standard}
use Rattle.llrp_tree.specs.Tree.{MessageTree}
use Rattle.llrp_stream.specs.Calls.Decoding.{StandsIn}
use Rattle.llrp_stream.specs.Decoding.{DecoderState}
use Rattle.llrp_stream.specs.Feeding.{FeedsIn, TakesIn}
use Rattle.llrp_stream.specs.Items.{ItemsSoFarIn}
use Rattle.llrp_stream.specs.declared.item.Fed.{Fed}
use Rattle.llrp_stream.specs.declared.item.FeedErr.{FeedErr}
use Rattle.llrp_stream.specs.declared.item.FeedErr.TheVariants as decoder
use Rattle.llrp_stream.specs.declared.item.Item.{Item}
use Rattle.llrp_stream.proofs.RunLemmas.{items_grow}
use Rattle.llrp_session.specs.Calls.ReaderSteps.{Turns, IsFault}
use Rattle.llrp_session.specs.ReaderMachine.{Reader, ReaderEvent, Turn, next}
use Rattle.llrp_session.specs.Refusal.{Refusal}
use Rattle.llrp_session.specs.declared.reader.events.StepFault.{StepFault}
use Rattle.llrp_session.specs.declared.reader.events.StepFault.TheVariants as faults
use Rattle.llrp_listing.specs.Calls.Fault.{error_by}
use Rattle.llrp_listing.specs.declared.outcome.ToolErr.{ToolErr}
use Rattle.llrp_listing.specs.declared.outcome.ToolErr.TheVariants.{Broken, Memory}
use Rattle.llrp_endpoints.specs.Serving.{said, turn_or_none}
use Rattle.llrp_live.specs.declared.reader.LiveReader.{LiveReader}
use Rattle.llrp_live.specs.Calls.Doings.{Dated, agreed, doing, closes, comes_in, next_version, once, course, taken_at}
use Rattle.llrp_answers.specs.declared.answers.Answers.{Answers}
use Rattle.llrp_answers.specs.declared.answers.Pair.{Pair}
use Rattle.llrp_versions.specs.declared.version.Version.{Version}
use Rattle.llrp_versions.specs.declared.version.Version.TheVariants.{First}
use Rattle.llrp_live.specs.Calls.Living.{Begun, Lives, came, taken_after, taken_of, NoneCloses, Fails, Goes, GoesOn, HasClosed, RanOut}
use Rattle.llrp_live.specs.Private.Living.{DoesEvent, DoesItem, count_more, phase_after}

-- ---- a step of the reader

by_turn : (old new : Reader) (t : Result Turn Refusal) (out0 out1 : List MessageTree) → Turns t out0 out1 new → (new ≡ (turn_or_none old t).reader) × (out1 ≡ out0 ++ said (turn_or_none old t))
by_turn old new (Ok turn) out0 out1 h = (h.reader, h.sent)
by_turn old new (Err refusal) out0 out1 h = absurd h

pub turned : (now : ℕ) (event : ReaderEvent) (old new : Reader) (out0 out1 : List MessageTree) → Turns (next now event old) out0 out1 new → DoesEvent now event old new out0 out1
turned now event old new out0 out1 h = let t = by_turn old new (next now event old) out0 out1 h in record { reader = t.0; said = t.1 }

by_refusal : (old : Reader) (t : Result Turn Refusal) (fault : StepFault) → IsFault t fault → (fault ≡ faults.Memory → ⊥) → (old ≡ (turn_or_none old t).reader) × (said (turn_or_none old t) ≡ [])
by_refusal old (Err refusal) fault h other = (refl, refl)
by_refusal old (Ok turn) faults.Memory h other = absurd (other refl)
by_refusal old (Ok turn) faults.Closed h other = absurd h
by_refusal old (Ok turn) faults.NotConnected h other = absurd h
by_refusal old (Ok turn) faults.AlreadyUp h other = absurd h

pub refused : (now : ℕ) (event : ReaderEvent) (old new : Reader) (fault : StepFault) (out0 out1 : List MessageTree) → IsFault (next now event old) fault → (fault ≡ faults.Memory → ⊥) → new ≡ old → out1 ≡ out0 → DoesEvent now event old new out0 out1
refused now event old new fault out0 out1 h other same still =
    let t = by_refusal old (next now event old) fault h other in
    record { reader = same ∙ t.0; said = still ∙ sym (append-nil out0) ∙ ap (λ (x : List MessageTree). out0 ++ x) (sym t.1) }

-- ---- doings one after another

pub reader-append : (r : Reader) (a b : List Dated) → (course r (a ++ b)).reader ≡ (course (course r a).reader b).reader
reader-append r [] b = refl
reader-append r (d ∷ a) b = reader-append (once r d d.doing).reader a b

pub said-append : (r : Reader) (a b : List Dated) → (course r (a ++ b)).said ≡ (course r a).said ++ (course (course r a).reader b).said
said-append r [] b = refl
said-append r (d ∷ a) b =
    let first = once r d d.doing in
    ap (λ (x : List MessageTree). first.said ++ x) (said-append first.reader a b) ∙ sym (append_assoc first.said (course first.reader a).said (course (course first.reader a).reader b).said)

pub one_more : (r : Reader) (ds : List Dated) (d : Dated) (core new : Reader) → core ≡ (course r ds).reader → new ≡ (once core d d.doing).reader → new ≡ (course r (ds ++ d ∷ [])).reader
one_more r ds d core new c n = n ∙ ap (λ (x : Reader). (once x d d.doing).reader) c ∙ sym (reader-append r ds (d ∷ []))

pub said_more : (r : Reader) (ds : List Dated) (d : Dated) (core : Reader) (base out0 out1 : List MessageTree) → core ≡ (course r ds).reader → out0 ≡ base ++ (course r ds).said → out1 ≡ out0 ++ (once core d d.doing).said → out1 ≡ base ++ (course r (ds ++ d ∷ [])).said
said_more r ds d core base out0 out1 c b o =
    let first = (course r ds).said in
    let later = (once (course r ds).reader d d.doing).said in
    o ∙ ap (λ (x : List MessageTree). x ++ (once core d d.doing).said) b ∙ ap (λ (x : Reader). (base ++ first) ++ (once x d d.doing).said) c ∙ append_assoc base first later
    ∙ ap (λ (x : List MessageTree). base ++ (first ++ x)) (sym (append-nil later)) ∙ ap (λ (x : List MessageTree). base ++ x) (sym (said-append r ds (d ∷ [])))

pub happened : (d : Dated) (b : Begun) (before : List Dated) (bytes : List ℕ) (items : List Item) (old new : LiveReader) → Lives b before bytes items old → new.core ≡ (once old.core d d.doing).reader → new.decoder ≡ old.decoder → new.phase ≡ old.phase
    → new.taken ≡ old.taken → new.answers ≡ old.answers → new.version ≡ old.version → Lives b (before ++ d ∷ []) bytes items new
happened d b before bytes items old new h core same phase taken answers version = record {
  rest = h.rest;
  are = h.are;
  reader_is = one_more b.reader before d old.core new.core h.reader_is core;
  decoder = rw same h.decoder;
  limit = rw same h.limit;
  phase = phase ∙ h.phase;
  taken = taken ∙ h.taken;
  answers = ap (λ (a : Answers). a.pairs.items) answers ∙ h.answers;
  version = version ∙ h.version;
}

pub said_one : (d : Dated) (r : Reader) (out0 out1 : List MessageTree) → out1 ≡ out0 ++ (once r d d.doing).said → out1 ≡ out0 ++ (course r (d ∷ [])).said
said_one d r out0 out1 h = h ∙ ap (λ (x : List MessageTree). out0 ++ x) (sym (append-nil (once r d d.doing).said))

-- ---- versions, and how many items came

pub agreed-append : (v : Version) (a b : List Item) → agreed v (a ++ b) ≡ agreed (agreed v a) b
agreed-append v [] b = refl
agreed-append v (item ∷ a) b = agreed-append (next_version v item) a b

pub at-append : (now : ℕ) (ps : List Pair) (v : Version) (a b : List Item) → taken_at now ps v (a ++ b) ≡ taken_at now ps v a ++ taken_at now ps (agreed v a) b
at-append now ps v [] b = refl
at-append now ps v (item ∷ a) b = ap (λ (ds : List Dated). record { now = now; doing = doing ps v item } ∷ ds) (at-append now ps (next_version v item) a b)

came_push : (ps : List Pair) (v : Version) (items : List Item) (item : Item) → came ps v (items ++ item ∷ []) ≡ came ps v items + (if comes_in (doing ps (agreed v items) item) then 1 else 0)
came_push ps v [] item = omega arith
came_push ps v (i ∷ items) item = rw (came_push ps (next_version v i) items item) (omega arith)

bounded : (n k : ℕ) → min (min n 18446744073709551615 + k) 18446744073709551615 ≡ min (n + k) 18446744073709551615
bounded n k = omega arith

pub one_taken : (ps : List Pair) (items : List Item) (item : Item) → count_more (taken_of ps items) (comes_in (doing ps (agreed First items) item)) ≡ taken_of ps (items ++ item ∷ [])
one_taken ps items item = bounded (came ps First items) (if comes_in (doing ps (agreed First items) item) then 1 else 0) ∙ ap (λ (n : ℕ). min n 18446744073709551615) (sym (came_push ps First items item))

-- ---- the phase after a piece

pub phased : (now : ℕ) (piece : List ℕ) (b : Begun) (before : List Dated) (bytes : List ℕ) (items : List Item) (old mid new : LiveReader) (out0 out1 : List MessageTree) (answer : Result Bool ToolErr) → Goes now piece b before bytes items old mid out0 out1 answer
    → new.core ≡ mid.core → new.decoder ≡ mid.decoder → new.phase ≡ phase_after answer → new.taken ≡ mid.taken → new.answers ≡ mid.answers → new.version ≡ mid.version → Goes now piece b before bytes items old new out0 out1 answer
phased now piece b before bytes items old mid new out0 out1 (Ok false) g core same phase taken answers version =
    record { more = g.more; none = g.none; said = g.said; lives = record { rest = g.lives.rest; are = g.lives.are; reader_is = core ∙ g.lives.reader_is; decoder = rw same g.lives.decoder; limit = rw same g.lives.limit; phase = phase; taken = taken ∙ g.lives.taken; answers = ap (λ (a : Answers). a.pairs.items) answers ∙ g.lives.answers; version = version ∙ g.lives.version } }
phased now piece b before bytes items old mid new out0 out1 (Ok true) g core same phase taken answers version =
    record { front = g.front; later = g.later; more = g.more; last = g.last; parts = g.parts; none = g.none; closing = g.closing; are = g.are; said = g.said; reader_is = core ∙ g.reader_is }
phased now piece b before bytes items old mid new out0 out1 (Err error) g core same phase taken answers version = failed_with error g
  where
    failed_with : (error : ToolErr) → Fails now piece b before bytes items old mid out0 out1 error → Fails now piece b before bytes items old new out0 out1 error
    failed_with Broken g = record { more = g.more; rest = g.rest; none = g.none; are = g.are; breaks = g.breaks; said = g.said; reader_is = core ∙ g.reader_is }
    failed_with Memory g = record { front = g.front; later = g.later; more = g.more; rest = g.rest; parts = g.parts; are = g.are; said = g.said; reader_is = core ∙ g.reader_is }
    failed_with _ g = absurd g

-- ---- a piece in a loop

none_push : (items : List Item) (item : Item) → NoneCloses items → closes item ≡ false → NoneCloses (items ++ item ∷ [])
none_push [] item h c = (c, tt)
none_push (i ∷ items) item h c = (h.0, none_push items item h.1 c)

-- What was taken of the piece, and what was said to it.
pub record SoFar (now : ℕ) (piece rest : List ℕ) (b : Begun) (before : List Dated) (bytes : List ℕ) (items : List Item) (old s : LiveReader) (out0 out1 : List MessageTree) : Type 0 where
  pub done : List ℕ
  pub parts : piece ≡ done ++ rest
  pub more : List Item
  pub none : NoneCloses more
  pub core_is : s.core ≡ (course old.core (taken_after now b items more)).reader
  pub said : out1 ≡ out0 ++ (course old.core (taken_after now b items more)).said
  pub lives : Lives b (before ++ taken_after now b items more) (bytes ++ done) (items ++ more) s

pub so_far_none : (now : ℕ) (piece : List ℕ) (b : Begun) (before : List Dated) (bytes : List ℕ) (items : List Item) (s : LiveReader) (out : List MessageTree) → Lives b before bytes items s → SoFar now piece piece b before bytes items s s out out
so_far_none now piece b before bytes items s out h = record {
  done = [];
  parts = refl;
  more = [];
  none = tt;
  core_is = refl;
  said = sym (append-nil out);
  lives = rw (append-nil before, append-nil bytes, append-nil items) h;
}

module _ (now : ℕ) (piece rest : List ℕ) (b : Begun) (before : List Dated) (bytes : List ℕ) (items : List Item) (old s : LiveReader) (out0 out1 : List MessageTree) (f : SoFar now piece rest b before bytes items old s out0 out1) where
  -- the octets of all that was taken
  whole : (bytes ++ f.done) ++ rest ≡ bytes ++ piece
  whole = append_assoc bytes f.done rest ∙ ap (λ (x : List ℕ). bytes ++ x) (sym f.parts)

  -- the decoder's front with what is left of the piece
  grown : ItemsSoFarIn Standard b.reader.limit (bytes ++ piece) (items ++ f.more) (f.lives.rest ++ rest)
  grown = subst (λ (x : List ℕ). ItemsSoFarIn Standard b.reader.limit x (items ++ f.more) (f.lives.rest ++ rest)) whole ((items_grow b.reader.limit).by_bytes (bytes ++ f.done) (items ++ f.more) f.lives.rest rest f.lives.are)

  -- ---- the decoder fails

  by_error : (new : LiveReader) (d : DecoderState) (error : FeedErr) → new.core ≡ s.core → FeedsIn Standard s.decoder f.lives.rest rest d (Err error) → Fails now piece b before bytes items old new out0 out1 (error_by error)
  by_error new d decoder.Broken core h = record { more = f.more; rest = f.lives.rest ++ rest; none = f.none; are = grown; breaks = h.0; said = f.said; reader_is = core ∙ f.lives.reader_is }
  by_error new d decoder.Memory core h = record { front = piece; later = []; more = f.more; rest = f.lives.rest ++ rest; parts = sym (append-nil piece); are = grown; said = f.said; reader_is = core ∙ f.lives.reader_is }
  by_error new d decoder.Dead core h = absurd h

  pub failed : (new : LiveReader) (d : DecoderState) (error : FeedErr) (answer : ToolErr) → new.core ≡ s.core → ((p : KindSet) (front : List ℕ) → StandsIn p s.decoder front → FeedsIn p s.decoder front rest d (Err error)) → answer ≡ error_by error
      → Fails now piece b before bytes items old new out0 out1 answer
  failed new d error answer core feeds is = rw is (by_error new d error core (feeds Standard f.lives.rest f.lives.decoder))

  -- ---- no frame ends

  pub went_on : (fed : Fed) (new : LiveReader) → ((p : KindSet) (front : List ℕ) → StandsIn p s.decoder front → TakesIn p s.decoder.limit front rest new.decoder fed.used fed.item) → fed.item ≡ None
      → new.decoder.limit ≡ s.decoder.limit → new.core ≡ s.core → new.phase ≡ s.phase → new.taken ≡ s.taken → new.answers ≡ s.answers → new.version ≡ s.version → GoesOn now piece b before bytes items old new out0 out1
  went_on fed new feeds is limit core phase taken answers version =
      let t = subst (λ (o : Option Item). TakesIn Standard s.decoder.limit f.lives.rest rest new.decoder fed.used o) is (feeds Standard f.lives.rest f.lives.decoder) in
      record {
        more = f.more;
        none = f.none;
        said = f.said;
        lives = record { rest = f.lives.rest ++ rest; are = grown; reader_is = core ∙ f.lives.reader_is; decoder = t.1; limit = limit ∙ f.lives.limit; phase = phase ∙ f.lives.phase; taken = taken ∙ f.lives.taken; answers = ap (λ (a : Answers). a.pairs.items) answers ∙ f.lives.answers; version = version ∙ f.lives.version };
      }

  -- ---- a frame ends

  module _ (fed : Fed) (item : Item) (d : DecoderState) (feeds : (p : KindSet) (front : List ℕ) → StandsIn p s.decoder front → TakesIn p s.decoder.limit front rest d fed.used fed.item) (is : fed.item ≡ Some item) where
    takes : TakesIn Standard b.reader.limit f.lives.rest rest d fed.used (Some item)
    takes = subst (λ (n : ℕ). TakesIn Standard n f.lives.rest rest d fed.used (Some item)) f.lives.limit (subst (λ (o : Option Item). TakesIn Standard s.decoder.limit f.lives.rest rest d fed.used o) is (feeds Standard f.lives.rest f.lives.decoder))

    abbrev front : List ℕ
    front = f.done ++ take fed.used rest

    parts : piece ≡ front ++ drop fed.used rest
    parts = f.parts ∙ ap (λ (x : List ℕ). f.done ++ x) (sym (take-append-drop fed.used rest)) ∙ sym (append_assoc f.done (take fed.used rest) (drop fed.used rest))

    are : ItemsSoFarIn Standard b.reader.limit (bytes ++ front) (items ++ (f.more ++ item ∷ [])) []
    are =
        let so = (items_grow b.reader.limit).by_bytes (bytes ++ f.done) (items ++ f.more) f.lives.rest (take fed.used rest) f.lives.are in
        let one = (items_grow b.reader.limit).by_a_frame ((bytes ++ f.done) ++ take fed.used rest) (items ++ f.more) (f.lives.rest ++ take fed.used rest) item so takes.1 takes.2 in
        subst (λ (x : List Item). ItemsSoFarIn Standard b.reader.limit (bytes ++ front) x []) (append_assoc items f.more (item ∷ []))
        (subst (λ (x : List ℕ). ItemsSoFarIn Standard b.reader.limit x ((items ++ f.more) ++ item ∷ []) []) (append_assoc bytes f.done (take fed.used rest)) one)

    -- the version in use before the item
    abbrev pub in_use : Version
    in_use = agreed (agreed First items) f.more

    in_use_is : agreed First (items ++ f.more) ≡ in_use
    in_use_is = agreed-append First items f.more

    one_at : taken_after now b items (f.more ++ item ∷ []) ≡ taken_after now b items f.more ++ (record { now = now; doing = doing b.answers in_use item } ∷ [])
    one_at = at-append now b.answers (agreed First items) f.more (item ∷ [])

    pub out_of_memory : (new : LiveReader) (out2 : List MessageTree) → new.core ≡ s.core → out2 ≡ out1 → RanOut now piece b before bytes items old new out0 out2
    out_of_memory new out2 core same = record { front = piece; later = []; more = f.more; rest = f.lives.rest ++ rest; parts = sym (append-nil piece); are = grown; said = same ∙ f.said; reader_is = core ∙ f.lives.reader_is }

    module _ (new : LiveReader) (out2 : List MessageTree) (does_there : DoesItem now s.answers.pairs.items s.version item s.core new.core out1 out2) where
      same_version : s.version ≡ in_use
      same_version = f.lives.version ∙ in_use_is

      does : DoesItem now b.answers in_use item s.core new.core out1 out2
      does = subst (λ (v : Version). DoesItem now b.answers v item s.core new.core out1 out2) same_version (subst (λ (ps : List Pair). DoesItem now ps s.version item s.core new.core out1 out2) f.lives.answers does_there)

      abbrev at : Dated
      at = record { now = now; doing = doing b.answers in_use item }

      all_said : out2 ≡ out0 ++ (course old.core (taken_after now b items (f.more ++ item ∷ []))).said
      all_said = said_more old.core (taken_after now b items f.more) at s.core out0 out1 out2 f.core_is f.said does.said ∙ ap (λ (ds : List Dated). out0 ++ (course old.core ds).said) (sym one_at)

      reader_then : new.core ≡ (course b.reader (before ++ taken_after now b items (f.more ++ item ∷ []))).reader
      reader_then = one_more b.reader (before ++ taken_after now b items f.more) at s.core new.core f.lives.reader_is does.reader
          ∙ ap (λ (ds : List Dated). (course b.reader ds).reader) (append_assoc before (taken_after now b items f.more) (at ∷ []) ∙ ap (λ (ds : List Dated). before ++ ds) (sym one_at))

      pub closed : closes item ≡ true → HasClosed now piece b before bytes items old new out0 out2
      closed c = record { front = front; later = drop fed.used rest; more = f.more; last = item; parts = parts; none = f.none; closing = c; are = are; said = all_said; reader_is = reader_then }

      pub so_far_more : (rest2 : List ℕ) → closes item ≡ false → new.decoder ≡ d → d.limit ≡ s.decoder.limit → new.phase ≡ s.phase → rest2 ≡ drop fed.used rest
          → new.taken ≡ count_more s.taken (comes_in (doing s.answers.pairs.items s.version item)) → new.answers ≡ s.answers → new.version ≡ next_version s.version item → SoFar now piece rest2 b before bytes items old new out0 out2
      so_far_more rest2 c same limit phase back taken answers version = record {
        done = front;
        parts = parts ∙ ap (λ (x : List ℕ). front ++ x) (sym back);
        more = f.more ++ item ∷ [];
        none = none_push f.more item f.none c;
        core_is = one_more old.core (taken_after now b items f.more) at s.core new.core f.core_is does.reader ∙ ap (λ (ds : List Dated). (course old.core ds).reader) (sym one_at);
        said = all_said;
        lives = record {
          rest = [];
          are = are;
          reader_is = reader_then;
          decoder = rw same takes.3;
          limit = rw same (limit ∙ f.lives.limit);
          phase = phase ∙ f.lives.phase;
          taken = taken ∙ ap (λ (ps : List Pair). count_more s.taken (comes_in (doing ps s.version item))) f.lives.answers
              ∙ ap (λ (v : Version). count_more s.taken (comes_in (doing b.answers v item))) same_version
              ∙ ap (λ (n : ℕ). count_more n (comes_in (doing b.answers in_use item))) f.lives.taken
              ∙ ap (λ (v : Version). count_more (taken_of b.answers (items ++ f.more)) (comes_in (doing b.answers v item))) (sym in_use_is) ∙ one_taken b.answers (items ++ f.more) item
              ∙ ap (taken_of b.answers) (append_assoc items f.more (item ∷ []));
          answers = ap (λ (a : Answers). a.pairs.items) answers ∙ f.lives.answers;
          version = version ∙ ap (λ (v : Version). next_version v item) same_version ∙ sym (agreed-append First items (f.more ++ item ∷ []) ∙ agreed-append (agreed First items) f.more (item ∷ []));
        };
      }

  -- ---- nothing is left

  nothing : (xs : List ℕ) → length xs ≡ 0 → xs ≡ []
  nothing [] h = refl
  nothing (x ∷ xs) h = absurd (omega arith)

  pub all_taken : length rest ≡ 0 → GoesOn now piece b before bytes items old s out0 out1
  all_taken none =
      let same : f.done ≡ piece = sym (append-nil f.done) ∙ ap (λ (x : List ℕ). f.done ++ x) (sym (nothing rest none)) ∙ sym f.parts in
      record { more = f.more; none = f.none; said = f.said; lives = subst (λ (x : List ℕ). Lives b (before ++ taken_after now b items f.more) (bytes ++ x) (items ++ f.more) s) same f.lives }
