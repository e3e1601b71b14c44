-- What serving makes of pieces of a stream.
use Rattle.std.proofs.Common.{◌≡◌, ℕ, Bool, true, false, List, [], ◌∷◌, ◌++◌, length, take, drop, Option, Some, None, Result, Ok, Err, refl, sym, ap, subst, ◌∙◌, append_assoc, inl, arith}
use Rattle.std.specs.List.{AllByRecursion}
use Rattle.std.proofs.lemmas.List.{append-nil, take-append-drop}
use Rattle.llrp_tree.specs.Tree.{MessageTree}
use Rattle.llrp_stream.specs.declared.item.Item.{Item}
use Rattle.llrp_stream.specs.declared.item.Fed.{Fed}
use Rattle.llrp_stream.specs.declared.item.FeedErr.{FeedErr}
use Rattle.llrp_stream.specs.declared.item.FeedErr.TheVariants as decoder
use Rattle.llrp_stream.specs.Decoding.{DecoderState}
use Rattle.llrp_stream.specs.Calls.Decoding.{Stands}
use Rattle.llrp_stream.specs.Feeding.{Feeds}
use Rattle.llrp_stream.specs.Private.Profile.{Takes}
use Rattle.llrp_stream.specs.Items.{ItemsSoFar}
use Rattle.llrp_stream.proofs.RunLemmas.{items_grow}
use Rattle.llrp_session.specs.ReaderMachine.{Reader}
use Rattle.llrp_listing.specs.declared.outcome.ToolErr.{ToolErr}
use Rattle.llrp_endpoints.specs.declared.script.Entry.{Entry}
use Rattle.llrp_endpoints.specs.declared.serving.scripted.ScriptedReader.{ScriptedReader}
use Rattle.llrp_endpoints.specs.declared.serving.Serving.{Serving}
use Rattle.llrp_endpoints.specs.Serving.{events, run, said, Closes}
use Rattle.llrp_listing.specs.Calls.Fault.{error_by}
use Rattle.llrp_endpoints.specs.Sending.{Adds}
use Rattle.llrp_endpoints.specs.Private.Acting.{DidSome}
use Rattle.llrp_endpoints.specs.Calls.Acting.{phase_after}
use Rattle.llrp_endpoints.specs.Calls.ServingStands.{HasTaken, StandsFor, IsFresh, HasFailed, Starts, Goes, Fails, Feeds as FeedsOn}
use Rattle.llrp_endpoints.specs.Private.ServingStands.{Connects, TakesItem}
use Rattle.llrp_endpoints.specs.declared.serving.Phase.TheVariants.{Open}
use Rattle.llrp_endpoints.proofs.SendingLemmas.{adds_none, adds_more}

pub none_push : (items : List Item) (item : Item) → AllByRecursion (λ item. Closes item → ⊥) items → (Closes item → ⊥) → AllByRecursion (λ item. Closes item → ⊥) (items ++ item ∷ [])
none_push [] item h c = (c, tt)
none_push (i ∷ items) item h c = (h.0, none_push items item h.1 c)

-- Serving in a loop: what was taken of the piece, and what was said to it.
pub record SoFar (reader : Reader) (entries : List Entry) (bytes : List ℕ) (messages : List MessageTree) (piece rest old new : List ℕ) (s : Serving) : Type 0 where
  pub done : List ℕ
  pub parts : piece ≡ done ++ rest
  pub more : List MessageTree
  pub adds : Adds more old new
  pub stands : StandsFor reader entries (bytes ++ done) (messages ++ more) s

pub so_far_none : (reader : Reader) (entries : List Entry) (bytes : List ℕ) (messages : List MessageTree) (piece out : List ℕ) (s : Serving) → StandsFor reader entries bytes messages s → SoFar reader entries bytes messages piece piece out out s
so_far_none reader entries bytes messages piece out s h = record { done = []; parts = refl; more = []; adds = adds_none out; stands = rw (append-nil bytes, append-nil messages) h }

-- what a call that takes a piece makes
abbrev pub Taken : Reader → List Entry → List ℕ → List MessageTree → List ℕ → Serving → List ℕ → List ℕ → Result Bool ToolErr → Type 0
Taken reader entries bytes messages piece new out0 out1 answer = (more : List MessageTree) × Adds more out0 out1 × Goes reader entries (bytes ++ piece) (messages ++ more) new answer

pub taken_behind : (reader : Reader) (entries : List Entry) (bytes : List ℕ) (messages : List MessageTree) (piece rest out0 out1 out2 : List ℕ) (s new : Serving) (answer : Result Bool ToolErr) (f : SoFar reader entries bytes messages piece rest out0 out1 s)
    → Taken reader entries (bytes ++ f.done) (messages ++ f.more) rest new out1 out2 answer → Taken reader entries bytes messages piece new out0 out2 answer
taken_behind reader entries bytes messages piece rest out0 out1 out2 s new answer f t =
    let whole : (bytes ++ f.done) ++ rest ≡ bytes ++ piece = append_assoc bytes f.done rest ∙ ap (λ (x : List ℕ). bytes ++ x) (sym f.parts) in (
      f.more ++ t.0,
      adds_more f.more t.0 out0 out1 out2 f.adds t.1,
      subst (λ (x : List ℕ). Goes reader entries x (messages ++ (f.more ++ t.0)) new answer) whole
          (subst (λ (x : List MessageTree). Goes reader entries ((bytes ++ f.done) ++ rest) x new answer) (append_assoc messages f.more t.0) t.2),
    )

-- ---- the decoder fails

fails_at : (reader : Reader) (entries : List Entry) (bytes : List ℕ) (messages : List MessageTree) (s new : Serving) (d : DecoderState) (piece : List ℕ) (h : StandsFor reader entries bytes messages s) (error : FeedErr)
    → Feeds s.decoder h.stays.rest piece d (Err error) → Fails reader entries (bytes ++ piece) messages (error_by error)
fails_at reader entries bytes messages s new d piece h decoder.Broken f =
    record { items = h.stays.items; rest = h.stays.rest ++ piece; are = (items_grow reader.limit).by_bytes bytes h.stays.items h.stays.rest piece h.stays.are; none_closes = h.stays.none_closes; messages_are = h.stays.messages_are; stands = f.0 }
fails_at reader entries bytes messages s new d piece h decoder.Memory f =
    record { items = h.stays.items; rest = h.stays.rest ++ piece; later = []; are = (items_grow reader.limit).by_bytes bytes h.stays.items h.stays.rest piece h.stays.are; messages_are = sym h.stays.messages_are ∙ sym (append-nil messages) }
fails_at reader entries bytes messages s new d piece h decoder.Dead f = absurd f

pub failed : (reader : Reader) (entries : List Entry) (bytes : List ℕ) (messages : List MessageTree) (s new : Serving) (d : DecoderState) (piece out : List ℕ) (error : FeedErr) (answer : ToolErr) → StandsFor reader entries bytes messages s
    → ((front : List ℕ) → Stands s.decoder front → Feeds s.decoder front piece d (Err error)) → answer ≡ error_by error → Taken reader entries bytes messages piece new out out (Err answer)
failed reader entries bytes messages s new d piece out error answer h feeds is =
    ([], adds_none out, rw (append-nil messages, is) (fails_at reader entries bytes messages s new d piece h error (feeds h.stays.rest h.decoder)))

-- ---- no frame ends

pub went_on : (reader : Reader) (entries : List Entry) (bytes : List ℕ) (messages : List MessageTree) (s new : Serving) (piece out : List ℕ) (used : ℕ) → StandsFor reader entries bytes messages s
    → ((front : List ℕ) → Stands s.decoder front → Takes s.decoder.limit front piece new.decoder used None) → new.decoder.limit ≡ s.decoder.limit → new.reader ≡ s.reader → Taken reader entries bytes messages piece new out out (Ok false)
went_on reader entries bytes messages s new piece out used h feeds limit same =
    let t = feeds h.stays.rest h.decoder in (
      [],
      adds_none out,
      rw append-nil record {
        stays = record { items = h.stays.items; rest = h.stays.rest ++ piece; are = (items_grow reader.limit).by_bytes bytes h.stays.items h.stays.rest piece h.stays.are; none_closes = h.stays.none_closes; messages_are = h.stays.messages_are; stands = t.1.unfinished };
        taken = rw same h.taken;
        decoder = t.1;
        limit = limit ∙ h.limit;
      },
    )

-- ---- a frame ends

-- the items with one more
more_items : (limit : ℕ) (bytes : List ℕ) (items : List Item) (front piece : List ℕ) (used : ℕ) (item : Item) (d : DecoderState) → ItemsSoFar limit bytes items front → Takes limit front piece d used (Some item)
    → ItemsSoFar limit (bytes ++ take used piece) (items ++ item ∷ []) []
more_items limit bytes items front piece used item d so t =
    (items_grow limit).by_a_frame (bytes ++ take used piece) items (front ++ take used piece) item ((items_grow limit).by_bytes bytes items front (take used piece) so) t.1 t.2

more_items_behind : (limit : ℕ) (bytes : List ℕ) (items : List Item) (front piece : List ℕ) (used : ℕ) (item : Item) (d : DecoderState) → ItemsSoFar limit bytes items front → Takes limit front piece d used (Some item)
    → ItemsSoFar limit (bytes ++ piece) (items ++ item ∷ []) (drop used piece)
more_items_behind limit bytes items front piece used item d so t =
    let whole : (bytes ++ take used piece) ++ drop used piece ≡ bytes ++ piece = append_assoc bytes (take used piece) (drop used piece) ∙ ap (λ (x : List ℕ). bytes ++ x) (take-append-drop used piece) in
    subst (λ (x : List ℕ). ItemsSoFar limit x (items ++ item ∷ []) (drop used piece)) whole
    ((items_grow limit).by_bytes (bytes ++ take used piece) (items ++ item ∷ []) [] (drop used piece) (more_items limit bytes items front piece used item d so t))

-- the feed that ended a frame
pub record GaveItem (old new : DecoderState) (piece : List ℕ) (used : ℕ) (item : Item) : Type 0 where
  pub feeds : (front : List ℕ) → Stands old front → Takes old.limit front piece new used (Some item)
  pub limit : new.limit ≡ old.limit

-- how an item is taken
abbrev pub TakesIt : ScriptedReader → Item → ScriptedReader → List ℕ → List ℕ → Result Bool ToolErr → Type 0
TakesIt old item new out0 out1 answer = (reader : Reader) (entries : List Entry) (items : List Item) → HasTaken reader entries items old → TakesItem reader entries items item new out0 out1 answer

pub gave : (old new : DecoderState) (piece : List ℕ) (fed : Fed) (item : Item) → new.limit ≡ old.limit → ((front : List ℕ) → Stands old front → Takes old.limit front piece new fed.used fed.item) → fed.item ≡ Some item → GaveItem old new piece fed.used item
gave old new piece fed item limit feeds is = record { feeds = λ (front : List ℕ) (h : Stands old front). subst (λ (o : Option Item). Takes old.limit front piece new fed.used o) is (feeds front h); limit = limit }

pub gave_none : (old new : DecoderState) (piece : List ℕ) (fed : Fed) → ((front : List ℕ) → Stands old front → Takes old.limit front piece new fed.used fed.item) → fed.item ≡ None → (front : List ℕ) → Stands old front → Takes old.limit front piece new fed.used None
gave_none old new piece fed feeds is front h = subst (λ (o : Option Item). Takes old.limit front piece new fed.used o) is (feeds front h)

pub at_answer : (old : ScriptedReader) (item : Item) (new : ScriptedReader) (out0 out1 : List ℕ) (a b : Bool) → a ≡ b → TakesIt old item new out0 out1 (Ok a) → TakesIt old item new out0 out1 (Ok b)
at_answer old item new out0 out1 a b e h = subst (λ (x : Bool). TakesIt old item new out0 out1 (Ok x)) e h

-- the item's frame, for a reader of this limit
takes_in : (reader : Reader) (entries : List Entry) (bytes : List ℕ) (messages : List MessageTree) (s : Serving) (d : DecoderState) (piece : List ℕ) (used : ℕ) (item : Item) (h : StandsFor reader entries bytes messages s) → GaveItem s.decoder d piece used item → Takes reader.limit h.stays.rest piece d used (Some item)
takes_in reader entries bytes messages s d piece used item h g = subst (λ (n : ℕ). Takes n h.stays.rest piece d used (Some item)) h.limit (g.feeds h.stays.rest h.decoder)

pub took_closing : (reader : Reader) (entries : List Entry) (bytes : List ℕ) (messages : List MessageTree) (s new : Serving) (d : DecoderState) (piece out0 out1 : List ℕ) (used : ℕ) (item : Item) → StandsFor reader entries bytes messages s → GaveItem s.decoder d piece used item
    → TakesIt s.reader item new.reader out0 out1 (Ok true) → Taken reader entries bytes messages piece new out0 out1 (Ok true)
took_closing reader entries bytes messages s new d piece out0 out1 used item h g takes =
    let t = takes reader entries h.stays.items h.taken in (
      t.1,
      t.2,
      record {
        items = h.stays.items;
        last = item;
        rest = drop used piece;
        are = more_items_behind reader.limit bytes h.stays.items h.stays.rest piece used item d h.stays.are (takes_in reader entries bytes messages s d piece used item h g);
        none_closes = h.stays.none_closes;
        closes = t.0;
        messages_are = ap (λ (x : List MessageTree). x ++ t.1) h.stays.messages_are ∙ sym t.3;
      },
    )

pub took_in_part : (reader : Reader) (entries : List Entry) (bytes : List ℕ) (messages : List MessageTree) (s new : Serving) (d : DecoderState) (piece out0 out1 : List ℕ) (used : ℕ) (item : Item) (error : ToolErr) → StandsFor reader entries bytes messages s → GaveItem s.decoder d piece used item
    → TakesIt s.reader item new.reader out0 out1 (Err error) → Taken reader entries bytes messages piece new out0 out1 (Err error)
took_in_part reader entries bytes messages s new d piece out0 out1 used item error h g takes =
    let t = takes reader entries h.stays.items h.taken in (
      t.1,
      t.3,
      rw t.0 record {
        items = h.stays.items ++ item ∷ [];
        rest = drop used piece;
        later = t.2;
        are = more_items_behind reader.limit bytes h.stays.items h.stays.rest piece used item d h.stays.are (takes_in reader entries bytes messages s d piece used item h g);
        messages_are = t.4 ∙ ap (λ (x : List MessageTree). (x ++ t.1) ++ t.2) (sym h.stays.messages_are);
      },
    )

pub so_far_more : (reader : Reader) (entries : List Entry) (bytes : List ℕ) (messages : List MessageTree) (s new : Serving) (d : DecoderState) (piece rest rest2 old out0 out1 : List ℕ) (used : ℕ) (item : Item) → SoFar reader entries bytes messages piece rest old out0 s → GaveItem s.decoder d rest used item
    → TakesIt s.reader item new.reader out0 out1 (Ok false) → new.decoder ≡ d → rest2 ≡ drop used rest
    → SoFar reader entries bytes messages piece rest2 old out1 new
so_far_more reader entries bytes messages s new d piece rest rest2 old out0 out1 used item f g takes same back =
    let h = f.stands in
    let t = takes reader entries h.stays.items h.taken in
    let k = takes_in reader entries (bytes ++ f.done) (messages ++ f.more) s d rest used item h g in
    record {
      done = f.done ++ take used rest;
      parts = f.parts ∙ ap (λ (x : List ℕ). f.done ++ x) (sym (take-append-drop used rest) ∙ ap (λ (x : List ℕ). take used rest ++ x) (sym back)) ∙ sym (append_assoc f.done (take used rest) rest2);
      more = f.more ++ t.2;
      adds = adds_more f.more t.2 old out0 out1 f.adds t.3;
      stands = record {
        stays = record {
          items = h.stays.items ++ item ∷ [];
          rest = [];
          are = rw (← append_assoc bytes f.done (take used rest)) (more_items reader.limit (bytes ++ f.done) h.stays.items h.stays.rest rest used item d h.stays.are k);
          none_closes = none_push h.stays.items item h.stays.none_closes t.0;
          messages_are = sym (append_assoc messages f.more t.2) ∙ ap (λ (x : List MessageTree). x ++ t.2) h.stays.messages_are ∙ sym t.4;
          stands = k.3.unfinished;
        };
        taken = t.1;
        decoder = rw same k.3;
        limit = rw same (g.limit ∙ h.limit);
      };
    }

nothing_left : (xs : List ℕ) → length xs ≡ 0 → xs ≡ []
nothing_left [] h = refl
nothing_left (x ∷ xs) h = absurd (omega arith)

pub all_taken : (reader : Reader) (entries : List Entry) (bytes : List ℕ) (messages : List MessageTree) (piece rest old new : List ℕ) (s : Serving) → SoFar reader entries bytes messages piece rest old new s → length rest ≡ 0
    → Taken reader entries bytes messages piece s old new (Ok false)
all_taken reader entries bytes messages piece rest old new s f empty =
    let whole : piece ≡ f.done = f.parts ∙ ap (λ (x : List ℕ). f.done ++ x) (nothing_left rest empty) ∙ append-nil f.done in
    (f.more, f.adds, subst (λ (x : List ℕ). StandsFor reader entries (bytes ++ x) (messages ++ f.more) s) (sym whole) f.stands)

-- ---- the start

pub started : (reader : Reader) (entries : List Entry) (s new : Serving) (out0 out1 : List ℕ) → IsFresh reader entries s → Connects reader entries new.reader out0 out1 → new.decoder ≡ s.decoder → new.phase ≡ Open → Starts reader entries new out0 out1 (Ok tt)
started reader entries s new out0 out1 f c same phase = (
  said (run reader (events entries [])),
  c.adds,
  record {
    stands = record {
      stays = record { items = []; rest = []; are = (items_grow reader.limit).none; none_closes = tt; messages_are = refl; stands = inl (omega arith) };
      taken = c.taken;
      decoder = rw same f.decoder;
      limit = rw same f.limit;
    };
    phase = phase;
  },
)

pub not_started : (reader : Reader) (entries : List Entry) (new : Serving) (error : ToolErr) (out0 out1 : List ℕ) → DidSome reader (events entries []) error out0 out1 → HasFailed error new → Starts reader entries new out0 out1 (Err error)
not_started reader entries new error out0 out1 d failed =
    (d.memory, d.adds.first, d.adds.adds, record { items = []; rest = []; later = d.adds.later; are = (items_grow reader.limit).none; messages_are = d.adds.parts }, failed)

-- ---- a feed

-- what a feed makes of what was taken of its piece
pub fed : (reader : Reader) (entries : List Entry) (bytes : List ℕ) (messages : List MessageTree) (piece : List ℕ) (s new : Serving) (out0 out1 : List ℕ) (answer : Result Bool ToolErr) → Taken reader entries bytes messages piece s out0 out1 answer
    → new.reader ≡ s.reader → new.decoder ≡ s.decoder → new.phase ≡ phase_after answer → FeedsOn reader entries bytes messages piece new out0 out1 answer
fed reader entries bytes messages piece s new out0 out1 (Ok true) t same decoder phase = (t.0, t.1, t.2, phase)
fed reader entries bytes messages piece s new out0 out1 (Ok false) t same decoder phase =
    let h = t.2 in
    (t.0, t.1, record { stays = h.stays; taken = rw same h.taken; decoder = rw decoder h.decoder; limit = rw decoder h.limit }, phase)
fed reader entries bytes messages piece s new out0 out1 (Err error) t same decoder phase = (t.0, t.1, t.2, phase)
