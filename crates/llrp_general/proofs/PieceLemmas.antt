-- What pieces of a stream make of a reader that acts by a script.
use Rattle.std.proofs.Common.{◌≡◌, ℕ, Bool, true, false, Result, List, [], ◌∷◌, ◌++◌, length, take, drop, Option, Some, None, Ok, Err, refl, sym, ap, subst, ◌∙◌, append_assoc, arith}
use Rattle.std.proofs.lemmas.List.{append-nil, take-append-drop}
use Rattle.llrp_schema.specs.declared.kinds.KindSet.{KindSet}
use Rattle.llrp_schema.specs.declared.kinds.KindSet.TheVariants.{Standard}
use Rattle.llrp_tree.specs.Tree.{MessageTree}
use Rattle.llrp_stream.specs.Calls.Decoding.{StandsIn}
use Rattle.llrp_stream.specs.Cuts.{EndsStream, IsPartial}
use Rattle.llrp_stream.specs.Decoding.{DecoderState}
use Rattle.llrp_stream.specs.Feeding.{FeedsIn, TakesIn}
use Rattle.llrp_stream.specs.Items.{ItemsSoFarIn}
use Rattle.llrp_stream.specs.declared.item.End.TheVariants as at_end
use Rattle.llrp_stream.specs.declared.item.Fed.{Fed}
use Rattle.llrp_stream.specs.declared.item.FeedErr.{FeedErr}
use Rattle.llrp_stream.specs.declared.item.FeedErr.TheVariants as decoder
use Rattle.llrp_stream.specs.declared.item.Item.{Item}
use Rattle.llrp_stream.proofs.RunLemmas.{items_grow}
use Rattle.llrp_session.specs.Calls.NextClient.{for_next_client}
use Rattle.llrp_session.specs.ReaderMachine.{Reader}
use Rattle.llrp_listing.specs.declared.outcome.ToolErr.{ToolErr}
use Rattle.llrp_endpoints.specs.Serving.{Standing, broken, early, ended, StandsAt}
use Rattle.llrp_general.specs.Calls.Serving.{Setting, Step, AreSent, Begins, HasClosed, IsDone, StaysOpen, left_after}
use Rattle.llrp_general.specs.Private.Standing.{Fed as FedSo, Follows, Held, Holds, Stands, Takes, Took, left_by}
use Rattle.llrp_general.specs.Private.Ending.{end_of}
use Rattle.llrp_general.specs.declared.serving.Going.TheVariants.{Closed}
use Rattle.llrp_general.specs.declared.serving.WholeReader.{WholeReader}
use Rattle.llrp_general.proofs.PartLemmas.{same_follows}

-- ---- more octets than were looked at

pub begins_longer : (s : Setting) (others : ℕ) (left : Reader) (bytes more : List ℕ) (messages : List MessageTree) → Begins s others left bytes messages → Begins s others left (bytes ++ more) messages
begins_longer s others left bytes more messages h = record {
  items = h.items;
  rest = h.rest ++ more;
  are = (items_grow s.reader.limit).by_bytes bytes h.items h.rest more h.are;
  done = h.done;
  undone = h.undone;
  is_done = h.is_done;
  unsent = h.unsent;
  sent = h.sent;
  leaves = h.leaves;
}

-- fewer messages were sent
pub begins_fewer : (s : Setting) (others : ℕ) (left : Reader) (bytes : List ℕ) (messages more : List MessageTree) → Begins s others left bytes (messages ++ more) → Begins s others left bytes messages
begins_fewer s others left bytes messages more h = record {
  items = h.items;
  rest = h.rest;
  are = h.are;
  done = h.done;
  undone = h.undone;
  is_done = h.is_done;
  unsent = more ++ h.unsent;
  sent = subst (λ (z : List MessageTree). AreSent s.reader h.done z) (append_assoc messages more h.unsent) h.sent;
  leaves = h.leaves;
}

pub closed_longer : (s : Setting) (others : ℕ) (left : Reader) (bytes more : List ℕ) (messages : List MessageTree) → HasClosed s others left bytes messages → HasClosed s others left (bytes ++ more) messages
closed_longer s others left bytes more messages h = record {
  items = h.items;
  last = h.last;
  rest = h.rest ++ more;
  are = (items_grow s.reader.limit).by_bytes bytes (h.items ++ h.last ∷ []) h.rest more h.are;
  none = h.none;
  closing = h.closing;
  done = h.done;
  is_done = h.is_done;
  sent = h.sent;
  leaves = h.leaves;
}

-- ---- where it stands

leaves_so : (s : Setting) (others : ℕ) (bytes : List ℕ) (messages : List MessageTree) (server : WholeReader) (h : Stands s others bytes messages server) → left_by server ≡ left_after s h.follows.done
leaves_so s others bytes messages server h = ap for_next_client h.follows.lives.reader_is

pub stays : (s : Setting) (others : ℕ) (bytes : List ℕ) (messages : List MessageTree) (server : WholeReader) (standing : Standing) (h : Stands s others bytes messages server) → StandsAt standing h.rest → StaysOpen s others (left_by server) bytes messages standing
stays s others bytes messages server standing h at = record {
  items = h.items;
  rest = h.rest;
  are = h.are;
  none = h.follows.none;
  done = h.follows.done;
  is_done = h.follows.is_done;
  sent = h.follows.sent;
  leaves = leaves_so s others bytes messages server h;
  stands = at;
}

-- it breaks in these octets
pub breaks_in : (s : Setting) (others : ℕ) (bytes more : List ℕ) (messages : List MessageTree) (server : WholeReader) (h : Stands s others bytes messages server) → StandsAt broken (h.rest ++ more) → StaysOpen s others (left_by server) (bytes ++ more) messages broken
breaks_in s others bytes more messages server h at = record {
  items = h.items;
  rest = h.rest ++ more;
  are = (items_grow s.reader.limit).by_bytes bytes h.items h.rest more h.are;
  none = h.follows.none;
  done = h.follows.done;
  is_done = h.follows.is_done;
  sent = h.follows.sent;
  leaves = leaves_so s others bytes messages server h;
  stands = at;
}

pub begins_there : (s : Setting) (others : ℕ) (bytes : List ℕ) (messages : List MessageTree) (server : WholeReader) → Stands s others bytes messages server → Begins s others (left_by server) bytes messages
begins_there s others bytes messages server h = record {
  items = h.items;
  rest = h.rest;
  are = h.are;
  done = h.follows.done;
  undone = [];
  is_done = subst (λ (xs : List Step). IsDone s others h.items xs) (sym (append-nil h.follows.done)) h.follows.is_done;
  unsent = [];
  sent = subst (λ (z : List MessageTree). AreSent s.reader h.follows.done z) (sym (append-nil messages)) h.follows.sent;
  leaves = leaves_so s others bytes messages server h;
}

-- ---- a piece in a loop

-- What was taken of the piece, and what was sent to it.
pub record SoFar (s : Setting) (others : ℕ) (bytes : List ℕ) (messages : List MessageTree) (piece rest : List ℕ) (sent0 sent1 : List MessageTree) (server : WholeReader) : Type 0 where
  pub done : List ℕ
  pub parts : piece ≡ done ++ rest
  pub more : List MessageTree
  pub sent : sent1 ≡ sent0 ++ more
  pub stands : Stands s others (bytes ++ done) (messages ++ more) server

pub so_far_none : (s : Setting) (others : ℕ) (bytes : List ℕ) (messages : List MessageTree) (piece : List ℕ) (sent : List MessageTree) (server : WholeReader) → Stands s others bytes messages server → SoFar s others bytes messages piece piece sent sent server
so_far_none s others bytes messages piece sent server h = record { done = []; parts = refl; more = []; sent = sym (append-nil sent); stands = rw (append-nil bytes, append-nil messages) h }

module _ (s : Setting) (others : ℕ) (bytes : List ℕ) (messages : List MessageTree) (piece rest : List ℕ) (sent0 sent1 : List MessageTree) (server : WholeReader) (f : SoFar s others bytes messages piece rest sent0 sent1 server) where
  -- the octets of all that was taken, and the rest
  pub whole : (bytes ++ f.done) ++ rest ≡ bytes ++ piece
  whole = append_assoc bytes f.done rest ∙ ap (λ (x : List ℕ). bytes ++ x) (sym f.parts)

  pub sent_more : (more sent2 : List MessageTree) → sent2 ≡ sent1 ++ more → sent2 ≡ sent0 ++ (f.more ++ more)
  sent_more more sent2 is = is ∙ ap (λ (z : List MessageTree). z ++ more) f.sent ∙ append_assoc sent0 f.more more

  -- ---- the decoder fails

  pub broke : (d : DecoderState) → ((p : KindSet) (front : List ℕ) → StandsIn p server.decoder front → FeedsIn p server.decoder front rest d (Err decoder.Broken))
      → StaysOpen s others (left_by server) (bytes ++ piece) (messages ++ f.more) broken
  broke d feeds =
      let at = (feeds Standard f.stands.rest f.stands.decoder).0 in
      subst (λ (x : List ℕ). StaysOpen s others (left_by server) x (messages ++ f.more) broken) whole (breaks_in s others (bytes ++ f.done) rest (messages ++ f.more) server f.stands at)

  -- memory ran out
  pub behind : (left : Reader) → Begins s others left ((bytes ++ f.done) ++ rest) (messages ++ f.more) → Begins s others left (bytes ++ piece) messages
  behind left h = subst (λ (x : List ℕ). Begins s others left x messages) whole (begins_fewer s others left ((bytes ++ f.done) ++ rest) messages f.more h)

  pub ran_out : Begins s others (left_by server) (bytes ++ piece) messages
  ran_out = behind (left_by server) (begins_longer s others (left_by server) (bytes ++ f.done) rest (messages ++ f.more) (begins_there s others (bytes ++ f.done) (messages ++ f.more) server f.stands))

  pub failed_so : (d : DecoderState) (new : WholeReader) (error : FeedErr) → new.reader ≡ server.reader → ((p : KindSet) (front : List ℕ) → StandsIn p server.decoder front → FeedsIn p server.decoder front rest d (Err error)) → FedSo s others (bytes ++ piece) messages new sent0 sent1 (end_of error)
  failed_so d new decoder.Broken same feeds = (f.more, f.sent, rw same (broke d feeds))
  failed_so d new decoder.Memory same feeds = (refl, rw same ran_out)
  failed_so d new decoder.Dead same feeds = (refl, rw same ran_out)

  -- ---- no frame ends

  module _ (fed : Fed) (d : DecoderState) (feeds : (p : KindSet) (front : List ℕ) → StandsIn p server.decoder front → TakesIn p server.decoder.limit front rest d fed.used fed.item) (is : fed.item ≡ None) where
    stands_then : StandsIn Standard d (f.stands.rest ++ rest)
    stands_then = (subst (λ (o : Option Item). TakesIn Standard server.decoder.limit f.stands.rest rest d fed.used o) is (feeds Standard f.stands.rest f.stands.decoder)).1

    pub grown : ItemsSoFarIn Standard s.reader.limit ((bytes ++ f.done) ++ rest) f.stands.items (f.stands.rest ++ rest)
    grown = (items_grow s.reader.limit).by_bytes (bytes ++ f.done) f.stands.items f.stands.rest rest f.stands.are

    pub less : IsPartial (f.stands.rest ++ rest)
    less = stands_then.unfinished

    -- it holds them
    pub held_so : (old new : WholeReader) (answer : Result (Unit {0}) ToolErr) → Holds rest old new answer → old.reader ≡ server.reader → old.script ≡ server.script → old.done ≡ server.done → old.moment ≡ server.moment → Held s others ((bytes ++ f.done) ++ rest) (messages ++ f.more) f.stands.items new answer
    held_so old new answer holds reader script done moment =
        holds s others (bytes ++ f.done) (f.stands.rest ++ rest) (messages ++ f.more) f.stands.items (same_follows s others (bytes ++ f.done) (messages ++ f.more) f.stands.items server old reader script done moment f.stands.follows) grown less

    pub not_held_so : (new : WholeReader) (error : ToolErr) → Held s others ((bytes ++ f.done) ++ rest) (messages ++ f.more) f.stands.items new (Err error) → FedSo s others (bytes ++ piece) messages new sent0 sent1 (Err error)
    not_held_so new error h = (h.0, behind (left_by new) h.1)

    pub went_on : (new : WholeReader) → Follows s others ((bytes ++ f.done) ++ rest) (messages ++ f.more) f.stands.items new → new.decoder ≡ d → d.limit ≡ server.decoder.limit → Stands s others (bytes ++ piece) (messages ++ f.more) new
    went_on new follows same limit = subst (λ (x : List ℕ). Stands s others x (messages ++ f.more) new) whole record {
      items = f.stands.items;
      rest = f.stands.rest ++ rest;
      are = grown;
      follows = follows;
      decoder = rw same stands_then;
      limit = rw same (limit ∙ f.stands.limit);
    }

  -- ---- a frame ends

  module _ (fed : Fed) (item : Item) (d : DecoderState) (feeds : (p : KindSet) (front : List ℕ) → StandsIn p server.decoder front → TakesIn p server.decoder.limit front rest d fed.used fed.item) (is : fed.item ≡ Some item) where
    takes : TakesIn Standard s.reader.limit f.stands.rest rest d fed.used (Some item)
    takes = subst (λ (n : ℕ). TakesIn Standard n f.stands.rest rest d fed.used (Some item)) f.stands.limit (subst (λ (o : Option Item). TakesIn Standard server.decoder.limit f.stands.rest rest d fed.used o) is (feeds Standard f.stands.rest f.stands.decoder))

    pub one_more : ItemsSoFarIn Standard s.reader.limit ((bytes ++ f.done) ++ take fed.used rest) (f.stands.items ++ item ∷ []) []
    one_more =
        let so = (items_grow s.reader.limit).by_bytes (bytes ++ f.done) f.stands.items f.stands.rest (take fed.used rest) f.stands.are in
        (items_grow s.reader.limit).by_a_frame ((bytes ++ f.done) ++ take fed.used rest) f.stands.items (f.stands.rest ++ take fed.used rest) item so takes.1 takes.2

    -- its octets and those after it
    cut : ((bytes ++ f.done) ++ take fed.used rest) ++ drop fed.used rest ≡ bytes ++ piece
    cut = append_assoc (bytes ++ f.done) (take fed.used rest) (drop fed.used rest) ∙ ap (λ (x : List ℕ). (bytes ++ f.done) ++ x) (take-append-drop fed.used rest) ∙ whole

    pub closed : (left : Reader) (more : List MessageTree) → HasClosed s others left ((bytes ++ f.done) ++ take fed.used rest) ((messages ++ f.more) ++ more) → HasClosed s others left (bytes ++ piece) (messages ++ (f.more ++ more))
    closed left more h = subst (λ (x : List ℕ). HasClosed s others left x (messages ++ (f.more ++ more))) cut
        (subst (λ (z : List MessageTree). HasClosed s others left (((bytes ++ f.done) ++ take fed.used rest) ++ drop fed.used rest) z) (append_assoc messages f.more more) (closed_longer s others left ((bytes ++ f.done) ++ take fed.used rest) (drop fed.used rest) ((messages ++ f.more) ++ more) h))

    pub taken_in_part : (left : Reader) → Begins s others left ((bytes ++ f.done) ++ take fed.used rest) (messages ++ f.more) → Begins s others left (bytes ++ piece) messages
    taken_in_part left h = subst (λ (x : List ℕ). Begins s others left x messages) cut
        (begins_fewer s others left (((bytes ++ f.done) ++ take fed.used rest) ++ drop fed.used rest) messages f.more (begins_longer s others left ((bytes ++ f.done) ++ take fed.used rest) (drop fed.used rest) (messages ++ f.more) h))

    pub so_far_more : (new : WholeReader) (rest2 : List ℕ) (more sent2 : List MessageTree) → Follows s others ((bytes ++ f.done) ++ take fed.used rest) ((messages ++ f.more) ++ more) (f.stands.items ++ item ∷ []) new → sent2 ≡ sent1 ++ more → new.decoder ≡ d
        → d.limit ≡ server.decoder.limit → rest2 ≡ drop fed.used rest → SoFar s others bytes messages piece rest2 sent0 sent2 new
    so_far_more new rest2 more sent2 follows sent same limit back = record {
      done = f.done ++ take fed.used rest;
      parts = f.parts ∙ ap (λ (x : List ℕ). f.done ++ x) (sym (take-append-drop fed.used rest)) ∙ sym (append_assoc f.done (take fed.used rest) (drop fed.used rest)) ∙ ap (λ (x : List ℕ). (f.done ++ take fed.used rest) ++ x) (sym back);
      more = f.more ++ more;
      sent = sent_more more sent2 sent;
      stands = subst (λ (x : List ℕ). Stands s others x (messages ++ (f.more ++ more)) new) (append_assoc bytes f.done (take fed.used rest))
          (subst (λ (z : List MessageTree). Stands s others ((bytes ++ f.done) ++ take fed.used rest) z new) (append_assoc messages f.more more) record {
            items = f.stands.items ++ item ∷ [];
            rest = [];
            are = one_more;
            follows = follows;
            decoder = rw same takes.3;
            limit = rw same (limit ∙ f.stands.limit);
          });
    }

    -- what became of it
    pub took : (part : List ℕ) (old new : WholeReader) (sent2 : List MessageTree) (answer : Result Bool ToolErr) → part ≡ take fed.used rest → Takes part item old new sent1 sent2 answer → old.reader ≡ server.reader → old.script ≡ server.script → old.done ≡ server.done → old.moment ≡ server.moment
        → Took s others ((bytes ++ f.done) ++ take fed.used rest) (messages ++ f.more) f.stands.items item new sent1 sent2 answer
    took part old new sent2 answer front does reader script done moment =
        let were = same_follows s others (bytes ++ f.done) (messages ++ f.more) f.stands.items server old reader script done moment f.stands.follows in
        subst (λ (x : List ℕ). Took s others ((bytes ++ f.done) ++ x) (messages ++ f.more) f.stands.items item new sent1 sent2 answer) front (does s others (bytes ++ f.done) (messages ++ f.more) f.stands.items were (rw front one_more))

    pub closing_so : (new : WholeReader) (sent2 : List MessageTree) (flag : Bool) → flag ≡ true → Took s others ((bytes ++ f.done) ++ take fed.used rest) (messages ++ f.more) f.stands.items item new sent1 sent2 (Ok flag) → FedSo s others (bytes ++ piece) messages new sent0 sent2 (Ok Closed)
    closing_so new sent2 false e t = absurd cc
    closing_so new sent2 true e t = (f.more ++ t.0, sent_more t.0 sent2 t.1, closed (left_by new) t.0 t.2)

    pub failing_so : (new : WholeReader) (sent2 : List MessageTree) (error : ToolErr) → Took s others ((bytes ++ f.done) ++ take fed.used rest) (messages ++ f.more) f.stands.items item new sent1 sent2 (Err error) → FedSo s others (bytes ++ piece) messages new sent0 sent2 (Err error)
    failing_so new sent2 error t = (t.0, taken_in_part (left_by new) t.1)

    pub open_so : (new : WholeReader) (rest2 : List ℕ) (sent2 : List MessageTree) (flag : Bool) → flag ≡ false → Took s others ((bytes ++ f.done) ++ take fed.used rest) (messages ++ f.more) f.stands.items item new sent1 sent2 (Ok flag) → new.decoder ≡ d → d.limit ≡ server.decoder.limit
        → rest2 ≡ drop fed.used rest → SoFar s others bytes messages piece rest2 sent0 sent2 new
    open_so new rest2 sent2 true e t same limit back = absurd cc
    open_so new rest2 sent2 false e t same limit back = so_far_more new rest2 t.0 sent2 t.2 t.1 same limit back

  -- ---- nothing is left

  nothing : (xs : List ℕ) → length xs ≡ 0 → xs ≡ []
  nothing [] h = refl
  nothing (x ∷ xs) h = absurd (omega arith)

  pub all_taken : length rest ≡ 0 → Stands s others (bytes ++ piece) (messages ++ f.more) server
  all_taken none =
      let same : f.done ≡ piece = sym (append-nil f.done) ∙ ap (λ (x : List ℕ). f.done ++ x) (sym (nothing rest none)) ∙ sym f.parts in
      subst (λ (x : List ℕ). Stands s others (bytes ++ x) (messages ++ f.more) server) same f.stands

-- ---- the end of the input

pub ended_clean : (s : Setting) (others : ℕ) (bytes : List ℕ) (messages : List MessageTree) (server : WholeReader) (h : Stands s others bytes messages server) → EndsStream h.rest at_end.Clean → StaysOpen s others (left_by server) bytes messages ended
ended_clean s others bytes messages server h at = stays s others bytes messages server ended h at

pub ended_early : (s : Setting) (others : ℕ) (bytes : List ℕ) (messages : List MessageTree) (server : WholeReader) (n : ℕ) (h : Stands s others bytes messages server) → EndsStream h.rest (at_end.Rest n) → StaysOpen s others (left_by server) bytes messages early
ended_early s others bytes messages server n h at = stays s others bytes messages server early h (at.2, λ none. absurd (omega (arith, ap length none, at.0, at.1)))
