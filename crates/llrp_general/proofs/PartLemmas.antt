-- What octets of one frame make of a reader that acts by a script.
use Rattle.std.proofs.Common.{◌≡◌, ℕ, Bool, true, false, List, [], ◌∷◌, ◌++◌, Result, Ok, refl, sym, ap, subst, ◌∙◌, append_assoc, inl, inr}
use Rattle.std.proofs.lemmas.List.{append-nil}
use Rattle.llrp_schema.specs.declared.kinds.KindSet.TheVariants.{Standard}
use Rattle.llrp_tree.specs.Tree.{MessageTree}
use Rattle.llrp_stream.specs.Cuts.{IsPartial}
use Rattle.llrp_stream.specs.Items.{ItemsSoFarIn}
use Rattle.llrp_stream.specs.declared.item.Item.{Item}
use Rattle.llrp_session.specs.Calls.NextClient.{for_next_client}
use Rattle.llrp_session.specs.ReaderMachine.{Reader}
use Rattle.llrp_listing.specs.declared.outcome.ToolErr.{ToolErr}
use Rattle.llrp_listing.specs.declared.outcome.ToolErr.TheVariants.{Broken, Memory}
use Rattle.llrp_versions.specs.declared.version.Version.TheVariants.{First}
use Rattle.llrp_endpoints.specs.Serving.{moment_after}
use Rattle.llrp_live.specs.declared.reader.LiveReader.{LiveReader}
use Rattle.llrp_live.specs.Calls.Doings.{Dated, agreed, closes, course, doing, once}
use Rattle.llrp_live.specs.Calls.Living.{Begun, Fails, Goes, Lives, NoneCloses, begun, came, taken_after}
use Rattle.llrp_live.proofs.LiveLemmas.{reader-append}
use Rattle.llrp_general.specs.Calls.Located.{IsSentTo}
use Rattle.llrp_general.specs.Calls.Serving.{Setting, Step, AreSent, Begins, HasClosed, IsDone, all_dated, next_step}
use Rattle.llrp_general.specs.Private.Standing.{Fetched, FetchedOn, Follows}
use Rattle.llrp_general.specs.declared.serving.WholeReader.{WholeReader}
use Rattle.llrp_general.proofs.ActingLemmas.{dated-append}
use Rattle.llrp_general.proofs.DueLemmas.{moment_of_done}
use Rattle.llrp_general.proofs.ItemLemmas.{closing_one, come_first, is_one, no_break, none_more, not_none, one_or_none, partial_none, same_so_far}
use Rattle.llrp_general.proofs.NoteLemmas.{is_done_more}
use Rattle.llrp_general.proofs.StepLemmas.{are_append, begins_at, due_here, steps-snoc}

-- only these parts of it matter
pub same_follows : (s : Setting) (others : ℕ) (bytes : List ℕ) (messages : List MessageTree) (items : List Item) (old new : WholeReader) → new.reader ≡ old.reader → new.script ≡ old.script → new.done ≡ old.done → new.moment ≡ old.moment → Follows s others bytes messages items old
    → Follows s others bytes messages items new
same_follows s others bytes messages items old new reader script done moment f =
    record { none = f.none; done = f.done; is_done = f.is_done; sent = f.sent; lives = rw reader f.lives; entries = rw (script, done, moment) f.entries; moment = moment ∙ f.moment }

module _ (s : Setting) (others : ℕ) (bytes part : List ℕ) (messages : List MessageTree) (items : List Item) (old : WholeReader) (f : Follows s others bytes messages items old) where
  -- what was done before
  abbrev before : List Dated
  before = all_dated f.done

  abbrev b : Begun
  b = begun s.reader s.answers

  -- the reader before the octets
  abbrev core : Reader
  core = (course s.reader (all_dated f.done)).reader

  whole : (front later : List ℕ) → part ≡ front ++ later → bytes ++ part ≡ (bytes ++ front) ++ later
  whole front later parts = ap (λ (x : List ℕ). bytes ++ x) parts ∙ sym (append_assoc bytes front later)

  -- the octets are fed at this moment
  module _ (now : ℕ) (new : LiveReader) (out : List MessageTree) where
    -- a reader to which nothing was done
    unchanged : (more : List Item) → more ≡ [] → new.core ≡ (course s.reader (before ++ taken_after now b items more)).reader → new.core ≡ core
    unchanged more none is = is ∙ ap (λ (m : List Item). (course s.reader (before ++ taken_after now b items m)).reader) none ∙ ap (λ (ds : List Dated). (course s.reader ds).reader) (append-nil before)

    -- nothing was said before
    pub from_none : (out0 : List MessageTree) (answer : Result Bool ToolErr) → out0 ≡ [] → Goes now part b before bytes items old.reader new out0 out answer → Goes now part b before bytes items old.reader new [] out answer
    from_none out0 answer none g = subst (λ (x : List MessageTree). Goes now part b before bytes items old.reader new x out answer) none g

    -- ---- they end no frame

    module _ (rest : List ℕ) (are : ItemsSoFarIn Standard s.reader.limit (bytes ++ part) items rest) (partial : IsPartial rest) where
      pub held : (flag : Bool) → Goes now part b before bytes items old.reader new [] out (Ok flag) → (server : WholeReader) → server.reader ≡ new → server.script ≡ old.script → server.done ≡ old.done → server.moment ≡ old.moment → Follows s others (bytes ++ part) messages items server
      held true g server same_reader script done moment =
          let first = come_first s.reader.limit (bytes ++ part) items rest are partial (bytes ++ g.front) g.later (items ++ (g.more ++ g.last ∷ [])) [] (whole g.front g.later g.parts) g.are in
          absurd (not_none g.more g.last (none_more items (g.more ++ g.last ∷ []) first.0 first.1))
      held false g server same_reader script done moment =
          let same : items ++ g.more ≡ items = same_so_far s.reader.limit (bytes ++ part) items rest are partial (items ++ g.more) g.lives.rest g.lives.are g.lives.decoder.unfinished in
          let none : g.more ≡ [] = none_more items g.more [] (sym same ∙ sym (append-nil (items ++ g.more))) in
          let lives = subst (λ (m : List Item). Lives b (before ++ taken_after now b items m) (bytes ++ part) (items ++ m) new) none g.lives in
          record {
            none = f.none;
            done = f.done;
            is_done = f.is_done;
            sent = f.sent;
            lives = rw same_reader (subst (λ (ds : List Dated). Lives b ds (bytes ++ part) items new) (append-nil before) (subst (λ (m : List Item). Lives b (before ++ []) (bytes ++ part) m new) (append-nil items) lives));
            entries = rw (script, done, moment) f.entries;
            moment = moment ∙ f.moment;
          }

      -- all that is done, where nothing more is
      all_done : IsDone s others items ((f.done ++ []) ++ [])
      all_done = subst (λ (xs : List Step). IsDone s others items xs) (sym (append-nil f.done) ∙ sym (append-nil (f.done ++ []))) f.is_done

      pub not_held : (error : ToolErr) → Fails now part b before bytes items old.reader new [] out error → Begins s others (for_next_client new.core) (bytes ++ part) messages
      not_held Broken g = absurd (no_break s.reader.limit (bytes ++ part) items rest are partial (items ++ g.more) g.rest g.are g.breaks)
      not_held Memory g =
          let first = come_first s.reader.limit (bytes ++ part) items rest are partial (bytes ++ g.front) g.later (items ++ g.more) g.rest (whole g.front g.later g.parts) g.are in
          let none : g.more ≡ [] = none_more items g.more first.0 first.1 in
          begins_at s others (bytes ++ part) messages items rest f.done [] [] new.core are all_done f.sent (unchanged g.more none g.reader_is)
      not_held _ g = absurd g

      -- memory ran out then
      pub not_held_then : (flag : Bool) → Goes now part b before bytes items old.reader new [] out (Ok flag) → Begins s others (for_next_client new.core) (bytes ++ part) messages
      not_held_then true g =
          let first = come_first s.reader.limit (bytes ++ part) items rest are partial (bytes ++ g.front) g.later (items ++ (g.more ++ g.last ∷ [])) [] (whole g.front g.later g.parts) g.are in
          absurd (not_none g.more g.last (none_more items (g.more ++ g.last ∷ []) first.0 first.1))
      not_held_then false g =
          let same : items ++ g.more ≡ items = same_so_far s.reader.limit (bytes ++ part) items rest are partial (items ++ g.more) g.lives.rest g.lives.are g.lives.decoder.unfinished in
          let none : g.more ≡ [] = none_more items g.more [] (sym same ∙ sym (append-nil (items ++ g.more))) in
          begins_at s others (bytes ++ part) messages items rest f.done [] [] new.core are all_done f.sent (unchanged g.more none g.lives.reader_is)

    -- ---- they end a frame

    module _ (item : Item) (are : ItemsSoFarIn Standard s.reader.limit (bytes ++ part) (items ++ item ∷ []) []) (is_now : now ≡ old.moment) where
      -- the item's step
      abbrev step : Dated
      step = (next_step s items item).dated

      taken_is : (more : List Item) → more ≡ item ∷ [] → taken_after now b items more ≡ step ∷ []
      taken_is more one =
          let moment : now ≡ moment_after (came s.answers First items) s.entries = is_now ∙ moment_of_done (came s.answers First items) s.entries old.script old.done old.moment f.entries in
          ap (λ (m : List Item). taken_after now b items m) one ∙ ap (λ (n : ℕ). let d : Dated = record { now = n; doing = doing s.answers (agreed First items) item } in d ∷ []) moment

      -- all that is done, where it is the last that was done, and where the one before it is
      all_with : IsDone s others (items ++ item ∷ []) ((f.done ++ next_step s items item ∷ []) ++ due_here s items item)
      all_with = subst (λ (xs : List Step). IsDone s others (items ++ item ∷ []) xs) (sym (append_assoc f.done (next_step s items item ∷ []) (due_here s items item)))
          (is_done_more s others items (items ++ item ∷ []) f.done (next_step s items item ∷ due_here s items item) f.is_done (steps-snoc s items item))

      all_before : IsDone s others (items ++ item ∷ []) ((f.done ++ []) ++ (next_step s items item ∷ due_here s items item))
      all_before = subst (λ (xs : List Step). IsDone s others (items ++ item ∷ []) (xs ++ (next_step s items item ∷ due_here s items item))) (sym (append-nil f.done))
          (is_done_more s others items (items ++ item ∷ []) f.done (next_step s items item ∷ due_here s items item) f.is_done (steps-snoc s items item))

      -- the reader after it
      with_it : (more : List Item) → more ≡ item ∷ [] → new.core ≡ (course s.reader (before ++ taken_after now b items more)).reader → new.core ≡ (once core step step.doing).reader
      with_it more one is = is ∙ ap (λ (ds : List Dated). (course s.reader (before ++ ds)).reader) (taken_is more one) ∙ reader-append s.reader before (step ∷ [])

      said_is : (more : List Item) → more ≡ item ∷ [] → out ≡ [] ++ (course old.reader.core (taken_after now b items more)).said → out ≡ (once core step step.doing).said
      said_is more one is = is ∙ ap (λ (ds : List Dated). (course old.reader.core ds).said) (taken_is more one) ∙ ap (λ (r : Reader). (course r (step ∷ [])).said) f.lives.reader_is ∙ append-nil (once core step step.doing).said

      -- memory ran out once the item was taken
      pub begins_with : new.core ≡ (once core step step.doing).reader → Begins s others (for_next_client new.core) (bytes ++ part) messages
      begins_with is = begins_at s others (bytes ++ part) messages (items ++ item ∷ []) [] f.done (next_step s items item ∷ []) (due_here s items item) new.core are all_with f.sent is

      -- What the reader made of the item.
      pub record Fed (flag : Bool) : Type 0 where
        pub said : out ≡ (once core step step.doing).said
        pub core_is : new.core ≡ (once core step step.doing).reader
        pub closing : closes item ≡ flag
        pub lives : flag ≡ false → Lives b (before ++ step ∷ []) (bytes ++ part) (items ++ item ∷ []) new

      pub fed : (flag : Bool) → Goes now part b before bytes items old.reader new [] out (Ok flag) → Fed flag
      fed true g =
          let first = come_first s.reader.limit (bytes ++ part) (items ++ item ∷ []) [] are partial_none (bytes ++ g.front) g.later (items ++ (g.more ++ g.last ∷ [])) [] (whole g.front g.later g.parts) g.are in
          let one = closing_one items g.more first.0 g.last item first.1 in
          let all : g.more ++ g.last ∷ [] ≡ item ∷ [] = ap (λ (m : List Item). m ++ g.last ∷ []) one.0 ∙ ap (λ (i : Item). i ∷ []) one.1 in
          record {
            said = said_is (g.more ++ g.last ∷ []) all g.said;
            core_is = with_it (g.more ++ g.last ∷ []) all g.reader_is;
            closing = subst (λ (i : Item). closes i ≡ true) one.1 g.closing;
            lives = λ e. absurd cc;
          }
      fed false g =
          let same : items ++ g.more ≡ items ++ item ∷ [] = same_so_far s.reader.limit (bytes ++ part) (items ++ item ∷ []) [] are partial_none (items ++ g.more) g.lives.rest g.lives.are g.lives.decoder.unfinished in
          let one : g.more ≡ item ∷ [] = is_one items g.more item same in
          let still = subst (λ (m : List Item). NoneCloses m) one g.none in
          let lives = subst (λ (m : List Item). Lives b (before ++ taken_after now b items g.more) (bytes ++ part) (items ++ m) new) one g.lives in
          record {
            said = said_is g.more one g.said;
            core_is = with_it g.more one g.lives.reader_is;
            closing = still.0;
            lives = λ e. subst (λ (ds : List Dated). Lives b (before ++ ds) (bytes ++ part) (items ++ item ∷ []) new) (taken_is g.more one) lives;
          }

      pub not_fed : (error : ToolErr) → Fails now part b before bytes items old.reader new [] out error → Begins s others (for_next_client new.core) (bytes ++ part) messages
      not_fed Broken g = absurd (no_break s.reader.limit (bytes ++ part) (items ++ item ∷ []) [] are partial_none (items ++ g.more) g.rest g.are g.breaks)
      not_fed Memory g =
          let first = come_first s.reader.limit (bytes ++ part) (items ++ item ∷ []) [] are partial_none (bytes ++ g.front) g.later (items ++ g.more) g.rest (whole g.front g.later g.parts) g.are in
          elim (one_or_none items g.more first.0 item first.1) [
            | inl none ↦ begins_at s others (bytes ++ part) messages (items ++ item ∷ []) [] f.done [] (next_step s items item ∷ due_here s items item) new.core are all_before f.sent (unchanged g.more none g.reader_is)
            | inr one ↦ begins_with (with_it g.more one g.reader_is)
          ]
      not_fed _ g = absurd g

      -- what is sent with it
      sent_with : (placed : List MessageTree) → IsSentTo item (once core step step.doing).said placed → AreSent s.reader (f.done ++ next_step s items item ∷ []) (messages ++ placed)
      sent_with placed one = are_append s.reader f.done (next_step s items item ∷ []) messages placed f.sent (placed, [], sym (append-nil placed), one, refl)

      pub closed : (placed : List MessageTree) → Fed true → IsSentTo item out placed → HasClosed s others (for_next_client new.core) (bytes ++ part) (messages ++ placed)
      closed placed k one = record {
        items = items;
        last = item;
        rest = [];
        are = are;
        none = f.none;
        closing = k.closing;
        done = f.done;
        is_done = f.is_done;
        sent = sent_with placed (subst (λ (said : List MessageTree). IsSentTo item said placed) k.said one);
        leaves = ap for_next_client (k.core_is ∙ sym (reader-append s.reader before (step ∷ [])) ∙ ap (λ (ds : List Dated). (course s.reader ds).reader) (sym (dated-append f.done (next_step s items item ∷ []))));
      }

      pub goes_on : (server : WholeReader) (placed sent0 sent1 : List MessageTree) → server.reader ≡ new → Fed false → IsSentTo item out placed → sent1 ≡ sent0 ++ placed → FetchedOn s f.done (bytes ++ part) items item server sent0 sent1
      goes_on server placed sent0 sent1 same_reader k one sent = record {
        placed = placed;
        sent = sent;
        is = subst (λ (said : List MessageTree). IsSentTo item said placed) k.said one;
        open_still = k.closing;
        lives = rw same_reader (k.lives refl);
      }

      pub fetched : (flag : Bool) → Goes now part b before bytes items old.reader new [] out (Ok flag) → (server : WholeReader) (placed sent0 sent1 : List MessageTree) → server.reader ≡ new → IsSentTo item out placed → sent1 ≡ sent0 ++ placed
          → Fetched s others f.done (bytes ++ part) messages items item server sent0 sent1 (Ok flag)
      fetched true g server placed sent0 sent1 same_reader one sent = (placed, sent, rw same_reader (closed placed (fed true g) one))
      fetched false g server placed sent0 sent1 same_reader one sent = goes_on server placed sent0 sent1 same_reader (fed false g) one sent

      -- memory ran out then
      pub not_fed_then : (flag : Bool) → Goes now part b before bytes items old.reader new [] out (Ok flag) → Begins s others (for_next_client new.core) (bytes ++ part) messages
      not_fed_then flag g = let k = fed flag g in begins_with k.core_is
