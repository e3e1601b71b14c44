-- What it makes of a reader that another client came.
use Rattle.std.proofs.Common.{◌≡◌, ℕ, ◌+◌, List, [], ◌∷◌, ◌++◌, Ok, refl, sym, ap, subst, ◌∙◌}
use Rattle.std.proofs.lemmas.List.{append-nil}
use Rattle.llrp_tree.specs.Tree.{MessageTree}
use Rattle.llrp_session.specs.Calls.NextClient.{for_next_client}
use Rattle.llrp_session.specs.ReaderMachine.{Reader}
use Rattle.llrp_live.specs.declared.reader.LiveReader.{LiveReader}
use Rattle.llrp_live.specs.Calls.Doings.{Dated, course, once}
use Rattle.llrp_live.specs.Calls.Living.{Happened, Lives, begun}
use Rattle.llrp_general.specs.Calls.Serving.{Setting, Step, AreSent, Begins, all_dated, other_came}
use Rattle.llrp_general.specs.Private.Standing.{Fed, Stands}
use Rattle.llrp_general.specs.declared.serving.Going.TheVariants.{On}
use Rattle.llrp_general.specs.declared.serving.WholeReader.{WholeReader}
use Rattle.llrp_general.proofs.ActingLemmas.{dated-append}
use Rattle.llrp_general.proofs.NoteLemmas.{is_done_other, last-append}
use Rattle.llrp_general.proofs.StepLemmas.{are_append}

module _ (s : Setting) (others : ℕ) (bytes : List ℕ) (messages : List MessageTree) (old : WholeReader) (h : Stands s others bytes messages old) where
  -- the note
  abbrev note : Step
  note = other_came old.moment

  -- the reader before
  abbrev core : Reader
  core = (course s.reader (all_dated h.follows.done)).reader

  -- memory ran out before it
  pub not_noted : (reader : LiveReader) → reader ≡ old.reader → Begins s (others + 1) (for_next_client reader.core) bytes messages
  not_noted reader same = record {
    items = h.items;
    rest = h.rest;
    are = h.are;
    done = h.follows.done;
    undone = note ∷ [];
    is_done = is_done_other s others h.items h.follows.done old.moment h.follows.is_done h.follows.moment;
    unsent = [];
    sent = subst (λ (z : List MessageTree). AreSent s.reader h.follows.done z) (sym (append-nil messages)) h.follows.sent;
    leaves = rw same (ap for_next_client h.follows.lives.reader_is);
  }

  module _ (new : WholeReader) (sent0 sent1 : List MessageTree) (k : Happened note.dated (begun s.reader s.answers) (all_dated h.follows.done) bytes h.items old.reader new.reader sent0 sent1) where
    -- what it says
    abbrev said : List MessageTree
    said = (once core note.dated note.dated.doing).said

    sent_is : sent1 ≡ sent0 ++ said
    sent_is = k.said ∙ ap (λ (r : Reader). sent0 ++ (course r (note.dated ∷ [])).said) h.follows.lives.reader_is ∙ ap (λ (z : List MessageTree). sent0 ++ z) (append-nil said)

    pub noted : new.script ≡ old.script → new.done ≡ old.done → new.moment ≡ old.moment → new.decoder ≡ old.decoder → Fed s (others + 1) bytes messages new sent0 sent1 (Ok On)
    noted script done moment same = (
      said,
      sent_is,
      record {
        items = h.items;
        rest = h.rest;
        are = h.are;
        follows = record {
          none = h.follows.none;
          done = h.follows.done ++ note ∷ [];
          is_done = is_done_other s others h.items h.follows.done old.moment h.follows.is_done h.follows.moment;
          sent = are_append s.reader h.follows.done (note ∷ []) messages said h.follows.sent (said, [], sym (append-nil said), refl, refl);
          lives = subst (λ (ds : List Dated). Lives (begun s.reader s.answers) ds bytes h.items new.reader) (sym (dated-append h.follows.done (note ∷ []))) k.lives;
          entries = rw (script, done, moment) h.follows.entries;
          moment = moment ∙ sym (last-append 0 h.follows.done (note ∷ []));
        };
        decoder = rw same h.decoder;
        limit = rw same h.limit;
      },
    )
