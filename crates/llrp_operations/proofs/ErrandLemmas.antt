-- Texts that say operations, one after another, and what they ask for together.
use Rattle.std.proofs.Common.{◌≡◌, ◌∙◌, ◌<◌, ◌+◌, ℕ, suc, Bool, true, false, List, [], ◌∷◌, ◌++◌, length, take, drop, get_or, add-one, ap, subst, sym, append_assoc}
use Rattle.std.proofs.Math.Seq.{drop-cons, take-append_seam, take-length, take-suc}
use Rattle.std.proofs.lemmas.List.{take-append-drop}
use Rattle.std.specs.Borrow.{Bor}
use Rattle.llrp_listing.proofs.Zips.{zip_append}
use Rattle.llrp_operations.specs.declared.errand.ErrandErr.{ErrandErr}
use Rattle.llrp_operations.specs.declared.errand.ErrandErr.TheVariants.{Tag, Uri, Text, Nothing, TooLong, Memory}
use Rattle.llrp_operations.specs.declared.errand.ErrandWords.{ErrandWords}
use Rattle.llrp_operations.specs.declared.errand.OperationOption.{OperationOption}
use Rattle.llrp_operations.specs.declared.errand.OperationOption.TheVariants.{Read, Write, Lock}
use Rattle.llrp_operations.specs.declared.errand.OwnErrand.{OwnErrand}
use Rattle.llrp_operations.specs.declared.operation.Operation.{Operation}
use Rattle.llrp_operations.specs.Calls.Changes.{checks}
use Rattle.llrp_operations.specs.Calls.Errands.{AllSaid, AreAsked, AreSaid, IsErrand, IsGiven, IsSaid, IsTag, RefusesOption, antenna_of, sent_of}
use Rattle.llrp_operations.specs.Private.Texts.{AddsGiven, AddsSaid, RefusesOne, RefusesOptions, RefusesTexts}

-- one more text says one more operation
pub said_more : (option : OperationOption) (texts : List (Bor (List ℕ))) (i : ℕ) (d : Bor (List ℕ)) (more : List Operation) (o : Operation) → i < length texts → AreSaid option (take i texts) more
    → IsSaid option (get_or texts i d).now o → AreSaid option (take (i + 1) texts) (more ++ (o ∷ []))
said_more option texts i d more o within are is =
    let R : Bor (List ℕ) → Operation → Type 0 = λ t p. IsSaid option t.now p in
    rw add-one (subst (λ (l : List (Bor (List ℕ))). AreSaid option l (more ++ (o ∷ []))) (sym (take-suc texts i d within)) (zip_append R (take i texts) (get_or texts i d ∷ []) more (o ∷ []) are (is, tt)))

-- a text that is refused, after some that are not
pub text_refused : (option : OperationOption) (texts : List (Bor (List ℕ))) (i : ℕ) (d : Bor (List ℕ)) (more : List Operation) (e : ErrandErr) → i < length texts → AreSaid option (take i texts) more
    → RefusesOne option (get_or texts i d).now e → RefusesTexts option texts e
text_refused option texts i d more Tag within are h = h
text_refused option texts i d more Uri within are h = h
text_refused option texts i d more (Text of e) within are h = (
  h.0,
  record {
    before = take i texts;
    text = get_or texts i d;
    after = drop (suc i) texts;
    texts_are = sym (take-append-drop i texts) ∙ ap (λ (l : List (Bor (List ℕ))). take i texts ++ l) (drop-cons texts i d within);
    said = (more, are);
    refused = h.1;
  },
)
text_refused option texts i d more Nothing within are h = h
text_refused option texts i d more TooLong within are h = h
text_refused option texts i d more Memory within are h = tt

-- ---- all options

-- what the options add, one after another, is what is asked for
pub asked_are : (w : ErrandWords) (old given : List ℕ) (none reads writes renamed all : List Operation) → none ≡ [] → AddsSaid Read w.reads.now none reads → AddsSaid Write w.writes.now reads writes
    → AddsGiven old given writes renamed → AddsSaid Lock w.locks.now renamed all → AreAsked w old given all
asked_are w old given none reads writes renamed all empty r s g l = record {
  reads = r.0;
  writes = s.0;
  renaming = g.0;
  locks = l.0;
  are_reads = r.1;
  are_writes = s.1;
  is_renaming = g.1;
  are_locks = l.1;
  order =
      l.2 ∙ ap (λ (os : List Operation). os ++ l.0) (g.2 ∙ ap (λ (os : List Operation). os ++ g.0) (s.2 ∙ ap (λ (os : List Operation). os ++ s.0) (r.2 ∙ ap (λ (os : List Operation). os ++ r.0) empty)))
      ∙ append_assoc (r.0 ++ s.0) g.0 l.0 ∙ append_assoc r.0 s.0 (g.0 ++ l.0);
}

-- ---- the first text that is refused

pub read_refused : (w : ErrandWords) (e : ErrandErr) → RefusesTexts Read w.reads.now e → RefusesOptions w e
read_refused w Tag h = h
read_refused w Uri h = h
read_refused w (Text option e) h = subst (λ (o : OperationOption). RefusesOption w o e) (sym h.0) h.1
read_refused w Nothing h = h
read_refused w TooLong h = h
read_refused w Memory h = tt

pub write_refused : (w : ErrandWords) (e : ErrandErr) → AllSaid Read w.reads.now → RefusesTexts Write w.writes.now e → RefusesOptions w e
write_refused w Tag reads h = h
write_refused w Uri reads h = h
write_refused w (Text option e) reads h = subst (λ (o : OperationOption). RefusesOption w o e) (sym h.0) (reads, h.1)
write_refused w Nothing reads h = h
write_refused w TooLong reads h = h
write_refused w Memory reads h = tt

pub lock_refused : (w : ErrandWords) (e : ErrandErr) → AllSaid Read w.reads.now → AllSaid Write w.writes.now → RefusesTexts Lock w.locks.now e → RefusesOptions w e
lock_refused w Tag reads writes h = h
lock_refused w Uri reads writes h = h
lock_refused w (Text option e) reads writes h = subst (λ (o : OperationOption). RefusesOption w o e) (sym h.0) (reads, writes, h.1)
lock_refused w Nothing reads writes h = h
lock_refused w TooLong reads writes h = h
lock_refused w Memory reads writes h = tt

-- ---- the errand

-- what is sent begins with what is asked for
front : (verifies : Bool) (os : List Operation) → take (length os) (sent_of verifies os) ≡ os
front true os = take-append_seam os (checks os)
front false os = take-length os

asked_is : (verifies : Bool) (os : List Operation) (n : ℕ) (sent : List Operation) → n ≡ length os → sent ≡ sent_of verifies os → take n sent ≡ os
asked_is verifies os n sent count is = ap (λ (k : ℕ). take k sent) count ∙ ap (λ (l : List Operation). take (length os) l) is ∙ front verifies os

pub errand_is : (w : ErrandWords) (own : OwnErrand) (os : List Operation) → IsTag w.tag.now own.epc.items → IsGiven w.epc own.given.items → own.antenna ≡ antenna_of w.antenna
    → AreAsked w own.epc.items own.given.items os → own.asked ≡ length os → own.sent.items ≡ sent_of w.verifies os → own.verifies ≡ w.verifies → own.json ≡ w.json → IsErrand w own
errand_is w own os tag given antenna are count sent verifies json =
    let same = asked_is w.verifies os own.asked own.sent.items count sent in
    record {
      tag = tag;
      given = given;
      antenna = antenna;
      asked = subst (λ (l : List Operation). AreAsked w own.epc.items own.given.items l) (sym same) are;
      sent = sent ∙ ap (λ (l : List Operation). sent_of w.verifies l) (sym same);
      verifies = verifies;
      json = json;
    }
