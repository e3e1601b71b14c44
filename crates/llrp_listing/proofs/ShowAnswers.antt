-- What a command that lists a stream returns.
use Rattle.std.proofs.Common.{◌≡◌, ℕ, Bool, true, false, List, [], ◌++◌, subst, Err, Ok, inl, inr}
use Rattle.llrp_schema.specs.declared.kinds.KindSet.{KindSet}
use Rattle.std.specs.Prelude.{Result, IfErr, IfOk, MatchResult}
use Rattle.std.proofs.lemmas.List.{append-nil}
use Rattle.llrp_stream.specs.Device.{SourceLog, SinkLog, Gave}
use Rattle.llrp_listing.specs.declared.outcome.ToolErr.{ToolErr}
use Rattle.llrp_listing.specs.declared.outcome.ToolErr.TheVariants.{Listing, Script, Read, Write, Bound, Memory, Hex, Broken, Peer, Strange, Early}
use Rattle.llrp_listing.specs.declared.outcome.Verdict.{Verdict}
use Rattle.llrp_stream.specs.declared.item.Item.{Item}
use Rattle.llrp_stream.specs.declared.item.End.{End}
use Rattle.llrp_stream.specs.declared.engine.frames.Frames.{Frames}
use Rattle.llrp_tree.specs.OpenTree.{Begun}
use Rattle.llrp_listing.specs.Copying.{ReadAll}
use Rattle.llrp_listing.specs.Encoding.{WasRead}
use Rattle.llrp_listing.specs.Private.Lister.{Feeds, Finishes}
use Rattle.llrp_listing.specs.Calls.Copying.{GivesNone}
use Rattle.llrp_listing.specs.Show.{WroteFramesAs, ListedAs, ShowStoppedAs, ShowsAs, StoppedAs}
use Rattle.llrp_listing.specs.Calls.ItemPrinter.{HasText}
use Rattle.llrp_stream.proofs.WritingLemmas.{same_failures}
use Rattle.llrp_listing.proofs.ShowLemmas.{text_held}

-- what a lister has, once it took a piece or broke off, has the text of earlier items
pub finishes_held : (IsText : Item → List ℕ → Type 0) (begins stands : List ℕ → List Begun → Type 0) (p : KindSet) (limit : ℕ) (bytes : List ℕ) (old now : SinkLog) (frames : Frames) (lawful : Bool) → Finishes IsText begins stands p limit bytes old now frames lawful
    → (was : List ℕ) × HasText begins stands was
finishes_held IsText begins stands p limit bytes old now frames lawful finishes = elim finishes [
  | inl goes ↦ (goes.0, text_held begins stands frames goes.1.front goes.0 goes.1.comes)
  | inr broken ↦ (broken.gathered, ([], inr broken.holds))
]

pub finishes_failures : (IsText : Item → List ℕ → Type 0) (begins stands : List ℕ → List Begun → Type 0) (p : KindSet) (limit : ℕ) (bytes : List ℕ) (old now : SinkLog) (frames : Frames) (lawful : Bool) → Finishes IsText begins stands p limit bytes old now frames lawful
    → now.failures ≡ old.failures
finishes_failures IsText begins stands p limit bytes old now frames lawful finishes = elim finishes [
  | inl goes ↦ same_failures old now goes.1.listed.sent goes.1.listed.log
  | inr broken ↦ same_failures old now broken.listed.sent broken.listed.log
]

module _ (IsText : Item → List ℕ → Type 0) (text_of_end : End → List ℕ) where
  -- after a piece all may be finished
  pub fed_finishes : (begins stands : List ℕ → List Begun → Type 0) (p : KindSet) (limit : ℕ) (bytes : List ℕ) (old now : SinkLog) (frames : Frames) (lawful goes_on : Bool) → Feeds IsText text_of_end begins stands p limit bytes old now frames lawful (Ok goes_on)
      → Finishes IsText begins stands p limit bytes old now frames lawful
  fed_finishes begins stands p limit bytes old now frames lawful true fed = inl ([], fed)
  fed_finishes begins stands p limit bytes old now frames lawful false fed = inr fed

  stopped_reading : (p : KindSet) (limit : ℕ) (r0 r1 : SourceLog) (w0 w1 : SinkLog) (bytes : List ℕ) (e : ToolErr) → WasRead r0 r1 bytes → StoppedAs IsText text_of_end p limit bytes w0 w1 e → ShowStoppedAs IsText text_of_end p limit r0 r1 w0 w1 e
  stopped_reading p limit r0 r1 w0 w1 bytes Write read stopped = (bytes, read, stopped)
  stopped_reading p limit r0 r1 w0 w1 bytes Memory read stopped = (bytes, read, stopped)
  stopped_reading p limit r0 r1 w0 w1 bytes Read read stopped = absurd stopped.log
  stopped_reading p limit r0 r1 w0 w1 bytes Bound read stopped = absurd stopped.log
  stopped_reading p limit r0 r1 w0 w1 bytes Hex read stopped = absurd stopped.log
  stopped_reading p limit r0 r1 w0 w1 bytes (Script line) read stopped = absurd stopped.log
  stopped_reading p limit r0 r1 w0 w1 bytes Broken read stopped = absurd stopped.log
  stopped_reading p limit r0 r1 w0 w1 bytes Early read stopped = absurd stopped.log
  stopped_reading p limit r0 r1 w0 w1 bytes (Peer status) read stopped = absurd stopped.log
  stopped_reading p limit r0 r1 w0 w1 bytes Strange read stopped = absurd stopped.log
  stopped_reading p limit r0 r1 w0 w1 bytes (Listing line reason) read stopped = absurd stopped.log

  -- listing stopped while it read
  pub shows_stopped : (p : KindSet) (limit k : ℕ) (r0 r1 : SourceLog) (w0 w1 : SinkLog) (bytes : List ℕ) (e : ToolErr) → Gave r0 r1 k bytes → StoppedAs IsText text_of_end p limit bytes w0 w1 e → ShowStoppedAs IsText text_of_end p limit r0 r1 w0 w1 e
  shows_stopped p limit k r0 r1 w0 w1 bytes e gave stopped = stopped_reading p limit r0 r1 w0 w1 bytes e (inl (k, gave)) stopped

  -- no piece came
  pub shows_none : (p : KindSet) (limit : ℕ) (r0 r1 : SourceLog) (w0 w1 : SinkLog) (bytes : List ℕ) (e : ToolErr) → GivesNone r0 r1 bytes e → WroteFramesAs IsText text_of_end p limit bytes w0 w1 → ShowStoppedAs IsText text_of_end p limit r0 r1 w0 w1 e
  shows_none p limit r0 r1 w0 w1 bytes e (inl none) written = rw none.0 (none.1, bytes, none.2, written)
  shows_none p limit r0 r1 w0 w1 bytes e (inr none) written = rw none.0 (bytes, none.1, written)

  -- all was read
  pub shows_all : (p : KindSet) (limit : ℕ) (r0 r1 : SourceLog) (w0 w1 : SinkLog) (bytes : List ℕ) (answer : Result Verdict ToolErr) → ReadAll r0 r1 bytes
      → MatchResult answer (λ verdict. ListedAs IsText text_of_end p limit bytes w0 w1 verdict) (λ e. StoppedAs IsText text_of_end p limit bytes w0 w1 e) → ShowsAs IsText text_of_end p limit r0 r1 w0 w1 answer
  shows_all p limit r0 r1 w0 w1 bytes (Ok verdict) all listed = inl (bytes, all, listed)
  shows_all p limit r0 r1 w0 w1 bytes (Err e) all stopped = stopped_reading p limit r0 r1 w0 w1 bytes e (inr all) stopped

  -- the stream broke
  pub shows_broken : (p : KindSet) (limit k : ℕ) (r0 r1 : SourceLog) (w0 w1 : SinkLog) (bytes : List ℕ) (answer : Result Verdict ToolErr) → Gave r0 r1 k bytes
      → ((more : List ℕ) → MatchResult answer (λ verdict. ListedAs IsText text_of_end p limit (bytes ++ more) w0 w1 verdict) (λ e. StoppedAs IsText text_of_end p limit (bytes ++ more) w0 w1 e)) → ShowsAs IsText text_of_end p limit r0 r1 w0 w1 answer
  shows_broken p limit k r0 r1 w0 w1 bytes (Ok verdict) gave listed = inr (k, bytes, gave, listed)
  shows_broken p limit k r0 r1 w0 w1 bytes (Err e) gave stopped = shows_stopped p limit k r0 r1 w0 w1 bytes e gave (subst (λ (x : List ℕ). StoppedAs IsText text_of_end p limit x w0 w1 e) (append-nil bytes) (stopped []))

  pub listed_of : (p : KindSet) (limit : ℕ) (bytes : List ℕ) (w0 w1 : SinkLog) (answer : Result Verdict ToolErr) → MatchResult answer (λ verdict. ListedAs IsText text_of_end p limit bytes w0 w1 verdict) (λ e. StoppedAs IsText text_of_end p limit bytes w0 w1 e) → IfOk answer (λ verdict. ListedAs IsText text_of_end p limit bytes w0 w1 verdict)
  listed_of p limit bytes w0 w1 (Ok verdict) m = m
  listed_of p limit bytes w0 w1 (Err e) m = tt

  pub stopped_of : (p : KindSet) (limit : ℕ) (bytes : List ℕ) (w0 w1 : SinkLog) (answer : Result Verdict ToolErr) → MatchResult answer (λ verdict. ListedAs IsText text_of_end p limit bytes w0 w1 verdict) (λ e. StoppedAs IsText text_of_end p limit bytes w0 w1 e) → IfErr answer (λ e. StoppedAs IsText text_of_end p limit bytes w0 w1 e)
  stopped_of p limit bytes w0 w1 (Ok verdict) m = tt
  stopped_of p limit bytes w0 w1 (Err e) m = m
