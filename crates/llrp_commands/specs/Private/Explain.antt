-- The steps of `llrp explain`.
use Rattle.std.specs.Prelude.{◌≡◌, ℕ, List, [], ◌++◌, Bool, true, false, Option, Result, Ok, Err}
use Rattle.llrp_explain.specs.declared.explained.Explainer.{Explainer}
use Rattle.llrp_explain.specs.Calls.Explained.{ExplainsOnly}
use Rattle.llrp_explain.specs.Calls.Explaining.{ExplainedSoFar}
use Rattle.llrp_listing.specs.declared.outcome.ToolErr.{ToolErr}
use Rattle.llrp_listing.specs.declared.outcome.ToolErr.TheVariants.{Hex, Memory, Write}
use Rattle.llrp_listing.specs.declared.outcome.Verdict.{Verdict}
use Rattle.llrp_listing.specs.Copying.{IsPrefix}
use Rattle.llrp_listing.specs.Show.{verdict_of}
use Rattle.llrp_stream.specs.Device.{SinkLog, Wrote, WroteAndFailed}
use Rattle.llrp_commands.specs.Calls.Digits.{Spells}

-- A piece was taken, and the text of the frames that are whole was written.
pub record Handed (new : Explainer) (stream taken : List ℕ) (w0 w1 : SinkLog) (goes : Bool) : Type 0 where
  pub text : List ℕ
  pub wrote : Wrote w0 w1 text
  pub empty : new.text.items ≡ []
  pub so_far : ExplainedSoFar new stream (taken ++ text)
  pub stopped : goes ≡ false → (others : List ℕ) → ExplainedSoFar new (stream ++ others) (taken ++ text)

-- The piece was taken, and a write of that text failed.
pub record Unhanded (old : Explainer) (stream taken : List ℕ) (w0 w1 : SinkLog) : Type 0 where
  pub now : Explainer
  pub form_is : now.form ≡ old.form
  pub only_is : now.only ≡ old.only
  pub set_is : now.set ≡ old.set
  pub limit_is : now.limit ≡ old.limit
  pub so_far : ExplainedSoFar now stream taken
  pub front : List ℕ
  pub begins : IsPrefix front now.text.items
  pub failed : WroteAndFailed w0 w1 front

-- what became of a piece, after which the stream is this one
abbrev pub HandsOn : (old new : Explainer) → (stream taken : List ℕ) → SinkLog → SinkLog → Result Bool ToolErr → Type 0
HandsOn old new stream taken w0 w1 (Ok goes) = Handed new stream taken w0 w1 goes
HandsOn old new stream taken w0 w1 (Err Memory) = w1 ≡ w0
HandsOn old new stream taken w0 w1 (Err Write) = Unhanded old stream taken w0 w1
HandsOn old new stream taken w0 w1 (Err _) = ⊥

-- What became of a piece of digits, after which these were read: of the octets that they spell. `half` is that of the digits that were taken.
abbrev pub HandsDigits : (old new : Explainer) → (half : Option ℕ) → (digits taken : List ℕ) → SinkLog → SinkLog → Result Bool ToolErr → Type 0
HandsDigits old new half digits taken w0 w1 (Ok goes) = (octets : List ℕ) × (right : Bool) × Spells digits octets half right × Handed new octets taken w0 w1 goes × (goes ≡ true → right ≡ true)
HandsDigits old new half digits taken w0 w1 (Err Hex) = (octets : List ℕ) × Spells digits octets half false × Handed new octets taken w0 w1 true
HandsDigits old new half digits taken w0 w1 (Err Memory) = w1 ≡ w0
HandsDigits old new half digits taken w0 w1 (Err Write) = (octets : List ℕ) × (right : Bool) × Spells digits octets half right × Unhanded old octets taken w0 w1
HandsDigits old new half digits taken w0 w1 (Err _) = ⊥

-- this is the text of the end, and of all that was not taken before it
abbrev pub IsLast : Explainer → (text : List ℕ) → Bool → Type 0
IsLast explainer text lawful = (stream taken : List ℕ) → ExplainedSoFar explainer stream taken → ExplainsOnly explainer.form explainer.only explainer.set explainer.limit stream (taken ++ text) lawful

-- what became of the end
abbrev pub Ends : Explainer → SinkLog → SinkLog → Result Verdict ToolErr → Type 0
Ends explainer w0 w1 (Ok verdict) = (text : List ℕ) × (lawful : Bool) × IsLast explainer text lawful × Wrote w0 w1 text × (verdict ≡ verdict_of lawful)
Ends explainer w0 w1 (Err Memory) = w1 ≡ w0
Ends explainer w0 w1 (Err Write) = (text front : List ℕ) × (lawful : Bool) × IsLast explainer text lawful × IsPrefix front text × WroteAndFailed w0 w1 front
Ends explainer w0 w1 (Err _) = ⊥
