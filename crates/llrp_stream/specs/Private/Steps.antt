-- What the functions of the engine ask for and promise, wherever it has come. A listener received what the relations of what is held and of an open tree say.
use Rattle.std.specs.Prelude.{◌≡◌, ℕ, ◌+◌, ◌*◌, ◌<◌, ◌≤◌, ◌^◌, Bool, true, List, [], ◌∷◌, length, drop, Result, MatchResult}
use Rattle.llrp_schema.specs.declared.kinds.Kind.TheVariants.{Parameter}
use Rattle.llrp_schema.specs.Schema.{FieldRule, fields_of, groups_of}
use Rattle.llrp_tree.specs.declared.fault.Fault.{Fault}
use Rattle.llrp_tree.specs.declared.fault.FrameErr.{FrameErr}
use Rattle.llrp_tree.specs.declared.fault.FrameErr.TheVariants.{Memory}
use Rattle.llrp_tree.specs.Spelling.{Head}
use Rattle.llrp_tree.specs.OpenTree.{Begun, kind_of_head, in_range}
use Rattle.llrp_tree.specs.FirstFault.{number, field_checks}
use Rattle.llrp_tree.specs.Calls.Standing.{leading}
use Rattle.llrp_tree.specs.Private.Standing.{FailsFirst}
use Rattle.llrp_stream.specs.declared.engine.stack.Placed.{Placed}
use Rattle.llrp_stream.specs.declared.engine.body_reader.ReadParts.{ReadParts}
use Rattle.llrp_stream.specs.declared.engine.body_reader.BodyReader.{BodyReader}
use Rattle.llrp_stream.specs.declared.engine.body_reader.Step.{Step}
use Rattle.llrp_stream.specs.Calls.Front.{Reaches}
use Rattle.llrp_stream.specs.Calls.Reading.{Are, AreSeen, HasReadTo, with_begun}
use Rattle.llrp_stream.specs.Private.Front.{FailsWith}
use Rattle.llrp_stream.specs.Private.Pieces.{ReadsOn}
use Rattle.llrp_stream.specs.Private.Reading.{Moves, Steps, StepsHanded, TakesOneValue}

-- the field of a rule has this value, or the error is the first check that it fails
abbrev pub FieldSays : FieldRule → (at stop : ℕ) → List Bool → Result ℕ FrameErr → Type 0
FieldSays rule at stop rest result = MatchResult result (λ v. (v ≡ number rest 0 rule.width) × (in_range rule v ≡ true) × (v < 2 ^ rule.width)) (FailsFirst (field_checks rule at stop rest))

-- ---- where the innermost node is known

-- the engine has read a front, and the listener received what is read
abbrev pub HasCome : (heard : List ℕ → List Begun → Type 0) → BodyReader → Type 0
HasCome heard r = (front : List ℕ) × (b : Begun) × (outer : List Begun) × HasReadTo r front b outer × (was : List ℕ) × heard was (b ∷ outer)

-- the same, and these octets are left of the front
abbrev pub HasComeTo : (heard : List ℕ → List Begun → Type 0) → BodyReader → List ℕ → Type 0
HasComeTo heard r octets = (front : List ℕ) × (b : Begun) × (outer : List Begun) × HasReadTo r front b outer × (was : List ℕ) × heard was (b ∷ outer) × (drop r.at front ≡ octets)

-- wherever the engine has come to these octets, this holds of what the listener held before and of the front
abbrev pub Wherever : (heard : List ℕ → List Begun → Type 0) → BodyReader → List ℕ → (List ℕ → List ℕ → Type 0) → Type 0
Wherever heard r octets holds = (was front : List ℕ) (b : Begun) (outer : List Begun) → HasReadTo r front b outer → heard was (b ∷ outer) → drop r.at front ≡ octets → holds was front

-- wherever it has come, this is what a step does
abbrev pub StepsOn : (heard begins stands : List ℕ → List Begun → Type 0) → (old new : BodyReader) → List ℕ → Result Step FrameErr → Type 0
StepsOn heard begins stands old new octets result = Wherever heard old octets (λ was front. Steps (begins was) (stands was) old new front octets result)

-- wherever it has come, this many octets are taken
abbrev pub MovesOn : (heard begins stands : List ℕ → List Begun → Type 0) → (old new : BodyReader) → List ℕ → ℕ → Type 0
MovesOn heard begins stands old new octets used = Wherever heard old octets (λ was front. Moves (begins was) (stands was) old new front octets used)

-- wherever it has come, the error is the fault of the frame, or that memory ran out
abbrev pub FailsOn : (heard begins stands : List ℕ → List Begun → Type 0) → (old new : BodyReader) → List ℕ → FrameErr → Type 0
FailsOn heard begins stands old new octets error = Wherever heard old octets (λ was front. FailsWith (begins was) (stands was) new old.at old.set front old.octets error)

-- wherever a field of this rule is the next one, this is what a step does
abbrev pub StepsOnField : (heard begins stands : List ℕ → List Begun → Type 0) → (old new : BodyReader) → List ℕ → (next : ℕ) → FieldRule → Result Step FrameErr → Type 0
StepsOnField heard begins stands old new octets next rule result = (was front : List ℕ) (b : Begun) (outer : List Begun) (others : List FieldRule) → HasReadTo old front b outer → heard was (b ∷ outer)
    → drop old.at front ≡ octets
    → drop next (fields_of old.top.kind) ≡ rule ∷ others
    → Steps (begins was) (stands was) old new front octets result

-- wherever a child whose head has this many octets may begin, which stops at an octet, this is what a step into it does
abbrev pub StepsInto : (heard begins stands : List ℕ → List Begun → Type 0) → (old new : BodyReader) → Placed → (used stop : ℕ) → Result Step FrameErr → Type 0
StepsInto heard begins stands old new child used stop result = (octets was front : List ℕ) (b : Begun) (outer : List Begun) (h : Head) → HasReadTo old front b outer → heard was (b ∷ outer)
    → drop old.at front ≡ octets
    → kind_of_head h ≡ Parameter child.kind
    → AreSeen (groups_of old.top.kind) (with_begun b.children (Parameter child.kind)) child.seen.bits
    → Reaches old.set front old.octets (leading h (8 * stop) [] ∷ b ∷ outer) (8 * (old.at + used))
    → used ≤ length octets
    → Steps (begins was) (stands was) old new front octets result

-- ---- where both have come so far

-- the engine and the listener have come to these octets
abbrev pub AreBefore : (begins stands : List ℕ → List Begun → Type 0) → BodyReader → List ℕ → Type 0
AreBefore begins stands r octets = (was front : List ℕ) × Are (begins was) (stands was) r front × (drop r.at front ≡ octets)

-- wherever both have come to these octets, this holds of what the listener held before and of the front
abbrev pub Whenever : (begins stands : List ℕ → List Begun → Type 0) → BodyReader → List ℕ → (List ℕ → List ℕ → Type 0) → Type 0
Whenever begins stands r octets holds = (was front : List ℕ) → Are (begins was) (stands was) r front → drop r.at front ≡ octets → holds was front

-- wherever both have come, this is what a step does; the first two relations are of what was received before it
abbrev pub StepsFrom : (begins0 stands0 begins stands : List ℕ → List Begun → Type 0) → (old new : BodyReader) → List ℕ → Result Step FrameErr → Type 0
StepsFrom begins0 stands0 begins stands old new octets result = Whenever begins0 stands0 old octets (λ was front. Steps (begins was) (stands was) old new front octets result)

-- the same, where a fault is handed on
abbrev pub HandsFrom : (begins0 stands0 begins stands : List ℕ → List Begun → Type 0) (faulty : List ℕ → List Begun → List ℕ → Fault → Type 0) → (old new : BodyReader) → List ℕ → Result Step FrameErr → Type 0
HandsFrom begins0 stands0 begins stands faulty old new octets result = Whenever begins0 stands0 old octets (λ was front. StepsHanded (begins was) (stands was) (faulty was) old new front octets result)

-- the same of all steps that these octets allow
abbrev pub ReadsFrom : (begins0 stands0 begins stands : List ℕ → List Begun → Type 0) (faulty : List ℕ → List Begun → List ℕ → Fault → Type 0) → (old new : BodyReader) → List ℕ → Result ReadParts FrameErr → Type 0
ReadsFrom begins0 stands0 begins stands faulty old new octets result = Whenever begins0 stands0 old octets (λ was front. ReadsOn (begins was) (stands was) (faulty was) old new front octets result)

-- the same of a parameter of type and value that has this many octets
abbrev pub TakesFrom : (begins0 stands0 begins stands : List ℕ → List Begun → Type 0) → (old new : BodyReader) → List ℕ → ℕ → Type 0
TakesFrom begins0 stands0 begins stands old new octets used = Whenever begins0 stands0 old octets (λ was front. TakesOneValue (begins was) (stands was) old new front octets used)

-- the same of such parameters in a row, or memory ran out
abbrev pub TakesAllFrom : (begins0 stands0 begins stands : List ℕ → List Begun → Type 0) → (old new : BodyReader) → List ℕ → Result ℕ FrameErr → Type 0
TakesAllFrom begins0 stands0 begins stands old new octets result = Whenever begins0 stands0 old octets (λ was front. MatchResult result (TakesOneValue (begins was) (stands was) old new front octets) (λ error. error ≡ Memory))
