-- What the options of epc ask for is one thing.
use Rattle.std.proofs.Common.{◌≡◌, ◌∙◌, ℕ, Bool, true, false, List, Option, Some, None, Ok, Err, refl, sym, ap, subst, codes, inl, inr}
use Rattle.std.specs.Prelude.{Result, option_map, pos}
use Rattle.std.specs.Str.Parse.{signed_digits_value}
use Rattle.clap.specs.Words.{Row, Text}
use Rattle.llrp_listing.specs.declared.outcome.ToolErr.{ToolErr}
use Rattle.llrp_listing.specs.declared.outcome.Verdict.{Verdict}
use Rattle.llrp_stream.specs.Device.{SourceLog, SinkLog}
use Rattle.llrp_words.specs.declared.arguments.epc_words.EpcWords.{EpcWords}
use Rattle.llrp_words.specs.Calls.Arguments.{AsksEpcWith, HasOptionalNumber, IsFlag, command_in}
use Rattle.llrp_commands.specs.Calls.Command.{Answers, RanEpc, verdict_status}
use Rattle.llrp_commands.specs.Calls.Epc.{AnswersEpc, RanEpcWith, some_of}
use Rattle.llrp_words.specs.Calls.Requests.{IsEpc}
use Rattle.llrp_words.proofs.ArgumentLemmas.{differs}

flag_unique : (found : Option Text) (a b : Bool) → IsFlag found a → IsFlag found b → a ≡ b
flag_unique found true true p q = refl
flag_unique found false false p q = refl
flag_unique found true false p (inl q) =
    let same : codes "true" ≡ codes "false" = let both : Some (codes "true") ≡ Some (codes "false") = sym p ∙ q in cc in
    absurd (differs (codes "true") (codes "false") refl same)
flag_unique found true false p (inr q) = let bad : Some (codes "true") ≡ None = sym p ∙ q in cc
flag_unique found false true (inl p) q =
    let same : codes "true" ≡ codes "false" = let both : Some (codes "true") ≡ Some (codes "false") = sym q ∙ p in cc in
    absurd (differs (codes "true") (codes "false") refl same)
flag_unique found false true (inr p) q = let bad : Some (codes "true") ≡ None = sym q ∙ p in cc

pub number_unique : (id : Text) (found : Option (Text × List Row)) (a b : Option ℕ) → HasOptionalNumber id found a → HasOptionalNumber id found b → a ≡ b
number_unique id found None None p q = refl
number_unique id found (Some m) (Some n) p q = let both : Some (pos m) ≡ Some (pos n) = sym p ∙ q in cc
number_unique id found (Some m) None p q = let bad : Some (pos m) ≡ None = sym p ∙ ap (option_map (signed_digits_value 10)) q in cc
number_unique id found None (Some n) p q = let bad : Some (pos n) ≡ None = sym q ∙ ap (option_map (signed_digits_value 10)) p in cc

-- what holds of the options that were read holds of those that the words give
pub as_asked : (P : Option Text → Bool → Bool → Bool → Option Text → Option Text → Option ℕ → Option ℕ → Type 0) (words : List Text) (x : EpcWords) (text to schemes : Option Text) (forms list json : Bool) (count filter : Option ℕ) (file : Option Text)
    → IsEpc (command_in words) x → AsksEpcWith words text forms list json to schemes count filter file
    → P (option_map (λ t. t.now) x.text) x.forms x.list x.json (option_map (λ t. t.now) x.to) (option_map (λ t. t.now) x.schemes) x.company_digits x.filter → P text forms list json to schemes count filter
as_asked P words x text to schemes forms list json count filter file is asks holds =
    let t : option_map (λ t. t.now) x.text ≡ text = sym is.0 ∙ asks.given in
    let f : x.forms ≡ forms = flag_unique _ x.forms forms is.1 asks.all in
    let l : x.list ≡ list = flag_unique _ x.list list is.2 asks.lines in
    let j : x.json ≡ json = flag_unique _ x.json json is.3 asks.object in
    let n : option_map (λ t. t.now) x.to ≡ to = sym is.4 ∙ asks.form in
    let s : option_map (λ t. t.now) x.schemes ≡ schemes = sym is.8 ∙ asks.set in
    let c : x.company_digits ≡ count = number_unique (codes "prefix-digits") (command_in words) x.company_digits count is.5 asks.digits in
    let v : x.filter ≡ filter = number_unique (codes "filter") (command_in words) x.filter filter is.6 asks.value in
    subst (λ (z : Option Text). P z forms list json to schemes count filter) t
    (subst (λ (z : Bool). P (option_map (λ t. t.now) x.text) z list json to schemes count filter) f
    (subst (λ (z : Bool). P (option_map (λ t. t.now) x.text) x.forms z json to schemes count filter) l
    (subst (λ (z : Bool). P (option_map (λ t. t.now) x.text) x.forms x.list z to schemes count filter) j
    (subst (λ (z : Option Text). P (option_map (λ t. t.now) x.text) x.forms x.list x.json z schemes count filter) n
    (subst (λ (z : Option Text). P (option_map (λ t. t.now) x.text) x.forms x.list x.json (option_map (λ t. t.now) x.to) z count filter) s
    (subst (λ (z : Option ℕ). P (option_map (λ t. t.now) x.text) x.forms x.list x.json (option_map (λ t. t.now) x.to) (option_map (λ t. t.now) x.schemes) z filter) c
    (subst (λ (z : Option ℕ). P (option_map (λ t. t.now) x.text) x.forms x.list x.json (option_map (λ t. t.now) x.to) (option_map (λ t. t.now) x.schemes) x.company_digits z) v holds)))))))

plain_answer : (v : Result Verdict ToolErr) (e0 e1 : SinkLog) (answer : Result ℕ ToolErr) → AnswersEpc (some_of v) e0 e1 answer → Answers (verdict_status v) e0 e1 answer
plain_answer (Ok verdict) e0 e1 answer h = h
plain_answer (Err error) e0 e1 answer h = h

-- without an option epc does what it does with a text
pub ran_plain : (text : Text) (r0 r1 : SourceLog) (w0 w1 e0 e1 : SinkLog) (answer : Result ℕ ToolErr) → RanEpcWith (Some text) false false false None None None None r0 r1 w0 w1 e0 e1 answer → RanEpc text r0 r1 w0 w1 e0 e1 answer
ran_plain text r0 r1 w0 w1 e0 e1 answer (inl none) = inl none
ran_plain text r0 r1 w0 w1 e0 e1 answer (inr (outcome, (v, unread, prints, is), answers)) = inr (v, unread, prints, plain_answer v e0 e1 answer (subst (λ (o : Result (Option Verdict) ToolErr). AnswersEpc o e0 e1 answer) is answers))
