-- What `llrp epc` does, with an option or without.
use Rattle.std.specs.Prelude.{◌≡◌, ℕ, ◌⊎◌, List, ◌++◌, codes, decimal, Bool, true, false, Option, Some, None, Result, Ok, Err, unwrap_or}
use Rattle.clap.specs.Words.{Text}
use Rattle.std.specs.Borrow.{Bor}
use Rattle.tag_forms.specs.declared.company.Company.{Company}
use Rattle.tag_forms.specs.declared.company.Company.TheVariants.{Digits, Table}
use Rattle.tag_forms.specs.declared.form.Form.{Form}
use Rattle.tag_forms.specs.declared.prefixes.Prefixes.{Prefixes}
use Rattle.tag_forms.specs.declared.wanted.Wanted.{Wanted}
use Rattle.tag_forms.specs.declared.wanted.Wanted.TheVariants as wanted
use Rattle.tag_forms.specs.Forms.{form_name}
use Rattle.llrp_listing.specs.declared.outcome.ToolErr.{ToolErr}
use Rattle.llrp_listing.specs.declared.outcome.ToolErr.TheVariants.{Write}
use Rattle.llrp_listing.specs.declared.outcome.ToolErr.TheVariants as tool
use Rattle.llrp_listing.specs.Copying.{IsPrefix}
use Rattle.llrp_listing.specs.declared.outcome.Verdict.{Verdict}
use Rattle.llrp_listing.specs.Calls.EpcLines.{PrintsEpc}
use Rattle.llrp_keys.specs.TextLines.{AreAnswersOf, AreFormsOf, Prints}
use Rattle.llrp_keys.specs.AllForms.{AreFormsInAll}
use Rattle.llrp_keys.specs.AllSchemes.{ArePrintedInAll}
use Rattle.llrp_keys.specs.ListLines.{AnswersList}
use Rattle.llrp_keys.specs.PrefixLines.{ReadsTable}
use Rattle.llrp_keys.specs.declared.prefixes.TableErr.{TableErr}
use Rattle.llrp_keys.specs.declared.prefixes.TableErr.TheVariants.{Unread, Line, Two, Memory}
use Rattle.llrp_stream.specs.Device.{SourceLog, SinkLog, Wrote, WroteAndFailed}
use Rattle.llrp_words.specs.Calls.Arguments.{AsksEpcFile, AsksEpcWith}
use Rattle.llrp_commands.specs.Calls.Command.{Answers, IsNotBegun, LeftAlone, error_line, status_of}

-- what a command did whose options go together
abbrev pub some_of : Result Verdict ToolErr → Result (Option Verdict) ToolErr
some_of (Ok verdict) = Ok (Some verdict)
some_of (Err error) = Err error

-- its options do not go together: nothing was written
abbrev pub IsMistaken : SinkLog → SinkLog → Result (Option Verdict) ToolErr → Type 0
IsMistaken w0 w1 outcome = (outcome ≡ Ok None) × (w1 ≡ w0)

-- what is wanted in a form, in the seven schemes or in all: its text, or with --json an object with it
abbrev pub wanted_in : Bool → Bool → Form → Wanted
wanted_in false false to = wanted.Text to
wanted_in false true to = wanted.Member to
wanted_in true false to = wanted.TextInAll to
wanted_in true true to = wanted.MemberInAll to

-- a text was answered in the form with this name, if there is one, in the seven schemes or in all
abbrev pub DoesFormOf : Text → Text → Bool → Bool → ℕ → Company → SinkLog → SinkLog → Result (Option Verdict) ToolErr → Type 0
DoesFormOf text name all json filter company w0 w1 outcome =
    ((to : Form) × (v : Result Verdict ToolErr) × (name ≡ form_name to) × Prints (AreAnswersOf (wanted_in all json to) filter company text) w0 w1 v × (outcome ≡ some_of v))
    ⊎ (((to : Form) → name ≡ form_name to → ⊥) × IsMistaken w0 w1 outcome)

-- the same of a list of texts
abbrev pub DoesListIn : Text → Bool → Bool → ℕ → Company → SourceLog → SourceLog → SinkLog → SinkLog → Result (Option Verdict) ToolErr → Type 0
DoesListIn name all json filter company r0 r1 w0 w1 outcome =
    ((to : Form) × (v : Result Verdict ToolErr) × (name ≡ form_name to) × AnswersList (wanted_in all json to) filter company r0 r1 w0 w1 v × (outcome ≡ some_of v))
    ⊎ (((to : Form) → name ≡ form_name to → ⊥) × (r1 ≡ r0) × IsMistaken w0 w1 outcome)

-- a text was answered in the set of schemes with this name, which is all
abbrev pub DoesInSchemes : Text → Text → SinkLog → SinkLog → Result (Option Verdict) ToolErr → Type 0
DoesInSchemes text name w0 w1 outcome =
    ((v : Result Verdict ToolErr) × (name ≡ codes "all") × Prints (ArePrintedInAll text) w0 w1 v × (outcome ≡ some_of v))
    ⊎ ((name ≡ codes "all" → ⊥) × IsMistaken w0 w1 outcome)

-- all forms of a text's word were written in the set with this name, which is all
abbrev pub DoesFormsInSet : Text → Text → ℕ → Company → SinkLog → SinkLog → Result (Option Verdict) ToolErr → Type 0
DoesFormsInSet text set filter company w0 w1 outcome =
    ((v : Result Verdict ToolErr) × (set ≡ codes "all") × Prints (AreFormsInAll filter company text) w0 w1 v × (outcome ≡ some_of v))
    ⊎ ((set ≡ codes "all" → ⊥) × IsMistaken w0 w1 outcome)

-- the same as an object
abbrev pub DoesObjectInSet : Text → Text → ℕ → Company → SinkLog → SinkLog → Result (Option Verdict) ToolErr → Type 0
DoesObjectInSet text set filter company w0 w1 outcome =
    ((v : Result Verdict ToolErr) × (set ≡ codes "all") × Prints (AreAnswersOf wanted.ObjectInAll filter company text) w0 w1 v × (outcome ≡ some_of v))
    ⊎ ((set ≡ codes "all" → ⊥) × IsMistaken w0 w1 outcome)

-- a text was answered in a form in that set
abbrev pub DoesFormInSet : Text → Text → Text → Bool → ℕ → Company → SinkLog → SinkLog → Result (Option Verdict) ToolErr → Type 0
DoesFormInSet text set name json filter company w0 w1 outcome =
    ((set ≡ codes "all") × DoesFormOf text name true json filter company w0 w1 outcome)
    ⊎ ((set ≡ codes "all" → ⊥) × IsMistaken w0 w1 outcome)

-- a list of texts was answered in a form in that set
abbrev pub DoesListInSet : Text → Text → Bool → ℕ → Company → SourceLog → SourceLog → SinkLog → SinkLog → Result (Option Verdict) ToolErr → Type 0
DoesListInSet set name json filter company r0 r1 w0 w1 outcome =
    ((set ≡ codes "all") × DoesListIn name true json filter company r0 r1 w0 w1 outcome)
    ⊎ ((set ≡ codes "all" → ⊥) × (r1 ≡ r0) × IsMistaken w0 w1 outcome)

-- a list of texts was answered by objects in that set
abbrev pub DoesObjectsInSet : Text → ℕ → Company → SourceLog → SourceLog → SinkLog → SinkLog → Result (Option Verdict) ToolErr → Type 0
DoesObjectsInSet set filter company r0 r1 w0 w1 outcome =
    ((v : Result Verdict ToolErr) × (set ≡ codes "all") × AnswersList wanted.ObjectInAll filter company r0 r1 w0 w1 v × (outcome ≡ some_of v))
    ⊎ ((set ≡ codes "all" → ⊥) × (r1 ≡ r0) × IsMistaken w0 w1 outcome)

-- What epc did, by its text, --forms, --list, --json, the form, the word for the set of schemes, what is known of company prefixes, and the filter value, which is 0 where it is not given. Only a list is read.
abbrev pub DoesEpc : Option Text → Bool → Bool → Bool → Option Text → Option Text → Company → Option ℕ → SourceLog → SourceLog → SinkLog → SinkLog → Result (Option Verdict) ToolErr → Type 0
DoesEpc (Some text) false false false None None (Digits None) None r0 r1 w0 w1 outcome = (v : Result Verdict ToolErr) × (r1 ≡ r0) × PrintsEpc text w0 w1 v × (outcome ≡ some_of v)
DoesEpc (Some text) false false false None (Some name) (Digits None) None r0 r1 w0 w1 outcome = (r1 ≡ r0) × DoesInSchemes text name w0 w1 outcome
DoesEpc (Some text) true false false None None company filter r0 r1 w0 w1 outcome = (v : Result Verdict ToolErr) × (r1 ≡ r0) × Prints (AreFormsOf (unwrap_or filter 0) company text) w0 w1 v × (outcome ≡ some_of v)
DoesEpc (Some text) true false true None None company filter r0 r1 w0 w1 outcome = (v : Result Verdict ToolErr) × (r1 ≡ r0) × Prints (AreAnswersOf wanted.Object (unwrap_or filter 0) company text) w0 w1 v × (outcome ≡ some_of v)
DoesEpc (Some text) false false json (Some name) None company filter r0 r1 w0 w1 outcome = (r1 ≡ r0) × DoesFormOf text name false json (unwrap_or filter 0) company w0 w1 outcome
DoesEpc None false true json (Some name) None company filter r0 r1 w0 w1 outcome = DoesListIn name false json (unwrap_or filter 0) company r0 r1 w0 w1 outcome
DoesEpc None false true true None None company filter r0 r1 w0 w1 outcome = (v : Result Verdict ToolErr) × AnswersList wanted.Object (unwrap_or filter 0) company r0 r1 w0 w1 v × (outcome ≡ some_of v)
DoesEpc (Some text) true false false None (Some set) company filter r0 r1 w0 w1 outcome = (r1 ≡ r0) × DoesFormsInSet text set (unwrap_or filter 0) company w0 w1 outcome
DoesEpc (Some text) true false true None (Some set) company filter r0 r1 w0 w1 outcome = (r1 ≡ r0) × DoesObjectInSet text set (unwrap_or filter 0) company w0 w1 outcome
DoesEpc (Some text) false false json (Some name) (Some set) company filter r0 r1 w0 w1 outcome = (r1 ≡ r0) × DoesFormInSet text set name json (unwrap_or filter 0) company w0 w1 outcome
DoesEpc None false true json (Some name) (Some set) company filter r0 r1 w0 w1 outcome = DoesListInSet set name json (unwrap_or filter 0) company r0 r1 w0 w1 outcome
DoesEpc None false true true None (Some set) company filter r0 r1 w0 w1 outcome = DoesObjectsInSet set (unwrap_or filter 0) company r0 r1 w0 w1 outcome
DoesEpc text forms list json to schemes company filter r0 r1 w0 w1 outcome = (r1 ≡ r0) × IsMistaken w0 w1 outcome

-- How epc was answered. Where its options do not go together a text was written to the sink for errors, and the status is 2.
abbrev pub AnswersEpc : Result (Option Verdict) ToolErr → SinkLog → SinkLog → Result ℕ ToolErr → Type 0
AnswersEpc (Ok (Some verdict)) e0 e1 answer = Answers (Ok (status_of verdict)) e0 e1 answer
AnswersEpc (Ok None) e0 e1 (Ok status) = (status ≡ 2) × (text : List ℕ) × Wrote e0 e1 text
AnswersEpc (Ok None) e0 e1 (Err fault) = (fault ≡ Write) × (front : List ℕ) × WroteAndFailed e0 e1 front
AnswersEpc (Err error) e0 e1 answer = Answers (Err error) e0 e1 answer

-- Epc ran to this answer.
abbrev pub RanEpcWith : Option Text → Bool → Bool → Bool → Option Text → Option Text → Option ℕ → Option ℕ → SourceLog → SourceLog → SinkLog → SinkLog → SinkLog → SinkLog → Result ℕ ToolErr → Type 0
RanEpcWith text forms list json to schemes count filter r0 r1 w0 w1 e0 e1 answer =
    IsNotBegun r0 r1 w0 w1 e0 e1 answer
    ⊎ ((outcome : Result (Option Verdict) ToolErr) × DoesEpc text forms list json to schemes (Digits count) filter r0 r1 w0 w1 outcome × AnswersEpc outcome e0 e1 answer)

-- if the words ask for epc without a file, it ran so
abbrev pub RunsEpcIfAsked : List Text → SourceLog → SourceLog → SinkLog → SinkLog → SinkLog → SinkLog → Result ℕ ToolErr → Type 0
RunsEpcIfAsked words r0 r1 w0 w1 e0 e1 answer =
    (text to schemes : Option Text) (forms list json : Bool) (count filter : Option ℕ) → AsksEpcWith words text forms list json to schemes count filter None
    → RanEpcWith text forms list json to schemes count filter r0 r1 w0 w1 e0 e1 answer

-- ---- epc with a file of company prefixes

-- the line of a file that has no table
abbrev pub no_table_line : TableErr → List ℕ
no_table_line Unread = codes "llrp: prefixes\n"
no_table_line (Line n) = codes "llrp: prefixes line " ++ (decimal n ++ codes ": Line\n")
no_table_line (Two n) = codes "llrp: prefixes line " ++ (decimal n ++ codes ": Two\n")
no_table_line Memory = error_line tool.Memory

-- the exit status then: 1 if a line of it is refused, and 3 if it cannot be read or memory ran out
abbrev pub no_table_status : TableErr → ℕ
no_table_status Unread = 3
no_table_status (Line n) = 1
no_table_status (Two n) = 1
no_table_status Memory = 3

-- The line was written to the sink for errors, and this is the status; or the Write that stopped the line.
abbrev pub RefusesTable : TableErr → SinkLog → SinkLog → Result ℕ ToolErr → Type 0
RefusesTable e e0 e1 (Ok status) = (status ≡ no_table_status e) × Wrote e0 e1 (no_table_line e)
RefusesTable e e0 e1 (Err fault) = (fault ≡ Write) × (front : List ℕ) × IsPrefix front (no_table_line e) × WroteAndFailed e0 e1 front

-- What epc did by a table: what its options say, which do not go together if a number of digits is given too.
abbrev pub DoesEpcBy : Option Text → Bool → Bool → Bool → Option Text → Option Text → Option ℕ → Option ℕ → Prefixes → SourceLog → SourceLog → SinkLog → SinkLog → Result (Option Verdict) ToolErr → Type 0
DoesEpcBy text forms list json to schemes None filter table r0 r1 w0 w1 outcome = (lent : Bor Prefixes) × (lent.now ≡ table) × DoesEpc text forms list json to schemes (Table lent) filter r0 r1 w0 w1 outcome
DoesEpcBy text forms list json to schemes (Some count) filter table r0 r1 w0 w1 outcome = (r1 ≡ r0) × IsMistaken w0 w1 outcome

-- Epc ran to this answer, with the table that a file has, or without one, for the reason that was written.
abbrev pub RanEpcByFile : Option Text → Bool → Bool → Bool → Option Text → Option Text → Option ℕ → Option ℕ → SourceLog → SourceLog → SourceLog → SourceLog → SinkLog → SinkLog → SinkLog → SinkLog → Result ℕ ToolErr → Type 0
RanEpcByFile text forms list json to schemes count filter p0 p1 r0 r1 w0 w1 e0 e1 answer =
    IsNotBegun r0 r1 w0 w1 e0 e1 answer
    ⊎ ((e : TableErr) × ReadsTable p0 p1 (Err e) × (r1 ≡ r0) × (w1 ≡ w0) × RefusesTable e e0 e1 answer)
    ⊎ ((table : Prefixes) × ReadsTable p0 p1 (Ok table) × (outcome : Result (Option Verdict) ToolErr) × DoesEpcBy text forms list json to schemes count filter table r0 r1 w0 w1 outcome × AnswersEpc outcome e0 e1 answer)

-- if the words ask for epc with a file, it ran so
abbrev pub RunsEpcByFile : List Text → SourceLog → SourceLog → SourceLog → SourceLog → SinkLog → SinkLog → SinkLog → SinkLog → Result ℕ ToolErr → Type 0
RunsEpcByFile words p0 p1 r0 r1 w0 w1 e0 e1 answer =
    (text to schemes : Option Text) (forms list json : Bool) (count filter : Option ℕ) (file : Text) → AsksEpcWith words text forms list json to schemes count filter (Some file)
    → RanEpcByFile text forms list json to schemes count filter p0 p1 r0 r1 w0 w1 e0 e1 answer

-- if the words ask for epc with a file, the command is left to the program
abbrev pub LeavesFileIfAsked : List Text → SourceLog → SourceLog → SinkLog → SinkLog → SinkLog → SinkLog → Result ℕ ToolErr → Type 0
LeavesFileIfAsked words r0 r1 w0 w1 e0 e1 answer = (file : Text) → AsksEpcFile words file → LeftAlone r0 r1 w0 w1 e0 e1 answer
