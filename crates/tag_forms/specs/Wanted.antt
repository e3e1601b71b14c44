-- What texts are answered by: the text in a form, or an object of JSON with one form or with all, in the seven schemes or in all.
use Rattle.std.specs.Prelude.{ℕ, Bool, List, ◌++◌, codes, Option}
use Rattle.tag_forms.specs.declared.wanted.Wanted.{Wanted}
use Rattle.tag_forms.specs.declared.wanted.Wanted.TheVariants.{Text, Member, Object, TextInAll, MemberInAll, ObjectInAll}
use Rattle.tag_forms.specs.AllAnswers.{IsAnswerInAll}
use Rattle.tag_forms.specs.AllObjects.{IsMemberAnswerInAll, IsObjectAnswerInAll}
use Rattle.tag_forms.specs.Answers.{IsAnswer}
use Rattle.tag_forms.specs.Objects.{IsMemberAnswer, IsObjectAnswer, refused_as}

-- what is wanted of a text, and whether the text is refused
abbrev pub IsWantedAnswer : Wanted → ℕ → Option ℕ → List ℕ → Bool → List ℕ → Type 0
IsWantedAnswer (Text to) filter count text refused answer = IsAnswer to filter count text refused answer
IsWantedAnswer (Member to) filter count text refused answer = IsMemberAnswer to filter count text refused answer
IsWantedAnswer Object filter count text refused answer = IsObjectAnswer filter count text refused answer
IsWantedAnswer (TextInAll to) filter count text refused answer = IsAnswerInAll to filter count text refused answer
IsWantedAnswer (MemberInAll to) filter count text refused answer = IsMemberAnswerInAll to filter count text refused answer
IsWantedAnswer ObjectInAll filter count text refused answer = IsObjectAnswerInAll filter count text refused answer

-- what is wanted of a line that is refused by itself, for the reason with this name
abbrev pub line_refusal : Wanted → List ℕ → List ℕ
line_refusal (Text to) name = codes "! " ++ name
line_refusal (Member to) name = refused_as name
line_refusal Object name = refused_as name
line_refusal (TextInAll to) name = codes "! " ++ name
line_refusal (MemberInAll to) name = refused_as name
line_refusal ObjectInAll name = refused_as name
