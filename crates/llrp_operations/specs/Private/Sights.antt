-- What a course makes of a tag, whatever it has said.
use Rattle.std.specs.Prelude.{◌≡◌, ℕ, List}
use Rattle.llrp_operations.specs.declared.course.Course.{Course as Client}
use Rattle.llrp_operations.specs.declared.course.Saying.{Saying}
use Rattle.llrp_operations.specs.Calls.Course.{course_of, noted, sees}

-- the tag with this EPC was taken note of
abbrev pub TakesNote : List ℕ → (old new : Client) → Type 0
TakesNote epc old new = (said : List Saying) → course_of new said ≡ noted epc (course_of old said).seen (course_of old said)

-- the tag with this EPC was seen
abbrev pub TakesSight : List ℕ → (old new : Client) → Type 0
TakesSight epc old new = (said : List Saying) → course_of new said ≡ sees epc (course_of old said)
