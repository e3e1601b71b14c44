-- What TagReportData says of the operations of an AccessSpec (LLRP 1.1, sections 14 and 16).
use Rattle.std.specs.Prelude.{ℕ, suc, ◌*◌, nat_lt, ◌==◌, ◌&&◌, ◌||◌, not, Bool, true, false, if◌then◌else◌, List, [], ◌∷◌, length, slice_index}
use Rattle.llrp_schema.specs.declared.kinds.ParamKind.{ParamKind}
use Rattle.llrp_schema.specs.declared.kinds.ParamKind.TheVariants.{WholeAccessSpecId, WholeC1G2ReadOpSpecResult, WholeC1G2WriteOpSpecResult, WholeC1G2LockOpSpecResult}
use Rattle.llrp_schema.specs.declared.kinds.Kind.TheVariants.{Parameter}
use Rattle.llrp_schema.specs.Schema.{number_of}
use Rattle.llrp_tree.specs.Tree.{Tree, trees}
use Rattle.llrp_operations.specs.declared.operation.Operation.{Operation}
use Rattle.llrp_operations.specs.declared.operation.Operation.TheVariants.{Read, Write, Lock}

abbrev pub is_parameter : ParamKind → Tree → Bool
is_parameter kind t = number_of (Parameter t.kind) == number_of (Parameter kind)

abbrev pub field_at : ℕ → Tree → ℕ
field_at place t = slice_index t.fields place

-- the result of a read, a write or a lock
abbrev pub is_result : Tree → Bool
is_result t = is_parameter WholeC1G2ReadOpSpecResult t || is_parameter WholeC1G2WriteOpSpecResult t || is_parameter WholeC1G2LockOpSpecResult t

abbrev pub result_kind : Operation → ParamKind
result_kind (Read bank pointer count) = WholeC1G2ReadOpSpecResult
result_kind (Write bank pointer words) = WholeC1G2WriteOpSpecResult
result_kind (Lock field manner) = WholeC1G2LockOpSpecResult

-- as many words were read, which are its tail, as were asked for: at least one where all were; and as many written, its third field
abbrev pub is_whole : Operation → Tree → Bool
is_whole (Read bank pointer count) t = if count == 0 then nat_lt 0 (length t.tail) else (length t.tail == 2 * count)
is_whole (Write bank pointer words) t = field_at 2 t == length words.items
is_whole (Lock field manner) t = true

-- it is the result of the operation with this OpSpecID, its second field
abbrev pub is_result_of : ℕ → Operation → Tree → Bool
is_result_of id o t = is_parameter (result_kind o) t && (field_at 1 t == id)

-- and its Result, the first field, is 0, and all of the operation was done
abbrev pub says_done : ℕ → Operation → Tree → Bool
says_done id o t = is_result_of id o t && ((field_at 0 t == 0) && is_whole o t)

-- ---- whether a result leaves open what became of the tag

-- the numbers of NonspecificTagError, NoResponseFromTag and NonspecificReaderError, and those without a name
abbrev pub is_open : Operation → ℕ → Bool
is_open (Read _ _ _) n = false
is_open (Write _ _ _) n = (n == 4) || (n == 5) || (n == 6) || nat_lt 7 n
is_open (Lock _ _) n = (n == 2) || (n == 3) || (n == 4) || nat_lt 7 n

-- how many words a write that failed wrote
abbrev pub written : Operation → Tree → ℕ
written (Read _ _ _) t = 0
written (Write _ _ _) t = field_at 2 t
written (Lock _ _) t = 0

-- the operation was done whole, or it failed and changed nothing
abbrev pub is_settled : Operation → Tree → Bool
is_settled o t = if field_at 0 t == 0 then is_whole o t else (not (is_open o (field_at 0 t)) && (written o t == 0))

abbrev pub says_clearly : ℕ → Operation → Tree → Bool
says_clearly id o t = is_result_of id o t && is_settled o t

-- no operations are left
abbrev pub is_none_left : List Operation → Bool
is_none_left [] = true
is_none_left (o ∷ os) = false

-- the results among parameters are one for each operation, in order, whose ids count from this one
abbrev pub say_done : ℕ → List Operation → List Tree → Bool
say_done id os [] = is_none_left os
say_done id [] (t ∷ ts) = if is_result t then false else say_done id [] ts
say_done id (o ∷ os) (t ∷ ts) = if is_result t then says_done id o t && say_done (suc id) os ts else say_done id (o ∷ os) ts

-- such results among parameters, of which none is missing and none is more
abbrev pub say_clearly : ℕ → List Operation → List Tree → Bool
say_clearly id os [] = is_none_left os
say_clearly id [] (t ∷ ts) = if is_result t then false else say_clearly id [] ts
say_clearly id (o ∷ os) (t ∷ ts) = if is_result t then says_clearly id o t && say_clearly (suc id) os ts else say_clearly id (o ∷ os) ts

-- the first AccessSpecID among parameters is this one
abbrev pub are_of : ℕ → List Tree → Bool
are_of id [] = false
are_of id (t ∷ ts) = if is_parameter WholeAccessSpecId t then field_at 0 t == id else are_of id ts

-- TagReportData says that the AccessSpec with this id did all of these operations
abbrev pub has_succeeded : ℕ → List Operation → Tree → Bool
has_succeeded id os tag = are_of id (trees tag.children) && say_done 1 os (trees tag.children)
