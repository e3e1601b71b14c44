-- Which message answers which, by their headers (LLRP 1.1, section 17.1).
use Rattle.std.specs.Prelude.{ℕ, ◌+◌, ◌==◌, ◌&&◌, ◌||◌, not, nat_lt, Bool, false, true, if◌then◌else◌, Option, None, Some}
use Rattle.llrp_waits.specs.declared.head.Head.{Head}

-- it is one of these numbers, the first and the last among them
abbrev pub is_between : ℕ → ℕ → ℕ → Bool
is_between first last n = not (nat_lt n first) && not (nat_lt last n)

-- requests whose responses have a number that is greater by ten: on capabilities and configuration, on ROSpecs, and on versions
abbrev pub is_plain : ℕ → Bool
is_plain number = is_between 1 3 number || (is_between 20 26 number || is_between 46 47 number)

-- CLOSE_CONNECTION is answered by CLOSE_CONNECTION_RESPONSE, and GET_REPORT by RO_ACCESS_REPORT
abbrev pub answer_number : ℕ → Option ℕ
answer_number number = if is_plain number then Some (number + 10) else if number == 14 then Some 4 else if number == 60 then Some 61 else None

abbrev pub is_some : Option ℕ → Bool
is_some None = false
is_some (Some n) = true

-- a response to it is awaited
abbrev pub is_awaited : Head → Bool
is_awaited request = is_some (answer_number request.number)

abbrev pub is_report : Head → Bool
is_report head = head.number == 61

abbrev pub is_answered_by : Option ℕ → ℕ → Bool
is_answered_by None number = false
is_answered_by (Some answer) number = number == answer

-- A report answers GET_REPORT, under an id of its own. Any other answer has the request's id, and is the response or an ERROR_MESSAGE.
abbrev pub answers : Head → Head → Bool
answers request head =
    if is_report head then request.number == 60
    else (head.id == request.id) && ((head.number == 100) || is_answered_by (answer_number request.number) head.number)
