-- The lines of tags with the host's time, and with the name of the reader. Texts are lists of octets of UTF-8; 10 ends a line.
use Rattle.std.specs.Prelude.{◌≡◌, ℕ, ◌==◌, Bool, true, false, if◌then◌else◌, List, [], ◌∷◌, ◌++◌, codes, Option, Some, None}
use Rattle.std.specs.Borrow.{Bor}
use Rattle.std.specs.List.{flat_map}
use Rattle.std.specs.Option.{option_map}
use Rattle.llrp_json.specs.JsonValues.{string}
use Rattle.llrp_endpoints.specs.declared.form.LineForm.{LineForm}
use Rattle.llrp_endpoints.specs.declared.form.LineForm.TheVariants.{Words, Json, Full, Tags}
use Rattle.llrp_endpoints.specs.Moments.{IsMomentText}

-- the member of the reader's name, if there is one, after others
abbrev pub reader_where : Option (List ℕ) → List ℕ
reader_where None = []
reader_where (Some name) = codes ",\"reader\":" ++ string name

-- the members at the head of an object that has others after them
abbrev pub head_text : List ℕ → Option (List ℕ) → List ℕ
head_text moment name = codes "\"at\":\"" ++ (moment ++ (codes "\"" ++ (reader_where name ++ codes ",")))

-- an octet, with the head after it where a line begins: there an object opens
abbrev pub opened : Bool → List ℕ → ℕ → List ℕ
opened true head c = c ∷ head
opened false head c = c ∷ []

-- lines of objects, each with this head; the first octet may begin a line
abbrev pub with_heads : Bool → List ℕ → List ℕ → List ℕ
with_heads begins head [] = []
with_heads begins head (c ∷ cs) = opened begins head c ++ with_heads (c == 10) head cs

-- an octet, with a word before it where it ends a line
abbrev pub ended_by : List ℕ → ℕ → List ℕ
ended_by word c = if c == 10 then 32 ∷ (word ++ 10 ∷ []) else c ∷ []

-- lines of words, each with one more
abbrev pub with_last : List ℕ → List ℕ → List ℕ
with_last word lines = flat_map (ended_by word) lines

-- lines of a form with this moment, and objects with the name too
abbrev pub marked : LineForm → List ℕ → Option (List ℕ) → List ℕ → List ℕ
marked Words moment name lines = with_last moment lines
marked Tags moment name lines = with_last moment lines
marked Json moment name lines = with_heads true (head_text moment name) lines
marked Full moment name lines = with_heads true (head_text moment name) lines

-- the name that a reference refers to, if there is one
abbrev pub name_in : Option (Bor (List ℕ)) → Option (List ℕ)
name_in name = option_map (λ n. n.now) name

-- The lines with the moment this many microseconds after 1970.
pub record AreMarked (form : LineForm) (micros : ℕ) (name : Option (List ℕ)) (lines text : List ℕ) : Type 0 where
  pub moment : List ℕ
  pub moment_is : IsMomentText micros moment
  pub text_is : text ≡ marked form moment name lines
