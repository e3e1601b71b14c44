-- The pieces of texts.
use Rattle.std.specs.Prelude.{ℕ, List, [], ◌∷◌, Option, Some, None}
use Rattle.std.specs.Borrow.{Bor}
use Rattle.tag_uri.specs.TagText.{components}

-- the components of what follows the last dot that was looked for
abbrev pub components_after : Option (Bor (List ℕ)) → List (List ℕ)
components_after None = []
components_after (Some rest) = components rest.now

-- a text that may be missing, as a list
abbrev pub one_text : Option (Bor (List ℕ)) → List (List ℕ)
one_text None = []
one_text (Some text) = text.now ∷ []
