-- The text of a value of JSON, as the lines have it: no white space, and controls as \u and four digits.
use Rattle.std.specs.Prelude.{ℕ, List, [], ◌∷◌, codes, true, false}
use Rattle.json.specs.Json.{Json, null, boolean, number, string, array, object, Items, no_items, item, Members, no_members, member}
use Rattle.llrp_json.specs.JsonValues as written

abbrev mutual
  pub text_of : Json → List ℕ
  text_of null = codes "null"
  text_of (boolean true) = codes "true"
  text_of (boolean false) = codes "false"
  text_of (number s) = s
  text_of (string s) = written.string s
  text_of (array js) = written.array (items_texts js)
  text_of (object ms) = written.object (members_texts ms)

  pub items_texts : Items → List (List ℕ)
  items_texts no_items = []
  items_texts (item j js) = text_of j ∷ items_texts js

  pub members_texts : Members → List (List ℕ)
  members_texts no_members = []
  members_texts (member k j ms) = written.member k (text_of j) ∷ members_texts ms
