-- A value whose text a line has is read back.
use Rattle.std.proofs.Common.{◌≡◌, ℕ, ◌≤◌, true, false, cond, List, [], ◌∷◌, ◌++◌, Some, option_and_then, refl, sym, ap, ap₂, ◌∙◌, append_assoc, append-nil}
use Rattle.std.specs.List.{join_with_byte}
use Rattle.json.specs.Token.{Token, begin_object, end_object, begin_array, end_array, key}
use Rattle.json.specs.Token as token_of
use Rattle.json.specs.Word.{ends_word, word}
use Rattle.json.specs.Lex.{Lexeme, token, comma, colon, lex, between, Place, fresh, after_value, after_comma, begins_colon, may_begin, punctuate, tokens}
use Rattle.json.specs.Json.{Json, null, boolean, number, string, array, object, Items, no_items, item, Members, no_members, member, value, if_last, max_depth, document}
use Rattle.json.specs.Tree.{json_tokens, items_tokens, members_tokens, depth, HasNumbers, ItemsHaveNumbers, MembersHaveNumbers}
use Rattle.json.proofs.Printed.Numbers.{in_word-ended, lex-number}
use Rattle.json.proofs.Printed.Trees.{value-json_tokens}
use Rattle.llrp_json_read.proofs.ValueTexts.{text_of, items_texts, members_texts}
use Rattle.llrp_json.specs.JsonValues as written
use Rattle.llrp_json_read.proofs.PrintedStrings.{lex_string}

-- ---- what commas part

-- texts after a first one, each after a comma
abbrev more : List (List ℕ) → List ℕ
more [] = []
more (t ∷ ts) = 44 ∷ (t ++ more ts)

join_more : (t : List ℕ) (ts : List (List ℕ)) → join_with_byte 44 (t ∷ ts) ≡ t ++ more ts
join_more t [] = sym (append-nil t)
join_more t (u ∷ us) = ap (λ l. t ++ 44 ∷ l) (join_more u us)

-- texts up to an octet that closes them, before any text
row : (c : ℕ) (t : List ℕ) (ts : List (List ℕ)) (r : List ℕ) → (join_with_byte 44 (t ∷ ts) ++ c ∷ []) ++ r ≡ t ++ (more ts ++ c ∷ r)
row c t ts r = ap (λ l. (l ++ c ∷ []) ++ r) (join_more t ts) ∙ append_assoc (t ++ more ts) (c ∷ []) r ∙ append_assoc t (more ts) (c ∷ r)

more_next : (c : ℕ) (t : List ℕ) (ts : List (List ℕ)) (r : List ℕ) → more (t ∷ ts) ++ c ∷ r ≡ 44 ∷ (t ++ (more ts ++ c ∷ r))
more_next c t ts r = ap (λ l. 44 ∷ l) (append_assoc t (more ts) (c ∷ r))

ends_items : (ts : List (List ℕ)) (r : List ℕ) → ends_word (more ts ++ 93 ∷ r) ≡ true
ends_items [] r = refl
ends_items (t ∷ ts) r = refl

ends_members : (ts : List (List ℕ)) (r : List ℕ) → ends_word (more ts ++ 125 ∷ r) ≡ true
ends_members [] r = refl
ends_members (t ∷ ts) r = refl

-- ---- the lexer

abbrev mutual
  lexemes : Json → List Lexeme
  lexemes null = token token_of.null ∷ []
  lexemes (boolean b) = token (token_of.boolean b) ∷ []
  lexemes (number s) = token (token_of.number s) ∷ []
  lexemes (string s) = token (token_of.string s) ∷ []
  lexemes (array no_items) = token begin_array ∷ token end_array ∷ []
  lexemes (array (item j js)) = token begin_array ∷ (lexemes j ++ more_items js)
  lexemes (object no_members) = token begin_object ∷ token end_object ∷ []
  lexemes (object (member k j ms)) = token begin_object ∷ token (token_of.string k) ∷ colon ∷ (lexemes j ++ more_members ms)

  more_items : Items → List Lexeme
  more_items no_items = token end_array ∷ []
  more_items (item j js) = comma ∷ (lexemes j ++ more_items js)

  more_members : Members → List Lexeme
  more_members no_members = token end_object ∷ []
  more_members (member k j ms) = comma ∷ token (token_of.string k) ∷ colon ∷ (lexemes j ++ more_members ms)

member_text : (k v r : List ℕ) → written.member k v ++ r ≡ written.string k ++ 58 ∷ (v ++ r)
member_text k v r = append_assoc (written.string k) (58 ∷ v) r

lex_key : (k v r : List ℕ) → lex between (written.member k v ++ r) ≡ token (token_of.string k) ∷ colon ∷ lex between (v ++ r)
unfolding lex
lex_key k v r = ap (lex between) (member_text k v r) ∙ lex_string k (58 ∷ (v ++ r))

mutual
  unfolding lex word

  lex_value : (j : Json) (r : List ℕ) → HasNumbers j → ends_word r ≡ true → lex between (text_of j ++ r) ≡ lexemes j ++ lex between r
  lex_value null r h e = ap₂ (λ b l. token (cond b token_of.null token_of.bad) ∷ l) e (in_word-ended r e)
  lex_value (boolean true) r h e = ap₂ (λ b l. token (cond b (token_of.boolean true) token_of.bad) ∷ l) e (in_word-ended r e)
  lex_value (boolean false) r h e = ap₂ (λ b l. token (cond b (token_of.boolean false) token_of.bad) ∷ l) e (in_word-ended r e)
  lex_value (number s) r h e = lex-number s r h e
  lex_value (string s) r h e = lex_string s r
  lex_value (array no_items) r h e = refl
  lex_value (array (item j js)) r h e =
      let rest = more (items_texts js) ++ 93 ∷ r in
      ap (λ l. token begin_array ∷ l)
      (ap (lex between) (row 93 (text_of j) (items_texts js) r) ∙ lex_value j rest h.0 (ends_items (items_texts js) r)
      ∙ ap (λ l. lexemes j ++ l) (lex_items js r h.1) ∙ sym (append_assoc (lexemes j) (more_items js) (lex between r)))
  lex_value (object no_members) r h e = refl
  lex_value (object (member k j ms)) r h e =
      let rest = more (members_texts ms) ++ 125 ∷ r in
      ap (λ l. token begin_object ∷ l)
      (ap (lex between) (row 125 (written.member k (text_of j)) (members_texts ms) r) ∙ lex_key k (text_of j) rest
      ∙ ap (λ l. token (token_of.string k) ∷ colon ∷ l)
      (lex_value j rest h.0 (ends_members (members_texts ms) r) ∙ ap (λ l. lexemes j ++ l) (lex_members ms r h.1) ∙ sym (append_assoc (lexemes j) (more_members ms) (lex between r))))

  lex_items : (js : Items) (r : List ℕ) → ItemsHaveNumbers js → lex between (more (items_texts js) ++ 93 ∷ r) ≡ more_items js ++ lex between r
  lex_items no_items r h = refl
  lex_items (item j js) r h =
      let rest = more (items_texts js) ++ 93 ∷ r in
      ap (lex between) (more_next 93 (text_of j) (items_texts js) r)
      ∙ ap (λ l. comma ∷ l)
      (lex_value j rest h.0 (ends_items (items_texts js) r) ∙ ap (λ l. lexemes j ++ l) (lex_items js r h.1) ∙ sym (append_assoc (lexemes j) (more_items js) (lex between r)))

  lex_members : (ms : Members) (r : List ℕ) → MembersHaveNumbers ms → lex between (more (members_texts ms) ++ 125 ∷ r) ≡ more_members ms ++ lex between r
  lex_members no_members r h = refl
  lex_members (member k j ms) r h =
      let rest = more (members_texts ms) ++ 125 ∷ r in
      ap (lex between) (more_next 125 (written.member k (text_of j)) (members_texts ms) r)
      ∙ ap (λ l. comma ∷ l)
      (lex_key k (text_of j) rest
      ∙ ap (λ l. token (token_of.string k) ∷ colon ∷ l)
      (lex_value j rest h.0 (ends_members (members_texts ms) r) ∙ ap (λ l. lexemes j ++ l) (lex_members ms r h.1) ∙ sym (append_assoc (lexemes j) (more_members ms) (lex between r))))

-- ---- commas and colons

no_colon_items : (js : Items) (ls : List Lexeme) → begins_colon (more_items js ++ ls) ≡ false
no_colon_items no_items ls = refl
no_colon_items (item j js) ls = refl

no_colon_members : (ms : Members) (ls : List Lexeme) → begins_colon (more_members ms ++ ls) ≡ false
no_colon_members no_members ls = refl
no_colon_members (member k j ms) ls = refl

mutual
  unfolding punctuate

  placed : (p : Place) (j : Json) (ls : List Lexeme) → may_begin p ≡ true → begins_colon ls ≡ false → punctuate p (lexemes j ++ ls) ≡ json_tokens j ++ punctuate after_value ls
  placed p null ls m c = rw m
  placed p (boolean b) ls m c = rw m
  placed p (number s) ls m c = rw m
  placed p (string s) ls m c = rw (c, m)
  placed p (array no_items) ls m c = rw m
  placed p (array (item j js)) ls m c =
      rw m (ap (λ l. begin_array ∷ l)
      (ap (punctuate fresh) (append_assoc (lexemes j) (more_items js) ls) ∙ placed fresh j (more_items js ++ ls) refl (no_colon_items js ls)
      ∙ ap (λ l. json_tokens j ++ l) (placed_items js ls) ∙ sym (append_assoc (json_tokens j) (items_tokens js) (punctuate after_value ls))))
  placed p (object no_members) ls m c = rw m
  placed p (object (member k j ms)) ls m c =
      rw m (ap (λ l. begin_object ∷ key k ∷ l)
      (ap (punctuate fresh) (append_assoc (lexemes j) (more_members ms) ls) ∙ placed fresh j (more_members ms ++ ls) refl (no_colon_members ms ls)
      ∙ ap (λ l. json_tokens j ++ l) (placed_members ms ls) ∙ sym (append_assoc (json_tokens j) (members_tokens ms) (punctuate after_value ls))))

  placed_items : (js : Items) (ls : List Lexeme) → punctuate after_value (more_items js ++ ls) ≡ items_tokens js ++ punctuate after_value ls
  placed_items no_items ls = refl
  placed_items (item j js) ls =
      ap (punctuate after_comma) (append_assoc (lexemes j) (more_items js) ls) ∙ placed after_comma j (more_items js ++ ls) refl (no_colon_items js ls)
      ∙ ap (λ l. json_tokens j ++ l) (placed_items js ls) ∙ sym (append_assoc (json_tokens j) (items_tokens js) (punctuate after_value ls))

  placed_members : (ms : Members) (ls : List Lexeme) → punctuate after_value (more_members ms ++ ls) ≡ members_tokens ms ++ punctuate after_value ls
  placed_members no_members ls = refl
  placed_members (member k j ms) ls =
      ap (λ l. key k ∷ l)
      (ap (punctuate fresh) (append_assoc (lexemes j) (more_members ms) ls) ∙ placed fresh j (more_members ms ++ ls) refl (no_colon_members ms ls)
      ∙ ap (λ l. json_tokens j ++ l) (placed_members ms ls) ∙ sym (append_assoc (json_tokens j) (members_tokens ms) (punctuate after_value ls)))

-- ---- the text of a value

tokens_of_text : (j : Json) → HasNumbers j → tokens (text_of j) ≡ json_tokens j
unfolding lex punctuate
tokens_of_text j h =
    ap tokens (sym (append-nil (text_of j))) ∙ ap (punctuate fresh) (lex_value j [] h refl) ∙ placed fresh j [] refl refl ∙ append-nil (json_tokens j)

pub document_text : (j : Json) → HasNumbers j → depth j ≤ max_depth → document (text_of j) ≡ Some j
document_text j numbers shallow =
    ap (option_and_then (λ p. if_last p.0 p.1))
    (ap (value max_depth) (tokens_of_text j numbers ∙ sym (append-nil (json_tokens j))) ∙ value-json_tokens j max_depth [] shallow)
