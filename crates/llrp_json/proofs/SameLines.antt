-- Lines in a row are those of one list of items.
use Rattle.std.proofs.Common.{◌≡◌, ◌⊎◌, inl, inr, ℕ, ◌==◌, Bool, true, false, List, [], ◌∷◌, ◌++◌, get_or, refl, sym, ap, subst, ◌∙◌, arith, append_assoc}
use Rattle.std.specs.Prelude.{◌||◌, codes, decimal}
use Rattle.std.specs.List.{AllByRecursion, AllZip, flat_map}
use Rattle.std.proofs.lemmas.List.{append-nil}
use Rattle.llrp_schema.specs.declared.kinds.KindSet.{KindSet}
use Rattle.llrp_stream.specs.declared.item.Item.{Item}
use Rattle.llrp_stream.specs.declared.item.Item.TheVariants.{Bad, Msg}
use Rattle.llrp_stream.specs.declared.item.End.{End}
use Rattle.llrp_stream.specs.declared.item.End.TheVariants.{Clean, Rest, Broken, Dead}
use Rattle.llrp_listing.specs.StreamListing.{IsStreamText}
use Rattle.llrp_json.specs.Calls.JsonLaws.{IsCounted, IsLawfulIn}
use Rattle.llrp_json.specs.JsonLines.{IsItemJson, end_json, fault_json}
use Rattle.llrp_json.specs.JsonValues.{member, object}
use Rattle.llrp_json.specs.Calls.JsonTexts.{IsJson, Value, truth}
use Rattle.llrp_json.proofs.JsonEnds.{AreSame, values_end}
use Rattle.llrp_json.proofs.JsonTextLemmas.{is_object, number_member}
use Rattle.llrp_json.proofs.SameItems.{IsNamed, fault_named, items_same, message_named, names_same}

-- ---- one line

-- the names of the first members of items: those of ends are others
abbrev is_item : List ℕ → Bool
is_item name = get_or name 0 0 == 109 || get_or name 0 0 == 102

-- a line is an object and LF, of an item or of an end
record IsLine (of_item : Bool) (line : List ℕ) : Type 0 where
  name : List ℕ
  text : List ℕ
  named : IsNamed name text
  line_is : line ≡ text ++ 10 ∷ []
  kind : is_item name ≡ of_item

item_line : (p : KindSet) (item : Item) (line : List ℕ) → IsLawfulIn p item → IsItemJson item line → IsLine true line
item_line p (Msg m) line l is = record { name = codes "message"; text = is.0; named = message_named m is.0 l.0 is.1; line_is = is.2; kind = refl }
item_line p (Bad id fault) line l is = record { name = codes "fault"; text = fault_json id fault; named = fault_named id fault l.0 l.1; line_is = is; kind = refl }

end_line : (end : End) → IsCounted end → (end_json end ≡ []) ⊎ IsLine false (end_json end)
unfolding end_json
end_line Clean c = inl refl
end_line (Rest n) c = inr (record { name = codes "rest"; text = object (member (codes "rest") (decimal n) ∷ []); named = record { value = decimal n; more = []; members = (number_member (codes "rest") n (omega (arith, c)), tt); text_is = refl }; line_is = refl; kind = refl })
end_line Broken c = inr (record { name = codes "broken"; text = object (member (codes "broken") (codes "true") ∷ []); named = record { value = codes "true"; more = []; members = ((codes "broken", codes "true", truth, refl), tt); text_is = refl }; line_is = refl; kind = refl })
end_line Dead c = inl refl

is_value : (name text : List ℕ) → IsNamed name text → IsJson Value text
is_value name text n = subst (IsJson Value) (sym n.text_is) (is_object (member name n.value) n.more n.members)

-- an object, LF and what follows them
split : {b : Bool} (line more : List ℕ) (l : IsLine b line) → line ++ more ≡ l.text ++ (10 ∷ more)
split line more l = ap (λ (x : List ℕ). x ++ more) l.line_is ∙ append_assoc l.text (10 ∷ []) more

texts_same : {b c : Bool} (s t u v : List ℕ) (l : IsLine b s) (m : IsLine c t) → s ++ u ≡ t ++ v → AreSame l.text m.text (10 ∷ u) (10 ∷ v)
texts_same s t u v l m e = values_end l.text m.text (10 ∷ u) (10 ∷ v) (is_value l.name l.text l.named) (is_value m.name m.text m.named) (10, u, refl, refl) (10, v, refl, refl) (sym (split s u l) ∙ e ∙ split t v m)

lines_same : {b c : Bool} (s t u v : List ℕ) → IsLine b s → IsLine c t → s ++ u ≡ t ++ v → AreSame s t u v
lines_same s t u v l m e =
    let same = texts_same s t u v l m e in
    let rest = same.1 in
    (l.line_is ∙ ap (λ (x : List ℕ). x ++ 10 ∷ []) same.0 ∙ sym m.line_is, cc)

-- no line of an item begins as one of an end
no_end : (s t u v : List ℕ) → IsLine true s → IsLine false t → s ++ u ≡ t ++ v → ⊥
no_end s t u v l m e =
    let same = texts_same s t u v l m e in
    let bad : true ≡ false = sym l.kind ∙ ap is_item (names_same l.name m.name l.text m.text l.named m.named same.0) ∙ m.kind in
    cc

some_line : {b : Bool} (s u : List ℕ) → IsLine b s → s ++ u ≡ [] → ⊥
some_line s u l e =
    let bad : object (member l.name l.named.value ∷ l.named.more) ++ (10 ∷ u) ≡ [] = ap (λ (x : List ℕ). x ++ (10 ∷ u)) (sym l.named.text_is) ∙ sym (split s u l) ∙ e in
    cc

-- ---- lines in a row

abbrev IsEnd : List ℕ → Type 0
IsEnd line = (line ≡ []) ⊎ IsLine false line

-- no lines of items are none, or that of an end
no_items : (s u line : List ℕ) → IsLine true s → IsEnd line → s ++ u ≡ line → ⊥
no_items s u line l (inl none) e = some_line s u l (e ∙ none)
no_items s u line l (inr end) e = no_end s line u [] l end (e ∙ sym (append-nil line))

abbrev all : List (List ℕ) → List ℕ
all lines = flat_map (λ item. item) lines

rows_same : (p : KindSet) (items others : List Item) (ss ts : List (List ℕ)) (end last : List ℕ) → AllByRecursion (IsLawfulIn p) items → AllByRecursion (IsLawfulIn p) others → AllZip IsItemJson items ss → AllZip IsItemJson others ts → IsEnd end → IsEnd last
    → all ss ++ end ≡ all ts ++ last → (items ≡ others) × (end ≡ last)
rows_same p [] [] [] [] end last l m a b c d e = (refl, e)
rows_same p [] others (s ∷ ss) ts end last l m a b c d e = absurd a
rows_same p (i ∷ items) others [] ts end last l m a b c d e = absurd a
rows_same p [] [] [] (t ∷ ts) end last l m a b c d e = absurd b
rows_same p [] (o ∷ others) [] [] end last l m a b c d e = absurd b
rows_same p (i ∷ items) (o ∷ others) (s ∷ ss) [] end last l m a b c d e = absurd b
rows_same p (i ∷ items) [] (s ∷ ss) (t ∷ ts) end last l m a b c d e = absurd b
rows_same p [] (o ∷ others) [] (t ∷ ts) end last l m a b c d e = absurd (no_items t (all ts ++ last) end (item_line p o t m.0 b.0) c (sym (append_assoc t (all ts) last) ∙ sym e))
rows_same p (i ∷ items) [] (s ∷ ss) [] end last l m a b c d e = absurd (no_items s (all ss ++ end) last (item_line p i s l.0 a.0) d (sym (append_assoc s (all ss) end) ∙ e))
rows_same p (i ∷ items) (o ∷ others) (s ∷ ss) (t ∷ ts) end last l m a b c d e =
    let first = lines_same s t (all ss ++ end) (all ts ++ last) (item_line p i s l.0 a.0) (item_line p o t m.0 b.0) (sym (append_assoc s (all ss) end) ∙ e ∙ append_assoc t (all ts) last) in
    let item : i ≡ o = items_same p i o t l.0 m.0 (subst (λ (x : List ℕ). IsItemJson i x) first.0 a.0) b.0 in
    let more = rows_same p items others ss ts end last l.1 m.1 a.1 b.1 c d first.1 in
    (ap (λ (x : Item). x ∷ items) item ∙ ap (λ (x : List Item). o ∷ x) more.0, more.1)

-- lines of a stream are those of one list of items and of one line of an end
pub streams_same : (p : KindSet) (items others : List Item) (end last : End) (text : List ℕ) → AllByRecursion (IsLawfulIn p) items → AllByRecursion (IsLawfulIn p) others → IsCounted end → IsCounted last
    → IsStreamText IsItemJson end_json items end text → IsStreamText IsItemJson end_json others last text → (items ≡ others) × (end_json end ≡ end_json last)
streams_same p items others end last text l m c d a b =
    rows_same p items others a.lines.texts b.lines.texts (end_json end) (end_json last) l m a.lines.each b.lines.each (end_line end c) (end_line last d)
    (ap (λ (x : List ℕ). x ++ end_json end) (sym a.lines.text_is) ∙ sym a.text_is ∙ b.text_is ∙ ap (λ (x : List ℕ). x ++ end_json last) b.lines.text_is)
