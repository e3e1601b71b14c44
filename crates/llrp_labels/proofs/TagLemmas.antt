-- The text of the EPC in a line of a tag.
use Rattle.std.proofs.Common.{◌≡◌, ℕ, Bool, Option, Some, None, ◌-◌, ◌^◌, ◌<◌, true, false, nat_eq, List, [], ◌∷◌, ◌++◌, length, take, drop, codes, refl, sym, ap, subst, ◌∙◌, arith, append_assoc, length-append}
use Rattle.std.specs.Prelude.{Result, Ok, Err, IfOk, is_ok, if◌then◌else◌}
use Rattle.std.specs.Cmp.Lexicographic.{pointwise, same_text}
use Rattle.std.proofs.lemmas.Cmp.{nat_list_eq_equiv}
use Rattle.std.proofs.lemmas.List.{append_cancel_left, take-append-drop}
use Rattle.tag_uri.specs.TagText.{IsTextOf}
use Rattle.llrp_listing.specs.Calls.Splits.{Lacks, IsSplit}
use Rattle.llrp_listing.proofs.SplitWords.{lacks_not, one_split}
use Rattle.llrp_keys.specs.NamedKey.{IsNamedKey}
use Rattle.llrp_labels.specs.LabelledLines.{IsKeyAmong}
use Rattle.llrp_labels.proofs.LineLemmas.{one_key}
use Rattle.llrp_labels.specs.LabelledTags.{IsKeyOfWord, IsObject, IsWordText, object_start}

-- ---- fronts and ends of a text

take_front : (p r : List ℕ) → take (length p) (p ++ r) ≡ p
take_front [] r = refl
take_front (c ∷ p) r = ap (λ (x : List ℕ). c ∷ x) (take_front p r)

drop_front : (p r : List ℕ) → drop (length p) (p ++ r) ≡ r
drop_front [] r = refl
drop_front (c ∷ p) r = drop_front p r

differs : (xs ys : List ℕ) → pointwise nat_eq xs ys ≡ false → xs ≡ ys → ⊥
differs xs ys other same = let alike : pointwise nat_eq ys ys ≡ true = nat_list_eq_equiv.refl ys in let apart : pointwise nat_eq ys ys ≡ false = rw same at other in cc

prefixed : (text prefix rest : List ℕ) → pointwise nat_eq (take (length prefix) text) prefix ≡ true → rest ≡ drop (length prefix) text → text ≡ prefix ++ rest
prefixed text prefix rest same is =
    sym (take-append-drop (length prefix) text) ∙ ap (λ (x : List ℕ). x ++ drop (length prefix) text) (same_text _ _ (sym same)) ∙ ap (λ (x : List ℕ). prefix ++ x) (sym is)

no_prefix : (text prefix rest : List ℕ) → pointwise nat_eq (take (length prefix) text) prefix ≡ false → text ≡ prefix ++ rest → ⊥
no_prefix text prefix rest other is = differs (take (length prefix) text) prefix other (ap (λ (x : List ℕ). take (length prefix) x) is ∙ take_front prefix rest)

suffixed : (text suffix rest : List ℕ) → pointwise nat_eq (drop (length text - length suffix) text) suffix ≡ true → rest ≡ take (length text - length suffix) text → text ≡ rest ++ suffix
suffixed text suffix rest same is =
    let k = length text - length suffix in
    sym (take-append-drop k text) ∙ ap (λ (x : List ℕ). take k text ++ x) (same_text _ _ (sym same)) ∙ ap (λ (x : List ℕ). x ++ suffix) (sym is)

no_suffix : (text suffix rest : List ℕ) → pointwise nat_eq (drop (length text - length suffix) text) suffix ≡ false → text ≡ rest ++ suffix → ⊥
no_suffix text suffix rest other is =
    let count : length text - length suffix ≡ length rest = omega (arith, ap length is, length-append rest suffix) in
    differs (drop (length text - length suffix) text) suffix other (ap (λ (k : ℕ). drop k text) count ∙ ap (λ (x : List ℕ). drop (length rest) x) is ∙ drop_front rest suffix)

-- ---- objects

pub no_start : (line start text rest : List ℕ) → start ≡ object_start → pointwise nat_eq (take (length start) line) start ≡ false → IsObject line text rest → ⊥
no_start line start text rest e other o = no_prefix line start (text ++ (34 ∷ (rest ++ codes "}"))) other (o.is ∙ ap (λ (x : List ℕ). x ++ (text ++ (34 ∷ (rest ++ codes "}")))) (sym e))

after_start : (line start after text rest : List ℕ) → start ≡ object_start → pointwise nat_eq (take (length start) line) start ≡ true → after ≡ drop (length start) line → IsObject line text rest → after ≡ text ++ (34 ∷ (rest ++ codes "}"))
after_start line start after text rest e same is o = append_cancel_left object_start _ _ (ap (λ (x : List ℕ). x ++ after) (sym e) ∙ sym (prefixed line start after same is) ∙ o.is)

pub no_quote : (line start after text rest : List ℕ) → start ≡ object_start → pointwise nat_eq (take (length start) line) start ≡ true → after ≡ drop (length start) line → Lacks 34 after → IsObject line text rest → ⊥
no_quote line start after text rest e same is lacks o = lacks_not 34 after text (rest ++ codes "}") lacks (after_start line start after text rest e same is o)

pub no_end : (line start after found more end text rest : List ℕ) → start ≡ object_start → pointwise nat_eq (take (length start) line) start ≡ true → after ≡ drop (length start) line → IsSplit 34 after found more → end ≡ codes "}"
    → pointwise nat_eq (drop (length more - length end) more) end ≡ false → IsObject line text rest → ⊥
no_end line start after found more end text rest e same is split e2 other o =
    let p = one_split 34 found text more (rest ++ codes "}") split.0 o.lacks (sym split.1 ∙ after_start line start after text rest e same is o) in
    no_suffix more end rest other (p.1 ∙ ap (λ (x : List ℕ). rest ++ x) (sym e2))

pub object_is : (line start after text more end rest : List ℕ) → start ≡ object_start → pointwise nat_eq (take (length start) line) start ≡ true → after ≡ drop (length start) line → IsSplit 34 after text more → end ≡ codes "}"
    → pointwise nat_eq (drop (length more - length end) more) end ≡ true → rest ≡ take (length more - length end) more → IsObject line text rest
object_is line start after text more end rest e same is split e2 ends has = record {
  is = prefixed line start after same is ∙ ap (λ (x : List ℕ). x ++ after) e ∙ ap (λ (x : List ℕ). object_start ++ x) (split.1 ∙ ap (λ (x : List ℕ). text ++ (34 ∷ x)) (suffixed more end rest ends has ∙ ap (λ (x : List ℕ). rest ++ x) e2));
  lacks = split.0;
}

-- an object has one text of an EPC
one_object : (line a x b y : List ℕ) → IsObject line a x → IsObject line b y → a ≡ b
one_object line a x b y p q = (one_split 34 a b (x ++ codes "}") (y ++ codes "}") p.lacks q.lacks (append_cancel_left object_start _ _ (sym p.is ∙ q.is))).0

pub no_word_in : (line a x b y : List ℕ) (word : ℕ) → IsObject line a x → ((w : ℕ) → w < 2 ^ 96 → IsTextOf w a → ⊥) → IsObject line b y → IsWordText b word → ⊥
no_word_in line a x b y word p none q is = none word is.below (subst (λ (t : List ℕ). IsTextOf word t) (sym (one_object line a x b y p q)) is.is)

-- ---- words

pub no_word : (line a x b y : List ℕ) (word : ℕ) → IsSplit 32 line a x → ((w : ℕ) → w < 2 ^ 96 → IsTextOf w a → ⊥) → IsSplit 32 line b y → IsWordText b word → ⊥
no_word line a x b y word p none q is = none word is.below (subst (λ (t : List ℕ). IsTextOf word t) (sym (one_split 32 a b x y p.0 q.0 (sym p.1 ∙ q.1)).0) is.is)

pub no_blank : (line b y : List ℕ) (word : ℕ) → Lacks 32 line → IsSplit 32 line b y → IsWordText b word → ⊥
no_blank line b y word lacks q is = lacks_not 32 line b y lacks q.1

-- ---- keys

-- a key by its name has a blank after the name
named_splits : (key name number : List ℕ) (serial : Option (List ℕ)) → IsNamedKey key name number serial → (rest : List ℕ) × IsSplit 32 key name rest
named_splits key name number None k = (number, k.0)
named_splits key name number (Some serial) k = (k.0, k.1)

-- a word whose key has no blank has no parts of a key
pub no_parts : (schemes : Bool) (word : ℕ) (text name number : List ℕ) (serial : Option (List ℕ)) → IsKeyAmong schemes word text → Lacks 32 text → IsKeyOfWord schemes word name number serial → ⊥
no_parts schemes word text name number serial is lacks h =
    let (rest, split) = named_splits h.0 name number serial h.2 in
    lacks_not 32 text name rest lacks (one_key schemes word text h.0 is h.1 ∙ split.1)

-- ---- parts

-- three parts, appended one after another, of which the last may fail
pub last_part : {E : Type 0} (r : Result (Unit {0}) E) (a b c start one two three : List ℕ) → one ≡ start ++ a → two ≡ one ++ b → three ≡ (if is_ok r then two ++ c else two) → IfOk r (λ done. three ≡ start ++ (a ++ (b ++ c)))
last_part (Ok done) a b c start one two three p q r =
    r ∙ ap (λ (x : List ℕ). x ++ c) (q ∙ ap (λ (x : List ℕ). x ++ b) p) ∙ append_assoc (start ++ a) b c ∙ append_assoc start a (b ++ c)
last_part (Err error) a b c start one two three p q r = tt
