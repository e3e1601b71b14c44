-- A line whose name is compared with that of a kind.
use Rattle.std.proofs.Common.{◌≡◌, ℕ, ◌+◌, ◌^◌, ◌<◌, ◌≤◌, List, ◌∷◌, ◌++◌, [], length, drop, get_or, decimal, refl, sym, ap, ◌∙◌, subst, arith}
use Rattle.std.proofs.lemmas.List.{append-nil, drop_all, drop_more}
use Rattle.llrp_schema.specs.declared.kinds.KindSet.{KindSet}
use Rattle.llrp_schema.specs.declared.kinds.MsgKind.{MsgKind}
use Rattle.llrp_schema.specs.declared.kinds.ParamKind.{ParamKind}
use Rattle.llrp_schema.specs.declared.kinds.Kind.TheVariants.{Message, Parameter}
use Rattle.llrp_schema.specs.Schema.{fields_of, name_of, set_of_kind}
use Rattle.llrp_tree.specs.declared.TheConstants.{MAX_DEPTH}
use Rattle.llrp_listing.specs.Private.Encoder.{SaysAt}
use Rattle.llrp_listing.specs.declared.parse_line.TheConstants.{LONGEST_LINE}
use Rattle.llrp_listing.specs.NodeLine.{parameter_line, spaced}
use Rattle.llrp_listing.specs.Private.ShortLines.{AreAllNumbers}
use Rattle.llrp_listing.proofs.ShortReading.{message_says, no_words, one_word, parameter_says, two_words}

-- the octet at a place, and those after it
pub one_octet : (line : List ℕ) (at octet : ℕ) → at < length line → get_or line at 0 ≡ octet → drop at line ≡ octet ∷ drop (at + 1) line
one_octet line at octet lt e = drop_more line at 0 lt ∙ ap (λ (z : ℕ). z ∷ drop (at + 1) line) e

pub three_octets : (line : List ℕ) (at a b c : ℕ) → at + 3 ≤ length line → get_or line at 0 ≡ a → get_or line (at + 1) 0 ≡ b → get_or line (at + 2) 0 ≡ c → drop at line ≡ a ∷ b ∷ c ∷ drop (at + 3) line
three_octets line at a b c le ea eb ec =
    let second : at + 1 + 1 ≡ at + 2 = omega arith in
    let third : at + 2 + 1 ≡ at + 3 = omega arith in
    one_octet line at a (omega arith) ea
    ∙ ap (λ (z : List ℕ). a ∷ z) (one_octet line (at + 1) b (omega arith) eb ∙ ap (λ (i : ℕ). b ∷ drop i line) second)
    ∙ ap (λ (z : List ℕ). a ∷ b ∷ z) (one_octet line (at + 2) c (omega arith) ec ∙ ap (λ (i : ℕ). c ∷ drop i line) third)

-- nothing follows the name
pub name_last : (line name : List ℕ) (end : ℕ) → drop 2 line ≡ name ++ drop end line → end ≡ length line → drop 2 line ≡ name
name_last line name end e l = e ∙ ap (λ (i : ℕ). name ++ drop i line) l ∙ ap (λ (z : List ℕ). name ++ z) (drop_all (length line) line (omega arith)) ∙ append-nil name

-- a word follows it
pub word_follows : (line name : List ℕ) (end : ℕ) → drop 2 line ≡ name ++ drop end line → end < length line → get_or line end 0 ≡ 32 → drop 2 line ≡ name ++ (32 ∷ drop (end + 1) line)
word_follows line name end e lt s = e ∙ ap (λ (z : List ℕ). name ++ z) (one_octet line end 32 lt s)

-- a line of a parameter at its level
pub says : {p : KindSet} (level : ℕ) (kind : ParamKind) (ws : List (List ℕ)) (ns line : List ℕ) → set_of_kind (Parameter kind) ≡ p → 1 ≤ level → level ≤ MAX_DEPTH → level < 10 → length line ≤ LONGEST_LINE → AreAllNumbers kind ws ns → line ≡ (48 + level) ∷ 32 ∷ drop 2 line → 32 ∷ drop 2 line ≡ spaced (name_of (Parameter kind) ∷ ws)
    → SaysAt p level line level (parameter_line kind ns [])
says {p} level kind ws ns line own least deep one short all starts e =
    let long : length line ≡ 2 + length (drop 2 line) = ap (λ (z : List ℕ). length z) starts ∙ omega arith in
    subst (λ (z : List ℕ). SaysAt p level z level (parameter_line kind ns [])) (sym starts) (parameter_says level kind ws ns (drop 2 line) own least deep one (omega (arith, short, long)) all e)

pub bare_says : {p : KindSet} (level : ℕ) (kind : ParamKind) (line : List ℕ) → set_of_kind (Parameter kind) ≡ p → 1 ≤ level → level ≤ MAX_DEPTH → level < 10 → length line ≤ LONGEST_LINE → AreAllNumbers kind [] [] → line ≡ (48 + level) ∷ 32 ∷ drop 2 line → drop 2 line ≡ name_of (Parameter kind)
    → SaysAt p level line level (parameter_line kind [] [])
bare_says level kind line own least deep one short all starts e = says level kind [] [] line own least deep one short all starts (no_words (drop 2 line) (name_of (Parameter kind)) e)

pub number_says : {p : KindSet} (level : ℕ) (kind : ParamKind) (word : List ℕ) (n : ℕ) (line : List ℕ) → set_of_kind (Parameter kind) ≡ p → 1 ≤ level → level ≤ MAX_DEPTH → level < 10 → length line ≤ LONGEST_LINE → AreAllNumbers kind (word ∷ []) (n ∷ []) → line ≡ (48 + level) ∷ 32 ∷ drop 2 line → drop 2 line ≡ name_of (Parameter kind) ++ (32 ∷ word)
    → SaysAt p level line level (parameter_line kind (n ∷ []) [])
number_says level kind word n line own least deep one short all starts e = says level kind (word ∷ []) (n ∷ []) line own least deep one short all starts (one_word (drop 2 line) (name_of (Parameter kind)) word e)

pub bare_message_says : {p : KindSet} (kind : MsgKind) (version id end : ℕ) (line : List ℕ) → set_of_kind (Message kind) ≡ p → (1 ≤ version) × (version ≤ 2) → id < 2 ^ 32 → drop (end + 3) line ≡ decimal id → length line ≤ LONGEST_LINE → fields_of (Message kind) ≡ [] → line ≡ 48 ∷ 32 ∷ drop 2 line
    → drop 2 line ≡ name_of (Message kind) ++ drop end line → drop end line ≡ 32 ∷ (48 + version) ∷ 32 ∷ drop (end + 3) line → SaysAt p 0 line 0 (record { kind = Message kind; numbers = version ∷ id ∷ []; tail = [] })
bare_message_says {p} kind version id end line own known small is short none starts e f =
    let digits = drop (end + 3) line in
    let numbers = (48 + version) ∷ 32 ∷ digits in
    let long : length line ≡ 2 + length (drop 2 line) = ap (λ (z : List ℕ). length z) starts ∙ omega arith in
    let whole : drop 2 line ≡ name_of (Message kind) ++ (32 ∷ numbers) = e ∙ ap (λ (z : List ℕ). name_of (Message kind) ++ z) f in
    subst (λ (z : List ℕ). SaysAt p 0 z 0 (record { kind = Message kind; numbers = version ∷ id ∷ []; tail = [] })) (sym starts)
    (message_says kind version id digits (drop 2 line) own known small is (omega (arith, short, long)) none (two_words (drop 2 line) (name_of (Message kind)) numbers digits version whole refl))
