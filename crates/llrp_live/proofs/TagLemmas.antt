-- The lines of a file of tags.
use Rattle.std.proofs.Common.{ℕ, ◌^◌, ◌<◌, List, [], ◌∷◌, ◌++◌, refl, sym, subst, ◌∙◌, arith}
use Rattle.tag_uri.specs.TagText.{IsTextOf}
use Rattle.llrp_listing.specs.Calls.Splits.{Lacks, IsSplit}
use Rattle.llrp_listing.proofs.SplitWords.{lacks_not, one_split}
use Rattle.llrp_endpoints.proofs.WordTexts.{text_lacks}
use Rattle.llrp_live.specs.Calls.TagFiles.{TagFollows, NoTagFollows, TagsFollow}

-- a text with no LF begins with no line
pub no_line : (text : List ℕ) → Lacks 10 text → NoTagFollows text
no_line text h = λ word rest f. lacks_not 10 text f.0 rest h f.3

-- one whose first line is no tag's begins with none of a tag
pub no_tag : (text line after : List ℕ) → IsSplit 10 text line after → ((word : ℕ) → word < 2 ^ 96 → IsTextOf word line → ⊥) → NoTagFollows text
no_tag text line after s none = λ word rest f.
    let same = one_split 10 line f.0 after rest s.0 (text_lacks 10 word f.0 (omega arith) f.2) (sym s.1 ∙ f.3) in
    none word f.1 (subst (λ (x : List ℕ). IsTextOf word x) (sym same.0) f.2)

-- one tag more
pub follow_more : (text : List ℕ) (words : List ℕ) (rest after : List ℕ) (word : ℕ) → TagsFollow text words rest → TagFollows rest word after → TagsFollow text (words ++ word ∷ []) after
follow_more text [] rest after word is f = (after, subst (λ (x : List ℕ). TagFollows x word after) (sym is) f, refl)
follow_more text (w ∷ words) rest after word (later, first, more) f = (later, first, follow_more later words rest after word more f)
