-- Lines that say messages and parameters are those of a listing.
use Rattle.std.proofs.Common.{◌≡◌, ℕ, Bool, true, false, List, [], ◌∷◌, ◌++◌, refl, sym, ap, subst, ◌∙◌, arith}
use Rattle.std.specs.Prelude.{◌==◌, cond}
use Rattle.std.specs.List.{AllZip}
use Rattle.llrp_schema.specs.declared.kinds.KindSet.{KindSet}
use Rattle.llrp_tree.specs.Tree.{MessageTree}
use Rattle.llrp_listing.specs.LineChecks.{SaysLine}
use Rattle.llrp_listing.specs.Lines.{TextLine, Ended, Unended, onto_line, lines_of}
use Rattle.llrp_listing.specs.ListingRules.{row}
use Rattle.llrp_listing.specs.MessageListing.{AreLines, IsListingOf, messages_lines}
use Rattle.llrp_listing.specs.NodeLine.{NodeLine}
use Rattle.llrp_listing.specs.OpenText.{nodes}
use Rattle.llrp_listing.proofs.TreeLines.{nodes_row}

-- the text of lines
abbrev bytes_of : List TextLine → List ℕ
bytes_of [] = []
bytes_of (Ended x ∷ xs) = (x ++ (10 ∷ [])) ++ bytes_of xs
bytes_of (Unended x ∷ xs) = x ++ bytes_of xs

onto_bytes : (b : ℕ) (xs : List TextLine) → bytes_of (onto_line b xs) ≡ b ∷ bytes_of xs
onto_bytes b [] = refl
onto_bytes b (Ended x ∷ xs) = refl
onto_bytes b (Unended x ∷ xs) = refl

lines_bytes : (text : List ℕ) → bytes_of (lines_of text) ≡ text
unfolding lines_of
lines_bytes [] = refl
lines_bytes (b ∷ bs) = on (b == 10) refl (lines_bytes bs)
  where
    on : (t : Bool) → (b == 10) ≡ t → bytes_of (lines_of bs) ≡ bs → bytes_of (cond t (Ended [] ∷ lines_of bs) (onto_line b (lines_of bs))) ≡ b ∷ bs
    on true e ih = let is : b ≡ 10 = grind arith in ap (λ (z : ℕ). z ∷ bytes_of (lines_of bs)) (sym is) ∙ ap (λ (z : List ℕ). b ∷ z) ih
    on false e ih = onto_bytes b (lines_of bs) ∙ ap (λ (z : List ℕ). b ∷ z) ih

says_lines : (p : KindSet) (xs : List TextLine) (es : List (ℕ × NodeLine)) → AllZip (SaysLine p) xs es → AreLines es (bytes_of xs)
says_lines p [] [] z = record { texts = []; each = tt; text_is = refl }
says_lines p [] (e ∷ es) z = absurd z
says_lines p (x ∷ xs) [] z = absurd z
says_lines p (Unended x ∷ xs) (e ∷ es) z = absurd z.0
says_lines p (Ended x ∷ xs) (e ∷ es) z =
    let t = says_lines p xs es z.1 in
    record { texts = (x ++ (10 ∷ [])) ∷ t.texts; each = (z.0.text, t.each); text_is = ap (λ (y : List ℕ). (x ++ (10 ∷ [])) ++ y) t.text_is }

-- lines that say messages are those of their listing
pub says_text : (p : KindSet) (text : List ℕ) (ms : List MessageTree) → AllZip (SaysLine p) (lines_of text) (nodes 0 (row ms)) → IsListingOf ms text
says_text p text ms z = subst (AreLines (messages_lines ms)) (lines_bytes text) (says_lines p (lines_of text) (messages_lines ms) (subst (AllZip (SaysLine p) (lines_of text)) (nodes_row ms) z))
