-- The lines of a report, one tag after another.
use Rattle.std.proofs.Common.{◌≡◌, ℕ, ◌+◌, ◌<◌, List, [], ◌∷◌, ◌++◌, length, take, get_or, sym, ap, subst, ◌∙◌}
use Rattle.std.specs.List.{AllZip, flat_map}
use Rattle.std.proofs.lemmas.List.{append-nil, take_more}
use Rattle.std.proofs.lemmas.List.Concat.{flat_map-append}
use Rattle.llrp_tree.specs.Tree.{Tree}
use Rattle.llrp_endpoints.specs.declared.form.LineForm.{LineForm}
use Rattle.llrp_endpoints.specs.TagLines.{IsTagLine}
use Rattle.llrp_listing.proofs.Zips.{zip_append}

pub lines_each : (f : LineForm) (tags : List Tree) (i : ℕ) (tag : Tree) (lines : List (List ℕ)) (line : List ℕ) → i < length tags → tag ≡ get_or tags i tag → AllZip (IsTagLine f) (take i tags) lines → IsTagLine f tag line
    → AllZip (IsTagLine f) (take (i + 1) tags) (lines ++ line ∷ [])
lines_each f tags i tag lines line within is each one =
    let front : take (i + 1) tags ≡ take i tags ++ tag ∷ [] = take_more tags i tag within ∙ ap (λ (x : Tree). take i tags ++ x ∷ []) (sym is) in
    subst (λ (ts : List Tree). AllZip (IsTagLine f) ts (lines ++ line ∷ [])) (sym front) (zip_append (IsTagLine f) (take i tags) (tag ∷ []) lines (line ∷ []) each (one, tt))

pub lines_text : (lines : List (List ℕ)) (line old new : List ℕ) → old ≡ flat_map (λ line. line) lines → new ≡ old ++ line → new ≡ flat_map (λ line. line) (lines ++ line ∷ [])
lines_text lines line old new e f =
    f ∙ ap (λ (x : List ℕ). x ++ line) e ∙ ap (λ (x : List ℕ). flat_map (λ line. line) lines ++ x) (sym (append-nil line)) ∙ sym (flat_map-append (λ (w : List ℕ). w) lines (line ∷ []))
