-- The tags of the parameters that were looked at so far.
use Rattle.std.proofs.Common.{◌≡◌, ℕ, ◌+◌, ◌<◌, true, false, List, [], ◌∷◌, ◌++◌, length, take, filter, get_or, refl, sym, ap, subst, ◌∙◌}
use Rattle.std.specs.List.{AllZip}
use Rattle.std.proofs.lemmas.List.{append-nil, take_more}
use Rattle.std.proofs.lemmas.List.Elements.{filter-append}
use Rattle.llrp_schema.specs.declared.kinds.ParamKind.TheVariants.{WholeTagReportData}
use Rattle.llrp_session.specs.RoSpec.{is_kind}
use Rattle.llrp_c.specs.declared.reports.Tag.{Tag}
use Rattle.llrp_tree.specs.Tree.{Tree}
use Rattle.llrp_c.specs.Reports.{AreTags, IsTag}

-- one pair more
each_push : {A B : Type 0} (R : A → B → Type 0) (xs : List A) (ys : List B) (x : A) (y : B) → AllZip R xs ys → R x y → AllZip R (xs ++ x ∷ []) (ys ++ y ∷ [])
each_push R [] [] x y each is = (is, tt)
each_push R [] (b ∷ ys) x y each is = absurd each
each_push R (a ∷ xs) [] x y each is = absurd each
each_push R (a ∷ xs) (b ∷ ys) x y each is = (each.0, each_push R xs ys x y each.1 is)

-- the parameters so far, with one more
one_more : (parts : List Tree) (i : ℕ) (part : Tree) → i < length parts → part ≡ get_or parts i part → take (i + 1) parts ≡ take i parts ++ part ∷ []
one_more parts i part within is = take_more parts i part within ∙ ap (λ (x : Tree). take i parts ++ x ∷ []) (sym is)

-- one more that is no TagReportData
pub passes : (parts : List Tree) (i : ℕ) (part : Tree) (tags : List Tag) → i < length parts → part ≡ get_or parts i part → is_kind WholeTagReportData part ≡ false
    → AreTags (take i parts) tags → AreTags (take (i + 1) parts) tags
passes parts i part tags within is test are =
    let seen : filter (is_kind WholeTagReportData) (take (i + 1) parts) ≡ filter (is_kind WholeTagReportData) (take i parts) ++ filter (is_kind WholeTagReportData) (part ∷ []) =
    ap (filter (is_kind WholeTagReportData)) (one_more parts i part within is) ∙ filter-append (is_kind WholeTagReportData) (take i parts) (part ∷ []) in
    let none : filter (is_kind WholeTagReportData) (part ∷ []) ≡ [] = rw test refl in
    subst (λ (reports : List Tree). AllZip IsTag reports tags) (sym (seen ∙ ap (λ (x : List Tree). filter (is_kind WholeTagReportData) (take i parts) ++ x) none ∙ append-nil _)) are

-- one more that is a TagReportData
pub takes : (parts : List Tree) (i : ℕ) (part : Tree) (tags more : List Tag) (tag : Tag) → i < length parts → part ≡ get_or parts i part → is_kind WholeTagReportData part ≡ true
    → AreTags (take i parts) tags → IsTag part tag → more ≡ tags ++ tag ∷ [] → AreTags (take (i + 1) parts) more
takes parts i part tags more tag within is test are one added =
    let seen : filter (is_kind WholeTagReportData) (take (i + 1) parts) ≡ filter (is_kind WholeTagReportData) (take i parts) ++ filter (is_kind WholeTagReportData) (part ∷ []) =
    ap (filter (is_kind WholeTagReportData)) (one_more parts i part within is) ∙ filter-append (is_kind WholeTagReportData) (take i parts) (part ∷ []) in
    let here : filter (is_kind WholeTagReportData) (part ∷ []) ≡ part ∷ [] = rw test refl in
    let reports = seen ∙ ap (λ (x : List Tree). filter (is_kind WholeTagReportData) (take i parts) ++ x) here in
    let pairs = each_push IsTag (filter (is_kind WholeTagReportData) (take i parts)) tags part tag are one in
    subst (λ (xs : List Tree). AllZip IsTag xs more) (sym reports) (subst (λ (ys : List Tag). AllZip IsTag (filter (is_kind WholeTagReportData) (take i parts) ++ part ∷ []) ys) (sym added) pairs)
