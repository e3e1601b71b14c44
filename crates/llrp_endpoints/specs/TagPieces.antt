-- A stream whose tags are listed piece by piece.
use Rattle.std.specs.Prelude.{◌≡◌, ℕ, List, ◌++◌}
use Rattle.llrp_endpoints.specs.declared.tag_lister.TagLister.{TagLister}
use Rattle.llrp_endpoints.specs.Calls.TagListing.{HasTags}
use Rattle.llrp_endpoints.specs.ReportedTags.{AreTagsOfStream}

-- Where a lister took these octets and gave this text, it took a piece more and appended lines, which with those before are the lines of the tags in both.
abbrev pub TakesTags : List ℕ → TagLister → TagLister → List ℕ → List ℕ → Type 0
TakesTags piece old new t0 t1 =
    (limit : ℕ) (bytes text : List ℕ) → HasTags limit bytes text old
    → (more : List ℕ) × (t1 ≡ t0 ++ more) × HasTags limit (bytes ++ piece) (text ++ more) new × AreTagsOfStream new.form limit (bytes ++ piece) (text ++ more)
