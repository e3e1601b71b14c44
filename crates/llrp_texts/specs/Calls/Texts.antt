-- The messages of a text, or why it has none.
use Rattle.std.specs.Prelude.{ℕ, List}
use Rattle.llrp_schema.specs.declared.kinds.KindSet.{KindSet}
use Rattle.llrp_tree.specs.Tree.{MessageTree}
use Rattle.llrp_listing.specs.Calls.ListingLaws.{IsRefused}
use Rattle.llrp_texts.specs.declared.texts.TextErr.{TextErr}
use Rattle.llrp_texts.specs.declared.texts.TextErr.TheVariants.{Line, Memory}

-- the text has no messages, for this reason: by the rules of listings, or since memory ran out
abbrev pub RefusesText : KindSet → ℕ → List ℕ → TextErr → Type 0
RefusesText p limit text (Line line reason) = (ms : List MessageTree) × IsRefused p limit text line reason ms
RefusesText p limit text Memory = Unit {0}
