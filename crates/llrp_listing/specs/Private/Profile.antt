-- Words of the profile that no public contract names.
use Rattle.std.specs.Prelude.{ℕ, List}
use Rattle.llrp_schema.specs.declared.kinds.KindSet.TheVariants.{Profile}
use Rattle.llrp_tree.specs.Tree.{MessageTree}
use Rattle.llrp_listing.specs.PrintingLaws.{AreSpellingsIn}

abbrev pub AreSpellings : ℕ → List MessageTree → List (List ℕ) → Type 0
AreSpellings limit messages frames = AreSpellingsIn Profile limit messages frames
