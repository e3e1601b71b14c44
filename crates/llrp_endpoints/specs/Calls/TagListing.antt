-- What a lister of tags took of a stream, and the lines that it gave: a caller hands this on from one call to the next.
use Rattle.std.specs.Prelude.{◌≡◌, ℕ, ◌⊎◌, List, ◌++◌}
use Rattle.llrp_schema.specs.declared.kinds.KindSet.TheVariants.{Standard}
use Rattle.llrp_stream.specs.Decoding.{IsBroken}
use Rattle.llrp_stream.specs.Cuts.{Breaks}
use Rattle.llrp_stream.specs.Calls.Decoding.{StandsIn}
use Rattle.llrp_stream.specs.Items.{ItemsSoFarIn}
use Rattle.llrp_stream.specs.declared.item.Item.{Item}
use Rattle.llrp_listing.specs.StreamListing.{AreTexts}
use Rattle.llrp_endpoints.specs.declared.tag_lister.TagLister.{TagLister}
use Rattle.llrp_endpoints.specs.ReportedTags.{AreLinesOfItem}

-- A lister took these octets, and gave this text: the lines of the tags of the reports that are whole in them.
pub record HasTags (limit : ℕ) (bytes text : List ℕ) (l : TagLister) : Type 0 where
  pub items : List Item
  pub front : List ℕ
  pub so_far : ItemsSoFarIn Standard limit bytes items front
  pub texts : AreTexts (AreLinesOfItem l.form) items text
  pub limit_is : l.decoder.limit ≡ limit
  pub left : StandsIn Standard l.decoder front ⊎ (IsBroken l.decoder × Breaks front)
