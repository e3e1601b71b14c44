-- What is shown of octets: as `show` does it, or `show --json`, with --all or without it.
use Rattle.std.specs.Prelude.{◌≡◌, ℕ, List}
use Rattle.llrp_stream.specs.declared.item.Item.{Item}
use Rattle.llrp_stream.specs.declared.item.End.{End}
use Rattle.llrp_stream.specs.Items.{ItemsIn}
use Rattle.llrp_listing.specs.declared.outcome.Verdict.{Verdict}
use Rattle.llrp_listing.specs.Show.{verdict_of}
use Rattle.llrp_listing.specs.StreamListing.{IsStreamText, is_lawful}
use Rattle.llrp_sides.specs.declared.form.Form.{Form}
use Rattle.llrp_sides.specs.Calls.Blocks.{IsShown, end_shown}

-- the text is what is shown of these octets, and the verdict is theirs
pub record HasListing (form : Form) (octets text : List ℕ) (verdict : Verdict) : Type 0 where
  pub items : List Item
  pub end : End
  pub are : ItemsIn form.set form.limit octets items end
  pub is : IsStreamText (IsShown form.json) (end_shown form.json) items end text
  pub verdict_is : verdict ≡ verdict_of (is_lawful items end)
