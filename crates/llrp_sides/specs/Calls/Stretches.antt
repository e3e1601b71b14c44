-- What is listed of octets that came without a gap, from the beginning of a frame on: that which `show` lists of them.
use Rattle.std.specs.Prelude.{◌≡◌, ◌⊎◌, ℕ, ◌<◌, ◌≤◌, Bool, true, false, ◌&&◌, List, [], ◌++◌, length, Option, Some, None}
use Rattle.std.specs.List.{list_all}
use Rattle.llrp_stream.specs.declared.item.Item.{Item}
use Rattle.llrp_stream.specs.declared.item.End.{End}
use Rattle.llrp_stream.specs.declared.item.End.TheVariants.{Broken}
use Rattle.llrp_stream.specs.Cuts.{IsPartial, length_field}
use Rattle.llrp_stream.specs.Decoding.{DecoderState}
use Rattle.llrp_stream.specs.Calls.Decoding.{StandsIn}
use Rattle.llrp_stream.specs.Items.{ItemsIn, ItemsSoFarIn}
use Rattle.llrp_listing.specs.declared.outcome.Verdict.{Verdict}
use Rattle.llrp_listing.specs.Show.{verdict_of}
use Rattle.llrp_listing.specs.StreamListing.{AreTexts, IsStreamText, is_lawful, is_message}
use Rattle.llrp_sides.specs.declared.form.Form.{Form}
use Rattle.llrp_sides.specs.declared.stamp.Stamp.{Stamp}
use Rattle.llrp_sides.specs.declared.stretch.Stretch.{Stretch}
use Rattle.llrp_sides.specs.Calls.Blocks.{AreBlocks, IsShown, end_shown}

-- What came of a frame that is not whole is held, or a decoder reads past it since it is longer than a message may be.
abbrev pub HoldsIn : Form → (long : Option DecoderState) → (held front : List ℕ) → Type 0
HoldsIn form None held front = (front ≡ held) × IsPartial front
HoldsIn form (Some decoder) held front = StandsIn form.set decoder front × (decoder.limit ≡ form.limit) × (6 ≤ length front) × (form.limit < length_field front)

abbrev pub Holds : Stretch → List ℕ → Type 0
Holds s front = HoldsIn s.form s.long s.held.items front

-- The frames of the octets that came are listed so, and what is left of them is held.
pub record ListsFrames (s : Stretch) (bytes listing : List ℕ) : Type 0 where
  pub whole : s.is_broken ≡ false
  pub items : List Item
  pub front : List ℕ
  pub so_far : ItemsSoFarIn s.form.set s.form.limit bytes items front
  pub texts : AreTexts (IsShown s.form.json) items listing
  pub holds : Holds s front
  pub lawful : s.is_lawful ≡ list_all is_message items

-- A length field was below 10, and whatever follows, this is the listing of all of it.
pub record HasBroken (s : Stretch) (bytes listing : List ℕ) : Type 0 where
  pub broken : s.is_broken ≡ true
  pub items : List Item
  pub are : (more : List ℕ) → ItemsIn s.form.set s.form.limit (bytes ++ more) items Broken
  pub is : IsStreamText (IsShown s.form.json) (end_shown s.form.json) items Broken listing

-- these octets came, and this is listed of them
abbrev pub Stands : Stretch → (bytes listing : List ℕ) → Type 0
Stands s bytes listing = ListsFrames s bytes listing ⊎ HasBroken s bytes listing

-- More octets came, and what is listed of them with those before is appended to a text, block by block.
pub record Lists (stamp : Stamp) (octets bytes listing : List ℕ) (new : Stretch) (text0 text1 : List ℕ) : Type 0 where
  pub more : List ℕ
  pub stands : Stands new (bytes ++ octets) (listing ++ more)
  pub blocks : AreBlocks new.form.json stamp more text0 text1

-- The octets end so. What was listed of them, with what is appended here, is the listing of them all, and the verdict is theirs.
pub record EndsWith (stamp : Stamp) (bytes listing : List ℕ) (verdict : Verdict) (s : Stretch) (text0 text1 : List ℕ) : Type 0 where
  pub items : List Item
  pub end : End
  pub more : List ℕ
  pub are : ItemsIn s.form.set s.form.limit bytes items end
  pub is : IsStreamText (IsShown s.form.json) (end_shown s.form.json) items end (listing ++ more)
  pub blocks : AreBlocks s.form.json stamp more text0 text1
  pub verdict_is : verdict ≡ verdict_of (is_lawful items end)
