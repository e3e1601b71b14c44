-- Words of the profile that no public contract names.
use Rattle.std.specs.Prelude.{ℕ, List, Option}
use Rattle.llrp_schema.specs.declared.kinds.KindSet.TheVariants.{Profile}
use Rattle.llrp_tree.specs.Tree.{MessageTree}
use Rattle.llrp_stream.specs.declared.item.Item.{Item}
use Rattle.llrp_stream.specs.declared.item.End.{End}
use Rattle.llrp_stream.specs.Decoding.{DecoderState}
use Rattle.llrp_stream.specs.Items.{FrameIn, IsItemIn, ItemsIn}
use Rattle.llrp_stream.specs.Feeding.{TakesIn}
use Rattle.llrp_stream.specs.StreamLaws.{HasOneListingIn}
use Rattle.llrp_stream.specs.Calls.StreamLaws.{ItemsGrowIn}

abbrev pub FrameOf : MessageTree → List ℕ → (limit : ℕ) → Type 0
FrameOf m bytes limit = FrameIn Profile m bytes limit

abbrev pub Items : (limit : ℕ) → (stream : List ℕ) → List Item → End → Type 0
Items limit stream items end = ItemsIn Profile limit stream items end

abbrev pub IsItemOf : ℕ → List ℕ → Item → Type 0
IsItemOf limit frame item = IsItemIn Profile limit frame item

abbrev pub Takes : (limit : ℕ) → (front piece : List ℕ) → DecoderState → (used : ℕ) → Option Item → Type 0
Takes limit front piece new used item = TakesIn Profile limit front piece new used item

abbrev pub HasOneListing : (limit : ℕ) → (stream : List ℕ) → Type 0
HasOneListing limit stream = HasOneListingIn Profile limit stream

abbrev pub ItemsGrow : (limit : ℕ) → Type 0
ItemsGrow limit = ItemsGrowIn Profile limit
