-- What the steps of a stretch do to it, and to the text.
use Rattle.std.specs.Prelude.{◌≡◌, ◌⊎◌, ℕ, ◌<◌, ◌≤◌, Bool, true, false, ◌&&◌, List, [], ◌∷◌, ◌++◌, length, take, Option, Some, None}
use Rattle.std.specs.List.{AllZip, flat_map, list_all}
use Rattle.llrp_tree.specs.declared.fault.Fault.{Fault}
use Rattle.llrp_stream.specs.declared.item.Item.{Item}
use Rattle.llrp_stream.specs.declared.item.Item.TheVariants.{Bad}
use Rattle.llrp_stream.specs.declared.item.End.{End}
use Rattle.llrp_stream.specs.declared.item.End.TheVariants.{Broken, Clean, Dead, Rest}
use Rattle.llrp_stream.specs.Cuts.{Breaks, IsFrame, joined, length_field}
use Rattle.llrp_stream.specs.Decoding.{DecoderState}
use Rattle.llrp_stream.specs.Calls.Decoding.{StandsIn}
use Rattle.llrp_stream.specs.Items.{IsItemIn, ItemsIn, ItemsSoFarIn}
use Rattle.llrp_listing.specs.StreamListing.{IsStreamText, is_clean, is_lawful, is_message}
use Rattle.llrp_sides.specs.declared.stamp.Stamp.{Stamp}
use Rattle.llrp_sides.specs.declared.stretch.Stretch.{Stretch}
use Rattle.llrp_sides.specs.Calls.Blocks.{IsShown, end_shown, stamped}
use Rattle.llrp_sides.specs.Calls.Stretches.{Holds}

-- A frame is listed.
pub record ListsFrame (stamp : Stamp) (frame : List ℕ) (old new : Stretch) (text0 text1 : List ℕ) : Type 0 where
  pub item : Item
  pub block : List ℕ
  pub is_item : IsItemIn old.form.set old.form.limit frame item
  pub is_block : IsShown old.form.json item block
  pub text : text1 ≡ text0 ++ stamped old.form.json stamp block
  pub lawful : new.is_lawful ≡ (old.is_lawful && is_message item)
  pub same : new ≡ record old { is_lawful = new.is_lawful }

-- A faulty frame is listed.
pub record ListsFault (stamp : Stamp) (id : ℕ) (fault : Fault) (old new : Stretch) (text0 text1 : List ℕ) : Type 0 where
  pub block : List ℕ
  pub is_block : IsShown old.form.json (Bad id fault) block
  pub text : text1 ≡ text0 ++ stamped old.form.json stamp block
  pub same : new ≡ record old { is_lawful = false }

-- an end is listed
abbrev pub EndsAs : Stamp → End → Stretch → (text0 text1 : List ℕ) → Type 0
EndsAs stamp end s text0 text1 = text1 ≡ text0 ++ stamped s.form.json stamp (end_shown s.form.json end)

-- the octets break off
abbrev pub BreaksOff : Stamp → (old new : Stretch) → (text0 text1 : List ℕ) → Type 0
BreaksOff stamp old new text0 text1 = (new ≡ record old { is_broken = true }) × EndsAs stamp Broken old text0 text1

-- a decoder took octets of a frame after this front: all of them, or that number, with which the frame is listed
abbrev pub PassesTo : Stamp → (front octets : List ℕ) → Option ℕ → (old new : Stretch) → (text0 text1 : List ℕ) → Type 0
PassesTo stamp front octets None old new text0 text1 =
    (mid : DecoderState) × (new ≡ record old { long = Some mid }) × StandsIn old.form.set mid (front ++ octets) × (mid.limit ≡ old.form.limit) × (text1 ≡ text0)
PassesTo stamp front octets (Some used) old new text0 text1 = IsFrame (front ++ take used octets) × ListsFrame stamp (front ++ take used octets) old new text0 text1

-- whatever front of a frame that is longer than a message may be it stood for
abbrev pub Passes : Stamp → DecoderState → (octets : List ℕ) → Option ℕ → (old new : Stretch) → (text0 text1 : List ℕ) → Type 0
Passes stamp decoder octets used old new text0 text1 = (front : List ℕ) → StandsIn old.form.set decoder front → decoder.limit ≡ old.form.limit
    → 6 ≤ length (front ++ octets) → old.form.limit < length_field (front ++ octets) → PassesTo stamp front octets used old new text0 text1

-- The frames of octets before a rest are listed, each as a block.
pub record TakesSome (stamp : Stamp) (octets rest : List ℕ) (old new : Stretch) (text0 text1 : List ℕ) : Type 0 where
  pub items : List Item
  pub blocks : List (List ℕ)
  pub came : ItemsSoFarIn old.form.set old.form.limit octets items rest
  pub are : AllZip (IsShown old.form.json) items blocks
  pub text : text1 ≡ text0 ++ flat_map (stamped old.form.json stamp) blocks
  pub lawful : new.is_lawful ≡ (old.is_lawful && list_all is_message items)
  pub same : new ≡ record old { is_lawful = new.is_lawful }

-- what becomes of the rest: it is held, or it breaks off, which is one block more
abbrev pub Rests : (new : Stretch) → (rest : List ℕ) → (last : List (List ℕ)) → Type 0
Rests new rest last = ((new.is_broken ≡ false) × Holds new rest × (last ≡ [])) ⊎ ((new.is_broken ≡ true) × Breaks rest × (last ≡ end_shown new.form.json Broken ∷ []))

-- Nothing of a rest is listed, and it is held, or it breaks off.
pub record LeavesRest (stamp : Stamp) (rest : List ℕ) (old new : Stretch) (text0 text1 : List ℕ) : Type 0 where
  pub last : List (List ℕ)
  pub text : text1 ≡ text0 ++ flat_map (stamped old.form.json stamp) last
  pub lawful : new.is_lawful ≡ old.is_lawful
  pub form : new.form ≡ old.form
  pub rests : Rests new rest last

-- the frame that stands first is listed, or none is whole
abbrev pub TakesFront : Stamp → (octets : List ℕ) → Option ℕ → (old new : Stretch) → (text0 text1 : List ℕ) → Type 0
TakesFront stamp octets None old new text0 text1 = old.long ≡ None → old.is_broken ≡ false → LeavesRest stamp octets old new text0 text1
TakesFront stamp octets (Some used) old new text0 text1 = IsFrame (take used octets) × ListsFrame stamp (take used octets) old new text0 text1

-- All frames of octets are listed, and the rest is held or breaks off.
pub record TakesAll (stamp : Stamp) (octets : List ℕ) (old new : Stretch) (text0 text1 : List ℕ) : Type 0 where
  pub items : List Item
  pub blocks : List (List ℕ)
  pub rest : List ℕ
  pub last : List (List ℕ)
  pub came : ItemsSoFarIn old.form.set old.form.limit octets items rest
  pub are : AllZip (IsShown old.form.json) items blocks
  pub text : text1 ≡ text0 ++ flat_map (stamped old.form.json stamp) (blocks ++ last)
  pub lawful : new.is_lawful ≡ (old.is_lawful && list_all is_message items)
  pub form : new.form ≡ old.form
  pub rests : Rests new rest last

-- where no frame was begun
abbrev pub TakesFrames : Stamp → (octets : List ℕ) → (old new : Stretch) → (text0 text1 : List ℕ) → Type 0
TakesFrames stamp octets old new text0 text1 = old.long ≡ None → old.is_broken ≡ false → TakesAll stamp octets old new text0 text1

-- the blocks of an end: that of a break is listed already
abbrev pub end_blocks : (json : Bool) → End → List (List ℕ)
end_blocks json Clean = []
end_blocks json (Rest count) = end_shown json (Rest count) ∷ []
end_blocks json Broken = []
end_blocks json Dead = []

-- these are listed
abbrev pub ListsRest : Stamp → End → Stretch → (text0 text1 : List ℕ) → Type 0
ListsRest stamp end s text0 text1 = text1 ≡ text0 ++ flat_map (stamped s.form.json stamp) (end_blocks s.form.json end)

-- The octets end so. With the blocks of the end, what was listed is the listing of them all.
pub record IsEnding (s : Stretch) (bytes listing : List ℕ) (end : End) : Type 0 where
  pub items : List Item
  pub are : ItemsIn s.form.set s.form.limit bytes items end
  pub is : IsStreamText (IsShown s.form.json) (end_shown s.form.json) items end (listing ++ joined (end_blocks s.form.json end))
  pub lawful : (s.is_lawful && is_clean end) ≡ is_lawful items end
