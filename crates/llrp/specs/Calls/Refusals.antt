-- What is heard of a reader that refuses what was sent beside a plan.
use Rattle.std.specs.Prelude.{◌≡◌, ℕ, ◌⊎◌, true, List, [], ◌∷◌, ◌++◌, Option, None, Some}
use Rattle.std.specs.List.{AllByRecursion}
use Rattle.llrp_schema.specs.declared.kinds.KindSet.TheVariants.{Standard}
use Rattle.llrp_stream.specs.Cuts.{Breaks}
use Rattle.llrp_stream.specs.Decoding.{IsBroken, IsDead}
use Rattle.llrp_stream.specs.Calls.Decoding.{StandsIn}
use Rattle.llrp_stream.specs.Items.{ItemsSoFarIn}
use Rattle.llrp_stream.specs.declared.item.Item.{Item}
use Rattle.llrp_stream.specs.declared.item.Item.TheVariants.{Msg, Bad}
use Rattle.llrp.specs.declared.faults.FaultFinder.{FaultFinder}
use Rattle.llrp.specs.Calls.Access.{refused_status}

-- with which status an item refuses a message on AccessSpecs, if it does
abbrev pub refused_by : Item → Option ℕ
refused_by (Msg m) = refused_status m
refused_by (Bad id fault) = None

abbrev pub NoneRefuses : List Item → Type 0
NoneRefuses items = AllByRecursion (λ item. refused_by item ≡ None) items

-- No message of these octets refuses one; it goes on with what is left of them, or the stream broke.
pub record HearsNone (limit : ℕ) (octets : List ℕ) (f : FaultFinder) : Type 0 where
  pub items : List Item
  pub front : List ℕ
  pub so_far : ItemsSoFarIn Standard limit octets items front
  pub none : NoneRefuses items
  pub left : StandsIn Standard f.decoder front ⊎ (IsBroken f.decoder × Breaks front)
  pub refused : f.refused ≡ None

-- It has the status of the first message of these octets that refuses one.
pub record HearsRefusal (limit : ℕ) (octets : List ℕ) (f : FaultFinder) : Type 0 where
  pub items : List Item
  pub last : Item
  pub front : List ℕ
  pub later : List ℕ
  pub status : ℕ
  pub parts : octets ≡ front ++ later
  pub so_far : ItemsSoFarIn Standard limit front (items ++ last ∷ []) []
  pub none : NoneRefuses items
  pub refuses : refused_by last ≡ Some status
  pub refused : f.refused ≡ Some status

-- Memory ran out, and it hears nothing more.
pub record HearsNoMore (f : FaultFinder) : Type 0 where
  pub dead : IsDead f.decoder
  pub refused : f.refused ≡ None

-- what a finder that heeds messages on AccessSpecs heard of these octets
pub record HasHeard (limit : ℕ) (octets : List ℕ) (f : FaultFinder) : Type 0 where
  pub heeds : f.heeds_access ≡ true
  pub limit_is : f.decoder.limit ≡ limit
  pub heard : HearsNone limit octets f ⊎ (HearsRefusal limit octets f ⊎ HearsNoMore f)

-- it heard these octets after all before
abbrev pub Hears : List ℕ → FaultFinder → FaultFinder → Type 0
Hears piece old new = (limit : ℕ) (octets : List ℕ) → HasHeard limit octets old → HasHeard limit (octets ++ piece) new
