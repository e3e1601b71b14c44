-- What is listed, and how it is written.
use Rattle.std.proofs.Common.{ℕ, List, Bool, Option, Some, None, inl, inr, sym, subst}
use Rattle.std.specs.Prelude.{IfSome}
use Rattle.llrp_schema.specs.declared.kinds.KindSet.{KindSet}
use Rattle.llrp_c.specs.declared.listings.Listed.{Listed}
use Rattle.llrp_c.specs.Listings.{IsListing, ListsIn}
use Rattle.llrp_c.specs.Next.{IsNext, NextIn}
use Rattle.llrp_c.specs.Private.Put.{PutsListed}

-- of all whole frames
pub lists : {json : Bool} {p : KindSet} (listed : Option Listed) (stream old new : List ℕ) (used count code : ℕ) → IfSome listed (λ l. IsListing json p stream l.used l.text.items l.status)
    → PutsListed listed old new used count code → ListsIn json p stream old new used count code
lists None stream old new used count code is puts = inr (inr puts)
lists {json} {p} (Some l) stream old new used count code is puts = elim puts [
  | inl put ↦ inl (l.text.items, l.status, subst (λ (n : ℕ). IsListing json p stream n l.text.items l.status) (sym put.1) is, put.0, put.2)
  | inr room ↦ inr (inl (l.text.items, l.used, l.status, is, room.0, room.1, room.2, room.3, room.4))
]

-- of the first frame
pub nexts : {json : Bool} {p : KindSet} (listed : Option Listed) (stream old new : List ℕ) (used count code : ℕ) → IfSome listed (λ l. IsNext json p stream l.used l.text.items l.status)
    → PutsListed listed old new used count code → NextIn json p stream old new used count code
nexts None stream old new used count code is puts = inr (inr (inr ((puts.0, puts.1, puts.2), puts.3)))
nexts {json} {p} (Some l) stream old new used count code is puts = elim puts [
  | inl put ↦ inl (l.text.items, l.status, subst (λ (n : ℕ). IsNext json p stream n l.text.items l.status) (sym put.1) is, put.0, put.2)
  | inr room ↦ inr (inl (l.text.items, l.used, l.status, is, room.0, room.1, room.2, room.3, room.4))
]
