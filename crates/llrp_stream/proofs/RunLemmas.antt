-- Bytes that come in pieces.
use Rattle.std.proofs.Common.{◌≡◌, ℕ, List, [], ◌∷◌, ◌++◌, take, drop, Option, Some, None, Result, Ok, Err, refl, sym, ap, subst, ◌∙◌, append_assoc, inl, inr}
use Rattle.llrp_schema.specs.declared.kinds.KindSet.{KindSet}
use Rattle.std.specs.List.{AllByRecursion, AllZip}
use Rattle.std.proofs.lemmas.List.{append-nil, take-append-drop}
use Rattle.llrp_stream.specs.declared.item.Item.{Item}
use Rattle.llrp_stream.specs.declared.item.End.{End}
use Rattle.llrp_stream.specs.declared.item.End.TheVariants as at_end
use Rattle.llrp_stream.specs.declared.item.Fed.{Fed}
use Rattle.llrp_stream.specs.declared.item.FeedErr.{FeedErr}
use Rattle.llrp_stream.specs.declared.item.FeedErr.TheVariants.{Broken, Memory, Dead}
use Rattle.llrp_stream.specs.Cuts.{IsFrame, Breaks, EndsStream, joined}
use Rattle.llrp_stream.specs.Items.{IsItemIn, ItemsIn, ItemsSoFarIn}
use Rattle.llrp_stream.specs.Decoding.{DecoderState, IsBroken}
use Rattle.llrp_stream.specs.Calls.Decoding.{StandsIn}
use Rattle.llrp_stream.specs.Feeding.{TakesIn, FeedsIn, Feed, GivesNone, TakesPiece, TakesPieces, Finishes}
use Rattle.llrp_stream.specs.Calls.StreamLaws.{ItemsGrowIn}
use Rattle.llrp_stream.proofs.FrontLemmas.{no_frame_breaks}
use Rattle.llrp_stream.proofs.Unique.{after_front_in}

pub each_push : (P : List ℕ → Type 0) (xs : List (List ℕ)) (x : List ℕ) → AllByRecursion P xs → P x → AllByRecursion P (xs ++ (x ∷ []))
each_push P [] x h p = (p, tt)
each_push P (y ∷ xs) x h p = (h.0, each_push P xs x h.1 p)

zip_push : (R : List ℕ → Item → Type 0) (xs : List (List ℕ)) (ys : List Item) (x : List ℕ) (y : Item) → AllZip R xs ys → R x y → AllZip R (xs ++ (x ∷ [])) (ys ++ (y ∷ []))
zip_push R [] [] x y h p = (p, tt)
zip_push R [] (b ∷ ys) x y h p = absurd h
zip_push R (a ∷ xs) [] x y h p = absurd h
zip_push R (a ∷ xs) (b ∷ ys) x y h p = (h.0, zip_push R xs ys x y h.1 p)

pub joined_push : (frames : List (List ℕ)) (frame : List ℕ) → joined (frames ++ (frame ∷ [])) ≡ joined frames ++ frame
joined_push [] frame = append-nil frame
joined_push (f ∷ frames) frame = ap (λ (x : List ℕ). f ++ x) (joined_push frames frame) ∙ sym (append_assoc f (joined frames) frame)

-- ---- the items so far

by_bytes : {p : KindSet} (limit : ℕ) (bytes : List ℕ) (items : List Item) (front more : List ℕ) → ItemsSoFarIn p limit bytes items front → ItemsSoFarIn p limit (bytes ++ more) items (front ++ more)
by_bytes limit bytes items front more so = record { frames = so.frames; whole = ap (λ (x : List ℕ). x ++ more) so.whole ∙ append_assoc (joined so.frames) front more; each = so.each; are = so.are }

by_a_frame : {p : KindSet} (limit : ℕ) (bytes : List ℕ) (items : List Item) (front : List ℕ) (item : Item) → ItemsSoFarIn p limit bytes items front → IsFrame front → IsItemIn p limit front item → ItemsSoFarIn p limit bytes (items ++ item ∷ []) []
by_a_frame limit bytes items front item so is it = record {
  frames = so.frames ++ front ∷ [];
  whole = so.whole ∙ sym (joined_push so.frames front) ∙ sym (append-nil (joined (so.frames ++ front ∷ [])));
  each = each_push IsFrame so.frames front so.each is;
  are = zip_push (IsItemIn _ limit) so.frames items front item so.are it;
}

at_the_end : {p : KindSet} (limit : ℕ) (bytes : List ℕ) (items : List Item) (front : List ℕ) (end : End) → ItemsSoFarIn p limit bytes items front → EndsStream front end → ItemsIn p limit bytes items end
at_the_end limit bytes items front end so ends = record { frames = so.frames; cut = record { tail = front; whole = so.whole; each = so.each; ends = ends }; each = so.are }

come_first : {p : KindSet} (limit : ℕ) (bytes more : List ℕ) (items others : List Item) (front : List ℕ) (end : End) → ItemsSoFarIn p limit bytes items front → ItemsIn p limit (bytes ++ more) others end → (later : List Item) × (others ≡ items ++ later)
come_first limit bytes more items others front end so all =
    let whole : joined so.frames ++ (front ++ more) ≡ joined all.frames ++ all.cut.tail = sym (append_assoc (joined so.frames) front more) ∙ ap (λ (x : List ℕ). x ++ more) (sym so.whole) ∙ all.cut.whole in
    let after = after_front_in _ limit so.frames items (front ++ more) all.frames others all.cut.tail end so.each so.are whole all.cut.ends all.cut.each all.each in
    (after.more, after.are)

pub items_grow : {p : KindSet} (limit : ℕ) → ItemsGrowIn p limit
items_grow limit = record {
  none = record { frames = []; whole = refl; each = tt; are = tt };
  by_bytes = by_bytes limit;
  by_a_frame = by_a_frame limit;
  at_the_end = at_the_end limit;
  come_first = come_first limit;
}

-- ---- a decoder that is fed

-- a decoder stands for what follows the last frame, or met a break there
data At (p : KindSet) (decoder : DecoderState) (bytes : List ℕ) (items : List Item) : Type 0 where
  going : (front : List ℕ) → StandsIn p decoder front → ItemsSoFarIn p decoder.limit bytes items front → At p decoder bytes items
  over : (tail : List ℕ) → IsBroken decoder → Breaks tail → ItemsSoFarIn p decoder.limit bytes items tail → At p decoder bytes items

-- an answer without an item
by_answer : (p : KindSet) (old new : DecoderState) (front piece bytes : List ℕ) (items : List Item) (answer : Result Fed FeedErr) → new.limit ≡ old.limit → ItemsSoFarIn p old.limit bytes items front → GivesNone answer → FeedsIn p old front piece new answer → At p new (bytes ++ piece) items
by_answer p old new front piece bytes items (Ok fed) same so none feeds =
    let takes : TakesIn p old.limit front piece new fed.used None = subst (λ (o : Option Item). TakesIn p old.limit front piece new fed.used o) none feeds in
    going (front ++ piece) takes.1 (rw same (by_bytes old.limit bytes items front piece so))
by_answer p old new front piece bytes items (Err Broken) same so none feeds = over (front ++ piece) feeds.1 feeds.0 (rw same (by_bytes old.limit bytes items front piece so))
by_answer p old new front piece bytes items (Err Memory) same so none feeds = absurd none
by_answer p old new front piece bytes items (Err Dead) same so none feeds = absurd none

by_piece : (p : KindSet) (old new : DecoderState) (piece bytes : List ℕ) (items first : List Item) → At p old bytes items → TakesPiece old piece first new → At p new (bytes ++ piece) (items ++ first) × (new.limit ≡ old.limit)
by_piece p old new piece bytes items [] at (inl none) = (rw (none.0, none.1, append-nil bytes, append-nil items) at, ap (λ (d : DecoderState). d.limit) none.1)
by_piece p old new piece bytes items [] (going front stands so) (inr t) =
    let feed : Feed old piece new t.0 = t.1.1 in
    (rw append-nil (by_answer p old new front piece bytes items t.0 feed.limit so t.1.0 (feed.stands p front stands)), feed.limit)
by_piece p old new piece bytes items [] (over tail broken breaks so) (inr t) =
    let feed : Feed old piece new t.0 = t.1.1 in
    (rw append-nil (over (tail ++ piece) (feed.broken broken).1 (no_frame_breaks tail piece breaks) (rw feed.limit (by_bytes old.limit bytes items tail piece so))), feed.limit)
by_piece p old new piece bytes items (item ∷ first) (going front stands so) t =
    let used : ℕ = t.0 in
    let mid : DecoderState = t.1.0 in
    let feed : Feed old piece mid (Ok (record { used = used; item = Some item })) = t.1.1.0 in
    let takes : TakesIn p old.limit front piece mid used (Some item) = feed.stands p front stands in
    let more : ItemsSoFarIn p mid.limit (bytes ++ take used piece) (items ++ item ∷ []) [] =
    rw feed.limit (by_a_frame old.limit (bytes ++ take used piece) items (front ++ take used piece) item (by_bytes old.limit bytes items front (take used piece) so) takes.1 takes.2) in
    let next = by_piece p mid new (drop used piece) (bytes ++ take used piece) (items ++ item ∷ []) first (going [] takes.3 more) t.1.1.1 in
    let whole : (bytes ++ take used piece) ++ drop used piece ≡ bytes ++ piece = append_assoc bytes (take used piece) (drop used piece) ∙ ap (λ (x : List ℕ). bytes ++ x) (take-append-drop used piece) in
    let all : (items ++ item ∷ []) ++ first ≡ items ++ item ∷ first = append_assoc items (item ∷ []) first in
    (subst (λ (x : List ℕ). At p new x (items ++ item ∷ first)) whole (subst (λ (x : List Item). At p new ((bytes ++ take used piece) ++ drop used piece) x) all next.0), next.1 ∙ feed.limit)
by_piece p old new piece bytes items (item ∷ first) (over tail broken breaks so) t =
    let feed : Feed old piece t.1.0 (Ok (record { used = t.0; item = Some item })) = t.1.1.0 in
    let no = (feed.broken broken).0 in
    absurd cc

by_pieces : (p : KindSet) (old new : DecoderState) (pieces : List (List ℕ)) (bytes : List ℕ) (items more : List Item) → At p old bytes items → TakesPieces old pieces more new → At p new (bytes ++ joined pieces) (items ++ more) × (new.limit ≡ old.limit)
by_pieces p old new [] bytes items more at t = (rw (t.0, t.1, append-nil bytes, append-nil items) at, ap (λ (d : DecoderState). d.limit) t.1)
by_pieces p old new (piece ∷ pieces) bytes items more at t =
    let first : List Item = t.0 in
    let later : List Item = t.1 in
    let mid : DecoderState = t.2.0 in
    let one = by_piece p old mid piece bytes items first at t.2.1.1.0 in
    let next = by_pieces p mid new pieces (bytes ++ piece) (items ++ first) later one.0 t.2.1.1.1 in
    let all : (items ++ first) ++ later ≡ items ++ more = append_assoc items first later ∙ ap (λ (x : List Item). items ++ x) (sym t.2.1.0) in
    (subst (λ (x : List ℕ). At p new x (items ++ more)) (append_assoc bytes piece (joined pieces)) (subst (λ (x : List Item). At p new ((bytes ++ piece) ++ joined pieces) x) all next.0), next.1 ∙ one.1)

ends_at : (p : KindSet) (decoder : DecoderState) (bytes : List ℕ) (items : List Item) (end : End) → At p decoder bytes items → Finishes decoder end → ItemsIn p decoder.limit bytes items end
ends_at p decoder bytes items end (going front stands so) f = at_the_end decoder.limit bytes items front end so (f.stands p front stands)
ends_at p decoder bytes items end (over tail broken breaks so) f = rw (f.broken broken) (at_the_end decoder.limit bytes items tail at_end.Broken so breaks)

pub of_the_stream : (p : KindSet) (old new : DecoderState) (pieces : List (List ℕ)) (items : List Item) (end : End) → StandsIn p old [] → TakesPieces old pieces items new → Finishes new end → ItemsIn p old.limit (joined pieces) items end
of_the_stream p old new pieces items end stands takes finishes =
    let all = by_pieces p old new pieces [] [] items (going [] stands (record { frames = []; whole = refl; each = tt; are = tt })) takes in
    rw (sym all.1) (ends_at p new (joined pieces) items end all.0 finishes)
