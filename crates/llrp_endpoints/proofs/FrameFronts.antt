-- Whatever front of the frames of messages was read: the first of them are whole in it, and it ends with the front of another's frame.
use Rattle.std.proofs.Common.{◌≡◌, ℕ, ◌+◌, ◌<◌, inl, inr, List, [], ◌∷◌, ◌++◌, map, length, drop, refl, sym, ap, ap₂, subst, ◌∙◌, arith, append_assoc}
use Rattle.std.specs.List.{AllZip}
use Rattle.std.proofs.lemmas.List.{drop_at, length-append, append-nil}
use Rattle.llrp_schema.specs.declared.kinds.KindSet.TheVariants.{Profile}
use Rattle.llrp_tree.specs.declared.TheConstants.{MAX_LIMIT}
use Rattle.llrp_tree.specs.Tree.{MessageTree}
use Rattle.llrp_tree.specs.Frame.{Frame}
use Rattle.llrp_tree.proofs.LengthLemmas.{spelled_length}
use Rattle.llrp_stream.specs.declared.item.Item.{Item}
use Rattle.llrp_stream.specs.declared.item.Item.TheVariants.{Msg}
use Rattle.llrp_stream.specs.declared.item.End.TheVariants.{Clean}
use Rattle.llrp_stream.specs.Cuts.{length_field, IsFrame, IsPartial, joined}
use Rattle.llrp_stream.specs.Items.{ItemsSoFar}
use Rattle.llrp_stream.specs.Private.Profile.{FrameOf, Items}
use Rattle.llrp_stream.proofs.FrontLemmas.{length_field-append}
use Rattle.llrp_stream.proofs.ItemLemmas.{below_or_not}
use Rattle.llrp_stream.proofs.PrefixLemmas.{cut, partial, end_of, ends}
use Rattle.llrp_stream.proofs.Unique.{one_cut, same_items}
use Rattle.llrp_session.specs.Calls.MessageWorld.{AreSendable}
use Rattle.llrp_listing.specs.Private.Profile.{AreSpellings}
use Rattle.llrp_listing.proofs.PrintsBack as spellings
use Rattle.llrp_endpoints.specs.Sending.{AreFrames}
use Rattle.llrp_endpoints.specs.EndsAgree.{AreOwn}

pub record FrontOf (limit : ℕ) (messages : List MessageTree) (bytes later : List ℕ) : Type 0 where
  pub first : List MessageTree
  pub rest : List MessageTree
  pub parts : messages ≡ first ++ rest
  pub front : List ℕ
  pub whole : ItemsSoFar limit bytes (map Msg first) front
  pub unfinished : IsPartial front
  pub left : AreFrames rest (front ++ later)

pub within : (limit : ℕ) (m : MessageTree) (frame : List ℕ) → AreSendable limit (m ∷ []) → Frame m frame MAX_LIMIT → FrameOf m frame limit
within limit m frame s f =
    let long = spelled_length m frame f.spelled in
    let fits = s.0.within in
    record { frame = record { lawful = f.lawful; octets = f.octets; spelled = f.spelled; short = omega (arith, long, fits) }; own = s.0.own }

-- nothing is whole where the front is shorter than the first frame
none_whole : (limit : ℕ) (messages : List MessageTree) (bytes later : List ℕ) → AreFrames messages (bytes ++ later) → IsPartial bytes → FrontOf limit messages bytes later
none_whole limit messages bytes later f p = record {
  first = [];
  rest = messages;
  parts = refl;
  front = bytes;
  whole = record { frames = []; whole = refl; each = tt; are = tt };
  unfinished = p;
  left = f;
}

pub is_frame : (m : MessageTree) (frame : List ℕ) → Frame m frame MAX_LIMIT → IsFrame frame
is_frame m frame f = spellings.is_frame MAX_LIMIT m frame f

begins : (limit : ℕ) (m : MessageTree) (messages : List MessageTree) (f : List ℕ) (frames : List (List ℕ)) (bytes later : List ℕ)
    → AllZip (λ m frame. Frame m frame MAX_LIMIT) (m ∷ messages) (f ∷ frames) → bytes ++ later ≡ joined (f ∷ frames) → length bytes < length f → FrontOf limit (m ∷ messages) bytes later
begins limit m messages f frames bytes later each e lt =
    let c = cut f (joined frames) bytes later (sym e) (omega (arith, lt)) in
    none_whole limit (m ∷ messages) bytes later (record { frames = f ∷ frames; each = each; whole = e })
    (partial bytes c.middle (subst IsFrame c.first (is_frame m f each.0)) (omega (arith, lt, ap length c.first)))

-- one more message is whole
one_more : (limit : ℕ) (m : MessageTree) (messages : List MessageTree) (f bytes middle later : List ℕ) → AreSendable limit (m ∷ []) → Frame m f MAX_LIMIT → bytes ≡ f ++ middle
    → FrontOf limit messages middle later → FrontOf limit (m ∷ messages) bytes later
one_more limit m messages f bytes middle later s frame e more = record {
  first = m ∷ more.first;
  rest = more.rest;
  parts = ap (λ (ms : List MessageTree). m ∷ ms) more.parts;
  front = more.front;
  whole = record {
    frames = f ∷ more.whole.frames;
    whole = e ∙ ap (λ (z : List ℕ). f ++ z) more.whole.whole ∙ sym (append_assoc f (joined more.whole.frames) more.front);
    each = (is_frame m f frame, more.whole.each);
    are = (within limit m f s frame, more.whole.are);
  };
  unfinished = more.unfinished;
  left = more.left;
}

front_of : (limit : ℕ) (messages : List MessageTree) (frames : List (List ℕ)) (bytes later : List ℕ) → AreSendable limit messages → AllZip (λ m frame. Frame m frame MAX_LIMIT) messages frames
    → bytes ++ later ≡ joined frames → FrontOf limit messages bytes later
front_of limit [] [] bytes later s each e =
    none_whole limit [] bytes later (record { frames = []; each = tt; whole = e }) (inl (omega (arith, ap length e, length-append bytes later)))
front_of limit [] (f ∷ frames) bytes later s each e = absurd each
front_of limit (m ∷ messages) [] bytes later s each e = absurd each
front_of limit (m ∷ messages) (f ∷ frames) bytes later s each e = elim (below_or_not (length bytes) (length f)) [
  | inl shorter ↦ begins limit m messages f frames bytes later each e shorter
  | inr le ↦
      let c = cut bytes later f (joined frames) e le in
      one_more limit m messages f bytes c.middle later (s.0, tt) each.0 c.first (front_of limit messages frames c.middle later s.1 each.1 (sym c.second))
]

pub front_of_frames : (limit : ℕ) (messages : List MessageTree) (bytes later : List ℕ) → AreSendable limit messages → AreFrames messages (bytes ++ later) → FrontOf limit messages bytes later
front_of_frames limit messages bytes later s f = front_of limit messages f.frames bytes later s f.each f.whole

-- bytes that are less than a frame are the frames of no messages
pub no_messages : (messages : List MessageTree) (bytes : List ℕ) → AreFrames messages bytes → IsPartial bytes → messages ≡ []
no_messages [] bytes f p = refl
no_messages (m ∷ messages) bytes f p = absurd (go f.frames f.each f.whole)
  where
    go : (frames : List (List ℕ)) → AllZip (λ m frame. Frame m frame MAX_LIMIT) (m ∷ messages) frames → bytes ≡ joined frames → ⊥
    go [] each e = absurd each
    go (frame ∷ frames) each e =
        let is = is_frame m frame each.0 in
        let ten = is.header in
        let long : length bytes ≡ length frame + length (joined frames) = ap length e ∙ length-append frame (joined frames) in
        let same : length_field bytes ≡ length frame = ap length_field e ∙ length_field-append frame (joined frames) (omega (arith, ten)) ∙ is.whole in
        elim p [ inl short ↦ absurd (omega (arith, short, long, ten)) | inr part ↦ absurd (omega (arith, part.1, same, long)) ]

pub same_messages : (xs ys : List MessageTree) → map Msg xs ≡ map Msg ys → xs ≡ ys
same_messages [] [] e = refl
same_messages [] (y ∷ ys) e = cc
same_messages (x ∷ xs) [] e = cc
same_messages (x ∷ xs) (y ∷ ys) e =
    let first : x ≡ y = cc in
    let more : map Msg xs ≡ map Msg ys = cc in
    ap₂ (λ (z : MessageTree) (zs : List MessageTree). z ∷ zs) first (same_messages xs ys more)

are_spelled : (messages : List MessageTree) (frames : List (List ℕ)) → AreOwn messages → AllZip (λ m frame. Frame m frame MAX_LIMIT) messages frames → AreSpellings MAX_LIMIT messages frames
are_spelled [] [] own each = tt
are_spelled [] (f ∷ frames) own each = absurd each
are_spelled (m ∷ messages) [] own each = absurd each
are_spelled (m ∷ messages) (f ∷ frames) own each = (record { frame = each.0; own = own.0 }, are_spelled messages frames own.1 each.1)

-- bytes are the frames of one list of messages of the profile
pub one_list : (a b : List MessageTree) (xs ys : List (List ℕ)) → AreOwn a → AreOwn b → AllZip (λ m frame. Frame m frame MAX_LIMIT) a xs → AllZip (λ m frame. Frame m frame MAX_LIMIT) b ys → joined xs ≡ joined ys → a ≡ b
one_list a b xs ys own_a own_b p q e =
    let items : Items MAX_LIMIT (joined xs) (map Msg a) Clean = clean a xs own_a p in
    let others : Items MAX_LIMIT (joined xs) (map Msg b) Clean = subst (λ (bytes : List ℕ). Items MAX_LIMIT bytes (map Msg b) Clean) (sym e) (clean b ys own_b q) in
    sym (same_messages b a (same_items MAX_LIMIT (joined xs) (map Msg a) (map Msg b) Clean Clean items others).0)
  where
    clean : (messages : List MessageTree) (frames : List (List ℕ)) → AreOwn messages → AllZip (λ m frame. Frame m frame MAX_LIMIT) messages frames → Items MAX_LIMIT (joined frames) (map Msg messages) Clean
    clean messages frames own each = record {
      frames = frames;
      cut = record { tail = []; whole = sym (append-nil (joined frames)); each = spellings.are_frames Profile MAX_LIMIT messages frames (are_spelled messages frames own each); ends = refl };
      each = spellings.are_items Profile MAX_LIMIT messages frames (are_spelled messages frames own each);
    }

-- ---- bytes are read in one way

as_items : (limit : ℕ) (bytes : List ℕ) (items : List Item) (front : List ℕ) → ItemsSoFar limit bytes items front → IsPartial front → Items limit bytes items (end_of front)
as_items limit bytes items front h p = record { frames = h.frames; cut = record { tail = front; whole = h.whole; each = h.each; ends = ends front p }; each = h.are }

pub read_in_one_way : (limit : ℕ) (bytes : List ℕ) (items others : List Item) (front back : List ℕ) → ItemsSoFar limit bytes items front → IsPartial front → ItemsSoFar limit bytes others back → IsPartial back
    → (others ≡ items) × (back ≡ front)
unfolding as_items
read_in_one_way limit bytes items others front back h p g q =
    let one = as_items limit bytes items front h p in
    let other = as_items limit bytes others back g q in
    let frames : h.frames ≡ g.frames = (one_cut bytes h.frames g.frames (end_of front) (end_of back) one.cut other.cut).0 in
    let n : ℕ = length (joined g.frames) in
    let same : joined h.frames ≡ joined g.frames = ap joined frames in (
      (same_items limit bytes items others (end_of front) (end_of back) one other).0,
      sym (drop_at (joined g.frames) back n refl) ∙ ap (drop n) (sym g.whole ∙ h.whole) ∙ drop_at (joined h.frames) front n (ap length same),
    )
