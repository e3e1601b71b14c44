-- Each frame has an item, and each stream its items.
use Rattle.std.proofs.Common.{◌≡◌, ℕ, zero, suc, ◌<◌, ◌≤◌, ◌⊎◌, leb, true, false, List, [], ◌∷◌, ◌++◌, length, take, drop, refl, sym, ap, ◌∙◌, arith, inl, inr}
use Rattle.std.proofs.lemmas.Bool.{leb-true, leb-false}
use Rattle.std.proofs.lemmas.List.{take-append-drop, length-take-le, length-drop, append_assoc}
use Rattle.llrp_tree.specs.declared.TheConstants.{MAX_LIMIT}
use Rattle.llrp_tree.specs.Lawful.{AreOctets}
use Rattle.llrp_tree.specs.FrameLaws.{IsWhole}
use Rattle.llrp_schema.specs.declared.kinds.KindSet.{KindSet}
use Rattle.llrp_tree.proofs.Totality.{either}
use Rattle.llrp_stream.specs.declared.item.Item.{Item}
use Rattle.llrp_stream.specs.declared.item.Item.TheVariants.{Msg, Bad}
use Rattle.llrp_stream.specs.declared.item.End.{End}
use Rattle.llrp_stream.specs.declared.item.End.TheVariants.{Clean, Rest, Broken}
use Rattle.llrp_stream.specs.Cuts.{length_field, IsFrame, EndsStream, joined}
use Rattle.llrp_stream.specs.Items.{id_field, IsItemIn, ItemsIn}
use Rattle.llrp_stream.specs.Calls.StreamLaws.{HasOneItemIn}
use Rattle.llrp_stream.specs.StreamLaws.{HasOneListingIn}
use Rattle.llrp_stream.proofs.FrontLemmas.{length_field-append}
use Rattle.llrp_stream.proofs.HeaderLemmas.{octets-drop}
use Rattle.llrp_stream.proofs.Unique.{same_item, same_items}
use Rattle.llrp_stream.proofs.FramesLemmas.{octets-take}

pub below_or_not : (a b : ℕ) → (a < b) ⊎ (b ≤ a)
below_or_not a b =
    (elim (leb b a) as (λ t. leb b a ≡ t → (a < b) ⊎ (b ≤ a)) [ true ↦ λ e. inr (leb-true b a e) | false ↦ λ e. inl (leb-false b a e) ]) refl

item_of : (p : KindSet) (limit : ℕ) (frame : List ℕ) → limit ≤ MAX_LIMIT → AreOctets frame → IsFrame frame → (item : Item) × IsItemIn p limit frame item
unfolding length_field
item_of p limit frame le octets is =
    let whole : IsWhole frame = record { octets = octets; header = is.header; own_length = is.whole } in
    elim (either p limit le frame whole) [
      | inl lawful ↦ (Msg lawful.0, record { frame = lawful.1; own = lawful.2 })
      | inr faulty ↦ (Bad (id_field frame) (record { bit = faulty.0; reason = faulty.1 }), (refl, faulty.2))
    ]

pub has_one_item : (p : KindSet) (limit : ℕ) (frame : List ℕ) → limit ≤ MAX_LIMIT → AreOctets frame → IsFrame frame → HasOneItemIn p limit frame
has_one_item p limit frame le octets is =
    let found = item_of p limit frame le octets is in
    record { item = found.0; is = found.1; only = λ other q. same_item p limit frame other found.0 q found.1 }

-- the items and the end of a stream
record Told (p : KindSet) (limit : ℕ) (stream : List ℕ) : Type 0 where
  items : List Item
  end : End
  are : ItemsIn p limit stream items end

ended : {p : KindSet} (limit : ℕ) (stream : List ℕ) (end : End) → EndsStream stream end → Told p limit stream
ended limit stream end ends = record { items = []; end = end; are = record { frames = []; cut = record { tail = stream; whole = refl; each = tt; ends = ends }; each = tt } }

-- a frame before a stream whose items are known
begun : (p : KindSet) (limit : ℕ) (frame rest stream : List ℕ) → limit ≤ MAX_LIMIT → AreOctets frame → IsFrame frame → stream ≡ frame ++ rest → Told p limit rest → Told p limit stream
begun p limit frame rest stream le octets is parts told =
    let found = item_of p limit frame le octets is in
    record {
      items = found.0 ∷ told.items;
      end = told.end;
      are = record {
        frames = frame ∷ told.are.frames;
        cut = record {
          tail = told.are.cut.tail;
          whole = parts ∙ ap (λ (x : List ℕ). frame ++ x) told.are.cut.whole ∙ sym (append_assoc frame (joined told.are.frames) told.are.cut.tail);
          each = (is, told.are.cut.each);
          ends = told.are.cut.ends;
        };
        each = (found.1, told.are.each);
      };
    }

is_frame : (n : ℕ) (bytes : List ℕ) → 10 ≤ n → n ≤ length bytes → n ≡ length_field bytes → IsFrame (take n bytes)
is_frame n bytes ten le is =
    let long = length-take-le n bytes le in
    let same : length_field (take n bytes) ≡ length_field bytes = sym (length_field-append (take n bytes) (drop n bytes) (omega arith)) ∙ ap length_field (take-append-drop n bytes) in
    record { header = omega arith; whole = same ∙ sym is ∙ sym long }

-- what is at the front of a stream: a frame of this many octets, or its end
front : (stream : List ℕ) → ((n : ℕ) × (10 ≤ n) × (n ≤ length stream) × (n ≡ length_field stream)) ⊎ ((end : End) × EndsStream stream end)
front [] = inr (Clean, refl)
front (b ∷ bytes) =
    let stream = b ∷ bytes in
    elim (below_or_not (length stream) 6) [
      | inl short ↦ inr (Rest (length stream), (refl, omega arith, inl short))
      | inr six ↦ elim (below_or_not (length_field stream) 10) [
        | inl broken ↦ inr (Broken, (six, broken))
        | inr ten ↦ elim (below_or_not (length stream) (length_field stream)) [
          | inl part ↦ inr (Rest (length stream), (refl, omega arith, inr (ten, part)))
          | inr all ↦ inl (length_field stream, ten, all, refl)
        ]
      ]
    ]

told : (p : KindSet) (size limit : ℕ) (stream : List ℕ) → limit ≤ MAX_LIMIT → length stream ≤ size → AreOctets stream → Told p limit stream
told p zero limit [] most le octets = ended limit [] Clean refl
told p zero limit (b ∷ bytes) most le octets = absurd (omega arith)
told p (suc size) limit stream most le octets =
    elim (front stream) [
      | inr last ↦ ended limit stream last.0 last.1
      | inl found ↦
          let n = found.0 in
          let ten = found.1 in
          let shorter : length (drop n stream) ≤ size = omega (arith, length-drop n stream) in
          begun p limit (take n stream) (drop n stream) stream most (octets-take n stream octets) (is_frame n stream found.1 found.2 found.3) (sym (take-append-drop n stream)) (told p size limit (drop n stream) most shorter (octets-drop n stream octets))
    ]

pub has_one_listing : {p : KindSet} (limit : ℕ) (stream : List ℕ) → limit ≤ MAX_LIMIT → AreOctets stream → HasOneListingIn p limit stream
has_one_listing limit stream most octets =
    let all = told _ (length stream) limit stream most (omega arith) octets in
    record {
      items = all.items;
      end = all.end;
      are = all.are;
      only_items = λ others last p. (same_items limit stream all.items others all.end last all.are p).0;
      only_end = λ others last p. (same_items limit stream all.items others all.end last all.are p).1;
    }
