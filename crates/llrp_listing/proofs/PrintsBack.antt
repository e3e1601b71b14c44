-- The listing of messages is that of their spellings.
use Rattle.std.proofs.Common.{◌≡◌, ℕ, ◌≤◌, ◌<◌, ◌^◌, Bool, List, [], ◌∷◌, ◌++◌, map, refl, sym, ap, subst, ◌∙◌, arith}
use Rattle.std.specs.List.{flat_map, AllZip, AllByRecursion}
use Rattle.std.proofs.lemmas.List.{append-nil}
use Rattle.std.proofs.lemmas.List.Concat.{flat_map-append}
use Rattle.tag_bits.specs.Digits.{digits}
use Rattle.llrp_schema.specs.declared.kinds.Kind.TheVariants.{Message}
use Rattle.llrp_schema.specs.declared.kinds.KindSet.{KindSet}
use Rattle.llrp_schema.specs.Schema.{number_of}
use Rattle.llrp_tree.specs.declared.TheConstants.{MAX_LIMIT}
use Rattle.llrp_tree.specs.Tree.{MessageTree}
use Rattle.llrp_tree.specs.Lawful.{message_octets}
use Rattle.llrp_tree.specs.Spelling.{body_digits, forest_digits, message_digits}
use Rattle.llrp_tree.specs.Frame.{Frame}
use Rattle.llrp_tree.specs.FirstFault.{number}
use Rattle.llrp_tree.proofs.Frames.{header_spread}
use Rattle.llrp_tree.proofs.LengthLemmas.{frame_length}
use Rattle.llrp_tree.proofs.ReadDigits.{number_own, number_behind}
use Rattle.llrp_stream.specs.declared.item.Item.{Item}
use Rattle.llrp_stream.specs.declared.item.Item.TheVariants.{Msg}
use Rattle.llrp_stream.specs.declared.item.End.{End}
use Rattle.llrp_stream.specs.declared.item.End.TheVariants.{Clean}
use Rattle.llrp_stream.specs.Cuts.{length_field, IsFrame, joined}
use Rattle.llrp_stream.specs.Items.{IsItemIn, ItemsIn}
use Rattle.llrp_stream.proofs.Unique.{same_items}
use Rattle.llrp_listing.specs.NodeLine.{NodeLine, IsLine}
use Rattle.llrp_listing.specs.MessageListing.{AreLines, IsListingOf, messages_lines, message_lines}
use Rattle.llrp_listing.specs.PrintingLaws.{AreSpellingsIn, IsOnlyListing}
use Rattle.llrp_listing.specs.StreamListing.{AreTexts, IsItemText, IsStreamListing, end_text}
use Rattle.llrp_listing.proofs.OneText.{one_stream_listing}

-- ---- a message's spelling is a frame

length_after : (v t n : ℕ) (rest : List Bool) → n < 2 ^ 32 → number (digits 3 0 ++ (digits 3 v ++ (digits 10 t ++ (digits 32 n ++ rest)))) 16 32 ≡ n
length_after v t n rest fits =
    let d : List Bool = digits 32 n ++ rest in
    let c : List Bool = digits 10 t ++ d in
    number_behind 3 0 13 32 (digits 3 v ++ c) ∙ number_behind 3 v 10 32 c ∙ number_behind 10 t 0 32 d ∙ number_own 32 n rest fits

length_spelled : (m : MessageTree) → message_octets m ≤ MAX_LIMIT → number (message_digits m) 16 32 ≡ message_octets m
length_spelled m long =
    let body : List Bool = body_digits (Message m.kind) m.fields m.tail ++ forest_digits m.children in
    let fits : message_octets m < 2 ^ 32 = omega arith in
    ap (λ (ds : List Bool). number ds 16 32) (header_spread m.version m.kind (message_octets m) m.id body)
    ∙ length_after m.version (number_of (Message m.kind)) (message_octets m) (digits 32 m.id ++ body) fits

pub is_frame : (limit : ℕ) (m : MessageTree) (bytes : List ℕ) → Frame m bytes limit → IsFrame bytes
unfolding length_field
is_frame limit m bytes f =
    let long = frame_length m bytes limit f in
    record {
      header = omega (arith, long);
      whole = ap (λ (ds : List Bool). number ds 16 32) f.spelled ∙ length_spelled m f.lawful.long ∙ sym long;
    }

-- ---- messages as items

abbrev pub as_items : List MessageTree → List Item
as_items messages = map Msg messages

pub are_frames : (p : KindSet) (limit : ℕ) (messages : List MessageTree) (frames : List (List ℕ)) → AreSpellingsIn p limit messages frames → AllByRecursion IsFrame frames
are_frames p limit [] [] h = tt
are_frames p limit [] (f ∷ frames) h = absurd h
are_frames p limit (m ∷ messages) [] h = absurd h
are_frames p limit (m ∷ messages) (f ∷ frames) h = (is_frame limit m f h.0.frame, are_frames p limit messages frames h.1)

pub are_items : (p : KindSet) (limit : ℕ) (messages : List MessageTree) (frames : List (List ℕ)) → AreSpellingsIn p limit messages frames → AllZip (IsItemIn p limit) frames (as_items messages)
are_items p limit [] [] h = tt
are_items p limit [] (f ∷ frames) h = absurd h
are_items p limit (m ∷ messages) [] h = absurd h
are_items p limit (m ∷ messages) (f ∷ frames) h = (h.0, are_items p limit messages frames h.1)

-- ---- a listing of lines, cut

record Cut (a b : List (ℕ × NodeLine)) (text : List ℕ) : Type 0 where
  first : List ℕ
  later : List ℕ
  are : text ≡ first ++ later
  begins : AreLines a first
  ends : AreLines b later

record Halves (a b : List (ℕ × NodeLine)) (texts : List (List ℕ)) : Type 0 where
  first : List (List ℕ)
  later : List (List ℕ)
  are : texts ≡ first ++ later
  begins : AllZip IsLine a first
  ends : AllZip IsLine b later

halves : (a b : List (ℕ × NodeLine)) (texts : List (List ℕ)) → AllZip IsLine (a ++ b) texts → Halves a b texts
halves [] b texts h = record { first = []; later = texts; are = refl; begins = tt; ends = h }
halves (x ∷ a) b [] h = absurd h
halves (x ∷ a) b (t ∷ texts) h =
    let more = halves a b texts h.1 in
    record { first = t ∷ more.first; later = more.later; are = ap (λ (z : List (List ℕ)). t ∷ z) more.are; begins = (h.0, more.begins); ends = more.ends }

cut_lines : (a b : List (ℕ × NodeLine)) (text : List ℕ) → AreLines (a ++ b) text → Cut a b text
cut_lines a b text h =
    let p = halves a b h.texts h.each in
    record {
      first = flat_map (λ line. line) p.first;
      later = flat_map (λ line. line) p.later;
      are = h.text_is ∙ ap (λ (z : List (List ℕ)). flat_map (λ line. line) z) p.are ∙ flat_map-append (λ line. line) p.first p.later;
      begins = record { texts = p.first; each = p.begins; text_is = refl };
      ends = record { texts = p.later; each = p.ends; text_is = refl };
    }

-- the listing of messages is that of them as items
listing_of_items : (messages : List MessageTree) (text : List ℕ) → IsListingOf messages text → AreTexts IsItemText (as_items messages) text
listing_of_items [] text h = record { texts = []; each = tt; text_is = no_lines h.texts h.each h.text_is }
  where
    no_lines : (texts : List (List ℕ)) → AllZip IsLine [] texts → text ≡ flat_map (λ line. line) texts → text ≡ []
    no_lines [] each e = e
    no_lines (t ∷ texts) each e = absurd each
listing_of_items (m ∷ messages) text h =
    let cut = cut_lines (message_lines m) (messages_lines messages) text h in
    let more = listing_of_items messages cut.later cut.ends in
    record { texts = cut.first ∷ more.texts; each = (cut.begins, more.each); text_is = cut.are ∙ ap (λ (x : List ℕ). cut.first ++ x) more.text_is }

clean_end : end_text Clean ≡ []
unfolding end_text
clean_end = refl

pub prints_back : (p : KindSet) (limit : ℕ) (messages : List MessageTree) (text : List ℕ) (frames : List (List ℕ)) → IsListingOf messages text → AreSpellingsIn p limit messages frames → IsOnlyListing p limit (joined frames) text
prints_back p limit messages text frames listing spelled =
    let items : ItemsIn p limit (joined frames) (as_items messages) Clean = record {
      frames = frames;
      cut = record { tail = []; whole = sym (append-nil (joined frames)); each = are_frames p limit messages frames spelled; ends = refl };
      each = are_items p limit messages frames spelled;
    } in
    let is : IsStreamListing (as_items messages) Clean text = record { front = text; lines = listing_of_items messages text listing; text_is = sym (append-nil text) ∙ ap (λ (x : List ℕ). text ++ x) (sym clean_end) } in
    record {
      items = as_items messages;
      end = Clean;
      are = items;
      is = is;
      only = λ others last other all it.
          let same = same_items limit (joined frames) (as_items messages) others Clean last items all in
          one_stream_listing (as_items messages) Clean other text (subst (λ (e : End). IsStreamListing (as_items messages) e other) same.1 (subst (λ (xs : List Item). IsStreamListing xs last other) same.0 it)) is;
    }
