-- Messages and items have one text.
use Rattle.std.proofs.Common.{◌≡◌, ℕ, List, [], ◌∷◌, ◌++◌, refl, sym, ap, ◌∙◌, append_assoc}
use Rattle.std.specs.Prelude.{decimal}
use Rattle.std.specs.List.{flat_map, AllZip}
use Rattle.std.proofs.lemmas.List.Concat.{flat_map-append}
use Rattle.tag_uri.proofs.TextLaws.{texts_same}
use Rattle.llrp_schema.specs.Schema.{name_of, tail_of}
use Rattle.llrp_stream.specs.declared.item.Item.{Item}
use Rattle.llrp_stream.specs.declared.item.Item.TheVariants.{Msg, Bad}
use Rattle.llrp_stream.specs.declared.item.End.{End}
use Rattle.llrp_listing.specs.NodeLine.{NodeLine, NumberForm, Version, Id, Unsigned, Signed, Epc, IsNumberText, AreNumberTexts, number_forms, tail_texts, spaced, IsLine}
use Rattle.llrp_listing.specs.MessageListing.{AreLines, message_lines}
use Rattle.llrp_listing.specs.StreamListing.{IsItemText, AreTexts, IsStreamListing, IsStreamText, end_text}
use Rattle.llrp_listing.specs.Calls.ItemPrinter.{HasOneText}
use Rattle.llrp_listing.specs.Copying.{IsPrefix}

pub one_number : (f : NumberForm) (n : ℕ) (v w : List ℕ) → IsNumberText f n v → IsNumberText f n w → v ≡ w
one_number Version n v w p q = p ∙ sym q
one_number Id n v w p q = p ∙ sym q
one_number Unsigned n v w p q = p ∙ sym q
one_number Signed n v w p q = p ∙ sym q
one_number Epc n v w p q = texts_same n v w p q

one_row : (fs : List NumberForm) (ns : List ℕ) (vs ws : List (List ℕ)) → AreNumberTexts fs ns vs → AreNumberTexts fs ns ws → vs ≡ ws
one_row [] [] [] [] p q = refl
one_row [] [] [] (w ∷ ws) p q = absurd q
one_row [] [] (v ∷ vs) ws p q = absurd p
one_row [] (n ∷ ns) vs ws p q = absurd p
one_row (f ∷ fs) [] vs ws p q = absurd p
one_row (f ∷ fs) (n ∷ ns) [] ws p q = absurd p
one_row (f ∷ fs) (n ∷ ns) (v ∷ vs) [] p q = absurd q
one_row (f ∷ fs) (n ∷ ns) (v ∷ vs) (w ∷ ws) p q =
    let a = one_number f n v w p.0 q.0 in
    let b = one_row fs ns vs ws p.1 q.1 in
    cc

one_line : (e : ℕ × NodeLine) (s t : List ℕ) → IsLine e s → IsLine e t → s ≡ t
one_line e s t p q =
    p.text_is
    ∙ ap (λ (words : List (List ℕ)). decimal e.0 ++ (spaced (name_of e.1.kind ∷ (words ++ tail_texts (tail_of e.1.kind) e.1.tail)) ++ (10 ∷ []))) (one_row (number_forms e.1.kind) e.1.numbers p.numbers q.numbers p.are q.are)
    ∙ sym q.text_is

-- where each thing has one text, things in a row have one
one_each : {X : Type 0} (R : X → List ℕ → Type 0) → ((x : X) (s t : List ℕ) → R x s → R x t → s ≡ t) → (xs : List X) (ss ts : List (List ℕ)) → AllZip R xs ss → AllZip R xs ts → ss ≡ ts
one_each R one [] [] [] p q = refl
one_each R one [] [] (t ∷ ts) p q = absurd q
one_each R one [] (s ∷ ss) ts p q = absurd p
one_each R one (x ∷ xs) [] ts p q = absurd p
one_each R one (x ∷ xs) (s ∷ ss) [] p q = absurd q
one_each R one (x ∷ xs) (s ∷ ss) (t ∷ ts) p q =
    let a = one x s t p.0 q.0 in
    let b = one_each R one xs ss ts p.1 q.1 in
    cc

abbrev in_row : List (List ℕ) → List ℕ
in_row texts = flat_map (λ text. text) texts

pub one_text_of_lines : (lines : List (ℕ × NodeLine)) (s t : List ℕ) → AreLines lines s → AreLines lines t → s ≡ t
one_text_of_lines lines s t p q = p.text_is ∙ ap in_row (one_each IsLine one_line lines p.texts q.texts p.each q.each) ∙ sym q.text_is

pub one_text_of_item : (item : Item) (s t : List ℕ) → IsItemText item s → IsItemText item t → s ≡ t
one_text_of_item (Msg message) s t p q = one_text_of_lines (message_lines message) s t p q
one_text_of_item (Bad id fault) s t p q = p ∙ sym q

-- ---- texts of items that are followed by others

record Parts (X : Type 0) (R : X → List ℕ → Type 0) (xs ys : List X) (texts : List (List ℕ)) : Type 0 where
  first : List (List ℕ)
  later : List (List ℕ)
  are : texts ≡ first ++ later
  each : AllZip R xs first

parts : {X : Type 0} (R : X → List ℕ → Type 0) (xs ys : List X) (texts : List (List ℕ)) → AllZip R (xs ++ ys) texts → Parts X R xs ys texts
parts R [] ys texts p = record { first = []; later = texts; are = refl; each = tt }
parts R (x ∷ xs) ys [] p = absurd p
parts R (x ∷ xs) ys (t ∷ texts) p =
    let more = parts R xs ys texts p.1 in
    record { first = t ∷ more.first; later = more.later; are = ap (λ (z : List (List ℕ)). t ∷ z) more.are; each = (p.0, more.each) }

module _ (IsText : Item → List ℕ → Type 0) (one : HasOneText IsText) where
  one_text_of : (items : List Item) (s t : List ℕ) → AreTexts IsText items s → AreTexts IsText items t → s ≡ t
  one_text_of items s t p q = p.text_is ∙ ap in_row (one_each IsText one items p.texts q.texts p.each q.each) ∙ sym q.text_is

  -- items and an end have one text
  pub one_stream_text : (text_of_end : End → List ℕ) (items : List Item) (end : End) (s t : List ℕ) → IsStreamText IsText text_of_end items end s → IsStreamText IsText text_of_end items end t → s ≡ t
  one_stream_text text_of_end items end s t p q = p.text_is ∙ ap (λ (x : List ℕ). x ++ text_of_end end) (one_text_of items p.front q.front p.lines q.lines) ∙ sym q.text_is

  -- the text of the first items begins that of all
  pub begins_text : (text_of_end : End → List ℕ) (items later : List Item) (end : End) (text whole : List ℕ) → AreTexts IsText items text → IsStreamText IsText text_of_end (items ++ later) end whole → IsPrefix text whole
  begins_text text_of_end items later end text whole p q =
      let cut = parts IsText items later q.lines.texts q.lines.each in
      let front = in_row cut.first in
      let back = in_row cut.later in
      let same : text ≡ front = one_text_of items text front p (record { texts = cut.first; each = cut.each; text_is = refl }) in
      let joined : q.front ≡ front ++ back = q.lines.text_is ∙ ap in_row cut.are ∙ flat_map-append (λ text. text) cut.first cut.later in
      (back ++ text_of_end end, q.text_is ∙ ap (λ (x : List ℕ). x ++ text_of_end end) joined ∙ append_assoc front back (text_of_end end) ∙ ap (λ (x : List ℕ). x ++ (back ++ text_of_end end)) (sym same))

-- a listing's items and end have one text
pub one_stream_listing : (items : List Item) (end : End) (s t : List ℕ) → IsStreamListing items end s → IsStreamListing items end t → s ≡ t
one_stream_listing items end s t p q = one_stream_text IsItemText one_text_of_item end_text items end s t p q
