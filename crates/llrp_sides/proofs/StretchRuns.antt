-- Octets that come after those before.
use Rattle.std.proofs.Common.{◌≡◌, ◌⊎◌, inl, inr, ℕ, ◌+◌, ◌<◌, ◌≤◌, ◌&&◌, Bool, true, false, List, [], ◌∷◌, ◌++◌, length, length-append, take, drop, arith, Option, Some, None, refl, sym, ap, subst, ◌∙◌, append_assoc}
use Rattle.std.specs.List.{AllZip, flat_map, list_all}
use Rattle.std.proofs.lemmas.List.{append-nil, take-append-drop}
use Rattle.std.proofs.lemmas.List.Folds.{list_all-append}
use Rattle.llrp_stream.specs.declared.item.Item.{Item}
use Rattle.llrp_stream.specs.declared.item.Item.TheVariants.{Msg, Bad}
use Rattle.llrp_stream.specs.declared.item.End.{End}
use Rattle.llrp_stream.specs.declared.item.End.TheVariants.{Clean, Rest, Broken}
use Rattle.llrp_stream.specs.Cuts.{Breaks, EndsStream, IsFrame, IsPartial, joined, length_field}
use Rattle.llrp_stream.specs.Decoding.{DecoderState}
use Rattle.llrp_stream.specs.Calls.Decoding.{StandsIn}
use Rattle.llrp_stream.specs.Items.{FrameIn, IsItemIn, ItemsIn, ItemsSoFarIn}
use Rattle.llrp_stream.proofs.FrontLemmas.{length_field-append, no_frame_breaks}
use Rattle.llrp_listing.specs.StreamListing.{AreTexts, IsStreamText, is_message}
use Rattle.llrp_sides.specs.declared.form.Form.{Form}
use Rattle.llrp_sides.specs.declared.stamp.Stamp.{Stamp}
use Rattle.llrp_sides.specs.declared.stretch.Stretch.{Stretch}
use Rattle.llrp_sides.specs.Calls.Blocks.{AreBlocks, IsShown, end_shown, stamped}
use Rattle.llrp_sides.specs.Calls.Stretches.{HasBroken, Holds, HoldsIn, Lists, ListsFrames, Stands}
use Rattle.llrp_sides.specs.Private.Stretches.{ListsFrame, PassesTo, Rests, TakesAll}
use Rattle.llrp_sides.proofs.StretchLemmas.{at_end, flat_more, more_octets, one_more, texts_more, then_more}

-- What came before: these items, with this text, and a front of the next frame.
pub record Before (form : Form) (bytes listing : List ℕ) (items : List Item) (front : List ℕ) : Type 0 where
  pub so_far : ItemsSoFarIn form.set form.limit bytes items front
  pub texts : AreTexts (IsShown form.json) items listing

joined_more : (a b : List (List ℕ)) → joined (a ++ b) ≡ joined a ++ joined b
joined_more a b = flat_more (λ t. t) a b

stands_held : (stamp : Stamp) (form : Form) (bytes listing front piece : List ℕ) (items : List Item) (mid new : Stretch) (t0 t1 : List ℕ) → Before form bytes listing items front → mid.form ≡ form → mid.is_lawful ≡ list_all is_message items
    → (a : TakesAll stamp (front ++ piece) mid new t0 t1) → new.is_broken ≡ false → Holds new a.rest → a.last ≡ [] → ListsFrames new (bytes ++ piece) (listing ++ joined (a.blocks ++ a.last))
stands_held stamp form bytes listing front piece items mid new t0 t1 b fm lm a whole holds none =
    let fn : new.form ≡ form = a.form ∙ fm in
    let came : ItemsSoFarIn form.set form.limit (front ++ piece) a.items a.rest = subst (λ (x : Form). ItemsSoFarIn x.set x.limit (front ++ piece) a.items a.rest) fm a.came in
    let are : AllZip (IsShown form.json) a.items a.blocks = subst (λ (x : Form). AllZip (IsShown x.json) a.items a.blocks) fm a.are in
    let more : listing ++ joined a.blocks ≡ listing ++ joined (a.blocks ++ a.last) = ap (λ (l : List (List ℕ)). listing ++ joined l) (sym (ap (λ (l : List (List ℕ)). a.blocks ++ l) none ∙ append-nil a.blocks)) in
    record {
      whole = whole;
      items = items ++ a.items;
      front = a.rest;
      so_far = subst (λ (x : Form). ItemsSoFarIn x.set x.limit (bytes ++ piece) (items ++ a.items) a.rest) (sym fn) (then_more form.set form.limit bytes front piece a.rest items a.items b.so_far came);
      texts = subst (λ (x : Form). AreTexts (IsShown x.json) (items ++ a.items) (listing ++ joined (a.blocks ++ a.last))) (sym fn)
          (subst (λ (x : List ℕ). AreTexts (IsShown form.json) (items ++ a.items) x) more (texts_more form.json items a.items listing (joined a.blocks) b.texts (record { texts = a.blocks; each = are; text_is = refl })));
      holds = holds;
      lawful = a.lawful ∙ ap (λ (x : Bool). x && list_all is_message a.items) lm ∙ sym (list_all-append is_message items a.items);
    }

stands_broken : (stamp : Stamp) (form : Form) (bytes listing front piece : List ℕ) (items : List Item) (mid new : Stretch) (t0 t1 : List ℕ) → Before form bytes listing items front → mid.form ≡ form
    → (a : TakesAll stamp (front ++ piece) mid new t0 t1) → new.is_broken ≡ true → Breaks a.rest → a.last ≡ end_shown new.form.json Broken ∷ [] → HasBroken new (bytes ++ piece) (listing ++ joined (a.blocks ++ a.last))
stands_broken stamp form bytes listing front piece items mid new t0 t1 b fm a broken breaks last =
    let fn : new.form ≡ form = a.form ∙ fm in
    let came : ItemsSoFarIn form.set form.limit (front ++ piece) a.items a.rest = subst (λ (x : Form). ItemsSoFarIn x.set x.limit (front ++ piece) a.items a.rest) fm a.came in
    let are : AllZip (IsShown form.json) a.items a.blocks = subst (λ (x : Form). AllZip (IsShown x.json) a.items a.blocks) fm a.are in
    let all = then_more form.set form.limit bytes front piece a.rest items a.items b.so_far came in
    let end = end_shown new.form.json Broken in
    let more : listing ++ joined (a.blocks ++ a.last) ≡ (listing ++ joined a.blocks) ++ end =
    ap (λ (x : List ℕ). listing ++ x) (joined_more a.blocks a.last ∙ ap (λ (l : List (List ℕ)). joined a.blocks ++ joined l) last ∙ ap (λ (x : List ℕ). joined a.blocks ++ x) (append-nil end))
    ∙ sym (append_assoc listing (joined a.blocks) end) in
    record {
      broken = broken;
      items = items ++ a.items;
      are = λ later. subst (λ (x : Form). ItemsIn x.set x.limit ((bytes ++ piece) ++ later) (items ++ a.items) Broken) (sym fn)
          (at_end form.set form.limit ((bytes ++ piece) ++ later) (a.rest ++ later) (items ++ a.items) Broken (more_octets form.set form.limit (bytes ++ piece) a.rest later (items ++ a.items) all) (no_frame_breaks a.rest later breaks));
      is = record {
        front = listing ++ joined a.blocks;
        lines = subst (λ (x : Form). AreTexts (IsShown x.json) (items ++ a.items) (listing ++ joined a.blocks)) (sym fn) (texts_more form.json items a.items listing (joined a.blocks) b.texts (record { texts = a.blocks; each = are; text_is = refl }));
        text_is = more;
      };
    }

-- frames that are whole with octets, after what came before
pub then_frames : (stamp : Stamp) (form : Form) (bytes listing front piece : List ℕ) (items : List Item) (mid new : Stretch) (t0 t1 : List ℕ) → Before form bytes listing items front → mid.form ≡ form → mid.is_lawful ≡ list_all is_message items
    → TakesAll stamp (front ++ piece) mid new t0 t1 → Lists stamp piece bytes listing new t0 t1
then_frames stamp form bytes listing front piece items mid new t0 t1 b fm lm a = record {
  more = joined (a.blocks ++ a.last);
  stands = elim a.rests [
    | inl h ↦ inl (stands_held stamp form bytes listing front piece items mid new t0 t1 b fm lm a h.0 h.1 h.2)
    | inr h ↦ inr (stands_broken stamp form bytes listing front piece items mid new t0 t1 b fm a h.0 h.1 h.2)
  ];
  blocks = (a.blocks ++ a.last, refl, subst (λ (x : Form). t1 ≡ t0 ++ flat_map (stamped x.json stamp) (a.blocks ++ a.last)) (sym a.form) a.text);
}

-- a frame is listed, and then more
pub block_first : (stamp : Stamp) (bytes octets listing block : List ℕ) (new : Stretch) (t0 t1 t2 : List ℕ) → t1 ≡ t0 ++ stamped new.form.json stamp block → Lists stamp [] (bytes ++ octets) (listing ++ block) new t1 t2 → Lists stamp octets bytes listing new t0 t2
block_first stamp bytes octets listing block new t0 t1 t2 first l = record {
  more = block ++ l.more;
  stands = subst (λ (x : List ℕ). Stands new (bytes ++ octets) x) (append_assoc listing block l.more) (subst (λ (x : List ℕ). Stands new x ((listing ++ block) ++ l.more)) (append-nil (bytes ++ octets)) l.stands);
  blocks = (
    block ∷ l.blocks.0,
    ap (λ (x : List ℕ). block ++ x) l.blocks.1,
    l.blocks.2 ∙ ap (λ (x : List ℕ). x ++ flat_map (stamped new.form.json stamp) l.blocks.0) first ∙ append_assoc t0 (stamped new.form.json stamp block) (flat_map (stamped new.form.json stamp) l.blocks.0),
  );
}

-- the end of a frame that is longer than a message may be, and then frames
pub then_past : (stamp : Stamp) (form : Form) (bytes listing front octets later : List ℕ) (used : ℕ) (items : List Item) (old mid new : Stretch) (t0 t1 t2 : List ℕ) → Before form bytes listing items front
    → old.form ≡ form → old.is_lawful ≡ list_all is_message items → later ≡ drop used octets → IsFrame (front ++ take used octets) → ListsFrame stamp (front ++ take used octets) old mid t0 t1 → TakesAll stamp later mid new t1 t2
    → Lists stamp octets bytes listing new t0 t2
then_past stamp form bytes listing front octets later used items old mid new t0 t1 t2 b fo lo back is f a =
    let frame = front ++ take used octets in
    let fm : mid.form ≡ form = ap (λ (x : Stretch). x.form) f.same ∙ fo in
    let cut : front ++ octets ≡ frame ++ later = ap (λ (x : List ℕ). front ++ x) (sym (take-append-drop used octets)) ∙ sym (append_assoc front (take used octets) (drop used octets)) ∙ ap (λ (x : List ℕ). frame ++ x) (sym back) in
    let is_item = subst (λ (x : Form). IsItemIn x.set x.limit frame f.item) fo f.is_item in
    let is_block = subst (λ (x : Form). IsShown x.json f.item f.block) fo f.is_block in
    let before : Before form (bytes ++ octets) (listing ++ f.block) (items ++ f.item ∷ []) later = record {
      so_far = one_more form.set form.limit (bytes ++ octets) (front ++ octets) frame later items f.item (more_octets form.set form.limit bytes front octets items b.so_far) cut is is_item;
      texts = texts_more form.json items (f.item ∷ []) listing f.block b.texts (record { texts = f.block ∷ []; each = (is_block, tt); text_is = sym (append-nil f.block) });
    } in
    let lawful : mid.is_lawful ≡ list_all is_message (items ++ f.item ∷ []) = f.lawful ∙ ap (λ (x : Bool). x && is_message f.item) lo ∙ last_one (list_all is_message items) (is_message f.item) ∙ sym (list_all-append is_message items (f.item ∷ [])) in
    let then : Lists stamp [] (bytes ++ octets) (listing ++ f.block) new t1 t2 = then_frames stamp form (bytes ++ octets) (listing ++ f.block) later [] (items ++ f.item ∷ []) mid new t1 t2 before fm lawful (subst (λ (x : List ℕ). TakesAll stamp x mid new t1 t2) (sym (append-nil later)) a) in
    block_first stamp bytes octets listing f.block new t0 t1 t2 (subst (λ (x : Form). t1 ≡ t0 ++ stamped x.json stamp f.block) (fo ∙ sym (a.form ∙ fm)) f.text) then
  where
    last_one : (front last : Bool) → (front && last) ≡ (front && (last && true))
    last_one true true = refl
    last_one true false = refl
    last_one false last = refl

-- octets with which no frame ends
pub then_nothing : (stamp : Stamp) (form : Form) (bytes listing front octets : List ℕ) (items : List Item) (old new : Stretch) (mid : DecoderState) (t0 t1 : List ℕ) → Before form bytes listing items front
    → old.form ≡ form → old.is_lawful ≡ list_all is_message items → old.is_broken ≡ false → 6 ≤ length (front ++ octets) → form.limit < length_field (front ++ octets)
    → new ≡ record old { long = Some mid } → StandsIn old.form.set mid (front ++ octets) → mid.limit ≡ old.form.limit → t1 ≡ t0 → Lists stamp octets bytes listing new t0 t1
then_nothing stamp form bytes listing front octets items old new mid t0 t1 b fo lo whole six above same stands limit text =
    let fn : new.form ≡ form = ap (λ (x : Stretch). x.form) same ∙ fo in
    record {
      more = [];
      stands = inl (record {
        whole = ap (λ (x : Stretch). x.is_broken) same ∙ whole;
        items = items;
        front = front ++ octets;
        so_far = subst (λ (x : Form). ItemsSoFarIn x.set x.limit (bytes ++ octets) items (front ++ octets)) (sym fn) (more_octets form.set form.limit bytes front octets items b.so_far);
        texts = subst (λ (x : Form). AreTexts (IsShown x.json) items (listing ++ [])) (sym fn) (subst (λ (x : List ℕ). AreTexts (IsShown form.json) items x) (sym (append-nil listing)) b.texts);
        holds = subst (λ (x : Stretch). Holds x (front ++ octets)) (sym same) (stands, limit, six, subst (λ (x : Form). x.limit < length_field (front ++ octets)) (sym fo) above);
        lawful = ap (λ (x : Stretch). x.is_lawful) same ∙ lo;
      });
      blocks = ([], refl, text ∙ sym (append-nil t0));
    }
