-- Frames that are listed one after another.
use Rattle.std.proofs.Common.{◌≡◌, ◌⊎◌, inl, inr, ℕ, ◌<◌, ◌≤◌, ◌&&◌, Bool, true, false, List, [], ◌∷◌, ◌++◌, length, take, drop, arith, Option, Some, None, refl, sym, ap, subst, ◌∙◌, append_assoc}
use Rattle.std.specs.List.{AllByRecursion, AllZip, flat_map, list_all}
use Rattle.std.proofs.lemmas.List.{append-nil, take-append-drop}
use Rattle.std.proofs.lemmas.List.Folds.{list_all-append}
use Rattle.llrp_schema.specs.declared.kinds.KindSet.{KindSet}
use Rattle.llrp_tree.specs.declared.fault.Fault.{Fault}
use Rattle.llrp_stream.specs.declared.item.Item.{Item}
use Rattle.llrp_stream.specs.declared.item.Item.TheVariants.{Msg, Bad}
use Rattle.llrp_stream.specs.declared.item.End.{End}
use Rattle.llrp_stream.specs.declared.item.End.TheVariants.{Clean, Rest, Broken}
use Rattle.llrp_stream.specs.Cuts.{Breaks, Cuts, EndsStream, IsFrame, IsPartial, joined, length_field}
use Rattle.llrp_stream.specs.Calls.Lengths.{IsLength}
use Rattle.llrp_stream.specs.Items.{FrameIn, IsItemIn, ItemsIn, ItemsSoFarIn}
use Rattle.llrp_stream.proofs.FrontLemmas.{length_field-append}
use Rattle.llrp_stream.proofs.RunLemmas.{each_push, joined_push}
use Rattle.llrp_stream.proofs.Unique.{one_cut}
use Rattle.llrp_listing.specs.declared.outcome.Verdict.{Verdict}
use Rattle.llrp_listing.specs.declared.outcome.Verdict.TheVariants.{Lawful, Faulty}
use Rattle.llrp_listing.specs.Show.{verdict_of}
use Rattle.llrp_listing.specs.StreamListing.{AreTexts, IsStreamText, end_text, is_lawful, is_message}
use Rattle.llrp_listing.proofs.Zips.{zip_append}
use Rattle.llrp_json.specs.JsonLines.{end_json}
use Rattle.llrp_sides.specs.declared.form.Form.{Form}
use Rattle.llrp_sides.specs.declared.stamp.Stamp.{Stamp}
use Rattle.llrp_sides.specs.declared.stretch.Stretch.{Stretch}
use Rattle.llrp_sides.specs.Calls.Blocks.{AreBlocks, IsShown, end_shown, stamped}
use Rattle.llrp_sides.specs.Calls.Stretches.{HasBroken, Holds, Lists, ListsFrames, Stands}
use Rattle.llrp_sides.specs.Private.Forms.{HasListing}
use Rattle.llrp_sides.specs.Private.Stretches.{LeavesRest, ListsFrame, TakesAll, TakesFrames, TakesFront, TakesSome}

-- ---- one frame

-- a frame is cut into itself
cut_alone : (frame : List ℕ) → IsFrame frame → Cuts frame (frame ∷ []) Clean
cut_alone frame is = record { tail = []; whole = sym (append-nil (frame ++ []) ∙ append-nil frame); each = (is, tt); ends = refl }

one_item : (p : KindSet) (limit : ℕ) (frame : List ℕ) (frames : List (List ℕ)) (items : List Item) → frames ≡ frame ∷ [] → AllZip (IsItemIn p limit) frames items → (item : Item) × (items ≡ item ∷ []) × IsItemIn p limit frame item
one_item p limit frame [] items e z = cc
one_item p limit frame (f ∷ []) [] e z = absurd z
one_item p limit frame (f ∷ []) (item ∷ []) e z = let same : f ≡ frame = cc in (item, refl, subst (λ (x : List ℕ). IsItemIn p limit x item) same z.0)
one_item p limit frame (f ∷ []) (item ∷ other ∷ items) e z = absurd z.1
one_item p limit frame (f ∷ g ∷ frames) items e z = cc

one_text : (json : Bool) (item : Item) (texts : List (List ℕ)) → AllZip (IsShown json) (item ∷ []) texts → (text : List ℕ) × IsShown json item text × (flat_map (λ t. t) texts ≡ text)
one_text json item [] z = absurd z
one_text json item (text ∷ []) z = (text, z.0, append-nil text)
one_text json item (text ∷ other ∷ texts) z = absurd z.1

pub no_end : (json : Bool) → end_shown json Clean ≡ []
unfolding end_text end_json
no_end false = refl
no_end true = refl

alone : (item : Item) (end : End) → end ≡ Clean → is_lawful (item ∷ []) end ≡ is_message item
unfolding is_lawful
alone (Msg m) end e = subst (λ (x : End). is_lawful (Msg m ∷ []) x ≡ true) (sym e) refl
alone (Bad id fault) end e = subst (λ (x : End). is_lawful (Bad id fault ∷ []) x ≡ false) (sym e) refl

-- what is shown of a frame is the text of its item, and the verdict says whether that is a message
pub record ShowsFrame (json : Bool) (p : KindSet) (limit : ℕ) (frame listing : List ℕ) (verdict : Verdict) : Type 0 where
  pub item : Item
  pub is_item : IsItemIn p limit frame item
  pub is_text : IsShown json item listing
  pub verdict_is : verdict ≡ verdict_of (is_message item)

pub shows_frame : (form : Form) (frame listing : List ℕ) (verdict : Verdict) → IsFrame frame → HasListing form frame listing verdict → ShowsFrame form.json form.set form.limit frame listing verdict
shows_frame form frame listing verdict is h =
    let cut = one_cut frame h.are.frames (frame ∷ []) h.end Clean h.are.cut (cut_alone frame is) in
    let one = one_item form.set form.limit frame h.are.frames h.items cut.0 h.are.each in
    let t = one_text form.json one.0 h.is.lines.texts (subst (λ (l : List Item). AllZip (IsShown form.json) l h.is.lines.texts) one.1 h.is.lines.each) in
    let same : listing ≡ t.0 = h.is.text_is ∙ ap (λ (e : End). h.is.front ++ end_shown form.json e) cut.1 ∙ ap (λ (x : List ℕ). h.is.front ++ x) (no_end form.json) ∙ append-nil h.is.front ∙ h.is.lines.text_is ∙ t.2 in
    record {
      item = one.0;
      is_item = one.2;
      is_text = subst (λ (x : List ℕ). IsShown form.json one.0 x) (sym same) t.1;
      verdict_is = h.verdict_is ∙ ap (λ (l : List Item). verdict_of (is_lawful l h.end)) one.1 ∙ ap verdict_of (alone one.0 h.end cut.1);
    }

-- ---- frames one after another

pub one_more : (p : KindSet) (limit : ℕ) (octets rest frame later : List ℕ) (items : List Item) (item : Item) → ItemsSoFarIn p limit octets items rest → rest ≡ frame ++ later → IsFrame frame → IsItemIn p limit frame item
    → ItemsSoFarIn p limit octets (items ++ item ∷ []) later
one_more p limit octets rest frame later items item so cut is it = record {
  frames = so.frames ++ frame ∷ [];
  whole = so.whole ∙ ap (λ (x : List ℕ). joined so.frames ++ x) cut ∙ sym (append_assoc (joined so.frames) frame later) ∙ ap (λ (x : List ℕ). x ++ later) (sym (joined_push so.frames frame));
  each = each_push IsFrame so.frames frame so.each is;
  are = zip_append (IsItemIn p limit) so.frames (frame ∷ []) items (item ∷ []) so.are (it, tt);
}

joined_more : (a b : List (List ℕ)) → joined (a ++ b) ≡ joined a ++ joined b
joined_more [] b = refl
joined_more (f ∷ a) b = ap (λ (x : List ℕ). f ++ x) (joined_more a b) ∙ sym (append_assoc f (joined a) (joined b))

each_more : (a b : List (List ℕ)) → AllByRecursion IsFrame a → AllByRecursion IsFrame b → AllByRecursion IsFrame (a ++ b)
each_more [] b p q = q
each_more (f ∷ a) b p q = (p.0, each_more a b p.1 q)

pub then_more : (p : KindSet) (limit : ℕ) (bytes rest piece later : List ℕ) (items more : List Item) → ItemsSoFarIn p limit bytes items rest → ItemsSoFarIn p limit (rest ++ piece) more later
    → ItemsSoFarIn p limit (bytes ++ piece) (items ++ more) later
then_more p limit bytes rest piece later items more so next = record {
  frames = so.frames ++ next.frames;
  whole = ap (λ (x : List ℕ). x ++ piece) so.whole ∙ append_assoc (joined so.frames) rest piece ∙ ap (λ (x : List ℕ). joined so.frames ++ x) next.whole ∙ sym (append_assoc (joined so.frames) (joined next.frames) later) ∙ ap (λ (x : List ℕ). x ++ later) (sym (joined_more so.frames next.frames));
  each = each_more so.frames next.frames so.each next.each;
  are = zip_append (IsItemIn p limit) so.frames next.frames items more so.are next.are;
}

-- octets with which nothing ends
pub more_octets : (p : KindSet) (limit : ℕ) (bytes rest piece : List ℕ) (items : List Item) → ItemsSoFarIn p limit bytes items rest → ItemsSoFarIn p limit (bytes ++ piece) items (rest ++ piece)
more_octets p limit bytes rest piece items so = record {
  frames = so.frames;
  whole = ap (λ (x : List ℕ). x ++ piece) so.whole ∙ append_assoc (joined so.frames) rest piece;
  each = so.each;
  are = so.are;
}

pub at_end : (p : KindSet) (limit : ℕ) (bytes rest : List ℕ) (items : List Item) (end : End) → ItemsSoFarIn p limit bytes items rest → EndsStream rest end → ItemsIn p limit bytes items end
at_end p limit bytes rest items end so ends = record { frames = so.frames; cut = record { tail = rest; whole = so.whole; each = so.each; ends = ends }; each = so.are }

-- ---- texts and blocks one after another

pub flat_more : {A : Type 0} (f : A → List ℕ) (a b : List A) → flat_map f (a ++ b) ≡ flat_map f a ++ flat_map f b
flat_more f [] b = refl
flat_more f (t ∷ a) b = ap (λ (x : List ℕ). f t ++ x) (flat_more f a b) ∙ sym (append_assoc (f t) (flat_map f a) (flat_map f b))

pub texts_more : (json : Bool) (items more : List Item) (a b : List ℕ) → AreTexts (IsShown json) items a → AreTexts (IsShown json) more b → AreTexts (IsShown json) (items ++ more) (a ++ b)
texts_more json items more a b p q = record {
  texts = p.texts ++ q.texts;
  each = zip_append (IsShown json) items more p.texts q.texts p.each q.each;
  text_is = ap (λ (x : List ℕ). x ++ b) p.text_is ∙ ap (λ (x : List ℕ). flat_map (λ t. t) p.texts ++ x) q.text_is ∙ sym (flat_more (λ t. t) p.texts q.texts);
}

one_block : (json : Bool) (stamp : Stamp) (blocks : List (List ℕ)) (block t0 t1 t2 : List ℕ) → t1 ≡ t0 ++ flat_map (stamped json stamp) blocks → t2 ≡ t1 ++ stamped json stamp block → t2 ≡ t0 ++ flat_map (stamped json stamp) (blocks ++ block ∷ [])
one_block json stamp blocks block t0 t1 t2 e f =
    f ∙ ap (λ (x : List ℕ). x ++ stamped json stamp block) e ∙ append_assoc t0 (flat_map (stamped json stamp) blocks) (stamped json stamp block)
    ∙ ap (λ (x : List ℕ). t0 ++ x) (ap (λ (x : List ℕ). flat_map (stamped json stamp) blocks ++ x) (sym (append-nil (stamped json stamp block))) ∙ sym (flat_more (stamped json stamp) blocks (block ∷ [])))

-- ---- frames that are taken

all_so_far : (was : Bool) → was ≡ (was && true)
all_so_far true = refl
all_so_far false = refl

and_and : (a b c : Bool) → ((a && b) && c) ≡ (a && (b && c))
and_and true b c = refl
and_and false b c = refl

alone_last : (last front : Bool) → (front && last) ≡ (front && (last && true))
alone_last true front = refl
alone_last false front = refl

pub takes_none : (stamp : Stamp) (octets : List ℕ) (s : Stretch) (t : List ℕ) → TakesSome stamp octets octets s s t t
takes_none stamp octets s t = record {
  items = [];
  blocks = [];
  came = record { frames = []; whole = refl; each = tt; are = tt };
  are = tt;
  text = sym (append-nil t);
  lawful = all_so_far s.is_lawful;
  same = refl;
}

lawful_more : (old mid new front last : Bool) → mid ≡ (old && front) → new ≡ (mid && last) → new ≡ (old && (front && (last && true)))
lawful_more old mid new front last e f = f ∙ ap (λ (b : Bool). b && last) e ∙ and_and old front last ∙ ap (λ (b : Bool). old && b) (alone_last last front)

pub takes_more : (stamp : Stamp) (octets rest frame later : List ℕ) (old mid new : Stretch) (t0 t1 t2 : List ℕ) → TakesSome stamp octets rest old mid t0 t1
    → IsFrame frame → rest ≡ frame ++ later → ListsFrame stamp frame mid new t1 t2 → TakesSome stamp octets later old new t0 t2
takes_more stamp octets rest frame later old mid new t0 t1 t2 s is cut f =
    let form : mid.form ≡ old.form = ap (λ (x : Stretch). x.form) s.same in
    record {
      items = s.items ++ f.item ∷ [];
      blocks = s.blocks ++ f.block ∷ [];
      came = one_more old.form.set old.form.limit octets rest frame later s.items f.item s.came cut is (subst (λ (x : Form). IsItemIn x.set x.limit frame f.item) form f.is_item);
      are = zip_append (IsShown old.form.json) s.items (f.item ∷ []) s.blocks (f.block ∷ []) s.are (subst (λ (x : Form). IsShown x.json f.item f.block) form f.is_block, tt);
      text = one_block old.form.json stamp s.blocks f.block t0 t1 t2 s.text (subst (λ (x : Form). t2 ≡ t1 ++ stamped x.json stamp f.block) form f.text);
      lawful = lawful_more old.is_lawful mid.is_lawful new.is_lawful (list_all is_message s.items) (is_message f.item) s.lawful f.lawful ∙ ap (λ (b : Bool). old.is_lawful && b) (sym (list_all-append is_message s.items (f.item ∷ [])));
      same = f.same ∙ ap (λ (x : Stretch). record x { is_lawful = new.is_lawful }) s.same;
    }

-- and the rest is held, or it breaks off
pub takes_rest : (stamp : Stamp) (octets rest : List ℕ) (old mid new : Stretch) (t0 t1 t2 : List ℕ) → TakesSome stamp octets rest old mid t0 t1 → LeavesRest stamp rest mid new t1 t2 → TakesAll stamp octets old new t0 t2
takes_rest stamp octets rest old mid new t0 t1 t2 s l =
    let form : mid.form ≡ old.form = ap (λ (x : Stretch). x.form) s.same in
    let after : t2 ≡ t1 ++ flat_map (stamped old.form.json stamp) l.last = subst (λ (x : Form). t2 ≡ t1 ++ flat_map (stamped x.json stamp) l.last) form l.text in
    record {
      items = s.items;
      blocks = s.blocks;
      rest = rest;
      last = l.last;
      came = s.came;
      are = s.are;
      text = after ∙ ap (λ (x : List ℕ). x ++ flat_map (stamped old.form.json stamp) l.last) s.text ∙ append_assoc t0 (flat_map (stamped old.form.json stamp) s.blocks) (flat_map (stamped old.form.json stamp) l.last)
          ∙ ap (λ (x : List ℕ). t0 ++ x) (sym (flat_more (stamped old.form.json stamp) s.blocks l.last));
      lawful = l.lawful ∙ s.lawful;
      form = l.form ∙ form;
      rests = l.rests;
    }

pub takes_front : (stamp : Stamp) (octets rest later : List ℕ) (used : ℕ) (old mid new : Stretch) (t0 t1 t2 : List ℕ) → TakesSome stamp octets rest old mid t0 t1 → TakesFront stamp rest (Some used) mid new t1 t2 → later ≡ drop used rest → TakesSome stamp octets later old new t0 t2
takes_front stamp octets rest later used old mid new t0 t1 t2 s f back =
    takes_more stamp octets rest (take used rest) later old mid new t0 t1 t2 s f.0 (sym (take-append-drop used rest) ∙ ap (λ (x : List ℕ). take used rest ++ x) (sym back)) f.1

pub takes_end : (stamp : Stamp) (octets rest : List ℕ) (old mid new : Stretch) (t0 t1 t2 : List ℕ) → TakesSome stamp octets rest old mid t0 t1 → TakesFront stamp rest None mid new t1 t2 → TakesFrames stamp octets old new t0 t2
takes_end stamp octets rest old mid new t0 t1 t2 s f = λ none whole.
    takes_rest stamp octets rest old mid new t0 t1 t2 s (f (ap (λ (x : Stretch). x.long) s.same ∙ none) (ap (λ (x : Stretch). x.is_broken) s.same ∙ whole))
