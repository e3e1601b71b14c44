-- What a lister of tags takes of a stream.
use Rattle.std.proofs.Common.{◌≡◌, ℕ, ◌+◌, ◌<◌, ◌⊎◌, ◌==◌, inl, inr, Bool, true, false, not, List, [], ◌∷◌, ◌++◌, length, take, get_or, refl, sym, ap, subst, ◌∙◌, append_assoc, Result, Ok, Err}
use Rattle.std.specs.Prelude.{Option, Some, None, is_none, is_some, if◌then◌else◌}
use Rattle.std.specs.List.{flat_map}
use Rattle.std.proofs.lemmas.Bool.{eq-eqb}
use Rattle.std.proofs.lemmas.List.{append-nil}
use Rattle.std.proofs.lemmas.List.Concat.{flat_map-append}
use Rattle.llrp_schema.specs.declared.kinds.KindSet.{KindSet}
use Rattle.llrp_schema.specs.declared.kinds.KindSet.TheVariants.{Standard}
use Rattle.llrp_schema.specs.declared.kinds.ParamKind.TheVariants.{TagReportData, Epc96, EpcData}
use Rattle.llrp_schema.specs.declared.kinds.Kind.TheVariants.{Message, Parameter}
use Rattle.llrp_schema.specs.Schema.{groups_of, number_of}
use Rattle.llrp_tree.specs.Tree.{Forest, none, and, MessageTree, Tree, add, forest, trees}
use Rattle.llrp_tree.proofs.TreeLemmas.{forest-push, forest-take_more, forest-trees}
use Rattle.llrp_stream.specs.declared.item.Item.{Item}
use Rattle.llrp_stream.specs.declared.item.Item.TheVariants.{Msg}
use Rattle.llrp_schema.specs.declared.kinds.MsgKind.TheVariants.{RoAccessReport}
use Rattle.llrp_stream.specs.declared.item.Fed.{Fed}
use Rattle.llrp_stream.specs.declared.item.FeedErr.{FeedErr}
use Rattle.llrp_stream.specs.declared.item.FeedErr.TheVariants.{Broken}
use Rattle.llrp_stream.specs.Cuts.{Breaks, IsPartial}
use Rattle.llrp_stream.specs.Decoding.{DecoderState, IsBroken}
use Rattle.llrp_stream.specs.Calls.Decoding.{StandsIn}
use Rattle.llrp_stream.specs.Feeding.{TakesIn}
use Rattle.llrp_stream.proofs.FrontLemmas.{no_frame_breaks}
use Rattle.llrp_stream.proofs.RunLemmas.{items_grow}
use Rattle.llrp_listing.specs.StreamListing.{AreTexts}
use Rattle.llrp_listing.proofs.Zips.{zip_append}
use Rattle.llrp_session.specs.RoSpec.{first_of}
use Rattle.llrp_json.specs.JsonItems.{AreParameters, more_members, parameters_members}
use Rattle.llrp_endpoints.specs.declared.form.LineForm.{LineForm}
use Rattle.llrp_endpoints.specs.declared.form.LineForm.TheVariants.{Full}
use Rattle.llrp_endpoints.specs.declared.tag_lister.TagLister.{TagLister}
use Rattle.llrp_endpoints.specs.Heard.{is_numbered, own_tree}
use Rattle.llrp_endpoints.specs.TagLines.{IsEpcText, full_line}
use Rattle.llrp_endpoints.specs.ReportedTags.{AreLinesIf, AreLinesOfItem, AreReportedLines, AreTagsOfStream, IsFullLine, IsLineWhere, IsReportedLine, others, reported_tag}
use Rattle.llrp_endpoints.specs.Private.Objects.{AppendsWithEpc}
use Rattle.llrp_endpoints.specs.Calls.TagListing.{HasTags}
use Rattle.llrp_endpoints.specs.Private.TagListing.{TakesOn}
use Rattle.llrp_endpoints.specs.TagPieces.{TakesTags}

-- ---- the other parameters of a tag

pub no_others : (ts : List Tree) → ts ≡ [] → forest ts ≡ others (forest [])
no_others ts e = ap forest e

abbrev kept_if : Forest → Tree → Bool → Forest
kept_if before t b = if b then add before t else before

others_more : (before : Forest) (t : Tree) → others (add before t) ≡ kept_if (others before) t (is_none (own_tree (groups_of (Parameter TagReportData)) t))
others_more before t = refl

next_others : (ts : List Tree) (i : ℕ) (t : Tree) (row : List Tree) (b : Bool) → i < length ts → t ≡ get_or ts i t → forest row ≡ others (forest (take i ts)) → b ≡ is_none (own_tree (groups_of (Parameter TagReportData)) t)
    → kept_if (forest row) t b ≡ others (forest (take (i + 1) ts))
next_others ts i t row b within is so e =
    ap (λ (f : Forest). kept_if f t b) so ∙ ap (kept_if (others (forest (take i ts))) t) e ∙ sym (others_more (forest (take i ts)) t) ∙ sym (ap others (forest-take_more ts i t within is))

-- whether there is none, by whether there is one
pub none_by : (o : Option Tree) (r b : Bool) → is_some o ≡ not r → r ≡ b → is_none o ≡ b
none_by (Some t) true b e f = absurd cc
none_by (Some t) false b e f = f
none_by None true b e f = f
none_by None false b e f = absurd cc

pub one_other : (ts : List Tree) (i : ℕ) (t copy : Tree) (row : List Tree) (own : Option Tree) → i < length ts → t ≡ get_or ts i t → forest row ≡ others (forest (take i ts)) → own ≡ own_tree (groups_of (Parameter TagReportData)) t → is_none own ≡ true → copy ≡ t
    → forest (row ++ copy ∷ []) ≡ others (forest (take (i + 1) ts))
one_other ts i t copy row own within is so e none_is same =
    ap (λ (x : Tree). forest (row ++ x ∷ [])) same ∙ forest-push row t ∙ next_others ts i t row true within is so (sym none_is ∙ ap is_none e)

pub no_other : (ts : List Tree) (i : ℕ) (t : Tree) (row : List Tree) (own : Option Tree) → i < length ts → t ≡ get_or ts i t → forest row ≡ others (forest (take i ts)) → own ≡ own_tree (groups_of (Parameter TagReportData)) t → is_none own ≡ false
    → forest row ≡ others (forest (take (i + 1) ts))
no_other ts i t row own within is so e some = next_others ts i t row false within is so (sym some ∙ ap is_none e)

-- ---- the line of a tag

-- one with these other parameters
pub full_reported : (form : LineForm) (tag own : Tree) (row cs : List Tree) (old new : List ℕ) → form ≡ Full → cs ≡ trees tag.children → forest row ≡ others (forest cs)
    → (texts : List (List ℕ)) × AreParameters (forest row) texts × AppendsWithEpc own (λ epc. full_line own epc (more_members (parameters_members texts))) old new
    → (line : List ℕ) × IsReportedLine form tag own line × (new ≡ old ++ line)
full_reported form tag own row cs old new e ec is w =
    let line : List ℕ = full_line own w.2.0 (more_members (parameters_members w.0)) in
    let are : AreParameters (others tag.children) w.0 = subst (λ (f : Forest). AreParameters f w.0) (is ∙ ap (λ (x : List Tree). others (forest x)) ec ∙ ap others (forest-trees tag.children)) w.1 in
    (line, subst (λ (f : LineForm). IsReportedLine f tag own line) (sym e) (record { epc = w.2.0; epc_is = w.2.1; texts = w.0; are = are; line_is = refl }), w.2.2)

-- ---- the lines of a report

pub no_lines : (form : LineForm) (ts : List Tree) (old : List ℕ) → ts ≡ [] → (lines : List ℕ) × AreReportedLines form (forest ts) lines × (old ≡ old ++ lines)
no_lines form ts old e = ([], subst (λ (x : List Tree). AreReportedLines form (forest x) []) (sym e) refl, sym (append-nil old))

pub one_line : (form : LineForm) (ts : List Tree) (i : ℕ) (t : Tree) (old t1 t2 : List ℕ) → i < length ts → t ≡ get_or ts i t → (lines : List ℕ) × AreReportedLines form (forest (take i ts)) lines × (t1 ≡ old ++ lines)
    → (line : List ℕ) × IsLineWhere form t (reported_tag t) line × (t2 ≡ t1 ++ line) → (lines : List ℕ) × AreReportedLines form (forest (take (i + 1) ts)) lines × (t2 ≡ old ++ lines)
one_line form ts i t old t1 t2 within is w o = (
  w.0 ++ o.0,
  subst (λ (f : Forest). AreReportedLines form f (w.0 ++ o.0)) (sym (forest-take_more ts i t within is)) (w.0, o.0, w.1, o.1, refl),
  o.2 ∙ ap (λ (x : List ℕ). x ++ o.0) w.2 ∙ append_assoc old w.0 o.0,
)

-- those of an item that is a report
pub report_listed : (form : LineForm) (item : Item) (m : MessageTree) (a b : ℕ) (cs : List Tree) (t0 t1 : List ℕ) → item ≡ Msg m → a ≡ number_of (Message m.kind) → b ≡ number_of (Message RoAccessReport) → a ≡ b → cs ≡ trees m.children
    → (lines : List ℕ) × AreReportedLines form (forest cs) lines × (t1 ≡ t0 ++ lines) → (lines : List ℕ) × AreLinesOfItem form item lines × (t1 ≡ t0 ++ lines)
report_listed form item m a b cs t0 t1 e ea eb same ec w =
    let row : forest cs ≡ m.children = ap forest ec ∙ forest-trees m.children in
    let numbered : is_numbered m RoAccessReport ≡ true = eq-eqb _ _ (sym ea ∙ same ∙ eb) in
    let are : AreLinesIf (is_numbered m RoAccessReport) form m.children w.0 = subst (λ (b : Bool). AreLinesIf b form m.children w.0) (sym numbered) (subst (λ (f : Forest). AreReportedLines form f w.0) row w.1) in
    (w.0, subst (λ (i : Item). AreLinesOfItem form i w.0) (sym e) are, w.2)

-- ---- a stream

abbrev IsLeft : DecoderState → List ℕ → Type 0
IsLeft decoder front = StandsIn Standard decoder front ⊎ (IsBroken decoder × Breaks front)

left_of : (decoder : DecoderState) (front : List ℕ) → IsLeft decoder front → IsPartial front ⊎ Breaks front
left_of decoder front (inl s) = inl s.unfinished
left_of decoder front (inr b) = inr b.1

-- what a feed answers
abbrev fed_as : ℕ → Option Item → Result Fed FeedErr
fed_as used item = Ok (record { used = used; item = item })

abbrev broken_off : Result Fed FeedErr
broken_off = Err Broken

-- the lines that a lister gave
tags_of_stream : (limit : ℕ) (bytes text : List ℕ) (l : TagLister) → HasTags limit bytes text l → AreTagsOfStream l.form limit bytes text
tags_of_stream limit bytes text l h = record { items = h.items; front = h.front; so_far = h.so_far; left = left_of l.decoder h.front h.left; texts = h.texts }

-- one to which nothing came
pub has_none : (limit : ℕ) (l : TagLister) → StandsIn Standard l.decoder [] → l.decoder.limit ≡ limit → HasTags limit [] [] l
has_none limit l stands is = record { items = []; front = []; so_far = (items_grow limit).none; texts = record { texts = []; each = tt; text_is = refl }; limit_is = is; left = inl stands }

-- no octet, and octets after others
pub takes_nothing : (l : TagLister) (t : List ℕ) → TakesOn [] l l t t
takes_nothing l t limit bytes text h = ([], sym (append-nil t), subst (λ (x : List ℕ). HasTags limit x (text ++ []) l) (sym (append-nil bytes)) (subst (λ (x : List ℕ). HasTags limit bytes x l) (sym (append-nil text)) h))

pub takes_then : (a b c : TagLister) (first last t0 t1 t2 : List ℕ) → TakesOn first a b t0 t1 → TakesOn last b c t1 t2 → TakesOn (first ++ last) a c t0 t2
takes_then a b c first last t0 t1 t2 f g limit bytes text h =
    let x = f limit bytes text h in
    let y = g limit (bytes ++ first) (text ++ x.0) x.2 in (
      x.0 ++ y.0,
      y.1 ∙ ap (λ (z : List ℕ). z ++ y.0) x.1 ∙ append_assoc t0 x.0 y.0,
      subst (λ (z : List ℕ). HasTags limit z (text ++ (x.0 ++ y.0)) c) (append_assoc bytes first last) (subst (λ (z : List ℕ). HasTags limit ((bytes ++ first) ++ last) z c) (append_assoc text x.0 y.0) y.2),
    )

module _ (l : TagLister) (new : DecoderState) (piece : List ℕ) (same : new.limit ≡ l.decoder.limit) where
  abbrev fed : TagLister
  fed = record l { decoder = new }

  -- no frame more
  grown : (limit : ℕ) (bytes text : List ℕ) (h : HasTags limit bytes text l) → IsLeft new (h.front ++ piece) → HasTags limit (bytes ++ piece) (text ++ []) fed
  grown limit bytes text h left = record {
    items = h.items;
    front = h.front ++ piece;
    so_far = (items_grow limit).by_bytes bytes h.items h.front piece h.so_far;
    texts = subst (AreTexts (AreLinesOfItem l.form) h.items) (sym (append-nil text)) h.texts;
    limit_is = same ∙ h.limit_is;
    left = left;
  }

  left_after : (used : ℕ) (item : Option Item) (front : List ℕ) → item ≡ None → ((p : KindSet) (front : List ℕ) → StandsIn p l.decoder front → TakesIn p l.decoder.limit front piece new used item)
      → (IsBroken l.decoder → (fed_as used item ≡ broken_off) × IsBroken new) → IsLeft l.decoder front → IsLeft new (front ++ piece)
  left_after used item front e takes broken (inl s) = inl (subst (λ (o : Option Item). TakesIn Standard l.decoder.limit front piece new used o) e (takes Standard front s)).1
  left_after used item front e takes broken (inr b) = absurd (let z = (broken b.0).0 in cc)

  -- the piece ends no frame
  pub takes_rest : (used : ℕ) (item : Option Item) (t : List ℕ) → item ≡ None → ((p : KindSet) (front : List ℕ) → StandsIn p l.decoder front → TakesIn p l.decoder.limit front piece new used item)
      → (IsBroken l.decoder → (fed_as used item ≡ broken_off) × IsBroken new) → TakesOn piece l fed t t
  takes_rest used item t e takes broken limit bytes text h = ([], sym (append-nil t), grown limit bytes text h (left_after used item h.front e takes broken h.left))

  broken_after : (front : List ℕ) → ((p : KindSet) (front : List ℕ) → StandsIn p l.decoder front → Breaks (front ++ piece) × IsBroken new) → (IsBroken l.decoder → IsBroken new) → IsLeft l.decoder front → IsLeft new (front ++ piece)
  broken_after front breaks broken (inl s) = (let b = breaks Standard front s in inr (b.1, b.0))
  broken_after front breaks broken (inr b) = inr (broken b.0, no_frame_breaks front piece b.1)

  -- the stream breaks in it, or has broken
  pub takes_break : (t : List ℕ) → ((p : KindSet) (front : List ℕ) → StandsIn p l.decoder front → Breaks (front ++ piece) × IsBroken new) → (IsBroken l.decoder → IsBroken new) → TakesOn piece l fed t t
  takes_break t breaks broken limit bytes text h = ([], sym (append-nil t), grown limit bytes text h (broken_after h.front breaks broken h.left))

  texts_more : (items : List Item) (item : Item) (text lines : List ℕ) → AreTexts (AreLinesOfItem l.form) items text → AreLinesOfItem l.form item lines → AreTexts (AreLinesOfItem l.form) (items ++ item ∷ []) (text ++ lines)
  texts_more items item text lines a is = record {
    texts = a.texts ++ lines ∷ [];
    each = zip_append (AreLinesOfItem l.form) items (item ∷ []) a.texts (lines ∷ []) a.each (is, tt);
    text_is = ap (λ (x : List ℕ). x ++ lines) a.text_is ∙ ap (λ (x : List ℕ). flat_map (λ (w : List ℕ). w) a.texts ++ x) (sym (append-nil lines)) ∙ sym (flat_map-append (λ (w : List ℕ). w) a.texts (lines ∷ []));
  }

  item_after : (used : ℕ) (item : Item) (limit : ℕ) (bytes text lines : List ℕ) (h : HasTags limit bytes text l) → TakesIn Standard l.decoder.limit h.front piece new used (Some item) → AreLinesOfItem l.form item lines
      → HasTags limit (bytes ++ take used piece) (text ++ lines) fed
  item_after used item limit bytes text lines h takes is =
      let grow = items_grow limit in
      let at = subst (λ (n : ℕ). TakesIn Standard n h.front piece new used (Some item)) h.limit_is takes in
      record {
        items = h.items ++ item ∷ [];
        front = [];
        so_far = grow.by_a_frame (bytes ++ take used piece) h.items (h.front ++ take used piece) item (grow.by_bytes bytes h.items h.front (take used piece) h.so_far) at.1 at.2;
        texts = texts_more h.items item text lines h.texts is;
        limit_is = same ∙ h.limit_is;
        left = inl at.3;
      }

  taken_there : (used : ℕ) (item : Option Item) (one : Item) (front : List ℕ) → item ≡ Some one → ((p : KindSet) (front : List ℕ) → StandsIn p l.decoder front → TakesIn p l.decoder.limit front piece new used item)
      → (IsBroken l.decoder → (fed_as used item ≡ broken_off) × IsBroken new) → IsLeft l.decoder front → TakesIn Standard l.decoder.limit front piece new used (Some one)
  taken_there used item one front e takes broken (inl s) = subst (λ (o : Option Item). TakesIn Standard l.decoder.limit front piece new used o) e (takes Standard front s)
  taken_there used item one front e takes broken (inr b) = absurd (let z = (broken b.0).0 in cc)

  -- an item of it, whose lines are appended
  pub takes_item : (used : ℕ) (item : Option Item) (one : Item) (t0 t1 : List ℕ) → item ≡ Some one → ((p : KindSet) (front : List ℕ) → StandsIn p l.decoder front → TakesIn p l.decoder.limit front piece new used item)
      → (IsBroken l.decoder → (fed_as used item ≡ broken_off) × IsBroken new) → (lines : List ℕ) × AreLinesOfItem l.form one lines × (t1 ≡ t0 ++ lines)
      → TakesOn (take used piece) l fed t0 t1
  takes_item used item one t0 t1 e takes broken w limit bytes text h = (w.0, w.2, item_after used one limit bytes text w.0 h (taken_there used item one h.front e takes broken h.left) w.1)

-- what a piece adds, with all that it says
pub takes_tags : (piece : List ℕ) (old new : TagLister) (t0 t1 : List ℕ) → TakesOn piece old new t0 t1 → TakesTags piece old new t0 t1
takes_tags piece old new t0 t1 takes limit bytes text h = let so = takes limit bytes text h in (so.0, so.1, so.2, tags_of_stream limit (bytes ++ piece) (text ++ so.0) new so.2)
