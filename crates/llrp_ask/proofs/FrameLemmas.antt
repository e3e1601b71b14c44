-- One frame that is shown, and frames one after another.
use Rattle.std.proofs.Common.{◌≡◌, ℕ, ◌≤◌, ◌&&◌, Bool, true, false, List, [], ◌∷◌, ◌++◌, length, take, drop, arith, Option, Result, Ok, Err, refl, sym, ap, subst, ◌∙◌, append_assoc}
use Rattle.std.specs.Prelude.{map, OnOk}
use Rattle.std.specs.List.{AllByRecursion, AllZip, flat_map, list_all}
use Rattle.std.proofs.lemmas.List.{append-nil, take-append-drop}
use Rattle.std.proofs.lemmas.List.Folds.{list_all-append}
use Rattle.llrp_schema.specs.declared.kinds.KindSet.TheVariants.{Standard}
use Rattle.llrp_schema.specs.declared.kinds.Kind.TheVariants.{Message}
use Rattle.llrp_schema.specs.Schema.{set_of_kind}
use Rattle.llrp_tree.specs.declared.TheConstants.{MAX_LIMIT}
use Rattle.llrp_tree.specs.declared.fault.Fault.{Fault}
use Rattle.llrp_tree.specs.Tree.{MessageTree}
use Rattle.llrp_tree.specs.Frame.{Frame}
use Rattle.llrp_tree.specs.FirstFault.{FirstFaultIn}
use Rattle.llrp_stream.specs.declared.item.Item.{Item}
use Rattle.llrp_stream.specs.declared.item.Item.TheVariants.{Msg, Bad}
use Rattle.llrp_stream.specs.declared.item.End.{End}
use Rattle.llrp_stream.specs.declared.item.End.TheVariants.{Clean}
use Rattle.llrp_stream.specs.Cuts.{Cuts, IsFrame, joined, length_field}
use Rattle.llrp_stream.specs.Calls.Lengths.{IsLength}
use Rattle.llrp_stream.proofs.FrontLemmas.{length_field-append}
use Rattle.llrp_stream.specs.Device.{SinkLog, Wrote}
use Rattle.llrp_stream.specs.Items.{IsItemIn, ItemsIn, ItemsSoFarIn, id_field}
use Rattle.llrp_stream.proofs.RunLemmas.{each_push, joined_push}
use Rattle.llrp_stream.proofs.Unique.{one_cut, same_item}
use Rattle.llrp_stream.proofs.WritingLemmas.{wrote_nothing, wrote_more}
use Rattle.llrp_listing.specs.declared.outcome.ToolErr.{ToolErr}
use Rattle.llrp_listing.specs.declared.outcome.Verdict.{Verdict}
use Rattle.llrp_listing.specs.Show.{ListedAs, verdict_of}
use Rattle.llrp_listing.specs.StreamListing.{AreTexts, end_text, is_lawful, is_message}
use Rattle.llrp_listing.proofs.Zips.{zip_append}
use Rattle.llrp_json.specs.JsonLines.{end_json}
use Rattle.llrp_ask.specs.declared.form.Form.{Form}
use Rattle.llrp_ask.specs.declared.form.Form.TheVariants.{Lines, Json}
use Rattle.llrp_ask.specs.declared.asking.Asking.{Asking}
use Rattle.llrp_ask.specs.declared.conversation.Conversation.{Conversation}
use Rattle.llrp_ask.specs.Calls.Asking.{Came, Event, after, follow, hear}
use Rattle.llrp_ask.specs.Calls.Courses.{course_of}
use Rattle.llrp_ask.specs.Private.Conversations.{TakesFrame, TakesFrames, TakesSome, still_lawful}
use Rattle.llrp_ask.specs.Calls.Next.{MayStop}
use Rattle.llrp_ask.specs.Calls.Run.{stopped}
use Rattle.llrp_ask.specs.Calls.Shown.{IsShown, end_shown}
use Rattle.llrp_ask.proofs.CourseLemmas.{follow_more}

-- ---- one frame

pub record ShownItem (form : Form) (frame : List ℕ) (p0 p1 : SinkLog) (verdict : Verdict) : Type 0 where
  pub item : Item
  pub is_item : IsItemIn Standard MAX_LIMIT frame item
  pub text : List ℕ
  pub is_text : IsShown form item text
  pub written : Wrote p0 p1 text
  pub verdict_is : verdict ≡ verdict_of (is_message item)

-- a frame is cut into itself
cut_alone : (frame : List ℕ) → IsFrame frame → Cuts frame (frame ∷ []) Clean
cut_alone frame is = record { tail = []; whole = sym (append-nil (frame ++ []) ∙ append-nil frame); each = (is, tt); ends = refl }

one_item : (frame : List ℕ) (frames : List (List ℕ)) (items : List Item) → frames ≡ frame ∷ [] → AllZip (IsItemIn Standard MAX_LIMIT) frames items → (item : Item) × (items ≡ item ∷ []) × IsItemIn Standard MAX_LIMIT frame item
one_item frame [] items e z = cc
one_item frame (f ∷ []) [] e z = absurd z
one_item frame (f ∷ []) (item ∷ []) e z = let same : f ≡ frame = cc in (item, refl, subst (λ (x : List ℕ). IsItemIn Standard MAX_LIMIT x item) same z.0)
one_item frame (f ∷ []) (item ∷ other ∷ items) e z = absurd z.1
one_item frame (f ∷ g ∷ frames) items e z = cc

one_text : (form : Form) (item : Item) (texts : List (List ℕ)) → AllZip (IsShown form) (item ∷ []) texts → (text : List ℕ) × IsShown form item text × (flat_map (λ t. t) texts ≡ text)
one_text form item [] z = absurd z
one_text form item (text ∷ []) z = (text, z.0, append-nil text)
one_text form item (text ∷ other ∷ texts) z = absurd z.1

no_end : (form : Form) → end_shown form Clean ≡ []
unfolding end_text end_json
no_end Lines = refl
no_end Json = refl

alone : (item : Item) (end : End) → end ≡ Clean → is_lawful (item ∷ []) end ≡ is_message item
unfolding is_lawful
alone (Msg m) end e = subst (λ (x : End). is_lawful (Msg m ∷ []) x ≡ true) (sym e) refl
alone (Bad id fault) end e = subst (λ (x : End). is_lawful (Bad id fault ∷ []) x ≡ false) (sym e) refl

shown_alone : (form : Form) (frame : List ℕ) (p0 p1 : SinkLog) (verdict : Verdict) (items : List Item) (item : Item) (end : End) (text front : List ℕ) (texts : List (List ℕ))
    → items ≡ item ∷ [] → end ≡ Clean → IsItemIn Standard MAX_LIMIT frame item → AllZip (IsShown form) items texts → front ≡ flat_map (λ t. t) texts → text ≡ front ++ end_shown form end
    → Wrote p0 p1 text → verdict ≡ verdict_of (is_lawful items end) → ShownItem form frame p0 p1 verdict
shown_alone form frame p0 p1 verdict items item end text front texts one clean is each front_is text_is written verdict_is =
    let t = one_text form item texts (subst (λ (l : List Item). AllZip (IsShown form) l texts) one each) in
    let same : text ≡ t.0 = text_is ∙ ap (λ (e : End). front ++ end_shown form e) clean ∙ ap (λ (x : List ℕ). front ++ x) (no_end form) ∙ append-nil front ∙ front_is ∙ t.2 in
    record {
      item = item;
      is_item = is;
      text = t.0;
      is_text = t.1;
      written = subst (Wrote p0 p1) same written;
      verdict_is = verdict_is ∙ ap (λ (l : List Item). verdict_of (is_lawful l end)) one ∙ ap verdict_of (alone item end clean);
    }

pub shown_item : (form : Form) (frame : List ℕ) (p0 p1 : SinkLog) (verdict : Verdict) → IsFrame frame → ListedAs (IsShown form) (end_shown form) Standard MAX_LIMIT frame p0 p1 verdict → ShownItem form frame p0 p1 verdict
shown_item form frame p0 p1 verdict is l =
    let cut = one_cut frame l.are.frames (frame ∷ []) l.end Clean l.are.cut (cut_alone frame is) in
    let one = one_item frame l.are.frames l.items cut.0 l.are.each in
    shown_alone form frame p0 p1 verdict l.items one.0 l.end l.text l.is.front l.is.lines.texts one.1 cut.1 one.2 l.is.lines.each l.is.lines.text_is l.is.text_is l.written l.verdict_is

pub is_that_message : (frame : List ℕ) (item : Item) (m : MessageTree) → IsItemIn Standard MAX_LIMIT frame item → Frame m frame MAX_LIMIT → set_of_kind (Message m.kind) ≡ Standard → item ≡ Msg m
is_that_message frame item m is f own = same_item Standard MAX_LIMIT frame item (Msg m) is (record { frame = f; own = own })

pub is_that_fault : (frame : List ℕ) (item : Item) (fault : Fault) → IsItemIn Standard MAX_LIMIT frame item → FirstFaultIn Standard frame MAX_LIMIT fault.bit fault.reason → item ≡ Bad (id_field frame) fault
is_that_fault frame item fault is f = same_item Standard MAX_LIMIT frame item (Bad (id_field frame) fault) is (refl, f)

lawful_still : (was is : Bool) → still_lawful was (verdict_of is) ≡ (was && is)
lawful_still true true = refl
lawful_still true false = refl
lawful_still false true = refl
lawful_still false false = refl

-- a frame was shown, and its message heard
pub takes_message : (frame : List ℕ) (old new : Conversation) (out0 out1 : List ℕ) (p0 p1 : SinkLog) (verdict : Verdict) (m : MessageTree)
    → IsFrame frame → ListedAs (IsShown old.form) (end_shown old.form) Standard MAX_LIMIT frame p0 p1 verdict → Frame m frame MAX_LIMIT → set_of_kind (Message m.kind) ≡ Standard
    → course_of new.asking out1 ≡ hear m (course_of old.asking out0) → new.lawful ≡ still_lawful old.lawful verdict → TakesFrame frame old new out0 out1 p0 p1
takes_message frame old new out0 out1 p0 p1 verdict m is l f own course lawful =
    let shown = shown_item old.form frame p0 p1 verdict is l in
    record {
      item = shown.item;
      is_item = shown.is_item;
      course = course ∙ ap (λ (i : Item). after (Came i) (course_of old.asking out0)) (sym (is_that_message frame shown.item m shown.is_item f own));
      text = shown.text;
      is_text = shown.is_text;
      written = shown.written;
      lawful = lawful ∙ ap (still_lawful old.lawful) shown.verdict_is ∙ lawful_still old.lawful (is_message shown.item);
    }

-- a frame with a fault was shown
pub takes_fault : (frame : List ℕ) (old new : Conversation) (out0 out1 : List ℕ) (p0 p1 : SinkLog) (verdict : Verdict) (fault : Fault)
    → IsFrame frame → ListedAs (IsShown old.form) (end_shown old.form) Standard MAX_LIMIT frame p0 p1 verdict → FirstFaultIn Standard frame MAX_LIMIT fault.bit fault.reason
    → course_of new.asking out1 ≡ course_of old.asking out0 → new.lawful ≡ still_lawful old.lawful verdict → TakesFrame frame old new out0 out1 p0 p1
takes_fault frame old new out0 out1 p0 p1 verdict fault is l f course lawful =
    let shown = shown_item old.form frame p0 p1 verdict is l in
    record {
      item = shown.item;
      is_item = shown.is_item;
      course = course ∙ ap (λ (i : Item). after (Came i) (course_of old.asking out0)) (sym (is_that_fault frame shown.item fault shown.is_item f));
      text = shown.text;
      is_text = shown.is_text;
      written = shown.written;
      lawful = lawful ∙ ap (still_lawful old.lawful) shown.verdict_is ∙ lawful_still old.lawful (is_message shown.item);
    }

-- ---- frames one after another

pub no_frames : (octets : List ℕ) → ItemsSoFarIn Standard MAX_LIMIT octets [] octets
no_frames octets = record { frames = []; whole = refl; each = tt; are = tt }

pub one_more : (octets rest frame later : List ℕ) (items : List Item) (item : Item) → ItemsSoFarIn Standard MAX_LIMIT octets items rest → rest ≡ frame ++ later → IsFrame frame → IsItemIn Standard MAX_LIMIT frame item
    → ItemsSoFarIn Standard MAX_LIMIT octets (items ++ item ∷ []) later
one_more octets rest frame later items item so cut is it = record {
  frames = so.frames ++ frame ∷ [];
  whole = so.whole ∙ ap (λ (x : List ℕ). joined so.frames ++ x) cut ∙ sym (append_assoc (joined so.frames) frame later) ∙ ap (λ (x : List ℕ). x ++ later) (sym (joined_push so.frames frame));
  each = each_push IsFrame so.frames frame so.each is;
  are = zip_append (IsItemIn Standard MAX_LIMIT) so.frames (frame ∷ []) items (item ∷ []) so.are (it, tt);
}

joined_more : (a b : List (List ℕ)) → joined (a ++ b) ≡ joined a ++ joined b
joined_more [] b = refl
joined_more (f ∷ a) b = ap (λ (x : List ℕ). f ++ x) (joined_more a b) ∙ sym (append_assoc f (joined a) (joined b))

each_more : (a b : List (List ℕ)) → AllByRecursion IsFrame a → AllByRecursion IsFrame b → AllByRecursion IsFrame (a ++ b)
each_more [] b p q = q
each_more (f ∷ a) b p q = (p.0, each_more a b p.1 q)

pub then_more : (bytes rest piece later : List ℕ) (items more : List Item) → ItemsSoFarIn Standard MAX_LIMIT bytes items rest → ItemsSoFarIn Standard MAX_LIMIT (rest ++ piece) more later
    → ItemsSoFarIn Standard MAX_LIMIT (bytes ++ piece) (items ++ more) later
then_more bytes rest piece later items more so next = record {
  frames = so.frames ++ next.frames;
  whole = ap (λ (x : List ℕ). x ++ piece) so.whole ∙ append_assoc (joined so.frames) rest piece ∙ ap (λ (x : List ℕ). joined so.frames ++ x) next.whole ∙ sym (append_assoc (joined so.frames) (joined next.frames) later) ∙ ap (λ (x : List ℕ). x ++ later) (sym (joined_more so.frames next.frames));
  each = each_more so.frames next.frames so.each next.each;
  are = zip_append (IsItemIn Standard MAX_LIMIT) so.frames next.frames items more so.are next.are;
}

pub then_end : (bytes rest : List ℕ) (items more : List Item) (end : End) → ItemsSoFarIn Standard MAX_LIMIT bytes items rest → ItemsIn Standard MAX_LIMIT rest more end → ItemsIn Standard MAX_LIMIT bytes (items ++ more) end
then_end bytes rest items more end so next = record {
  frames = so.frames ++ next.frames;
  cut = record {
    tail = next.cut.tail;
    whole = so.whole ∙ ap (λ (x : List ℕ). joined so.frames ++ x) next.cut.whole ∙ sym (append_assoc (joined so.frames) (joined next.frames) next.cut.tail) ∙ ap (λ (x : List ℕ). x ++ next.cut.tail) (sym (joined_more so.frames next.frames));
    each = each_more so.frames next.frames so.each next.cut.each;
    ends = next.cut.ends;
  };
  each = zip_append (IsItemIn Standard MAX_LIMIT) so.frames next.frames items more so.are next.each;
}

-- ---- texts one after another

flat_more : (a b : List (List ℕ)) → flat_map (λ t. t) (a ++ b) ≡ flat_map (λ t. t) a ++ flat_map (λ t. t) b
flat_more [] b = refl
flat_more (t ∷ a) b = ap (λ (x : List ℕ). t ++ x) (flat_more a b) ∙ sym (append_assoc t (flat_map (λ t. t) a) (flat_map (λ t. t) b))

pub texts_more : (form : Form) (items more : List Item) (a b : List ℕ) → AreTexts (IsShown form) items a → AreTexts (IsShown form) more b → AreTexts (IsShown form) (items ++ more) (a ++ b)
texts_more form items more a b p q = record {
  texts = p.texts ++ q.texts;
  each = zip_append (IsShown form) items more p.texts q.texts p.each q.each;
  text_is = ap (λ (x : List ℕ). x ++ b) p.text_is ∙ ap (λ (x : List ℕ). flat_map (λ t. t) p.texts ++ x) q.text_is ∙ sym (flat_more p.texts q.texts);
}

pub no_texts : (form : Form) → AreTexts (IsShown form) [] []
no_texts form = record { texts = []; each = tt; text_is = refl }

pub text_alone : (form : Form) (item : Item) (text : List ℕ) → IsShown form item text → AreTexts (IsShown form) (item ∷ []) text
text_alone form item text is = record { texts = text ∷ []; each = (is, tt); text_is = sym (append-nil text) }

-- ---- frames that are taken

all_so_far : (was : Bool) → was ≡ (was && true)
all_so_far true = refl
all_so_far false = refl

and_and : (a b c : Bool) → ((a && b) && c) ≡ (a && (b && c))
and_and true b c = refl
and_and false b c = refl

pub takes_none : (octets : List ℕ) (c : Conversation) (out : List ℕ) (p : SinkLog) → TakesSome octets octets c c out out p p
takes_none octets c out p = record { items = []; came = no_frames octets; course = refl; text = []; is_text = no_texts c.form; written = wrote_nothing p; lawful = all_so_far c.lawful }

pub came_more : (items : List Item) (item : Item) → map Came (items ++ item ∷ []) ≡ map Came items ++ Came item ∷ []
came_more [] item = refl
came_more (i ∷ items) item = ap (λ (l : List Event). Came i ∷ l) (came_more items item)

alone_last : (last front : Bool) → (front && last) ≡ (front && (last && true))
alone_last true front = refl
alone_last false front = refl

pub takes_more : (octets rest frame later : List ℕ) (old mid new : Conversation) (out0 out1 out2 : List ℕ) (p0 p1 p2 : SinkLog) → TakesSome octets rest old mid out0 out1 p0 p1 → mid.form ≡ old.form
    → IsFrame frame → rest ≡ frame ++ later → TakesFrame frame mid new out1 out2 p1 p2 → TakesSome octets later old new out0 out2 p0 p2
takes_more octets rest frame later old mid new out0 out1 out2 p0 p1 p2 s form is cut t = record {
  items = s.items ++ t.item ∷ [];
  came = one_more octets rest frame later s.items t.item s.came cut is t.is_item;
  course = t.course ∙ ap (after (Came t.item)) s.course ∙ sym (follow_more (map Came s.items) (Came t.item ∷ []) (course_of old.asking out0)) ∙ ap (λ (l : List Event). follow l (course_of old.asking out0)) (sym (came_more s.items t.item));
  text = s.text ++ t.text;
  is_text = texts_more old.form s.items (t.item ∷ []) s.text t.text s.is_text (text_alone old.form t.item t.text (subst (λ (f : Form). IsShown f t.item t.text) form t.is_text));
  written = wrote_more p0 p1 p2 s.text t.text s.written t.written;
  lawful = t.lawful ∙ ap (λ (b : Bool). b && is_message t.item) s.lawful ∙ and_and old.lawful (list_all is_message s.items) (is_message t.item) ∙ ap (λ (b : Bool). old.lawful && b) (alone_last (is_message t.item) (list_all is_message s.items) ∙ sym (list_all-append is_message s.items (t.item ∷ [])));
}

pub takes_all : (octets rest : List ℕ) (old mid new : Conversation) (asking : Asking) (out0 out1 : List ℕ) (p0 p1 : SinkLog) (why : Option ToolErr) → TakesSome octets rest old mid out0 out1 p0 p1
    → MayStop why rest → course_of asking out1 ≡ stopped why (course_of mid.asking out1) → new.held.items ≡ rest → new.asking ≡ asking → new.lawful ≡ mid.lawful → TakesFrames octets old new out0 out1 p0 p1
takes_all octets rest old mid new asking out0 out1 p0 p1 why s stops course held same lawful = record {
  items = s.items;
  came = subst (λ (x : List ℕ). ItemsSoFarIn Standard MAX_LIMIT octets s.items x) (sym held) s.came;
  why = why;
  stops = subst (MayStop why) (sym held) stops;
  course = ap (λ (x : Asking). course_of x out1) same ∙ course ∙ ap (stopped why) s.course;
  text = s.text;
  is_text = s.is_text;
  written = s.written;
  lawful = lawful ∙ s.lawful;
}

-- the front of octets that their length field cuts off
pub front_is_frame : (rest front back : List ℕ) (count : ℕ) → IsLength rest count → count ≤ length rest → front ≡ take count rest → back ≡ drop count rest → length front ≡ count → (rest ≡ front ++ back) × IsFrame front
front_is_frame rest front back count is within f b n =
    let cut : rest ≡ front ++ back = rw (f, b) (sym (take-append-drop count rest)) in
    let ten = is.ten in
    let field : length_field front ≡ length front = sym (length_field-append front back (omega arith)) ∙ ap length_field (sym cut) ∙ sym is.octets_are ∙ sym n in
    (cut, record { header = omega arith; whole = field })

pub on_ok : {A E : Type 0} (r : Result A E) (P Q : Type 0) → (P → Q) → OnOk r P → OnOk r Q
on_ok (Ok x) P Q f h = f h
on_ok (Err e) P Q f h = tt
