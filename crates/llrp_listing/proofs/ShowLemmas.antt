-- The text of a stream as it comes, whatever the texts of its items are.
use Rattle.std.proofs.Common.{◌≡◌, ◌⊎◌, ◌≤◌, arith, length, ℕ, Bool, true, false, List, [], ◌∷◌, ◌++◌, take, drop, refl, sym, ap, subst, ◌∙◌, append_assoc, Err, Ok, inl, inr, Some, None}
use Rattle.llrp_schema.specs.declared.kinds.KindSet.{KindSet}
use Rattle.std.specs.Prelude.{◌&&◌, OnOk, Option, Result}
use Rattle.std.specs.List.{flat_map, list_all}
use Rattle.std.proofs.lemmas.List.{append-nil, take-append-drop}
use Rattle.std.proofs.lemmas.List.Concat.{flat_map-append}
use Rattle.llrp_tree.specs.declared.fault.Fault.{Fault}
use Rattle.llrp_tree.specs.OpenTree.{Begun}
use Rattle.llrp_tree.specs.Tree.{MessageTree}
use Rattle.llrp_stream.specs.declared.item.FeedErr.TheVariants as failure
use Rattle.llrp_stream.specs.declared.item.Item.{Item}
use Rattle.llrp_stream.specs.declared.item.Item.TheVariants as of_item
use Rattle.llrp_stream.specs.declared.item.End.{End}
use Rattle.llrp_stream.specs.declared.item.End.TheVariants as at_end
use Rattle.llrp_stream.specs.Cuts.{IsFrame, Breaks, EndsStream}
use Rattle.llrp_stream.specs.Device.{SinkLog, Wrote}
use Rattle.llrp_stream.specs.declared.engine.frames.Frames.{Frames}
use Rattle.llrp_stream.specs.declared.engine.frames.Outcome.{Outcome}
use Rattle.llrp_stream.specs.declared.engine.frames.Outcome.TheVariants.{Whole, Bad}
use Rattle.llrp_stream.specs.Calls.Frames.{ComesTo, IsBroken, IsFrontOf, IsIdle, Stops, TakesOn, limit_of, set_of}
use Rattle.llrp_stream.specs.Items.{IsItemIn, ItemsIn, ItemsSoFarIn}
use Rattle.llrp_stream.proofs.FrontLemmas.{no_frame_breaks}
use Rattle.llrp_stream.proofs.RunLemmas.{items_grow}
use Rattle.llrp_stream.proofs.StreamEnd.{front_of}
use Rattle.llrp_stream.proofs.Unique.{same_items}
use Rattle.llrp_listing.specs.declared.outcome.ToolErr.{ToolErr}
use Rattle.llrp_listing.specs.declared.outcome.ToolErr.TheVariants.{Listing, Script, Read, Write, Bound, Memory, Hex, Broken, Peer, Strange, Early}
use Rattle.llrp_listing.specs.declared.outcome.Verdict.{Verdict}
use Rattle.llrp_listing.specs.Copying.{IsPrefix}
use Rattle.llrp_listing.specs.Calls.Copying.{Writes}
use Rattle.llrp_listing.specs.Calls.ItemPrinter.{HasOneText, HasText}
use Rattle.llrp_listing.specs.Private.Lister.{AppendsText, Tells, HandsOnOrFails, ListedSoFar, GoesOn, IsBrokenOff, Finishes, KeepsFew, Lists, ListsOrFails}
use Rattle.llrp_listing.specs.Show.{verdict_of, ListedAs, BeginsTextIn, StoppedAs, WroteFramesAs}
use Rattle.llrp_listing.specs.StreamListing.{AreTexts, IsStreamText, is_message, is_clean, is_lawful}
use Rattle.llrp_stream.proofs.WritingLemmas.{wrote_nothing, wrote_more, wrote_then_failed, same_failures}
use Rattle.llrp_listing.proofs.EngineLemmas.{comes_so, comes_idle, comes_partial, few_kept, none_kept, tree_told}
use Rattle.llrp_listing.proofs.OneText.{begins_text, one_stream_text}
use Rattle.llrp_listing.proofs.Zips.{zip_append}
use Rattle.llrp_tree.proofs.PlacedLemmas.{and_true}

-- ---- verdicts

and_false : (b : Bool) → false ≡ (b && false)
and_false true = refl
and_false false = refl

and_assoc : (a b c : Bool) → (a && (b && c)) ≡ ((a && b) && c)
and_assoc true b c = refl
and_assoc false b c = refl

lawful_push : (items : List Item) (item : Item) → list_all is_message (items ++ (item ∷ [])) ≡ (list_all is_message items && is_message item)
lawful_push [] item = and_true (is_message item)
lawful_push (i ∷ items) item = ap (λ (b : Bool). is_message i && b) (lawful_push items item) ∙ and_assoc (is_message i) (list_all is_message items) (is_message item)

-- ---- what a feed took

-- up to a frame's end
abbrev pub TakesFrame : (stands : List ℕ → List Begun → Type 0) (ends : List ℕ → MessageTree → List ℕ → Type 0) → (p : KindSet) (limit : ℕ) (front gathered piece : List ℕ) → Frames → (used : ℕ) → Outcome → Type 0
TakesFrame stands ends p limit front gathered piece frames used outcome =
    (used ≤ length piece) × IsFrame (front ++ take used piece) × Tells stands ends p limit (front ++ take used piece) gathered outcome × IsIdle frames

abbrev pub Takings : (begins stands : List ℕ → List Begun → Type 0) (ends : List ℕ → MessageTree → List ℕ → Type 0) → List ℕ → ℕ → (front piece : List ℕ) → Frames → (used : ℕ) → Option Outcome → Type 0
Takings begins stands ends gathered limit front piece new used outcome = TakesOn (begins gathered) (stands gathered) (ends gathered) (λ now. stands now []) limit front piece new used outcome

module _ (begins stands : List ℕ → List Begun → Type 0) (ends : List ℕ → MessageTree → List ℕ → Type 0) where
  pub takes_frame : (p : KindSet) (limit other : ℕ) (front gathered piece : List ℕ) (new : Frames) (used : ℕ) (came : Option Outcome) (outcome : Outcome) → set_of new ≡ p → other ≡ limit → came ≡ Some outcome → Takings begins stands ends gathered other front piece new used came
      → TakesFrame stands ends p limit front gathered piece new used outcome
  takes_frame p limit other front gathered piece new used came outcome set e is t =
      let u = subst (λ (n : ℕ). Takings begins stands ends gathered n front piece new used (Some outcome)) e (subst (λ (o : Option Outcome). Takings begins stands ends gathered other front piece new used o) is t) in
      (u.0, u.1, subst (λ (q : KindSet). Tells stands ends q limit (front ++ take used piece) gathered outcome) set u.2, u.3)

  -- without an outcome, the whole piece
  pub takes_none : (limit : ℕ) (front gathered piece : List ℕ) (new : Frames) (used : ℕ) (came : Option Outcome) → limit_of new ≡ limit → ((x : Outcome) → came ≡ Some x → ⊥) → Takings begins stands ends gathered limit front piece new used came
      → ComesTo (begins gathered) (stands gathered) new (front ++ piece)
  takes_none limit front gathered piece new used None e none t = (subst (λ (n : ℕ). Takings begins stands ends gathered n front piece new used None) (sym e) t).1
  takes_none limit front gathered piece new used (Some outcome) e none t = absurd (none outcome refl)

-- the printer has whole items alone
pub frame_ends : (stands : List ℕ → List Begun → Type 0) (ends : List ℕ → MessageTree → List ℕ → Type 0) (p : KindSet) (limit : ℕ) (front gathered piece : List ℕ) (frames : Frames) (used : ℕ) (outcome : Outcome) → TakesFrame stands ends p limit front gathered piece frames used outcome
    → (was : List ℕ) × stands was []
frame_ends stands ends p limit front gathered piece frames used Whole t = (t.2.2, t.2.4)
frame_ends stands ends p limit front gathered piece frames used (Bad id fault) t = (gathered, t.2.2)

-- it has the text of earlier items
pub text_held : (begins stands : List ℕ → List Begun → Type 0) (frames : Frames) (front gathered : List ℕ) → ComesTo (begins gathered) (stands gathered) frames front → HasText begins stands gathered
text_held begins stands frames front gathered comes = tree_told (begins gathered) (stands gathered) frames front comes

-- ---- a lister takes a piece

module _ (IsText : Item → List ℕ → Type 0) where
  no_items : AreTexts IsText [] []
  no_items = record { texts = []; each = tt; text_is = refl }

  one_item_more : (items : List Item) (item : Item) (text more : List ℕ) → AreTexts IsText items text → IsText item more → AreTexts IsText (items ++ (item ∷ [])) (text ++ more)
  one_item_more items item text more are is = record {
    texts = are.texts ++ (more ∷ []);
    each = zip_append IsText items (item ∷ []) are.texts (more ∷ []) are.each (is, tt);
    text_is = ap (λ (x : List ℕ). x ++ more) are.text_is ∙ ap (λ (x : List ℕ). flat_map (λ t. t) are.texts ++ x) (sym (append-nil more)) ∙ sym (flat_map-append (λ t. t) are.texts (more ∷ []));
  }

  pub begun : (begins stands : List ℕ → List Begun → Type 0) (p : KindSet) (limit : ℕ) (log : SinkLog) (frames : Frames) → set_of frames ≡ p → limit_of frames ≡ limit → IsIdle frames → stands [] [] → GoesOn IsText begins stands p limit [] [] log log frames true
  begun begins stands p limit log frames set_is limit_is idle fresh = record {
    front = [];
    listed = record { items = []; sent = []; so_far = (items_grow limit).none; texts = no_items; log = wrote_nothing log; set_is = set_is; limit_is = limit_is; lawful_is = refl };
    comes = comes_idle (begins []) (stands []) frames idle fresh;
  }

  -- a frame's item, of which the text was appended
  pub one_frame_more : (p : KindSet) (limit : ℕ) (bytes piece front gathered all : List ℕ) (used : ℕ) (item : Item) (old now : SinkLog) (frames : Frames) (lawful : Bool)
      → (so : ListedSoFar IsText p limit bytes front gathered old now frames lawful) → IsFrame (front ++ take used piece) → IsItemIn p limit (front ++ take used piece) item → AppendsText IsText item gathered all
      → ItemsSoFarIn p limit (bytes ++ take used piece) (so.items ++ (item ∷ [])) [] × AreTexts IsText (so.items ++ (item ∷ [])) (so.sent ++ all)
  one_frame_more p limit bytes piece front gathered all used item old now frames lawful so frame is_item appends =
      let grow = items_grow limit in (
        grow.by_a_frame (bytes ++ take used piece) so.items (front ++ take used piece) item (grow.by_bytes bytes so.items front (take used piece) so.so_far) frame is_item,
        subst (AreTexts IsText (so.items ++ (item ∷ []))) (append_assoc so.sent gathered appends.0 ∙ ap (λ (x : List ℕ). so.sent ++ x) (sym appends.1)) (one_item_more so.items item (so.sent ++ gathered) appends.0 so.texts appends.2),
      )

  -- the text of a frame was gathered, and perhaps handed on with the text before it
  pub frame_listed : (begins stands : List ℕ → List Begun → Type 0) (p : KindSet) (limit : ℕ) (bytes front gathered piece : List ℕ) (used : ℕ) (old now after : SinkLog) (was told new : Frames) (was_lawful lawful : Bool)
      → (so : ListedSoFar IsText p limit bytes front gathered old now was was_lawful) → IsFrame (front ++ take used piece) → IsIdle told → set_of told ≡ set_of was → limit_of told ≡ limit_of was → new ≡ told
      → Lists IsText stands p limit (front ++ take used piece) gathered was_lawful lawful now after → (left : List ℕ) × GoesOn IsText begins stands p limit (bytes ++ take used piece) left old after new lawful
  frame_listed begins stands p limit bytes front gathered piece used old now after was told new was_lawful lawful so frame idle set_is limit_is same lists =
      let item = lists.item in
      let more = one_frame_more p limit bytes piece front gathered lists.all used item old now was was_lawful so frame lists.is_item lists.appended in
      let handed = lists.handed in (
        lists.left,
        record {
          front = [];
          listed = record {
            items = so.items ++ (item ∷ []);
            sent = so.sent ++ handed.0;
            so_far = more.0;
            texts = subst (AreTexts IsText (so.items ++ (item ∷ []))) (ap (λ (x : List ℕ). so.sent ++ x) handed.1 ∙ sym (append_assoc so.sent handed.0 lists.left)) more.1;
            log = wrote_more old now after so.sent handed.0 so.log handed.2;
            set_is = ap set_of same ∙ set_is ∙ so.set_is;
            limit_is = ap limit_of same ∙ limit_is ∙ so.limit_is;
            lawful_is = lists.lawful ∙ ap (λ (b : Bool). b && is_message item) so.lawful_is ∙ sym (lawful_push so.items item);
          };
          comes = subst (λ (f : Frames). ComesTo (begins lists.left) (stands lists.left) f []) (sym same) (comes_idle (begins lists.left) (stands lists.left) told idle lists.holds);
        },
      )

  -- the piece ends in a frame, and all text of whole frames was handed on
  pub piece_listed : (begins stands new_begins new_stands : List ℕ → List Begun → Type 0) (p : KindSet) (limit : ℕ) (bytes gathered piece front : List ℕ) (old now after : SinkLog) (was new : Frames) (lawful : Bool)
      → ListedSoFar IsText p limit bytes front gathered old now was lawful → ComesTo (begins gathered) (stands gathered) new (front ++ piece) → set_of new ≡ set_of was → limit_of new ≡ limit_of was
      → Wrote now after gathered → ((w : List ℕ) (t : List Begun) → begins w t → new_begins [] t) → ((w : List ℕ) (t : List Begun) → stands w t → new_stands [] t)
      → GoesOn IsText new_begins new_stands p limit (bytes ++ piece) [] old after new lawful
  piece_listed begins stands new_begins new_stands p limit bytes gathered piece front old now after was new lawful so comes set_is limit_is written moved_begins moved_stands = record {
    front = front ++ piece;
    listed = record {
      items = so.items;
      sent = so.sent ++ gathered;
      so_far = (items_grow limit).by_bytes bytes so.items front piece so.so_far;
      texts = subst (AreTexts IsText so.items) (sym (append-nil (so.sent ++ gathered))) so.texts;
      log = wrote_more old now after so.sent gathered so.log written;
      set_is = set_is ∙ so.set_is;
      limit_is = limit_is ∙ so.limit_is;
      lawful_is = so.lawful_is;
    };
    comes = comes_so (begins gathered) (stands gathered) (new_begins []) (new_stands []) (moved_begins gathered) (moved_stands gathered) new (front ++ piece) comes;
  }

  -- the piece breaks the stream
  pub piece_breaks : (begins stands new_stands : List ℕ → List Begun → Type 0) (p : KindSet) (limit : ℕ) (bytes gathered piece : List ℕ) (old now : SinkLog) (was new : Frames) (lawful : Bool) → (goes : GoesOn IsText begins stands p limit bytes gathered old now was lawful)
      → Breaks (goes.front ++ piece) → new_stands gathered [] → IsBroken new → set_of new ≡ set_of was → limit_of new ≡ limit_of was
      → IsBrokenOff IsText new_stands p limit (bytes ++ piece) old now new lawful
  piece_breaks begins stands new_stands p limit bytes gathered piece old now was new lawful goes breaks holds broken set_is limit_is =
      let so = goes.listed in
      record {
        front = goes.front ++ piece;
        gathered = gathered;
        listed = record {
          items = so.items;
          sent = so.sent;
          so_far = (items_grow limit).by_bytes bytes so.items goes.front piece so.so_far;
          texts = so.texts;
          log = so.log;
          set_is = set_is ∙ so.set_is;
          limit_is = limit_is ∙ so.limit_is;
          lawful_is = so.lawful_is;
        };
        breaks = breaks;
        broken = broken;
        holds = holds;
      }

  -- a broken stream stays so, whatever follows
  pub broken_off : (stands : List ℕ → List Begun → Type 0) (p : KindSet) (limit : ℕ) (bytes more : List ℕ) (old now : SinkLog) (frames : Frames) (lawful : Bool) → IsBrokenOff IsText stands p limit bytes old now frames lawful
      → IsBrokenOff IsText stands p limit (bytes ++ more) old now frames lawful
  broken_off stands p limit bytes more old now frames lawful broken =
      let so = broken.listed in
      record {
        front = broken.front ++ more;
        gathered = broken.gathered;
        listed = record {
          items = so.items;
          sent = so.sent;
          so_far = (items_grow limit).by_bytes bytes so.items broken.front more so.so_far;
          texts = so.texts;
          log = so.log;
          set_is = so.set_is;
          limit_is = so.limit_is;
          lawful_is = so.lawful_is;
        };
        breaks = no_frame_breaks broken.front more broken.breaks;
        broken = broken.broken;
        holds = broken.holds;
      }

  -- what the engine keeps
  pub goes_few : (begins stands : List ℕ → List Begun → Type 0) (p : KindSet) (limit : ℕ) (bytes gathered : List ℕ) (old now : SinkLog) (frames : Frames) (lawful : Bool) → 10 ≤ limit → GoesOn IsText begins stands p limit bytes gathered old now frames lawful → KeepsFew limit frames
  goes_few begins stands p limit bytes gathered old now frames lawful least goes =
      let e = goes.listed.limit_is in
      let k = few_kept (begins gathered) (stands gathered) frames goes.front (omega (arith, e, least)) goes.comes in
      record { few = k.0; within = omega (arith, k.1, e) }

  -- ---- a frame's text

  -- the printer received a message with its text
  pub whole_listed : (stands new_stands : List ℕ → List Begun → Type 0) (ends : List ℕ → MessageTree → List ℕ → Type 0) (p : KindSet) (limit : ℕ) (frame was : List ℕ) (lawful : Bool) (w0 w1 : SinkLog) (answer : Result (Unit {0}) ToolErr)
      → ((before : List ℕ) (m : MessageTree) (now : List ℕ) → ends before m now → AppendsText IsText (of_item.Msg m) before now) → Tells stands ends p limit frame was Whole
      → ((all : List ℕ) → stands all [] → HandsOnOrFails new_stands all w0 w1 answer) → ListsOrFails IsText new_stands p limit frame was lawful lawful w0 w1 answer
  whole_listed stands new_stands ends p limit frame was lawful w0 w1 (Ok u) has_text told handed =
      let h = handed told.2 told.4 in
      record { item = of_item.Msg told.0; all = told.2; left = h.0; is_item = told.1; appended = has_text was told.0 told.2 told.3; handed = h.1; holds = h.2; lawful = sym (and_true lawful) }
  whole_listed stands new_stands ends p limit frame was lawful w0 w1 (Err e) has_text told handed =
      inr (of_item.Msg told.0, told.1, (told.2, has_text was told.0 told.2 told.3, handed told.2 told.4))

  -- the text of a fault was appended
  pub fault_listed : (stands mid_stands new_stands : List ℕ → List Begun → Type 0) (ends : List ℕ → MessageTree → List ℕ → Type 0) (p : KindSet) (limit id : ℕ) (fault : Fault) (frame was : List ℕ) (lawful : Bool) (w0 w1 : SinkLog) (answer : Result (Unit {0}) ToolErr)
      → ((before : List ℕ) → stands before [] → (text : List ℕ) × IsText (of_item.Bad id fault) text × mid_stands (before ++ text) []) → Tells stands ends p limit frame was (Bad id fault)
      → ((all : List ℕ) → mid_stands all [] → HandsOnOrFails new_stands all w0 w1 answer) → ListsOrFails IsText new_stands p limit frame was lawful false w0 w1 answer
  fault_listed stands mid_stands new_stands ends p limit id fault frame was lawful w0 w1 (Ok u) pushed told handed =
      let k = pushed was told.2 in
      let h = handed (was ++ k.0) k.2 in
      record { item = of_item.Bad id fault; all = was ++ k.0; left = h.0; is_item = (told.0, told.1); appended = (k.0, refl, k.1); handed = h.1; holds = h.2; lawful = and_false lawful }
  fault_listed stands mid_stands new_stands ends p limit id fault frame was lawful w0 w1 (Err e) pushed told handed =
      let k = pushed was told.2 in
      inr (of_item.Bad id fault, (told.0, told.1), (was ++ k.0, (k.0, refl, k.1), handed (was ++ k.0) k.2))

  -- no write failed
  pub lists_failures : (stands : List ℕ → List Begun → Type 0) (p : KindSet) (limit : ℕ) (frame was : List ℕ) (old_lawful lawful : Bool) (w0 w1 : SinkLog) → Lists IsText stands p limit frame was old_lawful lawful w0 w1 → w1.failures ≡ w0.failures
  lists_failures stands p limit frame was old_lawful lawful w0 w1 lists = same_failures w0 w1 lists.handed.0 lists.handed.2

pub broken_few : (limit : ℕ) (frames : Frames) → Stops frames failure.Broken → KeepsFew limit frames
broken_few limit frames s =
    let kept = none_kept frames s in
    let none = ap (λ (x : List ℕ). length x) kept.0 in
    record { few = omega (arith, none); within = omega (arith, kept.1) }

-- what was handed on, or a write that failed
pub all_handed : (stands new_stands : List ℕ → List Begun → Type 0) (was : List ℕ) (w0 w1 : SinkLog) (answer : Result (Unit {0}) ToolErr) → stands was [] → Writes was w0 w1 answer
    → OnOk answer ((w : List ℕ) (t : List Begun) → stands w t → new_stands [] t) → HandsOnOrFails new_stands was w0 w1 answer
all_handed stands new_stands was w0 w1 (Ok u) s written moved = ([], (was, sym (append-nil was), written), moved was [] s)
all_handed stands new_stands was w0 w1 (Err e) s written moved = written

-- nothing was handed on
pub none_handed : (stands : List ℕ → List Begun → Type 0) (was : List ℕ) (log : SinkLog) → stands was [] → HandsOnOrFails stands was log log (Ok tt)
none_handed stands was log s = (was, ([], refl, wrote_nothing log), s)

-- ---- what the engine returns at the end

abbrev pub ToldEnd : Frames → End → Type 0
ToldEnd frames end = ((front : List ℕ) → IsFrontOf frames front → EndsStream front end) × (IsBroken frames → end ≡ at_end.Broken)

-- A front of a frame ends the stream.
record Ended (IsText : Item → List ℕ → Type 0) (stands : List ℕ → List Begun → Type 0) (p : KindSet) (limit : ℕ) (bytes : List ℕ) (old now : SinkLog) (frames : Frames) (lawful : Bool) (end : End) : Type 0 where
  front : List ℕ
  gathered : List ℕ
  listed : ListedSoFar IsText p limit bytes front gathered old now frames lawful
  ends : EndsStream front end
  holds : stands gathered []

-- the printer has whole items alone, once an unfinished message is given up
abbrev pub GivesUp : (begins stands new_stands : List ℕ → List Begun → Type 0) → Type 0
GivesUp begins stands new_stands = (was : List ℕ) (t : List Begun) → (begins was t) ⊎ (stands was t) → new_stands was []

ended : (IsText : Item → List ℕ → Type 0) (begins stands new_stands : List ℕ → List Begun → Type 0) (p : KindSet) (limit : ℕ) (bytes : List ℕ) (old now : SinkLog) (frames : Frames) (lawful : Bool) (end : End)
    → Finishes IsText begins stands p limit bytes old now frames lawful → ToldEnd frames end → GivesUp begins stands new_stands → Ended IsText new_stands p limit bytes old now frames lawful end
ended IsText begins stands new_stands p limit bytes old now frames lawful end finishes told gives_up = elim finishes [
  | inl goes ↦ (
      let g = goes.1 in
      let t = tree_told (begins goes.0) (stands goes.0) frames g.front g.comes in
      record {
        front = g.front;
        gathered = goes.0;
        listed = g.listed;
        ends = told.0 g.front (front_of (begins goes.0) (stands goes.0) frames g.front g.comes);
        holds = gives_up goes.0 t.0 t.1;
      })
  | inr broken ↦ record {
    front = broken.front;
    gathered = broken.gathered;
    listed = broken.listed;
    ends = subst (λ (e : End). EndsStream broken.front e) (sym (told.1 broken.broken)) broken.breaks;
    holds = gives_up broken.gathered [] (inr broken.holds);
  }
]

-- ---- fronts of a text

module _ (IsText : Item → List ℕ → Type 0) (text_of_end : End → List ℕ) (one : HasOneText IsText) where
  -- the text of the items so far begins each text of more bytes, and so does a front of that text
  begins_so_far : (p : KindSet) (limit : ℕ) (bytes more front text part : List ℕ) (items : List Item) → ItemsSoFarIn p limit bytes items front → AreTexts IsText items text → IsPrefix part text → BeginsTextIn IsText text_of_end p limit (bytes ++ more) part
  begins_so_far p limit bytes more front text part items so are part_of others end whole all is =
      let first = (items_grow limit).come_first bytes more items others front end so all in
      let listing : IsStreamText IsText text_of_end (items ++ first.0) end whole = subst (λ (xs : List Item). IsStreamText IsText text_of_end xs end whole) first.1 is in
      let begins = begins_text IsText one text_of_end items first.0 end text whole are listing in
      (part_of.0 ++ begins.0, begins.1 ∙ ap (λ (x : List ℕ). x ++ begins.0) part_of.1 ∙ append_assoc part part_of.0 begins.0)

  -- a write of gathered text failed
  write_stopped : (p : KindSet) (limit : ℕ) (bytes sent text : List ℕ) (old now after : SinkLog) (e : ToolErr) → Wrote old now sent → ((part : List ℕ) → IsPrefix part (sent ++ text) → BeginsTextIn IsText text_of_end p limit bytes part)
      → Writes text now after (Err e) → StoppedAs IsText text_of_end p limit bytes old after e
  write_stopped p limit bytes sent text old now after Write log begins failed = record {
    front = sent ++ failed.0;
    begins = begins (sent ++ failed.0) (failed.1.0, ap (λ (x : List ℕ). sent ++ x) failed.1.1 ∙ sym (append_assoc sent failed.0 failed.1.0));
    log = wrote_then_failed old now after sent failed.0 log failed.2;
  }
  write_stopped p limit bytes sent text old now after Memory log begins failed = absurd failed.2
  write_stopped p limit bytes sent text old now after Read log begins failed = absurd failed.2
  write_stopped p limit bytes sent text old now after Bound log begins failed = absurd failed.2
  write_stopped p limit bytes sent text old now after Hex log begins failed = absurd failed.2
  write_stopped p limit bytes sent text old now after (Script line) log begins failed = absurd failed.2
  write_stopped p limit bytes sent text old now after Broken log begins failed = absurd failed.2
  write_stopped p limit bytes sent text old now after Early log begins failed = absurd failed.2
  write_stopped p limit bytes sent text old now after (Peer status) log begins failed = absurd failed.2
  write_stopped p limit bytes sent text old now after Strange log begins failed = absurd failed.2
  write_stopped p limit bytes sent text old now after (Listing line reason) log begins failed = absurd failed.2

  -- what was written, before more bytes were listed
  pub memory_stopped : (p : KindSet) (limit : ℕ) (bytes front gathered piece : List ℕ) (old now : SinkLog) (frames : Frames) (lawful : Bool) → ListedSoFar IsText p limit bytes front gathered old now frames lawful
      → StoppedAs IsText text_of_end p limit (bytes ++ piece) old now Memory
  memory_stopped p limit bytes front gathered piece old now frames lawful so = record {
    front = so.sent;
    begins = begins_so_far p limit bytes piece front (so.sent ++ gathered) so.sent so.items so.so_far so.texts (gathered, refl);
    log = so.log;
  }

  -- a frame's text was not gathered, or not handed on
  pub frame_stopped : (stands : List ℕ → List Begun → Type 0) (p : KindSet) (limit : ℕ) (bytes front gathered piece : List ℕ) (used : ℕ) (old now after : SinkLog) (frames : Frames) (lawful new_lawful : Bool) (e : ToolErr)
      → ListedSoFar IsText p limit bytes front gathered old now frames lawful → IsFrame (front ++ take used piece)
      → ListsOrFails IsText stands p limit (front ++ take used piece) gathered lawful new_lawful now after (Err e) → StoppedAs IsText text_of_end p limit (bytes ++ piece) old after e
  frame_stopped stands p limit bytes front gathered piece used old now after frames lawful new_lawful e so frame lists =
      let whole : (bytes ++ take used piece) ++ drop used piece ≡ bytes ++ piece = append_assoc bytes (take used piece) (drop used piece) ∙ ap (λ (x : List ℕ). bytes ++ x) (take-append-drop used piece) in
      elim lists [
        | inl memory ↦ subst (λ (x : ToolErr). StoppedAs IsText text_of_end p limit (bytes ++ piece) old after x) (sym memory.0)
            (subst (λ (x : SinkLog). StoppedAs IsText text_of_end p limit (bytes ++ piece) old x Memory) (sym memory.1) (memory_stopped p limit bytes front gathered piece old now frames lawful so))
        | inr failed ↦ (
            let item = failed.0 in
            let all = failed.2.0 in
            let more = one_frame_more IsText p limit bytes piece front gathered all used item old now frames lawful so frame failed.1 failed.2.1 in
            write_stopped p limit (bytes ++ piece) so.sent all old now after e so.log
            (λ part is. subst (λ (x : List ℕ). BeginsTextIn IsText text_of_end p limit x part) whole (begins_so_far p limit (bytes ++ take used piece) (drop used piece) [] (so.sent ++ all) part (so.items ++ (item ∷ [])) more.0 more.1 is))
            failed.2.2)
      ]

  -- the piece ends in a frame, and handing on failed
  pub piece_stopped : (p : KindSet) (limit : ℕ) (bytes gathered piece front : List ℕ) (old now after : SinkLog) (frames : Frames) (lawful : Bool) (e : ToolErr) → ListedSoFar IsText p limit bytes front gathered old now frames lawful
      → Writes gathered now after (Err e) → StoppedAs IsText text_of_end p limit (bytes ++ piece) old after e
  piece_stopped p limit bytes gathered piece front old now after frames lawful e so failed = write_stopped p limit (bytes ++ piece) so.sent gathered old now after e so.log
      (λ part is. begins_so_far p limit bytes piece front (so.sent ++ gathered) part so.items so.so_far so.texts is)
      failed

  module _ (begins stands new_stands : List ℕ → List Begun → Type 0) (p : KindSet) (limit : ℕ) (bytes : List ℕ) (old now : SinkLog) (frames : Frames) (lawful : Bool) (end : End) (finishes : Finishes IsText begins stands p limit bytes old now frames lawful) (told : ToldEnd frames end) (gives_up : GivesUp begins stands new_stands) where
    -- the end's text was not gathered
    pub end_not_gathered : StoppedAs IsText text_of_end p limit bytes old now Memory
    end_not_gathered =
        let e = ended IsText begins stands new_stands p limit bytes old now frames lawful end finishes told gives_up in
        subst (λ (x : List ℕ). StoppedAs IsText text_of_end p limit x old now Memory) (append-nil bytes) (memory_stopped p limit bytes e.front e.gathered [] old now frames lawful e.listed)

    module _ (last_stands : List ℕ → List Begun → Type 0) (pushed : (was : List ℕ) → new_stands was [] → last_stands (was ++ text_of_end end) []) where
      -- all text was written
      pub end_listed : (after : SinkLog) (verdict : Verdict) → ((text : List ℕ) → last_stands text [] → Wrote now after text) → verdict ≡ verdict_of (lawful && is_clean end) → ListedAs IsText text_of_end p limit bytes old after verdict
      unfolding is_lawful
      end_listed after verdict written verdict_is =
          let e = ended IsText begins stands new_stands p limit bytes old now frames lawful end finishes told gives_up in
          let so = e.listed in
          let text : List ℕ = e.gathered ++ text_of_end end in
          record {
            items = so.items;
            end = end;
            text = so.sent ++ text;
            are = (items_grow limit).at_the_end bytes so.items e.front end so.so_far e.ends;
            is = record { front = so.sent ++ e.gathered; lines = so.texts; text_is = sym (append_assoc so.sent e.gathered (text_of_end end)) };
            written = wrote_more old now after so.sent text so.log (written text (pushed e.gathered e.holds));
            verdict_is = verdict_is ∙ ap (λ (b : Bool). verdict_of (b && is_clean end)) so.lawful_is;
          }

      -- a write failed
      pub end_stopped : (after : SinkLog) (error : ToolErr) → ((text : List ℕ) → last_stands text [] → Writes text now after (Err error)) → StoppedAs IsText text_of_end p limit bytes old after error
      end_stopped after error failed =
          let d = ended IsText begins stands new_stands p limit bytes old now frames lawful end finishes told gives_up in
          let so = d.listed in
          let text : List ℕ = d.gathered ++ text_of_end end in
          let items : ItemsIn p limit bytes so.items end = (items_grow limit).at_the_end bytes so.items d.front end so.so_far d.ends in
          let listing : IsStreamText IsText text_of_end so.items end (so.sent ++ text) = record { front = so.sent ++ d.gathered; lines = so.texts; text_is = sym (append_assoc so.sent d.gathered (text_of_end end)) } in
          write_stopped p limit bytes so.sent text old now after error so.log
          (λ part is others other_end whole all other.
          let same = same_items limit bytes so.items others end other_end items all in
          let text_same : so.sent ++ text ≡ whole =
          one_stream_text IsText one text_of_end so.items end (so.sent ++ text) whole listing (subst (λ (e : End). IsStreamText IsText text_of_end so.items e whole) same.1 (subst (λ (xs : List Item). IsStreamText IsText text_of_end xs other_end whole) same.0 other)) in
          (is.0, sym text_same ∙ is.1))
          (failed text (pushed d.gathered d.holds))

  -- ---- while it reads

  -- the text of each frame that is whole in what was read was written
  pub frames_written : (begins stands : List ℕ → List Begun → Type 0) (p : KindSet) (limit : ℕ) (bytes : List ℕ) (old now : SinkLog) (frames : Frames) (lawful : Bool) → GoesOn IsText begins stands p limit bytes [] old now frames lawful → WroteFramesAs IsText text_of_end p limit bytes old now
  frames_written begins stands p limit bytes old now frames lawful goes =
      let so = goes.listed in
      let texts : AreTexts IsText so.items so.sent = subst (AreTexts IsText so.items) (append-nil so.sent) so.texts in
      record {
        items = so.items;
        front = goes.front;
        text = so.sent;
        are = so.so_far;
        unfinished = comes_partial (begins []) (stands []) frames goes.front goes.comes;
        lines = texts;
        written = so.log;
        begins = subst (λ (x : List ℕ). BeginsTextIn IsText text_of_end p limit x so.sent) (append-nil bytes) (begins_so_far p limit bytes [] goes.front so.sent so.sent so.items so.so_far texts ([], sym (append-nil so.sent)));
      }

-- ---- a piece, as far as it has come

-- bytes, what was taken of a piece, and its rest
pub as_far : (bytes done rest piece : List ℕ) → piece ≡ done ++ rest → (bytes ++ done) ++ rest ≡ bytes ++ piece
as_far bytes done rest piece e = append_assoc bytes done rest ∙ ap (λ (x : List ℕ). bytes ++ x) (sym e)

-- a little more was taken of the piece
pub further : (done rest piece after : List ℕ) (used : ℕ) → piece ≡ done ++ rest → after ≡ drop used rest → piece ≡ (done ++ take used rest) ++ after
further done rest piece after used e d =
    e ∙ ap (λ (x : List ℕ). done ++ x) (sym (take-append-drop used rest)) ∙ sym (append_assoc done (take used rest) (drop used rest)) ∙ ap (λ (x : List ℕ). (done ++ take used rest) ++ x) (sym d)

-- a piece stopped listing, as a part of a longer one
pub stopped_there : (IsText : Item → List ℕ → Type 0) (text_of_end : End → List ℕ) (p : KindSet) (limit : ℕ) (bytes done rest piece : List ℕ) (old after : SinkLog) (e : ToolErr) → piece ≡ done ++ rest
    → StoppedAs IsText text_of_end p limit ((bytes ++ done) ++ rest) old after e → StoppedAs IsText text_of_end p limit (bytes ++ piece) old after e
stopped_there IsText text_of_end p limit bytes done rest piece old after e parts stopped = subst (λ (x : List ℕ). StoppedAs IsText text_of_end p limit x old after e) (as_far bytes done rest piece parts) stopped
