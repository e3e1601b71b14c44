-- How the texts of a stream that comes in pieces are gathered and handed out.
use Rattle.std.proofs.Common.{◌≡◌, ◌≤◌, inr, ℕ, Bool, true, false, List, [], ◌∷◌, ◌++◌, take, refl, sym, ap, subst, ◌∙◌, append_assoc}
use Rattle.std.specs.Prelude.{Err, Ok, OnOk, Result}
use Rattle.std.specs.List.{flat_map}
use Rattle.std.specs.declared.alloc.AllocError.{AllocError}
use Rattle.std.proofs.lemmas.List.{append-nil}
use Rattle.std.proofs.lemmas.List.Concat.{flat_map-append}
use Rattle.llrp_schema.specs.declared.kinds.KindSet.{KindSet}
use Rattle.llrp_schema.specs.declared.kinds.KindSet.TheVariants.{Standard}
use Rattle.llrp_tree.specs.declared.TheConstants.{MAX_LIMIT}
use Rattle.llrp_tree.specs.declared.fault.Fault.{Fault}
use Rattle.llrp_tree.specs.OpenTree.{Begun}
use Rattle.llrp_tree.specs.Tree.{MessageTree}
use Rattle.llrp_stream.specs.declared.item.Item.{Item}
use Rattle.llrp_stream.specs.declared.item.Item.TheVariants as of_item
use Rattle.llrp_stream.specs.declared.engine.frames.Frames.{Frames}
use Rattle.llrp_stream.specs.declared.engine.frames.Outcome.TheVariants.{Whole, Bad}
use Rattle.llrp_stream.specs.Cuts.{Breaks, IsFrame}
use Rattle.llrp_stream.specs.Calls.Frames.{ComesTo, GivesIn, IsIdle, limit_of, set_of}
use Rattle.llrp_stream.proofs.FrontLemmas.{no_frame_breaks}
use Rattle.llrp_stream.proofs.RunLemmas.{items_grow}
use Rattle.llrp_listing.specs.Calls.ItemPrinter.{HasText}
use Rattle.llrp_listing.specs.StreamListing.{AreTexts}
use Rattle.llrp_listing.proofs.EngineLemmas.{comes_idle, comes_so, tree_told}
use Rattle.llrp_listing.proofs.Zips.{zip_append}
use Rattle.llrp_json.specs.declared.printer.JsonPrinter.{JsonPrinter}
use Rattle.llrp_json.specs.declared.lister.ListerPhase.{ListerPhase}
use Rattle.llrp_json.specs.declared.lister.ListerPhase.TheVariants as phase
use Rattle.llrp_json.specs.JsonLines.{IsItemJson}
use Rattle.llrp_json.specs.Calls.PieceLines.{HasListed, IsLeft, IsListed, Listing, ListsPiece, begins_in, stands_in}
use Rattle.llrp_json.specs.Private.PieceLines.{GathersPiece, GoesOn, HandsPiece, HasBroken, HasCome, HasItem, IsOver, IsSound, Stands, TakesOutcome}

-- ---- what a printer takes of a frame

module _ (IsText : Item → List ℕ → Type 0) where
  -- a message that it received
  pub takes_whole : (stands : List ℕ → List Begun → Type 0) (ends : List ℕ → MessageTree → List ℕ → Type 0) (p : KindSet) (limit : ℕ) (frame was : List ℕ)
      → ((before : List ℕ) (m : MessageTree) (now : List ℕ) → ends before m now → (text : List ℕ) × (now ≡ before ++ text) × IsText (of_item.Msg m) text)
      → GivesIn p (stands was) (ends was) (λ now. stands now []) limit frame Whole → HasItem IsText stands p limit frame was
  takes_whole stands ends p limit frame was has_text gives =
      let t = has_text was gives.0 gives.2 gives.3 in
      (of_item.Msg gives.0, t.0, gives.1, t.2, subst (λ (x : List ℕ). stands x []) t.1 gives.4)

  -- a fault, of which the text was appended
  pub takes_fault : (s0 s1 : List ℕ → List Begun → Type 0) (ends : List ℕ → MessageTree → List ℕ → Type 0) (p : KindSet) (limit id : ℕ) (fault : Fault) (frame was : List ℕ)
      → ((before : List ℕ) → s0 before [] → (text : List ℕ) × IsText (of_item.Bad id fault) text × s1 (before ++ text) [])
      → GivesIn p (s0 was) (ends was) (λ now. s0 now []) limit frame (Bad id fault) → HasItem IsText s1 p limit frame was
  takes_fault s0 s1 ends p limit id fault frame was pushed gives =
      let k = pushed was gives.2 in
      (of_item.Bad id fault, k.0, (gives.0, gives.1), k.1, k.2)

  pub takes_bad : {E : Type 0} (s0 s1 : List ℕ → List Begun → Type 0) (ends : List ℕ → MessageTree → List ℕ → Type 0) (id : ℕ) (fault : Fault) (answer : Result (Unit {0}) E)
      → OnOk answer ((before : List ℕ) → s0 before [] → (text : List ℕ) × IsText (of_item.Bad id fault) text × s1 (before ++ text) [])
      → OnOk answer (TakesOutcome IsText s0 ends s1 (Bad id fault))
  takes_bad s0 s1 ends id fault (Ok u) pushed = λ p limit frame was gives. takes_fault s0 s1 ends p limit id fault frame was pushed gives
  takes_bad s0 s1 ends id fault (Err e) pushed = tt

  -- ---- how far a stream is listed

  -- nothing came of it but the front of a frame
  pub nothing_listed : (begins stands : List ℕ → List Begun → Type 0) (frames : Frames) (come : HasCome begins stands frames) → GoesOn IsText begins stands (set_of frames) (limit_of frames) come.0 [] frames
  nothing_listed begins stands frames come = record {
    front = come.0;
    gathered = [];
    listed = record {
      items = [];
      so_far = (items_grow (limit_of frames)).by_bytes [] [] [] come.0 (items_grow (limit_of frames)).none;
      texts = record { texts = []; each = tt; text_is = refl };
      set_is = refl;
      limit_is = refl;
    };
    comes = come.1;
  }

  -- more bytes follow
  more_bytes : (p : KindSet) (limit : ℕ) (bytes front piece text : List ℕ) (was new : Frames) → IsListed IsText p limit bytes front text was → set_of new ≡ set_of was → limit_of new ≡ limit_of was
      → IsListed IsText p limit (bytes ++ piece) (front ++ piece) text new
  more_bytes p limit bytes front piece text was new so set_is limit_is = record {
    items = so.items;
    so_far = (items_grow limit).by_bytes bytes so.items front piece so.so_far;
    texts = so.texts;
    set_is = set_is ∙ so.set_is;
    limit_is = limit_is ∙ so.limit_is;
  }

  -- a whole frame follows
  one_more : (items : List Item) (item : Item) (text more : List ℕ) → AreTexts IsText items text → IsText item more → AreTexts IsText (items ++ (item ∷ [])) (text ++ more)
  one_more items item text more are is = record {
    texts = are.texts ++ (more ∷ []);
    each = zip_append IsText items (item ∷ []) are.texts (more ∷ []) are.each (is, tt);
    text_is = ap (λ (x : List ℕ). x ++ more) are.text_is ∙ ap (λ (x : List ℕ). flat_map (λ t. t) are.texts ++ x) (sym (append-nil more)) ∙ sym (flat_map-append (λ t. t) are.texts (more ∷ []));
  }

  pub frame_gathered : (begins stands : List ℕ → List Begun → Type 0) (p : KindSet) (limit : ℕ) (bytes front gathered sent piece : List ℕ) (used : ℕ) (was new : Frames)
      → IsListed IsText p limit bytes front (sent ++ gathered) was → IsFrame (front ++ take used piece) → IsIdle new → set_of new ≡ set_of was → limit_of new ≡ limit_of was
      → HasItem IsText stands p limit (front ++ take used piece) gathered → GoesOn IsText begins stands p limit (bytes ++ take used piece) sent new
  frame_gathered begins stands p limit bytes front gathered sent piece used was new so frame idle set_is limit_is has =
      let grow = items_grow limit in
      let item = has.0 in
      let text = has.1 in
      record {
        front = [];
        gathered = gathered ++ text;
        listed = record {
          items = so.items ++ (item ∷ []);
          so_far = grow.by_a_frame (bytes ++ take used piece) so.items (front ++ take used piece) item (grow.by_bytes bytes so.items front (take used piece) so.so_far) frame has.2;
          texts = subst (AreTexts IsText (so.items ++ (item ∷ []))) (append_assoc sent gathered text) (one_more so.items item (sent ++ gathered) text so.texts has.3);
          set_is = set_is ∙ so.set_is;
          limit_is = limit_is ∙ so.limit_is;
        };
        comes = comes_idle (begins (gathered ++ text)) (stands (gathered ++ text)) new idle has.4;
      }

  -- the piece ends in a frame
  pub piece_gathered : (begins stands new_begins new_stands : List ℕ → List Begun → Type 0) (p : KindSet) (limit : ℕ) (bytes sent piece : List ℕ) (was new : Frames) (goes : GoesOn IsText begins stands p limit bytes sent was)
      → ComesTo (new_begins goes.gathered) (new_stands goes.gathered) new (goes.front ++ piece) → set_of new ≡ set_of was → limit_of new ≡ limit_of was → GoesOn IsText new_begins new_stands p limit (bytes ++ piece) sent new
  piece_gathered begins stands new_begins new_stands p limit bytes sent piece was new goes comes set_is limit_is = record {
    front = goes.front ++ piece;
    gathered = goes.gathered;
    listed = more_bytes p limit bytes goes.front piece (sent ++ goes.gathered) was new goes.listed set_is limit_is;
    comes = comes;
  }

  -- the stream breaks in the piece
  pub piece_breaks : (begins stands new_stands : List ℕ → List Begun → Type 0) (p : KindSet) (limit : ℕ) (bytes sent piece : List ℕ) (was new : Frames) (goes : GoesOn IsText begins stands p limit bytes sent was)
      → Breaks (goes.front ++ piece) → new_stands goes.gathered [] → set_of new ≡ set_of was → limit_of new ≡ limit_of was → IsOver IsText new_stands p limit (bytes ++ piece) sent new
  piece_breaks begins stands new_stands p limit bytes sent piece was new goes breaks holds set_is limit_is = record {
    front = goes.front ++ piece;
    gathered = goes.gathered;
    listed = more_bytes p limit bytes goes.front piece (sent ++ goes.gathered) was new goes.listed set_is limit_is;
    breaks = breaks;
    holds = holds;
  }

  -- ---- what is handed out

  -- the printer has the text of whole items
  pub goes_held : (begins stands : List ℕ → List Begun → Type 0) (p : KindSet) (limit : ℕ) (bytes sent : List ℕ) (frames : Frames) (goes : GoesOn IsText begins stands p limit bytes sent frames) → HasText begins stands goes.gathered
  goes_held begins stands p limit bytes sent frames goes = tree_told (begins goes.gathered) (stands goes.gathered) frames goes.front goes.comes

  pub over_held : (begins stands : List ℕ → List Begun → Type 0) (p : KindSet) (limit : ℕ) (bytes sent : List ℕ) (frames : Frames) (over : IsOver IsText stands p limit bytes sent frames) → HasText begins stands over.gathered
  over_held begins stands p limit bytes sent frames over = ([], inr over.holds)

  pub stands_goes : (begins stands : List ℕ → List Begun → Type 0) (p : KindSet) (limit : ℕ) (bytes sent : List ℕ) (frames : Frames) → Stands IsText begins stands p limit bytes sent frames → GoesOn IsText begins stands p limit bytes sent frames
  stands_goes begins stands p limit bytes sent frames s =
      let so = s.listed in
      record {
        front = s.front;
        gathered = [];
        listed = record { items = so.items; so_far = so.so_far; texts = subst (AreTexts IsText so.items) (sym (append-nil sent)) so.texts; set_is = so.set_is; limit_is = so.limit_is };
        comes = s.comes;
      }

  pub goes_handed : (begins stands new_begins new_stands : List ℕ → List Begun → Type 0) (p : KindSet) (limit : ℕ) (bytes sent t0 t1 : List ℕ) (frames : Frames) → (goes : GoesOn IsText begins stands p limit bytes sent frames)
      → ((was : List ℕ) → HasText begins stands was → t1 ≡ t0 ++ was) → ((was : List ℕ) (t : List Begun) → begins was t → new_begins [] t) → ((was : List ℕ) (t : List Begun) → stands was t → new_stands [] t)
      → (more : List ℕ) × (t1 ≡ t0 ++ more) × Stands IsText new_begins new_stands p limit bytes (sent ++ more) frames
  goes_handed begins stands new_begins new_stands p limit bytes sent t0 t1 frames goes text moved_begins moved_stands = (
    goes.gathered,
    text goes.gathered (goes_held begins stands p limit bytes sent frames goes),
    record {
      front = goes.front;
      listed = goes.listed;
      comes = comes_so (begins goes.gathered) (stands goes.gathered) (new_begins []) (new_stands []) (moved_begins goes.gathered) (moved_stands goes.gathered) frames goes.front goes.comes;
    },
  )

  pub over_handed : (begins stands : List ℕ → List Begun → Type 0) (p : KindSet) (limit : ℕ) (bytes sent t0 t1 : List ℕ) (frames : Frames) → (over : IsOver IsText stands p limit bytes sent frames)
      → ((was : List ℕ) → HasText begins stands was → t1 ≡ t0 ++ was) → (more : List ℕ) × (t1 ≡ t0 ++ more) × HasBroken IsText p limit bytes (sent ++ more) frames
  over_handed begins stands p limit bytes sent t0 t1 frames over text =
      (over.gathered, text over.gathered (over_held begins stands p limit bytes sent frames over), record { front = over.front; listed = over.listed; breaks = over.breaks })

  -- ---- a piece

  module _ (b0 s0 b1 s1 : List ℕ → List Begun → Type 0) (piece : List ℕ) (old new : Frames) where
    -- the printer has the text of whole items
    pub piece_held : (goes_on : Bool) → HasCome b0 s0 old → GathersPiece {E = AllocError} IsText b0 s0 b1 s1 piece old new (Ok goes_on) → (was : List ℕ) × HasText b1 s1 was
    piece_held true come gathers =
        let g = gathers (set_of old) (limit_of old) come.0 [] (nothing_listed b0 s0 old come) in
        (g.gathered, goes_held b1 s1 (set_of old) (limit_of old) (come.0 ++ piece) [] new g)
    piece_held false come gathers =
        let g = gathers (set_of old) (limit_of old) come.0 [] (nothing_listed b0 s0 old come) in
        (g.gathered, over_held b1 s1 (set_of old) (limit_of old) (come.0 ++ piece) [] new g)

    -- which was handed out
    pub piece_handed : (b2 s2 : List ℕ → List Begun → Type 0) (t0 t1 : List ℕ) (goes_on : Bool) → GathersPiece {E = AllocError} IsText b0 s0 b1 s1 piece old new (Ok goes_on)
        → ((was : List ℕ) → HasText b1 s1 was → t1 ≡ t0 ++ was) → ((was : List ℕ) (t : List Begun) → b1 was t → b2 [] t) → ((was : List ℕ) (t : List Begun) → s1 was t → s2 [] t)
        → HandsPiece {E = AllocError} IsText b0 s0 b2 s2 piece old new t0 t1 (Ok goes_on)
    piece_handed b2 s2 t0 t1 true gathers text moved_begins moved_stands = λ p limit bytes sent s.
        goes_handed b1 s1 b2 s2 p limit (bytes ++ piece) sent t0 t1 new (gathers p limit bytes sent (stands_goes b0 s0 p limit bytes sent old s)) text moved_begins moved_stands
    piece_handed b2 s2 t0 t1 false gathers text moved_begins moved_stands = λ p limit bytes sent s.
        over_handed b1 s1 p limit (bytes ++ piece) sent t0 t1 new (gathers p limit bytes sent (stands_goes b0 s0 p limit bytes sent old s)) text

-- ---- a lister

-- what one that is open has listed
opens : (limit : ℕ) (bytes text : List ℕ) (l : Listing) → l.phase ≡ phase.Open → HasListed limit bytes text l → Stands IsItemJson (begins_in l.printer) (stands_in l.printer) Standard limit bytes text l.frames
opens limit bytes text l open_is h = record { front = h.front; listed = h.listed; comes = subst (λ (ph : ListerPhase). IsLeft ph l.frames l.printer h.front) open_is h.left }

-- a piece after which it goes on
pub lists_on : (old : Listing) (frames : Frames) (printer : JsonPrinter) (next : ListerPhase) (piece t0 t1 : List ℕ) (goes_on : Bool) → old.phase ≡ phase.Open → next ≡ phase.Open → goes_on ≡ true
    → HandsPiece {E = AllocError} IsItemJson (begins_in old.printer) (stands_in old.printer) (begins_in printer) (stands_in printer) piece old.frames frames t0 t1 (Ok goes_on)
    → ListsPiece piece old (record { frames = frames; printer = printer; phase = next }) t0 t1
lists_on old frames printer next piece t0 t1 true open_is next_is goes hands limit bytes text had =
    let h = hands Standard limit bytes text (opens limit bytes text old open_is had) in
    (h.0, h.1, record { front = h.2.front; listed = h.2.listed; left = subst (λ (ph : ListerPhase). IsLeft ph frames printer h.2.front) (sym next_is) h.2.comes })
lists_on old frames printer next piece t0 t1 false open_is next_is goes hands limit bytes text had = absurd (cc)

-- one in which the stream breaks
pub lists_last : (old : Listing) (frames : Frames) (printer : JsonPrinter) (piece t0 t1 : List ℕ) (goes_on : Bool) → old.phase ≡ phase.Open → goes_on ≡ false
    → HandsPiece {E = AllocError} IsItemJson (begins_in old.printer) (stands_in old.printer) (begins_in printer) (stands_in printer) piece old.frames frames t0 t1 (Ok goes_on)
    → ListsPiece piece old (record { frames = frames; printer = printer; phase = phase.Broken }) t0 t1
lists_last old frames printer piece t0 t1 true open_is goes hands limit bytes text had = absurd (cc)
lists_last old frames printer piece t0 t1 false open_is goes hands limit bytes text had =
    let h = hands Standard limit bytes text (opens limit bytes text old open_is had) in
    (h.0, h.1, record { front = h.2.front; listed = h.2.listed; left = h.2.breaks })

-- a broken stream stays so
pub lists_no_more : (l : Listing) (piece t : List ℕ) → l.phase ≡ phase.Broken → ListsPiece piece l l t t
lists_no_more l piece t broken_is limit bytes text had =
    let so = had.listed in
    let breaks = subst (λ (ph : ListerPhase). IsLeft ph l.frames l.printer had.front) broken_is had.left in (
      [],
      sym (append-nil t),
      record {
        front = had.front ++ piece;
        listed = subst (λ (x : List ℕ). IsListed IsItemJson Standard limit (bytes ++ piece) (had.front ++ piece) x l.frames) (sym (append-nil text))
            (record { items = so.items; so_far = (items_grow limit).by_bytes bytes so.items had.front piece so.so_far; texts = so.texts; set_is = so.set_is; limit_is = so.limit_is });
        left = subst (λ (ph : ListerPhase). IsLeft ph l.frames l.printer (had.front ++ piece)) (sym broken_is) (no_frame_breaks had.front piece breaks);
      },
    )

-- and it is sound
pub sound_on : (f0 f1 : Frames) (p0 p1 : JsonPrinter) (ph : ListerPhase) (piece t0 t1 : List ℕ) (goes_on : Bool) → IsSound f0 p0 ph → ph ≡ phase.Open → goes_on ≡ true → limit_of f1 ≡ limit_of f0
    → HandsPiece {E = AllocError} IsItemJson (begins_in p0) (stands_in p0) (begins_in p1) (stands_in p1) piece f0 f1 t0 t1 (Ok goes_on) → IsSound f1 p1 ph
unfolding nothing_listed
sound_on f0 f1 p0 p1 ph piece t0 t1 true s open_is goes same hands =
    let come = s.comes open_is in
    let none = nothing_listed IsItemJson (begins_in p0) (stands_in p0) f0 come in
    let h = hands (set_of f0) (limit_of f0) come.0 [] (record { front = come.0; listed = none.listed; comes = come.1 }) in
    record { least = subst (λ (n : ℕ). 10 ≤ n) (sym same) s.least; most = subst (λ (n : ℕ). n ≤ MAX_LIMIT) (sym same) s.most; comes = λ o. (h.2.front, h.2.comes) }
sound_on f0 f1 p0 p1 ph piece t0 t1 false s open_is goes same hands = absurd (cc)
