-- What the steps of a stretch do.
use Rattle.std.proofs.Common.{◌≡◌, inl, inr, ℕ, ◌<◌, ◌≤◌, ◌&&◌, Bool, true, false, List, [], ◌∷◌, ◌++◌, length, take, drop, arith, Option, Some, None, Ok, Err, refl, sym, ap, subst, ◌∙◌, append_assoc}
use Rattle.std.specs.List.{flat_map}
use Rattle.std.proofs.lemmas.List.{append-nil, length-take-le, take-append-drop}
use Rattle.llrp_schema.specs.declared.kinds.KindSet.{KindSet}
use Rattle.llrp_tree.specs.Tree.{MessageTree}
use Rattle.llrp_tree.specs.declared.fault.Fault.{Fault}
use Rattle.llrp_stream.specs.declared.item.Item.{Item}
use Rattle.llrp_stream.specs.declared.item.Item.TheVariants.{Msg, Bad}
use Rattle.llrp_stream.specs.declared.item.End.{End}
use Rattle.llrp_stream.specs.declared.item.End.TheVariants as at_end
use Rattle.llrp_stream.specs.declared.item.Fed.{Fed}
use Rattle.llrp_stream.specs.declared.item.FeedErr.TheVariants.{Broken}
use Rattle.llrp_stream.specs.Calls.Decoding.{StandsIn}
use Rattle.llrp_stream.specs.Calls.Lengths.{IsLength}
use Rattle.llrp_stream.specs.Cuts.{Breaks, IsFrame, IsPartial, length_field}
use Rattle.llrp_stream.specs.Decoding.{DecoderState}
use Rattle.llrp_stream.specs.Feeding.{FeedsIn, TakesIn}
use Rattle.llrp_stream.specs.Items.{FrameIn, IsItemIn}
use Rattle.llrp_stream.proofs.FrontLemmas.{length_field-append}
use Rattle.llrp_listing.specs.declared.outcome.Verdict.{Verdict}
use Rattle.llrp_listing.specs.Show.{verdict_of}
use Rattle.llrp_listing.specs.StreamListing.{is_message}
use Rattle.llrp_sides.specs.declared.form.Form.{Form}
use Rattle.llrp_sides.specs.declared.stamp.Stamp.{Stamp}
use Rattle.llrp_sides.specs.declared.stretch.Stretch.{Stretch}
use Rattle.llrp_sides.specs.Calls.Blocks.{IsShown, end_shown, stamped}
use Rattle.llrp_sides.specs.Calls.Stretches.{Holds, HoldsIn}
use Rattle.llrp_sides.specs.Calls.Verdicts.{says_lawful}
use Rattle.llrp_sides.specs.Private.Forms.{HasListing}
use Rattle.llrp_sides.specs.Private.Stretches.{BreaksOff, EndsAs, LeavesRest, ListsFault, ListsFrame, Passes, PassesTo, TakesFront}
use Rattle.llrp_sides.proofs.StretchLemmas.{shows_frame}

-- ---- what is listed

says : (b : Bool) → says_lawful (verdict_of b) ≡ b
says true = refl
says false = refl

pub frame_listed : (stamp : Stamp) (frame listing : List ℕ) (verdict : Verdict) (old new : Stretch) (t0 t1 : List ℕ) → IsFrame frame → HasListing old.form frame listing verdict
    → new ≡ record old { is_lawful = new.is_lawful } → new.is_lawful ≡ (old.is_lawful && says_lawful verdict) → t1 ≡ t0 ++ stamped old.form.json stamp listing → ListsFrame stamp frame old new t0 t1
frame_listed stamp frame listing verdict old new t0 t1 is h same lawful text =
    let s = shows_frame old.form frame listing verdict is h in
    record {
      item = s.item;
      block = listing;
      is_item = s.is_item;
      is_block = s.is_text;
      text = text;
      lawful = lawful ∙ ap (λ (v : Verdict). old.is_lawful && says_lawful v) s.verdict_is ∙ ap (λ (b : Bool). old.is_lawful && b) (says (is_message s.item));
      same = same;
    }

pub fault_listed : (stamp : Stamp) (id : ℕ) (fault : Fault) (old new : Stretch) (json : Bool) (block t0 t1 : List ℕ) → old.form.json ≡ json → new ≡ record old { is_lawful = false }
    → IsShown json (Bad id fault) block → t1 ≡ t0 ++ stamped old.form.json stamp block → ListsFault stamp id fault old new t0 t1
fault_listed stamp id fault old new json block t0 t1 is same shown text = record {
  block = block;
  is_block = subst (λ (x : Bool). IsShown x (Bad id fault) block) (sym is) shown;
  text = text;
  same = same;
}

pub end_listed : (stamp : Stamp) (end : End) (s : Stretch) (json : Bool) (t0 t1 : List ℕ) → s.form.json ≡ json → t1 ≡ t0 ++ stamped s.form.json stamp (end_shown json end) → EndsAs stamp end s t0 t1
end_listed stamp end s json t0 t1 is text = subst (λ (x : Bool). t1 ≡ t0 ++ stamped s.form.json stamp (end_shown x end)) (sym is) text

none_lawful : (b : Bool) → false ≡ (b && false)
none_lawful true = refl
none_lawful false = refl

fault_frame : (stamp : Stamp) (frame : List ℕ) (id : ℕ) (fault : Fault) (old new : Stretch) (t0 t1 : List ℕ) → IsItemIn old.form.set old.form.limit frame (Bad id fault) → ListsFault stamp id fault old new t0 t1 → ListsFrame stamp frame old new t0 t1
fault_frame stamp frame id fault old new t0 t1 is f =
    let lawful : new.is_lawful ≡ false = ap (λ (x : Stretch). x.is_lawful) f.same in
    record {
      item = Bad id fault;
      block = f.block;
      is_item = is;
      is_block = f.is_block;
      text = f.text;
      lawful = lawful ∙ none_lawful old.is_lawful;
      same = f.same ∙ ap (λ (b : Bool). record old { is_lawful = b }) (sym lawful);
    }

-- ---- a frame that is longer than a message may be

-- no message is so long
no_message : (p : KindSet) (limit : ℕ) (whole frame later : List ℕ) (m : MessageTree) → whole ≡ frame ++ later → IsFrame frame → FrameIn p m frame limit → limit < length_field whole → ⊥
no_message p limit whole frame later m cut is f above =
    let same : length_field whole ≡ length_field frame = ap length_field cut ∙ length_field-append frame later (omega arith) in
    let short : length frame ≤ limit = f.frame.short in
    let octets : length_field frame ≡ length frame = is.whole in
    omega arith

cut_at : (front octets : List ℕ) (used : ℕ) → front ++ octets ≡ (front ++ take used octets) ++ drop used octets
cut_at front octets used = ap (λ (x : List ℕ). front ++ x) (sym (take-append-drop used octets)) ∙ sym (append_assoc front (take used octets) (drop used octets))

pub passes_on : (stamp : Stamp) (decoder mid : DecoderState) (octets : List ℕ) (fed : Fed) (old new : Stretch) (t0 t1 : List ℕ) → fed.item ≡ None → mid.limit ≡ decoder.limit
    → ((p : KindSet) (front : List ℕ) → StandsIn p decoder front → FeedsIn p decoder front octets mid (Ok fed)) → new ≡ record old { long = Some mid } → t1 ≡ t0 → Passes stamp decoder octets None old new t0 t1
passes_on stamp decoder mid octets fed old new t0 t1 none within feeds same text = λ front stands limit six above.
    let took : TakesIn old.form.set decoder.limit front octets mid fed.used None = subst (λ (o : Option Item). TakesIn old.form.set decoder.limit front octets mid fed.used o) none (feeds old.form.set front stands) in
    (mid, same, took.1, within ∙ limit, text)

pub passes_fault : (stamp : Stamp) (decoder mid : DecoderState) (octets : List ℕ) (fed : Fed) (id : ℕ) (fault : Fault) (old new : Stretch) (t0 t1 : List ℕ) → fed.item ≡ Some (Bad id fault)
    → ((p : KindSet) (front : List ℕ) → StandsIn p decoder front → FeedsIn p decoder front octets mid (Ok fed)) → ListsFault stamp id fault old new t0 t1 → Passes stamp decoder octets (Some fed.used) old new t0 t1
passes_fault stamp decoder mid octets fed id fault old new t0 t1 is feeds f = λ front stands limit six above.
    let took : TakesIn old.form.set decoder.limit front octets mid fed.used (Some (Bad id fault)) = subst (λ (o : Option Item). TakesIn old.form.set decoder.limit front octets mid fed.used o) is (feeds old.form.set front stands) in
    let item : IsItemIn old.form.set old.form.limit (front ++ take fed.used octets) (Bad id fault) = subst (λ (n : ℕ). IsItemIn old.form.set n (front ++ take fed.used octets) (Bad id fault)) limit took.2 in
    (took.1, fault_frame stamp (front ++ take fed.used octets) id fault old new t0 t1 item f)

pub passes_message : (stamp : Stamp) (decoder mid : DecoderState) (octets : List ℕ) (fed : Fed) (m : MessageTree) (old new : Stretch) (t0 t1 : List ℕ) → fed.item ≡ Some (Msg m)
    → ((p : KindSet) (front : List ℕ) → StandsIn p decoder front → FeedsIn p decoder front octets mid (Ok fed)) → Passes stamp decoder octets (Some fed.used) old new t0 t1
passes_message stamp decoder mid octets fed m old new t0 t1 is feeds = λ front stands limit six above.
    let took : TakesIn old.form.set decoder.limit front octets mid fed.used (Some (Msg m)) = subst (λ (o : Option Item). TakesIn old.form.set decoder.limit front octets mid fed.used o) is (feeds old.form.set front stands) in
    let item : FrameIn old.form.set m (front ++ take fed.used octets) old.form.limit = subst (λ (n : ℕ). FrameIn old.form.set m (front ++ take fed.used octets) n) limit took.2 in
    absurd (no_message old.form.set old.form.limit (front ++ octets) (front ++ take fed.used octets) (drop fed.used octets) m (cut_at front octets fed.used) took.1 item above)

pub passes_break : (stamp : Stamp) (decoder mid : DecoderState) (octets : List ℕ) (old new : Stretch) (t0 t1 : List ℕ) → 10 ≤ old.form.limit
    → ((p : KindSet) (front : List ℕ) → StandsIn p decoder front → FeedsIn p decoder front octets mid (Err Broken)) → Passes stamp decoder octets None old new t0 t1
passes_break stamp decoder mid octets old new t0 t1 least feeds = λ front stands limit six above.
    let breaks : Breaks (front ++ octets) = (feeds old.form.set front stands).0 in
    let below : length_field (front ++ octets) < 10 = breaks.1 in
    absurd (omega arith)

-- ---- what stands first

pub is_first : (octets : List ℕ) (count : ℕ) → IsLength octets count → count ≤ length octets → IsFrame (take count octets)
is_first octets count is few =
    let many : length (take count octets) ≡ count = length-take-le count octets few in
    let ten : 10 ≤ count = is.ten in
    let said : count ≡ length_field octets = is.octets_are in
    let same : length_field octets ≡ length_field (take count octets) = ap length_field (sym (take-append-drop count octets)) ∙ length_field-append (take count octets) (drop count octets) (omega arith) in
    record { header = omega arith; whole = sym same ∙ sym said ∙ sym many }

pub leaves_held : (stamp : Stamp) (octets : List ℕ) (old new : Stretch) (t0 t1 : List ℕ) → IsPartial octets → new.form ≡ old.form → new.is_lawful ≡ old.is_lawful → new.is_broken ≡ old.is_broken → new.long ≡ old.long → new.held.items ≡ octets → t1 ≡ t0
    → TakesFront stamp octets None old new t0 t1
leaves_held stamp octets old new t0 t1 partial form lawful broken long held text = λ none whole.
    let holds : HoldsIn new.form None new.held.items octets = (sym held, partial) in
    record {
      last = [];
      text = text ∙ sym (append-nil t0);
      lawful = lawful;
      form = form;
      rests = inl (broken ∙ whole, subst (λ (o : Option DecoderState). HoldsIn new.form o new.held.items octets) (sym (long ∙ none)) holds, refl);
    }

pub leaves_broken : (stamp : Stamp) (octets : List ℕ) (old new : Stretch) (t0 t1 : List ℕ) → Breaks octets → BreaksOff stamp old new t0 t1 → TakesFront stamp octets None old new t0 t1
leaves_broken stamp octets old new t0 t1 breaks b = λ none whole.
    let form : new.form ≡ old.form = ap (λ (x : Stretch). x.form) b.0 in
    record {
      last = end_shown new.form.json at_end.Broken ∷ [];
      text = b.1 ∙ ap (λ (x : Form). t0 ++ stamped old.form.json stamp (end_shown x.json at_end.Broken)) (sym form) ∙ ap (λ (x : List ℕ). t0 ++ x) (sym (append-nil (stamped old.form.json stamp (end_shown new.form.json at_end.Broken))));
      lawful = ap (λ (x : Stretch). x.is_lawful) b.0;
      form = form;
      rests = inr (ap (λ (x : Stretch). x.is_broken) b.0, breaks, refl);
    }

leaves_long : (stamp : Stamp) (octets : List ℕ) (old new : Stretch) (t0 t1 : List ℕ) → 6 ≤ length octets → old.form.limit < length_field octets → PassesTo stamp [] octets None old new t0 t1 → TakesFront stamp octets None old new t0 t1
leaves_long stamp octets old new t0 t1 six above p = λ none whole.
    let same = p.1 in
    record {
      last = [];
      text = p.4 ∙ sym (append-nil t0);
      lawful = ap (λ (x : Stretch). x.is_lawful) same;
      form = ap (λ (x : Stretch). x.form) same;
      rests = inl (ap (λ (x : Stretch). x.is_broken) same ∙ whole, subst (λ (x : Stretch). Holds x octets) (sym same) (p.2, p.3, six, above), refl);
    }

pub takes_long : (stamp : Stamp) (decoder : DecoderState) (octets : List ℕ) (used : Option ℕ) (old new : Stretch) (t0 t1 : List ℕ) → IsLength octets (length_field octets) → old.form.limit < length_field octets
    → StandsIn old.form.set decoder [] → decoder.limit ≡ old.form.limit → Passes stamp decoder octets used old new t0 t1 → TakesFront stamp octets used old new t0 t1
takes_long stamp decoder octets None old new t0 t1 is above stands limit passes = leaves_long stamp octets old new t0 t1 is.six above (passes [] stands limit is.six above)
takes_long stamp decoder octets (Some used) old new t0 t1 is above stands limit passes = passes [] stands limit is.six above
