-- What the items of a piece make of a client that follows a plan.
use Rattle.std.proofs.Common.{◌≡◌, ℕ, ◌==◌, Bool, true, false, List, [], ◌∷◌, ◌++◌, length, take, drop, refl, sym, ap, subst, ◌∙◌, append_assoc, Err, Ok, arith}
use Rattle.std.specs.Prelude.{Result, Some, None}
use Rattle.std.proofs.lemmas.Bool.{ne_eqb}
use Rattle.std.proofs.lemmas.List.{append-nil, take-append-drop}
use Rattle.llrp_tree.specs.Tree.{Tree}
use Rattle.llrp_stream.specs.declared.item.Item.{Item}
use Rattle.llrp_stream.specs.Cuts.{Breaks}
use Rattle.llrp_stream.specs.Decoding.{DecoderState}
use Rattle.llrp_stream.specs.Calls.Decoding.{StandsIn}
use Rattle.llrp_stream.specs.declared.item.FeedErr.{FeedErr}
use Rattle.llrp_stream.specs.declared.item.FeedErr.TheVariants as decoder
use Rattle.llrp_stream.specs.Feeding.{FeedsIn, TakesIn}
use Rattle.llrp_stream.proofs.RunLemmas.{items_grow}
use Rattle.llrp_endpoints.specs.declared.hearing.Hearing.{Hearing}
use Rattle.llrp_endpoints.specs.Asides.{all_said}
use Rattle.llrp_listing.specs.declared.outcome.ToolErr.{ToolErr}
use Rattle.llrp_listing.specs.declared.outcome.ToolErr.TheVariants.{Listing, Script, Hex, Read, Write, Bound, Broken, Memory, Peer, Strange, Early}
use Rattle.llrp_endpoints.specs.declared.gathering.Gathering.{Gathering}
use Rattle.llrp_endpoints.specs.declared.course.Phase.{Phase}
use Rattle.llrp_endpoints.specs.Gathering.{Beginning, Course, follow, GathersFrom, taken}
use Rattle.llrp_listing.specs.Calls.Fault.{error_by}
use Rattle.llrp_endpoints.specs.Calls.GatheringStands.{Holds, StandsFrom, Stops, FailsFrom, FeedsFrom, further}
use Rattle.llrp_endpoints.specs.Private.GatheringStands.{Does}
use Rattle.llrp_endpoints.proofs.OddLemmas.{taken_then, takes_none}
use Rattle.llrp_endpoints.proofs.GatheringLemmas.{open_text, some_all, still, moves_on, stops_after}

-- ---- items

pub gathers_more : (b : Beginning) (bytes rest more : List ℕ) (c : Course) → GathersFrom b bytes rest c → GathersFrom b (bytes ++ more) (rest ++ more) c
gathers_more b bytes rest more c p = record { items = p.items; are = (items_grow b.limit).by_bytes bytes p.items rest more p.are; course_is = p.course_is }

-- one more item
gathers_item : (b : Beginning) (bytes rest piece : List ℕ) (c : Course) (g : Gathering) (new : DecoderState) (used : ℕ) (item : Item) → StandsFrom b bytes rest c g → TakesIn b.hearing.set b.limit rest piece new used (Some item)
    → GathersFrom b (bytes ++ take used piece) [] (follow (taken b.hearing (item ∷ []) c) c)
gathers_item b bytes rest piece c g new used item s t =
    let so = s.gathers in
    let grow = items_grow b.limit in
    record {
      items = so.items ++ item ∷ [];
      are = grow.by_a_frame (bytes ++ take used piece) so.items (rest ++ take used piece) item (grow.by_bytes bytes so.items rest (take used piece) so.are) t.1 t.2;
      course_is = taken_then b.hearing so.items (item ∷ []) b.course c so.course_is;
    }

-- a course begins anew with what follows the frames so far
pub gathers_anew : (b : Beginning) (rest : List ℕ) (c : Course) → GathersFrom (further b c) rest rest c
gathers_anew b rest c =
    let grow = items_grow b.limit in
    record { items = []; are = grow.by_bytes [] [] [] rest grow.none; course_is = sym (ap (λ (is : List Item). follow is c) (takes_none b.hearing c)) }

-- ---- pieces

pub went_nowhere : (b : Beginning) (bytes rest : List ℕ) (c : Course) (g : Gathering) (o r : List ℕ) → StandsFrom b bytes rest c g → FeedsFrom b (bytes ++ []) c g o o r r (Ok false)
went_nowhere b bytes rest c g o r s =
    subst (λ (x : List ℕ). FeedsFrom b x c g o o r r (Ok false)) (sym (append-nil bytes)) (rest, c, s, still c c o r refl refl refl refl (open_text c.form c.phase c.reports s.open_is))

-- no frame ends in what is left of the piece
pub piece_kept : (b : Beginning) (bytes piece : List ℕ) (c : Course) (g : Gathering) (new : DecoderState) (used : ℕ) (o0 o1 r0 r1 : List ℕ) (w : FeedsFrom b bytes c g o0 o1 r0 r1 (Ok false))
    → new.limit ≡ g.decoder.limit → TakesIn b.hearing.set g.decoder.limit w.0 piece new used None → FeedsFrom b (bytes ++ piece) c (record g { decoder = new }) o0 o1 r0 r1 (Ok false)
piece_kept b bytes piece c g new used o0 o1 r0 r1 w l t =
    let s = w.2 in (
      w.0 ++ piece,
      w.1,
      record {
        gathers = gathers_more b bytes w.0 piece w.1 s.gathers;
        open_is = s.open_is;
        holds = record { client_is = s.holds.client_is; form_is = s.holds.form_is; asides_are = s.holds.asides_are; left_is = s.holds.left_is; awaits_is = s.holds.awaits_is; counts = s.holds.counts };
        decoder = t.1;
        limit_is = l ∙ s.limit_is;
        hearing_is = s.hearing_is;
      },
      w.3,
    )

-- the stream breaks off
pub piece_breaks : (b : Beginning) (bytes piece : List ℕ) (c : Course) (g : Gathering) (o0 o1 r0 r1 : List ℕ) (w : FeedsFrom b bytes c g o0 o1 r0 r1 (Ok false)) → Breaks (w.0 ++ piece)
    → FailsFrom b (bytes ++ piece) c o0 o1 r0 r1 Broken
piece_breaks b bytes piece c g o0 o1 r0 r1 w broken = (w.0 ++ piece, w.1, gathers_more b bytes w.0 piece w.1 w.2.gathers, w.2.open_is, broken, w.3)

-- memory ran out in the decoder
pub piece_lost : (b : Beginning) (bytes piece : List ℕ) (c : Course) (g : Gathering) (o0 o1 r0 r1 : List ℕ) → FeedsFrom b bytes c g o0 o1 r0 r1 (Ok false) → FailsFrom b (bytes ++ piece) c o0 o1 r0 r1 Memory
piece_lost b bytes piece c g o0 o1 r0 r1 w =
    let m = w.3 in (
      w.0 ++ piece,
      w.1,
      gathers_more b bytes w.0 piece w.1 w.2.gathers,
      record {
        messages = m.messages;
        reports = m.reports;
        later = [];
        lines = m.lines;
        sent_are = m.sent_are;
        reports_are = m.reports_are ∙ ap (λ (x : List (List Tree)). c.reports ++ x) (sym (append-nil m.reports));
        form_is = m.form_is;
        asides_are = m.asides_are;
        frames = some_all (all_said c.asides m.messages) o0 o1 m.frames;
        are = m.are;
        printed = m.printed ∙ ap (λ (x : List ℕ). r0 ++ (m.lines ++ x)) (open_text c.form w.1.phase w.1.reports w.2.open_is) ∙ ap (λ (x : List ℕ). r0 ++ x) (append-nil m.lines);
      },
    )

-- what stopped it
fails_by : (b : Beginning) (bytes rest : List ℕ) (c d : Course) (o0 o1 r0 r1 : List ℕ) (error : ToolErr) → GathersFrom b bytes rest d → Stops c d o0 o1 r0 r1 error → FailsFrom b bytes c o0 o1 r0 r1 error
fails_by b bytes rest c d o0 o1 r0 r1 Memory p s = (rest, d, p, s)
fails_by b bytes rest c d o0 o1 r0 r1 (Peer status) p s = (rest, d, p, s)
fails_by b bytes rest c d o0 o1 r0 r1 Strange p s = (rest, d, p, s)
fails_by b bytes rest c d o0 o1 r0 r1 Early p s = (rest, d, p, s)
fails_by b bytes rest c d o0 o1 r0 r1 Broken p s = absurd s
fails_by b bytes rest c d o0 o1 r0 r1 (Listing line reason) p s = absurd s
fails_by b bytes rest c d o0 o1 r0 r1 (Script line) p s = absurd s
fails_by b bytes rest c d o0 o1 r0 r1 Hex p s = absurd s
fails_by b bytes rest c d o0 o1 r0 r1 Read p s = absurd s
fails_by b bytes rest c d o0 o1 r0 r1 Write p s = absurd s
fails_by b bytes rest c d o0 o1 r0 r1 Bound p s = absurd s

behind_item : (bytes piece : List ℕ) (used : ℕ) → (bytes ++ take used piece) ++ drop used piece ≡ bytes ++ piece
behind_item bytes piece used = append_assoc bytes (take used piece) (drop used piece) ∙ ap (λ (x : List ℕ). bytes ++ x) (take-append-drop used piece)

-- an item ends it with an error
pub item_fails : (b : Beginning) (bytes piece : List ℕ) (c : Course) (g : Gathering) (new : DecoderState) (used : ℕ) (item : Item) (error : ToolErr) (o0 o1 o2 r0 r1 r2 : List ℕ) (w : FeedsFrom b bytes c g o0 o1 r0 r1 (Ok false))
    → TakesIn b.hearing.set g.decoder.limit w.0 piece new used (Some item) → Stops w.1 (follow (taken g.hearing (item ∷ []) w.1) w.1) o1 o2 r1 r2 error → FailsFrom b (bytes ++ piece) c o0 o2 r0 r2 error
item_fails b bytes piece c g new used item error o0 o1 o2 r0 r1 r2 w t stops =
    let s : Stops w.1 (follow (taken b.hearing (item ∷ []) w.1) w.1) o1 o2 r1 r2 error = subst (λ (p : Hearing). Stops w.1 (follow (taken p (item ∷ []) w.1) w.1) o1 o2 r1 r2 error) w.2.hearing_is stops in
    let d = follow (taken b.hearing (item ∷ []) w.1) w.1 in
    let takes : TakesIn b.hearing.set b.limit w.0 piece new used (Some item) = subst (λ (n : ℕ). TakesIn b.hearing.set n w.0 piece new used (Some item)) w.2.limit_is t in
    let all : GathersFrom b (bytes ++ piece) ([] ++ drop used piece) d =
    subst (λ (x : List ℕ). GathersFrom b x ([] ++ drop used piece) d) (behind_item bytes piece used)
    (gathers_more b (bytes ++ take used piece) [] (drop used piece) d (gathers_item b bytes w.0 piece w.1 g new used item w.2 takes)) in
    fails_by b (bytes ++ piece) ([] ++ drop used piece) c d o0 o2 r0 r2 error all (stops_after c w.1 d o0 o1 o2 r0 r1 r2 error w.3 w.2.open_is s)

-- an item ends it well
pub item_closes : (b : Beginning) (bytes piece : List ℕ) (c : Course) (g h : Gathering) (new : DecoderState) (used : ℕ) (item : Item) (o0 o1 o2 r0 r1 r2 : List ℕ) (w : FeedsFrom b bytes c g o0 o1 r0 r1 (Ok false))
    → TakesIn b.hearing.set g.decoder.limit w.0 piece new used (Some item) → Does w.1 (follow (taken g.hearing (item ∷ []) w.1) w.1) h o1 o2 r1 r2 (Ok true) → FeedsFrom b (bytes ++ piece) c h o0 o2 r0 r2 (Ok true)
item_closes b bytes piece c g h new used item o0 o1 o2 r0 r1 r2 w t does =
    let s : Does w.1 (follow (taken b.hearing (item ∷ []) w.1) w.1) h o1 o2 r1 r2 (Ok true) = subst (λ (p : Hearing). Does w.1 (follow (taken p (item ∷ []) w.1) w.1) h o1 o2 r1 r2 (Ok true)) w.2.hearing_is does in
    let d = follow (taken b.hearing (item ∷ []) w.1) w.1 in
    let takes : TakesIn b.hearing.set b.limit w.0 piece new used (Some item) = subst (λ (n : ℕ). TakesIn b.hearing.set n w.0 piece new used (Some item)) w.2.limit_is t in
    let all : GathersFrom b (bytes ++ piece) ([] ++ drop used piece) d =
    subst (λ (x : List ℕ). GathersFrom b x ([] ++ drop used piece) d) (behind_item bytes piece used)
    (gathers_more b (bytes ++ take used piece) [] (drop used piece) d (gathers_item b bytes w.0 piece w.1 g new used item w.2 takes)) in
    ([] ++ drop used piece, d, all, s.0, s.1, moves_on c w.1 d o0 o1 o2 r0 r1 r2 w.3 w.2.open_is s.2)

-- an item leads on
pub item_goes : (b : Beginning) (bytes piece : List ℕ) (c : Course) (g h : Gathering) (new : DecoderState) (used : ℕ) (item : Item) (o0 o1 o2 r0 r1 r2 : List ℕ) (w : FeedsFrom b bytes c g o0 o1 r0 r1 (Ok false))
    → new.limit ≡ g.decoder.limit → TakesIn b.hearing.set g.decoder.limit w.0 piece new used (Some item) → h.decoder ≡ new → h.hearing ≡ g.hearing → Does w.1 (follow (taken g.hearing (item ∷ []) w.1) w.1) h o1 o2 r1 r2 (Ok false) → FeedsFrom b (bytes ++ take used piece) c h o0 o2 r0 r2 (Ok false)
item_goes b bytes piece c g h new used item o0 o1 o2 r0 r1 r2 w l t kept same does =
    let s : Does w.1 (follow (taken b.hearing (item ∷ []) w.1) w.1) h o1 o2 r1 r2 (Ok false) = subst (λ (p : Hearing). Does w.1 (follow (taken p (item ∷ []) w.1) w.1) h o1 o2 r1 r2 (Ok false)) w.2.hearing_is does in
    let d = follow (taken b.hearing (item ∷ []) w.1) w.1 in
    let takes : TakesIn b.hearing.set b.limit w.0 piece new used (Some item) = subst (λ (n : ℕ). TakesIn b.hearing.set n w.0 piece new used (Some item)) w.2.limit_is t in (
      [],
      d,
      record {
        gathers = gathers_item b bytes w.0 piece w.1 g new used item w.2 takes;
        open_is = s.0;
        holds = s.1;
        decoder = subst (λ (k : DecoderState). StandsIn b.hearing.set k []) (sym kept) takes.3;
        limit_is = ap (λ (k : DecoderState). k.limit) kept ∙ l ∙ w.2.limit_is;
        hearing_is = same ∙ w.2.hearing_is;
      },
      moves_on c w.1 d o0 o1 o2 r0 r1 r2 w.3 w.2.open_is s.2,
    )

-- the same with its decoder fed
pub holds_fed : (c : Course) (g : Gathering) (new : DecoderState) → Holds c g → Holds c (record g { decoder = new })
holds_fed c g new h = record { client_is = h.client_is; form_is = h.form_is; asides_are = h.asides_are; left_is = h.left_is; awaits_is = h.awaits_is; counts = h.counts }

-- the decoder takes nothing more
pub decoder_fails : (b : Beginning) (bytes piece : List ℕ) (c : Course) (g : Gathering) (new : DecoderState) (error : FeedErr) (o0 o1 r0 r1 : List ℕ) (w : FeedsFrom b bytes c g o0 o1 r0 r1 (Ok false))
    → FeedsIn b.hearing.set g.decoder w.0 piece new (Err error) → FailsFrom b (bytes ++ piece) c o0 o1 r0 r1 (error_by error)
decoder_fails b bytes piece c g new decoder.Broken o0 o1 r0 r1 w f = piece_breaks b bytes piece c g o0 o1 r0 r1 w f.0
decoder_fails b bytes piece c g new decoder.Memory o0 o1 r0 r1 w f = piece_lost b bytes piece c g o0 o1 r0 r1 w
decoder_fails b bytes piece c g new decoder.Dead o0 o1 r0 r1 w f = absurd f

-- what is done of a piece, and what is left of it
pub all_done : (bytes piece done rest : List ℕ) → piece ≡ done ++ rest → (bytes ++ done) ++ rest ≡ bytes ++ piece
all_done bytes piece done rest e = append_assoc bytes done rest ∙ ap (λ (x : List ℕ). bytes ++ x) (sym e)

pub nothing_left : (rest : List ℕ) → true ≡ (length rest == 0) → rest ≡ []
nothing_left [] e = refl
nothing_left (b ∷ rest) e =
    let f = ne_eqb (length (b ∷ rest)) 0 (λ (h : length (b ∷ rest) ≡ 0). omega (arith, h)) in
    let g : true ≡ false = e ∙ f in
    cc

-- what a feed leaves has another phase
pub feeds_phase : (b : Beginning) (bytes : List ℕ) (c : Course) (g : Gathering) (p : Phase) (o0 o1 r0 r1 : List ℕ) (answer : Result Bool ToolErr) → FeedsFrom b bytes c g o0 o1 r0 r1 answer → FeedsFrom b bytes c (record g { phase = p }) o0 o1 r0 r1 answer
feeds_phase b bytes c g p o0 o1 r0 r1 (Ok true) f = f
feeds_phase b bytes c g p o0 o1 r0 r1 (Err error) f = f
feeds_phase b bytes c g p o0 o1 r0 r1 (Ok false) f =
    let s = f.2 in (
      f.0,
      f.1,
      record {
        gathers = s.gathers;
        open_is = s.open_is;
        holds = record { client_is = s.holds.client_is; form_is = s.holds.form_is; asides_are = s.holds.asides_are; left_is = s.holds.left_is; awaits_is = s.holds.awaits_is; counts = s.holds.counts };
        decoder = s.decoder;
        limit_is = s.limit_is;
        hearing_is = s.hearing_is;
      },
      f.3,
    )
