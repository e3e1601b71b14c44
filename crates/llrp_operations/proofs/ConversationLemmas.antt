-- Frames that lead a client on, one after another.
use Rattle.std.proofs.Common.{◌≡◌, ℕ, List, [], ◌∷◌, ◌++◌, Some, None, refl, sym, ap, subst, ◌∙◌, append_assoc}
use Rattle.std.specs.Prelude.{map}
use Rattle.std.specs.Borrow.{Bor}
use Rattle.std.specs.List.{AllZip}
use Rattle.std.proofs.lemmas.List.{append-nil}
use Rattle.llrp_schema.specs.declared.kinds.KindSet.TheVariants.{Standard}
use Rattle.llrp_schema.specs.declared.kinds.Kind.TheVariants.{Message}
use Rattle.llrp_schema.specs.Schema.{set_of_kind}
use Rattle.llrp_tree.specs.Tree.{MessageTree}
use Rattle.llrp_tree.specs.Frame.{Frame}
use Rattle.llrp_tree.specs.FirstFault.{FirstFaultIn}
use Rattle.llrp_tree.specs.declared.TheConstants.{MAX_LIMIT}
use Rattle.llrp_tree.specs.declared.fault.Fault.{Fault}
use Rattle.llrp_stream.specs.declared.item.Item.TheVariants.{Msg, Bad}
use Rattle.llrp_stream.specs.Cuts.{IsFrame}
use Rattle.llrp_stream.specs.Items.{ItemsSoFarIn, id_field}
use Rattle.llrp_listing.specs.declared.outcome.ToolErr.{ToolErr}
use Rattle.llrp_ask.specs.Calls.Asking.{Event, Came}
use Rattle.llrp_ask.specs.Calls.Next.{MayStop}
use Rattle.llrp_ask.proofs.FrameLemmas.{came_more, no_frames, one_more}
use Rattle.llrp_operations.specs.declared.conversation.Conversation.{Conversation}
use Rattle.llrp_operations.specs.declared.course.Demand.TheVariants.{ClearAccess, ClearInventory, AddInventory, EnableInventory, StartInventory, AddAccess, EnableAccess, RemoveAccess, RemoveInventory, Close}
use Rattle.llrp_operations.specs.declared.course.Saying.{Saying}
use Rattle.llrp_operations.specs.declared.course.Saying.TheVariants.{Asks, Acknowledges}
use Rattle.llrp_operations.specs.declared.request.Request.{Request}
use Rattle.llrp_operations.specs.Calls.Course.{course_of, target}
use Rattle.llrp_operations.specs.Calls.Messages.{message_to}
use Rattle.llrp_operations.specs.Calls.Talking.{AreFrames, IsSaid, IsSent, Talk, follow, heard, step, stopped}
use Rattle.llrp_operations.specs.Private.Conversations.{AddsFrames, Holds, IsLostBy, SendsSaid, Takes, TakesFrame, TakesFrames, TakesSome, talk_of}
use Rattle.llrp_operations.proofs.TalkLemmas.{follow_more, sent_alone, sent_more}

-- ---- one frame

pub takes_message : (frame : List ℕ) (m : MessageTree) (old new : Conversation) (out0 out1 : List ℕ) → Frame m frame MAX_LIMIT → set_of_kind (Message m.kind) ≡ Standard → Takes (Came (Msg m)) old new out0 out1 → TakesFrame frame old new out0 out1
takes_message frame m old new out0 out1 f own t = (Msg m, record { frame = f; own = own }, t)

pub takes_fault : (frame : List ℕ) (fault : Fault) (c : Conversation) (out : List ℕ) → FirstFaultIn Standard frame MAX_LIMIT fault.bit fault.reason → TakesFrame frame c c out out
takes_fault frame fault c out f = (
  Bad (id_field frame) fault,
  (refl, f),
  record {
    talk = refl;
    octets = [];
    said = record { frames = []; each = tt; octets_are = refl };
    out = sym (append-nil out);
    keeps = record { request = refl; held = refl };
  },
)

-- ---- frames one after another

pub takes_none : (octets : List ℕ) (c : Conversation) (out : List ℕ) → TakesSome octets octets c c out out
takes_none octets c out = record { items = []; came = no_frames octets; talk = refl; sent = []; is_sent = refl; out = sym (append-nil out); request = refl }

-- what was said with a request and a talk, which are those of another conversation
pub said_in : (r s : Request) (t u : Talk) (event : Event) (octets : List ℕ) → s ≡ r → t ≡ u → IsSaid s (heard s.id event t.course) octets → IsSaid r (heard r.id event u.course) octets
said_in r s t u event octets e f said =
    subst (λ (x : Talk). IsSaid r (heard r.id event x.course) octets) f (subst (λ (x : Request). IsSaid x (heard x.id event t.course) octets) e said)

pub takes_more : (octets rest frame later : List ℕ) (old mid new : Conversation) (out0 out1 out2 : List ℕ) → TakesSome octets rest old mid out0 out1 → IsFrame frame → rest ≡ frame ++ later → TakesFrame frame mid new out1 out2
    → TakesSome octets later old new out0 out2
takes_more octets rest frame later old mid new out0 out1 out2 s is cut f =
    let item = f.0 in
    let t = f.2 in
    let events = map Came s.items in
    let said = said_in old.request mid.request (talk_of mid) (follow old.request.id events (talk_of old)) (Came item) t.octets s.request s.talk t.said in
    let all : map Came (s.items ++ item ∷ []) ≡ events ++ Came item ∷ [] = came_more s.items item in
    record {
      items = s.items ++ item ∷ [];
      came = one_more octets rest frame later s.items item s.came cut is f.1;
      talk = t.talk ∙ ap (λ (x : Request). step x.id (Came item) (talk_of mid)) s.request ∙ ap (step old.request.id (Came item)) s.talk ∙ sym (follow_more old.request.id events (Came item ∷ []) (talk_of old))
          ∙ ap (λ (l : List Event). follow old.request.id l (talk_of old)) (sym all);
      sent = s.sent ++ t.octets;
      is_sent = subst (λ (l : List Event). IsSent old.request l (talk_of old) (s.sent ++ t.octets)) (sym all)
          (sent_more old.request events (Came item ∷ []) (talk_of old) s.sent t.octets s.is_sent (sent_alone old.request (Came item) (follow old.request.id events (talk_of old)) t.octets said));
      out = t.out ∙ ap (λ (x : List ℕ). x ++ t.octets) s.out ∙ append_assoc out0 s.sent t.octets;
      request = t.keeps.request ∙ s.request;
    }

-- all frames were taken, and the rest is held
pub takes_all : (octets rest : List ℕ) (old mid new : Conversation) (out0 out1 : List ℕ) → TakesSome octets rest old mid out0 out1 → MayStop None rest → Holds rest mid new → TakesFrames octets old new out0 out1
takes_all octets rest old mid new out0 out1 s stops h = record {
  items = s.items;
  came = subst (λ (x : List ℕ). ItemsSoFarIn Standard MAX_LIMIT octets s.items x) (sym h.held) s.came;
  why = None;
  stops = subst (MayStop None) (sym h.held) stops;
  talk = h.talk ∙ s.talk;
  sent = s.sent;
  is_sent = s.is_sent;
  out = s.out;
  request = h.request ∙ s.request;
}

-- no frame follows, and the connection is lost
pub takes_stop : (octets rest : List ℕ) (error : ToolErr) (old mid lost new : Conversation) (out0 out1 : List ℕ) → TakesSome octets rest old mid out0 out1 → MayStop (Some error) rest → IsLostBy error mid lost → Holds rest lost new
    → TakesFrames octets old new out0 out1
takes_stop octets rest error old mid lost new out0 out1 s stops l h = record {
  items = s.items;
  came = subst (λ (x : List ℕ). ItemsSoFarIn Standard MAX_LIMIT octets s.items x) (sym h.held) s.came;
  why = Some error;
  stops = subst (MayStop (Some error)) (sym h.held) stops;
  talk = h.talk ∙ l.talk ∙ ap (stopped (Some error)) s.talk;
  sent = s.sent;
  is_sent = s.is_sent;
  out = s.out;
  request = h.request ∙ l.keeps.request ∙ s.request;
}

-- ---- what is sent

-- the EPC of the request is that of no message: the tag that is meant is
same_message : (epc : List ℕ) (s : Saying) (r : Request) (b : Bor (List ℕ)) → message_to epc s (record r { epc = b }) ≡ message_to epc s r
same_message epc (Asks ClearAccess) r b = refl
same_message epc (Asks ClearInventory) r b = refl
same_message epc (Asks AddInventory) r b = refl
same_message epc (Asks EnableInventory) r b = refl
same_message epc (Asks StartInventory) r b = refl
same_message epc (Asks AddAccess) r b = refl
same_message epc (Asks EnableAccess) r b = refl
same_message epc (Asks RemoveAccess) r b = refl
same_message epc (Asks RemoveInventory) r b = refl
same_message epc (Asks Close) r b = refl
same_message epc (Acknowledges id) r b = refl

each_for : (r : Request) (b : Bor (List ℕ)) (epc : List ℕ) (said : List Saying) (frames : List (List ℕ)) → AllZip (λ s frame. Frame (message_to epc s (record r { epc = b })) frame MAX_LIMIT) said frames
    → AllZip (λ s frame. Frame (message_to epc s r) frame MAX_LIMIT) said frames
each_for r b epc [] [] z = tt
each_for r b epc [] (f ∷ frames) z = absurd z
each_for r b epc (s ∷ said) [] z = absurd z
each_for r b epc (s ∷ said) (f ∷ frames) z = (subst (λ (m : MessageTree). Frame m f MAX_LIMIT) (same_message epc s r b) z.0, each_for r b epc said frames z.1)

frames_for : (r : Request) (b : Bor (List ℕ)) (epc : List ℕ) (said : List Saying) (octets : List ℕ) → AreFrames (record r { epc = b }) epc said octets → AreFrames r epc said octets
frames_for r b epc said octets are = record { frames = are.frames; each = each_for r b epc said are.frames are.each; octets_are = are.octets_are }

pub sends_said : (c : Conversation) (b : Bor (List ℕ)) (said : List Saying) (old new : List ℕ) → b.now ≡ target (course_of c.course []) → AddsFrames (record c.request { epc = b }) said old new → SendsSaid c said old new
sends_said c b said old new is adds = (adds.0, subst (λ (x : List ℕ). AreFrames c.request x said adds.0) is (frames_for c.request b b.now said adds.0 adds.1), adds.2)
