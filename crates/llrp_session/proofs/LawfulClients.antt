-- A client that is given what fits sends what fits.
use Rattle.std.proofs.Common.{◌≡◌, ℕ, ◌+◌, ◌^◌, ◌<◌, refl, Bool, true, false, cond, List, arith}
use Rattle.std.specs.Prelude.{◌==◌, Option, None, Some, is_some, Result, IfOk}
use Rattle.llrp_tree.specs.Tree.{Tree}
use Rattle.llrp_tree.specs.Lawful.{tree_octets}
use Rattle.llrp_session.specs.RoSpec.{rospec_of}
use Rattle.llrp_session.specs.Contents.{Operation, Adding, Deleting, Starting, Stopping, Enabling, Disabling, Listing, Configuring, Closing, Command, Add, Delete, Start, Stop, Enable, Disable, GetRospecs, SetKeepalive, GetReport, Close, Heard, HeardResponse, HeardError, HeardReport, HeardKeepalive, HeardNotification, HeardOther, RoSpecChange}
use Rattle.llrp_session.specs.Refusal.{Refusal, Busy, OverLimit, IdsSpent}
use Rattle.llrp_session.specs.ClientMachine.{Client, ClientPhase, Fresh, Ready, Closed, Pending, Sending, Taking, command, sent_unless, refused_in, is_over_limit, are_spent, take, take_in, attempted, answered, take_response, failed, notified, is_response_to, unexpected, takes, cleared, closed, Connected, Refused, Reply}
use Rattle.llrp_session.specs.Calls.LawfulWords.{IsLawfulCommand, IsLawfulClientMessage}
use Rattle.llrp_session.specs.MessageWorld.{IsGivenCommand}
use Rattle.llrp_session.specs.Calls.LawfulStates.{AreLawfulClientMessages}
use Rattle.llrp_session.proofs.Adding.{not_less as not_above}

-- ---- commands

within : (limit : ℕ) (k : Command) → IsGivenCommand k → is_over_limit limit k ≡ false → IsLawfulCommand limit k
unfolding rospec_of
within limit (Add spec) h e = record { kind = h.0; lawful = h.1; within = not_above limit (10 + tree_octets spec) e }
within limit (Delete id) h e = h
within limit (Start id) h e = h
within limit (Stop id) h e = h
within limit (Enable id) h e = h
within limit (Disable id) h e = h
within limit GetRospecs h e = tt
within limit (SetKeepalive ms) h e = h
within limit GetReport h e = tt
within limit Close h e = tt

unspent : (id : ℕ) → are_spent id ≡ false → id < 2 ^ 32
unspent id h = let le = not_above 4294967295 id h in omega arith

abbrev SendsLawful : Client → Result Sending Refusal → Type 0
SendsLawful c step = IfOk step (λ s. IsLawfulClientMessage c.limit s.message)

pub command_is_lawful : (c : Client) (k : Command) → IsGivenCommand k → IfOk (command c k) (λ s. IsLawfulClientMessage c.limit s.message)
unfolding command
command_is_lawful c k h =
    elim (c.phase) as (λ ph. SendsLawful c (sent_unless (refused_in ph c k) c k)) [
      | Fresh ↦ tt
      | Closed ↦ tt
      | Ready ↦ elim (is_some c.pending) as (λ b. SendsLawful c (sent_unless (cond b (Some Busy) (cond (is_over_limit c.limit k) (Some OverLimit) (cond (are_spent c.next_id) (Some IdsSpent) None))) c k)) [
        | true ↦ tt
        | false ↦ elim (is_over_limit c.limit k) as (λ b. is_over_limit c.limit k ≡ b → SendsLawful c (sent_unless (cond b (Some OverLimit) (cond (are_spent c.next_id) (Some IdsSpent) None)) c k)) [
          | true ↦ λ e. tt
          | false ↦ λ e. elim (are_spent c.next_id) as (λ b. are_spent c.next_id ≡ b → SendsLawful c (sent_unless (cond b (Some IdsSpent) None) c k)) [
            | true ↦ λ g. tt
            | false ↦ λ g. record { id = unspent c.next_id g; word = within c.limit k h e }
          ] refl
        ] refl
      ]
    ]

-- ---- messages

abbrev AnswersLawfully : Client → Result Taking Refusal → Type 0
AnswersLawfully c step = IfOk step (λ k. AreLawfulClientMessages c.limit k.sent)

lawful-take_response : (operation : Operation) (c d : Client) (p : Pending) (status : ℕ) (ts : List Tree) → AnswersLawfully c (take_response operation d p status ts)
lawful-take_response Adding c d p status ts = tt
lawful-take_response Deleting c d p status ts = tt
lawful-take_response Starting c d p status ts = tt
lawful-take_response Stopping c d p status ts = tt
lawful-take_response Enabling c d p status ts = tt
lawful-take_response Disabling c d p status ts = tt
lawful-take_response Configuring c d p status ts = tt
lawful-take_response Closing c d p status ts = tt
lawful-take_response Listing c d p status ts = tt

lawful-answered : (o : Option Pending) (c : Client) (id : ℕ) (operation : Operation) (status : ℕ) (ts : List Tree) → AnswersLawfully c (answered o c id operation status ts)
lawful-answered None c id operation status ts = tt
lawful-answered (Some p) c id operation status ts =
    elim (is_response_to p id operation) as (λ b. AnswersLawfully c (cond b (take_response operation c p status ts) unexpected)) [ true ↦ lawful-take_response operation c c p status ts | false ↦ tt ]

lawful-failed : (o : Option Pending) (c : Client) (id status : ℕ) → AnswersLawfully c (failed o c id status)
lawful-failed None c id status = tt
lawful-failed (Some p) c id status = elim (p.id == id) as (λ b. AnswersLawfully c (cond b (takes (Reply status) (cleared c)) unexpected)) [ true ↦ tt | false ↦ tt ]

lawful-notified : (c : Client) (closes : Bool) (e : Option RoSpecChange) → AnswersLawfully c (notified c closes e)
lawful-notified c true e = tt
lawful-notified c false None = tt
lawful-notified c false (Some e) = tt

lawful-attempted : (c : Client) (o : Option ℕ) → AnswersLawfully c (attempted c o)
lawful-attempted c None = tt
lawful-attempted c (Some status) =
    elim (status == 0) as (λ b. AnswersLawfully c (cond b (takes Connected (record c { phase = Ready })) (takes (Refused status) (closed c)))) [ true ↦ tt | false ↦ tt ]

lawful-take_in : (ph : ClientPhase) (c : Client) (id : ℕ) (h : Heard) → id < 2 ^ 32 → AnswersLawfully c (take_in ph c id h)
lawful-take_in Closed c id h fits = tt
lawful-take_in Fresh c id (HeardResponse operation status ts) fits = tt
lawful-take_in Fresh c id (HeardError status) fits = tt
lawful-take_in Fresh c id (HeardReport tags) fits = tt
lawful-take_in Fresh c id HeardKeepalive fits = tt
lawful-take_in Fresh c id HeardOther fits = tt
lawful-take_in Fresh c id (HeardNotification n) fits = lawful-attempted c n.attempt
lawful-take_in Ready c id (HeardResponse operation status ts) fits = lawful-answered c.pending c id operation status ts
lawful-take_in Ready c id (HeardError status) fits = lawful-failed c.pending c id status
lawful-take_in Ready c id (HeardReport tags) fits = tt
lawful-take_in Ready c id HeardKeepalive fits = (record { id = fits; word = tt }, tt)
lawful-take_in Ready c id (HeardNotification n) fits = lawful-notified c n.closes n.rospec
lawful-take_in Ready c id HeardOther fits = tt

pub answer_is_lawful : (c : Client) (id : ℕ) (h : Heard) → id < 2 ^ 32 → IfOk (take c id h) (λ k. AreLawfulClientMessages c.limit k.sent)
unfolding take
answer_is_lawful c id h fits = lawful-take_in c.phase c id h fits
