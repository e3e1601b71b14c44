use Rattle.std.proofs.Common.{◌≡◌, ℕ, ◌+◌, List, length, None, refl, sym, ap, ◌∙◌, arith}
use Rattle.std.specs.Vec.{vec_len, with_items}
use Rattle.llrp_tree.proofs.SpelledLemmas.{refilled}
use Rattle.llrp_listing.specs.ListingRules.{message_refusal}
use Rattle.llrp_listing.specs.declared.encode.buffer.EncodeBuffer.{EncodeBuffer}
use Rattle.llrp_listing.specs.Private.EncodeBuffer.{inner, with_four}
use Rattle.llrp_listing.specs.Private.OpenNodes.{node_fault}
use Rattle.llrp_listing.proofs.MessageSteps.{alone, closes_over, message_closed, message_closes, message_fails, message_small, of_line, room_for_four}
use Rattle.llrp_listing.proofs.encode.buffer.EncodeBuffer.close_message.Goals as goal

pub returns-in-Some-fault_of-clause-stopped : goal.returns-in-Some-fault_of-clause-stopped
returns-in-Some-fault_of-clause-stopped c = λ out more n h.
    let w = c.args.self.now in
    let t = (alone w c.args.at out more n h c.in-Some.top (inner c.pop.new.self) c.in-Some.ensures.popped).0 in
    message_fails w c.args.at out more n _ t.number (message_closes h.chain.0 n h.chain.1 w.limit ∙ ap (message_refusal w.limit (of_line h.chain.0 n h.chain.1)) (sym (c.fault_of.ensures n t) ∙ c.in-Some-fault_of.is))

pub returns-then-top-self-clause-stopped : goal.returns-then-top-self-clause-stopped
returns-then-top-self-clause-stopped c = λ out more n h.
    let w = c.args.self.now in
    let t = (alone w c.args.at out more n h c.in-Some.top (inner c.pop.new.self) c.in-Some.ensures.popped).0 in
    let fine : node_fault n.line n.children ≡ None = sym (c.fault_of.ensures n t) ∙ c.in-None.is in
    message_fails w c.args.at out more n _ t.number (closes_over h.chain.0 n h.chain.1 w.limit fine (omega (arith, c.if-top-self.true, message_small h.chain.0 n h.chain.1 c.in-Some.top t fine)))

pub put_four-requires : goal.put_four-requires
put_four-requires c =
    let w = c.args.self.now in
    let x = c.requires in
    let t = (alone w c.args.at x.0 x.1 x.2 x.3 c.in-Some.top (inner c.pop.new.self) c.in-Some.ensures.popped).0 in
    let fine : node_fault x.2.line x.2.children ≡ None = sym (c.fault_of.ensures x.2 t) ∙ c.in-None.is in
    let room = room_for_four w c.args.at x.0 x.1 x.2 x.3 c.in-Some.top (inner c.pop.new.self) c.in-Some.ensures.popped fine c.if-top-self.false in
    omega (arith, room, ap (λ (r : List ℕ). length r) c.as_mut_slice.ensures.value)

pub returns-else-top-self-clause-closed : goal.returns-else-top-self-clause-closed
returns-else-top-self-clause-closed c = λ out more n h.
    let w = c.args.self.now in
    let t = (alone w c.args.at out more n h c.in-Some.top (inner c.pop.new.self) c.in-Some.ensures.popped).0 in
    let fine : node_fault n.line n.children ≡ None = sym (c.fault_of.ensures n t) ∙ c.in-None.is in
    let new : EncodeBuffer = record w { room = with_items w.room c.put_four.new.room; from = c.args.at; rows = c.pop.new.self } in
    let room : new.room.items ≡ with_four (w.from + 2) c.in-Some.top.octets w.room.items =
    refilled (vec_len w.room) c.put_four.new.room w.room.items (omega (arith, w.room.ok)) (c.put_four.auto.room ∙ ap (λ (x : List ℕ). length x) c.as_mut_slice.ensures.value)
    ∙ c.put_four.ensures ∙ ap (λ (x : List ℕ). with_four (w.from + 2) c.in-Some.top.octets x) c.as_mut_slice.ensures.value in
    message_closed w c.args.at out more n h c.in-Some.top (inner c.pop.new.self) c.in-Some.ensures.popped fine c.if-top-self.false new room refl refl refl refl
