use Rattle.std.proofs.Common.{◌+◌, ◌++◌, ◌∷◌, ◌∙◌, [], ℕ, List, refl, subst}
use Rattle.llrp_stream.proofs.WritingLemmas.{wrote_nothing}
use Rattle.llrp_listing.proofs.Standing.{close_result, memory_stops}
use Rattle.llrp_listing.specs.Private.OpenNodes.{new_node}
use Rattle.llrp_listing.specs.Private.EncodeBuffer.{row_count}
use Rattle.llrp_listing.specs.Private.ShortLines.{value_node}
use Rattle.llrp_listing.specs.Private.TakingLines.{TakeFails}
use Rattle.llrp_listing.proofs.EncoderSteps.{never_ok, says_can, stands_taken}
use Rattle.llrp_listing.proofs.encode.Encoder.take_value.Goals as goal

pub take_value-requires-clause-stands : goal.take_value-requires-clause-stands
take_value-requires-clause-stands g c = let x = c.requires.can in (x.0, x.1, x.2, x.3.within, x.3.deep)

pub returns-in-Err-Memory-clause-stands : goal.returns-in-Err-Memory-clause-stands
returns-in-Err-Memory-clause-stands g c = λ start text begun part out ns r s n ok. memory_stops (part ++ (10 ∷ [])) s

pub refuse-requires-clause-front : goal.refuse-requires-clause-front
refuse-requires-clause-front g c =
    let x = c.requires.can in
    let fails = subst (TakeFails c.args.self.now.writer c.take_value.new.writer (row_count c.args.self.now.writer.rows)) c.in-Err-Refuses.field-0-is c.in-Err-Refuses.ensures.stopped in
    (x.0, (fails x.0 x.1 x.2).1)

pub returns-in-Err-Refuses-clause-stands : goal.returns-in-Err-Refuses-clause-stands
returns-in-Err-Refuses-clause-stands g c =
    let level = row_count c.args.self.now.writer.rows in
    let fails = subst (TakeFails c.args.self.now.writer c.take_value.new.writer level) c.in-Err-Refuses.field-0-is c.in-Err-Refuses.ensures.stopped in
    λ start text begun part out ns r s n ok. let f = fails out ns r in
    close_result (g.W.Sink.log c.refuse.new.w) part level (value_node c.args.line) c.in-Err-Refuses.refused.number c.in-Err-Refuses.refused.reason _ c.refuse.result s n ok f.0 (c.refuse.ensures out f.1)

pub returns-in-Err-Refuses-clause-sink : goal.returns-in-Err-Refuses-clause-sink
returns-in-Err-Refuses-clause-sink g c =
    let x = c.requires.can in
    let fails = subst (TakeFails c.args.self.now.writer c.take_value.new.writer (row_count c.args.self.now.writer.rows)) c.in-Err-Refuses.field-0-is c.in-Err-Refuses.ensures.stopped in
    never_ok _ _ c.refuse.result (c.refuse.ensures x.0 (fails x.0 x.1 x.2).1)

pub returns-in-Ok-clause-stands : goal.returns-in-Ok-clause-stands
returns-in-Ok-clause-stands g c = λ start text begun part out ns r s n ok.
    let level = row_count c.args.self.now.writer.rows in
    let o = c.in-Ok.ensures.taken out ns r (says_can ns (begun ++ part) level (value_node c.args.line) ok) in
    stands_taken c.take_value.new.writer _ ns part level (value_node c.args.line) s n ok o
    (record { left = o.now; hands = ([], refl, wrote_nothing (g.W.Sink.log c.args.w.now)); rests = o.holds }) refl c.in-Ok.ensures.limit refl c.requires.empty
