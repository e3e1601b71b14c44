use Rattle.std.proofs.Common.{◌++◌, ◌∙◌, sym, Ok, Err}
use Rattle.llrp_listing.specs.Private.TakingLines.{said_level, said_node}
use Rattle.llrp_listing.proofs.Standing.{line_result}
use Rattle.llrp_listing.proofs.EncoderSteps.{never_ok, read_at, read_says, rests_front, said_says, says_can, says_said, some_front}
use Rattle.llrp_listing.proofs.encode.Encoder.end_any_line.Goals as goal

pub note_line-requires : goal.note_line-requires
note_line-requires g c = (read_says _ _ c.in-Ok.line c.in-Ok.ensures.read).0.own ∙ sym c.in-Ok.ensures.set

pub take_line-requires-clause-said : goal.take_line-requires-clause-said
take_line-requires-clause-said g c =
    let x = c.said_by in
    says_said _ _ _ _ (said_says _ _ c.in-Ok.line x.result x.ensures.level x.ensures.says c.in-Ok.ensures.read)

pub take_line-requires-clause-can : goal.take_line-requires-clause-can
take_line-requires-clause-can g c =
    let s = c.requires.stands.2 in
    let old = c.args.self.now in
    let bytes = old.line.items ++ c.args.part.now in
    let x = c.said_by in
    let ok = said_says _ bytes c.in-Ok.line x.result x.ensures.level x.ensures.says (read_at old.guess old.writer s.out s.ns bytes (Ok c.in-Ok.line) s.rests c.in-Ok.ensures.read) in
    rw c.in-Ok.ensures.writer (s.out, s.ns, s.rests, says_can s.ns bytes (said_level x.result) (said_node x.result) ok)

pub returns-in-Ok-clause-stands : goal.returns-in-Ok-clause-stands
returns-in-Ok-clause-stands g c =
    let old = c.args.self.now in
    let bytes = old.line.items ++ c.args.part.now in
    let x = c.said_by in
    let stands = rw (c.note_line.ensures, c.in-Ok.ensures.set, c.in-Ok.ensures.writer, c.in-Ok.ensures.number) at c.take_line.ensures.stands in
    λ start text n s. stands start text old.line.items c.args.part.now s.out s.ns s.rests s.after n (said_says _ bytes c.in-Ok.line x.result x.ensures.level x.ensures.says (read_at old.guess old.writer s.out s.ns bytes (Ok c.in-Ok.line) s.rests c.in-Ok.ensures.read))

pub returns-in-Err-clause-stands : goal.returns-in-Err-clause-stands
returns-in-Err-clause-stands g c =
    let old = c.args.self.now in
    let bytes = old.line.items ++ c.args.part.now in
    let told = rw (c.in-Err.ensures.writer, c.in-Err.ensures.number) at c.refuse_line.ensures in
    λ start text n s. line_result (g.W.Sink.log c.refuse_line.new.w) c.args.part.now c.in-Err.error _ c.refuse_line.result s.after n (read_at old.guess old.writer s.out s.ns bytes (Err c.in-Err.error) s.rests c.in-Err.ensures.read)
    (told s.out (rests_front old.writer s.out s.ns s.rests))

pub returns-in-Err-clause-sink : goal.returns-in-Err-clause-sink
returns-in-Err-clause-sink g c =
    let told = rw (c.in-Err.ensures.writer, c.in-Err.ensures.number) at c.refuse_line.ensures in
    let x = some_front (g.W.Sink.log c.args.w.now) c.args.self.now c.requires.stands in
    never_ok _ _ c.refuse_line.result (told x.0 x.1)
