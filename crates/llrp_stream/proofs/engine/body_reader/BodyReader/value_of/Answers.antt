use Rattle.std.proofs.Common.{◌+◌, ◌/◌}
use Rattle.llrp_schema.specs.declared.kinds.Kind.TheVariants.{Parameter}
use Rattle.llrp_schema.specs.Schema.{bits_of, fields_of}
use Rattle.llrp_stream.proofs.ManyValues.{long_report, one_taken, some_taken}
use Rattle.llrp_stream.proofs.engine.body_reader.BodyReader.value_of.Goals as goal

pub value-requires-clause-stage : goal.value-requires-clause-stage
value-requires-clause-stage g c = c.requires.awaits.stage

pub value-requires-clause-stop : goal.value-requires-clause-stop
value-requires-clause-stop g c = c.requires.awaits.stop

pub value-requires-clause-long : goal.value-requires-clause-long
value-requires-clause-long g c = long_report c.args.set c.args.self.now.top.kind c.requires.awaits.kind

pub value-requires-clause-second : goal.value-requires-clause-second
value-requires-clause-second g c = c.requires.awaits.second

pub value-requires-clause-next : goal.value-requires-clause-next
value-requires-clause-next g c = c.in-Some.ensures.next

pub value-requires-clause-seen : goal.value-requires-clause-seen
value-requires-clause-seen g c = c.requires.awaits.seen

pub returns-clause-takes : goal.returns-clause-takes
returns-clause-takes g c =
    one_taken _ _ _ _ c.args.self.now c.value.new.self c.args.octets.now c.args.left (1 + bits_of (fields_of (Parameter c.in-Some.child.kind)) / 8) c.value.result
    c.in-Some.ensures.fits
    c.value.ensures.keeps c.value.ensures.takes c.value.ensures.used c.value.ensures.memory c.value.ensures.place

pub returns-clause-none : goal.returns-clause-none
returns-clause-none g c = λ e. absurd (some_taken c.value.result _ c.value.ensures.used e)
