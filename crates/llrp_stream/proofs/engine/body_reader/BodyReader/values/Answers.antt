use Rattle.std.proofs.Common.{◌∙◌, ap, arith}
use Rattle.llrp_schema.specs.declared.kinds.Kind.TheVariants.{Parameter}
use Rattle.llrp_schema.specs.declared.kinds.KindSet.{KindSet}
use Rattle.llrp_stream.specs.Private.Reading.{report_of}
use Rattle.llrp_stream.proofs.SeenLemmas.{seen_are}
use Rattle.llrp_stream.proofs.engine.body_reader.BodyReader.values.Goals as goal

pub all_values-requires-clause-awaits : goal.all_values-requires-clause-awaits
all_values-requires-clause-awaits g c =
    let w = c.requires.some in
    record {
      stage = c.requires.stage;
      stop = c.requires.stop;
      kind = c.in-Some.ensures ∙ ap (λ (s : KindSet). Parameter (report_of s)) c.in-Profile.is;
      second = omega (arith, c.if-len-ne1.false, c.len.ensures.value);
      within = omega (arith, c.min-near.ensures);
      near = omega (arith, c.min-near.ensures, c.requires.before);
      seen = (w.2.node.children, seen_are c.args.self.now w.1 w.2.node w.2.outer w.2.reads);
    }

pub whole_values-requires-clause-awaits : goal.whole_values-requires-clause-awaits
whole_values-requires-clause-awaits g c =
    let w = c.requires.some in
    record {
      stage = c.requires.stage;
      stop = c.requires.stop;
      kind = c.in-Some.ensures ∙ ap (λ (s : KindSet). Parameter (report_of s)) c.in-Standard.is;
      second = omega (arith, c.if-len-ne1.false, c.len.ensures.value);
      within = omega (arith, c.min-near.ensures);
      near = omega (arith, c.min-near.ensures, c.requires.before);
      seen = (w.2.node.children, seen_are c.args.self.now w.1 w.2.node w.2.outer w.2.reads);
    }
