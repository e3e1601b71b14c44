use Rattle.std.proofs.Common.{◌≡◌, [], ◌∷◌, ◌++◌, ◌∙◌, ap, subst, take, length, List, ℕ, arith}
use Rattle.std.proofs.lemmas.List.{take_all}
use Rattle.std.specs.List.{AllZip}
use Rattle.llrp_tree.specs.Tree.{Tree}
use Rattle.llrp_endpoints.specs.TagLines.{IsTagLine, count_line}
use Rattle.llrp_endpoints.proofs.TagLineLemmas.{lines_each, lines_text}
use Rattle.llrp_endpoints.proofs.gathering.tag_lines.report_lines.Goals as goal

pub loop-tag-init : goal.loop-tag-init
loop-tag-init c = record { lines = []; each = tt; text_is = c.new-text.ensures }

pub loop-tag-preserved : goal.loop-tag-preserved
loop-tag-preserved c =
    let so = c.loop-tag.invariant in
    let one = c.in_ok-push_tag.ensures in
    record {
      lines = so.lines ++ one.0 ∷ [];
      each = lines_each c.args.form c.args.tags.now c.loop-tag.tag-index c.tag-item.result so.lines one.0 c.loop-tag-test.true c.tag-item.is so.each one.1;
      text_is = lines_text so.lines one.0 c.loop-tag.text c.push_tag.new.text so.text_is one.2;
    }

pub returns : goal.returns
returns c =
    let all : take c.loop-tag.tag-index c.args.tags.now ≡ c.args.tags.now = take_all c.loop-tag.tag-index c.args.tags.now (omega arith) in
    record {
      lines = c.loop-tag.invariant.lines;
      each = subst (λ (ts : List Tree). AllZip (IsTagLine c.args.form) ts c.loop-tag.invariant.lines) all c.loop-tag.invariant.each;
      text_is = c.in_ok-push_count.ensures ∙ ap (λ (x : List ℕ). x ++ count_line c.args.form (length c.args.tags.now)) c.loop-tag.invariant.text_is;
    }
