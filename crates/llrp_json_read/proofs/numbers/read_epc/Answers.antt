use Rattle.std.proofs.Common.{ℕ, sym, subst}
use Rattle.json.specs.Value.{value_view}
use Rattle.tag_uri.specs.TagText.{IsTextOf}
use Rattle.llrp_json_read.proofs.NumberTexts.{epc_refused}
use Rattle.llrp_json_read.proofs.numbers.read_epc.Goals as goal

pub returns-in-Ok : goal.returns-in-Ok
returns-in-Ok c =
    record {
      in_form = c.number.ensures.below;
      text = c.in-Some.text.now;
      member = sym c.in-Some.ensures;
      is = subst (λ (w : ℕ). IsTextOf w c.in-Some.text.now) (sym c.number.ensures.number) c.in-Ok.ensures.ok;
    }

pub returns-in-Err : goal.returns-in-Err
returns-in-Err c = epc_refused c.args.name.now (value_view c.args.object.now) c.in-Some.text.now c.in-Err.fault (sym c.in-Some.ensures) c.in-Err.ensures.err
