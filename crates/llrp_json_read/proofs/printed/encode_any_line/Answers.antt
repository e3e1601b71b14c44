use Rattle.std.proofs.Common.{◌≡◌, ℕ, Bool, true, false, List, ◌++◌, subst}
use Rattle.std.specs.Prelude.{OnErr, OnOk}
use Rattle.llrp_tree.specs.Frame.{Frame}
use Rattle.llrp_tree.specs.Tree.{MessageTree}
use Rattle.llrp_json_read.specs.JsonLine.{SaysLine}
use Rattle.llrp_json_read.specs.Private.Printed.{AppendsLine}
use Rattle.llrp_json_read.proofs.printed.encode_any_line.Goals as goal

pub returns-then-printed-clause-ok : goal.returns-then-printed-clause-ok
returns-then-printed-clause-ok c =
    let yes : c.encode_printed-printed.result ≡ true = cc in
    subst (λ (b : Bool). AppendsLine c.args.set c.args.limit c.args.line.now c.args.out.now.items c.encode_printed-printed.new.out.items b) yes c.encode_printed-printed.ensures

pub returns-clause-ok : goal.returns-clause-ok
returns-clause-ok c =
    let no : c.encode_printed-printed.result ≡ false = cc in
    let same = subst (λ (b : Bool). AppendsLine c.args.set c.args.limit c.args.line.now c.args.out.now.items c.encode_printed-printed.new.out.items b) no c.encode_printed-printed.ensures in
    subst (λ (x : List ℕ). OnOk c.encode_line.result ((m : MessageTree) × (bytes : List ℕ) × SaysLine c.args.set c.args.line.now m × Frame m bytes c.args.limit × (c.encode_line.new.out.items ≡ x ++ bytes))) same c.encode_line.ensures.ok

pub returns-clause-err : goal.returns-clause-err
returns-clause-err c =
    let no : c.encode_printed-printed.result ≡ false = cc in
    let same = subst (λ (b : Bool). AppendsLine c.args.set c.args.limit c.args.line.now c.args.out.now.items c.encode_printed-printed.new.out.items b) no c.encode_printed-printed.ensures in
    subst (λ (x : List ℕ). OnErr c.encode_line.result (c.encode_line.new.out.items ≡ x)) same c.encode_line.ensures.err
