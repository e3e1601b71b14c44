use Rattle.std.proofs.Common.{◌∙◌, ◌∷◌, ◌++◌, ap, List, ℕ, refl, sym, subst}
use Rattle.tag_keys.specs.KeyFaults.{IsNumber}
use Rattle.llrp_listing.proofs.SplitWords.{at_none}
use Rattle.llrp_keys.proofs.PrefixLemmas.{no_blank, parts}
use Rattle.llrp_keys.proofs.prefixes.start_of.Goals as goal

pub returns-in_err-start : goal.returns-in_err-start
returns-in_err-start c = at_none _ _ _ c.from_residual.ensures (λ start count h. no_blank c.args.line.now start count c.in_err-start.ensures h)

pub returns-in_err-count : goal.returns-in_err-count
returns-in_err-count c = at_none _ _ _ c.from_residual-in_err-count.ensures (λ start count h. c.in_err-count.ensures count h.most (parts c.args.line.now c.in_ok-start.start.now c.in_ok-start.count.now start count c.in_ok-start.ensures h).1)

pub returns-then-not-is_number : goal.returns-then-not-is_number
returns-then-not-is_number c = λ start count h.
    let same = (parts c.args.line.now c.in_ok-start.start.now c.in_ok-start.count.now start count c.in_ok-start.ensures h).0 in
    let yes = c.is_number.ensures.1 (subst IsNumber (sym same) h.number) in
    cc

pub returns : goal.returns
returns c = record {
  number = c.is_number.ensures.0 c.if-not-is_number.false;
  most = c.in_ok-count.ensures.0;
  is = c.in_ok-start.ensures.1 ∙ ap (λ (x : List ℕ). c.in_ok-start.start.now ++ (32 ∷ x)) c.in_ok-count.ensures.1;
}
