use Rattle.llrp_listing.specs.Calls.FirstRefusal.{HasOneAnswer}
use Rattle.llrp_listing.specs.Lines.{lines_of}
use Rattle.llrp_listing.specs.ListingRules.{rules_for, row}
use Rattle.llrp_listing.proofs.Clear.{clear}
use Rattle.llrp_listing.proofs.LawfulLines.{lists}
use Rattle.llrp_listing.proofs.Telling.{told}
use Rattle.llrp_listing.proofs.TreeLines.{row_same}
use Rattle.llrp_listing.proofs.laws.listed_or_refused.Goals as goal

pub returns : goal.returns
returns c = λ set limit text.
    let t : HasOneAnswer (rules_for set limit) (lines_of text) = told (rules_for set limit) (clear set limit) (lines_of text) in
    record {
      one_listing = λ ms ns p q. row_same ms ns (t.one_listing (row ms) (row ns) (lists limit text p.1.0 ms p.0 p.1.1) (lists limit text q.1.0 ns q.0 q.1.1));
      one_refusal = λ m n a b ms ns p q. let e = t.one_refusal (row ms) (row ns) m n a b p q in (e.0, e.1, row_same ms ns e.2);
      not_both = λ ms ns line reason p q. t.not_both (row ms) (row ns) line reason (lists limit text p.1.0 ms p.0 p.1.1) q;
      lines = t;
    }
