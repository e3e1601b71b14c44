use Rattle.std.proofs.Common.{refl, inl, inr}
use Rattle.std.proofs.lemmas.Result.{err_from_is_err_and}
use Rattle.llrp_files.proofs.FilesLemmas.{says_by, says_named, unsaid_by, unwritten}
use Rattle.llrp_files.proofs.files.tell.Goals as goal

pub returns-in_err-write_all : goal.returns-in_err-write_all
returns-in_err-write_all g c =
    let p = err_from_is_err_and c.from_residual.result c.from_residual.ensures.1 in
    rw (p.1, p.2) (unsaid_by _ _ _ _ _ _ (inl (c.is_unwritten.ensures.yes c.if-is_unwritten.true, refl)) c.in_err-write_all.ensures)

pub returns-then-is_unwritten : goal.returns-then-is_unwritten
returns-then-is_unwritten g c = unwritten _ _ _ _ (c.is_unwritten.ensures.yes c.if-is_unwritten.true) c.in_ok-write_all.ensures

pub returns-in-Some : goal.returns-in-Some
returns-in-Some g c = says_named _ _ _ _ _ _ _ (c.is_unwritten.ensures.no c.if-is_unwritten.false) c.in-Some.ensures c.as_bytes.ensures.value c.write_parts.ensures

pub returns-in-None : goal.returns-in-None
returns-in-None g c = says_by _ _ _ _ _ _ (c.is_unwritten.ensures.no c.if-is_unwritten.false) (inr (inr (c.in-None.ensures, refl))) c.write_all-in-None.ensures
