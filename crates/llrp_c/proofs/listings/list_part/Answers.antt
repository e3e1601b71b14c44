use Rattle.llrp_c.proofs.listings.list_part.Goals as goal

pub returns : goal.returns
returns c = record {
  used_is = c.octets_listed-used.ensures;
  verdict = c.in_ok-text.verdict;
  has = c.in_ok-text.ensures;
  ended_is = c.listed_status.ensures;
}
