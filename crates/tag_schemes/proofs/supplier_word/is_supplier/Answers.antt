use Rattle.std.proofs.Common.{◌≡◌, nat_eq, true}
use Rattle.std.proofs.lemmas.Bool.{eq-eqb, eqb-true}
use Rattle.tag_schemes.proofs.SupplierFacts.{header_found, header_is}
use Rattle.tag_schemes.proofs.supplier_word.is_supplier.Goals as goal

pub returns : goal.returns
returns c = (
  λ same. header_found c.args.word c.part.result (eqb-true c.part.result 47 (let e : nat_eq c.part.result 47 ≡ true = same in e)) c.part.ensures.digits,
  λ begins. eq-eqb c.part.result 47 (header_is c.args.word c.part.result c.part.ensures.below c.part.ensures.digits begins),
)
