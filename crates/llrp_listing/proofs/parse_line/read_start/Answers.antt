use Rattle.std.proofs.Common.{◌≡◌, ◌∷◌, []}
use Rattle.llrp_listing.specs.Lines.{words}
use Rattle.llrp_listing.proofs.LineWords.{start_no_word, start_no_kind}
use Rattle.llrp_listing.proofs.parse_line.read_start.Goals as goal

pub returns-in_default-rest : goal.returns-in_default-rest
returns-in_default-rest c =
    let all : words c.args.line.now ≡ c.first_word.result.0.now ∷ [] = rw c.in_default-rest.is at c.first_word.ensures in
    start_no_word c.args.depth c.in-Some.level c.args.line.now c.first_word.result.0.now all c.in-Some.ensures

pub returns-in_default-read_kind : goal.returns-in_default-read_kind
returns-in_default-read_kind c =
    let first : words c.args.line.now ≡ c.first_word.result.0.now ∷ words c.in-Some-rest.rest.now = rw c.in-Some-rest.is at c.first_word.ensures in
    let all : words c.args.line.now ≡ c.first_word.result.0.now ∷ c.first_word-2.result.0.now ∷ _ = rw c.first_word-2.ensures at first in
    start_no_kind c.args.depth c.in-Some.level c.args.line.now c.first_word.result.0.now c.first_word-2.result.0.now _ all c.in-Some.ensures c.in_default-read_kind.ensures
