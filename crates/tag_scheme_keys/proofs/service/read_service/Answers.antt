use Rattle.std.proofs.Common.{◌≡◌, List, ℕ, subst}
use Rattle.tag_epc.specs.declared.epc.Parts.{Parts}
use Rattle.tag_epc.specs.LawfulWord.{IsLawfulEpc, kind_of_parts}
use Rattle.tag_keys.specs.KeyFaults.{HasKeyFault}
use Rattle.tag_scheme_keys.proofs.OlderKeys.{service_read, parts_with, two_pieces}
use Rattle.tag_scheme_keys.proofs.service.read_service.Goals as goal

pub returns-in-Ok-clause-lawful : goal.returns-in-Ok-clause-lawful
returns-in-Ok-clause-lawful c =
    let lawful = subst (λ (p : Parts). IsLawfulEpc p) c.parts.ensures.parts c.parts.ensures.lawful in
    let parts = subst (λ (p : Parts). p ≡ parts_with (kind_of_parts p) c.numbers_in.result c.numbers_in.result.last) c.parts.ensures.parts c.numbers_in.ensures.parts in
    let text = two_pieces c.as_str.result.now _ _ _ _ _ c.args.rest.now c.as_str.ensures.value c.new-text.ensures c.push_str.ensures.bytes c.push_str-2.ensures.bytes c.service_start.ensures in
    (service_read c.args.spelling c.args.filter c.args.company_digits c.in-Ok.epc c.numbers_in.result c.args.rest.now c.as_str.result.now lawful c.in-Ok.ensures.asked.0 c.in-Ok.ensures.asked.1 c.in-Ok.ensures.ok text c.numbers_in.ensures.scheme parts).is_lawful

pub returns-in-Ok-clause-ok : goal.returns-in-Ok-clause-ok
returns-in-Ok-clause-ok c =
    let lawful = subst (λ (p : Parts). IsLawfulEpc p) c.parts.ensures.parts c.parts.ensures.lawful in
    let parts = subst (λ (p : Parts). p ≡ parts_with (kind_of_parts p) c.numbers_in.result c.numbers_in.result.last) c.parts.ensures.parts c.numbers_in.ensures.parts in
    let text = two_pieces c.as_str.result.now _ _ _ _ _ c.args.rest.now c.as_str.ensures.value c.new-text.ensures c.push_str.ensures.bytes c.push_str-2.ensures.bytes c.service_start.ensures in
    (service_read c.args.spelling c.args.filter c.args.company_digits c.in-Ok.epc c.numbers_in.result c.args.rest.now c.as_str.result.now lawful c.in-Ok.ensures.asked.0 c.in-Ok.ensures.asked.1 c.in-Ok.ensures.ok text c.numbers_in.ensures.scheme parts).text

pub returns-in-Ok-clause-asked : goal.returns-in-Ok-clause-asked
returns-in-Ok-clause-asked c =
    let lawful = subst (λ (p : Parts). IsLawfulEpc p) c.parts.ensures.parts c.parts.ensures.lawful in
    let parts = subst (λ (p : Parts). p ≡ parts_with (kind_of_parts p) c.numbers_in.result c.numbers_in.result.last) c.parts.ensures.parts c.numbers_in.ensures.parts in
    let text = two_pieces c.as_str.result.now _ _ _ _ _ c.args.rest.now c.as_str.ensures.value c.new-text.ensures c.push_str.ensures.bytes c.push_str-2.ensures.bytes c.service_start.ensures in
    let asked = service_read c.args.spelling c.args.filter c.args.company_digits c.in-Ok.epc c.numbers_in.result c.args.rest.now c.as_str.result.now lawful c.in-Ok.ensures.asked.0 c.in-Ok.ensures.asked.1 c.in-Ok.ensures.ok text c.numbers_in.ensures.scheme parts in
    (asked.filter_is, asked.digits_are)

pub returns-in-Err-clause-err : goal.returns-in-Err-clause-err
returns-in-Err-clause-err c =
    subst (λ (t : List ℕ). HasKeyFault c.args.spelling c.args.filter c.args.company_digits t c.in-Err.fault)
    (two_pieces c.as_str.result.now _ _ _ _ _ c.args.rest.now c.as_str.ensures.value c.new-text.ensures c.push_str.ensures.bytes c.push_str-2.ensures.bytes c.service_start.ensures) c.in-Err.ensures.err
