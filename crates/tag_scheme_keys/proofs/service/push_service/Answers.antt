use Rattle.std.proofs.Common.{◌≤◌, ◌+◌, length, ◌++◌, List, ℕ, ap, ◌∙◌, arith, rules}
use Rattle.tag_uri.proofs.TextLaws.{begins}
use Rattle.tag_scheme_keys.proofs.OlderKeys.{service_written}
use Rattle.tag_scheme_keys.proofs.service.push_service.Goals as goal

pub push_str-requires : goal.push_str-requires
push_str-requires c =
    let is = begins c.service_start.result.now c.as_str.result.now c.in-Some-strip_prefix.rest.now c.in-Some-strip_prefix.ensures.cases ∙ ap (λ (x : List ℕ). x ++ c.in-Some-strip_prefix.rest.now) c.service_start.ensures in
    let w = service_written c.args.spelling c.service.result c.args.epc c.in-Some-strip_prefix.rest.now c.in-Some.key.bytes c.as_str.result.now c.requires.lawful c.requires.scheme c.service.ensures c.in-Some.ensures.some c.as_str.ensures.value is in
    let fits : length c.args.text.now.bytes + length c.in-Some-strip_prefix.rest.now ≤ 72 = omega (arith, w.1, c.requires.room) in
    search (rules, fits)

pub returns : goal.returns
returns c =
    let is = begins c.service_start.result.now c.as_str.result.now c.in-Some-strip_prefix.rest.now c.in-Some-strip_prefix.ensures.cases ∙ ap (λ (x : List ℕ). x ++ c.in-Some-strip_prefix.rest.now) c.service_start.ensures in
    let w = service_written c.args.spelling c.service.result c.args.epc c.in-Some-strip_prefix.rest.now c.in-Some.key.bytes c.as_str.result.now c.requires.lawful c.requires.scheme c.service.ensures c.in-Some.ensures.some c.as_str.ensures.value is in
    c.push_str.ensures.bytes ∙ ap (λ (x : List ℕ). c.args.text.now.bytes ++ x) w.0
