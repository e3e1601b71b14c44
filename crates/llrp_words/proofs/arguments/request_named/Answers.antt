use Rattle.std.proofs.Common.{rules, ◌≡◌, ◌∙◌, ap, codes, Some}
use Rattle.clap.specs.Words.{Text, found_of, rows_of}
use Rattle.clap.proofs.WalkLemmas.{one_text-rows}
use Rattle.llrp_words.proofs.ArgumentLemmas.{named_parse, network_there}
use Rattle.llrp_words.proofs.CommandLemmas.{has_flag}
use Rattle.llrp_words.specs.Private.Parse.{HasExplain}
use Rattle.llrp_words.proofs.arguments.request_named.Goals as goal

pub epc_words-requires : goal.epc_words-requires
epc_words-requires c =
    let named : c.args.name.now ≡ codes "epc" = search rules in
    named_parse c.args.name.now (codes "epc") (rows_of (found_of c.args.inner.now)) c.requires named

pub returns-then-eq-clause-request : goal.returns-then-eq-clause-request
returns-then-eq-clause-request c =
    let named : c.args.name.now ≡ codes "epc" = search rules in
    (ap (λ (n : Text). Some n) named, c.epc_words.ensures.words c.args.name.now)

pub returns-then-eq-2-clause-request : goal.returns-then-eq-2-clause-request
returns-then-eq-2-clause-request c =
    let named : c.args.name.now ≡ codes "show" = search rules in
    (ap (λ (n : Text). Some n) named, c.show_words.ensures.words c.args.name.now)

pub returns-then-eq-3-clause-request : goal.returns-then-eq-3-clause-request
returns-then-eq-3-clause-request c =
    let named : c.args.name.now ≡ codes "encode" = search rules in
    (ap (λ (n : Text). Some n) named, c.encode_words.ensures.words c.args.name.now)

pub show_words-requires : goal.show_words-requires
show_words-requires c =
    let named : c.args.name.now ≡ codes "show" = search rules in
    named_parse c.args.name.now (codes "show") (rows_of (found_of c.args.inner.now)) c.requires named

pub encode_words-requires : goal.encode_words-requires
encode_words-requires c =
    let named : c.args.name.now ≡ codes "encode" = search rules in
    named_parse c.args.name.now (codes "encode") (rows_of (found_of c.args.inner.now)) c.requires named

pub network_named-requires : goal.network_named-requires
network_named-requires c =
    let no_epc : c.args.name.now ≡ codes "epc" → ⊥ = search rules in
    let no_show : c.args.name.now ≡ codes "show" → ⊥ = search rules in
    let no_encode : c.args.name.now ≡ codes "encode" → ⊥ = search rules in
    let no_fields : c.args.name.now ≡ codes "fields" → ⊥ = search rules in
    let no_explain : c.args.name.now ≡ codes "explain" → ⊥ = search rules in
    network_there c.args.name.now (rows_of (found_of c.args.inner.now)) c.requires no_show no_encode no_epc no_fields no_explain

pub returns-then-eq-4-clause-request : goal.returns-then-eq-4-clause-request
returns-then-eq-4-clause-request c =
    let kinds = one_text-rows (found_of c.args.inner.now) (codes "all") in
    let named : c.args.name.now ≡ codes "fields" = search rules in (
      ap (λ (n : Text). Some n) named,
      has_flag _ c.get_flag.result (λ h. c.get_flag.ensures.none (kinds ∙ h)) (λ h. c.get_flag.ensures.value (kinds ∙ h)) (λ h. c.get_flag.ensures.other (kinds ∙ h)),
      c.optional_text.ensures c.args.name.now,
    )

pub returns-then-eq-5-clause-request : goal.returns-then-eq-5-clause-request
returns-then-eq-5-clause-request c =
    let rows = one_text-rows (found_of c.args.inner.now) (codes "hex") in
    let kinds = one_text-rows (found_of c.args.inner.now) (codes "all") in
    let form = one_text-rows (found_of c.args.inner.now) (codes "json") in
    let named : c.args.name.now ≡ codes "explain" = search rules in (
      ap (λ (n : Text). Some n) named,
      has_flag _ c.get_flag-then-eq-5.result (λ h. c.get_flag-then-eq-5.ensures.none (rows ∙ h)) (λ h. c.get_flag-then-eq-5.ensures.value (rows ∙ h)) (λ h. c.get_flag-then-eq-5.ensures.other (rows ∙ h)),
      has_flag _ c.get_flag-then-eq-5-2.result (λ h. c.get_flag-then-eq-5-2.ensures.none (kinds ∙ h)) (λ h. c.get_flag-then-eq-5-2.ensures.value (kinds ∙ h)) (λ h. c.get_flag-then-eq-5-2.ensures.other (kinds ∙ h)),
      has_flag _ c.get_flag-then-eq-5-3.result (λ h. c.get_flag-then-eq-5-3.ensures.none (form ∙ h)) (λ h. c.get_flag-then-eq-5-3.ensures.value (form ∙ h)) (λ h. c.get_flag-then-eq-5-3.ensures.other (form ∙ h)),
      c.limit.ensures.number c.args.name.now,
      c.only_id.ensures c.args.name.now,
    )

pub limit-requires : goal.limit-requires
limit-requires c =
    let named : c.args.name.now ≡ codes "explain" = search rules in
    let has : HasExplain (rows_of (found_of c.args.inner.now)) = named_parse c.args.name.now (codes "explain") _ c.requires named in
    has.0.2

pub only_id-requires : goal.only_id-requires
only_id-requires c =
    let named : c.args.name.now ≡ codes "explain" = search rules in
    let has : HasExplain (rows_of (found_of c.args.inner.now)) = named_parse c.args.name.now (codes "explain") _ c.requires named in
    has.1
