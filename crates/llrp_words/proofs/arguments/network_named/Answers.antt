use Rattle.std.proofs.Common.{◌∙◌, rules, ◌≡◌, ap, codes, Some}
use Rattle.clap.specs.Words.{Text, found_of, rows_of}
use Rattle.clap.proofs.WalkLemmas.{one_text-rows}
use Rattle.llrp_words.proofs.ArgumentLemmas.{inventory_there, named_network, plan_there, reads_flag}
use Rattle.llrp_words.proofs.CommandLemmas.{has_flag}
use Rattle.llrp_words.specs.Private.Parse.{HasAccess, HasAsk, HasStop, HasWatch, HasWord}
use Rattle.llrp_words.proofs.arguments.network_named.Goals as goal

pub returns-then-eq-clause-command : goal.returns-then-eq-clause-command
returns-then-eq-clause-command c =
    let named : c.args.name.now ≡ codes "sim" = search rules in
    (ap (λ (n : Text). Some n) named, c.sim_words.ensures c.args.name.now)

pub sim_words-requires : goal.sim_words-requires
sim_words-requires c =
    let named : c.args.name.now ≡ codes "sim" = search rules in
    named_network c.args.name.now (codes "sim") (rows_of (found_of c.args.inner.now)) c.requires named

pub host-requires : goal.host-requires
host-requires c =
    let named : c.args.name.now ≡ codes "watch" = search rules in
    let has : HasWord (codes "HOST") (rows_of (found_of c.args.inner.now)) × HasWatch (rows_of (found_of c.args.inner.now)) = named_network c.args.name.now (codes "watch") _ c.requires named in
    has.0

pub watch_words-requires : goal.watch_words-requires
watch_words-requires c =
    let named : c.args.name.now ≡ codes "watch" = search rules in
    let has : HasWord (codes "HOST") (rows_of (found_of c.args.inner.now)) × HasWatch (rows_of (found_of c.args.inner.now)) = named_network c.args.name.now (codes "watch") _ c.requires named in
    has.1

pub returns-then-eq-2-clause-command : goal.returns-then-eq-2-clause-command
returns-then-eq-2-clause-command c =
    let named : c.args.name.now ≡ codes "watch" = search rules in
    (ap (λ (n : Text). Some n) named, c.host.ensures c.args.name.now, c.watch_words.ensures.words c.args.name.now)

pub host-requires-then-eq-3 : goal.host-requires-then-eq-3
host-requires-then-eq-3 c =
    let named : c.args.name.now ≡ codes "stop" = search rules in
    let has : HasWord (codes "HOST") (rows_of (found_of c.args.inner.now)) × HasStop (rows_of (found_of c.args.inner.now)) = named_network c.args.name.now (codes "stop") _ c.requires named in
    has.0

pub stop_words-requires : goal.stop_words-requires
stop_words-requires c =
    let named : c.args.name.now ≡ codes "stop" = search rules in
    let has : HasWord (codes "HOST") (rows_of (found_of c.args.inner.now)) × HasStop (rows_of (found_of c.args.inner.now)) = named_network c.args.name.now (codes "stop") _ c.requires named in
    has.1

pub returns-then-eq-3-clause-command : goal.returns-then-eq-3-clause-command
returns-then-eq-3-clause-command c =
    let named : c.args.name.now ≡ codes "stop" = search rules in
    (ap (λ (n : Text). Some n) named, c.host-then-eq-3.ensures c.args.name.now, c.stop_words.ensures c.args.name.now)

pub host-requires-then-eq-4 : goal.host-requires-then-eq-4
host-requires-then-eq-4 c =
    let named : c.args.name.now ≡ codes "ask" = search rules in
    let has : HasWord (codes "HOST") (rows_of (found_of c.args.inner.now)) × HasAsk (rows_of (found_of c.args.inner.now)) = named_network c.args.name.now (codes "ask") _ c.requires named in
    has.0

pub ask_words-requires : goal.ask_words-requires
ask_words-requires c =
    let named : c.args.name.now ≡ codes "ask" = search rules in
    let has : HasWord (codes "HOST") (rows_of (found_of c.args.inner.now)) × HasAsk (rows_of (found_of c.args.inner.now)) = named_network c.args.name.now (codes "ask") _ c.requires named in
    has.1

pub returns-then-eq-4-clause-command : goal.returns-then-eq-4-clause-command
returns-then-eq-4-clause-command c =
    let named : c.args.name.now ≡ codes "ask" = search rules in
    (ap (λ (n : Text). Some n) named, c.host-then-eq-4.ensures c.args.name.now, c.ask_words.ensures c.args.name.now)

pub host-requires-then-eq-5 : goal.host-requires-then-eq-5
host-requires-then-eq-5 c =
    let named : c.args.name.now ≡ codes "access" = search rules in
    let has : HasWord (codes "HOST") (rows_of (found_of c.args.inner.now)) × HasAccess (rows_of (found_of c.args.inner.now)) = named_network c.args.name.now (codes "access") _ c.requires named in
    has.0

pub access_words-requires : goal.access_words-requires
access_words-requires c =
    let named : c.args.name.now ≡ codes "access" = search rules in
    let has : HasWord (codes "HOST") (rows_of (found_of c.args.inner.now)) × HasAccess (rows_of (found_of c.args.inner.now)) = named_network c.args.name.now (codes "access") _ c.requires named in
    has.1

pub returns-then-eq-5-clause-command : goal.returns-then-eq-5-clause-command
returns-then-eq-5-clause-command c =
    let named : c.args.name.now ≡ codes "access" = search rules in
    (ap (λ (n : Text). Some n) named, c.host-then-eq-5.ensures c.args.name.now, c.access_words.ensures c.args.name.now)

pub plan_words-plan-requires : goal.plan_words-plan-requires
plan_words-plan-requires c =
    let no_sim : c.args.name.now ≡ codes "sim" → ⊥ = search rules in
    let no_watch : c.args.name.now ≡ codes "watch" → ⊥ = search rules in
    let no_stop : c.args.name.now ≡ codes "stop" → ⊥ = search rules in
    let no_ask : c.args.name.now ≡ codes "ask" → ⊥ = search rules in
    let no_access : c.args.name.now ≡ codes "access" → ⊥ = search rules in
    plan_there c.args.name.now (rows_of (found_of c.args.inner.now)) c.requires no_sim no_watch no_stop no_ask no_access

pub returns-then-eq-6-clause-command : goal.returns-then-eq-6-clause-command
returns-then-eq-6-clause-command c =
    let named : c.args.name.now ≡ codes "loop" = search rules in
    (ap (λ (n : Text). Some n) named, c.plan_words-plan.ensures c.args.name.now)

pub host-requires-2 : goal.host-requires-2
host-requires-2 c =
    let no_sim : c.args.name.now ≡ codes "sim" → ⊥ = search rules in
    let no_watch : c.args.name.now ≡ codes "watch" → ⊥ = search rules in
    let no_stop : c.args.name.now ≡ codes "stop" → ⊥ = search rules in
    let no_ask : c.args.name.now ≡ codes "ask" → ⊥ = search rules in
    let no_access : c.args.name.now ≡ codes "access" → ⊥ = search rules in
    let no_loop : c.args.name.now ≡ codes "loop" → ⊥ = search rules in
    (inventory_there c.args.name.now (rows_of (found_of c.args.inner.now)) c.requires no_sim no_watch no_stop no_ask no_access no_loop).1.0

pub number-requires : goal.number-requires
number-requires c =
    let no_sim : c.args.name.now ≡ codes "sim" → ⊥ = search rules in
    let no_watch : c.args.name.now ≡ codes "watch" → ⊥ = search rules in
    let no_stop : c.args.name.now ≡ codes "stop" → ⊥ = search rules in
    let no_ask : c.args.name.now ≡ codes "ask" → ⊥ = search rules in
    let no_access : c.args.name.now ≡ codes "access" → ⊥ = search rules in
    let no_loop : c.args.name.now ≡ codes "loop" → ⊥ = search rules in
    (inventory_there c.args.name.now (rows_of (found_of c.args.inner.now)) c.requires no_sim no_watch no_stop no_ask no_access no_loop).1.1

pub returns-clause-command : goal.returns-clause-command
returns-clause-command c =
    let no_sim : c.args.name.now ≡ codes "sim" → ⊥ = search rules in
    let no_watch : c.args.name.now ≡ codes "watch" → ⊥ = search rules in
    let no_stop : c.args.name.now ≡ codes "stop" → ⊥ = search rules in
    let no_ask : c.args.name.now ≡ codes "ask" → ⊥ = search rules in
    let no_access : c.args.name.now ≡ codes "access" → ⊥ = search rules in
    let no_loop : c.args.name.now ≡ codes "loop" → ⊥ = search rules in
    let there = inventory_there c.args.name.now (rows_of (found_of c.args.inner.now)) c.requires no_sim no_watch no_stop no_ask no_access no_loop in
    let verbose = one_text-rows (found_of c.args.inner.now) (codes "verbose") in (
      ap (λ (n : Text). Some n) there.0,
      c.host-2.ensures c.args.name.now,
      c.number.ensures c.args.name.now,
      c.plan_words-plan.ensures c.args.name.now,
      c.optional_number.ensures c.args.name.now,
      c.longest.ensures.number c.args.name.now,
      reads_flag _ c.get_flag.result (has_flag _ c.get_flag.result (λ h. c.get_flag.ensures.none (verbose ∙ h)) (λ h. c.get_flag.ensures.value (verbose ∙ h)) (λ h. c.get_flag.ensures.other (verbose ∙ h))) there.1.5,
      (reads_flag _ c.label_words.result.keys (c.label_words.ensures c.args.name.now).0 there.1.6, (c.label_words.ensures c.args.name.now).1),
    )

pub longest-requires : goal.longest-requires
longest-requires c =
    let no_sim : c.args.name.now ≡ codes "sim" → ⊥ = search rules in
    let no_watch : c.args.name.now ≡ codes "watch" → ⊥ = search rules in
    let no_stop : c.args.name.now ≡ codes "stop" → ⊥ = search rules in
    let no_ask : c.args.name.now ≡ codes "ask" → ⊥ = search rules in
    let no_access : c.args.name.now ≡ codes "access" → ⊥ = search rules in
    let no_loop : c.args.name.now ≡ codes "loop" → ⊥ = search rules in
    (inventory_there c.args.name.now (rows_of (found_of c.args.inner.now)) c.requires no_sim no_watch no_stop no_ask no_access no_loop).1.4

pub optional_number-requires : goal.optional_number-requires
optional_number-requires c =
    let no_sim : c.args.name.now ≡ codes "sim" → ⊥ = search rules in
    let no_watch : c.args.name.now ≡ codes "watch" → ⊥ = search rules in
    let no_stop : c.args.name.now ≡ codes "stop" → ⊥ = search rules in
    let no_ask : c.args.name.now ≡ codes "ask" → ⊥ = search rules in
    let no_access : c.args.name.now ≡ codes "access" → ⊥ = search rules in
    let no_loop : c.args.name.now ≡ codes "loop" → ⊥ = search rules in
    (inventory_there c.args.name.now (rows_of (found_of c.args.inner.now)) c.requires no_sim no_watch no_stop no_ask no_access no_loop).1.3
