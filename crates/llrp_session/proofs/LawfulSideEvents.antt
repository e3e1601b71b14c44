-- The message of a reader about its antennas, its inputs and other clients is lawful.
use Rattle.std.proofs.Common.{◌≡◌, ℕ, ◌<◌, ◌≤◌, ◌^◌, ◌⊎◌, [], ◌∷◌, refl, arith}
use Rattle.std.proofs.lemmas.Bool.{le-leb}
use Rattle.llrp_schema.specs.declared.kinds.MsgKind.TheVariants.{ReaderEventNotification}
use Rattle.llrp_schema.specs.declared.kinds.ParamKind.TheVariants.{ReaderEventNotificationData, AntennaEvent, GpiEvent, ConnectionAttemptEvent}
use Rattle.llrp_schema.specs.Schema.{number_of, rule_of, message_rule, param_rule, fields_of, tail_of, groups_of, is_tv, key_of, set_of_kind}
use Rattle.llrp_tree.specs.Tree.{Tree, none, forest}
use Rattle.llrp_tree.specs.Lawful.{AreLawful, IsLawfulMessage, body_octets}
use Rattle.llrp_tree.specs.Checks.{all_placed, none_too_many, none_missing, table_tests, first_fault, first_message_fault}
use Rattle.llrp_tree.proofs.LawLemmas.{lawful_from}
use Rattle.llrp_session.specs.ReaderMessages.{notification_data}
use Rattle.llrp_session.specs.Calls.SideEvents.{side_event, notification}
use Rattle.llrp_session.specs.declared.reader.side_events.SideEvent.{SideEvent}
use Rattle.llrp_session.specs.declared.reader.side_events.SideEvent.TheVariants.{AntennaOff, AntennaOn, InputLow, InputHigh, OtherClient}
use Rattle.llrp_session.proofs.LawfulMessages.{sendable, time_lawful}

-- ---- parameters

pub antenna_lawful : (event number : ℕ) → event < 2 ^ 8 → number < 2 ^ 16 → AreLawful AntennaEvent (event ∷ number ∷ []) [] none
unfolding first_fault table_tests all_placed none_too_many none_missing rule_of param_rule number_of key_of set_of_kind fields_of tail_of groups_of is_tv body_octets
antenna_lawful event number h g =
    let e = le-leb event 255 (omega arith) in let n = le-leb number 65535 (omega arith) in
    lawful_from AntennaEvent (event ∷ number ∷ []) [] none tt (rw (e, n) refl)

pub input_lawful : (port level : ℕ) → port < 2 ^ 16 → level ≤ 1 → AreLawful GpiEvent (port ∷ level ∷ []) [] none
unfolding first_fault table_tests all_placed none_too_many none_missing rule_of param_rule number_of key_of set_of_kind fields_of tail_of groups_of is_tv body_octets
input_lawful port level h g =
    let p = le-leb port 65535 (omega arith) in let l = le-leb level 1 g in
    lawful_from GpiEvent (port ∷ level ∷ []) [] none tt (rw (p, l) refl)

pub other_lawful : AreLawful ConnectionAttemptEvent (4 ∷ []) [] none
unfolding first_fault table_tests all_placed none_too_many none_missing rule_of param_rule number_of key_of set_of_kind fields_of tail_of groups_of is_tv body_octets
other_lawful = lawful_from ConnectionAttemptEvent (4 ∷ []) [] none tt refl

data_lawful : (now : ℕ) (e : SideEvent) → AreLawful ReaderEventNotificationData [] [] (notification_data now (side_event e)).children
unfolding first_fault table_tests all_placed none_too_many none_missing rule_of param_rule number_of key_of set_of_kind fields_of tail_of groups_of is_tv body_octets
data_lawful now (AntennaOff number) = lawful_from ReaderEventNotificationData [] [] _ tt refl
data_lawful now (AntennaOn number) = lawful_from ReaderEventNotificationData [] [] _ tt refl
data_lawful now (InputLow port) = lawful_from ReaderEventNotificationData [] [] _ tt refl
data_lawful now (InputHigh port) = lawful_from ReaderEventNotificationData [] [] _ tt refl
data_lawful now OtherClient = lawful_from ReaderEventNotificationData [] [] _ tt refl

-- ---- messages

-- the number of the antenna or port is one of 16 bits
abbrev pub Fits : SideEvent → Type 0
Fits (AntennaOff number) = number < 2 ^ 16
Fits (AntennaOn number) = number < 2 ^ 16
Fits (InputLow port) = port < 2 ^ 16
Fits (InputHigh port) = port < 2 ^ 16
Fits OtherClient = Unit {0}

notification_lawful : (v id now : ℕ) (e : SideEvent) → (v ≡ 1) ⊎ (v ≡ 2) → id < 2 ^ 32 → now < 2 ^ 64 → Fits e → IsLawfulMessage (notification v id now e)
unfolding first_message_fault table_tests all_placed none_too_many none_missing rule_of message_rule param_rule number_of key_of set_of_kind fields_of tail_of groups_of is_tv body_octets
notification_lawful v id now (AntennaOff number) version small moment h =
    (sendable v id ReaderEventNotification [] (forest (notification_data now (side_event (AntennaOff number)) ∷ [])) 4096 refl version small
    (tt, data_lawful now (AntennaOff number), ((tt, time_lawful now moment, tt), antenna_lawful 0 number (omega arith) h, tt)) refl (omega arith)).lawful
notification_lawful v id now (AntennaOn number) version small moment h =
    (sendable v id ReaderEventNotification [] (forest (notification_data now (side_event (AntennaOn number)) ∷ [])) 4096 refl version small
    (tt, data_lawful now (AntennaOn number), ((tt, time_lawful now moment, tt), antenna_lawful 1 number (omega arith) h, tt)) refl (omega arith)).lawful
notification_lawful v id now (InputLow port) version small moment h =
    (sendable v id ReaderEventNotification [] (forest (notification_data now (side_event (InputLow port)) ∷ [])) 4096 refl version small
    (tt, data_lawful now (InputLow port), ((tt, time_lawful now moment, tt), input_lawful port 0 h (omega arith), tt)) refl (omega arith)).lawful
notification_lawful v id now (InputHigh port) version small moment h =
    (sendable v id ReaderEventNotification [] (forest (notification_data now (side_event (InputHigh port)) ∷ [])) 4096 refl version small
    (tt, data_lawful now (InputHigh port), ((tt, time_lawful now moment, tt), input_lawful port 1 h (omega arith), tt)) refl (omega arith)).lawful
notification_lawful v id now OtherClient version small moment h =
    (sendable v id ReaderEventNotification [] (forest (notification_data now (side_event OtherClient) ∷ [])) 4096 refl version small
    (tt, data_lawful now OtherClient, ((tt, time_lawful now moment, tt), other_lawful, tt)) refl (omega arith)).lawful

-- the same of a parameter that is the event
pub lawful_with : (v id now : ℕ) (e : SideEvent) (t : Tree) → t ≡ side_event e → (v ≡ 1) ⊎ (v ≡ 2) → id < 2 ^ 32 → now < 2 ^ 64 → Fits e
    → IsLawfulMessage (record { version = v; id = id; kind = ReaderEventNotification; fields = []; tail = []; children = forest (notification_data now t ∷ []) })
lawful_with v id now e t is version small moment h = rw is (notification_lawful v id now e version small moment h)
