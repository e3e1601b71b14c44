-- The report of a sighting is a TagReportData that may be sent.
use Rattle.std.proofs.Common.{◌≡◌, ℕ, ◌+◌, ◌^◌, ◌<◌, ◌≤◌, refl, Bool, true, false, cond, List, [], ◌∷◌, ◌++◌, arith, lit≤}
use Rattle.llrp_schema.specs.declared.kinds.ParamKind.{ParamKind}
use Rattle.llrp_schema.specs.declared.kinds.ParamKind.TheVariants.{TagReportData, Epc96, RoSpecId, SpecIndex, InventoryParameterSpecId, AntennaId, ChannelIndex, PeakRssi, FirstSeenTimestampUtc, LastSeenTimestampUtc, TagSeenCount}
use Rattle.llrp_schema.specs.declared.kinds.Kind.TheVariants.{Parameter}
use Rattle.llrp_schema.specs.Schema.{GroupRule, rule_of, param_rule, number_of, fields_of, tail_of, groups_of, is_tv, key_of, set_of_kind}
use Rattle.llrp_tree.specs.Tree.{Forest, none, Tree, add, add_all, forest}
use Rattle.llrp_tree.specs.Lawful.{levels, octets, tree_octets, body_octets, is_member, count, has_place, ArePlaced, NoneTooMany, NoneMissing, AllLawful, IsLawfulTree}
use Rattle.llrp_session.specs.RoSpec.{RoSpec, ContentSelector}
use Rattle.llrp_session.specs.TagReport.{Sighting, value_parameter, if_selected, report_parts, signed_octet, tag_report}
use Rattle.llrp_session.specs.Calls.LawfulWords.{IsReport}
use Rattle.llrp_session.specs.Calls.LawfulWords.{IsToldOf}
use Rattle.llrp_session.specs.MessageWorld.{IsLawfulSighting}

-- ---- parts of a TagReportData

pub record IsPart (t : Tree) : Type 0 where
  pub lawful : IsLawfulTree t
  pub placed : has_place (groups_of (Parameter TagReportData)) t.kind ≡ true
  pub leaf : levels t.children ≡ 0

abbrev AreParts : List Tree → Type 0
AreParts [] = Unit {0}
AreParts (t ∷ ts) = IsPart t × AreParts ts

-- ---- the parts one by one

pub epc_part : (v : ℕ) → v < 2 ^ 96 → IsPart (value_parameter Epc96 v)
unfolding rule_of param_rule number_of key_of set_of_kind fields_of tail_of groups_of body_octets is_tv ArePlaced NoneTooMany NoneMissing
epc_part v h = record { lawful = (record { obeys = record { ranges = (omega arith, tt); form = refl; bytes = tt; placed = tt; most = tt; least = tt }; deep = lit≤ tt; long = lit≤ tt }, tt); placed = refl; leaf = refl }

pub rospec_id_part : (v : ℕ) → v < 2 ^ 32 → IsPart (value_parameter RoSpecId v)
unfolding rule_of param_rule number_of key_of set_of_kind fields_of tail_of groups_of body_octets is_tv ArePlaced NoneTooMany NoneMissing
rospec_id_part v h = record { lawful = (record { obeys = record { ranges = (omega arith, tt); form = refl; bytes = tt; placed = tt; most = tt; least = tt }; deep = lit≤ tt; long = lit≤ tt }, tt); placed = refl; leaf = refl }

pub spec_index_part : (v : ℕ) → v < 2 ^ 16 → IsPart (value_parameter SpecIndex v)
unfolding rule_of param_rule number_of key_of set_of_kind fields_of tail_of groups_of body_octets is_tv ArePlaced NoneTooMany NoneMissing
spec_index_part v h = record { lawful = (record { obeys = record { ranges = (omega arith, tt); form = refl; bytes = tt; placed = tt; most = tt; least = tt }; deep = lit≤ tt; long = lit≤ tt }, tt); placed = refl; leaf = refl }

pub inventory_part : (v : ℕ) → v < 2 ^ 16 → IsPart (value_parameter InventoryParameterSpecId v)
unfolding rule_of param_rule number_of key_of set_of_kind fields_of tail_of groups_of body_octets is_tv ArePlaced NoneTooMany NoneMissing
inventory_part v h = record { lawful = (record { obeys = record { ranges = (omega arith, tt); form = refl; bytes = tt; placed = tt; most = tt; least = tt }; deep = lit≤ tt; long = lit≤ tt }, tt); placed = refl; leaf = refl }

pub antenna_part : (v : ℕ) → v < 2 ^ 16 → IsPart (value_parameter AntennaId v)
unfolding rule_of param_rule number_of key_of set_of_kind fields_of tail_of groups_of body_octets is_tv ArePlaced NoneTooMany NoneMissing
antenna_part v h = record { lawful = (record { obeys = record { ranges = (omega arith, tt); form = refl; bytes = tt; placed = tt; most = tt; least = tt }; deep = lit≤ tt; long = lit≤ tt }, tt); placed = refl; leaf = refl }

pub channel_part : (v : ℕ) → v < 2 ^ 16 → IsPart (value_parameter ChannelIndex v)
unfolding rule_of param_rule number_of key_of set_of_kind fields_of tail_of groups_of body_octets is_tv ArePlaced NoneTooMany NoneMissing
channel_part v h = record { lawful = (record { obeys = record { ranges = (omega arith, tt); form = refl; bytes = tt; placed = tt; most = tt; least = tt }; deep = lit≤ tt; long = lit≤ tt }, tt); placed = refl; leaf = refl }

pub rssi_part : (v : ℕ) → v < 2 ^ 8 → IsPart (value_parameter PeakRssi v)
unfolding rule_of param_rule number_of key_of set_of_kind fields_of tail_of groups_of body_octets is_tv ArePlaced NoneTooMany NoneMissing
rssi_part v h = record { lawful = (record { obeys = record { ranges = (omega arith, tt); form = refl; bytes = tt; placed = tt; most = tt; least = tt }; deep = lit≤ tt; long = lit≤ tt }, tt); placed = refl; leaf = refl }

pub first_seen_part : (v : ℕ) → v < 2 ^ 64 → IsPart (value_parameter FirstSeenTimestampUtc v)
unfolding rule_of param_rule number_of key_of set_of_kind fields_of tail_of groups_of body_octets is_tv ArePlaced NoneTooMany NoneMissing
first_seen_part v h = record { lawful = (record { obeys = record { ranges = (omega arith, tt); form = refl; bytes = tt; placed = tt; most = tt; least = tt }; deep = lit≤ tt; long = lit≤ tt }, tt); placed = refl; leaf = refl }

pub last_seen_part : (v : ℕ) → v < 2 ^ 64 → IsPart (value_parameter LastSeenTimestampUtc v)
unfolding rule_of param_rule number_of key_of set_of_kind fields_of tail_of groups_of body_octets is_tv ArePlaced NoneTooMany NoneMissing
last_seen_part v h = record { lawful = (record { obeys = record { ranges = (omega arith, tt); form = refl; bytes = tt; placed = tt; most = tt; least = tt }; deep = lit≤ tt; long = lit≤ tt }, tt); placed = refl; leaf = refl }

pub seen_count_part : (v : ℕ) → v < 2 ^ 16 → IsPart (value_parameter TagSeenCount v)
unfolding rule_of param_rule number_of key_of set_of_kind fields_of tail_of groups_of body_octets is_tv ArePlaced NoneTooMany NoneMissing
seen_count_part v h = record { lawful = (record { obeys = record { ranges = (omega arith, tt); form = refl; bytes = tt; placed = tt; most = tt; least = tt }; deep = lit≤ tt; long = lit≤ tt }, tt); placed = refl; leaf = refl }

-- ---- parts in a row

parts-append : (xs ys : List Tree) → AreParts xs → AreParts ys → AreParts (xs ++ ys)
parts-append [] ys h g = g
parts-append (x ∷ xs) ys h g = (h.0, parts-append xs ys h.1 g)

parts-selected : (chosen : Bool) (kind : ParamKind) (v : ℕ) → IsPart (value_parameter kind v) → AreParts (if_selected chosen kind v)
parts-selected true kind v h = (h, tt)
parts-selected false kind v h = tt

lawful-add_all : (before : Forest) (ts : List Tree) → AllLawful before → AreParts ts → AllLawful (add_all before ts)
lawful-add_all before [] h g = h
lawful-add_all before (t ∷ ts) h g = lawful-add_all (add before t) ts (h, g.0.lawful.0, g.0.lawful.1) g.1

placed-add_all : (before : Forest) (ts : List Tree) → ArePlaced (groups_of (Parameter TagReportData)) before → AreParts ts → ArePlaced (groups_of (Parameter TagReportData)) (add_all before ts)
unfolding ArePlaced
placed-add_all before [] h g = h
placed-add_all before (t ∷ ts) h g = placed-add_all (add before t) ts (h, g.0.placed) g.1

levels-add_all : (before : Forest) (ts : List Tree) → levels before ≤ 1 → AreParts ts → levels (add_all before ts) ≤ 1
levels-add_all before [] h g = h
levels-add_all before (t ∷ ts) h g = let leaf = g.0.leaf in levels-add_all (add before t) ts (omega arith) g.1

-- ---- what is summed over parts

abbrev total : (Tree → ℕ) → List Tree → ℕ
total m [] = 0
total m (t ∷ ts) = m t + total m ts

total-append : (m : Tree → ℕ) (xs ys : List Tree) → total m (xs ++ ys) ≡ total m xs + total m ys
total-append m [] ys = omega arith
total-append m (x ∷ xs) ys = omega (arith, total-append m xs ys)

total-selected : (m : Tree → ℕ) (chosen : Bool) (kind : ParamKind) (v : ℕ) → total m (if_selected chosen kind v) ≤ m (value_parameter kind v)
total-selected m true kind v = omega arith
total-selected m false kind v = omega arith

abbrev is_of : GroupRule → Tree → ℕ
is_of group t = cond (is_member group t.kind) 1 0

octets-add_all : (before : Forest) (ts : List Tree) → octets (add_all before ts) ≡ octets before + total tree_octets ts
octets-add_all before [] = omega arith
octets-add_all before (t ∷ ts) = omega (arith, octets-add_all (add before t) ts)

count-add : (group : GroupRule) (before : Forest) (t : Tree) → count group (add before t) ≡ count group before + is_of group t
unfolding count
count-add group before t = elim (is_member group t.kind) as (λ b. cond b (count group before + 1) (count group before) ≡ count group before + cond b 1 0) [ true ↦ refl | false ↦ omega arith ]

count-add_all : (group : GroupRule) (before : Forest) (ts : List Tree) → count group (add_all before ts) ≡ count group before + total (is_of group) ts
count-add_all group before [] = omega arith
count-add_all group before (t ∷ ts) = omega (arith, count-add_all group (add before t) ts, count-add group before t)

-- ---- a report's parts

are_parts : (now : ℕ) (s : RoSpec) (c : ContentSelector) (g : Sighting) → now < 2 ^ 64 → IsToldOf s → IsLawfulSighting g → AreParts (report_parts now s c g)
are_parts now s c g moment told l = (
  epc_part g.epc l.epc,
  parts-append _ _ (parts-append _ _ (parts-append _ _ (parts-append _ _ (parts-append _ _ (parts-append _ _ (parts-append _ _ (parts-append _ _
      (parts-selected c.rospec_id RoSpecId s.id (rospec_id_part s.id told.id))
      (parts-selected c.spec_index SpecIndex 1 (spec_index_part 1 (omega arith))))
      (parts-selected c.inventory_parameter_spec_id InventoryParameterSpecId s.inventory (inventory_part s.inventory told.inventory)))
      (parts-selected c.antenna_id AntennaId g.antenna (antenna_part g.antenna l.antenna)))
      (parts-selected c.channel_index ChannelIndex 1 (channel_part 1 (omega arith))))
      (parts-selected c.peak_rssi PeakRssi (signed_octet g.rssi) (rssi_part (signed_octet g.rssi) l.rssi)))
      (parts-selected c.first_seen FirstSeenTimestampUtc now (first_seen_part now moment)))
      (parts-selected c.last_seen LastSeenTimestampUtc now (last_seen_part now moment)))
      (parts-selected c.tag_seen_count TagSeenCount 1 (seen_count_part 1 (omega arith))),
)

-- a sum over the parts, against the sum over all ten
abbrev over_ten : (Tree → ℕ) → ℕ → RoSpec → Sighting → ℕ
over_ten m now s g =
    m (value_parameter Epc96 g.epc) + m (value_parameter RoSpecId s.id) + m (value_parameter SpecIndex 1) + m (value_parameter InventoryParameterSpecId s.inventory)
    + m (value_parameter AntennaId g.antenna) + m (value_parameter ChannelIndex 1) + m (value_parameter PeakRssi (signed_octet g.rssi))
    + m (value_parameter FirstSeenTimestampUtc now) + m (value_parameter LastSeenTimestampUtc now) + m (value_parameter TagSeenCount 1)

joined : (m : Tree → ℕ) (xs ys : List Tree) (i j : ℕ) → total m xs ≤ i → total m ys ≤ j → total m (xs ++ ys) ≤ i + j
joined m xs ys i j h g = omega (arith, total-append m xs ys)

total-report_parts : (m : Tree → ℕ) (now : ℕ) (s : RoSpec) (c : ContentSelector) (g : Sighting) → total m (report_parts now s c g) ≤ over_ten m now s g
total-report_parts m now s c g =
    let a = joined m _ _ _ _ (total-selected m c.rospec_id RoSpecId s.id) (total-selected m c.spec_index SpecIndex 1) in
    let b = joined m _ _ _ _ a (total-selected m c.inventory_parameter_spec_id InventoryParameterSpecId s.inventory) in
    let d = joined m _ _ _ _ b (total-selected m c.antenna_id AntennaId g.antenna) in
    let e = joined m _ _ _ _ d (total-selected m c.channel_index ChannelIndex 1) in
    let f = joined m _ _ _ _ e (total-selected m c.peak_rssi PeakRssi (signed_octet g.rssi)) in
    let h = joined m _ _ _ _ f (total-selected m c.first_seen FirstSeenTimestampUtc now) in
    let i = joined m _ _ _ _ h (total-selected m c.last_seen LastSeenTimestampUtc now) in
    let j = joined m _ _ _ _ i (total-selected m c.tag_seen_count TagSeenCount 1) in
    omega (arith, j)

-- the octets after the head of the report
octets_fit : (now : ℕ) (s : RoSpec) (c : ContentSelector) (g : Sighting) → octets (forest (report_parts now s c g)) ≤ 53
unfolding rule_of param_rule number_of key_of set_of_kind fields_of tail_of body_octets is_tv
octets_fit now s c g = let le : total tree_octets (report_parts now s c g) ≤ 53 = total-report_parts tree_octets now s c g in omega (arith, octets-add_all none (report_parts now s c g), le)

few : (now : ℕ) (s : RoSpec) (c : ContentSelector) (g : Sighting) (group : GroupRule) → over_ten (is_of group) now s g ≤ 1 → count group (forest (report_parts now s c g)) ≤ 1
unfolding count
few now s c g group h = let le = total-report_parts (is_of group) now s c g in omega (arith, count-add_all group none (report_parts now s c g), le)

enough : (now : ℕ) (s : RoSpec) (c : ContentSelector) (g : Sighting) (group : GroupRule) → 1 ≤ is_of group (value_parameter Epc96 g.epc) → 1 ≤ count group (forest (report_parts now s c g))
unfolding count
enough now s c g group h = omega (arith, count-add_all group none (report_parts now s c g))

pub report_of_sighting : (now : ℕ) (s : RoSpec) (c : ContentSelector) (g : Sighting) → now < 2 ^ 64 → IsToldOf s → IsLawfulSighting g → IsReport (tag_report now s c g)
unfolding tag_report rule_of param_rule number_of key_of set_of_kind fields_of tail_of groups_of body_octets is_tv NoneTooMany NoneMissing ArePlaced
report_of_sighting now s c g moment told l =
    let parts = report_parts now s c g in
    let are = are_parts now s c g moment told l in
    let deep = levels-add_all none parts (omega arith) are in
    let long = octets_fit now s c g in
    let few_of : (group : GroupRule) → over_ten (is_of group) now s g ≤ 1 → count group (forest parts) ≤ 1 = few now s c g in
    record {
      kind = refl;
      lawful = (
        record {
          obeys = record {
            ranges = tt;
            form = refl;
            bytes = tt;
            placed = placed-add_all none parts tt are;
            most = (few_of _ (lit≤ tt), (few_of _ (lit≤ tt), (few_of _ (lit≤ tt), (few_of _ (lit≤ tt), (few_of _ (lit≤ tt), (few_of _ (lit≤ tt), (few_of _ (lit≤ tt), (few_of _ (lit≤ tt), (few_of _ (lit≤ tt), (few_of _ (lit≤ tt), (few_of _ (lit≤ tt), (few_of _ (lit≤ tt), (few_of _ (lit≤ tt), (tt, (tt, tt)))))))))))))));
            least = (enough now s c g _ (lit≤ tt), (omega arith, (omega arith, (omega arith, (omega arith, (omega arith, (omega arith, (omega arith, (omega arith, (omega arith, (omega arith, (omega arith, (omega arith, (omega arith, (omega arith, tt)))))))))))))));
          };
          deep = omega (arith, deep);
          long = omega (arith, long);
        },
        lawful-add_all none parts tt are,
      );
      short = omega (arith, long);
    }
