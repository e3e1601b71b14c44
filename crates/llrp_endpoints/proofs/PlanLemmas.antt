-- The parts of a plan's ROSpec are lawful.
use Rattle.std.proofs.Common.{◌≡◌, ℕ, ◌<◌, ◌^◌, List, [], ◌∷◌, refl, sym, ap, ◌∙◌, lit<, arith}
use Rattle.std.specs.Prelude.{Some}
use Rattle.std.proofs.lemmas.Bool.{le-leb}
use Rattle.llrp_schema.specs.declared.kinds.ParamKind.{ParamKind}
use Rattle.llrp_schema.specs.declared.kinds.ParamKind.TheVariants.{RoSpec, RoBoundarySpec, RoSpecStartTrigger, RoSpecStopTrigger, AiSpec, AiSpecStopTrigger, InventoryParameterSpec, RoReportSpec, TagReportContentSelector}
use Rattle.llrp_schema.specs.declared.kinds.Kind.TheVariants.{Parameter}
use Rattle.llrp_schema.specs.Schema.{number_of, rule_of, param_rule, fields_of, plain_fields_of, tail_of, groups_of, is_tv, key_of, set_of_kind}
use Rattle.llrp_tree.specs.declared.node.NodeFault.{NodeFault}
use Rattle.llrp_tree.specs.Tree.{Forest, Tree, none, forest}
use Rattle.llrp_tree.specs.Lawful.{body_octets, tree_octets, AllLawful, AreInRange, AreLawful, IsLawfulTree}
use Rattle.llrp_tree.specs.Checks.{all_placed, none_too_many, none_missing, table_tests, first_fault}
use Rattle.llrp_tree.proofs.LawLemmas.{lawful_from, lawful_to}
use Rattle.llrp_session.specs.ReaderMessages.{parameter}
use Rattle.llrp_endpoints.specs.Plan.{boundary, antenna_inventory, selector, reporting, rospec}

-- lawful parts are not refused
pub not_refused : (kind : ParamKind) (fields tail octets : List ℕ) (children row : List Tree) (fault : NodeFault) → octets ≡ tail → row ≡ children → AreLawful kind fields tail (forest children)
    → first_fault kind fields octets (forest row) ≡ Some fault → ⊥
not_refused kind fields tail octets children row fault t r h e =
    let k = lawful_to kind fields tail (forest children) h in
    let a = ap (λ (x : List ℕ). first_fault kind fields x (forest row)) t in
    let b = ap (λ (x : List Tree). first_fault kind fields tail (forest x)) r in
    let f = sym e ∙ a ∙ b ∙ k in cc

pub start_lawful : AreLawful RoSpecStartTrigger (0 ∷ []) [] none
unfolding first_fault table_tests all_placed none_too_many none_missing rule_of param_rule number_of key_of set_of_kind fields_of tail_of groups_of is_tv body_octets
start_lawful = lawful_from RoSpecStartTrigger (0 ∷ []) [] none tt refl

pub stop_lawful : AreLawful RoSpecStopTrigger (0 ∷ 0 ∷ []) [] none
unfolding first_fault table_tests all_placed none_too_many none_missing rule_of param_rule number_of key_of set_of_kind fields_of tail_of groups_of is_tv body_octets
stop_lawful = lawful_from RoSpecStopTrigger (0 ∷ 0 ∷ []) [] none tt refl

pub antenna_stop_lawful : AreLawful AiSpecStopTrigger (0 ∷ 0 ∷ []) [] none
unfolding first_fault table_tests all_placed none_too_many none_missing rule_of param_rule number_of key_of set_of_kind fields_of tail_of groups_of is_tv body_octets
antenna_stop_lawful = lawful_from AiSpecStopTrigger (0 ∷ 0 ∷ []) [] none tt refl

pub inventory_lawful : AreLawful InventoryParameterSpec (1 ∷ 1 ∷ []) [] none
unfolding first_fault table_tests all_placed none_too_many none_missing rule_of param_rule number_of key_of set_of_kind fields_of tail_of groups_of is_tv body_octets
inventory_lawful = lawful_from InventoryParameterSpec (1 ∷ 1 ∷ []) [] none tt refl

pub selector_lawful : AreLawful TagReportContentSelector (0 ∷ 0 ∷ 0 ∷ 1 ∷ 0 ∷ 1 ∷ 0 ∷ 0 ∷ 0 ∷ 0 ∷ []) [] none
unfolding first_fault table_tests all_placed none_too_many none_missing rule_of param_rule number_of key_of set_of_kind fields_of tail_of groups_of is_tv body_octets
selector_lawful = lawful_from TagReportContentSelector (0 ∷ 0 ∷ 0 ∷ 1 ∷ 0 ∷ 1 ∷ 0 ∷ 0 ∷ 0 ∷ 0 ∷ []) [] none tt refl

boundary_lawful : IsLawfulTree boundary
unfolding first_fault table_tests all_placed none_too_many none_missing rule_of param_rule number_of key_of set_of_kind fields_of tail_of groups_of is_tv body_octets
boundary_lawful =
    let parts : AllLawful boundary.children = ((tt, start_lawful, tt), stop_lawful, tt) in
    (lawful_from RoBoundarySpec [] [] boundary.children tt refl, parts)

antenna_lawful : IsLawfulTree antenna_inventory
unfolding first_fault table_tests all_placed none_too_many none_missing rule_of param_rule number_of key_of set_of_kind fields_of tail_of groups_of is_tv body_octets
antenna_lawful =
    let parts : AllLawful antenna_inventory.children = ((tt, antenna_stop_lawful, tt), inventory_lawful, tt) in
    (lawful_from AiSpec [] (0 ∷ 0 ∷ []) antenna_inventory.children (lit< tt, (lit< tt, tt)) refl, parts)

reporting_lawful : (every : ℕ) → every < 2 ^ 16 → IsLawfulTree (reporting every)
unfolding first_fault table_tests all_placed none_too_many none_missing rule_of param_rule number_of key_of set_of_kind fields_of tail_of groups_of is_tv body_octets
reporting_lawful every h =
    let e = le-leb every 65535 (omega arith) in
    let parts : AllLawful (reporting every).children = (tt, selector_lawful, tt) in
    (lawful_from RoReportSpec (2 ∷ every ∷ []) [] (reporting every).children tt (rw e refl), parts)

pub rospec_lawful : (every : ℕ) → every < 2 ^ 16 → IsLawfulTree (rospec every)
unfolding rospec first_fault table_tests all_placed none_too_many none_missing rule_of param_rule number_of key_of set_of_kind fields_of tail_of groups_of is_tv body_octets
rospec_lawful every h =
    let r = reporting_lawful every h in
    let parts : AllLawful (rospec every).children = (((tt, boundary_lawful.0, boundary_lawful.1), antenna_lawful.0, antenna_lawful.1), r.0, r.1) in
    (lawful_from RoSpec (1 ∷ 0 ∷ 0 ∷ []) [] (forest (boundary ∷ antenna_inventory ∷ reporting every ∷ [])) tt refl, parts)

-- with what a standard plan has below it a ROSpec is lawful, whatever its fields are
abbrev pub kept_parts : Forest
kept_parts = forest (boundary ∷ antenna_inventory ∷ [])

pub kept_parts_lawful : AllLawful kept_parts
kept_parts_lawful = ((tt, boundary_lawful.0, boundary_lawful.1), antenna_lawful.0, antenna_lawful.1)

kept_rospec : AreLawful RoSpec (1 ∷ 0 ∷ 0 ∷ []) [] kept_parts
unfolding first_fault table_tests all_placed none_too_many none_missing rule_of param_rule number_of key_of set_of_kind fields_of tail_of groups_of is_tv body_octets
kept_rospec = lawful_from RoSpec (1 ∷ 0 ∷ 0 ∷ []) [] kept_parts tt refl

pub kept_lawful : (fields : List ℕ) → AreInRange (plain_fields_of (Parameter RoSpec)) fields → AreLawful RoSpec fields [] kept_parts
unfolding tail_of rule_of param_rule
kept_lawful fields ranges =
    let k = kept_rospec in
    record { obeys = record { ranges = ranges; form = refl; bytes = tt; placed = k.obeys.placed; most = k.obeys.most; least = k.obeys.least }; deep = k.deep; long = k.long }

pub rospec_octets : (every : ℕ) → tree_octets (rospec every) ≡ 65
unfolding rospec body_octets number_of key_of set_of_kind rule_of param_rule fields_of is_tv tail_of
rospec_octets every = refl

pub rospec_kind : (every : ℕ) → (rospec every).kind ≡ RoSpec
unfolding rospec
rospec_kind every = refl

-- ---- as the code makes them

pub boundary_parts : (tail : List ℕ) (items : List Tree) (start stop : Tree) → tail ≡ [] → items ≡ start ∷ stop ∷ [] → start ≡ parameter RoSpecStartTrigger (0 ∷ []) [] → stop ≡ parameter RoSpecStopTrigger (0 ∷ 0 ∷ []) []
    → AreLawful RoBoundarySpec [] tail (forest items)
boundary_parts tail items start stop t i a b = rw (t, i, a, b) boundary_lawful.0

pub antenna_parts : (tail : List ℕ) (items : List Tree) (stop inventory : Tree) → tail ≡ 0 ∷ 0 ∷ [] → items ≡ stop ∷ inventory ∷ [] → stop ≡ parameter AiSpecStopTrigger (0 ∷ 0 ∷ []) [] → inventory ≡ parameter InventoryParameterSpec (1 ∷ 1 ∷ []) []
    → AreLawful AiSpec [] tail (forest items)
antenna_parts tail items stop inventory t i a b = rw (t, i, a, b) antenna_lawful.0

pub reporting_parts : (every : ℕ) (tail : List ℕ) (items : List Tree) (part : Tree) → every < 2 ^ 16 → tail ≡ [] → items ≡ part ∷ [] → part ≡ selector
    → AreLawful RoReportSpec (2 ∷ every ∷ []) tail (forest items)
reporting_parts every tail items part h t i a = rw (t, i, a) (reporting_lawful every h).0

pub rospec_parts : (every : ℕ) (tail : List ℕ) (items : List Tree) (a b c : Tree) → every < 2 ^ 16 → tail ≡ [] → items ≡ a ∷ b ∷ c ∷ [] → a ≡ boundary → b ≡ antenna_inventory → c ≡ reporting every
    → AreLawful RoSpec (1 ∷ 0 ∷ 0 ∷ []) tail (forest items)
unfolding rospec
rospec_parts every tail items a b c h t i p q r = rw (t, i, p, q, r) (rospec_lawful every h).0
