-- The ROSpec under which a tag is operated on (LLRP 1.1, section 11).
use Rattle.std.specs.Prelude.{ℕ, [], ◌∷◌}
use Rattle.llrp_schema.specs.declared.kinds.ParamKind.TheVariants.{WholeRoSpec, WholeRoBoundarySpec, WholeRoSpecStartTrigger, WholeRoSpecStopTrigger, WholeAiSpec, WholeAiSpecStopTrigger, WholeInventoryParameterSpec, WholeRoReportSpec, WholeTagReportContentSelector}
use Rattle.llrp_tree.specs.Tree.{Tree, forest}
use Rattle.llrp_operations.specs.Calls.Operations.{leaf, with_children, words_octets}

-- it starts and stops on commands: both triggers are null (0)
abbrev pub boundary : Tree
boundary = with_children WholeRoBoundarySpec [] (leaf WholeRoSpecStartTrigger (0 ∷ []) ∷ leaf WholeRoSpecStopTrigger (0 ∷ 0 ∷ []) ∷ [])

-- at one antenna, or with 0 at all, tags of C1G2 (1), without an end of its own
abbrev pub antenna_spec : (antenna : ℕ) → Tree
antenna_spec antenna = record {
  kind = WholeAiSpec;
  fields = [];
  tail = words_octets (antenna ∷ []);
  children = forest (leaf WholeAiSpecStopTrigger (0 ∷ 0 ∷ []) ∷ leaf WholeInventoryParameterSpec (1 ∷ 1 ∷ []) ∷ []);
}

-- a report after each tag (trigger 1, N 1), with AntennaID, PeakRSSI and AccessSpecID
abbrev pub report_spec : Tree
report_spec = with_children WholeRoReportSpec (1 ∷ 1 ∷ []) (leaf WholeTagReportContentSelector (0 ∷ 0 ∷ 0 ∷ 1 ∷ 0 ∷ 1 ∷ 0 ∷ 0 ∷ 0 ∷ 1 ∷ []) ∷ [])

-- of priority 0, disabled (0)
abbrev pub inventory_spec : (id antenna : ℕ) → Tree
inventory_spec id antenna = with_children WholeRoSpec (id ∷ 0 ∷ 0 ∷ []) (boundary ∷ antenna_spec antenna ∷ report_spec ∷ [])
