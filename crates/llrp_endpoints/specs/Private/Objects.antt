-- The members of a tag's object, one after another, and the object of both totals.
use Rattle.std.specs.Prelude.{◌≡◌, ℕ, Bool, true, false, List, [], ◌++◌, codes, decimal, Option, Some, None}
use Rattle.std.specs.List.{flat_map}
use Rattle.std.specs.Option.{option_or}
use Rattle.llrp_schema.specs.declared.kinds.ParamKind.TheVariants.{Epc96, EpcData, AntennaId, PeakRssi}
use Rattle.llrp_session.specs.RoSpec.{first_of}
use Rattle.llrp_tree.specs.Tree.{Tree}
use Rattle.llrp_endpoints.specs.TagLines.{IsEpcText, members_text, other_kinds, other_member}

-- the name of a member, after a comma where others come before
abbrev pub name_text : Bool → List ℕ → List ℕ
name_text false name = codes "\"" ++ (name ++ codes "\":")
name_text true name = codes ",\"" ++ (name ++ codes "\":")

-- text between quotes
abbrev pub quoted : List ℕ → List ℕ
quoted text = codes "\"" ++ (text ++ codes "\"")

-- what is added for a part, after others or as the first
abbrev pub added : Bool → List ℕ → Option Tree → List ℕ → List ℕ
added begun name None value = []
added begun name (Some t) value = name_text begun name ++ value

-- the member of the EPC of a tag with this text of it, if it has one
abbrev pub epc_member : Tree → List ℕ → List ℕ
epc_member tag epc = added false (codes "epc") (option_or (first_of Epc96 tag) (first_of EpcData tag)) (quoted epc)

-- the members that each object has, of a tag with this text of its EPC
abbrev pub members_of : Tree → List ℕ → List ℕ
members_of tag epc = members_text (option_or (first_of Epc96 tag) (first_of EpcData tag)) (first_of AntennaId tag) (first_of PeakRssi tag) epc

-- the line of a tag up to the end of its object
abbrev pub full_members : Tree → List ℕ → List ℕ
full_members tag epc = codes "{" ++ (members_of tag epc ++ flat_map (other_member tag) other_kinds)

-- what is made of the text of a tag's EPC was appended
abbrev pub AppendsWithEpc : Tree → (List ℕ → List ℕ) → List ℕ → List ℕ → Type 0
AppendsWithEpc tag made old new = (epc : List ℕ) × IsEpcText (first_of Epc96 tag) (first_of EpcData tag) epc × (new ≡ old ++ made epc)

-- the object of how many tags and how many reports there were, and the line's end
abbrev pub totals_object : ℕ → ℕ → List ℕ
totals_object tags reports = codes "{\"tags\":" ++ (decimal tags ++ (codes ",\"reports\":" ++ (decimal reports ++ codes "}\n")))
