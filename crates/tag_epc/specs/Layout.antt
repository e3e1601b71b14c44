-- The segments of 96-bit EPCs. Source: EPC Tag Data Standard 1.13, section 14.5, "EPC Binary coding tables".
use Rattle.std.specs.Prelude.{ℕ, Bool, true, false, List, [], ◌∷◌, Option, Some, None, option_map, unwrap_or, slice_get, codes}
use Rattle.tag_epc.specs.declared.kind.Kind.{Kind}
use Rattle.tag_epc.specs.declared.kind.Kind.TheVariants.{Sgtin, Sscc, Sgln, Grai, Gdti, Gsrn, Gid}
use Rattle.tag_epc.specs.declared.scheme.Row.{Row}

-- a segment of a word: how many binary digits it has, and how many decimal digits its number has, where the standard fixes them
pub record Segment : Type 0 where
  pub width : ℕ
  pub decimals : Option ℕ

-- a segment of any number
abbrev pub plain_segment : ℕ → Segment
plain_segment w = record { width = w; decimals = None }

-- a segment of a number of this many decimal digits
abbrev pub fixed : ℕ → ℕ → Segment
fixed w k = record { width = w; decimals = Some k }

-- a scheme with a company prefix: its name in tag URIs, its header, its partition table from partition value 0 on, and its last segment, which may be all zeros
pub record Layout : Type 0 where
  pub name : List ℕ
  pub header : ℕ
  pub rows : List Row
  pub last_bits : ℕ
  pub zero_tail : Bool

-- a partition table by its columns: bits and digits of the company prefix, bits and digits of the reference
abbrev pub rows_of : List ℕ → List ℕ → List ℕ → List ℕ → List Row
rows_of (cb ∷ cbs) (cd ∷ cds) (rb ∷ rbs) (rd ∷ rds) = record { company_bits = cb; company_digits = cd; reference_bits = rb; reference_digits = rd } ∷ rows_of cbs cds rbs rds
rows_of [] cds rbs rds = []
rows_of (cb ∷ cbs) [] rbs rds = []
rows_of (cb ∷ cbs) (cd ∷ cds) [] rds = []
rows_of (cb ∷ cbs) (cd ∷ cds) (rb ∷ rbs) [] = []

-- a partition table by its columns of the reference; those of the company prefix are the same in each scheme
abbrev pub partition_table : List ℕ → List ℕ → List Row
partition_table bits digits = rows_of (40 ∷ 37 ∷ 34 ∷ 30 ∷ 27 ∷ 24 ∷ 20 ∷ []) (12 ∷ 11 ∷ 10 ∷ 9 ∷ 8 ∷ 7 ∷ 6 ∷ []) bits digits

-- SGTIN-96: indicator with item reference, then a serial number (14.5.1)
abbrev pub sgtin_96 : Layout
sgtin_96 = record {
  name = codes "sgtin-96";
  header = 0x30;
  rows = partition_table (4 ∷ 7 ∷ 10 ∷ 14 ∷ 17 ∷ 20 ∷ 24 ∷ []) (1 ∷ 2 ∷ 3 ∷ 4 ∷ 5 ∷ 6 ∷ 7 ∷ []);
  last_bits = 38;
  zero_tail = false;
}

-- SSCC-96: extension digit with serial reference, then zeros (14.5.2)
abbrev pub sscc_96 : Layout
sscc_96 = record {
  name = codes "sscc-96";
  header = 0x31;
  rows = partition_table (18 ∷ 21 ∷ 24 ∷ 28 ∷ 31 ∷ 34 ∷ 38 ∷ []) (5 ∷ 6 ∷ 7 ∷ 8 ∷ 9 ∷ 10 ∷ 11 ∷ []);
  last_bits = 24;
  zero_tail = true;
}

-- SGLN-96: location reference, then an extension (14.5.3)
abbrev pub sgln_96 : Layout
sgln_96 = record {
  name = codes "sgln-96";
  header = 0x32;
  rows = partition_table (1 ∷ 4 ∷ 7 ∷ 11 ∷ 14 ∷ 17 ∷ 21 ∷ []) (0 ∷ 1 ∷ 2 ∷ 3 ∷ 4 ∷ 5 ∷ 6 ∷ []);
  last_bits = 41;
  zero_tail = false;
}

-- GRAI-96: asset type, then a serial number (14.5.4)
abbrev pub grai_96 : Layout
grai_96 = record {
  name = codes "grai-96";
  header = 0x33;
  rows = partition_table (4 ∷ 7 ∷ 10 ∷ 14 ∷ 17 ∷ 20 ∷ 24 ∷ []) (0 ∷ 1 ∷ 2 ∷ 3 ∷ 4 ∷ 5 ∷ 6 ∷ []);
  last_bits = 38;
  zero_tail = false;
}

-- GDTI-96: document type, then a serial number
abbrev pub gdti_96 : Layout
gdti_96 = record {
  name = codes "gdti-96";
  header = 0x2c;
  rows = partition_table (1 ∷ 4 ∷ 7 ∷ 11 ∷ 14 ∷ 17 ∷ 21 ∷ []) (0 ∷ 1 ∷ 2 ∷ 3 ∷ 4 ∷ 5 ∷ 6 ∷ []);
  last_bits = 41;
  zero_tail = false;
}

-- GSRN-96: service reference, then zeros
abbrev pub gsrn_96 : Layout
gsrn_96 = record {
  name = codes "gsrn-96";
  header = 0x2d;
  rows = partition_table (18 ∷ 21 ∷ 24 ∷ 28 ∷ 31 ∷ 34 ∷ 38 ∷ []) (5 ∷ 6 ∷ 7 ∷ 8 ∷ 9 ∷ 10 ∷ 11 ∷ []);
  last_bits = 24;
  zero_tail = true;
}

-- the layout of a scheme with a company prefix; GID-96 has none
abbrev pub layout_of : Kind → Option Layout
layout_of Sgtin = Some sgtin_96
layout_of Sscc = Some sscc_96
layout_of Sgln = Some sgln_96
layout_of Grai = Some grai_96
layout_of Gdti = Some gdti_96
layout_of Gsrn = Some gsrn_96
layout_of Gid = None

-- the row of a partition value, for those that there are
abbrev pub row_at : Layout → ℕ → Option Row
row_at l p = slice_get l.rows p

-- header, filter value and partition value
abbrev pub leading_segments : List Segment
leading_segments = plain_segment 8 ∷ plain_segment 3 ∷ plain_segment 3 ∷ []

-- a last segment that is all zeros has no decimal digits
abbrev pub last_decimals : Bool → Option ℕ
last_decimals true = Some 0
last_decimals false = None

-- serial number, extension or zeros
abbrev pub last_segment : Layout → Segment
last_segment l = record { width = l.last_bits; decimals = last_decimals l.zero_tail }

-- company prefix, reference and last segment
abbrev pub number_segments : Layout → Row → List Segment
number_segments l r = fixed r.company_bits r.company_digits ∷ fixed r.reference_bits r.reference_digits ∷ last_segment l ∷ []

-- GID-96: header, manager number, object class and serial number (14.5, "General Identifier")
abbrev pub gid_segments : List Segment
gid_segments = plain_segment 8 ∷ plain_segment 28 ∷ plain_segment 24 ∷ plain_segment 36 ∷ []

-- the header of GID-96
abbrev pub gid_header : ℕ
gid_header = 0x35

-- a scheme's header
abbrev pub header_of : Kind → ℕ
header_of k = unwrap_or (option_map (λ l. l.header) (layout_of k)) gid_header

-- a scheme's name in tag URIs
abbrev pub scheme_name : Kind → List ℕ
scheme_name k = unwrap_or (option_map (λ l. l.name) (layout_of k)) (codes "gid-96")
