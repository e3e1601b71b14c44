-- The segments of 96-bit EPCs of further schemes. Source: EPC Tag Data Standard 1.13, sections 14.2 and 14.5.
use Rattle.std.specs.Prelude.{true, false, [], ◌∷◌, codes}
use Rattle.tag_epc.specs.Layout.{Layout, partition_table}
use Rattle.tag_schemes.specs.declared.scheme.Scheme.{Scheme}
use Rattle.tag_schemes.specs.declared.scheme.Scheme.TheVariants.{Giai, Gsrnp, Sgcn, Cpi}

-- GIAI-96: asset reference, of any digits that its bits hold; the last column is how many that are at most
abbrev pub giai_96 : Layout
giai_96 = record {
  name = codes "giai-96";
  header = 0x34;
  rows = partition_table (42 ∷ 45 ∷ 48 ∷ 52 ∷ 55 ∷ 58 ∷ 62 ∷ []) (13 ∷ 14 ∷ 15 ∷ 16 ∷ 17 ∷ 18 ∷ 19 ∷ []);
  last_bits = 0;
  zero_tail = true;
}

-- GSRNP-96: service reference, then zeros; its segments are those of GSRN-96
abbrev pub gsrnp_96 : Layout
gsrnp_96 = record {
  name = codes "gsrnp-96";
  header = 0x2e;
  rows = partition_table (18 ∷ 21 ∷ 24 ∷ 28 ∷ 31 ∷ 34 ∷ 38 ∷ []) (5 ∷ 6 ∷ 7 ∷ 8 ∷ 9 ∷ 10 ∷ 11 ∷ []);
  last_bits = 24;
  zero_tail = true;
}

-- SGCN-96: coupon reference, then the number of a 1 and the digits of the serial number; its segments are those of GDTI-96
abbrev pub sgcn_96 : Layout
sgcn_96 = record {
  name = codes "sgcn-96";
  header = 0x3f;
  rows = partition_table (1 ∷ 4 ∷ 7 ∷ 11 ∷ 14 ∷ 17 ∷ 21 ∷ []) (0 ∷ 1 ∷ 2 ∷ 3 ∷ 4 ∷ 5 ∷ 6 ∷ []);
  last_bits = 41;
  zero_tail = false;
}

-- CPI-96: component or part reference, whose most digits are the last column, then the serial number
abbrev pub cpi_96 : Layout
cpi_96 = record {
  name = codes "cpi-96";
  header = 0x3c;
  rows = partition_table (11 ∷ 14 ∷ 17 ∷ 21 ∷ 24 ∷ 27 ∷ 31 ∷ []) (3 ∷ 4 ∷ 5 ∷ 6 ∷ 7 ∷ 8 ∷ 9 ∷ []);
  last_bits = 31;
  zero_tail = false;
}

-- the layout of a scheme
abbrev pub layout_in : Scheme → Layout
layout_in Giai = giai_96
layout_in Gsrnp = gsrnp_96
layout_in Sgcn = sgcn_96
layout_in Cpi = cpi_96
