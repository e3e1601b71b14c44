-- Beside Calls/Writing: words of private functions.
use Rattle.std.specs.Prelude.{◌^◌, List, Bool, nat_lt}
use Rattle.std.specs.List.{list_all}
use Rattle.llrp_schema.specs.Schema.{FieldRule}

-- each range is within the field's bits
abbrev pub is_sound : List FieldRule → Bool
is_sound rules = list_all (λ r. nat_lt r.greatest (2 ^ r.width)) rules
