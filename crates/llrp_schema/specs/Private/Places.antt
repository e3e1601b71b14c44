-- Beside Calls/Places: words of private functions.
use Rattle.std.specs.Prelude.{ℕ, suc, ◌+◌, ◌*◌, List, [], ◌∷◌, Option, Some, None, is_some, if◌then◌else◌}
use Rattle.llrp_schema.specs.declared.kinds.ParamKind.{ParamKind}
use Rattle.llrp_schema.specs.declared.kinds.Place.{Place}
use Rattle.llrp_schema.specs.Schema.{GroupRule, is_member}

-- a place among groups that are one further on
abbrev pub further : Option Place → Option Place
further None = None
further (Some place) = Some (record { index = suc place.index; once = place.once })

-- the place of the first group that has the kind
abbrev pub first_place : List GroupRule → ParamKind → Option Place
first_place [] kind = None
first_place (g ∷ groups) kind = if is_member g kind then Some (record { index = 0; once = is_some g.most }) else further (first_place groups kind)

-- the least numbers of children as bits, the first group's the lowest
abbrev pub least_bits : List GroupRule → ℕ
least_bits [] = 0
least_bits (g ∷ groups) = g.least + 2 * least_bits groups
