-- Beside Layout: words of private functions.
use Rattle.std.specs.Prelude.{List, [], ◌∷◌}
use Rattle.tag_epc.specs.declared.kind.Kind.{Kind}
use Rattle.tag_epc.specs.declared.kind.Kind.TheVariants.{Sgtin, Sscc, Sgln, Grai, Gdti, Gsrn, Gid}

-- each scheme once
abbrev pub every_kind : List Kind
every_kind = Sgtin ∷ Sscc ∷ Sgln ∷ Grai ∷ Gdti ∷ Gsrn ∷ Gid ∷ []
