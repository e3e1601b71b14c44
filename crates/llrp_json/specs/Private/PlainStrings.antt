-- The octets of strings that stand for themselves.
use Rattle.std.specs.Prelude.{ℕ, Bool, not, ◌==◌, ◌&&◌, nat_le}

-- neither a quote nor a backslash nor a control
abbrev pub is_plain : ℕ → Bool
is_plain c = nat_le 32 c && (not (c == 34) && not (c == 92))
