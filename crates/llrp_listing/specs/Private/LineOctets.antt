-- The octets of a line that begins.
use Rattle.std.specs.Prelude.{◌≡◌, ℕ, Bool, List, [], ◌++◌, None, is_none}
use Rattle.llrp_schema.specs.declared.kinds.Kind.{Kind}
use Rattle.llrp_tree.specs.Calls.Writing.{Appends}
use Rattle.llrp_listing.specs.NodeLine.{NodeLine}
use Rattle.llrp_listing.specs.declared.encode.line_octets.PutLine.{PutLine}
use Rattle.llrp_listing.specs.declared.encode.line_octets.Own.{Own}
use Rattle.llrp_listing.specs.Private.EncodeBuffer.{CanBegin}

-- The line's octets were appended, and it can begin.
pub record Puts (old new : List ℕ) (begun : PutLine) (line : NodeLine) (number : ℕ) : Type 0 where
  pub more : List ℕ
  pub appended : new ≡ old ++ more
  pub can : CanBegin begun.held begun.put more line number

-- what is kept of a line with nothing below it
abbrev pub begun_line : Kind → ℕ → Own → PutLine
begun_line kind number own = record { held = record { kind = kind; number = number; fault = own.fault; seen = 0; levels = 0; octets = own.octets }; put = is_none own.fault }

-- a line that fails no test of its own and has this many octets
abbrev pub own_octets_of : ℕ → Own
own_octets_of octets = record { fault = None; octets = octets }

-- the line's octets were appended, whatever the line's number is
abbrev pub PutsOwn : List ℕ → List ℕ → Own → NodeLine → Type 0
PutsOwn old new own line = (number : ℕ) → Puts old new (begun_line line.kind number own) line number

-- Octets of these digits were appended, and then a tail.
pub record PutsStart (old new : List ℕ) (ds : List Bool) (tail : List ℕ) : Type 0 where
  pub start : List ℕ
  pub octets : Appends [] start ds
  pub appended : new ≡ (old ++ start) ++ tail
