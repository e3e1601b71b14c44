-- What represents open lines, once one of them is closed.
use Rattle.std.proofs.Common.{◌≡◌, ℕ, ◌+◌, ◌<◌, ◌≤◌, Bool, true, false, List, [], ◌∷◌, ◌++◌, length, None, sym, ap, ◌∙◌, subst, arith, length-append}
use Rattle.std.specs.Prelude.{if◌then◌else◌}
use Rattle.llrp_schema.specs.declared.kinds.ParamKind.{ParamKind}
use Rattle.llrp_schema.specs.declared.kinds.Kind.TheVariants.{Parameter}
use Rattle.llrp_schema.specs.Schema.{is_tv}
use Rattle.llrp_tree.specs.Lawful.{AreLawful, head_octets}
use Rattle.llrp_listing.specs.declared.encode.open_lines.LineRecord.{LineRecord}
use Rattle.llrp_listing.specs.declared.encode.buffer.EncodeBuffer.{EncodeBuffer}
use Rattle.llrp_listing.specs.Private.EncodeBuffer.{Holds, HoldsAbove, inner, settled}
use Rattle.llrp_listing.specs.Private.OpenNodes.{AreHeld, AreKept, IsChain, IsHeld, OpenNode, node_fault, with_child}
use Rattle.llrp_listing.proofs.Chains.{kept_closed, kept_within, settled_inside, settled_octets, length-settled, size_is, own_size}
use Rattle.llrp_listing.proofs.LineSteps.{parameter_lawful}

-- ---- the innermost records

pub held_one : (rows rest : List LineRecord) (top : LineRecord) (n : OpenNode) (outer : List OpenNode) → rows ≡ top ∷ rest → AreHeld rows (n ∷ outer) → IsHeld top n × AreHeld rest outer
held_one rows rest top n outer e h = subst (λ (r : List LineRecord). AreHeld r (n ∷ outer)) e h

pub held_two : (rows rest0 rest : List LineRecord) (top parent : LineRecord) (n p : OpenNode) (outer : List OpenNode) → rows ≡ top ∷ rest0 → rest0 ≡ parent ∷ rest → AreHeld rows (n ∷ p ∷ outer) → IsHeld top n × (IsHeld parent p × AreHeld rest outer)
held_two rows rest0 rest top parent n p outer e f h = subst (λ (r : List LineRecord). AreHeld r (n ∷ p ∷ outer)) (e ∙ ap (λ (r : List LineRecord). top ∷ r) f) h

-- the two innermost lines
pub record Two (writer : EncodeBuffer) (at : ℕ) (top : LineRecord) : Type 0 where
  pub out : List ℕ
  pub more : List ℕ
  pub n : OpenNode
  pub p : OpenNode
  pub outer : List OpenNode
  pub holds : Holds writer at out more (n ∷ p ∷ outer)
  pub is_top : IsHeld top n

pub two : (writer : EncodeBuffer) (at : ℕ) (top : LineRecord) (rest : List LineRecord) → inner writer.rows ≡ top ∷ rest → HoldsAbove writer at 1 → Two writer at top
two writer at top rest e (out, more, ns, h, lt) = on ns h lt
  where
    on : (ns : List OpenNode) → Holds writer at out more ns → 1 < length ns → Two writer at top
    on [] h lt = absurd (omega (arith, lt))
    on (n ∷ []) h lt = absurd (omega (arith, lt))
    on (n ∷ p ∷ outer) h lt = record { out = out; more = more; n = n; p = p; outer = outer; holds = h; is_top = (held_one (inner writer.rows) rest top n (p ∷ outer) e h.rows).0 }

-- ---- the length of a line that is closed

module _ (writer : EncodeBuffer) (at : ℕ) (out more : List ℕ) (n p : OpenNode) (outer : List OpenNode) (h : Holds writer at out more (n ∷ p ∷ outer)) (top : LineRecord) (t : IsHeld top n) (kind : ParamKind) (is : n.line.kind ≡ Parameter kind) (fine : node_fault n.line n.children ≡ None) where
  abbrev lawful : AreLawful kind n.line.numbers n.line.tail n.children
  lawful = parameter_lawful top n kind t is fine

  pub small : own_size kind n p outer is < 65536
  small = omega (arith, lawful.long)

  pub few_levels : top.levels < 255
  few_levels = omega (arith, lawful.deep, t.levels)

  pub octets_is : top.octets ≡ own_size kind n p outer is
  octets_is = omega (arith, t.octets, small, size_is kind n p outer is)

  pub at_end : at ≡ length out + length h.bytes
  at_end = h.ends

  pub spare : (tv : Bool) → tv ≡ is_tv kind → writer.kept ≡ true → tv ≡ false → (4 ≤ own_size kind n p outer is) × (own_size kind n p outer is ≤ length h.bytes) × (own_size kind n p outer is < 65536)
  spare short e kept lengthy =
      let four : head_octets kind ≡ 4 = ap (λ (b : Bool). if b then 1 else 4) (sym e ∙ lengthy) in
      (omega (arith, four), kept_within kind n p outer is writer.limit h.bytes (subst (λ (k : Bool). AreKept writer.limit k h.bytes (n ∷ p ∷ outer)) kept h.kept), small)

  pub spare_at : (tv : Bool) → tv ≡ is_tv kind → writer.kept ≡ true → tv ≡ false → (4 ≤ top.octets) × (top.octets ≤ at) × (top.octets < 65536)
  spare_at short e kept lengthy = let s = spare short e kept lengthy in (omega (arith, s.0, octets_is), omega (arith, s.1, octets_is, h.ends), omega (arith, s.2, octets_is))

  pub within : at ≤ length writer.room.items
  within = omega (arith, h.ends, ap (λ (x : List ℕ). length x) h.room, length-append out (h.bytes ++ more), length-append h.bytes more)

  chain_kept : (outer : List OpenNode) → IsChain (p ∷ outer) → IsChain (with_child kind n p ∷ outer)
  chain_kept [] c = c
  chain_kept (q ∷ outer) c = c

  -- all holds, once the line is closed
  pub holds_closed : (new : EncodeBuffer) (tv : Bool) (child : LineRecord) (rest : List LineRecord) → tv ≡ is_tv kind → new.room.items ≡ settled writer.kept tv at top.octets writer.room.items → new.from ≡ writer.from → new.kept ≡ writer.kept → new.limit ≡ writer.limit → inner new.rows ≡ child ∷ rest
      → IsHeld child (with_child kind n p) → AreHeld rest outer → Holds new at out more (with_child kind n p ∷ outer)
  holds_closed new tv child rest e room from kept limit rows c others =
      let size = own_size kind n p outer is in
      let bytes = settled writer.kept tv (length h.bytes) size h.bytes in
      record {
        bytes = bytes;
        room =
            room ∙ ap (λ (o : ℕ). settled writer.kept tv at o writer.room.items) octets_is
            ∙ ap (λ (r : List ℕ). settled writer.kept tv at size r) h.room
            ∙ ap (λ (a : ℕ). settled writer.kept tv a size (out ++ (h.bytes ++ more))) h.ends
            ∙ settled_inside writer.kept tv size out h.bytes more (spare tv e);
        from = from ∙ h.from;
        ends = h.ends ∙ ap (λ (k : ℕ). length out + k) (sym (length-settled writer.kept tv size h.bytes (spare tv e)));
        octets = settled_octets writer.kept tv size h.bytes (spare tv e) h.octets;
        rows = subst (λ (r : List LineRecord). AreHeld r (with_child kind n p ∷ outer)) (sym rows) (c, others);
        chain = chain_kept outer h.chain.1;
        few = omega (arith, h.few);
        kept = subst (λ (k : Bool). AreKept new.limit k bytes (with_child kind n p ∷ outer)) (sym kept) (subst (λ (l : ℕ). AreKept l writer.kept bytes (with_child kind n p ∷ outer)) (sym limit) (kept_closed kind n p outer is writer.limit writer.kept tv h.bytes fine small e h.kept));
      }
