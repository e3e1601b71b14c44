-- ROSpecs of which none has the ROSpecID of another, looked for one after another.
use Rattle.std.proofs.Common.{◌≡◌, ◌-◌, ◌<◌, ◌≤◌, Bool, true, false, ◌&&◌, List, [], ◌∷◌, length, take, drop, get_or, refl, sym, ap, ◌∙◌, arith}
use Rattle.std.specs.Prelude.{not}
use Rattle.std.specs.List.{list_any}
use Rattle.std.proofs.lemmas.List.{take_all}
use Rattle.llrp_tree.specs.Tree.{Tree}
use Rattle.llrp_session.specs.ClientMachine.{names_same, names_none_twice}

-- all but the first
abbrev pub others : List Tree → List Tree
others ts = take (length ts - 1) (drop 1 ts)

others_of : (t : Tree) (ts : List Tree) → others (t ∷ ts) ≡ ts
others_of t ts = take_all _ ts (omega arith)

-- the first one is named among the others, or not
named_first : (t u : Tree) (ts : List Tree) (b : Bool) → u ≡ t → list_any (names_same u) (others (t ∷ ts)) ≡ b → list_any (names_same t) ts ≡ b
named_first t u ts b is h = ap (λ (x : Tree). list_any (names_same x) ts) (sym is) ∙ ap (list_any (names_same u)) (sym (others_of t ts)) ∙ h

pub named_again : (ts : List Tree) (u : Tree) → 1 ≤ length ts → u ≡ get_or ts 0 u → list_any (names_same u) (others ts) ≡ true → names_none_twice ts ≡ false
unfolding names_none_twice
named_again [] u some is h = absurd (omega (arith, some))
named_again (t ∷ ts) u some is h = ap (λ (b : Bool). not b && names_none_twice ts) (named_first t u ts true is h)

pub named_once : (ts : List Tree) (u : Tree) → 1 ≤ length ts → u ≡ get_or ts 0 u → list_any (names_same u) (others ts) ≡ false → names_none_twice ts ≡ names_none_twice (others ts)
unfolding names_none_twice
named_once [] u some is h = absurd (omega (arith, some))
named_once (t ∷ ts) u some is h = ap (λ (b : Bool). not b && names_none_twice ts) (named_first t u ts false is h) ∙ ap names_none_twice (sym (others_of t ts))

pub none_named : (ts : List Tree) → length ts < 1 → names_none_twice ts ≡ true
unfolding names_none_twice
none_named [] none = refl
none_named (t ∷ ts) none = absurd (omega (arith, none))
