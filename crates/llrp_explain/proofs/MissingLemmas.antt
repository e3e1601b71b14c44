-- The first group that needs a child and has none, by the bits of the groups that have one.
use Rattle.std.proofs.Common.{◌≡◌, ◌⊎◌, inl, inr, ℕ, suc, ◌-◌, ◌%◌, ◌/◌, ◌<◌, ◌≤◌, List, [], ◌∷◌, ◌++◌, length, take, drop, get_or, Bool, true, false, All, map, sym, ap, subst, ◌∙◌, arith}
use Rattle.std.specs.Prelude.{nat_le, min, if◌then◌else◌}
use Rattle.std.proofs.lemmas.Bool.{le-leb, lt-leb}
use Rattle.std.proofs.lemmas.List.{append-nil, length-map, take_all}
use Rattle.std.proofs.lemmas.Nat.Bits.{bit_at_lowest, bit_at-suc}
use Rattle.std.proofs.Math.ListN.{get_or-map}
use Rattle.llrp_schema.specs.declared.kinds.Group.{Group}
use Rattle.llrp_schema.specs.Schema.{GroupRule}
use Rattle.llrp_schema.specs.Calls.Schema.{group_rule}
use Rattle.llrp_tree.specs.Tree.{Forest}
use Rattle.llrp_tree.specs.Lawful.{count}
use Rattle.llrp_stream.specs.Calls.Reading.{AreSeen}
use Rattle.llrp_explain.specs.Calls.KindTexts.{choice, names}
use Rattle.llrp_explain.specs.Calls.FaultSentences.{first_missing}

pub none_missing : (gs : List GroupRule) (cs : Forest) (t : List ℕ) → gs ≡ [] → t ≡ t ++ first_missing gs cs
unfolding first_missing
none_missing gs cs t e = subst (λ (x : List GroupRule). t ≡ t ++ first_missing x cs) (sym e) (sym (append-nil t))

lowest : (g : GroupRule) (gs : List GroupRule) (cs : Forest) (seen : ℕ) → AreSeen (g ∷ gs) cs seen → seen % 2 ≡ min 1 (count g cs)
lowest g gs cs seen are = sym (bit_at_lowest seen) ∙ are 0 g (omega arith)

-- the first group is the one
pub here_missing : (g : GroupRule) (gs all : List GroupRule) (cs : Forest) (seen : ℕ) → all ≡ g ∷ gs → AreSeen all cs seen → 1 ≤ g.least → seen % 2 ≡ 0 → first_missing all cs ≡ choice (names g.members)
unfolding first_missing
here_missing g gs all cs seen e are some none =
    let low = lowest g gs cs seen (subst (λ (x : List GroupRule). AreSeen x cs seen) e are) in
    let lacks : nat_le g.least (count g cs) ≡ false = lt-leb g.least (count g cs) (omega (arith, low, some, none)) in
    ap (λ (x : List GroupRule). first_missing x cs) e ∙ ap (λ (b : Bool). if b then first_missing gs cs else choice (names g.members)) lacks

-- it is a later one
pub later_missing : (g : GroupRule) (gs all : List GroupRule) (cs : Forest) (seen : ℕ) → all ≡ g ∷ gs → AreSeen all cs seen → g.least ≤ 1 → (g.least ≡ 0) ⊎ (seen % 2 ≡ 1) → first_missing gs cs ≡ first_missing all cs
unfolding first_missing
later_missing g gs all cs seen e are few enough =
    let low = lowest g gs cs seen (subst (λ (x : List GroupRule). AreSeen x cs seen) e are) in
    let le : g.least ≤ count g cs = elim enough [ inl z ↦ omega (arith, z) | inr one ↦ omega (arith, one, low, few) ] in
    let has : nat_le g.least (count g cs) ≡ true = le-leb g.least (count g cs) le in
    sym (ap (λ (x : List GroupRule). first_missing x cs) e ∙ ap (λ (b : Bool). if b then first_missing gs cs else choice (names g.members)) has)

pub seen_later : (g : GroupRule) (gs all : List GroupRule) (cs : Forest) (seen : ℕ) → all ≡ g ∷ gs → AreSeen all cs seen → AreSeen gs cs (seen / 2)
seen_later g gs all cs seen e are = λ k d lt. sym (bit_at-suc seen k) ∙ (subst (λ (x : List GroupRule). AreSeen x cs seen) e are) (suc k) d (omega (arith, lt))

-- the first of groups apart
pub groups_first : (groups : List Group) (d : Group) → 1 ≤ length groups → groups ≡ get_or groups 0 d ∷ take (length groups - 1) (drop 1 groups)
groups_first [] d some = absurd (omega arith)
groups_first (g ∷ gs) d some = (let rest : take (length (g ∷ gs) - 1) gs ≡ gs = take_all (length (g ∷ gs) - 1) gs (omega arith) in ap (λ (x : List Group). g ∷ x) (sym rest))

pub rules_of : (groups rest : List Group) (g : Group) → groups ≡ g ∷ rest → map group_rule groups ≡ group_rule g ∷ map group_rule rest
rules_of groups rest g e = ap (λ (x : List Group). map group_rule x) e

pub narrow_first : (groups rest : List Group) (g : Group) → groups ≡ g ∷ rest → All (λ (x : Group). x.least ≤ 1) groups → g.least ≤ 1
narrow_first groups rest g e all = (subst (λ (x : List Group). All (λ (y : Group). y.least ≤ 1) x) e all) 0 g (omega arith)

pub narrow_later : (groups : List Group) → 1 ≤ length groups → All (λ (x : Group). x.least ≤ 1) groups → All (λ (x : Group). x.least ≤ 1) (take (length groups - 1) (drop 1 groups))
narrow_later [] some all = absurd (omega (arith, some))
narrow_later (g ∷ gs) some all = (let rest : take (length (g ∷ gs) - 1) gs ≡ gs = take_all (length (g ∷ gs) - 1) gs (omega arith) in subst (λ (xs : List Group). All (λ (x : Group). x.least ≤ 1) xs) (sym rest) (λ k d lt. all (suc k) d (omega (arith, lt))))

pub fewer_later : (groups : List Group) → 1 ≤ length groups → length (take (length groups - 1) (drop 1 groups)) < length groups
fewer_later [] some = absurd (omega (arith, some))
fewer_later (g ∷ gs) some = (let rest : take (length (g ∷ gs) - 1) gs ≡ gs = take_all (length (g ∷ gs) - 1) gs (omega arith) in let same = ap (λ (xs : List Group). length xs) rest in omega (arith, same))

pub narrow : (groups : List Group) (rules : List GroupRule) → map group_rule groups ≡ rules → All (λ (g : GroupRule). g.least ≤ 1) rules → All (λ (g : Group). g.least ≤ 1) groups
narrow groups rules is all k d below =
    let here = subst (λ (x : List GroupRule). All (λ (g : GroupRule). g.least ≤ 1) x) (sym is) all in
    let within = subst (λ (n : ℕ). k < n) (sym (length-map groups group_rule)) below in
    subst (λ (g : GroupRule). g.least ≤ 1) (get_or-map group_rule groups k d) (here k (group_rule d) within)
