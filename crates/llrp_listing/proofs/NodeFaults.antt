-- The first fault of a line by the tests so far, and one child more.
use Rattle.std.proofs.Common.{◌≡◌, ◌≢◌, ℕ, zero, suc, ◌+◌, ◌^◌, ◌<◌, ◌≤◌, min, Bool, true, false, not, List, [], ◌∷◌, ◌++◌, length, get_or, Option, Some, None, refl, sym, ap, ◌∙◌, subst, arith, inl, inr}
use Rattle.std.specs.Prelude.{nat_le, ◌&&◌, ◌||◌, ◌⊎◌, if◌then◌else◌}
use Rattle.std.specs.Int.{bit_at, w32}
use Rattle.std.specs.Int.RustNames.{bit_or}
use Rattle.std.proofs.lemmas.Bool.{le-leb, leb-true, lt-leb, cases_lt, cases_eq}
use Rattle.std.proofs.Common.{◌*◌, ◌%◌}
use Rattle.std.proofs.lemmas.List.Folds.{list_all-append}
use Rattle.std.proofs.lemmas.Nat.Bits.{bit_at_set_same, bit_at_set_other}
use Rattle.llrp_schema.specs.declared.kinds.ParamKind.{ParamKind}
use Rattle.llrp_schema.specs.declared.kinds.Kind.{Kind}
use Rattle.llrp_schema.specs.declared.kinds.Kind.TheVariants.{Message, Parameter}
use Rattle.llrp_schema.specs.declared.kinds.Tail.{Tail}
use Rattle.llrp_schema.specs.declared.kinds.Tail.TheVariants as form
use Rattle.llrp_schema.specs.Schema.{GroupRule, groups_of, fields_of, tail_of}
use Rattle.llrp_tree.specs.declared.node.NodeFault.{NodeFault}
use Rattle.llrp_tree.specs.declared.node.NodeFault.TheVariants.{FieldCount, Value, Tail as BadTail, Misplaced, TooMany, Missing}
use Rattle.llrp_tree.specs.Tree.{Forest, and, Tree, trees}
use Rattle.llrp_tree.specs.Lawful.{AreOctets, count, has_place, is_member}
use Rattle.llrp_tree.specs.Checks.{all_placed, count_fits, first_failed, first_fault, first_message_fault, members, none_missing, none_too_many, table_tests, tail_fits, values_fit}
use Rattle.llrp_tree.specs.Lawful.{at_most}
use Rattle.llrp_tree.specs.OpenTree.{takes_more}
use Rattle.llrp_tree.proofs.LawLemmas.{count-members}
use Rattle.llrp_tree.proofs.TestLemmas.{failed_before, passed_before}
use Rattle.llrp_listing.specs.LineChecks.{IsTailOf}
use Rattle.llrp_listing.specs.NodeLine.{NodeLine}
use Rattle.llrp_schema.specs.declared.kinds.Place.{Place}
use Rattle.llrp_schema.specs.Calls.Places.{IsPlace}
use Rattle.llrp_listing.proofs.GroupBits.{most_here, most_of, only_here}
use Rattle.llrp_listing.specs.Private.OpenNodes.{IsCounted, MOST, after_misplaced, after_too_many, early_fault, early_tests, node_fault, own_fault, own_tests, size_tests, values_of, version_fits}
use Rattle.llrp_stream.specs.Calls.Reading.{AreSeen}

-- ---- all tests

abbrev rest_tests : NodeLine → Forest → List (Bool × NodeFault)
rest_tests line children = (none_missing (groups_of line.kind) (trees children), Missing) ∷ size_tests line.kind line.tail children

abbrev line_of : Kind → List ℕ → List ℕ → NodeLine
line_of kind numbers tail = record { kind = kind; numbers = numbers; tail = tail }

all_tests_of : (kind : Kind) (numbers tail : List ℕ) (children : Forest) → node_fault (line_of kind numbers tail) children ≡ first_failed (early_tests (line_of kind numbers tail) (trees children) ++ rest_tests (line_of kind numbers tail) children)
unfolding first_fault first_message_fault table_tests
all_tests_of (Message kind) numbers tail children = refl
all_tests_of (Parameter kind) numbers tail children = refl

all_tests : (line : NodeLine) (children : Forest) → node_fault line children ≡ first_failed (early_tests line (trees children) ++ rest_tests line children)
all_tests line children = all_tests_of line.kind line.numbers line.tail children

-- a fault so far is the first of all
pub fault_told : (line : NodeLine) (children : Forest) (f : NodeFault) → early_fault line children ≡ Some f → node_fault line children ≡ Some f
unfolding early_fault
fault_told line children f e = all_tests line children ∙ failed_before (early_tests line (trees children)) (rest_tests line children) f e

rest_told : (line : NodeLine) (children : Forest) → early_fault line children ≡ None → node_fault line children ≡ first_failed (rest_tests line children)
unfolding early_fault
rest_told line children e = all_tests line children ∙ passed_before (early_tests line (trees children)) (rest_tests line children) e

pub missing_told : (line : NodeLine) (children : Forest) → early_fault line children ≡ None → none_missing (groups_of line.kind) (trees children) ≡ false → node_fault line children ≡ Some Missing
missing_told line children e m = rest_told line children e ∙ rw m refl

pub size_told : (line : NodeLine) (children : Forest) → early_fault line children ≡ None → none_missing (groups_of line.kind) (trees children) ≡ true → node_fault line children ≡ first_failed (size_tests line.kind line.tail children)
size_told line children e m = rest_told line children e ∙ rw m refl

-- a count of octets that stops is too large where the whole count is
pub size_test : (n most : ℕ) → most < MOST → nat_le (min n MOST) most ≡ nat_le n most
size_test n most lt = elim (cases_lt most n) [
  | inl more ↦ lt-leb (min n MOST) most (omega arith) ∙ sym (lt-leb n most more)
  | inr le ↦ le-leb (min n MOST) most (omega arith) ∙ sym (le-leb n most le)
]

-- a fault of the line alone is the first of all
pub own_told : (line : NodeLine) (children : Forest) (f : NodeFault) → own_fault line ≡ Some f → node_fault line children ≡ Some f
unfolding early_fault own_fault
own_told line children f e = fault_told line children f (failed_before (own_tests line) ((all_placed (groups_of line.kind) (trees children), Misplaced) ∷ (none_too_many (groups_of line.kind) (trees children), TooMany) ∷ []) f e)

-- ---- five tests

abbrev five : Bool → Bool → Bool → Bool → Bool → Option NodeFault
five a b c p m = first_failed ((a, FieldCount) ∷ (b, Value) ∷ (c, BadTail) ∷ (p, Misplaced) ∷ (m, TooMany) ∷ [])

five_misplaced : (a b c p m n : Bool) → Some (after_misplaced (five a b c p m)) ≡ five a b c (p && false) n
five_misplaced false b c p m n = refl
five_misplaced true false c p m n = refl
five_misplaced true true false p m n = refl
five_misplaced true true true false m n = refl
five_misplaced true true true true false n = refl
five_misplaced true true true true true n = refl

five_many : (a b c p m : Bool) → Some (after_too_many (five a b c p m)) ≡ five a b c (p && true) (m && false)
five_many false b c p m = refl
five_many true false c p m = refl
five_many true true false p m = refl
five_many true true true false m = refl
five_many true true true true false = refl
five_many true true true true true = refl

five_same : (a b c p m : Bool) → five a b c p m ≡ five a b c (p && true) (m && true)
five_same a b c p m = rw (and_true p, and_true m) refl
  where
    and_true : (x : Bool) → (x && true) ≡ x
    and_true true = refl
    and_true false = refl

-- ---- one child more

module _ (gs : List GroupRule) (before : Forest) (kind : ParamKind) (numbers tail : List ℕ) (children : Forest) where
  abbrev child : Tree
  child = record { kind = kind; fields = numbers; tail = tail; children = children }

  placed_more : all_placed gs (trees (and before kind numbers tail children)) ≡ (all_placed gs (trees before) && has_place gs kind)
  unfolding all_placed
  placed_more = list_all-append (λ t. has_place gs t.kind) (trees before) (child ∷ []) ∙ ap (λ (b : Bool). all_placed gs (trees before) && b) (last (has_place gs kind))
    where
      last : (b : Bool) → (b && true) ≡ b
      last true = refl
      last false = refl

at_most_less : (most : Option ℕ) (n : ℕ) → at_most most (n + 1) ≡ (at_most most n && at_most most (n + 1))
at_most_less None n = refl
at_most_less (Some m) n =
    (elim (nat_le (n + 1) m) as (λ b. nat_le (n + 1) m ≡ b → b ≡ (nat_le n m && b)) [
      | true ↦ λ e. (let a = leb-true (n + 1) m e in let le : n ≤ m = omega arith in rw (le-leb n m le) refl)
      | false ↦ λ e. (elim (nat_le n m) as (λ b. false ≡ (b && false)) [ true ↦ refl | false ↦ refl ])
    ]) refl

shuffle : (a b r t : Bool) → ((a && b) && (r && t)) ≡ ((a && r) && (b && t))
shuffle false b r t = refl
shuffle true false true t = refl
shuffle true false false t = refl
shuffle true true r t = refl

many_here : (g : GroupRule) (before : Forest) (kind : ParamKind) (numbers tail : List ℕ) (children : Forest) → at_most g.most (members g (trees (and before kind numbers tail children))) ≡ (at_most g.most (members g (trees before)) && (not (is_member g kind) || at_most g.most (count g before + 1)))
unfolding count
many_here g before kind numbers tail children =
    ap (at_most g.most) (sym (count-members g (and before kind numbers tail children)))
    ∙ (elim (is_member g kind) as (λ b. at_most g.most (if b then count g before + 1 else count g before) ≡ (at_most g.most (count g before) && (not b || at_most g.most (count g before + 1)))) [
      | true ↦ at_most_less g.most (count g before)
      | false ↦ sym (last (at_most g.most (count g before)))
    ])
    ∙ ap (λ (n : ℕ). at_most g.most n && (not (is_member g kind) || at_most g.most (count g before + 1))) (count-members g before)
  where
    last : (b : Bool) → (b && true) ≡ b
    last true = refl
    last false = refl

many_more : (gs : List GroupRule) (before : Forest) (kind : ParamKind) (numbers tail : List ℕ) (children : Forest) → none_too_many gs (trees (and before kind numbers tail children)) ≡ (none_too_many gs (trees before) && takes_more gs kind before)
unfolding none_too_many takes_more
many_more [] before kind numbers tail children = refl
many_more (g ∷ gs) before kind numbers tail children =
    rw (many_here g before kind numbers tail children, many_more gs before kind numbers tail children)
    (shuffle (at_most g.most (members g (trees before))) (not (is_member g kind) || at_most g.most (count g before + 1)) (none_too_many gs (trees before)) (takes_more gs kind before))

takes_none : (gs : List GroupRule) (kind : ParamKind) (before : Forest) → ((k : ℕ) (d : GroupRule) → k < length gs → is_member (get_or gs k d) kind ≡ false) → takes_more gs kind before ≡ true
unfolding takes_more
takes_none [] kind before f = refl
takes_none (g ∷ gs) kind before f = let here : is_member g kind ≡ false = f 0 g (omega arith) in rw here (takes_none gs kind before (λ k d lt. f (suc k) d (omega (arith, lt))))

-- the group of a kind alone decides whether more are taken
takes_at : (gs : List GroupRule) (kind : ParamKind) (before : Forest) (i : ℕ) (e : GroupRule) → i < length gs → is_member (get_or gs i e) kind ≡ true → ((k : ℕ) (d : GroupRule) → k < length gs → k ≢ i → is_member (get_or gs k d) kind ≡ false) → takes_more gs kind before ≡ at_most (get_or gs i e).most (count (get_or gs i e) before + 1)
unfolding takes_more
takes_at [] kind before i e lt has only = absurd (omega (arith, lt))
takes_at (g ∷ gs) kind before zero e lt has only =
    rw (has, takes_none gs kind before (λ k d less. only (suc k) d (omega (arith, less)) (λ same. absurd (omega (arith, same))))) (last (at_most g.most (count g before + 1)))
  where
    last : (b : Bool) → (b && true) ≡ b
    last true = refl
    last false = refl
takes_at (g ∷ gs) kind before (suc i) e lt has only =
    let here : is_member g kind ≡ false = only 0 g (omega arith) (λ same. absurd (omega (arith, same))) in
    rw here (takes_at gs kind before i e (omega (arith, lt)) has (λ k d less ne. only (suc k) d (omega (arith, less)) (λ same. ne (omega (arith, same)))))

no_place_at : (gs : List GroupRule) (kind : ParamKind) → has_place gs kind ≡ false → (k : ℕ) (d : GroupRule) → k < length gs → is_member (get_or gs k d) kind ≡ false
no_place_at [] kind e k d lt = absurd (omega (arith, lt))
no_place_at (g ∷ gs) kind e zero d lt = (either (is_member g kind) (has_place gs kind) e).0
  where
    either : (a b : Bool) → (a || b) ≡ false → (a ≡ false) × (b ≡ false)
    either true b e = absurd cc
    either false b e = (refl, e)
no_place_at (g ∷ gs) kind e (suc k) d lt = no_place_at gs kind (either (is_member g kind) (has_place gs kind) e).1 k d (omega (arith, lt))
  where
    either : (a b : Bool) → (a || b) ≡ false → (a ≡ false) × (b ≡ false)
    either true b e = absurd cc
    either false b e = (refl, e)

has_at : (gs : List GroupRule) (kind : ParamKind) (i : ℕ) (d : GroupRule) → i < length gs → is_member (get_or gs i d) kind ≡ true → has_place gs kind ≡ true
has_at [] kind i d lt m = absurd (omega (arith, lt))
has_at (g ∷ gs) kind zero d lt m = rw m refl
has_at (g ∷ gs) kind (suc i) d lt m = rw (has_at gs kind i d (omega (arith, lt)) m) (or_true (is_member g kind))
  where
    or_true : (b : Bool) → (b || true) ≡ true
    or_true true = refl
    or_true false = refl

count_other : (g : GroupRule) (before : Forest) (kind : ParamKind) (numbers tail : List ℕ) (children : Forest) → is_member g kind ≡ false → count g (and before kind numbers tail children) ≡ count g before
unfolding count
count_other g before kind numbers tail children m = rw m refl

count_one : (g : GroupRule) (before : Forest) (kind : ParamKind) (numbers tail : List ℕ) (children : Forest) → is_member g kind ≡ true → count g (and before kind numbers tail children) ≡ count g before + 1
unfolding count
count_one g before kind numbers tail children m = rw m refl

module _ (line : NodeLine) (before : Forest) (kind : ParamKind) (numbers tail : List ℕ) (children : Forest) where
  abbrev gs : List GroupRule
  gs = groups_of line.kind

  abbrev after : Forest
  after = and before kind numbers tail children

  abbrev counts : Bool
  counts = count_fits (fields_of line.kind) (values_of line.kind line.numbers)

  abbrev ranges : Bool
  ranges = version_fits line.kind line.numbers && values_fit (fields_of line.kind) (values_of line.kind line.numbers)

  abbrev forms : Bool
  forms = tail_fits (tail_of line.kind) (values_of line.kind line.numbers) line.tail

  abbrev five_of : Bool → Bool → Option NodeFault
  five_of p m = five counts ranges forms p m

  early_is : (f : Forest) → early_fault line f ≡ five_of (all_placed gs (trees f)) (none_too_many gs (trees f))
  unfolding early_fault
  early_is f = refl

  early_after : (has takes : Bool) → has_place gs kind ≡ has → takes_more gs kind before ≡ takes → early_fault line after ≡ five_of (all_placed gs (trees before) && has) (none_too_many gs (trees before) && takes)
  early_after has takes h t =
      early_is after ∙ ap (λ (b : Bool). five_of b (none_too_many gs (trees after))) (placed_more gs before kind numbers tail children ∙ ap (λ (b : Bool). all_placed gs (trees before) && b) h)
      ∙ ap (λ (b : Bool). five_of (all_placed gs (trees before) && has) b) (many_more gs before kind numbers tail children ∙ ap (λ (b : Bool). none_too_many gs (trees before) && b) t)

  pub count_misplaced : (fault : Option NodeFault) (seen : ℕ) (told : Option NodeFault) → fault ≡ early_fault line before → AreSeen gs before seen → has_place gs kind ≡ false → told ≡ Some (after_misplaced fault) → IsCounted line after (record { fault = told; seen = seen })
  count_misplaced fault seen told f s h t = record {
    fault = t ∙ ap (λ (x : Option NodeFault). Some (after_misplaced x)) (f ∙ early_is before) ∙ five_misplaced counts ranges forms (all_placed gs (trees before)) (none_too_many gs (trees before)) (none_too_many gs (trees before) && takes_more gs kind before) ∙ sym (early_after false (takes_more gs kind before) h refl);
    seen = λ k d lt. s k d lt ∙ ap (λ (n : ℕ). min 1 n) (sym (count_other (get_or gs k d) before kind numbers tail children (no_place_at gs kind h k d lt)));
  }

  module _ (place : Place) (p : IsPlace gs kind place) (fault : Option NodeFault) (seen : ℕ) (f : fault ≡ early_fault line before) (s : AreSeen gs before seen) where
    abbrev nowhere : GroupRule
    nowhere = record { members = []; least = 0; most = None }

    abbrev here : GroupRule
    here = get_or gs place.index nowhere

    takes_is : takes_more gs kind before ≡ at_most here.most (count here before + 1)
    takes_is = takes_at gs kind before place.index nowhere p.within (p.member nowhere) (only_here gs kind place p)

    full : bit_at seen place.index ≡ 1 → place.once ≡ true → takes_more gs kind before ≡ false
    full b once =
        let some : bit_at seen place.index ≡ min 1 (count here before) = s place.index nowhere p.within in
        let one : here.most ≡ Some 1 = most_here gs kind place nowhere p ∙ ap most_of once in
        takes_is ∙ ap (λ (m : Option ℕ). at_most m (count here before + 1)) one ∙ lt-leb (count here before + 1) 1 (omega (arith, some, b))

    room_many : place.once ≡ false → takes_more gs kind before ≡ true
    room_many once = takes_is ∙ ap (λ (m : Option ℕ). at_most m (count here before + 1)) (most_here gs kind place nowhere p ∙ ap most_of once)

    room_none : bit_at seen place.index ≢ 1 → takes_more gs kind before ≡ true
    room_none b =
        let some : bit_at seen place.index ≡ min 1 (count here before) = s place.index nowhere p.within in
        let zero : count here before ≡ 0 = omega (arith, some, b) in
        takes_is ∙ (elim place.once as (λ o. here.most ≡ most_of o → at_most here.most (count here before + 1) ≡ true) [
          | true ↦ λ e. ap (λ (m : Option ℕ). at_most m (count here before + 1)) e ∙ le-leb (count here before + 1) 1 (omega (arith, zero))
          | false ↦ λ e. ap (λ (m : Option ℕ). at_most m (count here before + 1)) e
        ]) (most_here gs kind place nowhere p)

    seen_kept : bit_at seen place.index ≡ 1 → AreSeen gs after seen
    seen_kept b k d lt = elim (cases_eq k place.index) [
      | inl same ↦
          (let m : is_member (get_or gs k d) kind ≡ true = ap (λ (i : ℕ). is_member (get_or gs i d) kind) same ∙ p.member d in
          let one = count_one (get_or gs k d) before kind numbers tail children m in
          ap (λ (i : ℕ). bit_at seen i) same ∙ b ∙ omega (arith, one))
      | inr ne ↦ s k d lt ∙ ap (λ (n : ℕ). min 1 n) (sym (count_other (get_or gs k d) before kind numbers tail children (only_here gs kind place p k d lt ne)))
    ]

    seen_more : place.index < 32 → AreSeen gs after (bit_or seen (1 * 2 ^ place.index % 2 ^ 32))
    seen_more small k d lt = elim (cases_eq k place.index) [
      | inl same ↦
          (let m : is_member (get_or gs k d) kind ≡ true = ap (λ (i : ℕ). is_member (get_or gs i d) kind) same ∙ p.member d in
          let one = count_one (get_or gs k d) before kind numbers tail children m in
          ap (λ (i : ℕ). bit_at (bit_or seen (1 * 2 ^ place.index % 2 ^ 32)) i) same ∙ bit_at_set_same w32 seen place.index small ∙ omega (arith, one))
      | inr ne ↦ bit_at_set_other w32 seen place.index small k ne ∙ s k d lt ∙ ap (λ (n : ℕ). min 1 n) (sym (count_other (get_or gs k d) before kind numbers tail children (only_here gs kind place p k d lt ne)))
    ]

    pub count_full : (told : Option NodeFault) → bit_at seen place.index ≡ 1 → place.once ≡ true → told ≡ Some (after_too_many fault) → IsCounted line after (record { fault = told; seen = seen })
    count_full told b once t = record {
      fault = t ∙ ap (λ (x : Option NodeFault). Some (after_too_many x)) (f ∙ early_is before) ∙ five_many counts ranges forms (all_placed gs (trees before)) (none_too_many gs (trees before)) ∙ sym (early_after true false (has_at gs kind place.index nowhere p.within (p.member nowhere)) (full b once));
      seen = seen_kept b;
    }

    pub count_more : (new : ℕ) → place.index < 32 → new ≡ bit_or seen (1 * 2 ^ place.index % 2 ^ 32) → (bit_at seen place.index ≢ 1) ⊎ (place.once ≡ false) → IsCounted line after (record { fault = fault; seen = new })
    count_more new small e room = record {
      fault = f ∙ early_is before ∙ five_same counts ranges forms (all_placed gs (trees before)) (none_too_many gs (trees before)) ∙ sym (early_after true true (has_at gs kind place.index nowhere p.within (p.member nowhere)) (elim room [ inl b ↦ room_none b | inr o ↦ room_many o ]));
      seen = subst (AreSeen gs after) (sym e) (seen_more small);
    }

-- ---- tails

pub tail_octets : (f : Tail) (tail : List ℕ) → IsTailOf f tail → AreOctets tail
tail_octets form.Absent tail h = subst AreOctets (sym h) tt
tail_octets form.Words tail h = h.0
tail_octets form.Text tail h = h
tail_octets form.Bits tail h = h
tail_octets form.Data tail h = h
