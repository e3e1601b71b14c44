-- A text has one script at most, or one first refused line at most, and never both.
use Rattle.std.proofs.Common.{◌≡◌, ℕ, ◌+◌, List, [], ◌∷◌, ◌++◌, length, refl, sym, ap, subst, ◌∙◌, arith, append_assoc, length-append}
use Rattle.std.specs.Prelude.{All}
use Rattle.std.proofs.lemmas.List.{append-nil}
use Rattle.std.proofs.lemmas.List.Elements.{All-head, All-tail}
use Rattle.llrp_endpoints.specs.declared.script.Entry.{Entry}
use Rattle.llrp_endpoints.specs.Calls.Script.{IsEntryLine, IsInRange, IsTextOfAll, IsLawfulScript, IsScript, Begins, NoneContinues, IsRefusedAt}
use Rattle.llrp_listing.proofs.SplitWords.{one_split}
use Rattle.llrp_endpoints.proofs.ScriptEntries.{lawful_front, one_entry, line_lacks}

-- the rest begins with the line of an entry, and the others go on with it
pub record GoesOn (a b : List Entry) (rest : List ℕ) : Type 0 where
  pub entry : Entry
  pub others : List Entry
  pub line : List ℕ
  pub more : List ℕ
  pub longer : b ≡ a ++ entry ∷ others
  pub says : IsEntryLine entry line
  pub rest_is : rest ≡ line ++ (10 ∷ more)

-- two scripts that begin a text: the same, or one goes on where the other ends
pub data Aligned (a b : List Entry) (x y : List ℕ) : Type 0 where
  same : a ≡ b → x ≡ y → Aligned a b x y
  first_ends : GoesOn a b x → Aligned a b x y
  second_ends : GoesOn b a y → Aligned a b x y

one_more : (e d : Entry) (a b : List Entry) (rest : List ℕ) → e ≡ d → GoesOn a b rest → GoesOn (e ∷ a) (d ∷ b) rest
one_more e d a b rest is g = record { entry = g.entry; others = g.others; line = g.line; more = g.more; longer = rw (is, g.longer) refl; says = g.says; rest_is = g.rest_is }

both_more : (e d : Entry) (a b : List Entry) (x y : List ℕ) → e ≡ d → Aligned a b x y → Aligned (e ∷ a) (d ∷ b) x y
both_more e d a b x y is (same p q) = same (rw (is, p) refl) q
both_more e d a b x y is (first_ends g) = first_ends (one_more e d a b x is g)
both_more e d a b x y is (second_ends g) = second_ends (one_more d e b a y (sym is) g)

behind : (line t x rest : List ℕ) → rest ≡ (line ++ (10 ∷ t)) ++ x → rest ≡ line ++ (10 ∷ (t ++ x))
behind line t x rest e = e ∙ append_assoc line (10 ∷ t) x

aligned : (a b : List Entry) (f g x y : List ℕ) → All IsInRange a → All IsInRange b → IsTextOfAll a f → IsTextOfAll b g → f ++ x ≡ g ++ y → Aligned a b x y
aligned [] [] f g x y p q h k e = same refl (ap (λ (t : List ℕ). t ++ x) (sym h) ∙ e ∙ ap (λ (t : List ℕ). t ++ y) k)
aligned [] (d ∷ b) f g x y p q h k e = first_ends (record {
  entry = d;
  others = b;
  line = k.0;
  more = k.1 ++ y;
  longer = refl;
  says = k.2;
  rest_is = behind k.0 k.1 y x (ap (λ (t : List ℕ). t ++ x) (sym h) ∙ e ∙ ap (λ (t : List ℕ). t ++ y) k.3);
})
aligned (c ∷ a) [] f g x y p q h k e = second_ends (record {
  entry = c;
  others = a;
  line = h.0;
  more = h.1 ++ x;
  longer = refl;
  says = h.2;
  rest_is = behind h.0 h.1 x y (ap (λ (t : List ℕ). t ++ y) (sym k) ∙ sym e ∙ ap (λ (t : List ℕ). t ++ x) h.3);
})
aligned (c ∷ a) (d ∷ b) f g x y p q h k e =
    let rc = All-head IsInRange c a p in
    let rd = All-head IsInRange d b q in
    let texts : h.0 ++ (10 ∷ (h.1 ++ x)) ≡ k.0 ++ (10 ∷ (k.1 ++ y)) = sym (behind h.0 h.1 x (f ++ x) (ap (λ (t : List ℕ). t ++ x) h.3)) ∙ e ∙ behind k.0 k.1 y (g ++ y) (ap (λ (t : List ℕ). t ++ y) k.3) in
    let split = one_split 10 h.0 k.0 (h.1 ++ x) (k.1 ++ y) (line_lacks c h.0 rc h.2) (line_lacks d k.0 rd k.2) texts in
    let is : c ≡ d = one_entry c d k.0 rc rd (subst (λ (t : List ℕ). IsEntryLine c t) split.0 h.2) k.2 in
    both_more c d a b x y is (aligned a b h.1 k.1 x y (All-tail IsInRange c a p) (All-tail IsInRange d b q) h.4 k.4 split.1)

-- two fronts of one text
align : (text : List ℕ) (a b : List Entry) (x y : List ℕ) → Begins text a x → Begins text b y → Aligned a b x y
align text a b x y p q = aligned a b p.front q.front x y p.script.lawful.in_range q.script.lawful.in_range p.script.lines q.script.lines (sym p.text_is ∙ q.text_is)

-- where others go on, an entry that may follow comes next
goes_on : (a b : List Entry) (rest : List ℕ) → IsLawfulScript b → NoneContinues a rest → GoesOn a b rest → ⊥
goes_on a b rest lawful none g =
    let whole : IsLawfulScript ((a ++ g.entry ∷ []) ++ g.others) = subst IsLawfulScript (g.longer ∙ sym (append_assoc a (g.entry ∷ []) g.others)) lawful in
    none g.entry g.more (record { line = g.line; says = g.says; text_is = g.rest_is; lawful = lawful_front (a ++ g.entry ∷ []) g.others whole })

-- nothing goes on after the end
ended : (a b : List Entry) → GoesOn a b [] → ⊥
ended a b g = absurd (omega (arith, ap length g.rest_is, length-append g.line (10 ∷ g.more)))

-- a script is a front of its text, with nothing after it
whole : (entries : List Entry) (text : List ℕ) → IsScript entries text → Begins text entries []
whole entries text h = record { front = text; script = h; text_is = sym (append-nil text) }

pub one_script : (text : List ℕ) (a b : List Entry) → IsScript a text → IsScript b text → a ≡ b
one_script text a b p q = elim (align text a b [] [] (whole a text p) (whole b text q)) [
  | same is rest ↦ is
  | first_ends g ↦ absurd (ended a b g)
  | second_ends g ↦ absurd (ended b a g)
]

pub one_line : (text : List ℕ) (m n : ℕ) → IsRefusedAt text m → IsRefusedAt text n → m ≡ n
one_line text m n p q = elim (align text p.before q.before p.rest q.rest p.begins q.begins) [
  | same is rest ↦ p.counted ∙ ap (λ (x : List Entry). length x + 1) is ∙ sym q.counted
  | first_ends g ↦ absurd (goes_on p.before q.before p.rest q.begins.script.lawful p.none g)
  | second_ends g ↦ absurd (goes_on q.before p.before q.rest p.begins.script.lawful q.none g)
]

pub not_both : (text : List ℕ) (entries : List Entry) (line : ℕ) → IsScript entries text → IsRefusedAt text line → ⊥
not_both text entries line h r = elim (align text entries r.before [] r.rest (whole entries text h) r.begins) [
  | same is rest ↦ (let some = r.some in omega (arith, some, ap length rest))
  | first_ends g ↦ ended entries r.before g
  | second_ends g ↦ goes_on r.before entries r.rest h.lawful r.none g
]
