-- The entries of a script: which may follow, and that a line says one entry.
use Rattle.std.proofs.Common.{◌≡◌, ℕ, ◌+◌, ◌-◌, ◌<◌, ◌≤◌, List, [], ◌∷◌, ◌++◌, length, get_or, take, refl, sym, ap, subst, ◌∙◌, arith, codes, decimal, length-append}
use Rattle.std.specs.Prelude.{All}
use Rattle.std.specs.Fmt.{signed_decimal}
use Rattle.std.specs.List.Sorted.{IsNonDecreasingBy}
use Rattle.std.proofs.Math.Seq.{get_or-append_seam, take-append_seam}
use Rattle.std.proofs.lemmas.Fmt.{decimal_injective, signed_decimal_injective}
use Rattle.std.proofs.lemmas.List.{get_or_append_left, append_cancel_left}
use Rattle.std.proofs.lemmas.List.Elements.{All-nil, All-push, All-take}
use Rattle.std.proofs.lemmas.List.Sorted.{IsNonDecreasingBy-short, IsNonDecreasingBy-push, IsNonDecreasingBy-take}
use Rattle.tag_uri.specs.TagText.{IsTextOf}
use Rattle.tag_uri.proofs.TextLaws.{words_apart}
use Rattle.llrp_session.specs.declared.types.Sighting.{Sighting}
use Rattle.llrp_endpoints.specs.declared.script.Action.{Action}
use Rattle.llrp_endpoints.specs.declared.script.Action.TheVariants.{Seen, Tick}
use Rattle.llrp_endpoints.specs.declared.script.Entry.{Entry}
use Rattle.llrp_listing.specs.Calls.Splits.{Lacks, IsSplit}
use Rattle.llrp_endpoints.specs.Calls.Script.{IsSightingLine, IsActionLine, IsEntryLine, IsSightingInRange, IsActionInRange, IsInRange, IsLawfulScript, Continues, NoneContinues}
use Rattle.llrp_endpoints.specs.declared.script.TheConstants.{MOST_ENTRIES}
use Rattle.llrp_endpoints.specs.Private.Script.{MayFollow}
use Rattle.llrp_listing.proofs.SplitWords.{one_split, lacks_not, lacks_append, decimal_lacks, signed_lacks}
use Rattle.llrp_endpoints.proofs.WordTexts.{text_lacks}

-- ---- which entries may follow

-- the last of some entries has the greatest AFTER and the greatest NOW
pub may_follow : (entries : List Entry) (last : Entry) (after now : ℕ) → IsLawfulScript entries → 0 < length entries → ((d : Entry) → last ≡ get_or entries (length entries - 1) d) → last.after ≤ after → last.now ≤ now → length entries < MOST_ENTRIES → MayFollow entries after now
may_follow entries last after now lawful some is le_after le_now room = record {
  after_rises = λ k d lt. (let up : (get_or entries k d).after ≤ (get_or entries (length entries - 1) d).after = lawful.after k (length entries - 1) d (omega arith) (omega arith) in omega (arith, up, ap (λ (e : Entry). e.after) (is d)));
  now_rises = λ k d lt. (let up : (get_or entries k d).now ≤ (get_or entries (length entries - 1) d).now = lawful.now k (length entries - 1) d (omega arith) (omega arith) in omega (arith, up, ap (λ (e : Entry). e.now) (is d)));
  room = room;
}

-- what follows has at least the NOW of the last
pub last_now : (entries : List Entry) (last : Entry) (after now : ℕ) → 0 < length entries → ((d : Entry) → last ≡ get_or entries (length entries - 1) d) → MayFollow entries after now → last.now ≤ now
last_now entries last after now some is may =
    let up : (get_or entries (length entries - 1) last).now ≤ now = may.now_rises (length entries - 1) last (omega arith) in
    omega (arith, up, ap (λ (e : Entry). e.now) (is last))

pub no_entries : IsLawfulScript []
no_entries = record { in_range = All-nil IsInRange; after = IsNonDecreasingBy-short (λ e. e.after) [] (omega arith); now = IsNonDecreasingBy-short (λ e. e.now) [] (omega arith); few = omega arith }

-- an entry that may follow leaves the entries lawful
pub lawful_push : (entries : List Entry) (e : Entry) → IsLawfulScript entries → IsInRange e → MayFollow entries e.after e.now → IsLawfulScript (entries ++ e ∷ [])
lawful_push entries e lawful r may =
    let room = may.room in
    record {
      in_range = All-push IsInRange entries e lawful.in_range r;
      after = IsNonDecreasingBy-push (λ x. x.after) entries e lawful.after (λ d some. may.after_rises (length entries - 1) d (omega arith));
      now = IsNonDecreasingBy-push (λ x. x.now) entries e lawful.now (λ d some. may.now_rises (length entries - 1) d (omega arith));
      few = omega (arith, length-append entries (e ∷ []));
    }

-- the last of lawful entries
pub lawful_last : (entries : List Entry) (e : Entry) → IsLawfulScript (entries ++ e ∷ []) → IsInRange e × MayFollow entries e.after e.now
lawful_last entries e lawful =
    let longer : length (entries ++ e ∷ []) ≡ length entries + 1 = length-append entries (e ∷ []) in
    let few = lawful.few in
    let seam : get_or (entries ++ e ∷ []) (length entries) e ≡ e = get_or-append_seam entries e [] e in (
      subst IsInRange seam (lawful.in_range (length entries) e (omega (arith, longer))),
      record {
        after_rises = λ k d lt. rises (λ x. x.after) k d lt lawful.after;
        now_rises = λ k d lt. rises (λ x. x.now) k d lt lawful.now;
        room = omega (arith, longer, few);
      },
    )
  where
    rises : (n : Entry → ℕ) (k : ℕ) (d : Entry) → k < length entries → IsNonDecreasingBy n (entries ++ e ∷ []) → n (get_or entries k d) ≤ n e
    rises n k d lt up =
        let step : n (get_or (entries ++ e ∷ []) k d) ≤ n (get_or (entries ++ e ∷ []) (length entries) d) = up k (length entries) d (omega arith) (omega (arith, length-append entries (e ∷ []))) in
        let here = ap n (get_or_append_left entries (e ∷ []) d k lt) in
        let there = ap n (get_or-append_seam entries e [] d) in
        omega (arith, step, here, there)

-- the first of lawful entries are lawful
pub lawful_front : (a b : List Entry) → IsLawfulScript (a ++ b) → IsLawfulScript a
lawful_front a b h =
    let e : take (length a) (a ++ b) ≡ a = take-append_seam a b in
    let few = h.few in
    record {
      in_range = subst (λ (x : List Entry). All IsInRange x) e (All-take IsInRange (length a) (a ++ b) h.in_range);
      after = subst (λ (x : List Entry). IsNonDecreasingBy (λ y. y.after) x) e (IsNonDecreasingBy-take (λ y. y.after) (length a) (a ++ b) h.after);
      now = subst (λ (x : List Entry). IsNonDecreasingBy (λ y. y.now) x) e (IsNonDecreasingBy-take (λ y. y.now) (length a) (a ++ b) h.now);
      few = omega (arith, length-append a b, few);
    }

-- ---- a line says one entry

same_sighting : (a b : ℕ) (y z : _) (v w : ℕ) → a ≡ b → y ≡ z → v ≡ w → ◌≡◌ {A = Sighting} (record { antenna = a; rssi = y; epc = v }) (record { antenna = b; rssi = z; epc = w })
same_sighting a b y z v w p q r = rw (p, q, r) refl

one_sighting : (s t : Sighting) (line : List ℕ) → IsSightingInRange s → IsSightingInRange t → IsSightingLine s line → IsSightingLine t line → s ≡ t
one_sighting s t line p q h k =
    let a = p.antenna in
    let b = q.antenna in
    let y = p.rssi.sfits in
    let z = q.rssi.sfits in
    let first = one_split 32 (decimal s.antenna) (decimal t.antenna) (signed_decimal s.rssi ++ (32 ∷ h.0)) (signed_decimal t.rssi ++ (32 ∷ k.0)) (decimal_lacks 32 s.antenna (omega arith) (omega (arith, a))) (decimal_lacks 32 t.antenna (omega arith) (omega (arith, b))) (sym h.2 ∙ k.2) in
    let second = one_split 32 (signed_decimal s.rssi) (signed_decimal t.rssi) h.0 k.0 (signed_lacks 32 s.rssi (omega arith) p.rssi) (signed_lacks 32 t.rssi (omega arith) q.rssi) first.1 in
    same_sighting s.antenna t.antenna s.rssi t.rssi s.epc t.epc
    (decimal_injective s.antenna t.antenna (omega (arith, a)) (omega (arith, b)) first.0)
    (signed_decimal_injective s.rssi t.rssi (omega (arith, y)) (omega (arith, z)) second.0)
    (words_apart s.epc t.epc k.0 p.epc q.epc (subst (λ (x : List ℕ). IsTextOf s.epc x) second.1 h.1) k.1)

tick_or_seen : (x : List ℕ) → codes "seen " ++ x ≡ codes "tick" → ⊥
tick_or_seen x e = differ (get_or (codes "seen " ++ x) 0 0) (get_or (codes "tick") 0 0) (ap (λ (t : List ℕ). get_or t 0 0) e) refl refl
  where
    differ : (a b : ℕ) → a ≡ b → a ≡ 115 → b ≡ 116 → ⊥
    differ a b e p q = omega arith

one_action : (a b : Action) (text : List ℕ) → IsActionInRange a → IsActionInRange b → IsActionLine a text → IsActionLine b text → a ≡ b
one_action (Seen s) (Seen t) text p q h k =
    let same : h.0 ≡ k.0 = append_cancel_left (codes "seen ") h.0 k.0 (sym h.2 ∙ k.2) in
    ap Seen (one_sighting s t k.0 p q (subst (λ (x : List ℕ). IsSightingLine s x) same h.1) k.1)
one_action (Seen s) Tick text p q h k = absurd (tick_or_seen h.0 (sym h.2 ∙ k))
one_action Tick (Seen t) text p q h k = absurd (tick_or_seen k.0 (sym k.2 ∙ h))
one_action Tick Tick text p q h k = refl

same_entry : (a b m n : ℕ) (x y : Action) → a ≡ b → m ≡ n → x ≡ y → ◌≡◌ {A = Entry} (record { after = a; now = m; action = x }) (record { after = b; now = n; action = y })
same_entry a b m n x y p q r = rw (p, q, r) refl

pub one_entry : (d e : Entry) (line : List ℕ) → IsInRange d → IsInRange e → IsEntryLine d line → IsEntryLine e line → d ≡ e
one_entry d e line p q h k =
    let first = one_split 32 (decimal d.after) (decimal e.after) (decimal d.now ++ (32 ∷ h.0)) (decimal e.now ++ (32 ∷ k.0)) (decimal_lacks 32 d.after (omega arith) p.after) (decimal_lacks 32 e.after (omega arith) q.after) (sym h.2 ∙ k.2) in
    let second = one_split 32 (decimal d.now) (decimal e.now) h.0 k.0 (decimal_lacks 32 d.now (omega arith) p.now) (decimal_lacks 32 e.now (omega arith) q.now) first.1 in
    same_entry d.after e.after d.now e.now d.action e.action
    (decimal_injective d.after e.after p.after q.after first.0)
    (decimal_injective d.now e.now p.now q.now second.0)
    (one_action d.action e.action k.0 p.action q.action (subst (λ (x : List ℕ). IsActionLine d.action x) second.1 h.1) k.1)

-- ---- lines end at their LF

action_lacks : (a : Action) (text : List ℕ) → IsActionInRange a → IsActionLine a text → Lacks 10 text
action_lacks (Seen s) text r h =
    let t = r.antenna in
    let epc : Lacks 10 h.1.0 = text_lacks 10 s.epc h.1.0 (omega arith) h.1.1 in
    let behind : Lacks 10 (signed_decimal s.rssi ++ (32 ∷ h.1.0)) = lacks_append 10 (signed_decimal s.rssi) (32 ∷ h.1.0) (signed_lacks 10 s.rssi (omega arith) r.rssi) (refl, epc) in
    let sighting : Lacks 10 (decimal s.antenna ++ (32 ∷ (signed_decimal s.rssi ++ (32 ∷ h.1.0)))) = lacks_append 10 (decimal s.antenna) (32 ∷ (signed_decimal s.rssi ++ (32 ∷ h.1.0))) (decimal_lacks 10 s.antenna (omega arith) (omega (arith, t))) (refl, behind) in
    subst (λ (x : List ℕ). Lacks 10 x) (sym h.2) (refl, (refl, (refl, (refl, (refl, subst (λ (x : List ℕ). Lacks 10 x) (sym h.1.2) sighting)))))
action_lacks Tick text r h = subst (λ (x : List ℕ). Lacks 10 x) (sym h) (refl, (refl, (refl, (refl, tt))))

pub line_lacks : (e : Entry) (line : List ℕ) → IsInRange e → IsEntryLine e line → Lacks 10 line
line_lacks e line r h =
    let action : Lacks 10 h.0 = action_lacks e.action h.0 r.action h.1 in
    let behind : Lacks 10 (decimal e.now ++ (32 ∷ h.0)) = lacks_append 10 (decimal e.now) (32 ∷ h.0) (decimal_lacks 10 e.now (omega arith) r.now) (refl, action) in
    subst (λ (x : List ℕ). Lacks 10 x) (sym h.2) (lacks_append 10 (decimal e.after) (32 ∷ (decimal e.now ++ (32 ∷ h.0))) (decimal_lacks 10 e.after (omega arith) r.after) (refl, behind))

-- ---- the line that comes next

-- a text without an LF has no line
pub no_line : (entries : List Entry) (text : List ℕ) → Lacks 10 text → NoneContinues entries text
no_line entries text none e rest h = lacks_not 10 text h.line rest none h.text_is

-- the line that comes next is what comes before the first LF
pub record Next (entries : List Entry) (line rest : List ℕ) (e : Entry) (more : List ℕ) : Type 0 where
  pub in_range : IsInRange e
  pub says : IsEntryLine e line
  pub rest_is : more ≡ rest
  pub may : MayFollow entries e.after e.now

pub next_line : (entries : List Entry) (text line rest : List ℕ) (e : Entry) (more : List ℕ) → IsSplit 10 text line rest → Continues entries text e more → Next entries line rest e more
next_line entries text line rest e more p h =
    let last = lawful_last entries e h.lawful in
    let same = one_split 10 h.line line more rest (line_lacks e h.line last.0 h.says) p.0 (sym h.text_is ∙ p.1) in
    record { in_range = last.0; says = subst (λ (x : List ℕ). IsEntryLine e x) same.0 h.says; rest_is = same.1; may = last.1 }

-- the entry that its line says may not follow
pub may_not : (entries : List Entry) (text line rest : List ℕ) (e : Entry) → IsSplit 10 text line rest → IsInRange e → IsEntryLine e line → (MayFollow entries e.after e.now → ⊥) → NoneContinues entries text
may_not entries text line rest e p r says no_room d more h =
    let next = next_line entries text line rest d more p h in
    let same : d ≡ e = one_entry d e line next.in_range r next.says says in
    no_room (subst (λ (x : Entry). MayFollow entries x.after x.now) same next.may)
