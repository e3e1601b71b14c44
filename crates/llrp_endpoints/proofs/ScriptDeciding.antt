-- Each text is a script or has a first refused line, and each lawful list of entries has a script.
use Rattle.std.proofs.Common.{◌≡◌, ℕ, zero, suc, ◌+◌, ◌^◌, ◌<◌, ◌≤◌, List, [], ◌∷◌, ◌++◌, length, ◌⊎◌, inl, inr, refl, sym, ap, subst, ◌∙◌, arith, codes, decimal, ℤ, pos, negsuc, append_assoc}
use Rattle.std.specs.Prelude.{◌==◌, All, FitsSigned, false}
use Rattle.std.specs.Fmt.{signed_decimal}
use Rattle.std.specs.Int.{w8}
use Rattle.std.proofs.lemmas.Bool.{eqb-true, cases_lt}
use Rattle.std.proofs.lemmas.List.{append_cancel_left}
use Rattle.std.proofs.lemmas.List.Elements.{All-nil, All-cons, All-head, All-tail}
use Rattle.tag_uri.specs.TagText.{IsTextOf}
use Rattle.tag_uri.proofs.Deciding.{Decided, Below, below, same_text, text_decided, has_text}
use Rattle.tag_uri.proofs.ReadLemmas.{bool_cases}
use Rattle.tag_uri.proofs.TextLaws.{texts_same}
use Rattle.llrp_session.specs.declared.types.Sighting.{Sighting}
use Rattle.llrp_endpoints.specs.declared.script.Action.{Action}
use Rattle.llrp_endpoints.specs.declared.script.Action.TheVariants.{Seen, Tick}
use Rattle.llrp_endpoints.specs.declared.script.Entry.{Entry}
use Rattle.llrp_listing.specs.Calls.Splits.{Lacks, IsSplit}
use Rattle.llrp_endpoints.specs.Calls.Script.{IsSightingLine, IsActionLine, IsEntryLine, IsSightingInRange, IsActionInRange, IsInRange, IsTextOfAll, IsLawfulScript, IsScript, Begins, Continues, NoneContinues, IsRefusedAt}
use Rattle.llrp_endpoints.specs.declared.script.TheConstants.{MOST_ENTRIES}
use Rattle.llrp_endpoints.specs.Private.Script.{MayFollow}
use Rattle.llrp_endpoints.specs.Calls.ScriptLaws.{ScriptOrRefused}
use Rattle.llrp_endpoints.proofs.ScriptEntries.{no_line, next_line, may_not, lawful_push}
use Rattle.llrp_endpoints.proofs.ScriptTexts.{begins_none, begins_more, shorter, begins_all, refused_at}
use Rattle.llrp_endpoints.proofs.ScriptUnique as unique

-- ---- what a text begins with

-- the text begins so, or not
begins_so : (p text : List ℕ) → Decided ((rest : List ℕ) × (text ≡ p ++ rest))
begins_so [] text = inl (text, refl)
begins_so (c ∷ p) [] = inr (λ h. (let e = h.1 in cc))
begins_so (c ∷ p) (d ∷ text) = elim (bool_cases (d == c)) [
  | inr e ↦ inr (λ h. differ d c e (first h.0 h.1))
  | inl e ↦ elim (begins_so p text) [
    | inl h ↦ inl (h.0, let is : d ≡ c = eqb-true d c e in let more = h.1 in rw (is, more) refl)
    | inr never ↦ inr (λ h. never (h.0, rest h.0 h.1))
  ]
]
  where
    first : (x : List ℕ) → d ∷ text ≡ (c ∷ p) ++ x → d ≡ c
    first x e = cc

    rest : (x : List ℕ) → d ∷ text ≡ (c ∷ p) ++ x → text ≡ p ++ x
    rest x e = cc

    differ : (d c : ℕ) → (d == c) ≡ false → d ≡ c → ⊥
    differ d c h e = grind arith

-- the text begins so, and a fact that is decided holds of the rest
then_so : (p text : List ℕ) (P : List ℕ → Type 0) → ((t : List ℕ) → Decided (P t)) → Decided ((t : List ℕ) × P t × (text ≡ p ++ t))
then_so p text P decide = elim (begins_so p text) [
  | inr never ↦ inr (λ h. never (h.0, h.2))
  | inl h ↦ elim (decide h.0) [
    | inl good ↦ inl (h.0, good, h.1)
    | inr bad ↦ inr (λ k. bad (subst P (append_cancel_left p k.0 h.0 (sym k.2 ∙ h.1)) k.1))
  ]
]

-- two words, and what follows them
spread : (x y t : List ℕ) → (x ++ (32 ∷ (y ++ (32 ∷ [])))) ++ t ≡ x ++ (32 ∷ (y ++ (32 ∷ t)))
spread x y t = append_assoc x (32 ∷ (y ++ (32 ∷ []))) t ∙ ap (λ (z : List ℕ). x ++ (32 ∷ z)) (append_assoc y (32 ∷ []) t)

-- ---- sightings, actions and entries

-- some number that an i8 holds
signed : (P : ℤ → Type 0) → ((z : ℤ) → FitsSigned w8 z → Decided (P z)) → Decided ((z : ℤ) × FitsSigned w8 z × P z)
signed P d = elim (below (λ n. P (pos n)) 128 (λ n lt. d (pos n) (record { sfits = lt }))) [
  | inl h ↦ inl (pos h.0, record { sfits = h.1 }, h.2)
  | inr a ↦ elim (below (λ n. P (negsuc n)) 128 (λ n lt. d (negsuc n) (record { sfits = lt }))) [
    | inl h ↦ inl (negsuc h.0, record { sfits = h.1 }, h.2)
    | inr b ↦ inr (λ h. none a b h.0 h.1 h.2)
  ]
]
  where
    none : (Below 128 (λ n. P (pos n)) → ⊥) → (Below 128 (λ n. P (negsuc n)) → ⊥) → (z : ℤ) → FitsSigned w8 z → P z → ⊥
    none a b (pos n) f p = a (n, f.sfits, p)
    none a b (negsuc n) f p = b (n, f.sfits, p)

abbrev WordText : List ℕ → Type 0
WordText text = (w : ℕ) × (w < 2 ^ 96) × IsTextOf w text

abbrev Prefixed : ℕ → ℤ → List ℕ → Type 0
Prefixed a z text = (t : List ℕ) × WordText t × (text ≡ (decimal a ++ (32 ∷ (signed_decimal z ++ (32 ∷ [])))) ++ t)

sighting_decided : (text : List ℕ) → Decided ((s : Sighting) × IsSightingInRange s × IsSightingLine s text)
sighting_decided text = elim (below (λ a. (z : ℤ) × FitsSigned w8 z × Prefixed a z text) (2 ^ 16) (λ a la. signed (λ z. Prefixed a z text) (λ z fz. then_so (decimal a ++ (32 ∷ (signed_decimal z ++ (32 ∷ [])))) text WordText text_decided))) [
  | inl h ↦ inl (
    record { antenna = h.0; rssi = h.2.0; epc = h.2.2.1.0 },
    record { antenna = h.1; rssi = h.2.1; epc = h.2.2.1.1 },
    (h.2.2.0, h.2.2.1.2, h.2.2.2 ∙ spread (decimal h.0) (signed_decimal h.2.0) h.2.2.0),
  )
  | inr never ↦ inr (λ h. never (h.0.antenna, h.1.antenna, (h.0.rssi, h.1.rssi, (h.2.0, (h.0.epc, h.1.epc, h.2.1), h.2.2 ∙ sym (spread (decimal h.0.antenna) (signed_decimal h.0.rssi) h.2.0)))))
]

action_decided : (text : List ℕ) → Decided ((a : Action) × IsActionInRange a × IsActionLine a text)
action_decided text = elim (same_text text (codes "tick")) [
  | inl e ↦ inl (Tick, tt, e)
  | inr no_tick ↦ elim (then_so (codes "seen ") text (λ t. (s : Sighting) × IsSightingInRange s × IsSightingLine s t) sighting_decided) [
    | inl h ↦ inl (Seen h.1.0, h.1.1, (h.0, h.1.2, h.2))
    | inr never ↦ inr (λ h. none no_tick never h.0 h.1 h.2)
  ]
]
  where
    none : (text ≡ codes "tick" → ⊥) → (((t : List ℕ) × ((s : Sighting) × IsSightingInRange s × IsSightingLine s t) × (text ≡ codes "seen " ++ t)) → ⊥) → (a : Action) → IsActionInRange a → IsActionLine a text → ⊥
    none no_tick never (Seen s) r h = never (h.0, (s, r, h.1), h.2)
    none no_tick never Tick r h = no_tick h

abbrev Acts : List ℕ → Type 0
Acts text = (a : Action) × IsActionInRange a × IsActionLine a text

entry_decided : (line : List ℕ) → Decided ((e : Entry) × IsInRange e × IsEntryLine e line)
entry_decided line = elim (below (λ a. Below (2 ^ 64) (λ n. Then a n)) (2 ^ 64) (λ a la. below (λ n. Then a n) (2 ^ 64) (λ n ln. then_so (decimal a ++ (32 ∷ (decimal n ++ (32 ∷ [])))) line Acts action_decided))) [
  | inl h ↦ inl (
    record { after = h.0; now = h.2.0; action = h.2.2.1.0 },
    record { after = h.1; now = h.2.1; action = h.2.2.1.1 },
    (h.2.2.0, h.2.2.1.2, h.2.2.2 ∙ spread (decimal h.0) (decimal h.2.0) h.2.2.0),
  )
  | inr never ↦ inr (λ h. never (h.0.after, h.1.after, (h.0.now, h.1.now, (h.2.0, (h.0.action, h.1.action, h.2.1), h.2.2 ∙ sym (spread (decimal h.0.after) (decimal h.0.now) h.2.0)))))
]
  where
    Then : ℕ → ℕ → Type 0
    Then a n = (t : List ℕ) × Acts t × (line ≡ (decimal a ++ (32 ∷ (decimal n ++ (32 ∷ [])))) ++ t)

-- ---- the line that comes next

-- the bytes before the first such byte, if there is one
cut : (byte : ℕ) (bytes : List ℕ) → Lacks byte bytes ⊎ ((line : List ℕ) × (rest : List ℕ) × IsSplit byte bytes line rest)
cut byte [] = inl tt
cut byte (c ∷ bytes) = elim (bool_cases (c == byte)) [
  | inl e ↦ inr ([], bytes, (tt, let is : c ≡ byte = eqb-true c byte e in rw is refl))
  | inr e ↦ elim (cut byte bytes) [
    | inl none ↦ inl (e, none)
    | inr h ↦ inr (c ∷ h.0, h.1, ((e, h.2.0), ap (λ (t : List ℕ). c ∷ t) h.2.1))
  ]
]

all_at_most : (n : Entry → ℕ) (m : ℕ) (entries : List Entry) → Decided (All (λ e. n e ≤ m) entries)
all_at_most n m [] = inl (All-nil (λ e. n e ≤ m))
all_at_most n m (e ∷ entries) = elim (cases_lt m (n e)) [
  | inl over ↦ inr (λ h. (let low = All-head (λ x. n x ≤ m) e entries h in omega (arith, over, low)))
  | inr low ↦ elim (all_at_most n m entries) [
    | inl all ↦ inl (All-cons (λ x. n x ≤ m) e entries low all)
    | inr never ↦ inr (λ h. never (All-tail (λ x. n x ≤ m) e entries h))
  ]
]

may_decided : (entries : List Entry) (after now : ℕ) → Decided (MayFollow entries after now)
may_decided entries after now = elim (cases_lt (length entries) MOST_ENTRIES) [
  | inr full ↦ inr (λ h. (let room = h.room in omega (arith, room, full)))
  | inl room ↦ elim (all_at_most (λ e. e.after) after entries) [
    | inr never ↦ inr (λ h. never h.after_rises)
    | inl p ↦ elim (all_at_most (λ e. e.now) now entries) [
      | inr never ↦ inr (λ h. never h.now_rises)
      | inl q ↦ inl (record { after_rises = p; now_rises = q; room = room })
    ]
  ]
]

-- an entry that may follow comes next, or none
next_decided : (entries : List Entry) (text : List ℕ) → IsLawfulScript entries → ((e : Entry) × (rest : List ℕ) × Continues entries text e rest) ⊎ NoneContinues entries text
next_decided entries text lawful = elim (cut 10 text) [
  | inl none ↦ inr (no_line entries text none)
  | inr h ↦ elim (entry_decided h.0) [
    | inr never ↦ inr (λ e more k. (let next = next_line entries text h.0 h.1 e more h.2 k in never (e, next.in_range, next.says)))
    | inl x ↦ elim (may_decided entries x.0.after x.0.now) [
      | inr falls ↦ inr (may_not entries text h.0 h.1 x.0 h.2 x.1 x.2 falls)
      | inl may ↦ inl (x.0, h.1, record { line = h.0; says = x.2; text_is = h.2.1; lawful = lawful_push entries x.0 lawful x.1 may })
    ]
  ]
]

-- ---- whole texts

abbrev Answered : List ℕ → Type 0
Answered text = ((entries : List Entry) × IsScript entries text) ⊎ ((line : ℕ) × IsRefusedAt text line)

-- the lines are gone through, one after the other
found : (n : ℕ) (text : List ℕ) (entries : List Entry) (rest : List ℕ) → length rest ≤ n → Begins text entries rest → Answered text
found zero text entries rest few b = inl (entries, begins_all text entries rest b (omega arith))
found (suc n) text entries rest few b = elim (cases_lt 0 (length rest)) [
  | inr none ↦ inl (entries, begins_all text entries rest b (omega arith))
  | inl some ↦ elim (next_decided entries rest b.script.lawful) [
    | inr never ↦ inr (length entries + 1, refused_at text entries rest b some never)
    | inl h ↦ found n text (entries ++ h.0 ∷ []) h.1 (omega (arith, shorter entries rest h.0 h.1 h.2)) (begins_more text entries rest h.0 h.1 b h.2)
  ]
]

pub script_or_refused : (text : List ℕ) → ScriptOrRefused text
script_or_refused text = record {
  one_of_both = found (length text) text [] text (omega arith) (begins_none text);
  one_script = unique.one_script text;
  one_line = unique.one_line text;
  not_both = unique.not_both text;
}

-- ---- the text of entries

action_text : (a : Action) → (text : List ℕ) × IsActionLine a text
action_text (Seen s) = let t = has_text s.epc in (_, (_, (t.0, t.1, refl), refl))
action_text Tick = (codes "tick", refl)

texts : (entries : List Entry) → (text : List ℕ) × IsTextOfAll entries text
texts [] = ([], refl)
texts (e ∷ entries) =
    let a = action_text e.action in
    let t = texts entries in
    let line : List ℕ = decimal e.after ++ (32 ∷ (decimal e.now ++ (32 ∷ a.0))) in
    (line ++ (10 ∷ t.0), (line, t.0, (a.0, a.1, refl), refl, t.1))

pub has_script : (entries : List Entry) → IsLawfulScript entries → (text : List ℕ) × IsScript entries text
has_script entries lawful = let t = texts entries in (t.0, record { lawful = lawful; lines = t.1 })

same_action : (a : Action) (s t : List ℕ) → IsActionLine a s → IsActionLine a t → s ≡ t
same_action (Seen x) s t h k =
    let epc : h.1.0 ≡ k.1.0 = texts_same x.epc h.1.0 k.1.0 h.1.1 k.1.1 in
    h.2 ∙ ap (λ (z : List ℕ). codes "seen " ++ z) (h.1.2 ∙ ap (λ (z : List ℕ). decimal x.antenna ++ (32 ∷ (signed_decimal x.rssi ++ (32 ∷ z)))) epc ∙ sym k.1.2) ∙ sym k.2
same_action Tick s t h k = h ∙ sym k

same_lines : (entries : List Entry) (s t : List ℕ) → IsTextOfAll entries s → IsTextOfAll entries t → s ≡ t
same_lines [] s t h k = h ∙ sym k
same_lines (e ∷ entries) s t h k =
    let action : h.2.0 ≡ k.2.0 = same_action e.action h.2.0 k.2.0 h.2.1 k.2.1 in
    let line : h.0 ≡ k.0 = h.2.2 ∙ ap (λ (z : List ℕ). decimal e.after ++ (32 ∷ (decimal e.now ++ (32 ∷ z)))) action ∙ sym k.2.2 in
    let rest : h.1 ≡ k.1 = same_lines entries h.1 k.1 h.4 k.4 in
    h.3 ∙ ap (λ (z : List ℕ). z ++ (10 ∷ h.1)) line ∙ ap (λ (z : List ℕ). k.0 ++ (10 ∷ z)) rest ∙ sym k.3

pub one_text : (entries : List Entry) (s t : List ℕ) → IsScript entries s → IsScript entries t → s ≡ t
one_text entries s t h k = same_lines entries s t h.lines k.lines
