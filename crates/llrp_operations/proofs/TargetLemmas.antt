-- The AccessSpec of a request fits the tags with its EPC, and no others.
use Rattle.std.proofs.Common.{◌≡◌, ◌∙◌, ℕ, zero, suc, ◌+◌, ◌*◌, ◌/◌, ◌%◌, ◌<◌, ◌≤◌, Bool, true, false, ◌&&◌, List, [], ◌∷◌, ◌++◌, length, take, drop, refl, sym, ap, rules, arith, replicate, append_assoc}
use Rattle.std.specs.Prelude.{filter, slice_index}
use Rattle.std.specs.Bool.{beq}
use Rattle.std.specs.List.{list_all}
use Rattle.std.proofs.lemmas.List.{append-nil, length-append, take_all}
use Rattle.tag_bits.specs.Digits.{digits, digits_of_bytes}
use Rattle.tag_bits.proofs.ByteLemmas.{bytes-nil, bytes-cons, length-bytes, take-bytes}
use Rattle.tag_bits.proofs.DigitLemmas.{digits-injective, length-digits, take-digits}
use Rattle.tag_memory.specs.declared.bank.Bank.TheVariants.{Epc}
use Rattle.tag_memory.specs.Calls.Memory.{Memory}
use Rattle.llrp_access.specs.Calls.Targets.{Pattern, agrees, bits_of, hits, stands}
use Rattle.llrp_access.proofs.BitLemmas.{agree_ones, ones, past_words, two_octets}
use Rattle.llrp_schema.specs.declared.kinds.ParamKind.TheVariants.{WholeC1G2TagSpec}
use Rattle.llrp_schema.specs.Schema.{number_of, param_rule, rule_of}
use Rattle.llrp_tree.specs.Lawful.{AreOctets}
use Rattle.llrp_tree.specs.Tree.{Tree, trees}
use Rattle.llrp_tree.proofs.SpelledLemmas.{same_octets}
use Rattle.llrp_tree.proofs.TreeLemmas.{trees-forest}
use Rattle.llrp_operations.specs.declared.operation.Operation.{Operation}
use Rattle.llrp_operations.specs.declared.operation.Operation.TheVariants.{Read, Write, Lock}
use Rattle.llrp_operations.specs.declared.request.Request.{Request}
use Rattle.llrp_operations.specs.Calls.Operations.{access_command, access_spec, epc_target, length_target, operation_spec, operation_specs, tag_spec, target_tail, targets, words_octets}
use Rattle.llrp_operations.specs.Calls.Results.{is_parameter}
use Rattle.llrp_operations.specs.Calls.Targets.{AreWords, IsEpc, MeansOneEpc, below, bits_in, fits, pattern_in, targets_of}

-- ---- the C1G2TargetTags of an AccessSpec

no_tag_spec : (o : Operation) (id password : ℕ) → is_parameter WholeC1G2TagSpec (operation_spec id password o) ≡ false
unfolding number_of rule_of param_rule
no_tag_spec (Read bank pointer count) id password = refl
no_tag_spec (Write bank pointer words) id password = refl
no_tag_spec (Lock field manner) id password = refl

no_tag_specs : (id password : ℕ) (os : List Operation) → filter (is_parameter WholeC1G2TagSpec) (operation_specs id password os) ≡ []
no_tag_specs id password [] = refl
no_tag_specs id password (o ∷ os) = rw (no_tag_spec o id password) (no_tag_specs (suc id) password os)

targets_are : (r : Request) → targets_of (access_spec r) ≡ targets r.epc.now
unfolding number_of rule_of param_rule
targets_are r =
    let os = operation_specs 1 r.password r.operations.now in
    let children : trees (access_command r.password r.epc.now r.operations.now).children ≡ tag_spec r.epc.now ∷ os = trees-forest (tag_spec r.epc.now ∷ os) in
    let specs : filter (is_parameter WholeC1G2TagSpec) (below (access_command r.password r.epc.now r.operations.now ∷ [])) ≡ tag_spec r.epc.now ∷ [] =
    ap (filter (is_parameter WholeC1G2TagSpec)) (append-nil _ ∙ children) ∙ ap (λ (x : List Tree). tag_spec r.epc.now ∷ x) (no_tag_specs 1 r.password r.operations.now) in
    ap below specs ∙ append-nil _ ∙ trees-forest (targets r.epc.now)

-- ---- what they say

eight_ones : digits 8 255 ≡ replicate 8 true
unfolding digits
eight_ones = refl

all_ones : (n : ℕ) → digits_of_bytes (replicate n 255) ≡ replicate (8 * n) true
all_ones zero = bytes-nil
all_ones (suc n) =
    let e : 8 * suc n ≡ suc (suc (suc (suc (suc (suc (suc (suc (8 * n)))))))) = omega arith in
    bytes-cons 255 (replicate n 255) ∙ ap (λ (x : List Bool). x ++ digits_of_bytes (replicate n 255)) eight_ones ∙ ap (λ (x : List Bool). replicate 8 true ++ x) (all_ones n) ∙ sym (ap (λ (k : ℕ). replicate k true) e)

length-replicate : {X : Type 0} → (n : ℕ) (x : X) → length (replicate n x) ≡ n
length-replicate zero x = refl
length-replicate (suc n) x = ap suc (length-replicate n x)

take_seam : {X : Type 0} → (n : ℕ) (xs ys : List X) → length xs ≡ n → take n (xs ++ ys) ≡ xs
take_seam n [] ys h = rw (sym h) refl
take_seam zero (x ∷ xs) ys h = absurd (search (rules, h))
take_seam {X = X} (suc n) (x ∷ xs) ys h = ap (λ (l : List X). x ∷ l) (take_seam n xs ys (omega (arith, h)))

drop_seam : {X : Type 0} → (n : ℕ) (xs ys : List X) → length xs ≡ n → drop n (xs ++ ys) ≡ ys
drop_seam n [] ys h = rw (sym h) refl
drop_seam zero (x ∷ xs) ys h = absurd (search (rules, h))
drop_seam (suc n) (x ∷ xs) ys h = drop_seam n xs ys (omega (arith, h))

take_past : {X : Type 0} → (n m : ℕ) (xs ys : List X) → length xs ≡ n → take (n + m) (xs ++ ys) ≡ xs ++ take m ys
take_past n m [] ys h = let e : n + m ≡ m = omega (arith, h) in ap (λ (k : ℕ). take k ys) e
take_past zero m (x ∷ xs) ys h = absurd (search (rules, h))
take_past {X = X} (suc n) m (x ∷ xs) ys h =
    let e : suc n + m ≡ suc (n + m) = omega arith in
    ap (λ (k : ℕ). take k (x ∷ (xs ++ ys))) e ∙ ap (λ (l : List X). x ∷ l) (take_past n m xs ys (omega (arith, h)))

five_ones : (xs : List ℕ) → take 5 (digits_of_bytes (248 ∷ xs)) ≡ replicate 5 true
unfolding digits
five_ones xs = ap (λ (x : List Bool). take 5 x) (bytes-cons 248 xs)

abbrev says_length : List ℕ → Pattern
says_length e = record { bank = Epc; matches = true; pointer = 16; mask = replicate 5 true; bits = digits 5 (length e / 2) }

abbrev says_epc : List ℕ → Pattern
says_epc e = record { bank = Epc; matches = true; pointer = 32; mask = replicate (8 * length e) true; bits = digits_of_bytes e }

five_bits : (n : ℕ) → n < 256 → bits_in (0 ∷ 5 ∷ n ∷ []) ≡ digits 5 (n / 8)
five_bits n h =
    let one : digits_of_bytes (n ∷ []) ≡ digits 8 n = bytes-cons n [] ∙ ap (λ (x : List Bool). digits 8 n ++ x) bytes-nil ∙ append-nil (digits 8 n) in
    ap (λ (x : List Bool). take 5 x) one ∙ take-digits 5 3 n h

length_says : (e : List ℕ) → IsEpc e → pattern_in (length_target e) ≡ says_length e
length_says e is =
    let small : 4 * length e < 256 = omega (arith, is.most) in
    let half : 4 * length e / 8 ≡ length e / 2 = omega (arith, is.whole) in
    let mask = five_ones (0 ∷ 5 ∷ 4 * length e ∷ []) in
    let bits = five_bits (4 * length e) small ∙ ap (digits 5) half in
    ap (λ (x : List Bool). record { bank = Epc; matches = true; pointer = 16; mask = x; bits = bits_in (0 ∷ 5 ∷ 4 * length e ∷ []) }) mask
    ∙ ap (λ (x : List Bool). record { bank = Epc; matches = true; pointer = 16; mask = replicate 5 true; bits = x }) bits

epc_says : (e : List ℕ) → pattern_in (epc_target e) ≡ says_epc e
epc_says e =
    let n = length e in
    let count : (8 * n + 7) / 8 ≡ n = omega arith in
    let rest : List ℕ = (8 * n) / 256 ∷ (8 * n) % 256 ∷ e in
    let long : n ≤ length (target_tail e) = rw (length-append (replicate n 255) rest, length-replicate {X = ℕ} n 255) (omega arith) in
    let mask : take (8 * n) (digits_of_bytes (target_tail e)) ≡ replicate (8 * n) true =
    take-bytes n (target_tail e) long ∙ ap digits_of_bytes (take_seam n (replicate n 255) rest (length-replicate {X = ℕ} n 255)) ∙ all_ones n in
    let left : drop ((8 * n + 7) / 8) (target_tail e) ≡ rest = ap (λ (k : ℕ). drop k (target_tail e)) count ∙ drop_seam n (replicate n 255) rest (length-replicate {X = ℕ} n 255) in
    let whole : 256 * ((8 * n) / 256) + (8 * n) % 256 ≡ 8 * n = omega arith in
    let all : length (digits_of_bytes e) ≤ 8 * n = rw (length-bytes e) (omega arith) in
    let bits : bits_in (drop ((8 * n + 7) / 8) (target_tail e)) ≡ digits_of_bytes e = ap bits_in left ∙ ap (λ (k : ℕ). take k (digits_of_bytes e)) whole ∙ take_all (8 * n) (digits_of_bytes e) all in
    ap (λ (x : List Bool). record { bank = Epc; matches = true; pointer = 32; mask = x; bits = bits_in (drop ((8 * n + 7) / 8) (target_tail e)) }) mask
    ∙ ap (λ (x : List Bool). record { bank = Epc; matches = true; pointer = 32; mask = replicate (8 * n) true; bits = x }) bits

-- ---- words and their octets

bits_octets : (ws : List ℕ) → AreWords ws → bits_of ws ≡ digits_of_bytes (words_octets ws)
bits_octets [] h = sym bytes-nil
bits_octets (w ∷ ws) h =
    let one : digits 8 (w / 256) ++ digits 8 (w % 256) ≡ digits 16 w =
    ap (λ (x : List Bool). digits 8 (w / 256) ++ x) (sym (append-nil (digits 8 (w % 256))) ∙ ap (λ (x : List Bool). digits 8 (w % 256) ++ x) (sym bytes-nil) ∙ sym (bytes-cons (w % 256) []))
    ∙ sym (bytes-cons (w / 256) (w % 256 ∷ [])) ∙ two_octets w h.0 in
    let os = words_octets ws in
    let parts : (digits 8 (w / 256) ++ digits 8 (w % 256)) ++ digits_of_bytes os ≡ digits 8 (w / 256) ++ (digits 8 (w % 256) ++ digits_of_bytes os) = append_assoc (digits 8 (w / 256)) (digits 8 (w % 256)) (digits_of_bytes os) in
    ap (λ (x : List Bool). digits 16 w ++ x) (bits_octets ws h.1) ∙ ap (λ (x : List Bool). x ++ digits_of_bytes os) (sym one)
    ∙ parts
    ∙ ap (λ (x : List Bool). digits 8 (w / 256) ++ x) (sym (bytes-cons (w % 256) os)) ∙ sym (bytes-cons (w / 256) (w % 256 ∷ os))

octets_small : (ws : List ℕ) → AreWords ws → AreOctets (words_octets ws)
octets_small [] h = tt
octets_small (w ∷ ws) h = (omega (arith, h.0), (omega arith, octets_small ws h.1))

length-octets : (ws : List ℕ) → length (words_octets ws) ≡ 2 * length ws
length-octets [] = refl
length-octets (w ∷ ws) = let later = length-octets ws in omega (arith, later)

take_words : (k : ℕ) (ws : List ℕ) → k ≤ length ws → take (16 * k) (bits_of ws) ≡ bits_of (take k ws)
take_words zero ws h = refl
take_words (suc k) [] h = absurd (search (rules, h))
take_words (suc k) (w ∷ ws) h = go (take_words k ws (omega (arith, h)))
  where
    go : take (16 * k) (bits_of ws) ≡ bits_of (take k ws) → take (16 * suc k) (digits 16 w ++ bits_of ws) ≡ digits 16 w ++ bits_of (take k ws)
    go later =
        let e : 16 * suc k ≡ 16 + 16 * k = omega arith in
        ap (λ (n : ℕ). take n (digits 16 w ++ bits_of ws)) e ∙ take_past 16 (16 * k) (digits 16 w) (bits_of ws) (length-digits 16 w) ∙ ap (λ (x : List Bool). digits 16 w ++ x) later

words_taken : (k : ℕ) (ws : List ℕ) → AreWords ws → AreWords (take k ws)
words_taken zero ws h = tt
words_taken (suc k) [] h = tt
words_taken (suc k) (w ∷ ws) h = (h.0, words_taken k ws h.1)

-- ---- the tags that both fit

-- a bank of these words begins with an EPC of this many words
first_five : (w0 w1 : ℕ) (ws : List ℕ) → w1 < 65536 → take 5 (drop 16 (bits_of (w0 ∷ w1 ∷ ws))) ≡ digits 5 (w1 / 2048)
first_five w0 w1 ws h =
    ap (λ (x : List Bool). take 5 x) (past_words 1 (w0 ∷ w1 ∷ ws) (omega arith)) ∙ take_front (digits 16 w1) (bits_of ws) (length-digits 16 w1) ∙ take-digits 5 11 w1 h
  where
    take_front : (xs ys : List Bool) → length xs ≡ 16 → take 5 (xs ++ ys) ≡ take 5 xs
    take_front (a ∷ b ∷ c ∷ d ∷ e ∷ xs) ys l = refl
    take_front [] ys l = absurd (search (rules, l))
    take_front (a ∷ []) ys l = absurd (search (rules, l))
    take_front (a ∷ b ∷ []) ys l = absurd (search (rules, l))
    take_front (a ∷ b ∷ c ∷ []) ys l = absurd (search (rules, l))
    take_front (a ∷ b ∷ c ∷ d ∷ []) ys l = absurd (search (rules, l))

-- the bits of its EPC
epc_bits : (w0 w1 : ℕ) (ws : List ℕ) (k : ℕ) → k ≤ length ws → AreWords ws → take (16 * k) (drop 32 (bits_of (w0 ∷ w1 ∷ ws))) ≡ digits_of_bytes (words_octets (take k ws))
epc_bits w0 w1 ws k h are =
    ap (λ (x : List Bool). take (16 * k) x) (past_words 2 (w0 ∷ w1 ∷ ws) (omega arith)) ∙ take_words k ws h ∙ bits_octets (take k ws) (words_taken k ws are)

both : (a b : Bool) → (a && (b && true)) ≡ true → (a ≡ true) × (b ≡ true)
both true true h = (refl, refl)
both true false h = absurd (search (rules, h))
both false b h = absurd (search (rules, h))

and_both : (a b : Bool) → a ≡ true → b ≡ true → (a && (b && true)) ≡ true
and_both a b h g = rw (h, g) refl

abbrev agreed : (es e : List ℕ) → Bool
agreed es e = agrees (replicate 5 true) (digits 5 (length e / 2)) (drop 16 (bits_of es)) && (agrees (replicate (8 * length e) true) (digits_of_bytes e) (drop 32 (bits_of es)) && true)

length-bits : (e : List ℕ) → length (digits_of_bytes e) ≡ 8 * length e
length-bits e = length-bytes e

only : (w0 w1 : ℕ) (ws e : List ℕ) → w1 / 2048 ≤ length ws → w1 < 65536 → AreWords ws → IsEpc e → agreed (w0 ∷ w1 ∷ ws) e ≡ true → words_octets (take (w1 / 2048) ws) ≡ e
only w0 w1 ws e enough small are is h =
    let two : (agrees (replicate 5 true) (digits 5 (length e / 2)) (drop 16 (bits_of (w0 ∷ w1 ∷ ws))) ≡ true) × (agrees (replicate (8 * length e) true) (digits_of_bytes e) (drop 32 (bits_of (w0 ∷ w1 ∷ ws))) ≡ true) = both _ _ h in
    let five : digits 5 (w1 / 2048) ≡ digits 5 (length e / 2) = sym (first_five w0 w1 ws small) ∙ ones 5 (digits 5 (length e / 2)) (drop 16 (bits_of (w0 ∷ w1 ∷ ws))) (length-digits 5 (length e / 2)) two.0 in
    let count : w1 / 2048 ≡ length e / 2 = digits-injective 5 (w1 / 2048) (length e / 2) (omega (arith, small)) (omega (arith, is.most)) five in
    let bits : 8 * length e ≡ 16 * (w1 / 2048) = omega (arith, count, is.whole) in
    let same : digits_of_bytes (words_octets (take (w1 / 2048) ws)) ≡ digits_of_bytes e =
    sym (epc_bits w0 w1 ws (w1 / 2048) enough are) ∙ sym (ap (λ (n : ℕ). take n (drop 32 (bits_of (w0 ∷ w1 ∷ ws)))) bits)
    ∙ ones (8 * length e) (digits_of_bytes e) (drop 32 (bits_of (w0 ∷ w1 ∷ ws))) (length-bits e) two.1 in
    same_octets (words_octets (take (w1 / 2048) ws)) e (octets_small (take (w1 / 2048) ws) (words_taken (w1 / 2048) ws are)) is.octets same

taken : (k : ℕ) (ws : List ℕ) → k ≤ length ws → length (take k ws) ≡ k
taken zero ws h = refl
taken (suc k) [] h = absurd (search (rules, h))
taken (suc k) (w ∷ ws) h = ap suc (taken k ws (omega (arith, h)))

each : (w0 w1 : ℕ) (ws e : List ℕ) → w1 / 2048 ≤ length ws → w1 < 65536 → AreWords ws → words_octets (take (w1 / 2048) ws) ≡ e → agreed (w0 ∷ w1 ∷ ws) e ≡ true
each w0 w1 ws e enough small are h =
    let k = w1 / 2048 in
    let long : length e ≡ 2 * k = sym (ap length h) ∙ length-octets (take k ws) ∙ ap (λ (n : ℕ). 2 * n) (taken k ws enough) in
    let count : k ≡ length e / 2 = omega (arith, long) in
    let bits : 8 * length e ≡ 16 * k = omega (arith, long) in
    let five = agree_ones 5 (digits 5 (length e / 2)) (drop 16 (bits_of (w0 ∷ w1 ∷ ws))) (length-digits 5 (length e / 2)) (first_five w0 w1 ws small ∙ ap (digits 5) count) in
    let others = agree_ones (8 * length e) (digits_of_bytes e) (drop 32 (bits_of (w0 ∷ w1 ∷ ws))) (length-bits e)
    (ap (λ (n : ℕ). take n (drop 32 (bits_of (w0 ∷ w1 ∷ ws)))) bits ∙ epc_bits w0 w1 ws k enough are ∙ ap digits_of_bytes h) in
    and_both _ _ five others

-- ---- the law

abbrev Means : (es e : List ℕ) → Type 0
Means es e = (agreed es e ≡ true → words_octets (take (slice_index es 1 / 2048) (drop 2 es)) ≡ e) × (words_octets (take (slice_index es 1 / 2048) (drop 2 es)) ≡ e → agreed es e ≡ true)

means : (es e : List ℕ) → 2 ≤ length es → slice_index es 1 / 2048 ≤ length (drop 2 es) → AreWords es → IsEpc e → Means es e
means [] e long enough are is = absurd (search (rules, long))
means (w0 ∷ []) e long enough are is = absurd (search (rules, long))
means (w0 ∷ w1 ∷ ws) e long enough are is = (only w0 w1 ws e enough are.1.0 are.1.1 is, each w0 w1 ws e enough are.1.0 are.1.1)

is_so : (b : Bool) → beq true b ≡ b
is_so true = refl
is_so false = refl

fits_both : (m : Memory) (r : Request) → IsEpc r.epc.now → fits m (access_spec r) ≡ agreed m.epc r.epc.now
fits_both m r is = ap (list_all (λ (t : Tree). hits m (pattern_in t))) (targets_are r) ∙ go r.epc.now is
  where
    go : (e : List ℕ) → IsEpc e → list_all (λ (t : Tree). hits m (pattern_in t)) (targets e) ≡ agreed m.epc e
    go [] is = absurd (omega (arith, is.least))
    go (o ∷ os) is =
        ap (λ (p : Pattern). hits m p && (hits m (pattern_in (epc_target (o ∷ os))) && true)) (length_says (o ∷ os) is)
        ∙ ap (λ (p : Pattern). hits m (says_length (o ∷ os)) && (hits m p && true)) (epc_says (o ∷ os))
        ∙ ap (λ (b : Bool). b && (hits m (says_epc (o ∷ os)) && true)) (is_so (stands m (says_length (o ∷ os))))
        ∙ ap (λ (b : Bool). stands m (says_length (o ∷ os)) && (b && true)) (is_so (stands m (says_epc (o ∷ os))))

pub means_one_epc : MeansOneEpc
means_one_epc m r has is =
    let two = means m.epc r.epc.now has.both has.enough has.words is in
    let e = fits_both m r is in
    record { only = λ h. two.0 (sym e ∙ h); each = λ h. e ∙ two.1 h }
