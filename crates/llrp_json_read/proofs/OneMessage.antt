-- A value says one message at most, and one parameter.
use Rattle.std.proofs.Common.{◌≡◌, ◌⊎◌, inl, inr, ℕ, zero, suc, ◌+◌, ◌-◌, ◌*◌, ◌^◌, ◌<◌, ◌≤◌, List, [], ◌∷◌, length, Result, Ok, Option, Some, refl, sym, ap, subst, ◌∙◌, arith}
use Rattle.std.specs.Prelude.{codes, decimal}
use Rattle.hex.specs.declared.error.FromHexError.{FromHexError}
use Rattle.hex.specs.Hex.{decode_of, encode_lower}
use Rattle.hex.proofs.HexLemmas.{decode_of-encode_lower}
use Rattle.json.specs.Json.{Json, number, string, array, Items, no_items, item}
use Rattle.tag_uri.proofs.TextLaws.{words_apart}
use Rattle.llrp_schema.specs.declared.kinds.Kind.{Kind}
use Rattle.llrp_schema.specs.declared.kinds.Kind.TheVariants.{Message, Parameter}
use Rattle.llrp_schema.specs.declared.kinds.KindSet.{KindSet}
use Rattle.llrp_schema.specs.declared.kinds.MsgKind.{MsgKind}
use Rattle.llrp_schema.specs.declared.kinds.ParamKind.{ParamKind}
use Rattle.llrp_schema.specs.declared.kinds.Tail.{Tail}
use Rattle.llrp_schema.specs.declared.kinds.Tail.TheVariants.{Absent, Words, Text, Bits, Data}
use Rattle.llrp_schema.specs.Schema.{FieldRule, name_of, plain_fields_of, tail_of}
use Rattle.llrp_schema.proofs.TableLaws.{names_in}
use Rattle.llrp_tree.specs.declared.TheConstants.{MAX_DEPTH}
use Rattle.llrp_tree.specs.Lawful.{AreOctets}
use Rattle.llrp_tree.specs.Tree.{Forest, MessageTree, Tree, forest, trees, words_of}
use Rattle.llrp_tree.proofs.TreeLemmas.{forest-trees}
use Rattle.llrp_listing.specs.NodeLine.{NumberForm, Version, Id, Unsigned, Signed, Epc, IsNumberText, field_form, signed_text}
use Rattle.llrp_listing.specs.LineChecks.{IsInForm}
use Rattle.llrp_listing.proofs.DecimalWords.{one_number}
use Rattle.llrp_listing.proofs.NumberWords.{no_minus, sides, signed_negative, signed_positive}
use Rattle.llrp_listing.proofs.TailWords.{bytes_fit}
use Rattle.llrp_json.specs.JsonItems.{field_name}
use Rattle.llrp_json_read.specs.JsonLine.{SaysLine}
use Rattle.llrp_json_read.specs.ObjectSays.{IsOfKind, SaysEach, SaysFields, SaysMessage, SaysNumber, SaysParameter, SaysParts, SaysTail, below, numbers}

-- ---- numbers

signed_same : (m n : ℕ) → m < 256 → n < 256 → signed_text m ≡ signed_text n → m ≡ n
signed_same m n p q e = by_sign (sides m) (sides n)
  where
    by_sign : (m < 128) ⊎ (128 ≤ m) → (n < 128) ⊎ (128 ≤ n) → m ≡ n
    by_sign (inl a) (inl b) = one_number m n (omega (arith, a)) (omega (arith, b)) (sym (signed_positive m a) ∙ e ∙ signed_positive n b)
    by_sign (inl a) (inr b) = absurd (no_minus m a (decimal (256 - n)) (sym (signed_negative n b) ∙ sym e ∙ signed_positive m a))
    by_sign (inr a) (inl b) = absurd (no_minus n b (decimal (256 - m)) (sym (signed_negative m a) ∙ e ∙ signed_positive n b))
    by_sign (inr a) (inr b) =
        let texts : 45 ∷ decimal (256 - m) ≡ 45 ∷ decimal (256 - n) = sym (signed_negative m a) ∙ e ∙ signed_negative n b in
        let same : 256 - m ≡ 256 - n = one_number (256 - m) (256 - n) (omega arith) (omega arith) cc in
        omega (arith, same, p, q)

version_small : (n : ℕ) → (n ≡ 1) ⊎ (n ≡ 2) → n < 10 ^ 20
version_small n (inl e) = omega (arith, e)
version_small n (inr e) = omega (arith, e)

number_same : (form : NumberForm) (n m : ℕ) (text : List ℕ) → IsInForm form n → IsInForm form m → IsNumberText form n text → IsNumberText form m text → n ≡ m
number_same Version n m text a b p q = one_number n m (version_small n a) (version_small m b) (sym p ∙ q)
number_same Id n m text a b p q = one_number n m (omega (arith, a)) (omega (arith, b)) (sym p ∙ q)
number_same Unsigned n m text a b p q = one_number n m a b (sym p ∙ q)
number_same Signed n m text a b p q = signed_same n m a b (sym p ∙ q)
number_same Epc n m text a b p q = words_apart n m text a b p q

pub number_said : (form : NumberForm) (name : List ℕ) (j : Json) (n m : ℕ) → SaysNumber form name j n → SaysNumber form name j m → n ≡ m
number_said form name j n m a b =
    let texts : ◌≡◌ {A = Option (List ℕ)} (Some a.text) (Some b.text) = sym a.member ∙ b.member in
    let same : a.text ≡ b.text = cc in
    number_same form n m b.text a.in_form b.in_form (subst (λ (x : List ℕ). IsNumberText form n x) same a.is) b.is

fields_said : (rules : List FieldRule) (j : Json) (ns ms : List ℕ) → SaysFields rules j ns → SaysFields rules j ms → ns ≡ ms
fields_said [] j [] [] p q = refl
fields_said [] j [] (m ∷ ms) p q = absurd q
fields_said [] j (n ∷ ns) ms p q = absurd p
fields_said (rule ∷ rules) j [] ms p q = absurd p
fields_said (rule ∷ rules) j (n ∷ ns) [] p q = absurd q
fields_said (rule ∷ rules) j (n ∷ ns) (m ∷ ms) p q =
    let first : n ≡ m = number_said (field_form rule) (field_name rule) j n m p.0.0 q.0.0 in
    ap (λ (x : ℕ). x ∷ ns) first ∙ ap (λ (x : List ℕ). m ∷ x) (fields_said rules j ns ms p.1 q.1)

-- ---- tails

octets_same : (a b : List ℕ) → AreOctets a → AreOctets b → encode_lower a ≡ encode_lower b → a ≡ b
octets_same a b p q e =
    let t : ◌≡◌ {A = Result (List ℕ) FromHexError} (Ok a) (Ok b) = sym (decode_of-encode_lower a (bytes_fit a p)) ∙ ap decode_of e ∙ decode_of-encode_lower b (bytes_fit b q) in
    cc

words_same : (a b : List ℕ) (n m : ℕ) → length a ≡ 2 * n → length b ≡ 2 * m → AreOctets a → AreOctets b → numbers (words_of a) ≡ numbers (words_of b) → a ≡ b
words_same [] [] n m l k p q e = refl
words_same [] (x ∷ []) n m l k p q e = absurd (omega (arith, k))
words_same [] (x ∷ y ∷ b) n m l k p q e = absurd (let bad : no_items ≡ item (number (decimal (256 * x + y))) (numbers (words_of b)) = e in cc)
words_same (x ∷ []) b n m l k p q e = absurd (omega (arith, l))
words_same (x ∷ y ∷ a) [] n m l k p q e = absurd (let bad : item (number (decimal (256 * x + y))) (numbers (words_of a)) ≡ no_items = e in cc)
words_same (x ∷ y ∷ a) (z ∷ []) n m l k p q e = absurd (omega (arith, k))
words_same (x ∷ y ∷ a) (z ∷ w ∷ b) n m l k p q e =
    let here : item (number (decimal (256 * x + y))) (numbers (words_of a)) ≡ item (number (decimal (256 * z + w))) (numbers (words_of b)) = e in
    let text : decimal (256 * x + y) ≡ decimal (256 * z + w) = cc in
    let rest : numbers (words_of a) ≡ numbers (words_of b) = cc in
    let p0 = p.0 in
    let p1 = p.1.0 in
    let q0 = q.0 in
    let q1 = q.1.0 in
    let word : 256 * x + y ≡ 256 * z + w = one_number (256 * x + y) (256 * z + w) (omega (arith, p0, p1)) (omega (arith, q0, q1)) text in
    let high : x ≡ z = omega (arith, word, p1, q1) in
    let low : y ≡ w = omega (arith, word, high) in
    let more : a ≡ b = words_same a b (n - 1) (m - 1) (omega (arith, l)) (omega (arith, k)) p.1.1 q.1.1 rest in
    ap (λ (i : ℕ). i ∷ y ∷ a) high ∙ ap (λ (i : ℕ). z ∷ i ∷ a) low ∙ ap (λ (i : List ℕ). z ∷ w ∷ i) more

tail_said : (form : Tail) (j : Json) (a b : List ℕ) → SaysTail form j a → SaysTail form j b → a ≡ b
tail_said Absent j a b p q = p ∙ sym q
tail_said Words j a b p q =
    let arrays : ◌≡◌ {A = Option Json} (Some (array (numbers (words_of a)))) (Some (array (numbers (words_of b)))) = sym p.1 ∙ q.1 in
    let same : numbers (words_of a) ≡ numbers (words_of b) = cc in
    words_same a b p.0.1.0 q.0.1.0 p.0.1.1 q.0.1.1 p.0.0 q.0.0 same
tail_said Text j a b p q =
    let strings : ◌≡◌ {A = Option Json} (Some (string a)) (Some (string b)) = sym p.1 ∙ q.1 in
    cc
tail_said Bits j a b p q =
    let strings : ◌≡◌ {A = Option Json} (Some (string (encode_lower a))) (Some (string (encode_lower b))) = sym p.1 ∙ q.1 in
    let same : encode_lower a ≡ encode_lower b = cc in
    octets_same a b p.0 q.0 same
tail_said Data j a b p q =
    let strings : ◌≡◌ {A = Option Json} (Some (string (encode_lower a))) (Some (string (encode_lower b))) = sym p.1 ∙ q.1 in
    let same : encode_lower a ≡ encode_lower b = cc in
    octets_same a b p.0 q.0 same

-- ---- objects

-- two kinds that are both messages, or both parameters, and have the same name in a set
pub kind_said : (p : KindSet) (a b : Kind) (j : Json) → IsOfKind p a j → IsOfKind p b j → name_of a ≡ name_of b → a ≡ b
kind_said p a b j h k same = names_in a b (h.own ∙ sym k.own) same

same_tree : (t u : Tree) → t.kind ≡ u.kind → t.fields ≡ u.fields → t.tail ≡ u.tail → t.children ≡ u.children → t ≡ u
same_tree t u a b c d =
    ap (λ (x : ParamKind). let r : Tree = record { kind = x; fields = t.fields; tail = t.tail; children = t.children } in r) a
    ∙ ap (λ (x : List ℕ). let r : Tree = record { kind = u.kind; fields = x; tail = t.tail; children = t.children } in r) b
    ∙ ap (λ (x : List ℕ). let r : Tree = record { kind = u.kind; fields = u.fields; tail = x; children = t.children } in r) c
    ∙ ap (λ (x : Forest). let r : Tree = record { kind = u.kind; fields = u.fields; tail = u.tail; children = x } in r) d

same_forest : (f g : Forest) → trees f ≡ trees g → f ≡ g
same_forest f g e = sym (forest-trees f) ∙ ap forest e ∙ forest-trees g

-- the fields and the tail of an object of one kind
pub parts_said : (p : KindSet) (a b : Kind) (j : Json) (fields others tail last : List ℕ) → a ≡ b → SaysParts p a j fields tail → SaysParts p b j others last → (fields ≡ others) × (tail ≡ last)
parts_said p a b j fields others tail last e h k = (
  fields_said (plain_fields_of b) j fields others (subst (λ (x : Kind). SaysFields (plain_fields_of x) j fields) e h.fields_said) k.fields_said,
  tail_said (tail_of b) j tail last (subst (λ (x : Kind). SaysTail (tail_of x) j tail) e h.tail_said) k.tail_said,
)

pub each_said : (Says : Json → Tree → Type 0) → ((j : Json) (t u : Tree) → Says j t → Says j u → t ≡ u) → (js : Items) (ts us : List Tree) → SaysEach Says js ts → SaysEach Says js us → ts ≡ us
each_said Says one no_items [] [] p q = refl
each_said Says one no_items [] (u ∷ us) p q = absurd q
each_said Says one no_items (t ∷ ts) us p q = absurd p
each_said Says one (item j js) [] us p q = absurd p
each_said Says one (item j js) (t ∷ ts) [] p q = absurd q
each_said Says one (item j js) (t ∷ ts) (u ∷ us) p q = ap (λ (x : Tree). x ∷ ts) (one j t u p.0 q.0) ∙ ap (λ (x : List Tree). u ∷ x) (each_said Says one js ts us p.1 q.1)

pub parameter_said : (p : KindSet) (levels : ℕ) (j : Json) (t u : Tree) → SaysParameter p levels j t → SaysParameter p levels j u → t ≡ u
parameter_said p zero j t u h k = absurd h
parameter_said p (suc levels) j t u h k =
    let names : ◌≡◌ {A = Option (List ℕ)} (Some (name_of (Parameter t.kind))) (Some (name_of (Parameter u.kind))) = sym h.0.of_kind.named ∙ k.0.of_kind.named in
    let same : name_of (Parameter t.kind) ≡ name_of (Parameter u.kind) = cc in
    let kinds : Parameter t.kind ≡ Parameter u.kind = kind_said p (Parameter t.kind) (Parameter u.kind) j h.0.of_kind k.0.of_kind same in
    let kind : t.kind ≡ u.kind = cc in
    let parts = parts_said p (Parameter t.kind) (Parameter u.kind) j t.fields u.fields t.tail u.tail kinds h.0 k.0 in
    let children = each_said (SaysParameter p levels) (λ i a b x y. parameter_said p levels i a b x y) (below j) (trees t.children) (trees u.children) h.1 k.1 in
    same_tree t u kind parts.0 parts.1 (same_forest t.children u.children children)

pub message_said : (p : KindSet) (j : Json) (m n : MessageTree) → SaysMessage p j m → SaysMessage p j n → m ≡ n
message_said p j m n h k =
    let names : ◌≡◌ {A = Option (List ℕ)} (Some (name_of (Message m.kind))) (Some (name_of (Message n.kind))) = sym h.parts.of_kind.named ∙ k.parts.of_kind.named in
    let same : name_of (Message m.kind) ≡ name_of (Message n.kind) = cc in
    let kinds : Message m.kind ≡ Message n.kind = kind_said p (Message m.kind) (Message n.kind) j h.parts.of_kind k.parts.of_kind same in
    let kind : m.kind ≡ n.kind = cc in
    let parts = parts_said p (Message m.kind) (Message n.kind) j m.fields n.fields m.tail n.tail kinds h.parts k.parts in
    let children = same_forest m.children n.children (each_said (SaysParameter p MAX_DEPTH) (λ i a b x y. parameter_said p MAX_DEPTH i a b x y) (below j) (trees m.children) (trees n.children) h.parameters k.parameters) in
    let version = number_said Version (codes "version") j m.version n.version h.version k.version in
    let id = number_said Id (codes "id") j m.id n.id h.id k.id in
    ap (λ (x : ℕ). let r : MessageTree = record { version = x; id = m.id; kind = m.kind; fields = m.fields; tail = m.tail; children = m.children } in r) version
    ∙ ap (λ (x : ℕ). let r : MessageTree = record { version = n.version; id = x; kind = m.kind; fields = m.fields; tail = m.tail; children = m.children } in r) id
    ∙ ap (λ (x : MsgKind). let r : MessageTree = record { version = n.version; id = n.id; kind = x; fields = m.fields; tail = m.tail; children = m.children } in r) kind
    ∙ ap (λ (x : List ℕ). let r : MessageTree = record { version = n.version; id = n.id; kind = n.kind; fields = x; tail = m.tail; children = m.children } in r) parts.0
    ∙ ap (λ (x : List ℕ). let r : MessageTree = record { version = n.version; id = n.id; kind = n.kind; fields = n.fields; tail = x; children = m.children } in r) parts.1
    ∙ ap (λ (x : Forest). let r : MessageTree = record { version = n.version; id = n.id; kind = n.kind; fields = n.fields; tail = n.tail; children = x } in r) children

pub line_says_one : (p : KindSet) (line : List ℕ) (m n : MessageTree) → SaysLine p line m → SaysLine p line n → m ≡ n
line_says_one p line m n (j, utf8, is, h) (i, other, are, k) =
    let values : ◌≡◌ {A = Option Json} (Some j) (Some i) = sym is ∙ are in
    let same : j ≡ i = cc in
    message_said p i m n (subst (λ (x : Json). SaysMessage p x m) same h) k
