-- The fields of an object, one by one.
use Rattle.std.proofs.Common.{◌≡◌, ℕ, ◌+◌, ◌<◌, inl, inr, Bool, true, false, List, [], ◌∷◌, ◌++◌, length, drop, get_or, map, refl, sym, ap, subst, ◌∙◌, arith, length-append, append_assoc}
use Rattle.std.specs.List.{list_all}
use Rattle.std.specs.Prelude.{◌==◌, ◌-◌, ◌^◌, ◌≤◌, ◌≢◌, Result, Ok, Err, MatchResult}
use Rattle.std.proofs.Common.{eq-eqb}
use Rattle.std.proofs.lemmas.Bool.{eqb-true, ltb-true}
use Rattle.std.proofs.lemmas.Bool.Decides.{nat_tests}
use Rattle.std.proofs.lemmas.List.{append-nil, drop_more, drop_all}
use Rattle.llrp_listing.specs.NodeLine.{NumberForm, Unsigned, Signed, Epc, field_form}
use Rattle.llrp_json.specs.JsonItems.{field_name}
use Rattle.llrp_json_read.specs.declared.refusal.Reason.{Reason}
use Rattle.llrp_json_read.specs.declared.refusal.Reason.TheVariants as reason
use Rattle.json.specs.Json.{Json}
use Rattle.llrp_schema.specs.declared.kinds.Field.{Field}
use Rattle.llrp_schema.specs.Schema.{FieldRule}
use Rattle.llrp_schema.specs.Calls.Schema.{field_rule}
use Rattle.tag_uri.proofs.UriLemmas.{left, right}
use Rattle.llrp_json_read.specs.ObjectSays.{SaysField, SaysFields, SaysNumber, text_in}
use Rattle.llrp_json_read.specs.ObjectRefused.{Refused, RefusesField, RefusesFields, RefusesText, at_member}
use Rattle.llrp_json_read.specs.Private.Words.{is_greatest, is_readable, plain}

pub said_length : (rules : List FieldRule) (j : Json) (ns : List ℕ) → SaysFields rules j ns → length ns ≡ length rules
said_length [] j [] h = refl
said_length [] j (n ∷ ns) h = absurd h
said_length (r ∷ rules) j [] h = absurd h
said_length (r ∷ rules) j (n ∷ ns) h = let e = said_length rules j ns h.1 in omega arith

-- one field more
pub said_more : (front : List FieldRule) (r : FieldRule) (j : Json) (ns : List ℕ) (n : ℕ) → SaysFields front j ns → SaysField r j n → SaysFields (front ++ r ∷ []) j (ns ++ n ∷ [])
said_more [] r j [] n h s = (s, tt)
said_more [] r j (m ∷ ns) n h s = absurd h
said_more (f ∷ front) r j [] n h s = absurd h
said_more (f ∷ front) r j (m ∷ ns) n h s = (h.0, said_more front r j ns n h.1 s)

-- a field that is refused after others
pub refused_after : (front : List FieldRule) (r : FieldRule) (rest : List FieldRule) (j : Json) (ns : List ℕ) (q : Refused) → SaysFields front j ns → RefusesField r j q → RefusesFields (front ++ (r ∷ rest)) j q
refused_after [] r rest j [] q h bad = inl bad
refused_after [] r rest j (m ∷ ns) q h bad = absurd h
refused_after (f ∷ front) r rest j [] q h bad = absurd h
refused_after (f ∷ front) r rest j (m ∷ ns) q h bad = inr ((m, h.0), refused_after front r rest j ns q h.1 bad)

plain_first : (r : Field) (rs : List Field) → r.reserved ≡ false → plain (map field_rule (r ∷ rs)) ≡ field_rule r ∷ plain (map field_rule rs)
plain_first r rs e = rw e refl

reserved_first : (r : Field) (rs : List Field) → r.reserved ≡ true → plain (map field_rule (r ∷ rs)) ≡ plain (map field_rule rs)
reserved_first r rs e = rw e refl

-- the field at a place, where it is plain
pub plain_at : (rules : List Field) (i : ℕ) (d : Field) → i < length rules → (get_or rules i d).reserved ≡ false → plain (map field_rule (drop i rules)) ≡ field_rule (get_or rules i d) ∷ plain (map field_rule (drop (i + 1) rules))
plain_at rules i d lt e = ap (λ (rs : List Field). plain (map field_rule rs)) (drop_more rules i d lt) ∙ plain_first (get_or rules i d) (drop (i + 1) rules) e

-- and reserved
pub reserved_at : (rules : List Field) (i : ℕ) (d : Field) → i < length rules → (get_or rules i d).reserved ≡ true → plain (map field_rule (drop i rules)) ≡ plain (map field_rule (drop (i + 1) rules))
reserved_at rules i d lt e = ap (λ (rs : List Field). plain (map field_rule rs)) (drop_more rules i d lt) ∙ reserved_first (get_or rules i d) (drop (i + 1) rules) e

pub passes_between : (test : FieldRule → Bool) (front : List FieldRule) (r : FieldRule) (rest : List FieldRule) → list_all test (front ++ (r ∷ rest)) ≡ true → test r ≡ true
passes_between test [] r rest h = left _ _ h
passes_between test (f ∷ front) r rest h = passes_between test front r rest (right _ _ h)

-- how many fields come before one
pub few_before : (all front : List FieldRule) (r : FieldRule) (rest : List FieldRule) → all ≡ front ++ (r ∷ rest) → length front < length all
few_before all front r rest e = let l = length-append front (r ∷ rest) in omega (arith, ap length e, l)

pub moved : (all front : List FieldRule) (r : FieldRule) (rest left_over : List FieldRule) → all ≡ front ++ left_over → left_over ≡ r ∷ rest → all ≡ (front ++ r ∷ []) ++ rest
moved all front r rest left_over e f = e ∙ ap (λ (x : List FieldRule). front ++ x) f ∙ sym (append_assoc front (r ∷ []) rest)

-- ---- steps of a loop over fields

-- a field of several is refused
pub field_refused : (rules : List Field) (i : ℕ) (d : Field) (front : List FieldRule) (j : Json) (ns : List ℕ) (given : List ℕ) (why : Reason) → plain (map field_rule rules) ≡ front ++ plain (map field_rule (drop i rules)) → i < length rules → (get_or rules i d).reserved ≡ false
    → SaysFields front j ns → given ≡ field_name (field_rule (get_or rules i d)) → RefusesField (field_rule (get_or rules i d)) j (at_member (field_name (field_rule (get_or rules i d))) why) → RefusesFields (plain (map field_rule rules)) j (at_member given why)
field_refused rules i d front j ns given why split lt e said name bad =
    let r = field_rule (get_or rules i d) in
    let rest = plain (map field_rule (drop (i + 1) rules)) in
    let all : plain (map field_rule rules) ≡ front ++ (r ∷ rest) = split ∙ ap (λ (x : List FieldRule). front ++ x) (plain_at rules i d lt e) in
    subst (λ (x : List FieldRule). RefusesFields x j (at_member given why)) (sym all)
    (subst (λ (x : List ℕ). RefusesFields (front ++ (r ∷ rest)) j (at_member x why)) (sym name) (refused_after front r rest j ns (at_member (field_name r) why) said bad))

-- a field of several is said
pub field_said : (rules : List Field) (i : ℕ) (d : Field) (front : List FieldRule) (j : Json) (ns new : List ℕ) (n : ℕ) → plain (map field_rule rules) ≡ front ++ plain (map field_rule (drop i rules)) → i < length rules → (get_or rules i d).reserved ≡ false
    → SaysFields front j ns → SaysField (field_rule (get_or rules i d)) j n → new ≡ ns ++ n ∷ []
    → (more : List FieldRule) × SaysFields more j new × (plain (map field_rule rules) ≡ more ++ plain (map field_rule (drop (i + 1) rules)))
field_said rules i d front j ns new n split lt e said says push =
    let r = field_rule (get_or rules i d) in (
      front ++ r ∷ [],
      subst (λ (x : List ℕ). SaysFields (front ++ r ∷ []) j x) (sym push) (said_more front r j ns n said says),
      moved (plain (map field_rule rules)) front r (plain (map field_rule (drop (i + 1) rules))) (plain (map field_rule (drop i rules))) split (plain_at rules i d lt e),
    )

-- a field is left that passes a test
pub field_passes : (test : FieldRule → Bool) (rules : List Field) (i : ℕ) (d : Field) (front : List FieldRule) → plain (map field_rule rules) ≡ front ++ plain (map field_rule (drop i rules)) → i < length rules → (get_or rules i d).reserved ≡ false
    → list_all test (plain (map field_rule rules)) ≡ true → test (field_rule (get_or rules i d)) ≡ true
field_passes test rules i d front split lt e all =
    let whole : plain (map field_rule rules) ≡ front ++ (field_rule (get_or rules i d) ∷ plain (map field_rule (drop (i + 1) rules))) = split ∙ ap (λ (x : List FieldRule). front ++ x) (plain_at rules i d lt e) in
    passes_between test front _ _ (subst (λ (x : List FieldRule). list_all test x ≡ true) whole all)

-- and there is room for it
pub field_fits : (rules : List Field) (i : ℕ) (d : Field) (front : List FieldRule) (j : Json) (ns : List ℕ) → plain (map field_rule rules) ≡ front ++ plain (map field_rule (drop i rules)) → i < length rules → (get_or rules i d).reserved ≡ false
    → SaysFields front j ns → length (plain (map field_rule rules)) ≤ 12 → length ns < 12
field_fits rules i d front j ns split lt e said few =
    let before = few_before (plain (map field_rule rules)) front _ _ (split ∙ ap (λ (x : List FieldRule). front ++ x) (plain_at rules i d lt e)) in
    omega (arith, before, said_length front j ns said, few)

-- none is left
pub fields_all : (rules : List Field) (i : ℕ) (front : List FieldRule) (j : Json) (ns : List ℕ) → plain (map field_rule rules) ≡ front ++ plain (map field_rule (drop i rules)) → length rules ≤ i → SaysFields front j ns → SaysFields (plain (map field_rule rules)) j ns
fields_all rules i front j ns split le said =
    let none : drop i rules ≡ [] = drop_all i rules le in
    subst (λ (x : List FieldRule). SaysFields x j ns) (sym (split ∙ ap (λ (x : List Field). front ++ plain (map field_rule x)) none ∙ append-nil front)) said

-- ---- one field, by its form

-- a number of the form that the field has
pub as_field : (r : FieldRule) (form : NumberForm) (name : List ℕ) (j : Json) (result : Result ℕ Reason) → field_form r ≡ form → name ≡ field_name r
    → MatchResult result (λ n. SaysNumber form name j n × (n ≤ r.greatest)) (λ why. ((n : ℕ) → SaysNumber form name j n → n ≤ r.greatest → ⊥) × RefusesText form (text_in form name j) why)
    → MatchResult result (λ n. SaysField r j n) (λ why. RefusesField r j (at_member (field_name r) why))
as_field r form name j (Ok n) f e h =
    (subst (λ (x : NumberForm). SaysNumber x (field_name r) j n) (sym f) (subst (λ (x : List ℕ). SaysNumber form x j n) e h.0), h.1)
as_field r form name j (Err why) f e h = (
  λ n s. h.0 n (subst (λ (x : List ℕ). SaysNumber form x j n) (sym e) (subst (λ (x : NumberForm). SaysNumber x (field_name r) j n) f s.0)) s.1,
  why,
  subst (λ (x : NumberForm). RefusesText x (text_in x (field_name r) j) why) (sym f) (subst (λ (x : List ℕ). RefusesText form (text_in form x j) why) e h.1),
  refl,
)

pub as_epc : (r : FieldRule) (name : List ℕ) (j : Json) (result : Result ℕ Reason) → r.width ≡ 96 → name ≡ field_name r → is_readable r ≡ true
    → MatchResult result (λ n. SaysNumber Epc name j n) (λ why. ((n : ℕ) → SaysNumber Epc name j n → ⊥) × RefusesText Epc (text_in Epc name j) why)
    → MatchResult result (λ n. SaysField r j n) (λ why. RefusesField r j (at_member (field_name r) why))
as_epc r name j result wide e readable h =
    let test : (r.width == 96) ≡ true = eq-eqb r.width 96 wide in
    let form : field_form r ≡ Epc = rw test refl in
    let top : r.greatest ≡ 2 ^ 96 - 1 = eqb-true _ _ (subst (λ (x : NumberForm). is_greatest x r.greatest ≡ true) form readable) in
    as_field r Epc name j result form e (fits result h top)
  where
    fits : (result : Result ℕ Reason) → MatchResult result (λ n. SaysNumber Epc name j n) (λ why. ((n : ℕ) → SaysNumber Epc name j n → ⊥) × RefusesText Epc (text_in Epc name j) why) → r.greatest ≡ 2 ^ 96 - 1
        → MatchResult result (λ n. SaysNumber Epc name j n × (n ≤ r.greatest)) (λ why. ((n : ℕ) → SaysNumber Epc name j n → n ≤ r.greatest → ⊥) × RefusesText Epc (text_in Epc name j) why)
    fits (Ok n) h top = (h, omega (arith, top, h.in_form))
    fits (Err why) h top = (λ n s le. h.0 n s, h.1)

pub as_signed : (r : FieldRule) (name : List ℕ) (j : Json) (result : Result ℕ Reason) → r.width ≢ 96 → r.signed ≡ true → name ≡ field_name r → is_readable r ≡ true
    → MatchResult result (λ n. SaysNumber Signed name j n) (λ why. ((n : ℕ) → SaysNumber Signed name j n → ⊥) × (why ≡ reason.Value))
    → MatchResult result (λ n. SaysField r j n) (λ why. RefusesField r j (at_member (field_name r) why))
as_signed r name j result narrow sign e readable h =
    let test : (r.width == 96) ≡ false = grind (arith, nat_tests) in
    let form : field_form r ≡ Signed = rw (test, sign) refl in
    let top : r.greatest ≡ 255 = eqb-true _ _ (subst (λ (x : NumberForm). is_greatest x r.greatest ≡ true) form readable) in
    as_field r Signed name j result form e (fits result h top)
  where
    fits : (result : Result ℕ Reason) → MatchResult result (λ n. SaysNumber Signed name j n) (λ why. ((n : ℕ) → SaysNumber Signed name j n → ⊥) × (why ≡ reason.Value)) → r.greatest ≡ 255
        → MatchResult result (λ n. SaysNumber Signed name j n × (n ≤ r.greatest)) (λ why. ((n : ℕ) → SaysNumber Signed name j n → n ≤ r.greatest → ⊥) × RefusesText Signed (text_in Signed name j) why)
    fits (Ok n) h top = (h, omega (arith, top, h.in_form))
    fits (Err why) h top = (λ n s le. h.0 n s, h.1)

pub is_unsigned : (r : FieldRule) → r.width ≢ 96 → r.signed ≡ false → field_form r ≡ Unsigned
is_unsigned r narrow sign = let test : (r.width == 96) ≡ false = grind (arith, nat_tests) in rw (test, sign) refl

-- the greatest value of a field without a sign has 64 bits
pub small_greatest : (r : FieldRule) → r.width ≢ 96 → r.signed ≡ false → is_readable r ≡ true → r.greatest < 2 ^ 64
small_greatest r narrow sign readable = ltb-true _ _ (subst (λ (x : NumberForm). is_greatest x r.greatest ≡ true) (is_unsigned r narrow sign) readable)

-- a reserved field is passed over
pub reserved_kept : (rules : List Field) (i : ℕ) (d : Field) (front : List FieldRule) (j : Json) (ns new : List ℕ) → plain (map field_rule rules) ≡ front ++ plain (map field_rule (drop i rules)) → i < length rules → (get_or rules i d).reserved ≡ true
    → SaysFields front j ns → new ≡ ns → (more : List FieldRule) × SaysFields more j new × (plain (map field_rule rules) ≡ more ++ plain (map field_rule (drop (i + 1) rules)))
reserved_kept rules i d front j ns new split lt e said same =
    (front, subst (λ (x : List ℕ). SaysFields front j x) (sym same) said, split ∙ ap (λ (x : List FieldRule). front ++ x) (reserved_at rules i d lt e))

pub as_unsigned : (r : FieldRule) (name : List ℕ) (j : Json) (result : Result ℕ Reason) → r.width ≢ 96 → r.signed ≡ false → name ≡ field_name r
    → MatchResult result (λ n. SaysNumber Unsigned name j n × (n ≤ r.greatest)) (λ why. ((n : ℕ) → n ≤ r.greatest → SaysNumber Unsigned name j n → ⊥) × (why ≡ reason.Value))
    → MatchResult result (λ n. SaysField r j n) (λ why. RefusesField r j (at_member (field_name r) why))
as_unsigned r name j result narrow sign e h = as_field r Unsigned name j result (is_unsigned r narrow sign) e (fits result h)
  where
    fits : (result : Result ℕ Reason) → MatchResult result (λ n. SaysNumber Unsigned name j n × (n ≤ r.greatest)) (λ why. ((n : ℕ) → n ≤ r.greatest → SaysNumber Unsigned name j n → ⊥) × (why ≡ reason.Value))
        → MatchResult result (λ n. SaysNumber Unsigned name j n × (n ≤ r.greatest)) (λ why. ((n : ℕ) → SaysNumber Unsigned name j n → n ≤ r.greatest → ⊥) × RefusesText Unsigned (text_in Unsigned name j) why)
    fits (Ok n) h = h
    fits (Err why) h = (λ n s le. h.0 n le s, h.1)
