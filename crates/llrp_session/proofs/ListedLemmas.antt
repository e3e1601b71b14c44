-- ROSpecs as they are listed are lawful, and as long as they were.
use Rattle.std.proofs.Common.{◌≡◌, ℕ, ◌+◌, ◌^◌, ◌<◌, ◌≤◌, refl, sym, ap, subst, ◌∙◌, List, [], ◌∷◌, ◌++◌, length, take, append_assoc, arith, get_or}
use Rattle.std.proofs.lemmas.List.{take_more}
use Rattle.std.specs.Prelude.{Some}
use Rattle.llrp_schema.specs.declared.kinds.MsgKind.TheVariants.{GetRoSpecsResponse}
use Rattle.llrp_schema.specs.declared.kinds.ParamKind.TheVariants.{RoSpec as RoSpecKind, LlrpStatus}
use Rattle.llrp_schema.specs.declared.kinds.Kind.TheVariants.{Message}
use Rattle.llrp_schema.specs.Schema.{one, number_of, rule_of, message_rule, param_rule, fields_of, tail_of, groups_of, is_tv, key_of, set_of_kind}
use Rattle.llrp_tree.specs.Tree.{Forest, Tree, add, add_all}
use Rattle.llrp_tree.specs.Lawful.{octets, body_octets, tree_octets, count, ArePlaced, AreLawful, AllLawful, IsLawfulTree}
use Rattle.llrp_session.specs.RoSpec.{field_of}
use Rattle.llrp_session.specs.Table.{Entry, RoState, Disabled, Inactive, Active, state_number, as_listed, listing, octets_of}
use Rattle.llrp_session.specs.Calls.ReadWords.{greatest}
use Rattle.llrp_session.specs.Calls.LawfulWords.{IsToldOf, AreToldOf}
use Rattle.llrp_session.proofs.ReadFields.{field_within}

pub state_number-le : (s : RoState) → state_number s ≤ 2
state_number-le Disabled = omega arith
state_number-le Inactive = omega arith
state_number-le Active = omega arith

-- ---- one ROSpec

pub priority_fits : (t : Tree) → t.kind ≡ RoSpecKind → IsLawfulTree t → field_of 1 (Some t) ≤ 7
unfolding fields_of rule_of param_rule
priority_fits t k h = let le : get_or t.fields 1 0 ≤ greatest RoSpecKind 1 = field_within RoSpecKind t 1 k h in le

-- another id, priority and state leave it lawful
other_fields : (fields tail : List ℕ) (children : Forest) (id priority state : ℕ) → AreLawful RoSpecKind fields tail children → id < 2 ^ 32 → priority ≤ 7 → state ≤ 2
    → AreLawful RoSpecKind (id ∷ priority ∷ state ∷ []) [] children
unfolding rule_of param_rule number_of key_of set_of_kind fields_of tail_of is_tv body_octets
other_fields fields tail children id priority state h small low known =
    let long = h.long in
    record {
      obeys = record { ranges = (omega arith, (low, (known, tt))); form = refl; bytes = tt; placed = h.obeys.placed; most = h.obeys.most; least = h.obeys.least };
      deep = h.deep;
      long = omega (arith, long);
    }

-- a ROSpec has no tail
no_tail : (t : Tree) → t.kind ≡ RoSpecKind → IsLawfulTree t → t.tail ≡ []
unfolding rule_of param_rule tail_of
no_tail t k h = rw k at h.0.obeys.form

pub listed_lawful : (e : Entry) → IsToldOf e.spec → IsLawfulTree (as_listed e)
listed_lawful e told =
    let t = e.spec.tree in
    let parts : AreLawful RoSpecKind t.fields t.tail t.children = rw told.kind at told.lawful.0 in
    (other_fields t.fields t.tail t.children e.spec.id (field_of 1 (Some t)) (state_number e.state) parts told.id (priority_fits t told.kind told.lawful) (state_number-le e.state), told.lawful.1)

same_octets : (t : Tree) → t.kind ≡ RoSpecKind → t.tail ≡ [] → tree_octets t ≡ tree_octets (record { kind = RoSpecKind; fields = []; tail = []; children = t.children })
same_octets t k e = rw (k, e) refl

pub listed_octets : (e : Entry) → IsToldOf e.spec → tree_octets (as_listed e) ≡ e.spec.octets
listed_octets e told = sym (told.octets ∙ same_octets e.spec.tree told.kind (no_tail e.spec.tree told.kind told.lawful))

-- ---- a row of them

pub listing_placed : (before : Forest) (es : List Entry) → ArePlaced (groups_of (Message GetRoSpecsResponse)) before → ArePlaced (groups_of (Message GetRoSpecsResponse)) (add_all before (listing es))
unfolding ArePlaced rule_of message_rule param_rule number_of key_of set_of_kind groups_of
listing_placed before [] p = p
listing_placed before (e ∷ es) p = listing_placed (add before (as_listed e)) es (p, refl)

pub listing_lawful : (before : Forest) (es : List Entry) → AllLawful before → AreToldOf es → AllLawful (add_all before (listing es))
listing_lawful before [] p h = p
listing_lawful before (e ∷ es) p h = let l = listed_lawful e h.0 in listing_lawful (add before (as_listed e)) es (p, l.0, l.1) h.1

pub listing_octets : (before : Forest) (es : List Entry) → AreToldOf es → octets (add_all before (listing es)) ≡ octets before + octets_of es
unfolding octets_of
listing_octets before [] h = omega arith
listing_octets before (e ∷ es) h = let ih = listing_octets (add before (as_listed e)) es h.1 in let s = listed_octets e h.0 in omega (arith, ih, s)

-- ---- one more

listing-append : (xs ys : List Entry) → listing (xs ++ ys) ≡ listing xs ++ listing ys
listing-append [] ys = refl
listing-append (x ∷ xs) ys = ap (λ (ts : List Tree). as_listed x ∷ ts) (listing-append xs ys)

told-append : (xs ys : List Entry) → AreToldOf xs → AreToldOf ys → AreToldOf (xs ++ ys)
told-append [] ys p q = q
told-append (x ∷ xs) ys p q = (p.0, told-append xs ys p.1 q)

up_to_next : (es : List Entry) (i : ℕ) (e : Entry) → i < length es → e ≡ get_or es i e → take (i + 1) es ≡ take i es ++ e ∷ []
up_to_next es i e within is = take_more es i e within ∙ ap (λ (x : Entry). take i es ++ x ∷ []) (sym is)

pub listing_more : (es : List Entry) (i : ℕ) (e : Entry) (old mid new : List Tree) → i < length es → e ≡ get_or es i e → mid ≡ old ++ listing (take i es) → new ≡ mid ++ as_listed e ∷ []
    → new ≡ old ++ listing (take (i + 1) es)
listing_more es i e old mid new within is so one =
    one ∙ ap (λ (ts : List Tree). ts ++ as_listed e ∷ []) so ∙ append_assoc old (listing (take i es)) (as_listed e ∷ [])
    ∙ ap (λ (ts : List Tree). old ++ ts) (sym (listing-append (take i es) (e ∷ [])) ∙ ap listing (sym (up_to_next es i e within is)))

pub told_more : (es : List Entry) (i : ℕ) (e : Entry) → i < length es → e ≡ get_or es i e → AreToldOf (take i es) → IsToldOf e.spec → AreToldOf (take (i + 1) es)
told_more es i e within is so one = subst AreToldOf (sym (up_to_next es i e within is)) (told-append (take i es) (e ∷ []) so (one, tt))

-- none of them is a status
pub statuses-listing : (before : Forest) (es : List Entry) → count (one LlrpStatus) (add_all before (listing es)) ≡ count (one LlrpStatus) before
unfolding count rule_of param_rule number_of key_of set_of_kind
statuses-listing before [] = refl
statuses-listing before (e ∷ es) = statuses-listing (add before (as_listed e)) es
