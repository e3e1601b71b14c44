-- What a client takes of its reader's items, where what is odd is passed over.
use Rattle.std.proofs.Common.{◌≡◌, ℕ, Bool, true, false, List, [], ◌∷◌, ◌++◌, refl, sym, ap, ◌∙◌, append_assoc}
use Rattle.std.specs.Prelude.{◌&&◌, Option, Some, None}
use Rattle.std.specs.List.{AllByRecursion}
use Rattle.llrp_tree.specs.Tree.{MessageTree}
use Rattle.llrp_tree.specs.declared.fault.Fault.{Fault}
use Rattle.llrp_stream.specs.declared.item.Item.{Item}
use Rattle.llrp_stream.specs.declared.item.Item.TheVariants.{Msg, Bad}
use Rattle.llrp_endpoints.specs.declared.hearing.Hearing.{Hearing}
use Rattle.llrp_endpoints.specs.Heard.{heard, heard_message, item_where}
use Rattle.llrp_endpoints.specs.Gathering.{Course, follow, heeded, is_odd, taken, unless_odd, without_odd}
use Rattle.llrp_endpoints.proofs.HeardLemmas.{HasId, follow_after, heard_after, heard_ids, heard_none, ids_after}

-- ---- items after others

without_odd_after : (items others : List Item) (c : Course) → without_odd (items ++ others) c ≡ without_odd items c ++ without_odd others (follow (without_odd items c) c)
without_odd_after [] others c = refl
without_odd_after (item ∷ items) others c =
    let one = unless_odd (is_odd c.client item) item in
    let d = follow one c in
    let first = without_odd items d in
    ap (λ (is : List Item). one ++ is) (without_odd_after items others d) ∙ sym (append_assoc one first (without_odd others (follow first d))) ∙ ap (λ (e : Course). (one ++ first) ++ without_odd others e) (sym (follow_after one first c))

heeded_after : (passes : Bool) (items others : List Item) (c : Course) → heeded passes (items ++ others) c ≡ heeded passes items c ++ heeded passes others (follow (heeded passes items c) c)
heeded_after false items others c = refl
heeded_after true items others c = without_odd_after items others c

taken_after : (h : Hearing) (items others : List Item) (c : Course) → taken h (items ++ others) c ≡ taken h items c ++ taken h others (follow (taken h items c) c)
taken_after h items others c = ap (λ (is : List Item). heeded h.passes is c) (heard_after h items others) ∙ heeded_after h.passes (heard h items) (heard h others) c

-- a course goes on as it began
pub taken_then : (h : Hearing) (items others : List Item) (start c : Course) → c ≡ follow (taken h items start) start → follow (taken h others c) c ≡ follow (taken h (items ++ others) start) start
taken_then h items others start c e =
    let d = follow (taken h items start) start in
    ap (λ (x : Course). follow (taken h others x) x) e ∙ sym (follow_after (taken h items start) (taken h others d) start) ∙ ap (λ (is : List Item). follow is start) (sym (taken_after h items others start))

-- ---- one item

odd_left : (odd : Bool) (item : Item) → odd ≡ true → unless_odd odd item ++ [] ≡ []
odd_left true item e = refl
odd_left false item e = cc

even_left : (odd : Bool) (item : Item) → odd ≡ false → unless_odd odd item ++ [] ≡ item ∷ []
even_left true item e = cc
even_left false item e = refl

heeded_none : (passes : Bool) (c : Course) → heeded passes [] c ≡ []
heeded_none false c = refl
heeded_none true c = refl

heeded_odd : (passes : Bool) (item : Item) (c : Course) → (passes && is_odd c.client item) ≡ true → heeded passes (item ∷ []) c ≡ []
heeded_odd false item c e = cc
heeded_odd true item c e = odd_left (is_odd c.client item) item e

heeded_even : (passes : Bool) (item : Item) (c : Course) → (passes && is_odd c.client item) ≡ false → heeded passes (item ∷ []) c ≡ item ∷ []
heeded_even false item c e = refl
heeded_even true item c e = even_left (is_odd c.client item) item e

pub takes_none : (h : Hearing) (c : Course) → taken h [] c ≡ []
takes_none h c = heeded_none h.passes c

hears_one : (h : Hearing) (m part : MessageTree) → heard_message h m ≡ Some part → heard h (Msg m ∷ []) ≡ Msg part ∷ []
hears_one h m part e = ap (λ (o : Option MessageTree). item_where o ++ []) e

-- nothing is heard of a message
pub takes_nothing : (h : Hearing) (m : MessageTree) (c : Course) → heard_message h m ≡ None → taken h (Msg m ∷ []) c ≡ []
takes_nothing h m c e = ap (λ (is : List Item). heeded h.passes is c) (heard_none h m e) ∙ heeded_none h.passes c

-- it is passed over
pub takes_no_message : (h : Hearing) (m part : MessageTree) (c : Course) → heard_message h m ≡ Some part → (h.passes && is_odd c.client (Msg part)) ≡ true → taken h (Msg m ∷ []) c ≡ []
takes_no_message h m part c e odd = ap (λ (is : List Item). heeded h.passes is c) (hears_one h m part e) ∙ heeded_odd h.passes (Msg part) c odd

pub takes_message : (h : Hearing) (m part : MessageTree) (c : Course) → heard_message h m ≡ Some part → (h.passes && is_odd c.client (Msg part)) ≡ false → taken h (Msg m ∷ []) c ≡ Msg part ∷ []
takes_message h m part c e even = ap (λ (is : List Item). heeded h.passes is c) (hears_one h m part e) ∙ heeded_even h.passes (Msg part) c even

pub takes_no_fault : (h : Hearing) (id : ℕ) (fault : Fault) (c : Course) → (h.passes && is_odd c.client (Bad id fault)) ≡ true → taken h (Bad id fault ∷ []) c ≡ []
takes_no_fault h id fault c odd = heeded_odd h.passes (Bad id fault) c odd

pub takes_fault : (h : Hearing) (id : ℕ) (fault : Fault) (c : Course) → (h.passes && is_odd c.client (Bad id fault)) ≡ false → taken h (Bad id fault ∷ []) c ≡ heard h (Bad id fault ∷ [])
takes_fault h id fault c even = heeded_even h.passes (Bad id fault) c even

-- ---- ids

one_id : (odd : Bool) (item : Item) → HasId item → AllByRecursion HasId (unless_odd odd item)
one_id true item fits = tt
one_id false item fits = (fits, tt)

even_ids : (items : List Item) (c : Course) → AllByRecursion HasId items → AllByRecursion HasId (without_odd items c)
even_ids [] c are = tt
even_ids (item ∷ items) c are =
    let one = unless_odd (is_odd c.client item) item in
    let d = follow one c in
    ids_after one (without_odd items d) (one_id (is_odd c.client item) item are.0) (even_ids items d are.1)

heeded_ids : (passes : Bool) (items : List Item) (c : Course) → AllByRecursion HasId items → AllByRecursion HasId (heeded passes items c)
heeded_ids false items c are = are
heeded_ids true items c are = even_ids items c are

pub taken_ids : (h : Hearing) (items : List Item) (c : Course) → AllByRecursion HasId items → AllByRecursion HasId (taken h items c)
taken_ids h items c are = heeded_ids h.passes (heard h items) c (heard_ids h items are)
