-- What is heard of items, one after another.
use Rattle.std.proofs.Common.{◌≡◌, ◌<◌, ◌^◌, Bool, true, false, List, [], ◌∷◌, ◌++◌, refl, sym, ap}
use Rattle.std.specs.Prelude.{Option, Some, None, if◌then◌else◌}
use Rattle.std.specs.List.{AllByRecursion}
use Rattle.std.proofs.lemmas.List.Concat.{flat_map-append}
use Rattle.llrp_schema.specs.declared.kinds.MsgKind.{MsgKind}
use Rattle.llrp_schema.specs.declared.kinds.Kind.TheVariants.{Message}
use Rattle.llrp_schema.specs.declared.kinds.KindSet.{KindSet}
use Rattle.llrp_schema.specs.declared.kinds.KindSet.TheVariants.{Profile, Standard}
use Rattle.llrp_schema.specs.Schema.{message_in, number_of}
use Rattle.llrp_tree.specs.Tree.{MessageTree}
use Rattle.llrp_stream.specs.declared.item.Item.{Item}
use Rattle.llrp_stream.specs.declared.item.Item.TheVariants.{Msg, Bad}
use Rattle.llrp_endpoints.specs.declared.course.Phase.{Phase}
use Rattle.llrp_endpoints.specs.declared.course.Phase.TheVariants.{Open}
use Rattle.llrp_endpoints.specs.Gathering.{Course, after_item, goes, follow}
use Rattle.llrp_endpoints.specs.Heard.{answers_first, excused, granted, heard, heard_item, heard_message, item_where, own_message, own_where, part_in}
use Rattle.llrp_endpoints.specs.declared.hearing.Hearing.{Hearing}
use Rattle.llrp_session.specs.ReaderMessages.{reader_message}
use Rattle.std.specs.Option.{option_map}

-- items after others
pub follow_after : (items others : List Item) (c : Course) → follow (items ++ others) c ≡ follow others (follow items c)
follow_after [] others c = refl
follow_after (item ∷ items) others c = follow_after items others (goes c.phase item c)

pub heard_after : (h : Hearing) (items others : List Item) → heard h (items ++ others) ≡ heard h items ++ heard h others
heard_after h items others = flat_map-append (heard_item h) items others

-- ---- one item

pub follows_one : (item : Item) (c : Course) → c.phase ≡ Open → after_item item c ≡ follow (item ∷ []) c
follows_one item c opened = ap (λ (p : Phase). goes p item c) (sym opened)

-- a message of which nothing is heard
pub heard_none : (h : Hearing) (m : MessageTree) → heard_message h m ≡ None → heard h (Msg m ∷ []) ≡ []
heard_none h m e = ap (λ (o : Option MessageTree). item_where o ++ []) e

-- ---- ids

-- a message of a frame has an id of 32 bits
abbrev pub HasId : Item → Type 0
HasId (Msg m) = m.id < 2 ^ 32
HasId (Bad id fault) = Unit {0}

pub ids_after : (items others : List Item) → AllByRecursion HasId items → AllByRecursion HasId others → AllByRecursion HasId (items ++ others)
ids_after [] others are more = more
ids_after (item ∷ items) others are more = (are.0, ids_after items others are.1 more)

lawful_id : (lawful : Bool) (m : MessageTree) → m.id < 2 ^ 32 → AllByRecursion HasId (item_where (if lawful then Some m else None))
lawful_id true m fits = (fits, tt)
lawful_id false m fits = tt

part_id : (kind : Option MsgKind) (m : MessageTree) → m.id < 2 ^ 32 → AllByRecursion HasId (item_where (own_where kind m))
part_id None m fits = tt
part_id (Some kind) m fits = lawful_id _ _ fits

own_id : (m : MessageTree) → m.id < 2 ^ 32 → AllByRecursion HasId (item_where (own_message m))
unfolding own_message
own_id m fits = part_id (message_in Profile (number_of (Message m.kind))) m fits

excused_id : (answers : Bool) (m : MessageTree) → m.id < 2 ^ 32 → AllByRecursion HasId (item_where (Some (if answers then granted m else m)))
unfolding reader_message
excused_id true m fits = (fits, tt)
excused_id false m fits = (fits, tt)

heard_id : (excuses : Bool) (part : Option MessageTree) → AllByRecursion HasId (item_where part) → AllByRecursion HasId (item_where (option_map (excused excuses) part))
heard_id excuses None fits = tt
heard_id false (Some m) fits = fits
heard_id true (Some m) fits = excused_id (answers_first m) m fits.0

part_ids : (set : KindSet) (m : MessageTree) → m.id < 2 ^ 32 → AllByRecursion HasId (item_where (part_in set m))
part_ids Profile m fits = (fits, tt)
part_ids Standard m fits = own_id m fits

item_ids : (h : Hearing) (item : Item) → HasId item → AllByRecursion HasId (heard_item h item)
item_ids h (Msg m) fits = heard_id h.excuses (part_in h.set m) (part_ids h.set m fits)
item_ids h (Bad id fault) fits = (fits, tt)

pub heard_ids : (h : Hearing) (items : List Item) → AllByRecursion HasId items → AllByRecursion HasId (heard h items)
heard_ids h [] are = tt
heard_ids h (item ∷ items) are = ids_after (heard_item h item) (heard h items) (item_ids h item are.0) (heard_ids h items are.1)
