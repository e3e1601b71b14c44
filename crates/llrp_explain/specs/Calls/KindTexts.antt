-- What the tables say of a kind, as a line of text: its number and name, its fields, the parameters that it may have, and the kinds that it may stand in.
use Rattle.std.specs.Prelude.{ℕ, zero, suc, ◌^◌, ◌-◌, List, [], ◌∷◌, ◌++◌, length, map, filter, cond, nat_eq, nat_lt, codes, decimal, Option, Some, None}
use Rattle.std.specs.List.{flat_map}
use Rattle.llrp_schema.specs.declared.kinds.ParamKind.{ParamKind}
use Rattle.llrp_schema.specs.declared.kinds.Kind.{Kind}
use Rattle.llrp_schema.specs.declared.kinds.Kind.TheVariants.{Message, Parameter}
use Rattle.llrp_schema.specs.declared.kinds.KindSet.{KindSet}
use Rattle.llrp_schema.specs.declared.kinds.Tail.{Tail}
use Rattle.llrp_schema.specs.declared.kinds.Tail.TheVariants.{Absent, Words, Text, Bits, Data}
use Rattle.llrp_schema.specs.Calls.Schema.{message_named_in, param_named_in}
use Rattle.llrp_schema.specs.Schema.{FieldRule, GroupRule, number_of, name_of, fields_of, tail_of, groups_of, has_place, message_in, tlv_in, tv_in}

-- texts in a row with a comma (44) and a space (32) between them, and a hyphen (45) where there are none
abbrev pub listed : List (List ℕ) → List ℕ
listed [] = 45 ∷ []
listed (x ∷ xs) = x ++ flat_map (λ y. 44 ∷ 32 ∷ y) xs

-- ---- fields

-- the values of a field, where they are not all that its bits can say
abbrev pub values_text : FieldRule → List ℕ
values_text rule = cond rule.signed (codes " signed") (cond (nat_lt rule.greatest (2 ^ rule.width - 1)) (codes " (0.." ++ (decimal rule.greatest ++ (41 ∷ []))) [])

-- a field: its name and how many bits it has
abbrev pub field_text : FieldRule → List ℕ
field_text rule = cond rule.reserved (codes "reserved " ++ decimal rule.width) (rule.name ++ (32 ∷ (decimal rule.width ++ values_text rule)))

-- what comes between the fields and the parameters
abbrev pub tail_words : Tail → List (List ℕ)
tail_words Absent = []
tail_words Words = codes "words" ∷ []
tail_words Text = codes "text" ∷ []
tail_words Bits = codes "bits" ∷ []
tail_words Data = codes "octets" ∷ []

abbrev pub fields_text : Kind → List ℕ
fields_text kind = listed (map field_text (fields_of kind) ++ tail_words (tail_of kind))

-- ---- parameters

-- kinds of which each may be the one that stands there
abbrev pub choice : List (List ℕ) → List ℕ
choice [] = []
choice (x ∷ xs) = x ++ flat_map (λ y. codes " or " ++ y) xs

abbrev pub names : List ParamKind → List (List ℕ)
names kinds = map (λ kind. name_of (Parameter kind)) kinds

-- how often: once (nothing), at most once (63, a question mark), once or more (43, a plus sign), in any number (42, an asterisk), or how many at least and at most
abbrev pub times_text : ℕ → Option ℕ → List ℕ
times_text least None = cond (nat_eq least 0) (42 ∷ []) (cond (nat_eq least 1) (43 ∷ []) (32 ∷ (decimal least ++ codes " or more")))
times_text least (Some most) = cond (nat_eq most 1) (cond (nat_eq least 0) (63 ∷ []) []) (32 ∷ (decimal least ++ (codes " to " ++ decimal most)))

-- parameters that are counted together
abbrev pub group_text : GroupRule → List ℕ
group_text group = cond (nat_lt 1 (length group.members)) (40 ∷ (choice (names group.members) ++ (41 ∷ []))) (choice (names group.members)) ++ times_text group.least group.most

abbrev pub groups_text : Kind → List ℕ
groups_text kind = listed (map group_text (groups_of kind))

-- ---- the kinds of a set by their numbers, the messages first

abbrev pub at_most_one : {X : Type 0} → Option X → List X
at_most_one None = []
at_most_one (Some x) = x ∷ []

abbrev pub messages_at : KindSet → ℕ → List Kind
messages_at set number = map (λ kind. Message kind) (at_most_one (message_in set number))

-- a parameter with a type and a value alone
abbrev pub short_at : KindSet → ℕ → List Kind
short_at set number = map (λ kind. Parameter kind) (at_most_one (tv_in set number))

abbrev pub parameters_at : KindSet → ℕ → List Kind
parameters_at set number = map (λ kind. Parameter kind) (at_most_one (tlv_in set number))

-- what the numbers below one give, from 0 on
unfoldable pub by_number : (ℕ → List Kind) → ℕ → List Kind
by_number at zero = []
by_number at (suc n) = by_number at n ++ at n

-- the number of a parameter with a type and a value alone has 7 bits, any other 10
unfoldable pub kinds_of : KindSet → List Kind
kinds_of set = by_number (messages_at set) 1024 ++ (by_number (short_at set) 128 ++ by_number (parameters_at set) 1024)

-- ---- lines

-- where a parameter may stand
abbrev pub places_text : List Kind → Kind → List ℕ
places_text kinds (Message kind) = []
places_text kinds (Parameter kind) = codes "; in " ++ listed (map name_of (filter (λ parent. has_place (groups_of parent) kind) kinds))

-- the number and the name of a kind
abbrev pub title : Kind → List ℕ
title kind = decimal (number_of kind) ++ (32 ∷ (name_of kind ++ codes ": "))

-- the line of a kind, among the kinds of its set; it ends with LF (10)
abbrev pub kind_text : List Kind → Kind → List ℕ
kind_text kinds kind = title kind ++ (fields_text kind ++ (codes "; " ++ (groups_text kind ++ (places_text kinds kind ++ (10 ∷ [])))))

-- the lines of a set
unfoldable pub table_text : KindSet → List ℕ
table_text set = flat_map (kind_text (kinds_of set)) (kinds_of set)

-- the kinds of a set that have a name: one or none, since no two have the same
abbrev pub kinds_named : KindSet → List ℕ → List Kind
kinds_named set name = map (λ kind. Message kind) (at_most_one (message_named_in set name)) ++ map (λ kind. Parameter kind) (at_most_one (param_named_in set name))

-- the line of the kind with a name, or nothing
abbrev pub texts_named : KindSet → List ℕ → List ℕ
texts_named set name = flat_map (kind_text (kinds_of set)) (kinds_named set name)
