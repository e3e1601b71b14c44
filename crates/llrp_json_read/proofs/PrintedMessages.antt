-- The line that a lawful message has says that message.
use Rattle.std.proofs.Common.{◌≡◌, ◌⊎◌, inl, inr, ℕ, ◌*◌, ◌^◌, ◌<◌, ◌≤◌, List, [], ◌∷◌, ◌++◌, refl, sym, ap, ◌∙◌, subst, arith, decimal}
use Rattle.std.specs.Prelude.{codes}
use Rattle.std.specs.List.{AllByRecursion}
use Rattle.json.specs.Json.{Json, number, string, object}
use Rattle.llrp_schema.specs.declared.kinds.Kind.TheVariants.{Message}
use Rattle.llrp_schema.specs.declared.kinds.KindSet.{KindSet}
use Rattle.llrp_schema.specs.Schema.{name_of, plain_fields_of, set_of_kind, tail_of}
use Rattle.llrp_tree.specs.declared.TheConstants.{MAX_DEPTH}
use Rattle.llrp_tree.specs.Lawful.{AllLawful, IsLawfulMessage, levels}
use Rattle.llrp_tree.specs.Tree.{Forest, none, and, MessageTree, trees}
use Rattle.llrp_listing.specs.NodeLine.{Version, Id}
use Rattle.llrp_json.specs.JsonItems.{parameters_members, tail_members}
use Rattle.llrp_json.specs.JsonLines.{IsMessageJson}
use Rattle.llrp_json.specs.JsonValues as written
use Rattle.llrp_json_read.specs.JsonLine.{SaysLine}
use Rattle.llrp_json_read.specs.ObjectSays.{SaysEach, SaysMessage, SaysParameter}
use Rattle.llrp_json_read.proofs.FilledObjects.{Pair, as_members, get_in}
use Rattle.llrp_json_read.proofs.PrintedFields.{IsFinePair, IsWhole, ascii_name, field_pairs, kind_ascii, value_says, whole_decimal}
use Rattle.llrp_json_read.proofs.PrintedParameters.{all_pairs, forest_is, forest_values, object_is}
use Rattle.llrp_json_read.proofs.PrintedUtf8.{utf8_text}
use Rattle.llrp_json_read.proofs.PrintedValues.{document_text}
use Rattle.llrp_json_read.proofs.ValueTexts.{text_of}

-- lawful parameters are no deeper than a message may have them
few_levels : (f : Forest) → AllLawful f → levels f ≤ MAX_DEPTH
few_levels none lawful = omega arith
few_levels (and before kind fields tail children) lawful = let earlier = few_levels before lawful.0 in let here = lawful.1.deep in omega (arith, earlier, here)

-- the first members of a message
abbrev firsts : MessageTree → List Pair
firsts m = (codes "message", string (name_of (Message m.kind))) ∷ (codes "version", number (decimal m.version)) ∷ (codes "id", number (decimal m.id)) ∷ []

small_version : (n : ℕ) → (n ≡ 1) ⊎ (n ≡ 2) → n < 2 ^ 64
small_version n (inl e) = omega (arith, e)
small_version n (inr e) = omega (arith, e)

-- a line of JSON says the message that it is printed for
pub printed_line_says : (p : KindSet) (m : MessageTree) (text : List ℕ) → IsLawfulMessage m → set_of_kind (Message m.kind) ≡ p → IsMessageJson m text → SaysLine p text m
printed_line_says p m text lawful own is =
    let kind = Message m.kind in
    let js = forest_values m.children is.below is.parameters in
    let inner = forest_is p MAX_DEPTH kind m.children is.below is.parameters own lawful.obeys.placed lawful.children (few_levels m.children lawful.children) in
    let id_small : m.id < 2 ^ 32 = lawful.id in
    let version : IsWhole (decimal m.version) = whole_decimal m.version (small_version m.version lawful.version) in
    let id : IsWhole (decimal m.id) = whole_decimal m.id (omega (arith, id_small)) in
    let one = object_is p kind (firsts m) m.fields m.tail m.children is.fields is.are js own lawful.obeys ((refl, refl), ((refl, version.integer), ((refl, id.integer), tt))) (inl refl) in
    let all = all_pairs kind (firsts m) (field_pairs (plain_fields_of kind) m.fields is.fields is.are) m.tail js in
    let j : Json = object (as_members all) in
    let first_fine : AllByRecursion (IsFinePair 0) (firsts m) = (
      (ascii_name (codes "message") refl, (ascii_name (name_of kind) (kind_ascii kind), tt, omega arith)),
      ((ascii_name (codes "version") refl, (version.utf8, version.is_number, omega arith)), ((ascii_name (codes "id") refl, (id.utf8, id.is_number, omega arith)), tt)),
    ) in
    let fine = one.fine (2 * MAX_DEPTH) first_fine inner.fine in
    let same : text_of j ≡ text = ap written.object
    (one.texts ∙ ap (λ l. written.member (codes "message") (written.string (name_of kind)) ∷ written.member (codes "version") (decimal m.version) ∷ written.member (codes "id") (decimal m.id) ∷ (is.fields ++ (tail_members (tail_of kind) m.tail ++ parameters_members l))) inner.texts_are)
    ∙ sym is.text_is in
    let deep = fine.2 in
    let says : SaysMessage p j m = record {
      parts = one.parts;
      version = value_says Version m.version (decimal m.version) (codes "version") refl j (get_in (codes "version", number (decimal m.version)) all one.firsts_in.1.0 one.apart) lawful.version;
      id = value_says Id m.id (decimal m.id) (codes "id") refl j (get_in (codes "id", number (decimal m.id)) all one.firsts_in.1.1.0 one.apart) id_small;
      parameters = subst (λ x. SaysEach (SaysParameter p MAX_DEPTH) x (trees m.children)) (sym one.below_is) inner.said;
      lawful = lawful;
    } in
    subst (λ t. SaysLine p t m) same (j, utf8_text j fine.0, document_text j fine.1 (omega (arith, deep)), says)
