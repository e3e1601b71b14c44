use Rattle.std.proofs.Common.{◌≡◌, ◌%◌, ◌∙◌, ◌++◌, [], Bool, List, ℕ, arith, ap, sym}
use Rattle.std.proofs.lemmas.List.{append-nil}
use Rattle.tag_bits.specs.Digits.{digits}
use Rattle.llrp_schema.specs.Schema.{tail_of}
use Rattle.llrp_tree.specs.Calls.HeadOctets.{all_fields}
use Rattle.llrp_tree.specs.Spelling.{count_digits, head_digits, message}
use Rattle.llrp_schema.specs.declared.kinds.Kind.TheVariants.{Message}
use Rattle.llrp_schema.specs.Schema.{fields_of, bits_of}
use Rattle.llrp_schema.proofs.TableLaws.{few_bits, whole_octets}
use Rattle.llrp_tree.proofs.MessageTails.{no_count}
use Rattle.llrp_tree.proofs.SpellingLemmas.{sound_fields}
use Rattle.llrp_tree.proofs.SpelledLemmas.{message_bits}
use Rattle.llrp_tree.proofs.heads.message_bits.Goals as goal

pub pack-fields-requires-clause-sound : goal.pack-fields-requires-clause-sound
pack-fields-requires-clause-sound c = rw c.fields.ensures (sound_fields (Message c.args.kind))

pub pack-fields-requires-clause-small : goal.pack-fields-requires-clause-small
pack-fields-requires-clause-small c = rw c.fields.ensures (omega (arith, few_bits (Message c.args.kind)))

pub joined-requires-clause-few : goal.joined-requires-clause-few
joined-requires-clause-few c = let b = rw c.fields.ensures at c.pack-fields.ensures.bits in omega (arith, (message_bits c.args.kind c.pack-fields.result.bits c.requires.short b).0, b)

pub joined-requires-clause-small : goal.joined-requires-clause-small
joined-requires-clause-small c = let b = rw c.fields.ensures at c.pack-fields.ensures.bits in omega (arith, (message_bits c.args.kind c.pack-fields.result.bits c.requires.short b).0, b)

pub returns-clause-few : goal.returns-clause-few
returns-clause-few c = let b = rw c.fields.ensures at c.pack-fields.ensures.bits in omega (arith, (message_bits c.args.kind c.pack-fields.result.bits c.requires.short b).0, b, c.joined.ensures.bits)

pub returns-clause-whole : goal.returns-clause-whole
returns-clause-whole c =
    let b = rw c.fields.ensures at c.pack-fields.ensures.bits in
    let octets8 : bits_of (fields_of (Message c.args.kind)) % 8 ≡ 0 = whole_octets (Message c.args.kind) in
    omega (arith, octets8, b, c.joined.ensures.bits)

pub returns-clause-spelled : goal.returns-clause-spelled
returns-clause-spelled c =
    let kind = c.args.kind in
    let bits = rw c.fields.ensures at c.pack-fields.ensures.bits in
    let spelled = rw c.fields.ensures at c.pack-fields.ensures.spelled in
    let h : List Bool = head_digits (message c.args.version kind c.args.octets c.args.id) in
    let f : List Bool = all_fields (fields_of (Message kind)) c.args.values.now in
    let fields : digits c.pack-fields.result.bits c.pack-fields.result.number ≡ f = ap (λ (b : ℕ). digits b c.pack-fields.result.number) bits ∙ spelled in
    let whole : digits c.joined.result.bits c.joined.result.number ≡ h ++ f =
    ap (λ (b : ℕ). digits b c.joined.result.number) c.joined.ensures.bits ∙ c.joined.ensures.spelled
    ∙ ap (λ (x : List Bool). x ++ digits c.pack-fields.result.bits c.pack-fields.result.number) c.header-header.ensures.spelled
    ∙ ap (λ (x : List Bool). h ++ x) fields in
    let none : count_digits (tail_of (Message kind)) [] ≡ [] = no_count kind [] in
    whole ∙ ap (λ (x : List Bool). h ++ x) (sym (append-nil f) ∙ ap (λ (x : List Bool). f ++ x) (sym none))
