use Rattle.std.proofs.Common.{◌≡◌, ◌∙◌, ◌++◌, [], Bool, List, ℕ, arith, ap, sym}
use Rattle.std.proofs.lemmas.List.{append-nil}
use Rattle.tag_bits.specs.Digits.{digits}
use Rattle.llrp_schema.specs.declared.kinds.Kind.TheVariants.{Message}
use Rattle.llrp_schema.specs.Schema.{fields_of, tail_of}
use Rattle.llrp_schema.proofs.TableLaws.{few_bits, whole_octets}
use Rattle.llrp_tree.specs.Calls.HeadOctets.{all_fields}
use Rattle.llrp_tree.specs.Spelling.{count_digits, head_digits, message}
use Rattle.llrp_tree.proofs.MessageTails.{no_count}
use Rattle.llrp_tree.proofs.SpellingLemmas.{appends_same, sound_fields}
use Rattle.llrp_tree.proofs.heads.message_start.Goals as goal

pub pack-fields-requires-clause-sound : goal.pack-fields-requires-clause-sound
pack-fields-requires-clause-sound c = rw c.fields.ensures (sound_fields (Message c.args.kind))

pub pack-fields-requires-clause-small : goal.pack-fields-requires-clause-small
pack-fields-requires-clause-small c = rw c.fields.ensures (omega (arith, few_bits (Message c.args.kind)))

pub both_octets-requires-clause-rest_few : goal.both_octets-requires-clause-rest_few
both_octets-requires-clause-rest_few c = let b = rw c.fields.ensures at c.pack-fields.ensures.bits in omega (arith, few_bits (Message c.args.kind), b)

pub both_octets-requires-clause-rest_whole : goal.both_octets-requires-clause-rest_whole
both_octets-requires-clause-rest_whole c = let b = rw c.fields.ensures at c.pack-fields.ensures.bits in rw b (whole_octets (Message c.args.kind))

pub both_octets-requires-clause-fits : goal.both_octets-requires-clause-fits
both_octets-requires-clause-fits c = let b = rw c.fields.ensures at c.pack-fields.ensures.bits in omega (arith, few_bits (Message c.args.kind), b, c.header.ensures.bits)

pub returns-clause-spelled : goal.returns-clause-spelled
returns-clause-spelled c =
    let kind = c.args.kind in
    let bits = rw c.fields.ensures at c.pack-fields.ensures.bits in
    let spelled = rw c.fields.ensures at c.pack-fields.ensures.spelled in
    let h : List Bool = head_digits (message c.args.version kind c.args.octets c.args.id) in
    let f : List Bool = all_fields (fields_of (Message kind)) c.args.values.now in
    let head : digits c.header.result.bits c.header.result.number ≡ h = ap (λ (b : ℕ). digits b c.header.result.number) c.header.ensures.bits ∙ c.header.ensures.spelled in
    let fields : digits c.pack-fields.result.bits c.pack-fields.result.number ≡ f = ap (λ (b : ℕ). digits b c.pack-fields.result.number) bits ∙ spelled in
    let none : count_digits (tail_of (Message kind)) [] ≡ [] = no_count kind [] in
    appends_same _ _ _ _ c.both_octets.ensures.spelled
    (ap (λ (x : List Bool). x ++ digits c.pack-fields.result.bits c.pack-fields.result.number) head ∙ ap (λ (x : List Bool). h ++ x) fields
    ∙ ap (λ (x : List Bool). h ++ x) (sym (append-nil f) ∙ ap (λ (x : List Bool). f ++ x) (sym none)))
