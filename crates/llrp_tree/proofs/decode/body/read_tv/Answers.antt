-- A child that ends after its field is the last of the open tree that is possible here.
use Rattle.std.proofs.Common.{◌≡◌, ◌*◌, ℕ, Bool, List, [], ◌∷◌, ◌++◌, length, ap, sym, subst, ◌∙◌, arith}
use Rattle.std.specs.Prelude.{if◌then◌else◌}
use Rattle.tag_bits.specs.Digits.{digits_of_bytes}
use Rattle.llrp_schema.specs.declared.kinds.Kind.TheVariants.{Parameter}
use Rattle.llrp_schema.specs.Schema.{fields_of}
use Rattle.llrp_tree.specs.Tree.{Tree, forest}
use Rattle.llrp_tree.specs.Lawful.{head_octets}
use Rattle.llrp_tree.specs.Spelling.{spread}
use Rattle.llrp_tree.specs.Calls.Standing.{IsAt, leading}
use Rattle.llrp_tree.proofs.ChildOctets.{child_octets}
use Rattle.llrp_tree.proofs.OneField.{one_plain_field}
use Rattle.llrp_tree.proofs.BodyLemmas.{tv_stands, child_lawful, child_pushed}
use Rattle.llrp_tree.proofs.decode.body.read_tv.Goals as goal

pub of_octets-requires-clause-lawful : goal.of_octets-requires-clause-lawful
of_octets-requires-clause-lawful c =
    let w = c.requires.begins.1 in
    let kept : c.push.new.self.items ≡ c.in_ok-value.value ∷ [] = c.push.ensures.items ∙ ap (λ (xs : List ℕ). xs ++ c.in_ok-value.value ∷ []) c.new-fields.ensures in
    let stands = subst (λ (values : List ℕ). IsAt (digits_of_bytes c.args.frame.now) (leading w.head (8 * c.args.child.stop) (spread (fields_of (Parameter c.args.child.kind)) values) ∷ w.parent ∷ w.outer) (8 * c.in_ok-value.at)) (sym kept) (c.in_ok-value.ensures.read w.head (w.parent ∷ w.outer) w.of_kind w.stands) in
    child_lawful (digits_of_bytes c.args.frame.now) w.parent.head w.parent.stop w.parent.fields w.parent.tail w.parent.children w.outer (8 * c.in_ok-value.at) c.args.child.kind c.push.new.self.items c.new-tail.result (forest c.new-children.result)
    (tv_stands (digits_of_bytes c.args.frame.now) w.parent w.outer (8 * c.in_ok-value.at) w.head (8 * c.args.child.stop) c.args.child.kind c.push.new.self.items c.new-tail.result c.new-children.result (c.new-tail.ensures ∙ c.new.ensures.items) (c.new-children.ensures ∙ c.new-2.ensures.items) w.of_kind c.requires.short (ap (λ (xs : List ℕ). length xs) kept ∙ sym (one_plain_field c.args.child.kind c.requires.short)) stands)

pub of_octets-requires-clause-long : goal.of_octets-requires-clause-long
of_octets-requires-clause-long c =
    let w = c.requires.begins.1 in
    let kept : c.push.new.self.items ≡ c.in_ok-value.value ∷ [] = c.push.ensures.items ∙ ap (λ (xs : List ℕ). xs ++ c.in_ok-value.value ∷ []) c.new-fields.ensures in
    let stands = subst (λ (values : List ℕ). IsAt (digits_of_bytes c.args.frame.now) (leading w.head (8 * c.args.child.stop) (spread (fields_of (Parameter c.args.child.kind)) values) ∷ w.parent ∷ w.outer) (8 * c.in_ok-value.at)) (sym kept) (c.in_ok-value.ensures.read w.head (w.parent ∷ w.outer) w.of_kind w.stands) in
    let one : head_octets c.args.child.kind ≡ 1 = ap (λ (b : Bool). if b then 1 else 4) c.requires.short in
    let all = child_octets (digits_of_bytes c.args.frame.now) w.parent w.outer (8 * c.args.child.at) (8 * c.in_ok-value.at) w.head (8 * c.args.child.stop) c.args.child.kind c.push.new.self.items c.new-tail.result (forest c.new-children.result) w.of_kind w.stands
    (tv_stands (digits_of_bytes c.args.frame.now) w.parent w.outer (8 * c.in_ok-value.at) w.head (8 * c.args.child.stop) c.args.child.kind c.push.new.self.items c.new-tail.result c.new-children.result (c.new-tail.ensures ∙ c.new.ensures.items) (c.new-children.ensures ∙ c.new-2.ensures.items) w.of_kind c.requires.short (ap (λ (xs : List ℕ). length xs) kept ∙ sym (one_plain_field c.args.child.kind c.requires.short)) stands) in
    omega (arith, all, one, c.in_ok-value.ensures.within)

pub returns-clause-read : goal.returns-clause-read
returns-clause-read c = λ h parent outer k s st.
    let kept : c.push.new.self.items ≡ c.in_ok-value.value ∷ [] = c.push.ensures.items ∙ ap (λ (xs : List ℕ). xs ++ c.in_ok-value.value ∷ []) c.new-fields.ensures in
    let stands = subst (λ (values : List ℕ). IsAt (digits_of_bytes c.args.frame.now) (leading h (8 * c.args.child.stop) (spread (fields_of (Parameter c.args.child.kind)) values) ∷ parent ∷ outer) (8 * c.in_ok-value.at)) (sym kept) (c.in_ok-value.ensures.read h (parent ∷ outer) k st) in
    child_pushed (digits_of_bytes c.args.frame.now) parent outer c.args.siblings.now.items c.push_reserved.new.self.items c.of_octets.result (8 * c.in_ok-value.at) c.args.child.kind c.push.new.self.items c.new-tail.result (forest c.new-children.result) s c.of_octets.ensures (c.push_reserved.ensures.items ∙ ap (λ (x : List Tree). x ++ c.of_octets.result ∷ []) c.in_ok-reserve.ensures.items)
    (tv_stands (digits_of_bytes c.args.frame.now) parent outer (8 * c.in_ok-value.at) h (8 * c.args.child.stop) c.args.child.kind c.push.new.self.items c.new-tail.result c.new-children.result (c.new-tail.ensures ∙ c.new.ensures.items) (c.new-children.ensures ∙ c.new-2.ensures.items) k c.requires.short (ap (λ (xs : List ℕ). length xs) kept ∙ sym (one_plain_field c.args.child.kind c.requires.short)) stands)
