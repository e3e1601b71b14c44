use Rattle.std.proofs.Common.{◌≡◌, ◌++◌, List, [], ℕ, Bool, true, inl, inr, refl, rules, subst, sym}
use Rattle.std.specs.Prelude.{option_map}
use Rattle.std.specs.Borrow.{Bor}
use Rattle.std.proofs.lemmas.List.{append-nil}
use Rattle.std.proofs.lemmas.Result.{IfOk-weaker}
use Rattle.llrp_labels.specs.LabelledTags.{AreKeyMembers, key_members}
use Rattle.llrp_labels.proofs.TagLemmas.{no_parts}
use Rattle.llrp_labels.proofs.tags.push_members.Goals as goal

pub returns-in_default : goal.returns-in_default
returns-in_default c =
    let on : c.args.labels.keys ≡ true = search rules in
    ([], subst (λ (b : Bool). AreKeyMembers c.args.labels.schemes b c.args.word []) (sym on) (inr ((λ name number serial h. c.in_default.ensures h.0 h.1), refl)), sym (append-nil c.args.out.now.items))

pub returns-in-Some-named_key_of : goal.returns-in-Some-named_key_of
returns-in-Some-named_key_of c =
    let on : c.args.labels.keys ≡ true = search rules in
    let key = c.in-Some-named_key_of.key in
    let serial = option_map (λ (s : Bor (List ℕ)). s.now) key.serial in
    let members = key_members key.name.now key.number.now serial in
    let named = rw (c.as_bytes.ensures.value, c.as_str.ensures.value) at c.in-Some-named_key_of.ensures in
    let are : AreKeyMembers c.args.labels.schemes c.args.labels.keys c.args.word members = subst (λ (b : Bool). AreKeyMembers c.args.labels.schemes b c.args.word members) (sym on) (inl (key.name.now, key.number.now, serial, (c.in-Some.text.bytes, c.in-Some.ensures, named), refl)) in
    IfOk-weaker c.push_key.result _ (λ done. (x : List ℕ) × AreKeyMembers c.args.labels.schemes c.args.labels.keys c.args.word x × (c.push_key.new.out.items ≡ c.args.out.now.items ++ x)) (λ done h. (members, are, h)) c.push_key.ensures

pub returns-in-None : goal.returns-in-None
returns-in-None c =
    let on : c.args.labels.keys ≡ true = search rules in
    let lacks = rw (c.as_bytes.ensures.value, c.as_str.ensures.value) at c.in-None.ensures in
    ([], subst (λ (b : Bool). AreKeyMembers c.args.labels.schemes b c.args.word []) (sym on) (inr ((λ name number serial h. no_parts c.args.labels.schemes c.args.word c.in-Some.text.bytes name number serial c.in-Some.ensures lacks h), refl)), sym (append-nil c.args.out.now.items))
