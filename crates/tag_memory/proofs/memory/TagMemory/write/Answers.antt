use Rattle.std.proofs.Common.{◌≡◌, ◌∙◌, ap, sym, subst, rules, List, ℕ, Ok}
use Rattle.std.specs.Prelude.{None}
use Rattle.std.proofs.lemmas.List.{with_items_is}
use Rattle.tag_memory.specs.declared.bank.Bank.{Bank}
use Rattle.tag_memory.specs.declared.bank.Bank.TheVariants.{Reserved, Epc, User}
use Rattle.tag_memory.specs.Calls.Memory.{Memory, put, write, write_fault}
use Rattle.tag_memory.proofs.MemoryLemmas.{written}
use Rattle.tag_memory.proofs.memory.TagMemory.write.Goals as goal

pub returns-in-Some-clause-err : goal.returns-in-Some-clause-err
unfolding write
returns-in-Some-clause-err c = search rules

pub returns-in-Reserved-clause-ok : goal.returns-in-Reserved-clause-ok
returns-in-Reserved-clause-ok c =
    let s = c.self.inside in
    let none : write_fault c.args.password Reserved c.args.pointer c.args.words.now c.args.self.now ≡ None = subst (λ (b : Bank). write_fault c.args.password b c.args.pointer c.args.words.now c.args.self.now ≡ None) c.in-Reserved.is (sym c.write_fault.ensures ∙ c.in_default.is) in
    let items = with_items_is s.reserved c.put.new.bank (c.put.ensures.length ∙ c.as_mut_slice.ensures.len) in
    let new : c.put.new.bank ≡ put s.reserved.items c.args.pointer c.args.words.now = c.put.ensures.put ∙ ap (λ (x : List ℕ). put x c.args.pointer c.args.words.now) c.as_mut_slice.ensures.value in
    ap (λ (b : Bank). write c.args.password b c.args.pointer c.args.words.now c.args.self.now) c.in-Reserved.is
    ∙ written Reserved c.args.password c.args.pointer c.args.words.now s.reserved.items s.epc.items s.tid.items s.user.items c.args.self.now _ none c.self.view_is
    (ap (λ (x : List ℕ). let n : Memory = record { reserved = x; epc = s.epc.items; tid = s.tid.items; user = s.user.items } in n) (items ∙ new))

pub returns-in-Epc-clause-ok : goal.returns-in-Epc-clause-ok
returns-in-Epc-clause-ok c =
    let s = c.self.inside in
    let none : write_fault c.args.password Epc c.args.pointer c.args.words.now c.args.self.now ≡ None = subst (λ (b : Bank). write_fault c.args.password b c.args.pointer c.args.words.now c.args.self.now ≡ None) c.in-Epc.is (sym c.write_fault.ensures ∙ c.in_default.is) in
    let items = with_items_is s.epc c.put-in-Epc.new.bank (c.put-in-Epc.ensures.length ∙ c.as_mut_slice-in-Epc.ensures.len) in
    let new : c.put-in-Epc.new.bank ≡ put s.epc.items c.args.pointer c.args.words.now = c.put-in-Epc.ensures.put ∙ ap (λ (x : List ℕ). put x c.args.pointer c.args.words.now) c.as_mut_slice-in-Epc.ensures.value in
    ap (λ (b : Bank). write c.args.password b c.args.pointer c.args.words.now c.args.self.now) c.in-Epc.is
    ∙ written Epc c.args.password c.args.pointer c.args.words.now s.reserved.items s.epc.items s.tid.items s.user.items c.args.self.now _ none c.self.view_is
    (ap (λ (x : List ℕ). let n : Memory = record { reserved = s.reserved.items; epc = x; tid = s.tid.items; user = s.user.items } in n) (items ∙ new))

pub returns-in-User-clause-ok : goal.returns-in-User-clause-ok
returns-in-User-clause-ok c =
    let s = c.self.inside in
    let none : write_fault c.args.password User c.args.pointer c.args.words.now c.args.self.now ≡ None = subst (λ (b : Bank). write_fault c.args.password b c.args.pointer c.args.words.now c.args.self.now ≡ None) c.in-User.is (sym c.write_fault.ensures ∙ c.in_default.is) in
    let items = with_items_is s.user c.put-in-User.new.bank (c.put-in-User.ensures.length ∙ c.as_mut_slice-in-User.ensures.len) in
    let new : c.put-in-User.new.bank ≡ put s.user.items c.args.pointer c.args.words.now = c.put-in-User.ensures.put ∙ ap (λ (x : List ℕ). put x c.args.pointer c.args.words.now) c.as_mut_slice-in-User.ensures.value in
    ap (λ (b : Bank). write c.args.password b c.args.pointer c.args.words.now c.args.self.now) c.in-User.is
    ∙ written User c.args.password c.args.pointer c.args.words.now s.reserved.items s.epc.items s.tid.items s.user.items c.args.self.now _ none c.self.view_is
    (ap (λ (x : List ℕ). let n : Memory = record { reserved = s.reserved.items; epc = s.epc.items; tid = s.tid.items; user = x } in n) (items ∙ new))
