use Rattle.std.proofs.Common.{◌≡◌, sym, ◌∙◌, ap, arith, length}
use Rattle.std.specs.List.{insert}
use Rattle.llrp_session.specs.Table.{Disabled}
use Rattle.llrp_session.specs.Private.ReaderParts.{place_of}
use Rattle.llrp_session.proofs.TableChanges.{place-le, enter-insert}
use Rattle.llrp_session.proofs.reader.table.enter.Goals as goal

place : (c : goal.After-insert-arg-1) → c.place_of-place.result ≡ place_of c.args.spec.id c.args.table.now.items
place c = c.place_of-place.ensures ∙ ap (λ id. place_of id c.as_slice.result.now) (ap (λ s. s.id) c.settings.ensures) ∙ ap (place_of c.args.spec.id) c.as_slice.ensures.value

pub insert-requires : goal.insert-requires
insert-requires c = let h = place-le c.args.spec.id c.args.table.now.items in let p = place c in let n = ap length c.as_slice.ensures.value in omega arith

pub returns : goal.returns
returns c =
    let at : c.place_of-place.result ≡ place_of c.args.spec.id c.args.table.now.items = c.place_of-place.ensures ∙ ap (λ id. place_of id c.as_slice.result.now) (ap (λ s. s.id) c.settings.ensures) ∙ ap (place_of c.args.spec.id) c.as_slice.ensures.value in
    c.in-Ok.ensures.items ∙ ap (λ n. insert c.args.table.now.items n (record { spec = c.args.spec; state = Disabled })) at ∙ sym (enter-insert c.args.spec c.args.table.now.items c.requires.new)
