-- A reader that its client has left, and one to which nothing happens before something is due.
use Rattle.std.proofs.Common.{◌≡◌, ◌∙◌, ap, ℕ, ◌<◌, inl, refl, Bool, true, false, cond, List, [], ◌∷◌, arith}
use Rattle.std.specs.Prelude.{◌&&◌, ◌==◌, nat_le, Option, None, Some, IfSome, Ok}
use Rattle.std.proofs.lemmas.Bool.Decides.{nat_tests}
use Rattle.llrp_session.specs.RoSpec.{RoSpec}
use Rattle.llrp_session.specs.Table.{RoState, Entry, Disabled, Inactive, Active, change, active, is_active}
use Rattle.llrp_session.specs.ReaderMachine.{Reader, ReaderPhase, Turn, Keepalive, Up, Tick, next, next_in, tick, turn_begun, tell, with_reader, keep_alive, keepalive_from, end, end_if, has_run_out, later}
use Rattle.llrp_session.specs.Contents.{KeepaliveSent}
use Rattle.llrp_session.specs.Calls.LawfulStates.{IsLawfulReader}
use Rattle.llrp_session.specs.Calls.NextClient.{rested, resting, for_next_client}
use Rattle.llrp_session.specs.Calls.Due.{sooner, ends_at, keeps_alive_at, next_due}
use Rattle.llrp_session.proofs.LawfulReaders.{told-change, fits-change}

-- ---- the next client

pub lawful_for_next : (r : Reader) → IsLawfulReader r → IsLawfulReader (for_next_client r)
lawful_for_next r h = record {
  next_id = h.next_id;
  version = inl refl;
  held = tt;
  few = omega arith;
  table = told-change resting r.table h.table;
  fits = fits-change r.limit resting r.table h.fits;
}

is_idle : (s : RoState) → is_active (rested s) ≡ false
is_idle Disabled = refl
is_idle Inactive = refl
is_idle Active = refl

none_left : (t : List Entry) → active (change resting t) ≡ None
unfolding active change
none_left [] = refl
none_left (e ∷ es) = ap (λ (b : Bool). cond b (Some e.spec) (active (change resting es))) (is_idle e.state) ∙ none_left es

pub none_active : (r : Reader) → active (for_next_client r).table ≡ None
none_active r = none_left r.table

-- ---- before something is due

both : (now : ℕ) (a b : Option ℕ) → IfSome (sooner a b) (λ m. now < m) → IfSome a (λ m. now < m) × IfSome b (λ m. now < m)
both now None b h = (tt, h)
both now (Some x) None h = (h, tt)
both now (Some x) (Some y) h = (grind (arith, nat_tests), grind (arith, nat_tests))

is_early : (moment now : ℕ) → now < moment → nat_le moment now ≡ false
is_early moment now h = grind (arith, nat_tests)

goes_on : (now started : ℕ) (s : RoSpec) (b : Bool) → IfSome (cond b (Some (later started s.duration)) None) (λ m. now < m) → (b && nat_le (later started s.duration) now) ≡ false
goes_on now started s false h = refl
goes_on now started s true h = is_early (later started s.duration) now h

runs_on : (now : ℕ) (o : Option RoSpec) (t : Turn) → IfSome (ends_at t.reader.started o) (λ m. now < m) → end_if (has_run_out now t.reader.started) now o t ≡ t
runs_on now None t h = refl
runs_on now (Some s) t h = ap (λ (b : Bool). cond b (end now s t) t) (goes_on now t.reader.started s (s.stop_trigger == 1) h)

says_nothing : (now : ℕ) (o : Option Keepalive) (t : Turn) → IfSome (keeps_alive_at o) (λ m. now < m) → keep_alive now o t ≡ t
says_nothing now None t h = refl
says_nothing now (Some k) t h =
    let told = tell KeepaliveSent t in
    ap (λ (b : Bool). cond b (with_reader (record told.reader { keepalive = Some (keepalive_from now k.period) }) told) t) (is_early k.due now h)

tick_before : (now : ℕ) (r : Reader) → IfSome (next_due r) (λ m. now < m) → tick now (turn_begun r) ≡ turn_begun r
unfolding tick
tick_before now r h =
    let b = both now (ends_at r.started (active r.table)) (keeps_alive_at r.keepalive) h in
    ap (λ (t : Turn). keep_alive now t.reader.keepalive t) (runs_on now (active r.table) (turn_begun r) b.0) ∙ says_nothing now r.keepalive (turn_begun r) b.1

pub still_before : (now : ℕ) (r : Reader) → r.phase ≡ Up → IfSome (next_due r) (λ m. now < m) → next now Tick r ≡ Ok (turn_begun r)
unfolding next
still_before now r up h = ap (λ (p : ReaderPhase). next_in p now Tick r) up ∙ ap (λ (t : Turn). Ok t) (tick_before now r h)
