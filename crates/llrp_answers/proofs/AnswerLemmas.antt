-- The same message under another id, and pairs one after another.
use Rattle.std.proofs.Common.{◌≡◌, ℕ, suc, ◌+◌, ◌<◌, ◌^◌, true, false, List, ◌∷◌, length, drop, map, get_or, refl, sym, ap, subst, ◌∙◌, add-one}
use Rattle.std.proofs.Math.Seq.{drop-cons}
use Rattle.std.specs.Prelude.{Some}
use Rattle.llrp_schema.specs.declared.kinds.MsgKind.{MsgKind}
use Rattle.llrp_tree.specs.Tree.{Tree, MessageTree, forest, trees}
use Rattle.llrp_tree.specs.Lawful.{IsLawfulMessage}
use Rattle.llrp_listing.specs.Lines.{words}
use Rattle.llrp_answers.specs.declared.answers.Pair.{Pair}
use Rattle.llrp_answers.specs.Calls.Answers.{answers_to, under}
use Rattle.llrp_answers.specs.Calls.Forms.{fits, message_words}
use Rattle.llrp_tree.proofs.TreeLemmas.{forest-trees}

pub made_of : (m : MessageTree) (v i : ℕ) (k : MsgKind) (fs tail : List ℕ) (ts : List Tree) → v ≡ m.version → k ≡ m.kind → fs ≡ m.fields → tail ≡ m.tail → ts ≡ trees m.children
    → record { version = v; id = i; kind = k; fields = fs; tail = tail; children = forest ts } ≡ record m { id = i }
made_of m v i k fs tail ts a b c d e = rw (a, b, c, d, e, forest-trees m.children) refl

pub other_id : (m : MessageTree) (v i : ℕ) (k : MsgKind) (fs tail : List ℕ) (ts : List Tree) → v ≡ m.version → k ≡ m.kind → fs ≡ m.fields → tail ≡ m.tail → ts ≡ trees m.children → i < 2 ^ 32 → IsLawfulMessage m
    → IsLawfulMessage (record { version = v; id = i; kind = k; fields = fs; tail = tail; children = forest ts })
other_id m v i k fs tail ts a b c d e small lawful =
    let own : IsLawfulMessage (record m { id = i }) = record { version = lawful.version; id = small; obeys = lawful.obeys; children = lawful.children; long = lawful.long } in
    subst IsLawfulMessage (sym (made_of m v i k fs tail ts a b c d e)) own

-- ---- the first pair whose form stands for a request

there : (ps : List Pair) (i : ℕ) (p : Pair) → i < length ps → p ≡ get_or ps i p → drop i ps ≡ p ∷ drop (suc i) ps
there ps i p within is = drop-cons ps i p within ∙ ap (λ (x : Pair). x ∷ drop (suc i) ps) (sym is)

pub first_that_fits : (ps : List Pair) (request : MessageTree) (i : ℕ) (p : Pair) → i < length ps → p ≡ get_or ps i p → fits (words p.form.items) (message_words request) ≡ true
    → answers_to (drop i ps) request ≡ Some (map (under request.id) p.messages.items)
first_that_fits ps request i p within is yes_ = rw (there ps i p within is, yes_) refl

pub passes_by : (ps : List Pair) (request : MessageTree) (i : ℕ) (p : Pair) → i < length ps → p ≡ get_or ps i p → fits (words p.form.items) (message_words request) ≡ false
    → answers_to (drop i ps) request ≡ answers_to (drop (i + 1) ps) request
passes_by ps request i p within is no_ = rw (there ps i p within is, no_, add-one) refl
