-- The members of a tag's object.
use Rattle.std.proofs.Common.{Bor, ◌≡◌, ◌∙◌, ℕ, false, List, ◌++◌, ap, append_assoc, codes, refl, sym}
use Rattle.std.specs.Prelude.{Option, Some, None, is_some}
use Rattle.std.specs.Option.{option_or}
use Rattle.std.proofs.lemmas.List.{append-nil}
use Rattle.llrp_tree.specs.Tree.{Tree}
use Rattle.llrp_session.specs.Calls.ReadWords.{behind}
use Rattle.llrp_endpoints.specs.TagLines.{IsEpcText, absent}
use Rattle.llrp_endpoints.specs.Private.Objects.{added, quoted}

-- a tag without an EPC
pub no_epc : (word bits : Option Tree) (found : Option (Bor Tree)) (text : List ℕ) → behind found ≡ option_or word bits → is_some found ≡ false
    → (epc : List ℕ) × IsEpcText word bits epc × (text ≡ text ++ added false (codes "epc") (option_or word bits) (quoted epc))
no_epc None None found text e f = (absent, refl, sym (append-nil text))
no_epc None (Some t) None text e f = cc
no_epc None (Some t) (Some b) text e f = cc
no_epc (Some t) bits None text e f = cc
no_epc (Some t) bits (Some b) text e f = cc

-- five parts, appended one after another
pub five_parts : (a b c d e start one two three four five : List ℕ) → one ≡ start ++ a → two ≡ one ++ b → three ≡ two ++ c → four ≡ three ++ d → five ≡ four ++ e → five ≡ start ++ (a ++ (b ++ (c ++ (d ++ e))))
five_parts a b c d e start one two three four five p q r s t =
    t ∙ ap (λ (x : List ℕ). x ++ e) (s ∙ ap (λ (x : List ℕ). x ++ d) (r ∙ ap (λ (x : List ℕ). x ++ c) (q ∙ ap (λ (x : List ℕ). x ++ b) p)))
    ∙ append_assoc (((start ++ a) ++ b) ++ c) d e ∙ append_assoc ((start ++ a) ++ b) c (d ++ e) ∙ append_assoc (start ++ a) b (c ++ (d ++ e)) ∙ append_assoc start a (b ++ (c ++ (d ++ e)))
