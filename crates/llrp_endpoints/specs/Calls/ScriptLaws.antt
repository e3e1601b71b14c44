-- The laws of scripts.
use Rattle.std.specs.Prelude.{◌≡◌, ℕ, ◌⊎◌, List}
use Rattle.llrp_endpoints.specs.declared.script.Entry.{Entry}
use Rattle.llrp_endpoints.specs.Calls.Script.{IsScript, IsRefusedAt}

-- A text is the script of one list of entries or has one first refused line, and never both.
pub record ScriptOrRefused (text : List ℕ) : Type 0 where
  pub one_of_both : ((entries : List Entry) × IsScript entries text) ⊎ ((line : ℕ) × IsRefusedAt text line)
  pub one_script : (a b : List Entry) → IsScript a text → IsScript b text → a ≡ b
  pub one_line : (m n : ℕ) → IsRefusedAt text m → IsRefusedAt text n → m ≡ n
  pub not_both : (entries : List Entry) (line : ℕ) → IsScript entries text → IsRefusedAt text line → ⊥
