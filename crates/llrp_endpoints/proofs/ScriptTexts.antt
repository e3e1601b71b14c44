-- How a text begins with the script of some entries.
use Rattle.std.proofs.Common.{◌≡◌, ℕ, ◌+◌, ◌<◌, List, [], ◌∷◌, ◌++◌, length, refl, sym, ap, subst, ◌∙◌, arith, append_assoc, length-append}
use Rattle.std.proofs.lemmas.List.{append-nil}
use Rattle.llrp_endpoints.specs.declared.script.Entry.{Entry}
use Rattle.llrp_endpoints.specs.Calls.Script.{IsEntryLine, IsTextOfAll, IsScript, Begins, Continues, NoneContinues, IsRefusedAt}
use Rattle.llrp_endpoints.proofs.ScriptEntries.{no_entries}

-- no entries have no text
pub begins_none : (text : List ℕ) → Begins text [] text
begins_none text = record { front = []; script = record { lawful = no_entries; lines = refl }; text_is = refl }

-- the text of one entry more
texts_push : (entries : List Entry) (e : Entry) (text line : List ℕ) → IsTextOfAll entries text → IsEntryLine e line → IsTextOfAll (entries ++ e ∷ []) (text ++ (line ++ (10 ∷ [])))
texts_push [] e text line h says = (line, [], says, ap (λ (x : List ℕ). x ++ (line ++ (10 ∷ []))) h, refl)
texts_push (d ∷ entries) e text line h says = (
  h.0,
  h.1 ++ (line ++ (10 ∷ [])),
  h.2,
  ap (λ (x : List ℕ). x ++ (line ++ (10 ∷ []))) h.3 ∙ append_assoc h.0 (10 ∷ h.1) (line ++ (10 ∷ [])),
  texts_push entries e h.1 line h.4 says,
)

-- one entry more has been read
pub begins_more : (text : List ℕ) (entries : List Entry) (rest : List ℕ) (e : Entry) (more : List ℕ) → Begins text entries rest → Continues entries rest e more → Begins text (entries ++ e ∷ []) more
begins_more text entries rest e more b h = record {
  front = b.front ++ (h.line ++ (10 ∷ []));
  script = record { lawful = h.lawful; lines = texts_push entries e b.front h.line b.script.lines h.says };
  text_is = b.text_is ∙ ap (λ (x : List ℕ). b.front ++ x) (h.text_is ∙ sym (append_assoc h.line (10 ∷ []) more)) ∙ sym (append_assoc b.front (h.line ++ (10 ∷ [])) more);
}

-- the rest grows shorter with each line
pub shorter : (entries : List Entry) (rest : List ℕ) (e : Entry) (more : List ℕ) → Continues entries rest e more → length more < length rest
shorter entries rest e more h = omega (arith, ap length h.text_is, length-append h.line (10 ∷ more))

-- all has been read
pub begins_all : (text : List ℕ) (entries : List Entry) (rest : List ℕ) → Begins text entries rest → length rest ≡ 0 → IsScript entries text
begins_all text entries [] b e = subst (λ (x : List ℕ). IsScript entries x) (sym (b.text_is ∙ append-nil b.front)) b.script
begins_all text entries (c ∷ rest) b e = absurd (omega (arith, e))

-- no entry that may follow comes next
pub refused_at : (text : List ℕ) (entries : List Entry) (rest : List ℕ) → Begins text entries rest → 0 < length rest → NoneContinues entries rest → IsRefusedAt text (length entries + 1)
refused_at text entries rest b some none = record { before = entries; rest = rest; begins = b; some = some; none = none; counted = refl }
