-- The lines of a table of company prefixes.
use Rattle.std.proofs.Common.{◌≡◌, ◌∙◌, ℕ, ◌<◌, List, [], ◌∷◌, ◌++◌, refl, sym, subst, arith, decimal}
use Rattle.std.proofs.lemmas.Bool.{ne_eqb}
use Rattle.tag_uri.specs.Calls.Decimal.{AreDigits}
use Rattle.llrp_listing.specs.Calls.Splits.{Lacks, IsSplit}
use Rattle.llrp_listing.proofs.SplitWords.{decimal_lacks, lacks_append, lacks_not, one_split}
use Rattle.llrp_keys.specs.PrefixLines.{Continues, IsPrefixLine}

-- no digit is below 0
digits_lack : (byte : ℕ) (w : List ℕ) → byte < 48 → AreDigits w → Lacks byte w
digits_lack byte [] low h = tt
digits_lack byte (c ∷ w) low h = (ne_eqb c byte (λ e. let t = h.0.0 in omega (arith, t, e)), digits_lack byte w low h.1)

-- a line has no line feed
pub line_lacks : (line start : List ℕ) (count : ℕ) → IsPrefixLine line start count → Lacks 10 line
line_lacks line start count h =
    let few = h.most in
    subst (λ (x : List ℕ). Lacks 10 x) (sym h.is) (lacks_append 10 start (32 ∷ decimal count) (digits_lack 10 start (omega arith) h.number.digits) (refl, decimal_lacks 10 count (omega arith) (omega (arith, few))))

-- a line has a blank
pub no_blank : (line start : List ℕ) (count : ℕ) → Lacks 32 line → IsPrefixLine line start count → ⊥
no_blank line start count none h = lacks_not 32 line start (decimal count) none h.is

-- the parts before and after the first blank are the start and the length
pub parts : (line a b start : List ℕ) (count : ℕ) → IsSplit 32 line a b → IsPrefixLine line start count → (a ≡ start) × (b ≡ decimal count)
parts line a b start count p h = one_split 32 a start b (decimal count) p.0 (digits_lack 32 start (omega arith) h.number.digits) (sym p.1 ∙ h.is)

-- a text without a line feed has no line
pub no_line : (text start : List ℕ) (count : ℕ) (rest : List ℕ) → Lacks 10 text → Continues text start count rest → ⊥
no_line text start count rest none h = lacks_not 10 text h.line rest none h.text_is

-- the first line is what comes before the first line feed
pub first_line : (text line after start : List ℕ) (count : ℕ) (rest : List ℕ) → IsSplit 10 text line after → Continues text start count rest → IsPrefixLine line start count
first_line text line after start count rest p h =
    let same = one_split 10 h.line line rest after (line_lacks h.line start count h.says) p.0 (sym h.text_is ∙ p.1) in
    subst (λ (x : List ℕ). IsPrefixLine x start count) same.0 h.says
