-- The text of the lines of what is refused.
use Rattle.std.proofs.Common.{◌≡◌, ℕ, ◌+◌, List, [], ◌∷◌, ◌++◌, take, Bool, false, nat_eq, refl, sym, ap, subst, ◌∙◌, arith, append_assoc}
use Rattle.std.specs.Prelude.{Result, Ok, Err, OnOk, codes}
use Rattle.std.proofs.lemmas.List.{append-nil}
use Rattle.llrp_tree.specs.FirstFault.{number}
use Rattle.llrp_explain.specs.Calls.ExplainLines.{line}
use Rattle.llrp_explain.specs.Calls.ExplainText.{line_text, lines_text}
use Rattle.llrp_explain.specs.Calls.FaultLines.{NamedBits, named, taken_lines, tv_fields}
use Rattle.llrp_explain.specs.Private.RefusedHeads.{header_head, tlv_head}

pub tv_text : (bit level : ℕ) (rest : List Bool) (before first all : List ℕ) → first ≡ before ++ line_text bit (line level (codes "type and value") 1 (number rest 0 1)) → all ≡ first ++ line_text (bit + 1) (line level (codes "ParameterType") 7 (number rest 1 7))
    → all ≡ before ++ lines_text bit (taken_lines level tv_fields 0 rest)
unfolding lines_text taken_lines
tv_text bit level rest before first all a b =
    let one : List ℕ = line_text bit (line level (codes "type and value") 1 (number rest 0 1)) in
    let two : List ℕ = line_text (bit + 1) (line level (codes "ParameterType") 7 (number rest 1 7)) in
    b ∙ ap (λ (x : List ℕ). x ++ two) a ∙ append_assoc before one two ∙ ap (λ (x : List ℕ). before ++ (one ++ x)) (sym (append-nil two))

-- ---- fields one after another

pub stop_text : (bit level place : ℕ) (rest : List Bool) (before : List ℕ) → before ≡ before ++ lines_text bit (taken_lines level [] place rest)
unfolding lines_text taken_lines
stop_text bit level place rest before = sym (append-nil before)

pub step_text : (bit level place : ℕ) (f : NamedBits) (fields : List NamedBits) (rest : List Bool) (before first all : List ℕ) → nat_eq f.bits 0 ≡ false → first ≡ before ++ line_text bit (line level f.name f.bits (number rest place f.bits))
    → all ≡ first ++ lines_text (bit + f.bits) (taken_lines level fields (place + f.bits) rest) → all ≡ before ++ lines_text bit (taken_lines level (f ∷ fields) place rest)
unfolding lines_text taken_lines
step_text bit level place f fields rest before first all some a b =
    let one : List ℕ = line_text bit (line level f.name f.bits (number rest place f.bits)) in
    let others : List ℕ = lines_text (bit + f.bits) (taken_lines level fields (place + f.bits) rest) in
    rw some (b ∙ ap (λ (x : List ℕ). x ++ others) a ∙ append_assoc before one others)

module _ (bit level : ℕ) (rest : List Bool) (t0 : List ℕ) where
  -- the first fields of a head with a length
  pub tlv_none : (fields : ℕ) → fields ≡ 0 → t0 ≡ t0 ++ lines_text bit (taken_lines level (take fields tlv_head) 0 rest)
  tlv_none fields e = subst (λ (n : ℕ). t0 ≡ t0 ++ lines_text bit (taken_lines level (take n tlv_head) 0 rest)) (sym e) (stop_text bit level 0 rest t0)

  module _ (t1 : List ℕ) (a : t1 ≡ t0 ++ line_text bit (line level (codes "reserved") 6 (number rest 0 6))) where
    pub tlv_one : (fields : ℕ) → fields ≡ 1 → t1 ≡ t0 ++ lines_text bit (taken_lines level (take fields tlv_head) 0 rest)
    tlv_one fields e = subst (λ (n : ℕ). t1 ≡ t0 ++ lines_text bit (taken_lines level (take n tlv_head) 0 rest)) (sym e) (step_text bit level 0 (named (codes "reserved") 6) [] rest t0 t1 t1 refl a (stop_text (bit + 6) level 6 rest t1))

    module _ (t2 : List ℕ) (b : t2 ≡ t1 ++ line_text (bit + 6) (line level (codes "ParameterType") 10 (number rest 6 10))) where
      pub tlv_two : (fields : ℕ) → fields ≡ 2 → t2 ≡ t0 ++ lines_text bit (taken_lines level (take fields tlv_head) 0 rest)
      tlv_two fields e =
          subst (λ (n : ℕ). t2 ≡ t0 ++ lines_text bit (taken_lines level (take n tlv_head) 0 rest)) (sym e)
          (step_text bit level 0 (named (codes "reserved") 6) (named (codes "ParameterType") 10 ∷ []) rest t0 t1 t2 refl a
          (step_text (bit + 6) level 6 (named (codes "ParameterType") 10) [] rest t1 t2 t2 refl b (stop_text (bit + 6 + 10) level 16 rest t2)))

      pub tlv_three : (t3 : List ℕ) → t3 ≡ t2 ++ line_text (bit + 16) (line level (codes "ParameterLength") 16 (number rest 16 16)) → (fields : ℕ) → fields ≡ 3 → t3 ≡ t0 ++ lines_text bit (taken_lines level (take fields tlv_head) 0 rest)
      tlv_three t3 c fields e =
          let place : bit + 16 ≡ bit + 6 + 10 = omega arith in
          let d : t3 ≡ t2 ++ line_text (bit + 6 + 10) (line level (codes "ParameterLength") 16 (number rest 16 16)) = subst (λ (n : ℕ). t3 ≡ t2 ++ line_text n (line level (codes "ParameterLength") 16 (number rest 16 16))) place c in
          subst (λ (n : ℕ). t3 ≡ t0 ++ lines_text bit (taken_lines level (take n tlv_head) 0 rest)) (sym e)
          (step_text bit level 0 (named (codes "reserved") 6) (named (codes "ParameterType") 10 ∷ named (codes "ParameterLength") 16 ∷ []) rest t0 t1 t3 refl a
          (step_text (bit + 6) level 6 (named (codes "ParameterType") 10) (named (codes "ParameterLength") 16 ∷ []) rest t1 t2 t3 refl b
          (step_text (bit + 6 + 10) level 16 (named (codes "ParameterLength") 16) [] rest t2 t3 t3 refl d (stop_text (bit + 6 + 10 + 16) level 32 rest t3))))

-- the first fields of a header
module _ (rest : List Bool) (t0 : List ℕ) where
  pub header_none : (fields : ℕ) → fields ≡ 0 → t0 ≡ t0 ++ lines_text 0 (taken_lines 0 (take fields header_head) 0 rest)
  header_none fields e = subst (λ (n : ℕ). t0 ≡ t0 ++ lines_text 0 (taken_lines 0 (take n header_head) 0 rest)) (sym e) (stop_text 0 0 0 rest t0)

  module _ (t1 : List ℕ) (a : t1 ≡ t0 ++ line_text 0 (line 0 (codes "reserved") 3 (number rest 0 3))) where
    pub header_one : (fields : ℕ) → fields ≡ 1 → t1 ≡ t0 ++ lines_text 0 (taken_lines 0 (take fields header_head) 0 rest)
    header_one fields e = subst (λ (n : ℕ). t1 ≡ t0 ++ lines_text 0 (taken_lines 0 (take n header_head) 0 rest)) (sym e) (step_text 0 0 0 (named (codes "reserved") 3) [] rest t0 t1 t1 refl a (stop_text 3 0 3 rest t1))

    module _ (t2 : List ℕ) (b : t2 ≡ t1 ++ line_text 3 (line 0 (codes "Version") 3 (number rest 3 3))) where
      pub header_two : (fields : ℕ) → fields ≡ 2 → t2 ≡ t0 ++ lines_text 0 (taken_lines 0 (take fields header_head) 0 rest)
      header_two fields e =
          subst (λ (n : ℕ). t2 ≡ t0 ++ lines_text 0 (taken_lines 0 (take n header_head) 0 rest)) (sym e)
          (step_text 0 0 0 (named (codes "reserved") 3) (named (codes "Version") 3 ∷ []) rest t0 t1 t2 refl a
          (step_text 3 0 3 (named (codes "Version") 3) [] rest t1 t2 t2 refl b (stop_text 6 0 6 rest t2)))

      module _ (t3 : List ℕ) (c : t3 ≡ t2 ++ line_text 6 (line 0 (codes "MessageType") 10 (number rest 6 10))) where
        pub header_three : (fields : ℕ) → fields ≡ 3 → t3 ≡ t0 ++ lines_text 0 (taken_lines 0 (take fields header_head) 0 rest)
        header_three fields e =
            subst (λ (n : ℕ). t3 ≡ t0 ++ lines_text 0 (taken_lines 0 (take n header_head) 0 rest)) (sym e)
            (step_text 0 0 0 (named (codes "reserved") 3) (named (codes "Version") 3 ∷ named (codes "MessageType") 10 ∷ []) rest t0 t1 t3 refl a
            (step_text 3 0 3 (named (codes "Version") 3) (named (codes "MessageType") 10 ∷ []) rest t1 t2 t3 refl b
            (step_text 6 0 6 (named (codes "MessageType") 10) [] rest t2 t3 t3 refl c (stop_text 16 0 16 rest t3))))

        pub header_four : (t4 : List ℕ) → t4 ≡ t3 ++ line_text 16 (line 0 (codes "MessageLength") 32 (number rest 16 32)) → (fields : ℕ) → fields ≡ 4 → t4 ≡ t0 ++ lines_text 0 (taken_lines 0 (take fields header_head) 0 rest)
        header_four t4 d fields e =
            subst (λ (n : ℕ). t4 ≡ t0 ++ lines_text 0 (taken_lines 0 (take n header_head) 0 rest)) (sym e)
            (step_text 0 0 0 (named (codes "reserved") 3) (named (codes "Version") 3 ∷ named (codes "MessageType") 10 ∷ named (codes "MessageLength") 32 ∷ []) rest t0 t1 t4 refl a
            (step_text 3 0 3 (named (codes "Version") 3) (named (codes "MessageType") 10 ∷ named (codes "MessageLength") 32 ∷ []) rest t1 t2 t4 refl b
            (step_text 6 0 6 (named (codes "MessageType") 10) (named (codes "MessageLength") 32 ∷ []) rest t2 t3 t4 refl c
            (step_text 16 0 16 (named (codes "MessageLength") 32) [] rest t3 t4 t4 refl d (stop_text 48 0 48 rest t4)))))

-- what follows from what holds of a result that is Ok
pub on_ok : {T E : Type 0} (r : Result T E) (P Q : Type 0) → OnOk r P → (P → Q) → OnOk r Q
on_ok (Ok x) P Q p f = f p
on_ok (Err e) P Q p f = p
