use Rattle.std.proofs.Common.{◌≡◌, ℕ, ◌+◌, ◌-◌, ◌%◌, ◌^◌, ◌<◌, ◌≤◌, Bool, List, ◌++◌, length, Option, Some, None, sym, ap, ◌∙◌, arith}
use Rattle.std.specs.Prelude.{IfSome}
use Rattle.tag_bits.specs.Digits.{digits_of_bytes}
use Rattle.llrp_schema.specs.declared.kinds.ParamKind.{ParamKind}
use Rattle.llrp_schema.specs.declared.kinds.KindSet.{KindSet}
use Rattle.llrp_schema.specs.Schema.{tv_in}
use Rattle.llrp_schema.proofs.TableLaws.{tv_found_in}
use Rattle.llrp_tree.specs.FirstFault.{number}
use Rattle.llrp_tree.proofs.ChildLemmas.{digit_is_one}
use Rattle.llrp_tree.proofs.SpellingLemmas.{tv_number}
use Rattle.llrp_stream.specs.Private.Reading.{BeginsValue}
use Rattle.llrp_stream.proofs.HeadLemmas.{short_digit, short_type}
use Rattle.llrp_stream.proofs.engine.tv_values.kind_of_value.Goals as goal

-- no type is above 127
high : (set : KindSet) (first : ℕ) (k : ParamKind) → first < 256 → tv_in set ((first + (2 ^ 8 - 128)) % 2 ^ 8) ≡ Some k → 128 ≤ first
high set first k small e = let f = (tv_found_in set _ k e) in let b = tv_number k f.0 in omega (arith, small, f.1, b)

-- what the table says of an octet's type is so of the digits
begins : (set : KindSet) (octets : List ℕ) (first : ℕ) (found : Option ParamKind) → 1 ≤ length octets → first < 256 → ((later : List Bool) → first ≡ number (digits_of_bytes octets ++ later) 0 8) → found ≡ tv_in set ((first + (2 ^ 8 - 128)) % 2 ^ 8) → IfSome found (BeginsValue set octets)
begins set octets first None one small is e = tt
begins set octets first (Some k) one small is e =
    let le = high set first k small (sym e) in
    let same : (first + (2 ^ 8 - 128)) % 2 ^ 8 ≡ first - 128 = omega (arith, le, small) in
    record {
      some = one;
      short = (tv_found_in set _ k (sym e)).0;
      digit = λ later. digit_is_one (digits_of_bytes octets ++ later) (λ z. (let o = short_digit octets later one first (is later) le in omega arith));
      found = λ later. sym (e ∙ ap (tv_in set) (same ∙ short_type octets later one first (is later) le));
    }

pub returns : goal.returns
returns c = begins c.args.set c.args.octets.now c.octet.result c.param_of_tv_in.result (omega (arith, c.requires, c.if-left-eq0.false)) (omega arith) c.octet.ensures c.param_of_tv_in.ensures
