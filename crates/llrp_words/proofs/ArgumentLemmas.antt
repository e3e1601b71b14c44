-- What the arguments of a parse are read as.
use Rattle.std.proofs.Common.{◌≡◌, ◌∙◌, ℕ, ◌==◌, ◌<◌, ◌≤◌, ◌^◌, inl, inr, Bool, true, false, cond, List, [], ◌∷◌, Option, Some, None, refl, sym, ap, subst, arith, codes}
use Rattle.std.specs.Prelude.{Result, Ok, option_map, unwrap_or, pos, ◌≤ℤ◌, neg_ℤ}
use Rattle.std.specs.Str.{bytes_eq}
use Rattle.std.specs.Str.Parse.{IsNumeral, ParsesUnsigned, digits_value, signed_digits_value, without_leading_plus}
use Rattle.std.proofs.lemmas.Int.{ints}
use Rattle.std.proofs.lemmas.Slice.Eq.{bytes_eq-Decides}
use Rattle.std.proofs.lemmas.Str.Parse.{digit_from_value, without_leading_plus_none}
use Rattle.clap.specs.Matches.{ReadsOne}
use Rattle.clap.specs.Values.{IsSignedIn}
use Rattle.clap.specs.Words.{Row, Text, without_minus}
use Rattle.clap.proofs.CallerReads.{signed_reads}
use Rattle.llrp_words.specs.declared.arguments.TheConstants.{MOST_OCTETS}
use Rattle.llrp_words.specs.Private.Parse.{HasEncode, HasEpc, HasExplain, HasFields, HasInventory, HasNumberIn, HasPlan, HasShow, HasStreamWords, IsFound, IsNetworkParse, IsParse, MayHaveNumberIn, When}
use Rattle.llrp_words.specs.Calls.Arguments.{IsFlag, HasNumber, HasOptionalNumber, flag_in, hex_in, json_in, name_in, all_in}
use Rattle.llrp_words.specs.Calls.Requests.{HasFlag}

-- two texts that a test distinguishes
pub differs : (a b : Text) → bytes_eq a b ≡ false → a ≡ b → ⊥
differs a b e same =
    let bad : true ≡ false = sym ((bytes_eq-Decides a b).1 same) ∙ e in
    cc

no_plus : (ds : List ℕ) → IsNumeral 10 ds → without_leading_plus ds ≡ ds
no_plus [] h = refl
no_plus (d ∷ ds) h = without_leading_plus_none (d ∷ ds) (λ (e : d ≡ 43). omega (arith, digit_from_value d h.1.0))

-- a word of a number that is not negative spells what its digits are worth
spelled : (low high : ℕ) (t : List ℕ) → IsSignedIn (pos low) (pos high) t → signed_digits_value 10 t ≡ pos (digits_value 10 (without_leading_plus (without_minus t)))
spelled low high [] h = refl
spelled low high (x ∷ xs) h = go (x == 45) h.0 h.2
  where
    go : (b : Bool) → IsNumeral 10 (cond b xs (without_leading_plus (x ∷ xs))) → pos low ≤ℤ cond b (neg_ℤ (pos (digits_value 10 (cond b xs (without_leading_plus (x ∷ xs)))))) (pos (digits_value 10 (cond b xs (without_leading_plus (x ∷ xs)))))
        → cond b (neg_ℤ (pos (digits_value 10 (cond b xs (without_leading_plus (x ∷ xs)))))) (pos (digits_value 10 (cond b xs (without_leading_plus (x ∷ xs)))))
        ≡ pos (digits_value 10 (without_leading_plus (unwrap_or (cond b (Some xs) None) (x ∷ xs))))
    go true f least =
        let none : digits_value 10 xs ≡ 0 = omega (arith, ints) in
        rw (no_plus xs f, none) refl
    go false f least = refl

-- an argument that the parse made sure of reads as the number that its word spells
pub reads_number : (E : Type 0) (G : List ℕ → Result ℕ E → Type 0) (k low high : ℕ) (t : List ℕ) (r : Option ℕ) → ReadsOne G (without_minus t) r → ((u : List ℕ) (x : Result ℕ E) → G u x → ParsesUnsigned k 10 u x)
    → high < 2 ^ k → IsSignedIn (pos low) (pos high) t → (n : ℕ) × (r ≡ Some n) × (signed_digits_value 10 t ≡ pos n) × (low ≤ n) × (n ≤ high)
reads_number E G k low high t r read only fits passed =
    let got = signed_reads E G k low high t r read only fits passed in
    let here : G (without_minus t) (Ok got.0) = subst (λ (o : Option ℕ). ReadsOne G (without_minus t) o) got.1 read in
    (got.0, got.1, spelled low high t passed ∙ ap pos (sym (only (without_minus t) (Ok got.0) here).1), got.2, got.3)

-- the number that the word of an argument spells
number_of_word : (low high : ℕ) (id name : Text) (rows : List Row) → HasNumberIn low high id rows → (n : ℕ) × HasNumber id (Some (name, rows)) n
number_of_word low high id name rows h = (digits_value 10 (without_leading_plus (without_minus h.word)), ap (option_map (signed_digits_value 10)) h.given ∙ ap (λ z. Some z) (spelled low high h.word h.spells))

-- a command has what one of its name needs
pub named_parse : (name wanted : Text) (rows : List Row) → IsParse name rows → name ≡ wanted → IsParse wanted rows
named_parse name wanted rows h e = subst (λ (n : Text). IsParse n rows) e h

pub named_network : (name wanted : Text) (rows : List Row) → IsNetworkParse name rows → name ≡ wanted → IsNetworkParse wanted rows
named_network name wanted rows h e = subst (λ (n : Text). IsNetworkParse n rows) e h

-- what holds of a command of another name
pub others : (name other : Text) (A B : Type 0) → (name ≡ other → ⊥) → When (bytes_eq name other) A B → B
others name other A B differ h = go (bytes_eq name other) refl h
  where
    go : (b : Bool) → bytes_eq name other ≡ b → When b A B → B
    go true e w = absurd (differ ((bytes_eq-Decides name other).0 e))
    go false e w = w

-- what is none of show, encode, epc, fields and explain is a command that the program runs itself
pub network_there : (name : Text) (rows : List Row) → IsParse name rows → (name ≡ codes "show" → ⊥) → (name ≡ codes "encode" → ⊥) → (name ≡ codes "epc" → ⊥) → (name ≡ codes "fields" → ⊥) → (name ≡ codes "explain" → ⊥) → IsNetworkParse name rows
network_there name rows h no_show no_encode no_epc no_fields no_explain =
    others name (codes "explain") _ _ no_explain (others name (codes "fields") _ _ no_fields (others name (codes "encode") _ _ no_encode (others name (codes "show") _ _ no_show (others name (codes "epc") _ _ no_epc h))))

-- what is none of sim, watch, stop, ask and access is loop or inventory
abbrev IsPlanned : Text → List Row → Type 0
IsPlanned name rows = When (bytes_eq name (codes "loop")) (HasPlan rows) (When (bytes_eq name (codes "inventory")) (HasInventory rows) ⊥)

planned : (name : Text) (rows : List Row) → IsNetworkParse name rows → (name ≡ codes "sim" → ⊥) → (name ≡ codes "watch" → ⊥) → (name ≡ codes "stop" → ⊥) → (name ≡ codes "ask" → ⊥) → (name ≡ codes "access" → ⊥) → IsPlanned name rows
planned name rows h no_sim no_watch no_stop no_ask no_access =
    others name (codes "access") _ _ no_access (others name (codes "ask") _ _ no_ask (others name (codes "stop") _ _ no_stop (others name (codes "watch") _ _ no_watch (others name (codes "sim") _ _ no_sim h))))

-- it has a plan
pub plan_there : (name : Text) (rows : List Row) → IsNetworkParse name rows → (name ≡ codes "sim" → ⊥) → (name ≡ codes "watch" → ⊥) → (name ≡ codes "stop" → ⊥) → (name ≡ codes "ask" → ⊥) → (name ≡ codes "access" → ⊥) → HasPlan rows
plan_there name rows h no_sim no_watch no_stop no_ask no_access = go (bytes_eq name (codes "loop")) (bytes_eq name (codes "inventory")) (planned name rows h no_sim no_watch no_stop no_ask no_access)
  where
    go : (loop inventory : Bool) → When loop (HasPlan rows) (When inventory (HasInventory rows) ⊥) → HasPlan rows
    go true inventory w = w
    go false true w = w.2
    go false false w = absurd w

-- and if it is not loop, it is inventory
pub inventory_there : (name : Text) (rows : List Row) → IsNetworkParse name rows → (name ≡ codes "sim" → ⊥) → (name ≡ codes "watch" → ⊥) → (name ≡ codes "stop" → ⊥) → (name ≡ codes "ask" → ⊥) → (name ≡ codes "access" → ⊥) → (name ≡ codes "loop" → ⊥)
    → (name ≡ codes "inventory") × HasInventory rows
inventory_there name rows h no_sim no_watch no_stop no_ask no_access no_loop = go (bytes_eq name (codes "inventory")) refl (others name (codes "loop") _ _ no_loop (planned name rows h no_sim no_watch no_stop no_ask no_access))
  where
    go : (b : Bool) → bytes_eq name (codes "inventory") ≡ b → When b (HasInventory rows) ⊥ → (name ≡ codes "inventory") × HasInventory rows
    go true e w = ((bytes_eq-Decides name (codes "inventory")).0 e, w)
    go false e w = absurd w

-- what was found, by its name and its rows
pub found_as : (name : Text) (rows : List Row) (found : Option (Text × List Row)) → Some name ≡ option_map (λ p. p.0) found → Some rows ≡ option_map (λ p. p.1) found → found ≡ Some (name, rows)
found_as name rows None e f = cc
found_as name rows (Some p) e f =
    let a : name ≡ p.0 = cc in
    let b : rows ≡ p.1 = cc in
    ap (λ (n : Text). Some (n, p.1)) (sym a) ∙ ap (λ (rs : List Row). Some (name, rs)) (sym b)

-- an option that may be given has a number or none
optional_of : (low high : ℕ) (id name : Text) (rows : List Row) → MayHaveNumberIn low high id rows → (n : Option ℕ) × HasOptionalNumber id (Some (name, rows)) n
optional_of low high id name rows (inl none) = (None, none.1)
optional_of low high id name rows (inr h) = let x = number_of_word low high id name rows h in (Some x.0, x.1)

-- where epc was found its flags and its numbers are there
pub found_epc : (found : Option (Text × List Row)) → IsFound found → name_in found ≡ Some (codes "epc")
    → ((forms : Bool) × IsFlag (flag_in (codes "forms") found) forms) × ((list : Bool) × IsFlag (flag_in (codes "list") found) list) × ((json : Bool) × IsFlag (json_in found) json)
    × ((count : Option ℕ) × HasOptionalNumber (codes "prefix-digits") found count) × ((filter : Option ℕ) × HasOptionalNumber (codes "filter") found filter)
found_epc None h e = absurd h
found_epc (Some p) h e =
    let same : p.0 ≡ codes "epc" = cc in
    let has : HasEpc p.1 = named_parse p.0 (codes "epc") p.1 h same in
    (has.0, has.1, has.2, optional_of 6 12 (codes "prefix-digits") p.0 p.1 has.3, optional_of 0 7 (codes "filter") p.0 p.1 has.4)

-- where fields was found its flag is there
pub found_fields : (found : Option (Text × List Row)) → IsFound found → name_in found ≡ Some (codes "fields") → (all : Bool) × IsFlag (all_in found) all
found_fields None h e = absurd h
found_fields (Some p) h e =
    let same : p.0 ≡ codes "fields" = cc in
    let has : HasFields p.1 = named_parse p.0 (codes "fields") p.1 h same in
    has

-- where explain was found its flags and its limit are there, and its id may be
pub found_explain : (found : Option (Text × List Row)) → IsFound found → name_in found ≡ Some (codes "explain")
    → ((hex : Bool) × IsFlag (hex_in found) hex) × ((all : Bool) × IsFlag (all_in found) all) × ((json : Bool) × IsFlag (json_in found) json) × ((limit : ℕ) × HasNumber (codes "limit") found limit) × ((only : Option ℕ) × HasOptionalNumber (codes "only") found only)
found_explain None h e = absurd h
found_explain (Some p) h e =
    let same : p.0 ≡ codes "explain" = cc in
    let has : HasExplain p.1 = named_parse p.0 (codes "explain") p.1 h same in
    let words : HasStreamWords p.1 = has.0 in
    (words.0, words.1, words.3, number_of_word 10 MOST_OCTETS (codes "limit") p.0 p.1 words.2, optional_of 0 4294967295 (codes "only") p.0 p.1 has.1)

-- where show was found its flags and its limit are there
pub found_show : (found : Option (Text × List Row)) → IsFound found → name_in found ≡ Some (codes "show")
    → ((hex : Bool) × IsFlag (hex_in found) hex) × ((all : Bool) × IsFlag (all_in found) all) × ((json : Bool) × IsFlag (json_in found) json) × ((limit : ℕ) × HasNumber (codes "limit") found limit)
    × ((keys : Bool) × IsFlag (flag_in (codes "keys") found) keys) × ((segments : Bool) × IsFlag (flag_in (codes "segments") found) segments)
found_show None h e = absurd h
found_show (Some p) h e =
    let same : p.0 ≡ codes "show" = cc in
    let has : HasShow p.1 = named_parse p.0 (codes "show") p.1 h same in
    let words : HasStreamWords p.1 = has.0 in
    (words.0, words.1, words.3, number_of_word 10 MOST_OCTETS (codes "limit") p.0 p.1 words.2, has.1, has.2)

-- the same of encode
pub found_encode : (found : Option (Text × List Row)) → IsFound found → name_in found ≡ Some (codes "encode")
    → ((hex : Bool) × IsFlag (hex_in found) hex) × ((all : Bool) × IsFlag (all_in found) all) × ((json : Bool) × IsFlag (json_in found) json) × ((limit : ℕ) × HasNumber (codes "limit") found limit)
    × ((keys : Bool) × IsFlag (flag_in (codes "keys") found) keys)
found_encode None h e = absurd h
found_encode (Some p) h e =
    let same : p.0 ≡ codes "encode" = cc in
    let has : HasEncode p.1 = named_parse p.0 (codes "encode") p.1 h same in
    let words : HasStreamWords p.1 = has.0 in
    (words.0, words.1, words.3, number_of_word 10 MOST_OCTETS (codes "limit") p.0 p.1 words.2, has.1)

-- a flag that reads what it says is what it says
pub reads_flag : (found : Option Text) (flag : Bool) → HasFlag found flag → (given : Bool) × IsFlag found given → IsFlag found flag
reads_flag found flag reads (given, is) = subst (IsFlag found) (sym (reads given is)) is
