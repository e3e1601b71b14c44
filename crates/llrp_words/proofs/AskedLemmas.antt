-- What requests ask for is what the words ask for.
use Rattle.std.proofs.Common.{◌≡◌, ◌∙◌, ℕ, Bool, true, false, List, Option, Some, None, refl, sym, ap, codes, inl, inr, if◌then◌else◌}
use Rattle.std.specs.Prelude.{nat_abs, option_map, unwrap_or, ℤ}
use Rattle.std.specs.Str.{bytes_eq}
use Rattle.std.specs.Str.Parse.{signed_digits_value}
use Rattle.std.proofs.lemmas.Slice.Eq.{bytes_eq-Decides}
use Rattle.clap.specs.Matches.{one_text}
use Rattle.clap.specs.Walk.{one_of}
use Rattle.clap.specs.Words.{Row, Text, rows_of}
use Rattle.clap.specs.declared.parser.matches.Found.{Found}
use Rattle.clap.proofs.WalkLemmas.{one_text-rows}
use Rattle.llrp_words.specs.declared.arguments.NetworkCommand.{NetworkCommand}
use Rattle.llrp_words.specs.declared.arguments.NetworkCommand.TheVariants as network
use Rattle.llrp_words.specs.declared.arguments.Request.{Request}
use Rattle.llrp_words.specs.declared.arguments.Request.TheVariants as request
use Rattle.llrp_words.specs.Calls.Arguments.{HasNumber, HasOptionalNumber, IsFlag, IsNetwork, all_in, command_in, flag_in, hex_in, json_in, name_in, parses}
use Rattle.llrp_words.specs.Calls.Asked.{show, encode, epc, fields, explain, elsewhere, nothing, asked, asked_by, is_given, limit_in, number_in, Encode, Epc, Explain, Fields, Show}
use Rattle.llrp_words.specs.Calls.Requests.{IsRequest}
use Rattle.llrp_words.specs.Calls.Said.{said}
use Rattle.llrp_words.specs.Private.Parse.{HasFlagWord, IsFound}
use Rattle.llrp_words.proofs.ArgumentLemmas.{found_explain, found_fields, reads_flag}

-- ---- what arguments say

pub given_flag : (found : Option Text) (flag : Bool) → IsFlag found flag → is_given found ≡ flag
given_flag None true p = cc
given_flag None false p = refl
given_flag (Some word) true p =
    let same : word ≡ codes "true" = cc in
    (bytes_eq-Decides word (codes "true")).1 same
given_flag (Some word) false (inl p) =
    let same : word ≡ codes "false" = cc in
    ap (λ (x : Text). bytes_eq x (codes "true")) same
given_flag (Some word) false (inr p) = cc

-- a flag that is read by what its word may be
pub flag_is : (f : Found) (id : Text) (flag : Bool) → (one_text f id ≡ None → flag ≡ false) → (one_text f id ≡ Some (codes "true") → flag ≡ true) → (one_text f id ≡ Some (codes "false") → flag ≡ false) → HasFlagWord id (rows_of f)
    → flag ≡ is_given (one_of id (rows_of f))
flag_is f id flag none value other (true, is) = value (one_text-rows f id ∙ is) ∙ sym (given_flag (one_of id (rows_of f)) true is)
flag_is f id flag none value other (false, inl is) = other (one_text-rows f id ∙ is) ∙ sym (given_flag (one_of id (rows_of f)) false (inl is))
flag_is f id flag none value other (false, inr is) = none (one_text-rows f id ∙ is) ∙ sym (given_flag (one_of id (rows_of f)) false (inr is))

pub number_is : (id : Text) (found : Option (Text × List Row)) (n : Option ℕ) → HasOptionalNumber id found n → n ≡ number_in id found
number_is id found (Some n) p = sym (ap (option_map nat_abs) p)
number_is id found None p = sym (ap (λ (w : Option Text). option_map nat_abs (option_map (signed_digits_value 10) w)) p)

pub limit_is : (found : Option (Text × List Row)) (n : ℕ) → HasNumber (codes "limit") found n → n ≡ limit_in found
limit_is found n p = sym (ap (λ (z : Option ℤ). unwrap_or (option_map nat_abs z) 65536) p)

-- ---- records with the same members

pub same_show : (a b : Show) → a.hex ≡ b.hex → a.all ≡ b.all → a.json ≡ b.json → a.limit ≡ b.limit → a.names ≡ b.names → a.keys ≡ b.keys → a.schemes ≡ b.schemes → a.segments ≡ b.segments → a.port ≡ b.port → a ≡ b
same_show a b hex all json limit names keys schemes segments port = λ i. record { hex = hex i; all = all i; json = json i; limit = limit i; names = names i; keys = keys i; schemes = schemes i; segments = segments i; port = port i }

pub same_encode : (a b : Encode) → a.hex ≡ b.hex → a.all ≡ b.all → a.json ≡ b.json → a.limit ≡ b.limit → a.keys ≡ b.keys → a.schemes ≡ b.schemes → a ≡ b
same_encode a b hex all json limit keys schemes = λ i. record { hex = hex i; all = all i; json = json i; limit = limit i; keys = keys i; schemes = schemes i }

pub same_epc : (a b : Epc) → a.text ≡ b.text → a.forms ≡ b.forms → a.list ≡ b.list → a.json ≡ b.json → a.to ≡ b.to → a.schemes ≡ b.schemes → a.count ≡ b.count → a.filter ≡ b.filter → a.file ≡ b.file → a ≡ b
same_epc a b text forms list json to schemes count filter file = λ i. record { text = text i; forms = forms i; list = list i; json = json i; to = to i; schemes = schemes i; count = count i; filter = filter i; file = file i }

pub same_fields : (a b : Fields) → a.all ≡ b.all → a.name ≡ b.name → a ≡ b
same_fields a b all name = λ i. record { all = all i; name = name i }

pub same_explain : (a b : Explain) → a.hex ≡ b.hex → a.all ≡ b.all → a.json ≡ b.json → a.limit ≡ b.limit → a.only ≡ b.only → a ≡ b
same_explain a b hex all json limit only = λ i. record { hex = hex i; all = all i; json = json i; limit = limit i; only = only i }

-- ---- what the words ask for

-- words that are parsed ask for the command that they name
pub named_asked : (words : List Text) (name : Text) → parses words ≡ true → name_in (command_in words) ≡ Some name → asked words ≡ asked_by (Some name) (command_in words)
unfolding asked
named_asked words name parsed named = ap (λ (b : Bool). if b then asked_by (name_in (command_in words)) (command_in words) else nothing) parsed ∙ ap (λ (n : Option Text). asked_by n (command_in words)) named

-- other words ask for nothing
pub nothing_asked : (words : List Text) → (parses words ≡ true → ⊥) → nothing ≡ asked words
unfolding asked
nothing_asked words refused = go (parses words) refl
  where
    go : (b : Bool) → parses words ≡ b → nothing ≡ (if b then asked_by (name_in (command_in words)) (command_in words) else nothing)
    go true is = absurd (refused is)
    go false is = refl

network_asked : (words : List Text) (command : NetworkCommand) → parses words ≡ true → IsNetwork (command_in words) command → elsewhere ≡ asked words
network_asked words (network.Sim w) parsed is = sym (named_asked words (codes "sim") parsed is.0)
network_asked words (network.Inventory host port plan timeout limit verbose labels) parsed is = sym (named_asked words (codes "inventory") parsed is.0)
network_asked words (network.Loop plan) parsed is = sym (named_asked words (codes "loop") parsed is.0)
network_asked words (network.Watch host w) parsed is = sym (named_asked words (codes "watch") parsed is.0)
network_asked words (network.Stop host w) parsed is = sym (named_asked words (codes "stop") parsed is.0)
network_asked words (network.Ask host w) parsed is = sym (named_asked words (codes "ask") parsed is.0)
network_asked words (network.Access host w) parsed is = sym (named_asked words (codes "access") parsed is.0)

-- what is requested is what they ask for
pub asked_as : (words : List Text) (r : Request) → parses words ≡ true → IsFound (command_in words) → IsRequest (command_in words) r → said r ≡ asked words
asked_as words (request.Show w) parsed found is = ap show is.1 ∙ sym (named_asked words (codes "show") parsed is.0)
asked_as words (request.Encode w) parsed found is = ap encode is.1 ∙ sym (named_asked words (codes "encode") parsed is.0)
asked_as words (request.Epc w) parsed found is =
    let c = command_in words in
    let same = same_epc _ _ (sym is.1.0) (sym (given_flag (flag_in (codes "forms") c) w.forms is.1.1)) (sym (given_flag (flag_in (codes "list") c) w.list is.1.2)) (sym (given_flag (json_in c) w.json is.1.3)) (sym is.1.4) (sym is.1.8) (number_is (codes "prefix-digits") c w.company_digits is.1.5) (number_is (codes "filter") c w.filter is.1.6) (sym is.1.7) in
    ap epc same ∙ sym (named_asked words (codes "epc") parsed is.0)
asked_as words (request.Fields all name) parsed found is =
    let c = command_in words in
    let flag = reads_flag (all_in c) all is.1 (found_fields c found is.0) in
    ap fields (same_fields _ _ (sym (given_flag (all_in c) all flag)) (sym is.2)) ∙ sym (named_asked words (codes "fields") parsed is.0)
asked_as words (request.Explain hex all json only limit) parsed found is =
    let c = command_in words in
    let there = found_explain c found is.0 in
    let same_hex = sym (given_flag (hex_in c) hex (reads_flag (hex_in c) hex is.1 there.0)) in
    let same_all = sym (given_flag (all_in c) all (reads_flag (all_in c) all is.2 there.1)) in
    let same_json = sym (given_flag (json_in c) json (reads_flag (json_in c) json is.3 there.2)) in
    ap explain (same_explain _ _ same_hex same_all same_json (limit_is c limit is.4) (number_is (codes "only") c only is.5)) ∙ sym (named_asked words (codes "explain") parsed is.0)
asked_as words (request.Network command) parsed found is = network_asked words command parsed is
asked_as words (request.Help text) parsed found is = absurd is
asked_as words (request.Usage text) parsed found is = absurd is
