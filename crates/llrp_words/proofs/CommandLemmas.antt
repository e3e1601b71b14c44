-- What a parse of the words says of the command.
use Rattle.std.proofs.Common.{◌≡◌, ◌==◌, ◌∙◌, Bool, true, false, List, [], length, Option, Some, None, refl, sym, ap, subst, codes, inl, inr, if◌then◌else◌}
use Rattle.std.specs.Prelude.{option_map}
use Rattle.clap.specs.Faults.{fault_of, is_simple_and_free}
use Rattle.clap.specs.Kinds.{HasKind, Kinds}
use Rattle.clap.specs.Words.{App, Row, Text, is_simple, kind_of, subcommand_of}
use Rattle.clap.specs.declared.error.Error.{Error}
use Rattle.clap.specs.declared.error.kind.ErrorKind.TheVariants.{OutOfMemory}
use Rattle.clap.proofs.SimpleLemmas.{is_nil}
use Rattle.llrp_words.specs.Calls.Requests.{HasFlag}
use Rattle.llrp_words.specs.Calls.Arguments.{command_in, files_in, texts_in, llrp_app, parses}

pub is_simple_program : is_simple llrp_app ≡ true
unfolding llrp_app
is_simple_program = refl

pub is_free_program : is_simple_and_free llrp_app ≡ true
unfolding llrp_app
is_free_program = refl

pub no_fault : (words : List Text) → parses words ≡ true → fault_of llrp_app words ≡ []
unfolding parses
no_fault words parsed = is_nil (fault_of llrp_app words) parsed

-- words that are not parsed have a fault
pub parsed_without_fault : (a : App) (words : List Text) → a ≡ llrp_app → fault_of a words ≡ [] → parses words ≡ false → ⊥
unfolding parses
parsed_without_fault a words e none refused =
    let here : fault_of llrp_app words ≡ [] = sym (ap (λ (x : App). fault_of x words) e) ∙ none in
    let bad : true ≡ false = sym (ap (λ (k : Kinds). length k == 0) here) ∙ refused in
    cc

-- words without a fault are parsed
pub parsed_if_sound : (a : App) (words : List Text) → a ≡ llrp_app → fault_of a words ≡ [] → parses words ≡ true
unfolding parses
parsed_if_sound a words e none = ap (λ (k : Kinds). length k == 0) (sym (ap (λ (x : App). fault_of x words) e) ∙ none)

-- words that are not parsed ask for no files
pub no_files : (words : List Text) → (parses words ≡ true → ⊥) → [] ≡ (if parses words then files_in (command_in words) else [])
no_files words refused = go (parses words) refl
  where
    go : (parsed : Bool) → parses words ≡ parsed → [] ≡ (if parsed then files_in (command_in words) else [])
    go true is = absurd (refused is)
    go false is = refl

-- nor do they give an option a text
pub no_texts : (id : Text) (words : List Text) → (parses words ≡ true → ⊥) → [] ≡ (if parses words then texts_in id (command_in words) else [])
no_texts id words refused = go (parses words) refl
  where
    go : (parsed : Bool) → parses words ≡ parsed → [] ≡ (if parsed then texts_in id (command_in words) else [])
    go true is = absurd (refused is)
    go false is = refl

-- an error of words that are parsed is that of memory
pub only_memory : (a : App) (words : List Text) (error : Error) → a ≡ llrp_app → parses words ≡ true → HasKind (fault_of a words) error → kind_of error ≡ OutOfMemory
unfolding parses
only_memory a words error e parsed has = go (subst (λ (k : Kinds). HasKind k error) (ap (λ (x : App). fault_of x words) e ∙ is_nil (fault_of llrp_app words) parsed) has)
  where
    go : HasKind [] error → kind_of error ≡ OutOfMemory
    go (inl m) = m
    go (inr none) = absurd none

-- what was found in the parse is what the words name
pub found_in : (a : App) (words : List Text) (found : Option (Text × List Row)) → a ≡ llrp_app → found ≡ subcommand_of a words → found ≡ command_in words
unfolding command_in
found_in a words found e f = f ∙ ap (λ (x : App). subcommand_of x words) e

pub names_are : {X A B : Type 0} (f : X → A) (g : X → B) (o : Option X) → option_map f o ≡ option_map (λ (p : A × B). p.0) (option_map (λ (b : X). (f b, g b)) o)
names_are f g None = refl
names_are f g (Some x) = refl

-- a flag that reads each value that it may have
pub has_flag : (found : Option Text) (hex : Bool) → (found ≡ None → hex ≡ false) → (found ≡ Some (codes "true") → hex ≡ true) → (found ≡ Some (codes "false") → hex ≡ false) → HasFlag found hex
has_flag found hex none set unset true is = set is
has_flag found hex none set unset false (inl is) = unset is
has_flag found hex none set unset false (inr is) = none is
