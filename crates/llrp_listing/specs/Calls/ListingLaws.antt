-- The laws of listings.
use Rattle.std.specs.Prelude.{◌≡◌, ℕ, suc, ◌*◌, ◌≤◌, List, [], ◌∷◌, length}
use Rattle.std.specs.List.{AllZip}
use Rattle.llrp_schema.specs.declared.kinds.KindSet.{KindSet}
use Rattle.llrp_schema.specs.declared.kinds.Kind.TheVariants.{Message}
use Rattle.llrp_schema.specs.Schema.{set_of_kind}
use Rattle.llrp_tree.specs.Tree.{MessageTree}
use Rattle.llrp_tree.specs.Lawful.{IsLawfulMessage, message_octets}
use Rattle.llrp_listing.specs.declared.outcome.Refusal.{Refusal}
use Rattle.llrp_listing.specs.Encoding.{AreSpelled}
use Rattle.llrp_listing.specs.FirstRefusal.{Refused}
use Rattle.llrp_listing.specs.Calls.FirstRefusal.{HasOneAnswer}
use Rattle.llrp_listing.specs.LineChecks.{longest}
use Rattle.llrp_listing.specs.Lines.{lines_of}
use Rattle.llrp_listing.specs.ListingRules.{rules_for, row}
use Rattle.llrp_listing.specs.MessageListing.{message_lines, IsListingOf}
use Rattle.llrp_listing.specs.NodeLine.{IsLine}

-- the text is the listing of these messages of a set of kinds, each of which has a spelling within the limit
abbrev pub IsListing : KindSet → ℕ → List ℕ → List MessageTree → Type 0
IsListing p limit text messages = IsListingOf messages text × ((bytes : List ℕ) × AreSpelled p limit messages bytes)

-- the text has this first refusal among the rules of a set of kinds, before which these messages were closed
abbrev pub IsRefused : KindSet → ℕ → List ℕ → ℕ → Refusal → List MessageTree → Type 0
IsRefused p limit text line reason messages = Refused (rules_for p limit) (lines_of text) line reason (row messages)

-- A text is the listing of one list of messages at most or has one first refusal at most, and never both. The same holds of rows of lines with lines below them.
pub record ListedOrRefused (p : KindSet) (limit : ℕ) (text : List ℕ) : Type 0 where
  pub one_listing : (ms ns : List MessageTree) → IsListing p limit text ms → IsListing p limit text ns → ms ≡ ns
  pub one_refusal : (m n : ℕ) (a b : Refusal) (ms ns : List MessageTree) → IsRefused p limit text m a ms → IsRefused p limit text n b ns → (m ≡ n) × (a ≡ b) × (ms ≡ ns)
  pub not_both : (ms ns : List MessageTree) (line : ℕ) (reason : Refusal) → IsListing p limit text ms → IsRefused p limit text line reason ns → ⊥
  pub lines : HasOneAnswer (rules_for p limit) (lines_of text)

-- each line, with its LF, is at most so long
abbrev pub AreShort : KindSet → List (List ℕ) → Type 0
AreShort p [] = Unit {0}
AreShort p (line ∷ lines) = (length line ≤ suc (longest p)) × AreShort p lines

-- No line of a lawful message is too long, and all of its lines have at most 2,001 octets for each octet of its frame.
pub record HasShortLines (m : MessageTree) : Type 0 where
  pub short : (texts : List (List ℕ)) → IsLawfulMessage m → AllZip IsLine (message_lines m) texts → AreShort (set_of_kind (Message m.kind)) texts
  pub whole : (text : List ℕ) → IsLawfulMessage m → IsListingOf (m ∷ []) text → length text ≤ 2001 * message_octets m
