-- What is read in the message of a word is that word.
use Rattle.std.proofs.Common.{◌≡◌, ℕ, List, [], ◌∷◌, refl, ap, ◌∙◌}
use Rattle.llrp_schema.specs.Schema.{number_of, rule_of, param_rule, key_of, set_of_kind}
use Rattle.llrp_tree.proofs.TreeLemmas.{trees-forest}
use Rattle.std.specs.Prelude.{true, filter, find}
use Rattle.llrp_tree.specs.Tree.{Tree, forest}
use Rattle.llrp_schema.specs.declared.kinds.ParamKind.TheVariants.{RoSpec, LlrpStatus}
use Rattle.llrp_session.specs.RoSpec.{is_kind, field_of}
use Rattle.llrp_session.specs.Table.{Entry, as_listed, listing}
use Rattle.llrp_session.specs.Contents.{Adding, Deleting, Starting, Stopping, Enabling, Disabling, Listing, Configuring, Closing, Add, Delete, Start, Stop, Enable, Disable, GetRospecs, SetKeepalive, GetReport, Close, ReaderContent, Response, Listed, Error, Report, KeepaliveSent, Accepted, Started, Ended, Overflowed, ReaderMessage, HeardReport, HeardResponse, ClientContent, Asks, Acknowledges, ClientMessage, request}
use Rattle.llrp_session.specs.Calls.Contents.{heard}
use Rattle.llrp_session.specs.ReaderMessages.{status_parameter, reader_message}
use Rattle.llrp_session.specs.ClientMessages.{client_message}
use Rattle.llrp_session.specs.Reading.{request_of, status_in, rospecs_in, heard_of}
use Rattle.llrp_session.specs.Calls.LawfulWords.{SaysRoSpec}

-- ---- the response that lists a table

status_back : (ts : List Tree) → status_in (forest (status_parameter 0 ∷ ts)) ≡ 0
unfolding number_of key_of set_of_kind rule_of param_rule
status_back ts = ap (λ xs. field_of 0 (find (is_kind LlrpStatus) xs)) (trees-forest (status_parameter 0 ∷ ts))

all_rospecs : (table : List Entry) → filter (is_kind RoSpec) (listing table) ≡ listing table
unfolding number_of key_of set_of_kind rule_of param_rule
all_rospecs [] = refl
all_rospecs (e ∷ es) = ap (λ rest. as_listed e ∷ rest) (all_rospecs es)

rospecs_back : (table : List Entry) → rospecs_in (forest (status_parameter 0 ∷ listing table)) ≡ listing table
unfolding number_of key_of set_of_kind rule_of param_rule
rospecs_back table = ap (filter (is_kind RoSpec)) (trees-forest (status_parameter 0 ∷ listing table)) ∙ all_rospecs table

-- ---- words

word_back : (version id : ℕ) (word : ReaderContent) → heard_of (reader_message (record { version = version; id = id; word = word })) ≡ heard word
unfolding heard_of reader_message number_of key_of set_of_kind rule_of param_rule
word_back version id (Response Adding status) = refl
word_back version id (Response Deleting status) = refl
word_back version id (Response Starting status) = refl
word_back version id (Response Stopping status) = refl
word_back version id (Response Enabling status) = refl
word_back version id (Response Disabling status) = refl
word_back version id (Response Configuring status) = refl
word_back version id (Response Closing status) = refl
word_back version id (Response Listing status) = refl
word_back version id (Listed table) =
    ap (λ n. HeardResponse Listing n (rospecs_in (forest (status_parameter 0 ∷ listing table)))) (status_back (listing table)) ∙ ap (HeardResponse Listing 0) (rospecs_back table)
word_back version id (Error status) = refl
word_back version id (Report tags) = ap HeardReport (trees-forest tags)
word_back version id KeepaliveSent = refl
word_back version id (Accepted now) = refl
word_back version id (Started now k) = refl
word_back version id (Ended now k) = refl
word_back version id (Overflowed now) = refl

pub heard_back : (m : ReaderMessage) → heard_of (reader_message m) ≡ heard m.word
heard_back m = word_back m.version m.id m.word

command_back : (id : ℕ) (word : ClientContent) → SaysRoSpec word → request_of (client_message (record { id = id; word = word })) ≡ request word
unfolding request_of client_message number_of key_of set_of_kind rule_of param_rule
command_back id (Asks (Add spec)) h = let is : is_kind RoSpec spec ≡ true = rw h refl in rw is refl
command_back id (Asks (Delete n)) h = refl
command_back id (Asks (Start n)) h = refl
command_back id (Asks (Stop n)) h = refl
command_back id (Asks (Enable n)) h = refl
command_back id (Asks (Disable n)) h = refl
command_back id (Asks GetRospecs) h = refl
command_back id (Asks (SetKeepalive ms)) h = refl
command_back id (Asks GetReport) h = refl
command_back id (Asks Close) h = refl
command_back id Acknowledges h = refl

pub request_back : (m : ClientMessage) → SaysRoSpec m.word → request_of (client_message m) ≡ request m.word
request_back m h = command_back m.id m.word h
