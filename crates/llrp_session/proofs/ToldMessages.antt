-- Messages of the right kind and parameters are those of their words.
use Rattle.std.proofs.Common.{◌≡◌, ℕ, ◌<◌, ◌^◌, List, [], ◌∷◌, refl, ap, ◌∙◌, lit≤}
use Rattle.std.specs.Prelude.{◌⊎◌}
use Rattle.llrp_schema.specs.declared.kinds.MsgKind.{MsgKind}
use Rattle.llrp_tree.specs.declared.TheConstants.{MAX_LIMIT}
use Rattle.llrp_tree.specs.Tree.{Tree, forest}
use Rattle.llrp_tree.specs.Lawful.{IsLawfulMessage}
use Rattle.llrp_schema.specs.declared.kinds.ParamKind.TheVariants.{KeepaliveSpec as KeepaliveSpecParameter}
use Rattle.llrp_session.specs.Contents.{SetKeepalive, Asks, ReaderContent, ReaderMessage, ClientContent, ClientMessage, keepalive_each}
use Rattle.llrp_session.specs.ReaderMessages.{parameter, reader_kind, reader_parameters, reader_message}
use Rattle.llrp_session.specs.ClientMessages.{client_kind, client_fields, client_parameters, client_message}
use Rattle.llrp_session.specs.Calls.LawfulWords.{IsLawfulReaderWord, IsLawfulClientWord}
use Rattle.llrp_session.proofs.LawfulMessages.{reader_sends, client_sends}

pub reader_told : (version id : ℕ) (kind : MsgKind) (items : List Tree) (word : ReaderContent) → kind ≡ reader_kind word → items ≡ reader_parameters word
    → record { version = version; id = id; kind = kind; fields = []; tail = []; children = forest items } ≡ reader_message (record { version = version; id = id; word = word })
unfolding reader_message
reader_told version id kind items word k p = rw (k, p) refl

pub reader_lawful : (version id : ℕ) (kind : MsgKind) (items : List Tree) (word : ReaderContent) → kind ≡ reader_kind word → items ≡ reader_parameters word
    → (version ≡ 1) ⊎ (version ≡ 2) → id < 2 ^ 32 → IsLawfulReaderWord MAX_LIMIT word
    → IsLawfulMessage (record { version = version; id = id; kind = kind; fields = []; tail = []; children = forest items })
reader_lawful version id kind items word k p v small h =
    let m : ReaderMessage = record { version = version; id = id; word = word } in
    rw (reader_told version id kind items word k p) (reader_sends MAX_LIMIT m (lit≤ tt) (lit≤ tt) (record { version = v; id = small; word = h })).lawful

pub client_told : (id : ℕ) (kind : MsgKind) (fields : List ℕ) (items : List Tree) (word : ClientContent) → kind ≡ client_kind word → fields ≡ client_fields word → items ≡ client_parameters word
    → record { version = 1; id = id; kind = kind; fields = fields; tail = []; children = forest items } ≡ client_message (record { id = id; word = word })
unfolding client_message
client_told id kind fields items word k f p = rw (k, f, p) refl

pub client_lawful : (id : ℕ) (kind : MsgKind) (fields : List ℕ) (items : List Tree) (word : ClientContent) → kind ≡ client_kind word → fields ≡ client_fields word → items ≡ client_parameters word
    → id < 2 ^ 32 → IsLawfulClientWord MAX_LIMIT word
    → IsLawfulMessage (record { version = 1; id = id; kind = kind; fields = fields; tail = []; children = forest items })
client_lawful id kind fields items word k f p small h =
    let m : ClientMessage = record { id = id; word = word } in
    rw (client_told id kind fields items word k f p) (client_sends MAX_LIMIT m (lit≤ tt) (lit≤ tt) (record { id = small; word = h })).lawful

-- a KeepaliveSpec by its type and period
pub keepalive_told : (ms trigger : ℕ) (items : List Tree) (node : Tree) → items ≡ node ∷ [] → node ≡ parameter KeepaliveSpecParameter (trigger ∷ ms ∷ []) []
    → trigger ≡ (keepalive_each ms).trigger → ms ≡ (keepalive_each ms).period → items ≡ client_parameters (Asks (SetKeepalive ms))
keepalive_told ms trigger items node i n t p =
    i ∙ ap (λ (x : Tree). x ∷ []) n
    ∙ ap (λ (x : ℕ). parameter KeepaliveSpecParameter (x ∷ ms ∷ []) [] ∷ []) t
    ∙ ap (λ (x : ℕ). parameter KeepaliveSpecParameter ((keepalive_each ms).trigger ∷ x ∷ []) [] ∷ []) p
