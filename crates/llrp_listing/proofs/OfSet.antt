-- Messages whose lines are said by a set of kinds are messages of that set.
use Rattle.std.proofs.Common.{◌≡◌, ℕ, List, [], ◌∷◌, ◌++◌}
use Rattle.std.specs.List.{AllZip}
use Rattle.llrp_schema.specs.declared.kinds.Kind.TheVariants.{Message}
use Rattle.llrp_schema.specs.declared.kinds.KindSet.{KindSet}
use Rattle.llrp_schema.specs.Schema.{set_of_kind}
use Rattle.llrp_tree.specs.Tree.{MessageTree}
use Rattle.llrp_tree.specs.Frame.{Frame}
use Rattle.llrp_stream.specs.Items.{FrameIn}
use Rattle.llrp_listing.specs.Encoding.{AreSpelled}
use Rattle.llrp_listing.specs.LineChecks.{SaysLine}
use Rattle.llrp_listing.specs.Lines.{TextLine, Ended, Unended}
use Rattle.llrp_listing.specs.ListingRules.{lines_onto, row}
use Rattle.llrp_listing.specs.NodeLine.{NodeLine}
use Rattle.llrp_listing.specs.OpenText.{chain_nodes, lines_covered, end, nodes}
use Rattle.llrp_listing.specs.Private.Encoder.{AreFramed}
use Rattle.llrp_listing.specs.Private.OpenLines.{Entry, chain, open_of}
use Rattle.llrp_listing.proofs.LawfulLines.{AreOf}

-- the lines that are said are of the set
said_of : (p : KindSet) (xs : List TextLine) (es : List (ℕ × NodeLine)) → AllZip (SaysLine p) xs es → AreOf p es
said_of p [] [] z = tt
said_of p [] (e ∷ es) z = absurd z
said_of p (x ∷ xs) [] z = absurd z
said_of p (Unended x ∷ xs) (e ∷ es) z = absurd z.0
said_of p (Ended x ∷ xs) (e ∷ es) z = (z.0.own, said_of p xs es z.1)

first_of : (p : KindSet) (a b : List (ℕ × NodeLine)) → AreOf p (a ++ b) → AreOf p a
first_of p [] b h = tt
first_of p (e ∷ a) b h = (h.0, first_of p a b h.1)

later_of : (p : KindSet) (a b : List (ℕ × NodeLine)) → AreOf p (a ++ b) → AreOf p b
later_of p [] b h = h
later_of p (e ∷ a) b h = later_of p a b h.1

-- the messages are of the set
abbrev AreMessagesOf : KindSet → List MessageTree → Type 0
AreMessagesOf p [] = Unit {0}
AreMessagesOf p (m ∷ ms) = (set_of_kind (Message m.kind) ≡ p) × AreMessagesOf p ms

row_of : (p : KindSet) (ms : List MessageTree) → AreOf p (nodes 0 (row ms)) → AreMessagesOf p ms
row_of p [] h = tt
row_of p (m ∷ ms) h = (h.0, row_of p ms (later_of p (nodes 1 (lines_onto m.children end)) (nodes 0 (row ms)) h.1))

later_messages : (p : KindSet) (done ms : List MessageTree) → AreMessagesOf p (done ++ ms) → AreMessagesOf p ms
later_messages p [] ms h = h
later_messages p (m ∷ done) ms h = later_messages p done ms h.1

frames_of : (p : KindSet) (limit : ℕ) (ms : List MessageTree) (frames : List (List ℕ)) → AreMessagesOf p ms → AllZip (λ m frame. Frame m frame limit) ms frames → AllZip (λ m frame. FrameIn p m frame limit) ms frames
frames_of p limit [] [] o z = tt
frames_of p limit [] (f ∷ fs) o z = absurd z
frames_of p limit (m ∷ ms) [] o z = absurd z
frames_of p limit (m ∷ ms) (f ∷ fs) o z = (record { frame = z.0; own = o.0 }, frames_of p limit ms fs o.1 z.1)

-- the last of messages whose lines are said, with their frames
pub spelled_row : {p : KindSet} (limit : ℕ) (xs : List TextLine) (done ms : List MessageTree) (bytes : List ℕ) → AllZip (SaysLine p) xs (nodes 0 (row (done ++ ms))) → AreFramed limit ms bytes → AreSpelled p limit ms bytes
spelled_row {p} limit xs done ms bytes says f =
    let all : AreMessagesOf p (done ++ ms) = row_of p (done ++ ms) (said_of p xs (nodes 0 (row (done ++ ms))) says) in
    record { frames = f.frames; each = frames_of p limit ms f.frames (later_messages p done ms all) f.each; bytes_are = f.bytes_are }

-- the same where lines are open after them
pub spelled_open : {p : KindSet} (limit : ℕ) (xs : List TextLine) (done ms : List MessageTree) (es : List Entry) (bytes : List ℕ) → AllZip (SaysLine p) xs (lines_covered (open_of (done ++ ms) es)) → AreFramed limit ms bytes → AreSpelled p limit ms bytes
spelled_open {p} limit xs done ms es bytes says f =
    let lines : AreOf p (nodes 0 (row (done ++ ms))) = first_of p (nodes 0 (row (done ++ ms))) (chain_nodes (chain es)) (said_of p xs (lines_covered (open_of (done ++ ms) es)) says) in
    let all : AreMessagesOf p (done ++ ms) = row_of p (done ++ ms) lines in
    record { frames = f.frames; each = frames_of p limit ms f.frames (later_messages p done ms all) f.each; bytes_are = f.bytes_are }
