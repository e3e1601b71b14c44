-- Frames one after another.
use Rattle.std.proofs.Common.{◌≡◌, ℕ, ◌+◌, ◌<◌, Bool, List, [], ◌∷◌, ◌++◌, length, take, drop, get_or, refl, sym, ap, ◌∙◌, append_assoc}
use Rattle.std.specs.List.{AllZip}
use Rattle.std.proofs.lemmas.List.{append-nil, take_more, take-append-drop}
use Rattle.std.proofs.lemmas.List.Concat.{flat_map-append}
use Rattle.tag_bits.specs.Digits.{digits_of_bytes}
use Rattle.llrp_tree.specs.declared.TheConstants.{MAX_LIMIT}
use Rattle.llrp_tree.specs.Tree.{MessageTree}
use Rattle.llrp_tree.specs.Frame.{Frame}
use Rattle.llrp_tree.specs.FirstFault.{octets_at}
use Rattle.llrp_tree.proofs.LengthLemmas.{spelled_length}
use Rattle.llrp_tree.proofs.ReadDigits.{octets_again}
use Rattle.llrp_stream.specs.Cuts.{joined}
use Rattle.llrp_endpoints.specs.Sending.{AreFrames, Adds}
use Rattle.llrp_endpoints.specs.Calls.Sending.{AddsSome}
use Rattle.llrp_listing.proofs.Zips.{zip_append}

pub frames_none : AreFrames [] []
frames_none = record { frames = []; each = tt; whole = refl }

pub frames_append : (a b : List MessageTree) (x y : List ℕ) → AreFrames a x → AreFrames b y → AreFrames (a ++ b) (x ++ y)
frames_append a b x y p q = record {
  frames = p.frames ++ q.frames;
  each = zip_append (λ m frame. Frame m frame MAX_LIMIT) a b p.frames q.frames p.each q.each;
  whole = rw (p.whole, q.whole) (sym (flat_map-append (λ (w : List ℕ). w) p.frames q.frames));
}

pub adds_none : (old : List ℕ) → Adds [] old old
adds_none old = record { text = []; frames = frames_none; whole = sym (append-nil old) }

pub adds_more : (a b : List MessageTree) (x y z : List ℕ) → Adds a x y → Adds b y z → Adds (a ++ b) x z
adds_more a b x y z p q = record {
  text = p.text ++ q.text;
  frames = frames_append a b p.text q.text p.frames q.frames;
  whole = q.whole ∙ ap (λ (w : List ℕ). w ++ q.text) p.whole ∙ append_assoc x p.text q.text;
}

pub adds_one : (m : MessageTree) (old new bytes : List ℕ) → Frame m bytes MAX_LIMIT → new ≡ old ++ bytes → Adds (m ∷ []) old new
adds_one m old new bytes f e = record { text = bytes; frames = record { frames = bytes ∷ []; each = (f, tt); whole = sym (append-nil bytes) }; whole = e }

-- one more message was written
pub adds_step : (ms : List MessageTree) (i : ℕ) (m : MessageTree) (old mid new : List ℕ) → i < length ms → m ≡ get_or ms i m → Adds (take i ms) old mid
    → (bytes : List ℕ) × Frame m bytes MAX_LIMIT × (new ≡ mid ++ bytes) → Adds (take (i + 1) ms) old new
adds_step ms i m old mid new within is so one =
    let front : take (i + 1) ms ≡ take i ms ++ m ∷ [] = take_more ms i m within ∙ ap (λ (x : MessageTree). take i ms ++ x ∷ []) (sym is) in
    rw front (adds_more (take i ms) (m ∷ []) old mid new so (adds_one m mid new one.0 one.1 one.2))

pub some_at : (ms : List MessageTree) (i : ℕ) (old mid new : List ℕ) → Adds (take i ms) old mid → new ≡ mid → AddsSome ms old new
some_at ms i old mid new so same = record { first = take i ms; later = drop i ms; parts = sym (take-append-drop i ms); adds = rw same so }

-- ---- messages have one list of frames

one_frame : (m : MessageTree) (x y : List ℕ) (limit : ℕ) → Frame m x limit → Frame m y limit → x ≡ y
one_frame m x y limit f g =
    let long : length x ≡ length y = spelled_length m x f.spelled ∙ sym (spelled_length m y g.spelled) in
    sym (octets_again x [] f.octets) ∙ ap (λ (n : ℕ). octets_at n (digits_of_bytes x ++ [])) long ∙ ap (λ (ds : List Bool). octets_at (length y) (ds ++ [])) (f.spelled ∙ sym g.spelled) ∙ octets_again y [] g.octets

same_frames : (messages : List MessageTree) (xs ys : List (List ℕ)) → AllZip (λ m frame. Frame m frame MAX_LIMIT) messages xs → AllZip (λ m frame. Frame m frame MAX_LIMIT) messages ys → xs ≡ ys
same_frames [] [] [] p q = refl
same_frames [] [] (y ∷ ys) p q = absurd q
same_frames [] (x ∷ xs) ys p q = absurd p
same_frames (m ∷ messages) [] ys p q = absurd p
same_frames (m ∷ messages) (x ∷ xs) [] p q = absurd q
same_frames (m ∷ messages) (x ∷ xs) (y ∷ ys) p q = ap (λ (frame : List ℕ). frame ∷ xs) (one_frame m x y MAX_LIMIT p.0 q.0) ∙ ap (λ (frames : List (List ℕ)). y ∷ frames) (same_frames messages xs ys p.1 q.1)

pub one_text_of_frames : (messages : List MessageTree) (s t : List ℕ) → AreFrames messages s → AreFrames messages t → s ≡ t
one_text_of_frames messages s t p q = p.whole ∙ ap joined (same_frames messages p.frames q.frames p.each q.each) ∙ sym q.whole
