-- What is printed of a stream of lawful messages is read back as their frames.
use Rattle.std.proofs.Common.{◌≡◌, inl, inr, ℕ, ◌≤◌, ◌==◌, true, false, List, [], ◌∷◌, ◌++◌, map, refl, sym, ap, ◌∙◌, subst, arith, append_assoc, append-nil}
use Rattle.std.proofs.lemmas.Bool.{and_parts, leb-true}
use Rattle.std.proofs.lemmas.List.{append_cancel_right}
use Rattle.std.specs.Prelude.{codes}
use Rattle.std.specs.Char.{is_ascii_digit}
use Rattle.std.specs.List.{AllByRecursion, AllZip, flat_map, list_all}
use Rattle.std.specs.Str.{all_ascii_digits}
use Rattle.hex.specs.Hex.{encode_lower}
use Rattle.llrp_schema.specs.declared.kinds.KindSet.{KindSet}
use Rattle.llrp_tree.specs.Lawful.{IsLawfulMessage}
use Rattle.llrp_tree.specs.Tree.{MessageTree}
use Rattle.llrp_tree.proofs.LengthLemmas.{frame_length}
use Rattle.llrp_stream.specs.Items.{FrameIn}
use Rattle.llrp_stream.specs.declared.item.End.TheVariants.{Clean}
use Rattle.llrp_stream.specs.declared.item.Item.TheVariants.{Msg}
use Rattle.llrp_listing.specs.Encoding.{AreSpelled}
use Rattle.llrp_listing.specs.Lines.{Ended, NoLf, TextLine, lines_of}
use Rattle.llrp_listing.specs.StreamListing.{IsStreamText}
use Rattle.llrp_listing.proofs.Cutting.{ended}
use Rattle.llrp_json.specs.Calls.JsonTexts.{IsCharacter, IsInteger, IsJson, IsString, Part, Value, array, empty_array, more_elements, more_members, number, object, one_element, one_member, string, truth}
use Rattle.llrp_json.specs.JsonLines.{IsItemJson, IsMessageJson, end_json}
use Rattle.llrp_json.proofs.JsonTexts.{message_line}
use Rattle.llrp_json_read.specs.LinesRead.{AreLineFrames, SpellsLine}
use Rattle.llrp_json_read.proofs.PrintedFields.{digit_test, hexadecimal_passes}
use Rattle.llrp_json_read.proofs.PrintedLengths.{line_length}
use Rattle.llrp_json_read.proofs.PrintedMessages.{printed_line_says}

-- ---- a text of JSON without white space has no LF

lacks_append : (a b : List ℕ) → NoLf a → NoLf b → NoLf (a ++ b)
lacks_append [] b h k = k
lacks_append (x ∷ a) b h k = (h.0, lacks_append a b h.1 k)

not_lf : (c : ℕ) → 32 ≤ c → (c == 10) ≡ false
not_lf c le = grind arith

digits_no_lf : (xs : List ℕ) → list_all digit_test xs ≡ true → NoLf xs
digits_no_lf [] e = tt
digits_no_lf (x ∷ xs) e =
    let p = and_parts (digit_test x) (list_all digit_test xs) e in
    (not_lf x (leb-true 32 x (and_parts _ _ (and_parts _ _ p.0).0).0), digits_no_lf xs p.1)

decimal_no_lf : (xs : List ℕ) → all_ascii_digits xs ≡ true → NoLf xs
decimal_no_lf [] e = tt
decimal_no_lf (x ∷ xs) e =
    let p = and_parts (is_ascii_digit x) (all_ascii_digits xs) e in
    let low : 48 ≤ x = leb-true 48 x (and_parts _ _ p.0).0 in
    (not_lf x (omega (arith, low)), decimal_no_lf xs p.1)

integer_no_lf : (text : List ℕ) → IsInteger text → NoLf text
integer_no_lf text (inl d) = decimal_no_lf text d.0
integer_no_lf text (inr (digits, d, e)) = subst NoLf (sym e) (refl, decimal_no_lf digits d.0)

character_no_lf : (text : List ℕ) → IsCharacter text → NoLf text
character_no_lf text (inl (c, le, q, b, e)) = subst NoLf (sym e) (not_lf c le, tt)
character_no_lf text (inr (inl e)) = subst NoLf (sym e) (refl, (refl, tt))
character_no_lf text (inr (inr (inl e))) = subst NoLf (sym e) (refl, (refl, tt))
character_no_lf text (inr (inr (inr (c, lt, e)))) = subst NoLf (sym e) (lacks_append (codes "\\u00") (encode_lower (c ∷ [])) (refl, (refl, (refl, (refl, tt)))) (digits_no_lf (encode_lower (c ∷ [])) (hexadecimal_passes (c ∷ []) (lt, tt))))

characters_no_lf : (texts : List (List ℕ)) → AllByRecursion IsCharacter texts → NoLf (flat_map (λ character. character) texts)
characters_no_lf [] h = tt
characters_no_lf (t ∷ ts) h = lacks_append t (flat_map (λ character. character) ts) (character_no_lf t h.0) (characters_no_lf ts h.1)

string_no_lf : (text : List ℕ) → IsString text → NoLf text
string_no_lf text s = subst NoLf (sym s.text_is) (refl, lacks_append (flat_map (λ character. character) s.characters) (34 ∷ []) (characters_no_lf s.characters s.each) (refl, tt))

json_no_lf : (part : Part) (text : List ℕ) → IsJson part text → NoLf text
json_no_lf part text (string s h) = string_no_lf s h
json_no_lf part text (number s h) = integer_no_lf s h
json_no_lf part text truth = (refl, (refl, (refl, (refl, tt))))
json_no_lf part text empty_array = (refl, (refl, tt))
json_no_lf part text (array elements h) = (refl, lacks_append elements (93 ∷ []) (json_no_lf _ elements h) (refl, tt))
json_no_lf part text (object members h) = (refl, lacks_append members (125 ∷ []) (json_no_lf _ members h) (refl, tt))
json_no_lf part text (one_element value h) = json_no_lf _ value h
json_no_lf part text (more_elements value elements h k) = lacks_append value (44 ∷ elements) (json_no_lf _ value h) (refl, json_no_lf _ elements k)
json_no_lf part text (one_member name value s h) = lacks_append name (58 ∷ value) (string_no_lf name s) (refl, json_no_lf _ value h)
json_no_lf part text (more_members name value members s h k) =
    lacks_append (name ++ (58 ∷ value)) (44 ∷ members) (lacks_append name (58 ∷ value) (string_no_lf name s) (refl, json_no_lf _ value h)) (refl, json_no_lf _ members k)

message_no_lf : (m : MessageTree) (text : List ℕ) → IsLawfulMessage m → IsMessageJson m text → NoLf text
message_no_lf m text lawful is =
    let line = message_line m (text ++ 10 ∷ []) lawful (text, is, refl) in
    let same : line.0 ≡ text = sym (append_cancel_right text line.0 (10 ∷ []) line.2) in
    subst NoLf same (json_no_lf Value line.0 line.1)

-- ---- streams

printed_lines : (p : KindSet) (limit : ℕ) (ms : List MessageTree) (frames texts : List (List ℕ)) → AllZip (λ m frame. FrameIn p m frame limit) ms frames → AllZip IsItemJson (map Msg ms) texts
    → AllZip (SpellsLine p limit) (lines_of (flat_map (λ item. item) texts)) frames
unfolding lines_of
printed_lines p limit [] [] [] z y = tt
printed_lines p limit [] [] (t ∷ texts) z y = absurd y
printed_lines p limit [] (b ∷ frames) texts z y = absurd z
printed_lines p limit (m ∷ ms) [] texts z y = absurd z
printed_lines p limit (m ∷ ms) (b ∷ frames) [] z y = absurd y
printed_lines p limit (m ∷ ms) (b ∷ frames) (t ∷ texts) z y =
    let frame = z.0.frame in
    let one = y.0 in
    let more : List ℕ = flat_map (λ item. item) texts in
    let cut : lines_of (t ++ more) ≡ Ended one.0 ∷ lines_of more = ap (λ (x : List ℕ). lines_of (x ++ more)) one.2 ∙ ap lines_of (append_assoc one.0 (10 ∷ []) more) ∙ ended one.0 more (message_no_lf m one.0 frame.lawful one.1) in
    let short = frame.short in
    let here : SpellsLine p limit (Ended one.0) b = record {
      message = m;
      short = omega (arith, line_length m one.0 frame.lawful one.1, frame_length m b limit frame, short);
      says = printed_line_says p m one.0 frame.lawful z.0.own one.1;
      is = frame;
    } in
    subst (λ (x : List TextLine). AllZip (SpellsLine p limit) x (b ∷ frames)) (sym cut) (here, printed_lines p limit ms frames texts z.1 y.1)

-- the lines that are printed of messages are those of their frames
pub printed_stream_is_read : (p : KindSet) (limit : ℕ) (ms : List MessageTree) (text bytes : List ℕ) → AreSpelled p limit ms bytes → IsStreamText IsItemJson end_json (map Msg ms) Clean text → AreLineFrames p limit (lines_of text) bytes
unfolding end_json
printed_stream_is_read p limit ms text bytes s t =
    let same : flat_map (λ item. item) t.lines.texts ≡ text = sym t.lines.text_is ∙ sym (append-nil t.front) ∙ sym t.text_is in
    subst (λ (x : List ℕ). AreLineFrames p limit (lines_of x) bytes) same
    (record { frames = s.frames; each = printed_lines p limit ms s.frames t.lines.texts s.each t.lines.each; bytes_are = s.bytes_are })
