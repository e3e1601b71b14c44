-- The blocks of a listing of segments: what `show` lists of a frame, or `show --json`, and before it when and from where it came.
use Rattle.std.specs.Prelude.{◌≡◌, ℕ, Bool, true, false, List, [], ◌∷◌, ◌++◌, codes, decimal, drop}
use Rattle.std.specs.List.{flat_map}
use Rattle.llrp_stream.specs.declared.item.Item.{Item}
use Rattle.llrp_stream.specs.declared.item.End.{End}
use Rattle.llrp_stream.specs.Cuts.{joined}
use Rattle.llrp_listing.specs.StreamListing.{IsItemText, end_text}
use Rattle.llrp_json.specs.JsonLines.{IsItemJson, end_json}
use Rattle.llrp_json.specs.JsonValues.{member, quoted}
use Rattle.llrp_capture.specs.declared.segment.Sender.{Sender}
use Rattle.llrp_capture.specs.declared.segment.Sender.TheVariants.{Reader, Client}
use Rattle.llrp_sides.specs.declared.stamp.Stamp.{Stamp}

-- the text of an item
abbrev pub IsShown : (json : Bool) → Item → List ℕ → Type 0
IsShown false = IsItemText
IsShown true = IsItemJson

-- the text of a stream's end
abbrev pub end_shown : (json : Bool) → End → List ℕ
end_shown false = end_text
end_shown true = end_json

-- the word for a side
abbrev pub side_word : Sender → List ℕ
side_word Reader = codes "reader"
side_word Client = codes "client"

-- the line before a block
abbrev pub stamp_line : Stamp → List ℕ
stamp_line stamp = codes "# " ++ (stamp.time.now ++ (codes " " ++ (decimal stamp.stream ++ (codes " " ++ (side_word stamp.from ++ codes "\n")))))

-- what an object begins with, up to its fourth member
abbrev pub stamp_members : Stamp → List ℕ
stamp_members stamp = 123 ∷ (member (codes "time") (quoted stamp.time.now) ++ (44 ∷ (member (codes "stream") (decimal stamp.stream) ++ (44 ∷ (member (codes "from") (quoted (side_word stamp.from)) ++ 44 ∷ [])))))

-- a block after its line; a line of JSON gets three members more, in front
abbrev pub stamped : (json : Bool) → Stamp → List ℕ → List ℕ
stamped false stamp block = stamp_line stamp ++ block
stamped true stamp block = stamp_members stamp ++ drop 1 block

-- this listing is appended to a text, block by block
abbrev pub AreBlocks : (json : Bool) → Stamp → (listing old new : List ℕ) → Type 0
AreBlocks json stamp listing old new = (blocks : List (List ℕ)) × (listing ≡ joined blocks) × (new ≡ old ++ flat_map (stamped json stamp) blocks)
