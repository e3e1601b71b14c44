-- Files of tags, each line the text of one. Their text is this project's own.
use Rattle.std.specs.Prelude.{◌≡◌, ℕ, ◌+◌, ◌^◌, ◌<◌, List, [], ◌∷◌, ◌++◌, codes, length}
use Rattle.tag_uri.specs.TagText.{IsTextOf}
use Rattle.llrp_live.specs.declared.tag_file.TagsErr.{TagsErr}
use Rattle.llrp_live.specs.declared.tag_file.TagsErr.TheVariants.{Line, Memory}

-- the text begins with the line of this word's tag, ended by LF, and this is the rest
abbrev pub TagFollows : List ℕ → ℕ → List ℕ → Type 0
TagFollows text word rest = (line : List ℕ) × (word < 2 ^ 96) × IsTextOf word line × (text ≡ line ++ (codes "\n" ++ rest))

-- it begins with the line of no tag
abbrev pub NoTagFollows : List ℕ → Type 0
NoTagFollows text = (word : ℕ) (rest : List ℕ) → TagFollows text word rest → ⊥

-- the text begins with the lines of these words' tags in order, and this is the rest
abbrev pub TagsFollow : List ℕ → List ℕ → List ℕ → Type 0
TagsFollow text [] rest = text ≡ rest
TagsFollow text (word ∷ words) rest = (later : List ℕ) × TagFollows text word later × TagsFollow later words rest

-- the text is those lines
abbrev pub AreTags : List ℕ → List ℕ → Type 0
AreTags words text = TagsFollow text words []

-- The first line that is refused: tags have the text before it, and no tag's line follows, though some has to: the text goes on,
-- or none came before.
pub record IsTagRefused (text : List ℕ) (line : ℕ) : Type 0 where
  pub before : List ℕ
  pub rest : List ℕ
  pub tags : TagsFollow text before rest
  pub none : NoTagFollows rest
  pub has_to : rest ≡ [] → before ≡ []
  pub counted : line ≡ length before + 1

-- why a file has no tags
abbrev pub RefusesTags : List ℕ → TagsErr → Type 0
RefusesTags text (Line line) = IsTagRefused text line
RefusesTags text Memory = Unit {0}
