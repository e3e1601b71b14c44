use Rattle.std.proofs.Common.{length}
use Rattle.llrp_live.specs.Calls.TagFiles.{TagsFollow}
use Rattle.llrp_live.proofs.tag_file.words_of_tags.Given as goal

abbrev pub invariant-lines : goal.invariant-lines
invariant-lines l = TagsFollow l.text l.words.items l.rest

abbrev pub decreases-lines : goal.decreases-lines
decreases-lines l = length l.rest
