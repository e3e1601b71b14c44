-- How the tags of a report are read and written.
use Rattle.std.specs.Prelude.{◌≡◌, ℕ, ◌<◌, ◌≤◌, ◌⊎◌, List, ◌++◌, length, drop}
use Rattle.llrp_schema.specs.declared.kinds.KindSet.TheVariants.{Standard}
use Rattle.llrp_tree.specs.declared.TheConstants.{MAX_LIMIT}
use Rattle.llrp_tree.specs.declared.fault.FrameErr.{FrameErr}
use Rattle.llrp_tree.specs.declared.fault.FrameErr.TheVariants as error
use Rattle.llrp_tree.specs.declared.fault.Reason.{Reason}
use Rattle.llrp_tree.specs.FirstFault.{FirstFaultIn}
use Rattle.llrp_stream.specs.Cuts.{IsFrame}
use Rattle.llrp_c.specs.declared.reports.Tag.{Tag}
use Rattle.llrp_c.specs.declared.status.Status.{Status}
use Rattle.llrp_c.specs.declared.status.Status.TheVariants.{Done, Faulty, Room, Length, Memory}
use Rattle.llrp_c.specs.Status.{code_of}

-- the tags were written, or there is not room enough
abbrev pub PutsTags : (tags old new : List Tag) (code : ℕ) → Type 0
PutsTags tags old new code =
    ((length tags ≤ length old) × (new ≡ tags ++ drop (length tags) old) × (code ≡ code_of Done))
    ⊎ ((length old < length tags) × (new ≡ old) × (code ≡ code_of Room))

-- why a frame has no tags
abbrev pub IsWithoutTags : List ℕ → Status → Type 0
IsWithoutTags frame status =
    ((bit : ℕ) × (reason : Reason) × FirstFaultIn Standard frame MAX_LIMIT bit reason × (status ≡ Faulty))
    ⊎ ((¬ IsFrame frame) × (status ≡ Length))
    ⊎ (status ≡ Memory)

-- the status of what a frame is refused for
abbrev pub status_of_frame : FrameErr → Status
status_of_frame error.Memory = Memory
status_of_frame (error.Bad fault) = Faulty
