-- The plans that the words of watch and stop ask for, and how they run.
use Rattle.std.specs.Prelude.{◌≡◌, ℕ, ◌*◌, true, false, List, [], ◌∷◌, ◌++◌, if◌then◌else◌, Option, None, Some, unwrap_or, Result, Ok, Err, codes, decimal, ⊤}
use Rattle.std.specs.Io.KnownBytes.{Appends}
use Rattle.llrp_stream.specs.Device.{SourceLog, SinkLog}
use Rattle.llrp_stream.specs.Calls.Device.{new_sink, new_source}
use Rattle.llrp_schema.specs.declared.kinds.KindSet.TheVariants.{Profile, Standard}
use Rattle.llrp_listing.specs.declared.outcome.ToolErr.{ToolErr}
use Rattle.llrp_endpoints.specs.declared.form.LineForm.{LineForm}
use Rattle.llrp_endpoints.specs.declared.form.LineForm.TheVariants.{Tags, Full}
use Rattle.llrp_endpoints.specs.declared.plan.text.PlanErr.TheVariants as text
use Rattle.llrp_endpoints.specs.declared.summary.Summary.{Summary}
use Rattle.llrp_endpoints.specs.Plan.{Plan}
use Rattle.llrp_endpoints.specs.Calls.Plans.{given}
use Rattle.llrp_endpoints.specs.Calls.PlanTexts.{ListsRoSpec, RefusesPlan}
use Rattle.llrp_endpoints.specs.RunInventory.{RunsInventory}
use Rattle.llrp_endpoints.specs.MarkedLines.{AreMarked}
use Rattle.llrp_endpoints.specs.ReportedTags.{AreTagsOfStream}
use Rattle.llrp_endpoints.specs.declared.tag_lister.TagLister.{TagLister}
use Rattle.llrp_endpoints.specs.Calls.TagListing.{HasTags}
use Rattle.llrp_endpoints.specs.Watching.{RunsWatching, Turn, pieces_of}
use Rattle.llrp_labels.specs.declared.labels.Labels.{Labels}
use Rattle.llrp_power.specs.declared.capabilities.Transmitter.{Transmitter}
use Rattle.llrp_json.specs.Calls.PieceLines.{HasListed, Listing}
use Rattle.llrp_stream.specs.Calls.Frames.{limit_of}
use Rattle.llrp_words.specs.declared.arguments.watch_words.WatchWords.{WatchWords}
use Rattle.llrp.specs.declared.plan.NoPlan.{NoPlan}
use Rattle.llrp.specs.declared.plan.NoPlan.TheVariants.{Line, Memory, Unread}
use Rattle.llrp.specs.declared.watch.TheConstants.{MOST_OCTETS}
use Rattle.llrp.specs.declared.watch_plan.MadeRoSpec.{MadeRoSpec}
use Rattle.llrp.specs.declared.watch_plan.TheConstants.{KEEPALIVE}
use Rattle.llrp.specs.Calls.Network.{unnumbered}
use Rattle.llrp.specs.Calls.Labels.{AreLabelledLines}

-- ---- the ROSpec

-- an AntennaConfiguration of all antennas, for which 0 stands, with this RFTransmitter, if there is one (LLRP 1.1, section 16)
abbrev pub transmitter_text : Option Transmitter → List ℕ
transmitter_text None = []
transmitter_text (Some t) =
    codes "4 AntennaConfiguration 0\n5 RFTransmitter " ++ (decimal t.hop_table_id ++ (codes " " ++ (decimal t.channel_index ++ (codes " " ++ (decimal t.transmit_power ++ codes "\n")))))

-- one with these antennas, which starts and stops on commands, and of each tag says antenna, channel, strength, both times and count
abbrev pub rospec_text : MadeRoSpec → List ℕ
rospec_text made =
    codes "1 ROSpec " ++ (decimal made.id ++ (codes " 0 0\n2 ROBoundarySpec\n3 ROSpecStartTrigger 0\n3 ROSpecStopTrigger 0 0\n2 AISpec w"
    ++ (made.antennas.now ++ (codes "\n3 AISpecStopTrigger 0 0\n3 InventoryParameterSpec 1 1\n" ++ (transmitter_text made.transmitter
    ++ (codes "2 ROReportSpec 2 " ++ (decimal made.every ++ codes "\n3 TagReportContentSelector 0 0 0 1 1 1 1 1 1 0\n")))))))

-- The plan with the ROSpec that these lines list; or the first of them that is refused; or memory ran out.
abbrev pub MakesRoSpec : MadeRoSpec → Result Plan NoPlan → Type 0
MakesRoSpec made (Ok plan) = ListsRoSpec Profile (rospec_text made) plan.rospec × (plan ≡ given plan.rospec 0 false)
MakesRoSpec made (Err (Line line reason)) = RefusesPlan Profile (rospec_text made) (text.Line line reason)
MakesRoSpec made (Err Memory) = ⊤
MakesRoSpec made (Err Unread) = ⊥

-- ---- the plan

abbrev pub watch_form : WatchWords → LineForm
watch_form words = if words.text then Tags else Full

-- it renews its ROSpec, passes over what is odd, asks for KEEPALIVEs, lasts, and takes all of LLRP 1.1
abbrev pub watch_plan : WatchWords → Plan → Plan
watch_plan words plan =
    record plan { renews = true; passes = true; keepalive = unwrap_or words.keepalive KEEPALIVE * 1000; reports = 18446744073709551615; form = watch_form words; set = Standard }

-- that of stop only deletes the ROSpec
abbrev pub stop_plan : Plan → Plan
stop_plan plan = record plan { renews = true; adds = false; form = Full; set = Standard }

-- ---- lines

-- A printer of this form, limit, labels and name, which began where its output had these octets, received these turns: of each it appended the lines of the
-- tags of the reports that are whole with its piece, with these labels and some moment. These are all lines so far, without labels and moments.
pub data Prints (form : LineForm) (limit : ℕ) (labels : Option Labels) (name : Option (List ℕ)) (began : Option (List ℕ)) : List Turn → List ℕ → Option (List ℕ) → Type 0 where
  no_turn : Prints form limit labels name began [] [] began
  one_more : (turns : List Turn) (lines : List ℕ) (taken : Option (List ℕ)) (t : Turn) (more labelled : List ℕ) (micros : ℕ) (text : List ℕ) (next : Option (List ℕ)) → Prints form limit labels name began turns lines taken
      → AreTagsOfStream form limit (pieces_of (turns ++ t ∷ [])) (lines ++ more) → AreLabelledLines labels form more labelled → AreMarked form micros name labelled text → Appends taken next text
      → Prints form limit labels name began (turns ++ t ∷ []) (lines ++ more) next

-- what such a printer says of itself, which has this lister and these labels, and whose output has these octets
abbrev pub PrintsTo : TagLister → Option Labels → Option (List ℕ) → Option (List ℕ) → SinkLog → List Turn → Type 0
PrintsTo lister labels name taken base turns = (lines : List ℕ) × HasTags lister.decoder.limit (pieces_of turns) lines lister × Prints lister.form lister.decoder.limit labels name base.taken turns lines taken

-- What a printer of messages says of itself, which has this lister and whose output has these octets: of the octets of these turns, read one after another, it
-- appended the line of each frame that is whole in them, as show --json --all --limit prints it.
abbrev pub PrintsMessages : Listing → Option (List ℕ) → SinkLog → List Turn → Type 0
PrintsMessages lister taken base turns = (text : List ℕ) × HasListed (limit_of lister.frames) (pieces_of turns) text lister × Appends base.taken taken text

-- ---- runs over sockets

-- A client with this limit followed a plan that lasts so, and its printer received each read. These are the logs of what it read and sent, and what the
-- printer says of itself.
abbrev pub FollowsLasting : ℕ → Plan → SourceLog → SourceLog → SinkLog → SinkLog → (v0 v1 : SinkLog → List Turn → Type 0) → Result (Unit {0}) ToolErr → Type 0
FollowsLasting limit plan r0 r1 w0 w1 v0 v1 outcome =
    (run : Result Summary ToolErr) × RunsWatching limit plan r0 r1 w0 w1 v0 v1 run × (outcome ≡ unnumbered run)

-- A client followed a plan that ends, over a source and a sink of which nothing was read or written before.
abbrev pub FollowsStop : Plan → SinkLog → SinkLog → Result (Unit {0}) ToolErr → Type 0
FollowsStop plan t0 t1 outcome = (run : Result Summary ToolErr) × (source : SourceLog) × (sink : SinkLog) × (bytes : List ℕ)
    × RunsInventory MOST_OCTETS plan (new_source None) source (new_sink None) sink t0 t1 bytes run × (outcome ≡ unnumbered run)
