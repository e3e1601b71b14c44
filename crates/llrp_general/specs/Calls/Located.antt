-- What is sent of what a reader says to a frame: the same, or with the place where the frame or the request is refused (LLRP 1.1, section 15).
use Rattle.std.specs.Prelude.{◌≡◌, ◌⊎◌, List, Option, None, Some}
use Rattle.std.specs.List.{AllZip}
use Rattle.llrp_tree.specs.Tree.{MessageTree}
use Rattle.llrp_stream.specs.declared.item.Item.{Item}
use Rattle.llrp_stream.specs.declared.item.Item.TheVariants.{Msg, Bad}
use Rattle.llrp_live.specs.declared.fault_places.FaultPlace.{FaultPlace}
use Rattle.llrp_live.specs.Calls.Places.{SaysPlace}
use Rattle.llrp_live.specs.Calls.RefusedRequests.{refused_place}

-- the same message, or with this place in its LLRPStatus
abbrev pub MaySay : FaultPlace → MessageTree → MessageTree → Type 0
MaySay place message sent = (sent ≡ message) ⊎ SaysPlace message place sent

-- message by message
abbrev pub WithPlace : FaultPlace → List MessageTree → List MessageTree → Type 0
WithPlace place said sent = AllZip (MaySay place) said sent

-- with a place, if there is one
abbrev pub MayPlace : Option FaultPlace → List MessageTree → List MessageTree → Type 0
MayPlace None said sent = sent ≡ said
MayPlace (Some place) said sent = WithPlace place said sent

-- What is sent to a frame to which a reader says this: with the place where its machine refuses a request, and with some place or none
-- where the frame is no message.
abbrev pub IsSentTo : Item → List MessageTree → List MessageTree → Type 0
IsSentTo (Msg request) said sent = MayPlace (refused_place request said) said sent
IsSentTo (Bad id fault) said sent = (place : Option FaultPlace) × MayPlace place said sent
