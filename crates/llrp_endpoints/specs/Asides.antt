-- What a client says besides its plan, as an AccessSpec that it adds and enables before its ROSpec is enabled, and deletes before that is deleted; and what
-- it says in place of its ADD_ROSPEC.
use Rattle.std.specs.Prelude.{ℕ, ◌==◌, List, [], ◌∷◌, ◌++◌, if◌then◌else◌, Option, None, Some}
use Rattle.std.specs.List.{flat_map}
use Rattle.llrp_schema.specs.declared.kinds.Kind.TheVariants.{Message}
use Rattle.llrp_schema.specs.declared.kinds.MsgKind.TheVariants.{AddRoSpec}
use Rattle.llrp_schema.specs.Schema.{number_of}
use Rattle.llrp_tree.specs.Tree.{MessageTree}
use Rattle.llrp_session.specs.declared.types.Command.{Command}
use Rattle.llrp_session.specs.declared.types.Command.TheVariants.{Enable, Delete}
use Rattle.llrp_session.specs.Contents.{ClientContent, Asks, Acknowledges, ClientMessage}
use Rattle.llrp_session.specs.ClientMessages.{client_message}

pub record Asides : Type 0 where
  pub enabling : List MessageTree  -- before ENABLE_ROSPEC
  pub deleting : List MessageTree  -- before the DELETE_ROSPEC that names one ROSpec
  pub whole : Option MessageTree  -- the ADD_ROSPEC of the whole standard that is said in place of the client's own

abbrev pub no_asides : Asides
no_asides = record { enabling = []; deleting = []; whole = None }

abbrev pub before_command : Asides → Command → List MessageTree
before_command a (Enable id) = a.enabling
before_command a (Delete id) = if id == 0 then [] else a.deleting
before_command a _ = []

abbrev pub before : Asides → ClientContent → List MessageTree
before a (Asks k) = before_command a k
before a Acknowledges = []

-- a message of the client, or in place of its ADD_ROSPEC that of the whole standard, under the same id
abbrev pub instead : Option MessageTree → MessageTree → MessageTree
instead None m = m
instead (Some whole) m = if number_of (Message m.kind) == number_of (Message AddRoSpec) then record whole { id = m.id } else m

-- what is said where the client says this
abbrev pub said_for : Asides → ClientMessage → List MessageTree
said_for a m = before a m.word ++ instead a.whole (client_message m) ∷ []

abbrev pub all_said : Asides → List ClientMessage → List MessageTree
all_said a ms = flat_map (said_for a) ms
