-- What is said besides a command and in place of it, by a client that is so far.
use Rattle.std.proofs.Common.{◌≡◌, ◌∙◌, List, [], ◌∷◌, map, sym, ap}
use Rattle.std.specs.Prelude.{Option}
use Rattle.llrp_tree.specs.Tree.{MessageTree}
use Rattle.llrp_session.specs.Contents.{ClientMessage}
use Rattle.llrp_session.specs.ClientMessages.{client_message}
use Rattle.llrp_endpoints.specs.declared.asides.Aside.{Aside}
use Rattle.llrp_endpoints.specs.declared.gathering.Gathering.{Gathering}
use Rattle.llrp_endpoints.specs.Asides.{Asides, instead}
use Rattle.llrp_endpoints.specs.Calls.Asides.{asides_in}
use Rattle.llrp_endpoints.specs.Calls.GatheringStands.{Holds}
use Rattle.llrp_endpoints.specs.Gathering.{Course}
use Rattle.llrp_endpoints.specs.Private.Asides.{aside_of}
use Rattle.llrp_endpoints.proofs.AsideLemmas.{same_aside}

pub aside_is : (g : Gathering) (x : Aside) (c : Course) → Holds c g → aside_of x (asides_in g.asides) ≡ aside_of x c.asides
aside_is g x c h = sym (same_aside x (asides_in g.asides) g.whole) ∙ ap (aside_of x) h.asides_are

pub said_is : (g : Gathering) (c : Course) → Holds c g → (m : ClientMessage) (said messages : List MessageTree) → said ≡ map (instead g.whole) messages → messages ≡ client_message m ∷ []
    → said ≡ instead c.asides.whole (client_message m) ∷ []
said_is g c h m said messages e is = e ∙ ap (map (instead g.whole)) is ∙ ap (λ (a : Asides). instead a.whole (client_message m) ∷ []) h.asides_are
