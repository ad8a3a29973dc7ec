-- A whole run of a setup: which links it takes and gives back, its events, and how it ends.
use Rattle.std.specs.Prelude.{◌≡◌, ℕ, ◌<◌, Bool, true, false, List, [], ◌∷◌, ◌++◌, length, map, reverse, Some, is_some}
use Rattle.std.specs.List.{slice_get}
use Rattle.morty_base.specs.declared.names.NodeId.{NodeId}
use Rattle.morty_base.specs.declared.names.Ended.{Ended}
use Rattle.protocol.specs.World.State.{World}
use Rattle.protocol_plans.specs.Scripted.{plan_of}
use Rattle.net_core.specs.Machine.{History, Machine}
use Rattle.net_core.specs.Marks.{picks, end_of}
use Rattle.net_core.specs.Minds.{fresh_mind}
use Rattle.net_core.specs.Rounds.{InRounds}
use Rattle.net_core.specs.Ruled.{LinkState, begun, AllRuled}
use Rattle.script.specs.declared.setup.Setup.{Setup}
use Rattle.script_plans.specs.Plans.{scripted, link_kind, link_plan}
use Rattle.menus.specs.Slots.{count_of}
use Rattle.links.specs.Choosing.{first_for, AreChosen, IsMissing}
use Rattle.hub.specs.Starts.{link_after}
use Rattle.world_rows.specs.Machine.{machine_of, world_after}
use Rattle.world.specs.declared.origin.Origin.{Origin}
use Rattle.world.specs.World.{Stands}
use Rattle.script_cli.specs.declared.run.Run.{Run}
use Rattle.script_cli.specs.declared.run.Ready.{Ready as ReadyValue}
use Rattle.script_cli.specs.declared.run.Prepared.{Prepared}
use Rattle.script_cli.specs.declared.run.Prepared.TheVariants.{Missing, Ready}

-- what histories say of a setup's run, and its world after one
unfoldable pub rules_for : Setup → Machine
rules_for s = machine_of (plan_of (scripted s))

unfoldable pub world_for : Setup → History → World
world_for s h = world_after (plan_of (scripted s)) h

-- links in the order of slots, each begun with the plan of its slot's node
abbrev pub begun_all : Setup → List NodeId → List LinkState → List LinkState
begun_all s (n ∷ ns) (a ∷ links) = begun (link_plan s n) a ∷ begun_all s ns links
begun_all s _ _ = []

-- the link of the node of a slot came back: it is the first one that was handed in for the slot, begun with its plan, and
-- after this history; so its picks are those that it had, and then those of its node, and where it told its mind, these are
-- the ones that the rule of its kind gives one after another from the fresh mind of the plan on
pub record IsLinkBack (s : Setup) (handed : List LinkState) (h : History) (slot : ℕ) (n : NodeId) (b : LinkState) : Type 0 where
  pub first : LinkState
  pub chosen : first_for (link_kind s) slot handed ≡ Some first
  pub after : b ≡ link_after (rules_for s) n (begun (link_plan s n) first) h
  pub picks : b.picks ≡ first.picks ++ reverse (picks n h)
  pub ruled : is_some first.mind ≡ true → AllRuled (link_kind s) (fresh_mind (link_kind s) slot (link_plan s n)) (rules_for s) n h

-- one for each node
pub record AreLinksBack (s : Setup) (handed : List LinkState) (h : History) (back : List LinkState) : Type 0 where
  pub count : length back ≡ length (rules_for s).nodes
  pub each : (slot : ℕ) (n : NodeId) (b : LinkState) → slice_get (rules_for s).nodes slot ≡ Some n → slice_get back slot ≡ Some b →
      IsLinkBack s handed h slot n b

-- a run of a setup with the links that were handed in, to its end, which came so; where one loop makes it, each event was of
-- the node that was due
pub record IsRunOf (shared : Bool) (s : Setup) (handed : List LinkState) (ended : Ended) (h : History) (back : List LinkState) : Type 0 where
  pub end : end_of (rules_for s) s.turns h ≡ Some ended
  pub rounds : shared ≡ false → InRounds (rules_for s) s.turns h
  pub links : AreLinksBack s handed h back

-- the slot is the lowest one for which no link was handed in
pub record IsLinkMissing (s : Setup) (handed : List LinkState) (slot : ℕ) : Type 0 where
  pub needed : slot < length (rules_for s).nodes
  pub missing : IsMissing (link_kind s) handed slot

-- a world of a setup that has taken no event, with the links that were chosen for its slots, each begun
pub record IsReady {V : Type 0} (state : V → LinkState) (s : Setup) (handed : List LinkState) (ready : ReadyValue V) : Type 0 where
  pub own : ready.origin.setup ≡ s
  pub stands : Stands ready.world ready.origin []
  pub count : length ready.links.items ≡ count_of ready.world.slots
  pub chosen : List LinkState
  pub are_chosen : AreChosen (link_kind s) handed (count_of ready.world.slots) chosen
  pub begun : map state ready.links.items ≡ begun_all s (rules_for s).nodes chosen

abbrev pub IsPreparedOf : {V : Type 0} → (V → LinkState) → Setup → List LinkState → Prepared V → Type 0
IsPreparedOf state s handed (Missing slot) = IsLinkMissing s handed slot
IsPreparedOf state s handed (Ready ready) = IsReady state s handed ready

-- what a run leaves: a world that stands for its events
pub record IsRan {V : Type 0} (shared : Bool) (state : V → LinkState) (s : Setup) (handed : List LinkState) (run : Run V) : Type 0 where
  pub same : run.setup ≡ s
  pub whole : IsRunOf shared s handed run.ended (reverse run.journal.items) (map state run.links.items)
  pub origin : Origin
  pub own : origin.setup ≡ s
  pub stands : Stands run.world origin (reverse run.journal.items)
