-- A list of events that stops, hurries, recovers and truncates nothing, and a world in which all that was sent arrived.
use Rattle.std.specs.Prelude.{◌≡◌, ℕ, ◌<◌, Bool, true, false, List, [], ◌∷◌, None, length}
use Rattle.protocol.specs.Words.{Hurry, Recover, Truncate, Stop, Event, Picked}
use Rattle.protocol.specs.Lists.{IsIn}
use Rattle.protocol.specs.Client.Attempts.{has_pending}
use Rattle.protocol.specs.World.State.{Plan, World}
use Rattle.protocol.specs.World.Events.{enabled, after}

-- the event stops or hurries a node, or lets it recover or truncate
abbrev pub disturbs : Event → Bool
disturbs (Picked node Stop) = true
disturbs (Picked node Hurry) = true
disturbs (Picked node (Recover x)) = true
disturbs (Picked node (Truncate v)) = true
disturbs _ = false

-- no such event of the list is enabled where it stands
abbrev pub IsUndisturbed : Plan → World → List Event → Type 0
IsUndisturbed p w [] = Unit {0}
IsUndisturbed p w (e ∷ events) = (disturbs e ≡ true → enabled p w e ≡ None) × IsUndisturbed p (after p w e) events

-- each envelope that was sent was delivered, and no job is pending
pub record IsSettled (w : World) : Type 0 where
  pub delivered : (i : ℕ) → i < length w.mail → IsIn i w.delivered
  pub idle : (c : ℕ) → has_pending (w.client c).phase ≡ false
