-- The law of frames.
use Rattle.std.specs.Prelude.{◌≡◌, ◌<◌, List, length, Some}
use Rattle.wire.specs.Sendable.{MaySend}
use Rattle.protocol.specs.Words.{Envelope, Event}
use Rattle.protocol.specs.Lists.{IsIn}
use Rattle.protocol.specs.World.State.{Plan, World, first_world, mail_limit}
use Rattle.protocol.specs.World.Events.{Move, enabled, replay_from}
use Rattle.law_frames.specs.Limits.{PlanIsWithinLimits}

-- each envelope that was sent has a frame, and so has each that an event would send now, where the mail has room
pub record EnvelopesHaveFramesOf (p : Plan) (w : World) : Type 0 where
  pub mail : (m : Envelope) → IsIn m w.mail → MaySend m
  pub sent : (e : Event) (v : Move) → enabled p w e ≡ Some v → length w.mail < mail_limit → (m : Envelope) → IsIn m v.sent → MaySend m

-- of every plan within the limits, and each world that events lead to
abbrev pub EnvelopesHaveFrames : Type 0
EnvelopesHaveFrames = (p : Plan) → PlanIsWithinLimits p → (events : List Event) → EnvelopesHaveFramesOf p (replay_from p first_world events)
