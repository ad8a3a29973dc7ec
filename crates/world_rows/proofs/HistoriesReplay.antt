-- Histories are replays.
use Rattle.std.proofs.Common.{◌≡◌, refl, ap, sym, ◌∙◌, List, [], ◌∷◌, ◌++◌, append_assoc}
use Rattle.std.specs.Prelude.{reverse}
use Rattle.std.proofs.lemmas.List.{append-nil, reverse-append}
use Rattle.protocol.specs.Words.{Event}
use Rattle.protocol.specs.World.State.{Plan}
use Rattle.protocol.specs.World.Events.{replay_from}
use Rattle.net_core.specs.Machine.{History}
use Rattle.world_rows.specs.Machine.{world_after}
use Rattle.world_rows.specs.MachineLaws.{HistoriesReplay}

-- events that follow a history stand in front of it, the last one first
follows : (p : Plan) (h : History) (events : List Event) → world_after p (reverse events ++ h) ≡ replay_from p (world_after p h) events
follows p h [] = refl
follows p h (e ∷ events) = ap (λ (l : List Event). world_after p (l ++ h)) (reverse-append (e ∷ []) events) ∙ ap (world_after p) (append_assoc (reverse events) (e ∷ []) h) ∙ follows p (e ∷ h) events

pub histories_replay : HistoriesReplay
histories_replay p events = ap (world_after p) (sym (append-nil (reverse events))) ∙ follows p [] events
