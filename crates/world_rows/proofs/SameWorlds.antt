-- Two ways to the worlds of a plan make machines that answer alike.
use Rattle.std.proofs.Common.{◌≡◌, ap, [], ◌∷◌}
use Rattle.net_core.specs.Machine.{History}
use Rattle.net_core.specs.Laws.{SameAnswers, Agree}
use Rattle.protocol.specs.World.State.{Plan, World, is_live}
use Rattle.world_rows.specs.Machine.{effect_in, is_pending, menu_in, machine_over}

-- at each moment of a history the two lead to one world
abbrev pub SameWorlds : (History → World) → (History → World) → History → Type 0
SameWorlds f g [] = f [] ≡ g []
SameWorlds f g (e ∷ h) = (f (e ∷ h) ≡ g (e ∷ h)) × SameWorlds f g h

module _ (p : Plan) (f g : History → World) where
  answers_alike : (h : History) → f h ≡ g h → SameAnswers (machine_over p f) (machine_over p g) h
  answers_alike h same = record {
    live = λ n i. ap (λ (w : World). is_live p w n) same;
    pending = λ n i. ap (λ (w : World). is_pending w n) same;
    menu = λ n i. ap (λ (w : World). menu_in p w n) same;
  }

  this_moment : (h : History) → SameWorlds f g h → f h ≡ g h
  this_moment [] same = same
  this_moment (e ∷ h) same = same.0

  -- so their machines agree
  pub worlds_agree : (h : History) → SameWorlds f g h → Agree (machine_over p f) (machine_over p g) h
  worlds_agree [] same = answers_alike [] same
  worlds_agree (e ∷ h) same = (
    answers_alike (e ∷ h) same.0,
    ap (λ (w : World). effect_in p w e) (this_moment h same.1),
    worlds_agree h same.1,
  )
