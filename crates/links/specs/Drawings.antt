-- What changes while a link draws.
use Rattle.std.specs.Prelude.{ℕ, Bool, nat_eq, List, ◌++◌, ◌||◌}
use Rattle.std.specs.HashSet.{contains}
use Rattle.net_core.specs.SeededRule.{Drawing, Drawn, is_among}
use Rattle.links.specs.declared.drawing.Draws.{Draws}
use Rattle.links.specs.declared.drawing.Tried.{Tried}
use Rattle.links.specs.declared.drawing.Tried.TheVariants.{Picked, Again}
use Rattle.links.specs.declared.late_set.LateSet.{LateSet}

-- the drawing, where these envelopes were late before the pick
abbrev pub drawing : List ℕ → Draws → Drawing
drawing before d = record { late = before ++ d.late; generator = d.rng }

-- the envelope was late before the pick, as the set tells, or became late in it
abbrev pub is_late_in : LateSet → Draws → ℕ → Bool
is_late_in s d i = contains nat_eq s.places i || is_among d.late i

-- what a try picked, or what is drawn again
abbrev pub after_try : (Drawing → Drawn) → Tried → Drawing → Drawn
after_try choose_again (Picked o) d = (o, d)
after_try choose_again Again d = choose_again d
