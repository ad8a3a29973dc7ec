-- The mind of a link: what it is begun with, and what it remembers of its picks.
use Rattle.std.specs.Prelude.{ℕ, [], ◌∷◌, ◌++◌, map}
use Rattle.msg.specs.declared.Pick.{Pick}
use Rattle.msg.specs.declared.Pick.TheVariants.{Recover}
use Rattle.net_core.specs.Machine.{Menu}
use Rattle.net_core.specs.Fair.{fair}
use Rattle.net_core.specs.Draws.{generator}
use Rattle.net_core.specs.declared.plan.LinkKind.{LinkKind}
use Rattle.net_core.specs.declared.plan.LinkKind.TheVariants.{Fair, Listed, Seeded}
use Rattle.net_core.specs.declared.plan.LinkPlan.{LinkPlan}
use Rattle.net_core.specs.declared.link.LinkMind.{LinkMind}

-- the state of the generator of a link that was just begun: it has one if it is seeded, whose stream is its slot
abbrev pub first_state : LinkKind → ℕ → LinkPlan → ℕ
first_state Fair slot plan = 0
first_state Listed slot plan = 0
first_state Seeded slot plan = (generator plan.net_seed slot).state

-- the mind of a link that was just begun
abbrev pub fresh_mind : LinkKind → ℕ → LinkPlan → LinkMind
fresh_mind kind slot plan = record { slot = slot; plan = plan; used = []; place = 0; recovered = []; late = []; state = first_state kind slot plan }

-- a plan with nothing in it
abbrev pub empty_plan : LinkPlan
empty_plan = record { net_seed = 0; late = 0; repeat = 0; hurry = 0; items = [] }

-- the fair pick of a link that picked to recover these executions
abbrev pub fair_pick : LinkMind → Menu → Pick
fair_pick mind menu = fair (map Recover mind.recovered) menu

-- a link remembers what it picked to recover
abbrev pub remembers : Pick → LinkMind → LinkMind
remembers (Recover x) mind = record mind { recovered = mind.recovered ++ x ∷ [] }
remembers _ mind = mind

-- a pick, and the mind after it
abbrev pub picks_so : Pick → LinkMind → Pick × LinkMind
picks_so p mind = (p, remembers p mind)
