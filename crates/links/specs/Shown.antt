-- What can be told of the links of this crate.
use Rattle.std.specs.Prelude.{ℕ, [], Some}
use Rattle.net_core.specs.Minds.{fresh_mind, empty_plan}
use Rattle.net_core.specs.Ruled.{LinkState}
use Rattle.net_core.specs.declared.plan.LinkKind.{LinkKind}
use Rattle.links.specs.declared.ruled.RuledLink.TheInside.{Inside}

-- a link tells its mind
abbrev pub shown_state : Inside → LinkState
shown_state l = record { kind = l.kind; slot = l.mind.slot; picks = l.picks.items; mind = Some l.mind }

-- a link that picked nothing, as if begun with an empty plan
abbrev pub first_link : LinkKind → ℕ → LinkState
first_link kind slot = record { kind = kind; slot = slot; picks = []; mind = Some (fresh_mind kind slot empty_plan) }
