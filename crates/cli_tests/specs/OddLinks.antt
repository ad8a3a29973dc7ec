-- What can be told of the links of these tests: they tell no mind.
use Rattle.std.specs.Prelude.{ℕ, List, None}
use Rattle.msg.specs.declared.Pick.{Pick}
use Rattle.net_core.specs.Ruled.{LinkState}
use Rattle.net_core.specs.declared.plan.LinkKind.TheVariants.{Fair}

abbrev pub mindless : ℕ → List Pick → LinkState
mindless slot picks = record { kind = Fair; slot = slot; picks = picks; mind = None }
