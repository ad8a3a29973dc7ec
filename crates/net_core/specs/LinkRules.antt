-- What a link that tells its mind picks on a menu, by its kind, and its mind after that.
use Rattle.std.specs.Prelude.{ℕ, ◌+◌, ◌-◌, ◌^◌, min, cond, not, ◌&&◌, nat_le, nat_lt, List, [], ◌∷◌, ◌++◌, length, Option, Some, None}
use Rattle.std.specs.List.{slice_get}
use Rattle.msg.specs.declared.Pick.{Pick}
use Rattle.msg.specs.declared.Pick.TheVariants.{Idle}
use Rattle.net_core.specs.Machine.{Menu}
use Rattle.net_core.specs.Minds.{fair_pick, picks_so}
use Rattle.net_core.specs.SeededRule.{is_among, deliver, seeded_pick}
use Rattle.net_core.specs.declared.plan.LinkKind.{LinkKind}
use Rattle.net_core.specs.declared.plan.LinkKind.TheVariants.{Fair, Listed, Seeded}
use Rattle.net_core.specs.declared.plan.PlanWhat.{PlanWhat}
use Rattle.net_core.specs.declared.plan.PlanWhat.TheVariants.{At, Wait, Next, Newest, One}
use Rattle.net_core.specs.declared.link.LinkMind.{LinkMind}

-- the pick of an item at this place, if it is at a number of events that were made and was not used
abbrev pub due_pick : ℕ → List ℕ → ℕ → PlanWhat → Option Pick
due_pick now used i (At n p) = cond (nat_le n now && not (is_among used i)) (Some p) None
due_pick now used i _ = None

abbrev pub found_at : ℕ → Option Pick → Option (ℕ × Pick) → Option (ℕ × Pick)
found_at i (Some p) later = Some (i, p)
found_at i None later = later

-- the first item that is due, with its place, where i is that of the first
abbrev pub due_from : ℕ → List ℕ → ℕ → List PlanWhat → Option (ℕ × Pick)
due_from now used i [] = None
due_from now used i (w ∷ items) = found_at i (due_pick now used i w) (due_from now used (i + 1) items)

-- the item that is due is used, else this is picked
abbrev pub by_due : LinkMind → Option (ℕ × Pick) → Pick × LinkMind → Pick × LinkMind
by_due mind None other = other
by_due mind (Some due) other = picks_so due.1 (record mind { used = mind.used ++ due.0 ∷ [] })

-- how many calls an entry serves
abbrev pub calls_of : PlanWhat → ℕ
calls_of (At n p) = 0
calls_of (Wait k) = k
calls_of (Next k) = k
calls_of (Newest k) = k
calls_of (One p) = 1

-- the entry that serves a call after so many
abbrev pub entry_at : ℕ → List PlanWhat → Option PlanWhat
entry_at place [] = None
entry_at place (w ∷ items) = cond (nat_lt place (calls_of w)) (Some w) (entry_at (place - calls_of w) items)

-- what an entry picks
abbrev pub entry_pick : LinkMind → Menu → PlanWhat → Pick
entry_pick mind menu (At n p) = Idle
entry_pick mind menu (Wait k) = Idle
entry_pick mind menu (Next k) = fair_pick mind menu
entry_pick mind menu (Newest k) = deliver (slice_get menu.fresh (length menu.fresh - 1))
entry_pick mind menu (One p) = p

-- the entry serves one call more; after the last one the pick is fair
abbrev pub by_entry : LinkMind → Menu → Option PlanWhat → Pick × LinkMind
by_entry mind menu None = picks_so (fair_pick mind menu) mind
by_entry mind menu (Some w) = picks_so (entry_pick mind menu w) (record mind { place = min (mind.place + 1) (2 ^ 64 - 1) })

-- the item of the plan that is due, if there is one
abbrev pub due_item : LinkMind → Menu → Option (ℕ × Pick)
due_item mind menu = due_from menu.now mind.used 0 mind.plan.items

-- the pick of a link of this kind and mind on a menu, and its mind after it
unfoldable pub link_rule : LinkKind → LinkMind → Menu → Pick × LinkMind
link_rule Fair mind menu = by_due mind (due_item mind menu) (picks_so (fair_pick mind menu) mind)
link_rule Listed mind menu = by_entry mind menu (entry_at mind.place mind.plan.items)
link_rule Seeded mind menu = by_due mind (due_item mind menu) (seeded_pick mind menu)
