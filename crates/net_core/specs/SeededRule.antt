-- How a seeded link picks where no item of its plan is due: it draws from its generator whether to deliver an old envelope
-- again, which envelope to deliver or whether to start, which envelopes are late, and whether to hurry.
use Rattle.std.specs.Prelude.{ℕ, zero, suc, ◌+◌, Bool, true, false, cond, not, nat_lt, ◌==◌, List, [], ◌∷◌, ◌++◌, length, filter, find, map, unwrap_or, Option, Some, None}
use Rattle.std.specs.List.{list_any, slice_get}
use Rattle.rand_pcg.specs.Lcg.{Lcg, increment_of}
use Rattle.msg.specs.declared.Pick.{Pick}
use Rattle.msg.specs.declared.Pick.TheVariants.{Idle, Deliver, Go, Hurry, Recover}
use Rattle.net_core.specs.Machine.{Menu}
use Rattle.net_core.specs.Fair.{recover_once}
use Rattle.net_core.specs.Draws.{draw}
use Rattle.net_core.specs.Minds.{picks_so}
use Rattle.net_core.specs.declared.link.LinkMind.{LinkMind}

-- what changes while a link draws: which envelopes are late, and the generator
pub record Drawing : Type 0 where
  pub late : List ℕ
  pub generator : Lcg

-- what a step of the rule picks, if it does, and the drawing after it
abbrev pub Drawn : Type 0
Drawn = Option Pick × Drawing

-- a draw below a number
abbrev pub drawn_number : ℕ → Drawing → ℕ
drawn_number below d = (draw below d.generator).0

-- the drawing behind it
abbrev pub past : ℕ → Drawing → Drawing
past below d = record d { generator = (draw below d.generator).1 }

abbrev pub is_among : List ℕ → ℕ → Bool
is_among places i = list_any (λ j. j == i) places

-- the envelopes that may be chosen: those that are not late
abbrev pub timely : List ℕ → List ℕ → List ℕ
timely late fresh = filter (λ i. not (is_among late i)) fresh

-- how many choices there are: these envelopes, and then Go where it is enabled
abbrev pub choice_count : Menu → Drawing → ℕ
choice_count menu d = length (timely d.late menu.fresh) + cond menu.go 1 0

-- the envelope is delivered, or it becomes late and another choice is drawn; behind the envelopes stands Go
abbrev pub chosen : (Drawing → Drawn) → ℕ → Drawing → Option ℕ → Drawn
chosen choose_again late_of_100 d None = (Some Go, d)
chosen choose_again late_of_100 d (Some i) =
    cond (nat_lt (drawn_number 100 d) late_of_100)
    (choose_again (record { late = d.late ++ i ∷ []; generator = (past 100 d).generator }))
    (Some (Deliver i), past 100 d)

-- a choice is drawn, at most so many times
abbrev pub choose : ℕ → ℕ → Menu → Drawing → Drawn
choose zero late_of_100 menu d = (None, d)
choose (suc times) late_of_100 menu d =
    cond (choice_count menu d == 0) (None, d)
    (chosen (choose times late_of_100 menu) late_of_100 (past (choice_count menu d) d) (slice_get (timely d.late menu.fresh) (drawn_number (choice_count menu d) d)))

-- the envelope of a place
abbrev pub deliver : Option ℕ → Pick
deliver None = Idle
deliver (Some i) = Deliver i

-- an old envelope is delivered again, where there is one and the draw says so
abbrev pub repeat_old : ℕ → List ℕ → Drawing → Drawn
repeat_old repeat_of_100 old d =
    cond (length old == 0) (None, d)
    (cond (nat_lt (drawn_number 100 d) repeat_of_100)
    (Some (deliver (slice_get old (drawn_number (length old) (past 100 d)))), past (length old) (past 100 d))
    (None, past 100 d))

-- what was picked, or what the next step picks
abbrev pub or_else : (Drawing → Drawn) → Drawn → Drawn
or_else next (Some p, d) = (Some p, d)
or_else next (None, d) = next d

-- where there are choices: an old envelope again, or a choice. All of `fresh` may become late, so a choice is drawn at most
-- once more than it has envelopes
abbrev pub pick_choice : LinkMind → Menu → Drawing → Drawn
pick_choice mind menu d =
    cond (choice_count menu d == 0) (None, d)
    (or_else (choose (suc (length menu.fresh)) mind.plan.late menu) (repeat_old mind.plan.repeat menu.old d))

-- Hurry where it is enabled and the draw says so
abbrev pub pick_hurry : ℕ → Bool → Drawing → Drawn
pick_hurry hurry_of_100 false d = (None, d)
pick_hurry hurry_of_100 true d = (cond (nat_lt (drawn_number 100 d) hurry_of_100) (Some Hurry) None, past 100 d)

-- the late envelope is delivered, if there is one
abbrev pub late_or : Drawing → Option ℕ → Drawn → Drawn
late_or d None next = next
late_or d (Some i) next = (Some (Deliver i), d)

-- where nothing was chosen: the lowest late envelope that was not delivered, else Hurry
abbrev pub pick_otherwise : LinkMind → Menu → Drawing → Drawn
pick_otherwise mind menu d = late_or d (find (is_among d.late) menu.fresh) (pick_hurry mind.plan.hurry menu.hurry d)

-- what was drawn is picked; else an execution that waits for a warden is recovered once
abbrev pub drawn_so : LinkMind → Menu → Drawn → Pick × LinkMind
drawn_so mind menu d =
    picks_so (unwrap_or d.0 (recover_once (map Recover mind.recovered) menu.stuck))
    (record mind { late = d.1.late; state = d.1.generator.state })

-- where a link begins to draw
abbrev pub first_drawing : LinkMind → Drawing
first_drawing mind = record { late = mind.late; generator = record { state = mind.state; increment = increment_of 64 mind.slot } }

-- the rule of seeded links, where no item of the plan is due: its steps in order
abbrev pub seeded_pick : LinkMind → Menu → Pick × LinkMind
seeded_pick mind menu = drawn_so mind menu (or_else (pick_otherwise mind menu) (pick_choice mind menu (first_drawing mind)))
