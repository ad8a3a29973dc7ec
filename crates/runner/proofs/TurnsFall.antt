-- A visit of a slot: a turn of its node, and the segment that is run and given back where it answers a job.
use Rattle.std.proofs.Common.{◌≡◌, ◌≢◌, ℕ, zero, suc, ◌<◌, inl, inr, Bool, true, false, not, ◌&&◌, ◌||◌, []}
use Rattle.std.proofs.Common.{◌∷◌, ◌++◌, length, replicate, set, Option, Some, None, is_some, refl, sym, ◌∙◌, ap, subst, arith}
use Rattle.std.specs.Prelude.{nat_le}
use Rattle.std.specs.List.{slice_get}
use Rattle.std.proofs.lemmas.List.{reverse-append}
use Rattle.std.proofs.lemmas.Option.{slice_get_within}
use Rattle.morty_base.specs.declared.names.NodeId.{NodeId}
use Rattle.morty_base.specs.declared.names.NodeId.TheVariants.{Client}
use Rattle.morty_base.specs.declared.names.Ended.{Ended}
use Rattle.morty_base.specs.declared.names.Ended.TheVariants as ended
use Rattle.msg.specs.declared.Pick.{Pick}
use Rattle.msg.specs.declared.Pick.TheVariants.{Idle, Deliver, Go, Hurry, Recover, Truncate, Stop}
use Rattle.msg.specs.declared.Event.TheVariants.{Picked, Ran}
use Rattle.net_core.specs.Machine.{Machine, Effect, Moves, Refused, Not_enabled}
use Rattle.net_core.specs.Marks.{is_turn, turns_made, is_marked, is_quiet, rests}
use Rattle.net_core.specs.Replay.{IsLawful, IsDue}
use Rattle.net_core.specs.declared.machine.RanStep.{RanStep}
use Rattle.net_core.specs.declared.machine.RanStep.TheVariants.{Used, Stale, Full}
use Rattle.hub.specs.declared.turn_out.TurnCase.{TurnCase}
use Rattle.hub.specs.declared.turn_out.TurnOut.{TurnOut}
use Rattle.hub.specs.Views.{HubView, history, job_in, HasPending}
use Rattle.hub.specs.Turns.{IsTurn, IsCase, Does, Gave, NoneLeft, ended_by}
use Rattle.hub.proofs.Handing.{IsHanded, handed_out}
use Rattle.runner.specs.Progress.{IsRecalled, IsVisited, rank}
use Rattle.runner.proofs.EventsFall.{turn_falls, idle_falls, ran_falls}

none_is_there : {A : Type 0} (a : A) (k slot : ℕ) → slot < k → slice_get (replicate k a) slot ≡ Some a
none_is_there a zero slot lt = absurd (omega arith)
none_is_there a (suc k) zero lt = refl
none_is_there a (suc k) (suc slot) lt = none_is_there a k slot (omega arith)

set_back : {A : Type 0} (a b : A) (k slot : ℕ) → set (set (replicate k a) slot b) slot a ≡ replicate k a
set_back a b zero slot = refl
set_back a b (suc k) zero = refl
set_back a b (suc k) (suc slot) = ap (λ xs. a ∷ xs) (set_back a b k slot)

-- a pick that is no turn is idle
not_a_turn : (p : Pick) → is_turn p ≡ false → p ≡ Idle
not_a_turn Idle e = refl
not_a_turn (Deliver i) e = absurd (let t : true ≡ false = e in cc)
not_a_turn Go e = absurd (let t : true ≡ false = e in cc)
not_a_turn Hurry e = absurd (let t : true ≡ false = e in cc)
not_a_turn (Recover x) e = absurd (let t : true ≡ false = e in cc)
not_a_turn (Truncate w) e = absurd (let t : true ≡ false = e in cc)
not_a_turn Stop e = absurd (let t : true ≡ false = e in cc)

module _ {J : Type 0} (m : Machine) (lawful : IsLawful m) (turns slot : ℕ) (n : NodeId)
    (here : slice_get m.nodes slot ≡ Some n) where
  -- no job is pending where none is left and none was handed out
  pub none_pending : (old : HubView J) (o : Option J) → IsRecalled m old → HasPending m old → job_in old.jobs slot ≡ o →
      NoneLeft o old.handed slot → m.pending (history old) n ≡ false
  none_pending old None on pending is left = pending slot n here ∙ ap is_some is
  none_pending old (Some j) on pending is left =
      let there : slice_get old.handed slot ≡ Some None =
      ap (λ hs. slice_get hs slot) on ∙ none_is_there None (length m.nodes) slot (slice_get_within m.nodes slot n here) in
      absurd (let t : ◌≡◌ {A = Option J} None (Some j) = left None j there refl in cc)

  -- a node that rests, of a run in which some node does not
  rested : (old new : HubView J) → IsRecalled m old → new ≡ old → rests m (history old) n ≡ true → is_quiet m (history old) ≡ false →
      IsVisited m turns slot old new
  rested old new on same rest running =
      let on' : IsRecalled m new = ap (λ v. v.handed) same ∙ on in
      inr (
        on',
        inr (record {
          same = ap history same;
          not_quiet = running;
          rests = λ k there.
              let t : ◌≡◌ {A = Option NodeId} (Some n) (Some k) = sym here ∙ there in
              let eq : n ≡ k = cc in
              subst (λ (x : NodeId). rests m (history old) x ≡ true) eq rest;
        }),
      )

  ends : (old new : HubView J) (e : Ended) → new.ended ≡ Some e → IsVisited m turns slot old new
  ends old new e is = inl (ap is_some is)

  -- a pick of the node
  asked : (old new : HubView J) (p : Pick) (f : Effect) → IsRecalled m old → m.effect (history old) (Picked n p) ≡ f → is_marked m (history old) n ≡ false →
      nat_le turns (turns_made n (history old)) ≡ false →
      new ≡ record old { journal = old.journal ++ Picked n p ∷ []; jobs = new.jobs; ended = ended_by f } → IsVisited m turns slot old new
  asked old new p Refused on is unmarked left same = ends old new ended.Full (ap (λ v. v.ended) same)
  asked old new p Moves on is unmarked left same = goes_on (is_turn p) refl
    where
      later : history new ≡ Picked n p ∷ history old
      later = ap history same ∙ reverse-append old.journal (Picked n p ∷ [])

      on' : IsRecalled m new
      on' = ap (λ v. v.handed) same ∙ on

      goes_on : (b : Bool) → is_turn p ≡ b → IsVisited m turns slot old new
      goes_on true turn = inr (
        on',
        inl (subst (λ h. rank m turns h < rank m turns (history old)) (sym later)
            (turn_falls m turns (history old) slot n p here turn left)),
      )
      goes_on false idle =
          let none : Moves ≡ Not_enabled = sym is ∙ ap (λ q. m.effect (history old) (Picked n q)) (not_a_turn p idle) ∙ lawful.idle (history old) n in absurd cc
  asked old new p Not_enabled on is unmarked left same =
      let later : history new ≡ Picked n p ∷ history old = ap history same ∙ reverse-append old.journal (Picked n p ∷ []) in
      let on' : IsRecalled m new = ap (λ v. v.handed) same ∙ on in
      inr (
        on',
        inl (subst (λ h. rank m turns h < rank m turns (history old)) (sym later)
            (idle_falls m turns (history old) slot n p lawful here is unmarked)),
      )

  pub live_marked : (old : HubView J) → is_marked m (history old) n ≡ true → m.pending (history old) n ≡ false → rests m (history old) n ≡ true
  live_marked old marked pending = (λ i. not (m.live (history old) n) || (marked i && not (pending i))) ∙ or_true (not (m.live (history old) n))
    where
      or_true : (a : Bool) → (a || true) ≡ true
      or_true true = refl
      or_true false = refl

  -- a turn that answers no job
  visited : (old new : HubView J) (out : TurnOut J) (case : TurnCase J) → IsRecalled m old → HasPending m old → ((j : J) → out ≢ TurnOut.Job j) →
      IsCase m turns n slot old case → Does m n slot old new out case → IsVisited m turns slot old new
  visited old new out (TurnCase.Over e) on pending other is does = ends old new e (ap (λ v. v.ended) does.1 ∙ is)
  visited old new out TurnCase.Quiet on pending other is does = ends old new ended.Quiet (ap (λ v. v.ended) does.1)
  visited old new out TurnCase.Stopped on pending other is does =
      rested old new on does.1 (ap (λ b. not b || (is_marked m (history old) n && not (m.pending (history old) n))) is.1) is.0.not_quiet
  visited old new out (TurnCase.Job j) on pending other is does = absurd (other j does.0)
  visited old new out TurnCase.Marked on pending other is does =
      rested old new on does.1 (live_marked old is.3 (none_pending old (job_in old.jobs slot) on pending refl is.2)) is.0.not_quiet
  visited old new out TurnCase.Spent on pending other is does = ends old new ended.Spent (ap (λ v. v.ended) does.1)
  visited old new out TurnCase.Ask on pending other is does = asked old new does.0 _ on refl is.3 is.4 does.2

  pub turn_visited : (old new : HubView J) (out : TurnOut J) → IsRecalled m old → ((j : J) → out ≢ TurnOut.Job j) →
      IsTurn m turns n slot old new out → IsVisited m turns slot old new
  turn_visited old new out on other turn = visited old new out turn.case on turn.pending other turn.is_case turn.does

  -- after a turn that answers a job the run has not ended
  pub not_ended : (old mid : HubView J) (j : J) → IsTurn m turns n slot old mid (TurnOut.Job j) → mid.ended ≡ None
  not_ended old mid j turn =
      let told = handed_out m turns slot n old mid j turn.case turn.is_case turn.does in ap (λ v. v.ended) told.handed ∙ told.no_end

  -- the job is due, and its node has a pending one
  pub due_then : (old mid : HubView J) (j : J) → IsHanded m n slot old mid j → IsDue m (job_in mid.jobs slot) (history mid) n j
  due_then old mid j told = subst (λ (v : HubView J). IsDue m (job_in v.jobs slot) (history v) n j) (sym told.handed)
      (record { live = told.due.live; job = told.due.job })

  pub is_pending : (old mid : HubView J) (j : J) → HasPending m old → IsHanded m n slot old mid j → m.pending (history old) n ≡ true
  is_pending old mid j pending told = pending slot n here ∙ ap is_some told.due.job

  -- and its segment, which is given back
  pub given_visited : (of_job : J → Type 0) (old mid new : HubView J) (j : J) (out : RanStep) → IsRecalled m old →
      IsTurn m turns n slot old mid (TurnOut.Job j) → of_job j → Gave m of_job n slot mid new out → IsVisited m turns slot old new
  given_visited of_job old mid new j out on turn is_of gave = given out gave
    where
      told : IsHanded m n slot old mid j
      told = handed_out m turns slot n old mid j turn.case turn.is_case turn.does

      same : history mid ≡ history old
      same = ap history told.handed

      handed : set mid.handed slot None ≡ replicate (length m.nodes) None
      handed =
          ap (λ v. set v.handed slot None) told.handed
          ∙ ap (λ hs. set (set hs slot (Some j)) slot None) on ∙ set_back None (Some j) (length m.nodes) slot

      given : (out : RanStep) → Gave m of_job n slot mid new out → IsVisited m turns slot old new
      given Stale gave = absurd (gave.0 j (due_then old mid j told) is_of)
      given Full gave = ends old new ended.Full (ap (λ v. v.ended) gave.2)
      given Used gave =
          let c = gave.0 in
          let node : n ≡ Client c = gave.1.node in
          let pending : m.pending (history old) (Client c) ≡ true =
          ap (m.pending (history old)) (sym node) ∙ is_pending old mid j turn.pending told in
          let moves : m.effect (history old) (Ran c) ≡ Moves = ap (λ h. m.effect h (Ran c)) (sym same) ∙ gave.1.effect in
          let later : history new ≡ Ran c ∷ history old =
          ap history gave.2 ∙ reverse-append mid.journal (Ran c ∷ []) ∙ ap (λ h. Ran c ∷ h) same in
          let on' : IsRecalled m new = ap (λ v. v.handed) gave.2 ∙ handed in
          inr (
            on',
            inl (subst (λ h. rank m turns h < rank m turns (history old)) (sym later)
                (ran_falls m turns (history old) slot c lawful (here ∙ ap (λ k. Some k) node) moves pending)),
          )
