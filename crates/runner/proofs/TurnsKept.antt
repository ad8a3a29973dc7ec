-- A visit of a slot keeps a run in rounds: its event is of the node that is due, and where it ends the run, the round is over.
use Rattle.std.proofs.Common.{◌≡◌, ◌≢◌, ℕ, suc, inl, inr, Bool, true, false, not, ◌&&◌, ◌||◌, [], ◌∷◌, ◌++◌, drop, Option, Some, None, is_some}
use Rattle.std.proofs.Common.{refl, sym, ◌∙◌, ap, subst, arith}
use Rattle.std.specs.Prelude.{nat_le, find}
use Rattle.std.specs.List.{slice_get}
use Rattle.std.proofs.lemmas.List.{reverse-append}
use Rattle.morty_base.specs.declared.names.NodeId.{NodeId}
use Rattle.morty_base.specs.declared.names.NodeId.TheVariants.{Client}
use Rattle.morty_base.specs.declared.names.Ended.{Ended}
use Rattle.morty_base.specs.declared.names.Ended.TheVariants as ended
use Rattle.morty_base.proofs.Orders.{same_node_tells}
use Rattle.msg.specs.declared.Event.{Event}
use Rattle.msg.specs.declared.Event.TheVariants.{Picked, Ran}
use Rattle.msg.specs.Events.{node_of}
use Rattle.net_core.specs.Machine.{History, Machine, Effect, Moves, Refused, Not_enabled}
use Rattle.net_core.specs.Marks.{turns_made, is_marked, is_refused, is_full, rests}
use Rattle.net_core.specs.Rounds.{nodes_after, nodes_upto, due, is_used_up, is_over, IsTurnOf, InTurns, InRounds}
use Rattle.net_core.specs.Replay.{IsLawful}
use Rattle.net_core.specs.declared.machine.RanStep.{RanStep}
use Rattle.net_core.specs.declared.machine.RanStep.TheVariants.{Used, Stale, Full}
use Rattle.net_core.proofs.QuietOrDue.{quiet_or_due}
use Rattle.hub.specs.declared.turn_out.TurnCase.{TurnCase}
use Rattle.hub.specs.declared.turn_out.TurnOut.{TurnOut}
use Rattle.hub.specs.Views.{HubView, history, job_in, HasPending}
use Rattle.hub.specs.Turns.{IsTurn, IsCase, Does, Gave, ended_by}
use Rattle.hub.proofs.Ends.{own_node}
use Rattle.hub.proofs.Handing.{IsHanded, handed_out}
use Rattle.runner.specs.Progress.{IsRecalled}
use Rattle.runner.specs.AtSlot.{IsAtSlot, KeepsTurns, first_from}
use Rattle.runner.proofs.NodesFrom.{first_is, first_is_later, after_is, upto_is, OthersBefore}
use Rattle.runner.proofs.TurnsFall.{none_pending, live_marked, due_then, is_pending}

or_true : (a : Bool) → (a || true) ≡ true
or_true true = refl
or_true false = refl

and_false : (a : Bool) → (a && false) ≡ false
and_false true = refl
and_false false = refl

busy_unmarked : (m : Machine) (h : History) (n : NodeId) → m.live h n ≡ true → is_marked m h n ≡ false → rests m h n ≡ false
busy_unmarked m h n live unmarked = (λ i. not (live i) || (unmarked i && not (m.pending h n)))

busy_pending : (m : Machine) (h : History) (n : NodeId) → m.live h n ≡ true → m.pending h n ≡ true → rests m h n ≡ false
busy_pending m h n live pending = (λ i. not (live i) || (is_marked m h n && not (pending i))) ∙ and_false (is_marked m h n)

module _ (m : Machine) (lawful : IsLawful m) (slot : ℕ) (n : NodeId)
    (here : slice_get m.nodes slot ≡ Some n) where
  others : OthersBefore m.nodes slot n
  others j k lt there = elim (same_node_tells n k) [
    | inl t ↦ (let same : j ≡ slot = lawful.apart j slot n (there ∙ ap (λ x. Some x) (sym t.1)) here in absurd (let e : ⊥ = omega (arith, same, lt) in e))
    | inr f ↦ f.0
  ]

  -- after an event of the slot's node the next slot is looked at
  next_due : (h : History) (e : Event) → node_of e ≡ n → due m (e ∷ h) ≡ first_from m (suc slot) (e ∷ h)
  next_due h e of =
      let p : NodeId → Bool = λ k. not (rests m (e ∷ h) k) in
      ap (λ k. find p (nodes_after k m.nodes ++ nodes_upto k m.nodes)) of
      ∙ ap (λ xs. find p (xs ++ nodes_upto n m.nodes)) (after_is m.nodes slot n here (own_node n) others)
      ∙ ap (λ xs. find p (drop (suc slot) m.nodes ++ xs)) (upto_is m.nodes slot n here (own_node n) others)

module _ {J : Type 0} (m : Machine) (lawful : IsLawful m) (turns slot : ℕ) (n : NodeId)
    (here : slice_get m.nodes slot ≡ Some n) where
  -- the node that is due is the slot's, where it does not rest
  is_due : (old : HubView J) → IsAtSlot m turns slot old → rests m (history old) n ≡ false → due m (history old) ≡ Some n
  is_due old at busy = at.due_node ∙ first_is m slot (history old) n here busy

  not_over : (old : HubView J) → IsAtSlot m turns slot old → due m (history old) ≡ Some n →
      (not (m.pending (history old) n) && nat_le turns (turns_made n (history old))) ≡ false → is_over m turns (history old) ≡ false
  not_over old at is left = (λ i. at.not_full i || is_used_up m turns (history old) (is i)) ∙ left

  -- an event of the slot's node, when it is due
  happened : (old new : HubView J) (e : Event) (f : Effect) → IsAtSlot m turns slot old → m.effect (history old) e ≡ f → node_of e ≡ n →
      is_over m turns (history old) ≡ false → IsTurnOf m (history old) e → history new ≡ e ∷ history old → new.ended ≡ ended_by f →
      KeepsTurns m turns slot new
  happened old new e Refused at is of over turn later end =
      inl (
        ap is_some end,
        subst (λ h. InRounds m turns h) (sym later) (record {
          turn_by_turn = (over, turn, at.in_turns);
          over = ap (λ b. b || is_used_up m turns (e ∷ history old) (due m (e ∷ history old))) (ap is_refused is);
        }),
      )
  happened old new e Moves at is of over turn later end = inr (record {
    no_end = end;
    not_full = ap (is_full m) later ∙ ap is_refused is;
    in_turns = subst (λ h. InTurns m turns h) (sym later) (over, turn, at.in_turns);
    due_node = subst (λ h. due m h ≡ first_from m (suc slot) h) (sym later) (next_due m lawful slot n here (history old) e of);
  })
  happened old new e Not_enabled at is of over turn later end = inr (record {
    no_end = end;
    not_full = ap (is_full m) later ∙ ap is_refused is;
    in_turns = subst (λ h. InTurns m turns h) (sym later) (over, turn, at.in_turns);
    due_node = subst (λ h. due m h ≡ first_from m (suc slot) h) (sym later) (next_due m lawful slot n here (history old) e of);
  })

  -- nothing happened, and the node rests
  rested : (old new : HubView J) → IsAtSlot m turns slot old → new ≡ old → rests m (history old) n ≡ true → KeepsTurns m turns slot new
  rested old new at same rest = inr (subst (λ (v : HubView J). IsAtSlot m turns (suc slot) v) (sym same) (record {
    no_end = at.no_end;
    not_full = at.not_full;
    in_turns = at.in_turns;
    due_node = at.due_node ∙ first_is_later m slot (history old) n here rest;
  }))

  -- the run is over without another event
  over_now : (old new : HubView J) (e : Ended) → IsAtSlot m turns slot old → new ≡ record old { ended = Some e } →
      is_used_up m turns (history old) (due m (history old)) ≡ true → KeepsTurns m turns slot new
  over_now old new e at same used = inl (
    ap (λ v. is_some v.ended) same,
    subst (λ h. InRounds m turns h) (sym (ap history same)) (record {
      turn_by_turn = at.in_turns;
      over = ap (λ b. is_full m (history old) || b) used ∙ or_true (is_full m (history old));
    }),
  )

  kept : (old new : HubView J) (out : TurnOut J) (case : TurnCase J) → IsRecalled m old → HasPending m old → IsAtSlot m turns slot old →
      ((j : J) → out ≢ TurnOut.Job j) → IsCase m turns n slot old case → Does m n slot old new out case → KeepsTurns m turns slot new
  kept old new out (TurnCase.Over e) on pending at other is does = absurd (let t : ◌≡◌ {A = Option Ended} None (Some e) = sym at.no_end ∙ is in cc)
  kept old new out TurnCase.Quiet on pending at other is does =
      over_now old new ended.Quiet at does.1 (ap (is_used_up m turns (history old)) ((quiet_or_due m (history old)).0 is.1))
  kept old new out TurnCase.Stopped on pending at other is does =
      rested old new at does.1 (ap (λ b. not b || (is_marked m (history old) n && not (m.pending (history old) n))) is.1)
  kept old new out (TurnCase.Job j) on pending at other is does = absurd (other j does.0)
  kept old new out TurnCase.Marked on pending at other is does =
      rested old new at does.1 (live_marked m lawful turns slot n here old is.3
      (none_pending m lawful turns slot n here old (job_in old.jobs slot) on pending refl is.2))
  kept old new out TurnCase.Spent on pending at other is does =
      let none = none_pending m lawful turns slot n here old (job_in old.jobs slot) on pending refl is.2 in
      let due_is = is_due old at (busy_unmarked m (history old) n is.1 is.3) in
      over_now old new ended.Spent at does.1
      (ap (is_used_up m turns (history old)) due_is ∙ (λ i. not (none i) && is.4 i))
  kept old new out TurnCase.Ask on pending at other is does =
      let none = none_pending m lawful turns slot n here old (job_in old.jobs slot) on pending refl is.2 in
      let due_is = is_due old at (busy_unmarked m (history old) n is.1 is.3) in
      happened old new (Picked n does.0) _ at refl refl (not_over old at due_is (λ i. not (none i) && is.4 i)) (due_is, none)
      (ap history does.2 ∙ reverse-append old.journal (Picked n does.0 ∷ [])) (ap (λ v. v.ended) does.2)

  pub turn_keeps : (old new : HubView J) (out : TurnOut J) → IsRecalled m old → IsAtSlot m turns slot old → ((j : J) → out ≢ TurnOut.Job j) →
      IsTurn m turns n slot old new out → KeepsTurns m turns slot new
  turn_keeps old new out on at other turn = kept old new out turn.case on turn.pending at other turn.is_case turn.does

  pub given_keeps : (of_job : J → Type 0) (old mid new : HubView J) (j : J) (out : RanStep) → IsAtSlot m turns slot old →
      IsTurn m turns n slot old mid (TurnOut.Job j) → of_job j → Gave m of_job n slot mid new out → KeepsTurns m turns slot new
  given_keeps of_job old mid new j out at turn is_of gave = given out gave
    where
      told : IsHanded m n slot old mid j
      told = handed_out m turns slot n old mid j turn.case turn.is_case turn.does

      same : history mid ≡ history old
      same = ap history told.handed

      pending : m.pending (history old) n ≡ true
      pending = is_pending m lawful turns slot n here old mid j turn.pending told

      due_is : due m (history old) ≡ Some n
      due_is = is_due old at (busy_pending m (history old) n told.due.live pending)

      over : is_over m turns (history old) ≡ false
      over = not_over old at due_is (ap (λ b. not b && nat_le turns (turns_made n (history old))) pending)

      ran : (c : ℕ) (f : Effect) → n ≡ Client c → m.effect (history mid) (Ran c) ≡ f → history new ≡ Ran c ∷ history mid → new.ended ≡ ended_by f →
          KeepsTurns m turns slot new
      ran c f node is later end =
          happened old new (Ran c) f at (ap (λ h. m.effect h (Ran c)) (sym same) ∙ is) (sym node) over
          (due_is ∙ ap (λ k. Some k) node, ap (m.pending (history old)) (sym node) ∙ pending)
          (later ∙ ap (λ h. Ran c ∷ h) same) end

      given : (out : RanStep) → Gave m of_job n slot mid new out → KeepsTurns m turns slot new
      given Stale gave = absurd (gave.0 j (due_then m lawful turns slot n here old mid j told) is_of)
      given Full gave =
          ran gave.0 Refused gave.1.node gave.1.effect (ap history gave.2 ∙ reverse-append mid.journal (Ran gave.0 ∷ [])) (ap (λ v. v.ended) gave.2)
      given Used gave =
          ran gave.0 Moves gave.1.node gave.1.effect (ap history gave.2 ∙ reverse-append mid.journal (Ran gave.0 ∷ []))
          (ap (λ v. v.ended) gave.2 ∙ ap (λ v. v.ended) told.handed ∙ at.no_end)
