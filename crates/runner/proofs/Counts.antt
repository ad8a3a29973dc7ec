-- What a turn, and a segment that is given back, add to the counts of a journal.
use Rattle.std.proofs.Common.{◌≡◌, ℕ, ◌+◌, ◌≤◌, [], ◌∷◌, refl, sym, ◌∙◌, ap, arith}
use Rattle.std.proofs.lemmas.List.{reverse-append}
use Rattle.morty_base.specs.declared.names.NodeId.{NodeId}
use Rattle.msg.specs.declared.Event.TheVariants.{Picked, Ran}
use Rattle.net_core.specs.Machine.{Machine, Effect, Moves, Refused}
use Rattle.net_core.specs.declared.machine.RanStep.{RanStep}
use Rattle.net_core.specs.declared.machine.RanStep.TheVariants.{Used, Stale, Full}
use Rattle.hub.specs.declared.turn_out.TurnCase.{TurnCase}
use Rattle.hub.specs.declared.turn_out.TurnOut.{TurnOut}
use Rattle.hub.specs.Kept.{picks_in, rans_in, one_if_moved}
use Rattle.hub.specs.Turns.{IsTurn, Does, Gave}
use Rattle.hub.specs.Views.{HubView, history}
use Rattle.runner.specs.Growth.{HasGrown}

-- how many picks a case of a turn adds, and how many used segments giving one back
abbrev pub picks_of : {J : Type 0} → TurnCase J → ℕ
picks_of TurnCase.Ask = 1
picks_of _ = 0

abbrev pub rans_of : RanStep → ℕ
rans_of Used = 1
rans_of _ = 0

nothing_more : (a b : ℕ) → a ≡ b → a ≡ b + 0
nothing_more a b same = omega (arith, same)

module _ {J : Type 0} (m : Machine) (n : NodeId) (slot : ℕ) (old new : HubView J) where
  -- a pick, and nothing else
  pub turn_picks : (out : TurnOut J) (case : TurnCase J) → Does m n slot old new out case → picks_in (history new) ≡ picks_in (history old) + picks_of case
  turn_picks out (TurnCase.Over e) does = nothing_more _ _ (ap (λ v. picks_in (history v)) does.1)
  turn_picks out TurnCase.Quiet does = nothing_more _ _ (ap (λ v. picks_in (history v)) does.1)
  turn_picks out TurnCase.Stopped does = nothing_more _ _ (ap (λ v. picks_in (history v)) does.1)
  turn_picks out (TurnCase.Job j) does = nothing_more _ _ (ap (λ v. picks_in (history v)) does.1)
  turn_picks out TurnCase.Marked does = nothing_more _ _ (ap (λ v. picks_in (history v)) does.1)
  turn_picks out TurnCase.Spent does = nothing_more _ _ (ap (λ v. picks_in (history v)) does.1)
  turn_picks out TurnCase.Ask does = ap picks_in (ap history does.2 ∙ reverse-append old.journal (Picked n does.0 ∷ []))

  pub turn_rans : (out : TurnOut J) (case : TurnCase J) → Does m n slot old new out case → rans_in m (history new) ≡ rans_in m (history old)
  turn_rans out (TurnCase.Over e) does = ap (λ v. rans_in m (history v)) does.1
  turn_rans out TurnCase.Quiet does = ap (λ v. rans_in m (history v)) does.1
  turn_rans out TurnCase.Stopped does = ap (λ v. rans_in m (history v)) does.1
  turn_rans out (TurnCase.Job j) does = ap (λ v. rans_in m (history v)) does.1
  turn_rans out TurnCase.Marked does = ap (λ v. rans_in m (history v)) does.1
  turn_rans out TurnCase.Spent does = ap (λ v. rans_in m (history v)) does.1
  turn_rans out TurnCase.Ask does = ap (rans_in m) (ap history does.2 ∙ reverse-append old.journal (Picked n does.0 ∷ []))

  -- a used segment, and nothing else
  pub give_picks : (of_job : J → Type 0) (out : RanStep) → Gave m of_job n slot old new out → picks_in (history new) ≡ picks_in (history old)
  give_picks of_job Stale gave = ap (λ v. picks_in (history v)) gave.1
  give_picks of_job Used gave = ap picks_in (ap history gave.2 ∙ reverse-append old.journal (Ran gave.0 ∷ []))
  give_picks of_job Full gave = ap picks_in (ap history gave.2 ∙ reverse-append old.journal (Ran gave.0 ∷ []))

  pub give_rans : (of_job : J → Type 0) (out : RanStep) → Gave m of_job n slot old new out → rans_in m (history new) ≡ rans_in m (history old) + rans_of out
  give_rans of_job Stale gave = nothing_more _ _ (ap (λ v. rans_in m (history v)) gave.1)
  give_rans of_job Used gave =
      let later : rans_in m (history new) ≡ rans_in m (history old) + one_if_moved (m.effect (history old) (Ran gave.0)) =
      ap (rans_in m) (ap history gave.2 ∙ reverse-append old.journal (Ran gave.0 ∷ [])) in
      later ∙ ap (λ f. rans_in m (history old) + one_if_moved f) gave.1.effect
  give_rans of_job Full gave =
      let later : rans_in m (history new) ≡ rans_in m (history old) + one_if_moved (m.effect (history old) (Ran gave.0)) =
      ap (rans_in m) (ap history gave.2 ∙ reverse-append old.journal (Ran gave.0 ∷ [])) in
      later ∙ ap (λ f. rans_in m (history old) + one_if_moved f) gave.1.effect

  -- so no count falls
  pub turn_grows : (turns : ℕ) (out : TurnOut J) → IsTurn m turns n slot old new out → HasGrown m old new
  turn_grows turns out turn = record {
    picks = (let more = turn_picks out turn.case turn.does in omega arith);
    rans = (let same = turn_rans out turn.case turn.does in omega arith);
  }

  pub give_grows : (of_job : J → Type 0) (out : RanStep) → Gave m of_job n slot old new out → HasGrown m old new
  give_grows of_job out gave = record {
    picks = (let same = give_picks of_job out gave in omega arith);
    rans = (let more = give_rans of_job out gave in omega arith);
  }

pub not_grown : {J : Type 0} (m : Machine) (v : HubView J) → HasGrown m v v
not_grown m v = record { picks = omega arith; rans = omega arith }

pub grown_on : {J : Type 0} (m : Machine) (old mid new : HubView J) → HasGrown m old mid → HasGrown m mid new → HasGrown m old new
grown_on m old mid new a b = record {
  picks = (let p = a.picks in let q = b.picks in omega arith);
  rans = (let p = a.rans in let q = b.rans in omega arith);
}
