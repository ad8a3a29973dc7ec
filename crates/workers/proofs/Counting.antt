-- What a turn, and a segment that is given back, add to the counts of a hub's journal, by the kind of the answer.
use Rattle.std.proofs.Common.{◌≡◌, ℕ, ◌+◌, ◌≤◌, ◌<◌, true, length, Option, Some, None}
use Rattle.std.proofs.Common.{Result, Ok, Err, IfOk, OnErr, IsSome, refl, sym, ap, subst, arith}
use Rattle.std.specs.List.{slice_get}
use Rattle.morty_base.specs.declared.list.NoMemory.{NoMemory}
use Rattle.morty_base.specs.declared.names.NodeId.{NodeId}
use Rattle.morty_base.specs.declared.names.Ended.{Ended}
use Rattle.morty_base.specs.declared.names.Ended.TheVariants as ended
use Rattle.msg.specs.declared.Event.TheVariants.{Picked}
use Rattle.net_core.specs.Machine.{Machine, Effect, Moves, Refused, Not_enabled}
use Rattle.net_core.specs.declared.machine.RanStep.{RanStep}
use Rattle.net_core.specs.declared.machine.RanStep.TheVariants.{Used, Stale, Full}
use Rattle.hub.specs.declared.turn_out.TurnCase.{TurnCase}
use Rattle.hub.specs.declared.turn_out.TurnOut.{TurnOut}
use Rattle.hub.specs.Kept.{picks_in, rans_in}
use Rattle.hub.specs.Starts.{Start}
use Rattle.hub.specs.Turns.{IsTurn, Does, Gave, ended_out, asked_out}
use Rattle.hub.specs.Views.{HubView, history, nodes_of}
use Rattle.node_future.specs.Answers.{CountsTurn, CountsGive, turn_kind, give_kind}
use Rattle.node_future.specs.declared.answers.LastTurn.{LastTurn}
use Rattle.node_future.specs.declared.answers.LastGive.{LastGive}
use Rattle.runner.proofs.Counts.{picks_of, turn_picks, turn_rans, give_picks, give_rans}

-- a slot of a node belongs to a run that has a start
pub has_start : {O : Type 0} (start : Option (Start O)) (rules : O → Machine) (slot : ℕ) → slot < length (nodes_of start rules) →
    (s : Start O) × (start ≡ Some s)
has_start None rules slot lt = absurd (omega arith)
has_start (Some s) rules slot lt = (s, refl)

pub nodes_are : {O : Type 0} (start : Option (Start O)) (rules : O → Machine) (s : Start O) → start ≡ Some s → nodes_of start rules ≡ (rules s.origin).nodes
nodes_are start rules s is = ap (λ o. nodes_of o rules) is

-- a kind says by how much a count grew, whatever it was before
pub turn_shift : (k : LastTurn) (a b d : ℕ) → CountsTurn k a (a + d) → CountsTurn k b (b + d)
turn_shift LastTurn.Moved a b d more = omega (arith, more)
turn_shift LastTurn.Idle a b d more = (omega arith, (let l = more.1 in omega arith))
turn_shift LastTurn.Full a b d more = (omega arith, (let l = more.1 in omega arith))
turn_shift LastTurn.None a b d more = omega (arith, more)
turn_shift LastTurn.Job a b d more = omega (arith, more)
turn_shift LastTurn.Quiet a b d more = omega (arith, more)
turn_shift LastTurn.Spent a b d more = omega (arith, more)
turn_shift LastTurn.Stopped a b d more = omega (arith, more)
turn_shift LastTurn.Refused a b d more = omega (arith, more)

pub give_shift : (k : LastGive) (a b d : ℕ) → CountsGive k a (a + d) → CountsGive k b (b + d)
give_shift LastGive.Used a b d more = omega (arith, more)
give_shift LastGive.None a b d more = omega (arith, more)
give_shift LastGive.Stale a b d more = omega (arith, more)
give_shift LastGive.Full a b d more = omega (arith, more)
give_shift LastGive.Refused a b d more = omega (arith, more)

-- a turn that finds the run ended adds nothing
over : (J : Type 0) (e : Ended) (k : ℕ) → CountsTurn (turn_kind {J = J} {E = NoMemory} (Ok (ended_out e))) k k
over J ended.Quiet k = refl
over J ended.Spent k = refl
over J ended.Full k = (omega arith, omega arith)

-- a pick adds itself, whatever it did
one_pick : (J : Type 0) (f : Effect) (k : ℕ) → CountsTurn (turn_kind {J = J} {E = NoMemory} (Ok (asked_out f))) k (k + 1)
one_pick J Moves k = refl
one_pick J Refused k = (omega arith, omega arith)
one_pick J Not_enabled k = (omega arith, omega arith)

-- no count fell, and each grew by what the kind of the answer says
pub record TurnCounts {J : Type 0} (k : LastTurn) (m : Machine) (old new : HubView J) : Type 0 where
  pub picks : CountsTurn k (picks_in (history old)) (picks_in (history new))
  pub no_fewer : picks_in (history old) ≤ picks_in (history new)
  pub rans : rans_in m (history new) ≡ rans_in m (history old)

pub record GiveCounts {J : Type 0} (k : LastGive) (m : Machine) (old new : HubView J) : Type 0 where
  pub rans : CountsGive k (rans_in m (history old)) (rans_in m (history new))
  pub no_fewer : rans_in m (history old) ≤ rans_in m (history new)
  pub picks : picks_in (history new) ≡ picks_in (history old)

module _ {J : Type 0} (m : Machine) (n : NodeId) (slot : ℕ) (old new : HubView J) where
  case_picks : (out : TurnOut J) (case : TurnCase J) → Does m n slot old new out case →
      CountsTurn (turn_kind {E = NoMemory} (Ok out)) (picks_in (history old)) (picks_in (history new))
  case_picks out case does = by_case case does (turn_picks m n slot old new out case does)
    where
      at : (o : TurnOut J) (k : ℕ) → out ≡ o → picks_in (history new) ≡ k →
          CountsTurn (turn_kind {E = NoMemory} (Ok o)) (picks_in (history old)) k →
          CountsTurn (turn_kind {E = NoMemory} (Ok out)) (picks_in (history old)) (picks_in (history new))
      at o k is more counts =
          subst (λ (j : ℕ). CountsTurn (turn_kind {E = NoMemory} (Ok out)) (picks_in (history old)) j) (sym more)
          (subst (λ (q : TurnOut J). CountsTurn (turn_kind {E = NoMemory} (Ok q)) (picks_in (history old)) k) (sym is) counts)

      same : picks_in (history new) ≡ picks_in (history old) + 0 → picks_in (history new) ≡ picks_in (history old)
      same more = omega (arith, more)

      by_case : (c : TurnCase J) → Does m n slot old new out c → picks_in (history new) ≡ picks_in (history old) + picks_of c →
          CountsTurn (turn_kind {E = NoMemory} (Ok out)) (picks_in (history old)) (picks_in (history new))
      by_case (TurnCase.Over e) does more = at (ended_out e) _ does.0 (same more) (over J e (picks_in (history old)))
      by_case TurnCase.Quiet does more = at TurnOut.Quiet _ does.0 (same more) refl
      by_case TurnCase.Stopped does more = at TurnOut.Stopped _ does.0 (same more) refl
      by_case (TurnCase.Job j) does more = at (TurnOut.Job j) _ does.0 (same more) refl
      by_case TurnCase.Marked does more = at TurnOut.Idle _ does.0 (same more) (omega arith, omega arith)
      by_case TurnCase.Spent does more = at TurnOut.Spent _ does.0 (same more) refl
      by_case TurnCase.Ask does more =
          at (asked_out (m.effect (history old) (Picked n does.0))) _ does.1 more
          (one_pick J (m.effect (history old) (Picked n does.0)) (picks_in (history old)))

  given_rans : (of_job : J → Type 0) (out : RanStep) → Gave m of_job n slot old new out →
      CountsGive (give_kind {E = NoMemory} (Ok out)) (rans_in m (history old)) (rans_in m (history new))
  given_rans of_job Used gave = give_rans m n slot old new of_job Used gave
  given_rans of_job Stale gave = let same = give_rans m n slot old new of_job Stale gave in omega (arith, same)
  given_rans of_job Full gave = let same = give_rans m n slot old new of_job Full gave in omega (arith, same)

module _ {O J : Type 0} (start : Option (Start O)) (rules : O → Machine) (s : Start O) (is : start ≡ Some s) (slot : ℕ) (old new : HubView J) where
  -- of a turn of a run with this start
  pub turn_counts : (r : Result (TurnOut J) NoMemory) →
      IfOk r (λ out. (t : Start O) → start ≡ Some t → (n : NodeId) × (slice_get (rules t.origin).nodes slot ≡ Some n)
      × IsTurn (rules t.origin) t.turns n slot old new out) →
      OnErr r (history new ≡ history old) → TurnCounts (turn_kind r) (rules s.origin) old new
  turn_counts (Ok out) ok err =
      let t = ok s is in
      let m = rules s.origin in
      record {
        picks = case_picks m t.0 slot old new out t.2.case t.2.does;
        no_fewer = (let more = turn_picks m t.0 slot old new out t.2.case t.2.does in omega arith);
        rans = turn_rans m t.0 slot old new out t.2.case t.2.does;
      }
  turn_counts (Err e) ok same = record {
    picks = ap picks_in same;
    no_fewer = (let eq = ap picks_in same in omega arith);
    rans = ap (rans_in (rules s.origin)) same;
  }

  -- and of a segment that is given back there, where nothing is used once the run has ended
  pub give_counts : (r : Result RanStep NoMemory) (of_job : O → J → Type 0) →
      (IsSome old.ended → (r ≡ Ok Stale) × (new ≡ old)) →
      IfOk r (λ out. old.ended ≡ None → (t : Start O) → start ≡ Some t → (n : NodeId) × (slice_get (rules t.origin).nodes slot ≡ Some n)
      × Gave (rules t.origin) (of_job t.origin) n slot old new out) →
      OnErr r (history new ≡ history old) → GiveCounts (give_kind r) (rules s.origin) old new
  give_counts r of_job ended ok err = by_end old.ended refl
    where
      none : new ≡ old → r ≡ Ok Stale → GiveCounts (give_kind r) (rules s.origin) old new
      none same stale =
          subst (λ (q : Result RanStep NoMemory). GiveCounts (give_kind q) (rules s.origin) old new) (sym stale)
          (record {
            rans = ap (λ v. rans_in (rules s.origin) (history v)) same;
            no_fewer = (let eq = ap (λ v. rans_in (rules s.origin) (history v)) same in omega arith);
            picks = ap (λ v. picks_in (history v)) same;
          })

      by_answer : old.ended ≡ None → (q : Result RanStep NoMemory) →
          IfOk q (λ out. old.ended ≡ None → (t : Start O) → start ≡ Some t → (n : NodeId) × (slice_get (rules t.origin).nodes slot ≡ Some n)
          × Gave (rules t.origin) (of_job t.origin) n slot old new out) →
          OnErr q (history new ≡ history old) → GiveCounts (give_kind q) (rules s.origin) old new
      by_answer on (Ok out) ok err =
          let t = ok on s is in
          let m = rules s.origin in
          record {
            rans = given_rans m t.0 slot old new (of_job s.origin) out t.2;
            no_fewer = (let more = give_rans m t.0 slot old new (of_job s.origin) out t.2 in omega arith);
            picks = give_picks m t.0 slot old new (of_job s.origin) out t.2;
          }
      by_answer on (Err e) ok same = record {
        rans = ap (rans_in (rules s.origin)) same;
        no_fewer = (let eq = ap (rans_in (rules s.origin)) same in omega arith);
        picks = ap picks_in same;
      }

      by_end : (e : Option Ended) → old.ended ≡ e → GiveCounts (give_kind r) (rules s.origin) old new
      by_end None on = by_answer on r ok err
      by_end (Some e) on = let both = ended (subst IsSome (sym on) refl) in none both.1 both.0

-- a refused call leaves the journal
still : {T E J : Type 0} (r : Result T E) (old new : HubView J) → OnErr r (new ≡ record old { spoiled = true; broken = new.broken; jobs = new.jobs }) →
    OnErr r (history new ≡ history old)
still (Ok x) old new left = left
still (Err e) old new left = ap history left

-- the start of a run, and what a call adds to its counts
pub record Adds {O : Type 0} (start : Option (Start O)) (P : Start O → Type 0) : Type 0 where
  pub from : Start O
  pub is : start ≡ Some from
  pub counts : P from

module _ {O J : Type 0} (start : Option (Start O)) (rules : O → Machine) (slot : ℕ) (here : slot < length (nodes_of start rules)) (old new : HubView J) where
  pub turn_adds : (r : Result (TurnOut J) NoMemory) →
      IfOk r (λ out. (t : Start O) → start ≡ Some t → (n : NodeId) × (slice_get (rules t.origin).nodes slot ≡ Some n)
      × IsTurn (rules t.origin) t.turns n slot old new out) →
      OnErr r (new ≡ record old { spoiled = true; broken = new.broken; jobs = new.jobs }) →
      Adds start (λ s. TurnCounts (turn_kind r) (rules s.origin) old new)
  turn_adds r ok err =
      let s = has_start start rules slot here in
      record { from = s.0; is = s.1; counts = turn_counts start rules s.0 s.1 slot old new r ok (still r old new err) }

  pub give_adds : (r : Result RanStep NoMemory) (of_job : O → J → Type 0) →
      (IsSome old.ended → (r ≡ Ok Stale) × (new ≡ old)) →
      IfOk r (λ out. old.ended ≡ None → (t : Start O) → start ≡ Some t → (n : NodeId) × (slice_get (rules t.origin).nodes slot ≡ Some n)
      × Gave (rules t.origin) (of_job t.origin) n slot old new out) →
      OnErr r (new ≡ record old { spoiled = true; broken = new.broken; jobs = new.jobs }) →
      Adds start (λ s. GiveCounts (give_kind r) (rules s.origin) old new)
  give_adds r of_job ended ok err =
      let s = has_start start rules slot here in
      record { from = s.0; is = s.1; counts = give_counts start rules s.0 s.1 slot old new r of_job ended ok (still r old new err) }
