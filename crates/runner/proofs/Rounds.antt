-- A round, visit by visit: where all rest the run is quiet, so that a round after which it goes on leaves less to do.
use Rattle.std.proofs.Common.{◌≡◌, ℕ, ◌+◌, ◌<◌, ◌≤◌, ◌⊎◌, inl, inr, true, false, length}
use Rattle.std.proofs.Common.{Option, Some, None, is_some, refl, sym, ◌∙◌, ap, subst, lt_trans, eq-or-lt_of_le, arith}
use Rattle.std.proofs.Common.{List, [], ◌∷◌, ◌++◌, suc, Bool, cond, drop, take, append-nil}
use Rattle.std.specs.Prelude.{find, not}
use Rattle.std.specs.List.{slice_get}
use Rattle.std.proofs.lemmas.Option.{slice_get_within}
use Rattle.morty_base.specs.declared.names.NodeId.{NodeId}
use Rattle.morty_base.specs.declared.names.Ended.{Ended}
use Rattle.net_core.specs.Machine.{History, Machine}
use Rattle.net_core.specs.Marks.{is_quiet, is_full, rests}
use Rattle.hub.specs.Starts.{Start}
use Rattle.hub.specs.Views.{HubView, history, told_end}
use Rattle.hub.proofs.Lists.{all_from}
use Rattle.net_core.specs.Rounds.{due, InTurns, InRounds}
use Rattle.runner.specs.AtSlot.{IsAtSlot, KeepsTurns, HasTurns, first_from}
use Rattle.runner.specs.Progress.{IsRecalled, Fell, IsVisited, IsRound, IsRoundSoFar, rank, rank_at}

pub none_visited : {J : Type 0} (m : Machine) (turns : ℕ) (old : HubView J) → IsRecalled m old → IsRoundSoFar m turns 0 old old
none_visited m turns old on = (on, inr (record { same = refl; not_quiet = λ z. absurd (omega arith); rests = λ j n z. absurd (omega arith) }))

-- less is left than at first, where the history is the same from there on
fell_so : {J : Type 0} (m : Machine) (turns : ℕ) (old mid new : HubView J) → history new ≡ history mid → Fell m turns old mid → Fell m turns old new
fell_so m turns old mid new same fell = subst (λ h. rank m turns h < rank m turns (history old)) (sym same) fell

pub one_more : {J : Type 0} (m : Machine) (turns k : ℕ) (old mid new : HubView J) → IsRoundSoFar m turns k old mid → IsVisited m turns k mid new →
    is_some new.ended ≡ false → IsRoundSoFar m turns (k + 1) old new
one_more m turns k old mid new so (inl ended) on = absurd (let t : true ≡ false = sym ended ∙ on in cc)
one_more m turns k old mid new (_, inl fell) (inr (recalled, inl less)) on = (recalled, inl (lt_trans less fell))
one_more m turns k old mid new (_, inl fell) (inr (recalled, inr rested)) on = (recalled, inl (fell_so m turns old mid new rested.same fell))
one_more m turns k old mid new (_, inr all) (inr (recalled, inl less)) on =
    (recalled, inl (subst (λ h. rank m turns (history new) < rank m turns h) all.same less))
one_more m turns k old mid new (_, inr all) (inr (recalled, inr rested)) on = (
  recalled,
  inr (record {
    same = rested.same ∙ all.same;
    not_quiet = λ _. ap (is_quiet m) (sym all.same) ∙ rested.not_quiet;
    rests = λ j n lt there. by_place j n there (below j lt);
  }),
)
  where
    below : (j : ℕ) → j < k + 1 → (j < k) ⊎ (j ≡ k)
    below j lt = elim ((let le : j ≤ k = omega (arith, lt) in eq-or-lt_of_le le)) [ inl e ↦ inr e | inr l ↦ inl l ]

    by_place : (j : ℕ) (n : NodeId) → slice_get m.nodes j ≡ Some n → (j < k) ⊎ (j ≡ k) → rests m (history old) n ≡ true
    by_place j n there (inl less) = all.rests j n less there
    by_place j n there (inr here) = ap (λ h. rests m h n) (sym all.same) ∙ rested.rests n (ap (slice_get m.nodes) (sym here) ∙ there)

-- the round is over
pub all_visited : {J : Type 0} (m : Machine) (turns : ℕ) (old new : HubView J) → 1 ≤ length m.nodes → IsRoundSoFar m turns (length m.nodes) old new →
    IsRecalled m new × Fell m turns old new
all_visited m turns old new some (recalled, inl fell) = (recalled, fell)
all_visited m turns old new some (recalled, inr all) =
    let quiet : is_quiet m (history old) ≡ true = all_from (rests m (history old)) m.nodes
    (λ j n there. all.rests j n (slice_get_within m.nodes j n there) there) in
    absurd (let t : true ≡ false = sym quiet ∙ all.not_quiet some in cc)

pub rank_falls : {O J : Type 0} (start : Option (Start O)) (rules : O → Machine) (s : Start O) (old new : HubView J) → start ≡ Some s →
    Fell (rules s.origin) s.turns old new → rank_at start rules new < rank_at start rules old
rank_falls {O} None rules s old new is fell = absurd (let t : ◌≡◌ {A = Option (Start O)} None (Some s) = is in cc)
rank_falls {O} (Some z) rules s old new is fell =
    let t : ◌≡◌ {A = Option (Start O)} (Some z) (Some s) = is in
    let same : z ≡ s = cc in
    subst (λ (x : Start O). rank (rules x.origin) x.turns (history new) < rank (rules x.origin) x.turns (history old)) (sym same) fell

all_dropped : (ns : List NodeId) → drop (length ns) ns ≡ []
all_dropped [] = refl
all_dropped (n ∷ ns) = all_dropped ns

all_taken : (ns : List NodeId) → take (length ns) ns ≡ ns
all_taken [] = refl
all_taken (n ∷ ns) = ap (λ xs. n ∷ xs) (all_taken ns)

-- behind the last slot comes the first
from_last : (m : Machine) (h : History) → first_from m (length m.nodes) h ≡ first_from m 0 h
from_last m h = ap (find (λ n. not (rests m h n)))
    ((λ i. all_dropped m.nodes i ++ all_taken m.nodes i) ∙ sym (append-nil m.nodes))

pub turned_round : {J : Type 0} (m : Machine) (turns slot : ℕ) (v : HubView J) → slot ≡ length m.nodes → IsAtSlot m turns slot v → IsAtSlot m turns 0 v
turned_round m turns slot v last at = record {
  no_end = at.no_end;
  not_full = at.not_full;
  in_turns = at.in_turns;
  due_node = at.due_node ∙ ap (λ k. first_from m k (history v)) last ∙ from_last m (history v);
}

-- where the run has not ended, the next slot is looked at
pub next_slot : {J : Type 0} (m : Machine) (turns slot : ℕ) (v : HubView J) → KeepsTurns m turns slot v → is_some v.ended ≡ false →
    IsAtSlot m turns (suc slot) v
next_slot m turns slot v (inl over) on = absurd (let t : true ≡ false = sym over.0 ∙ on in cc)
next_slot m turns slot v (inr at) on = at

-- where it has, it was made in rounds
pub over_at : {J : Type 0} (m : Machine) (turns slot : ℕ) (v : HubView J) → KeepsTurns m turns slot v → is_some v.ended ≡ true →
    (is_some v.ended ≡ true) × InRounds m turns (history v)
over_at m turns slot v (inl over) ended = over
over_at m turns slot v (inr at) ended = absurd (let t : true ≡ false = sym ended ∙ ap is_some at.no_end in cc)

none_either : (b : Bool) → cond {A = Option Ended} b None None ≡ None
none_either true = refl
none_either false = refl

none_told : {J : Type 0} (v : HubView J) → v.ended ≡ None → told_end v ≡ None
none_told v none = ap (λ (o : Option Ended). cond v.spoiled None o) none ∙ none_either v.spoiled

pub made_in_rounds : {J : Type 0} (m : Machine) (turns : ℕ) (v : HubView J) → HasTurns m turns v → is_some (told_end v) ≡ true → InRounds m turns (history v)
made_in_rounds m turns v (inl over) told = over.1
made_in_rounds m turns v (inr at) told = absurd (let t : true ≡ false = sym told ∙ ap is_some (none_told v at.no_end) in cc)

pub goes_on : {J : Type 0} (m : Machine) (turns : ℕ) (v : HubView J) → HasTurns m turns v → is_some (told_end v) ≡ false → IsAtSlot m turns 0 v
goes_on m turns v (inl over) none = absurd (let t : true ≡ false = sym over.0 ∙ none in cc)
goes_on m turns v (inr at) none = at

pub still_recalled : {J : Type 0} (m : Machine) (turns : ℕ) (old new : HubView J) → IsRound m turns old new → is_some (told_end new) ≡ false → IsRecalled m new
still_recalled m turns old new (inl told) none = absurd (let t : true ≡ false = sym told ∙ none in cc)
still_recalled m turns old new (inr on) none = on.0

-- before the first event the first slot is looked at
pub at_first : {J : Type 0} (m : Machine) (turns : ℕ) (v : HubView J) → v.ended ≡ None → history v ≡ [] → IsAtSlot m turns 0 v
at_first m turns v on none = record {
  no_end = on;
  not_full = ap (is_full m) none;
  in_turns = subst (λ h. InTurns m turns h) (sym none) tt;
  due_node = subst (λ h. due m h ≡ first_from m 0 h) (sym none) (ap (find (λ n. not (rests m [] n))) (sym (append-nil m.nodes)));
}
