-- What is kept and told after a segment was given back.
use Rattle.std.proofs.Common.{◌≡◌, ◌≢◌, ℕ, ◌+◌, ◌-◌, ◌^◌, ◌<◌, ◌≤◌, Bool, false, List, [], ◌∷◌}
use Rattle.std.proofs.Common.{◌++◌, length, replicate, map, Option, Some, None, refl, sym, ◌∙◌, ap, arith}
use Rattle.std.specs.Prelude.{reverse}
use Rattle.std.proofs.lemmas.List.{reverse-append, length-map}
use Rattle.morty_base.specs.declared.names.NodeId.{NodeId}
use Rattle.morty_base.specs.declared.names.NodeId.TheVariants.{Client}
use Rattle.morty_base.specs.declared.names.Ended.{Ended}
use Rattle.msg.specs.declared.Event.{Event}
use Rattle.msg.specs.declared.Event.TheVariants.{Picked, Ran}
use Rattle.net_core.specs.Machine.{History, Machine, Effect, Moves, Refused, Not_enabled}
use Rattle.net_core.specs.Marks.{mark_after, is_marked}
use Rattle.net_core.specs.Replay.{IsGiven}
use Rattle.net_core.specs.Ruled.{LinkState}
use Rattle.net_core.specs.declared.machine.RanStep.{RanStep}
use Rattle.net_core.specs.declared.machine.RanStep.TheVariants.{Used, Stale, Full}
use Rattle.hub.specs.Starts.{Start}
use Rattle.hub.specs.Views.{HubView, history, job_in}
use Rattle.hub.specs.Turns.{Gave, journal_given, marks_given, handed_given, used_given, ended_given}
use Rattle.hub.specs.Kept.{IsKept, IsNoted, picks_in, rans_in, one_if_moved}
use Rattle.hub.proofs.Lists.{map_same}
use Rattle.hub.proofs.Linking.{links_ran}
use Rattle.hub.proofs.Ends.{ends_full, not_full_by}

marks_ran : (m : Machine) (h : History) (c : ℕ) (nodes : List NodeId) → m.effect h (Ran c) ≡ Moves →
    replicate (length (map (is_marked m h) nodes)) false ≡ map (is_marked m (Ran c ∷ h)) nodes
marks_ran m h c nodes is =
    ap (λ k. replicate k false) (length-map nodes (is_marked m h))
    ∙ map_same false nodes ∙ ap (λ f. map (λ k. mark_after k (Ran c) f (is_marked m h k)) nodes) (sym is)

marks_full : (m : Machine) (h : History) (c : ℕ) (nodes : List NodeId) → m.effect h (Ran c) ≡ Refused →
    map (is_marked m h) nodes ≡ map (is_marked m (Ran c ∷ h)) nodes
marks_full m h c nodes is = ap (λ f. map (λ k. mark_after k (Ran c) f (is_marked m h k)) nodes) (sym is)

-- the history, where the client is the right one
history_given : (events : List Event) (client c : ℕ) → client ≡ c → reverse (events ++ Ran client ∷ []) ≡ Ran c ∷ reverse events
history_given events client c same = reverse-append events (Ran client ∷ []) ∙ ap (λ k. Ran k ∷ reverse events) same

pub given_noted : {J : Type 0} (m : Machine) (turns : ℕ) (pending : Option J) (of_job : J → Type 0) (after : History → Type 0)
    (events : List Event) (used : ℕ) (n : NodeId) (client : ℕ) (out : RanStep) → IsNoted m turns (reverse events) used None →
    IsGiven m pending of_job (reverse events) n out after → ((c : ℕ) → n ≡ Client c → client ≡ c) → used < 2 ^ 64 - 1 →
    IsNoted m turns (reverse (journal_given out client events)) (used_given out used) (ended_given out)
given_noted m turns pending of_job after events used n client Stale noted given is room = noted
given_noted m turns pending of_job after events used n client Used noted given is room =
    let h = reverse events in
    let c = given.0 in
    rw (history_given events client c (is c given.1.node)) (record {
      used_are =
          (let was = noted.used_are in
          let one : rans_in m (Ran c ∷ h) ≡ rans_in m h + 1 = ap (λ f. rans_in m h + one_if_moved f) given.1.effect in
          omega arith);
      ends = λ e none. absurd (let t : ◌≡◌ {A = Option Ended} None (Some e) = none in cc);
    })
given_noted m turns pending of_job after events used n client Full noted given is room =
    let h = reverse events in
    let c = given.0 in
    rw (history_given events client c (is c given.1.node)) (record {
      used_are =
          (let was = noted.used_are in
          let none : rans_in m (Ran c ∷ h) ≡ rans_in m h + 0 = ap (λ f. rans_in m h + one_if_moved f) given.1.effect in
          omega arith);
      ends = λ e end. ends_full m turns h (Ran c) Refused given.1.effect e end;
    })

pub given_kept : {O J : Type 0} (rules : O → Machine) (pending : Option J) (of_job : J → Type 0) (before after : O → History → Type 0)
    (s : Start O) (events : List Event) (links : List LinkState) (turns : ℕ) (marks : List Bool) (made : List ℕ) (n : NodeId) (client : ℕ) (out : RanStep) →
    IsKept rules before s (reverse events) links turns marks made None → IsGiven (rules s.origin) pending of_job (reverse events) n out (after s.origin) →
    ((c : ℕ) → n ≡ Client c → client ≡ c) →
    IsKept rules after s (reverse (journal_given out client events)) links turns (marks_given out marks) made (ended_given out)
given_kept rules pending of_job before after s events links turns marks made n client Stale kept given is = record {
  run = record { replay = given.1; links = kept.run.links };
  turns_are = kept.turns_are;
  marks_are = kept.marks_are;
  made_are = kept.made_are;
  not_full = kept.not_full;
}
given_kept rules pending of_job before after s events links turns marks made n client Used kept given is =
    let m = rules s.origin in
    let h = reverse events in
    let c = given.0 in
    rw (history_given events client c (is c given.1.node)) (record {
      run = record { replay = given.2; links = links_ran m h c m.nodes s.links links kept.run.links };
      turns_are = kept.turns_are;
      marks_are = ap (λ ms. replicate (length ms) false) kept.marks_are ∙ marks_ran m h c m.nodes given.1.effect;
      made_are = kept.made_are;
      not_full = λ none. not_full_by m h (Ran c) Moves given.1.effect refl;
    })
given_kept rules pending of_job before after s events links turns marks made n client Full kept given is =
    let m = rules s.origin in
    let h = reverse events in
    let c = given.0 in
    rw (history_given events client c (is c given.1.node)) (record {
      run = record { replay = given.2; links = links_ran m h c m.nodes s.links links kept.run.links };
      turns_are = kept.turns_are;
      marks_are = kept.marks_are ∙ marks_full m h c m.nodes given.1.effect;
      made_are = kept.made_are;
      not_full = λ none. not_full_by m h (Ran c) Refused given.1.effect none;
    })

one_le : (f : Effect) → one_if_moved f ≤ 1
one_le Moves = omega arith
one_le Refused = omega arith
one_le Not_enabled = omega arith

pub rans_in_le : (m : Machine) (h : History) → rans_in m h ≤ length h
rans_in_le m [] = omega arith
rans_in_le m (Picked n p ∷ h) = let i = rans_in_le m h in omega arith
rans_in_le m (Ran c ∷ h) = let i = rans_in_le m h in let o = one_le (m.effect h (Ran c)) in omega arith

-- what callers see of it
pub gave : {J : Type 0} (m : Machine) (of_job : J → Type 0) (after : History → Type 0) (v : HubView J) (jobs : List (Option J)) (n : NodeId)
    (slot client : ℕ) (out : RanStep) → v.ended ≡ None → v.broken ≡ false → IsGiven m (job_in v.jobs slot) of_job (history v) n out after →
    (out ≢ Used → jobs ≡ v.jobs) → ((c : ℕ) → n ≡ Client c → client ≡ c) →
    Gave m of_job n slot v (record v {
      journal = journal_given out client v.journal;
      jobs = jobs;
      handed = handed_given out slot v.handed;
      ended = ended_given out;
      broken = false;
    }) out
gave m of_job after v jobs n slot client Stale none whole given still is = (
  given.0,
  λ i. record v { jobs = still (λ e. let t : Stale ≡ Used = e in absurd cc) i; ended = sym none i; broken = sym whole i },
)
gave m of_job after v jobs n slot client Used none whole given still is = (
  given.0,
  given.1,
  λ i. record v {
    journal = v.journal ++ Ran (is given.0 given.1.node i) ∷ [];
    jobs = jobs;
    handed = handed_given Used slot v.handed;
    ended = sym none i;
    broken = sym whole i;
  },
)
gave m of_job after v jobs n slot client Full none whole given still is = (
  given.0,
  given.1,
  λ i. record v {
    journal = v.journal ++ Ran (is given.0 given.1.node i) ∷ [];
    jobs = still (λ e. let t : Full ≡ Used = e in absurd cc) i;
    ended = ended_given Full;
    broken = sym whole i;
  },
)

-- giving a segment back is no pick
pub picks_given : (out : RanStep) (client : ℕ) (events : List Event) → picks_in (reverse (journal_given out client events)) ≡ picks_in (reverse events)
picks_given Stale client events = refl
picks_given Used client events = ap picks_in (reverse-append events (Ran client ∷ []))
picks_given Full client events = ap picks_in (reverse-append events (Ran client ∷ []))
