-- What follows from a decision is what the definitions say.
use Rattle.std.proofs.Common.{◌≡◌, ℕ, ◌+◌, ◌^◌, ◌-◌, min, Bool, true, false, List, [], ◌∷◌, ◌++◌, map, Option, None, inr, refl, ap, sym, subst, ◌∙◌, arith}
use Rattle.std.specs.Prelude.{nat_lt, ◌&&◌}
use Rattle.std.specs.List.{list_any}
use Rattle.exec_log.specs.Log.{ending_by}
use Rattle.protocol.specs.Words.{Exec, Choice, Abandon, ToCommit, Content, Body, Puts, Decide}
use Rattle.protocol.specs.Lists.{one_when}
use Rattle.protocol.specs.declared.Fate.{Fate}
use Rattle.protocol.specs.declared.Fate.TheVariants.{Committed, Aborted}
use Rattle.protocol.specs.Client.State as protocol
use Rattle.protocol.specs.Client.State.{Answer, ClientState, CountedVote, Phase, Turn, Walk, may_put, walk}
use Rattle.protocol.specs.Client.State.Phase.{Between, Running, Prepared}
use Rattle.protocol.specs.Client.Attempts.{bumped, is_between, prepare_if_ready}
use Rattle.protocol.specs.Client.Deciding.{conclude, cut, ended, give_up, is_change, moved_on, next_exec, next_execution, noted, other_value, puts_again, relabelled, rewound}
use Rattle.coordinator.specs.Execution as execution
use Rattle.coordinator.specs.Execution.{answers_of, is_pending, shown}
use Rattle.coordinator.specs.declared.execution.Execution.{Execution}
use Rattle.coordinator.specs.declared.memory.Course.{Course}
use Rattle.coordinator.specs.declared.memory.Ballot.{Ballot}
use Rattle.coordinator.specs.declared.memory.Stage.{Stage}
use Rattle.coordinator.specs.declared.memory.Stage.TheVariants as stage
use Rattle.coordinator.specs.declared.memory.Memory.{Memory}
use Rattle.coordinator.specs.Memory.{Given, Holds, StandsFor, Takes, accepts_of, choice_of, current, phase_of, rerun_memory}
use Rattle.coordinator.proofs.AttemptLemmas.{below, least}
use Rattle.coordinator.proofs.MemoryLemmas.{begun_under_way}
use Rattle.coordinator.proofs.SegmentLemmas.{walk_now}

-- a decision is remembered for ever, and no rule reads it
pub stands_noted : (g : Given) (c : ClientState) (m : Memory) (d : Choice) → StandsFor g c m → StandsFor g (noted c d) m
stands_noted g c m d s = record {
  rules = s.rules;
  limits = s.limits;
  programs = s.programs;
  course = s.course;
  within = s.within;
  started = s.started;
  answers = s.answers;
  execution = s.execution;
  phase = s.phase;
  holds = s.holds;
}

-- the attempt ends
pub stands_ended : (g : Given) (c : ClientState) (m : Memory) (f : Fate) → StandsFor g c m → is_between c.phase ≡ false →
    StandsFor g (ended c f) (record m { course = record m.course { fate = f }; stage = stage.Between })
stands_ended g c m f s way = record {
  rules = s.rules;
  limits = s.limits;
  programs = s.programs;
  course = ap (λ (k : Course). record k { fate = f }) s.course;
  within = record { begun = s.within.begun; attempt = s.within.attempt; ts = s.within.ts };
  started = inr (begun_under_way g c m s way);
  answers = s.answers;
  execution = s.execution;
  phase = refl;
  holds = tt;
}

pub exec_is : (g : Given) (c : ClientState) (m : Memory) → StandsFor g c m → c.exec ≡ m.course.exec
exec_is g c m s = ap (λ (k : Course). k.exec) s.course

pub gives_up : (g : Given) (c : ClientState) (m : Memory) (out : List Body) → StandsFor g c m → is_between c.phase ≡ false →
    out ≡ Decide m.course.exec Abandon None ∷ [] →
    Takes g (give_up c) (record m { course = record m.course { fate = Aborted }; stage = stage.Between }) out
unfolding give_up
gives_up g c m out s way is = record {
  state = stands_ended g (noted c Abandon) m Aborted (stands_noted g c m Abandon s) way;
  sent = is ∙ ap (λ x. Decide x Abandon None ∷ []) (sym (exec_is g c m s));
}

pub left_is : (g : Given) (c : ClientState) (m : Memory) → StandsFor g c m → nat_lt (c.exec.eid + 1) g.rules.execs ≡ nat_lt (m.course.exec.eid + 1) m.plan.rules.execs
left_is g c m s =
    ap (λ (x : Exec). nat_lt (x.eid + 1) g.rules.execs) (exec_is g c m s) ∙ ap (λ (r : protocol.Rules). nat_lt (m.course.exec.eid + 1) r.execs) s.rules

-- a prepared client is at that stage
pub record IsPrepared (m : Memory) (b : Ballot) (k : Content) (vs : List CountedVote) (d : Option Choice) (js : List ℕ) : Type 0 where
  pub at : m.stage ≡ stage.Prepared b
  pub content : b.content ≡ k
  pub votes : b.tally.votes ≡ vs
  pub proposal : choice_of b.proposal ≡ d
  pub accepts : accepts_of b.proposal ≡ js
  pub still : is_pending m.execution ≡ false
  pub replicas : b.tally.replicas ≡ m.plan.rules.replicas

prepared_at : (m : Memory) (x : Stage) (content : Content) (votes : List CountedVote) (proposal : Option Choice) (accepts : List ℕ) → m.stage ≡ x →
    Prepared content votes proposal accepts ≡ phase_of x m.execution → Holds m.plan x m.execution → (b : Ballot) × IsPrepared m b content votes proposal accepts
prepared_at m stage.Between content votes proposal accepts is e h = absurd (cc)
prepared_at m (stage.Running given) content votes proposal accepts is e h = absurd (cc)
prepared_at m (stage.Prepared b) content votes proposal accepts is e h =
    (b, record { at = is; content = cc; votes = cc; proposal = cc; accepts = cc; still = h.0; replicas = h.1 })

pub prepared_so : (g : Given) (c : ClientState) (m : Memory) (content : Content) (votes : List CountedVote) (proposal : Option Choice) (accepts : List ℕ) →
    StandsFor g c m → c.phase ≡ Prepared content votes proposal accepts → (b : Ballot) × IsPrepared m b content votes proposal accepts
prepared_so g c m content votes proposal accepts s is =
    prepared_at m m.stage content votes proposal accepts refl (sym is ∙ s.phase) s.holds

-- the next execution has its number
more_is : (g : Given) (c : ClientState) (m : Memory) → StandsFor g c m → nat_lt (c.exec.eid + 1) g.rules.execs ≡ true →
    min (m.course.exec.eid + 1) (2 ^ 32 - 1) ≡ m.course.exec.eid + 1
more_is g c m s more =
    let some = below (m.course.exec.eid + 1) m.plan.rules.execs (sym (left_is g c m s) ∙ more) in
    let most = s.limits.execs in
    least (m.course.exec.eid + 1) (2 ^ 32 - 1) (omega arith)

-- it runs again from a changed answer
pub stands_rewound : (g : Given) (c : ClientState) (m : Memory) (e : Execution) (answers : List Answer) → StandsFor g c m → is_between c.phase ≡ false →
    nat_lt (c.exec.eid + 1) g.rules.execs ≡ true →
    execution.StandsFor (current g.programs m.plan m.course.begun) e → answers ≡ answers_of e → is_pending e ≡ true → e.nexts ≡ [] →
    StandsFor g (rewound c answers)
    (record m { execution = e; stage = stage.Running false; course = record m.course { exec = record { ver = m.course.exec.ver; eid = min (m.course.exec.eid + 1) (2 ^ 32 - 1) }; serial = bumped m.course.serial } })
unfolding rewound
stands_rewound g c m e answers s way more follows are pending nexts = record {
  rules = s.rules;
  limits = s.limits;
  programs = s.programs;
  course =
      ap (λ (k : Course). record k { exec = next_exec k.exec; serial = bumped k.serial }) s.course
      ∙ ap (λ n. record m.course { exec = record { ver = m.course.exec.ver; eid = n }; serial = bumped m.course.serial }) (sym (more_is g c m s more));
  within = record { begun = s.within.begun; attempt = s.within.attempt; ts = s.within.ts };
  started = begun_under_way g c m s way;
  answers = are;
  execution = follows;
  phase = ap (λ b. Running b false) (sym pending);
  holds = nexts;
}

-- it keeps its values, and so its ending
pub stands_relabelled : (g : Given) (c : ClientState) (m : Memory) (e : Execution) → StandsFor g c m → is_between c.phase ≡ false →
    nat_lt (c.exec.eid + 1) g.rules.execs ≡ true →
    execution.StandsFor (current g.programs m.plan m.course.begun) e → answers_of e ≡ map moved_on (answers_of m.execution) → is_pending e ≡ false → e.nexts ≡ [] →
    StandsFor g (relabelled c) (rerun_memory (record m { execution = e }))
unfolding relabelled
stands_relabelled g c m e s way more follows are still nexts = record {
  rules = s.rules;
  limits = s.limits;
  programs = s.programs;
  course =
      ap (λ (k : Course). record k { exec = next_exec k.exec }) s.course
      ∙ ap (λ n. record m.course { exec = record { ver = m.course.exec.ver; eid = n } }) (sym (more_is g c m s more));
  within = record { begun = s.within.begun; attempt = s.within.attempt; ts = s.within.ts };
  started = begun_under_way g c m s way;
  answers = ap (map moved_on) s.answers ∙ sym are;
  execution = follows;
  phase = ap (λ b. Running b false) (sym still);
  holds = nexts;
}

-- the next execution, where a value changes
pub next_rewound : (g : Given) (c : ClientState) (m' : Memory) (sent : List Body) → list_any other_value c.answers ≡ true → StandsFor g (rewound c (cut c.answers)) m' →
    Takes g (next_execution g.rules c sent) m' sent
unfolding next_execution
next_rewound g c m' sent other s = rw other (record { state = s; sent = refl })

-- and where none does
pub next_kept : (g : Given) (c : ClientState) (m m' : Memory) (sent bodies out : List Body) → list_any other_value c.answers ≡ false →
    StandsFor g (relabelled c) m → is_pending m.execution ≡ false →
    bodies ≡ sent ++ one_when (may_put (ending_by m.execution.log.next) && true) (Puts m.course.exec m.execution.log.writes) →
    Takes g (prepare_if_ready g.rules (relabelled c) bodies) m' out → Takes g (next_execution g.rules c sent) m' out
unfolding next_execution
next_kept g c m m' sent bodies out other s still is takes =
    let w : walk g.rules (relabelled c) ≡ shown m.execution.log = walk_now g (relabelled c) m s still in
    let x = exec_is g (relabelled c) m s in
    let again : puts_again g.rules (relabelled c) ≡ one_when (may_put (ending_by m.execution.log.next) && true) (Puts m.course.exec m.execution.log.writes) =
    ap (λ (v : Walk). one_when (may_put v.ending) (Puts (relabelled c).exec v.writes)) w
    ∙ ap (λ y. one_when (may_put (ending_by m.execution.log.next)) (Puts y m.execution.log.writes)) x
    ∙ ap (λ b. one_when b (Puts m.course.exec m.execution.log.writes)) (sym (and_true (may_put (ending_by m.execution.log.next)))) in
    rw other (subst (λ bs. Takes g (prepare_if_ready g.rules (relabelled c) bs) m' out) (is ∙ ap (λ ps. sent ++ ps) (sym again)) takes)
  where
    and_true : (b : Bool) → (b && true) ≡ b
    and_true true = refl
    and_true false = refl

-- ---- what follows from a decision

pub concludes_commit : (g : Given) (c : ClientState) (m : Memory) (sent : List Body) → StandsFor g c m → is_between c.phase ≡ false →
    Takes g (conclude g.rules c ToCommit sent) (record m { course = record m.course { fate = Committed }; stage = stage.Between }) sent
unfolding conclude
concludes_commit g c m sent s way = record { state = stands_ended g (noted c ToCommit) m Committed (stands_noted g c m ToCommit s) way; sent = refl }

pub concludes_abort : (g : Given) (c : ClientState) (m : Memory) (sent : List Body) → StandsFor g c m → is_between c.phase ≡ false →
    (list_any is_change c.answers && nat_lt (c.exec.eid + 1) g.rules.execs) ≡ false →
    Takes g (conclude g.rules c Abandon sent) (record m { course = record m.course { fate = Aborted }; stage = stage.Between }) sent
unfolding conclude
concludes_abort g c m sent s way e = rw e (record { state = stands_ended g (noted c Abandon) m Aborted (stands_noted g c m Abandon s) way; sent = refl })

pub concludes_next : (g : Given) (c : ClientState) (m' : Memory) (sent out : List Body) → (list_any is_change c.answers && nat_lt (c.exec.eid + 1) g.rules.execs) ≡ true →
    Takes g (next_execution g.rules (noted c Abandon) sent) m' out → Takes g (conclude g.rules c Abandon sent) m' out
unfolding conclude
concludes_next g c m' sent out e takes = rw e takes

pub both_true : (a b : Bool) → (a && b) ≡ true → b ≡ true
both_true true b e = e
both_true false b e = cc
