-- What a client that is stood for does on the answers so far.
use Rattle.std.proofs.Common.{◌≡◌, ◌-◌, ◌<◌, inl, inr, Bool, true, false, not, List, Option, Some, None, refl, ap, sym, ◌∙◌, ℤ}
use Rattle.std.specs.Prelude.{is_some, slice_get, option_map}
use Rattle.std.proofs.lemmas.Option.{slice_get-map}
use Rattle.protocol.specs.Client.State as protocol
use Rattle.protocol.specs.Client.State.{ClientState, Phase, Txn, walk, walk_at, values}
use Rattle.protocol.specs.Client.State.Phase.{Between, Running, Prepared}
use Rattle.protocol.specs.Client.Attempts.{is_aborted, is_between}
use Rattle.protocol.specs.Client.Step.{on_hurry}
use Rattle.coordinator.specs.Execution.{Loaded, walk_of}
use Rattle.coordinator.specs.declared.memory.Txn2.{Txn2}
use Rattle.coordinator.specs.declared.memory.Course.{Course}
use Rattle.coordinator.specs.declared.memory.Proposed.{Proposed}
use Rattle.coordinator.specs.declared.memory.Ballot.{Ballot}
use Rattle.coordinator.specs.declared.memory.Stage.{Stage}
use Rattle.coordinator.specs.declared.memory.Stage.TheVariants as stage
use Rattle.coordinator.specs.declared.memory.Memory.{Memory}
use Rattle.coordinator.specs.Memory.{Given, HasBegun, StandsFor, accepts_of, choice_of, program_of, current, txn_in, phase_of}

-- the program of a transaction does what its walk says
walk_in : (programs : List Loaded) (o : Option Txn2) (vs : List ℤ) → walk_at (option_map (txn_in programs) o) vs ≡ walk_of (program_of programs o) vs
walk_in programs None vs = refl
walk_in programs (Some t) vs = refl

pub walk_is : (g : Given) (c : ClientState) (m : Memory) → StandsFor g c m → (vs : List ℤ) →
    walk_at (slice_get g.rules.txns (c.begun - 1)) vs ≡ walk_of (current g.programs m.plan m.course.begun) vs
walk_is g c m s vs =
    ap (λ (r : protocol.Rules). walk_at (slice_get r.txns (c.begun - 1)) vs) s.rules
    ∙ ap (λ o. walk_at o vs) (slice_get-map (txn_in g.programs) m.plan.txns (c.begun - 1))
    ∙ walk_in g.programs (slice_get m.plan.txns (c.begun - 1)) vs
    ∙ ap (λ n. walk_of (current g.programs m.plan n) vs) (ap (λ (k : Course). k.begun) s.course)

begun_at : (x : Stage) (m : Memory) → is_between (phase_of x m.execution) ≡ false → HasBegun x m.course → 0 < m.course.begun
begun_at stage.Between m e h = absurd (cc)
begun_at (stage.Running given) m e h = h
begun_at (stage.Prepared b) m e h = h

-- where an attempt is under way, a transaction was begun
pub begun_under_way : (g : Given) (c : ClientState) (m : Memory) → StandsFor g c m → is_between c.phase ≡ false → 0 < m.course.begun
begun_under_way g c m s way = begun_at m.stage m (ap is_between (sym s.phase) ∙ way) s.started

begun_once : (x : Stage) (k : Course) → is_aborted k.fate ≡ true → HasBegun x k → 0 < k.begun
begun_once stage.Between k e (inl f) = absurd (let no : is_aborted k.fate ≡ false = ap is_aborted f in cc)
begun_once stage.Between k e (inr h) = h
begun_once (stage.Running given) k e h = h
begun_once (stage.Prepared b) k e h = h

-- and where the last one was aborted
pub begun_before : (g : Given) (c : ClientState) (m : Memory) → StandsFor g c m → is_aborted c.fate ≡ true → 0 < m.course.begun
begun_before g c m s aborted = begun_once m.stage m.course (ap (λ (k : Course). is_aborted k.fate) (sym s.course) ∙ aborted) s.started

hurries_at : (r : protocol.Rules) (c : ClientState) (b : Ballot) (o : Option Proposed) →
    not (is_some o) ≡ is_some (on_hurry r c (Prepared b.content b.tally.votes (choice_of o) (accepts_of o)))
unfolding on_hurry
hurries_at r c b None = refl
hurries_at r c b (Some d) = refl

-- it can hurry while prepared, until it proposed
pub hurry_prepared : (g : Given) (c : ClientState) (m : Memory) (b : Ballot) → StandsFor g c m → m.stage ≡ stage.Prepared b →
    not (is_some b.proposal) ≡ is_some (on_hurry g.rules c c.phase)
hurry_prepared g c m b s is =
    hurries_at g.rules c b b.proposal ∙ ap (λ p. is_some (on_hurry g.rules c p)) (sym (s.phase ∙ ap (λ x. phase_of x m.execution) is))

hurries_not : (r : protocol.Rules) (c : ClientState) (m : Memory) (x : Stage) → ((b : Ballot) → x ≡ stage.Prepared b → ⊥) →
    false ≡ is_some (on_hurry r c (phase_of x m.execution))
unfolding on_hurry
hurries_not r c m stage.Between h = refl
hurries_not r c m (stage.Running given) h = refl
hurries_not r c m (stage.Prepared b) h = absurd (h b refl)

pub hurry_else : (g : Given) (c : ClientState) (m : Memory) → StandsFor g c m → ((b : Ballot) → m.stage ≡ stage.Prepared b → ⊥) →
    false ≡ is_some (on_hurry g.rules c c.phase)
hurry_else g c m s h = hurries_not g.rules c m m.stage h ∙ ap (λ p. is_some (on_hurry g.rules c p)) (sym s.phase)

-- a test is the other way round
pub turned : (r b : Bool) → b ≡ not r → r ≡ not b
turned true b e = sym (ap not e)
turned false b e = sym (ap not e)
