-- What an envelope does, by its body and by the stage of the execution.
use Rattle.std.proofs.Common.{◌≡◌, ℕ, ℤ, Bool, true, false, List, [], Option, Some, refl, ap, sym, subst, ◌∙◌}
use Rattle.protocol.specs.Words.{Exec, Version, Key, Wid, NodeId, Vote, Choice, Abandon, ToCommit, Content, Body, Note, TooOld, Decide, Voted, Accepted}
use Rattle.protocol.specs.declared.Fate.TheVariants.{Committed, Aborted}
use Rattle.protocol.specs.Client.State as protocol
use Rattle.protocol.specs.Client.State.{ClientState, CountedVote, Turn, idle, turn_when}
use Rattle.protocol.specs.Client.State.Phase.{Between, Running, Prepared}
use Rattle.protocol.specs.Client.Attempts.{is_between}
use Rattle.protocol.specs.Client.Deciding.{noted}
use Rattle.protocol.specs.Client.Step.{client_step, comes, comes_prepared, comes_running, told_running}
use Rattle.protocol.specs.Client.Step.Input.{Comes}
use Rattle.coordinator.specs.declared.memory.Stage.{Stage}
use Rattle.coordinator.specs.declared.memory.Stage.TheVariants as stage
use Rattle.coordinator.specs.declared.memory.Memory.{Memory}
use Rattle.coordinator.specs.Memory.{Given, StandsFor, Takes, phase_of}
use Rattle.coordinator.specs.Step.{fate_of}
use Rattle.coordinator.proofs.DecidingLemmas.{stands_ended, stands_noted}

-- ---- where a test holds

pub takes_not : (g : Given) (c : ClientState) (m : Memory) (t : Turn) (b : Bool) (out : List Body) → StandsFor g c m → b ≡ false → out ≡ [] →
    Takes g (turn_when b c t) m out
takes_not g c m t b out s fails is = rw fails (record { state = s; sent = is })

pub takes_when : (g : Given) (c : ClientState) (m' : Memory) (t : Turn) (b : Bool) (out : List Body) → b ≡ true → Takes g t m' out →
    Takes g (turn_when b c t) m' out
takes_when g c m' t b out holds takes = rw holds takes

-- ---- what no rule names

pub running_else : (r : protocol.Rules) (c : ClientState) (p : Bool) (from : NodeId) (b : Body) →
    ((version : Version) (k : Key) (wid : Wid) (value : ℤ) (sure : Bool) (gone : Option Wid) → b ≡ Note version k wid value sure gone → ⊥) →
    ((version dropped : Version) → b ≡ TooOld version dropped → ⊥) →
    ((x : Exec) (choice : Choice) (content : Option Content) → b ≡ Decide x choice content → ⊥) → comes_running r c p from b ≡ idle c
unfolding comes_running
running_else r c p from (Note version k wid value sure gone) note old decide = absurd (note version k wid value sure gone refl)
running_else r c p from (TooOld version dropped) note old decide = absurd (old version dropped refl)
running_else r c p from (Decide x choice content) note old decide = absurd (decide x choice content refl)
running_else r c p from _ note old decide = refl

pub prepared_else : (r : protocol.Rules) (c : ClientState) (k : Content) (votes : List CountedVote) (proposal : Option Choice) (accepts : List ℕ)
    (from : NodeId) (b : Body) →
    ((version : Version) (k : Key) (wid : Wid) (value : ℤ) (sure : Bool) (gone : Option Wid) → b ≡ Note version k wid value sure gone → ⊥) →
    ((x : Exec) (choice : Choice) (content : Option Content) → b ≡ Decide x choice content → ⊥) →
    ((x : Exec) (vote : Vote) → b ≡ Voted x vote → ⊥) → ((x : Exec) (view : ℕ) → b ≡ Accepted x view → ⊥) →
    comes_prepared r c k votes proposal accepts from b ≡ idle c
unfolding comes_prepared
prepared_else r c k votes proposal accepts from (Note version key wid value sure gone) note decide vote accept =
    absurd (note version key wid value sure gone refl)
prepared_else r c k votes proposal accepts from (Decide x choice content) note decide vote accept = absurd (decide x choice content refl)
prepared_else r c k votes proposal accepts from (Voted x v) note decide vote accept = absurd (vote x v refl)
prepared_else r c k votes proposal accepts from (Accepted x view) note decide vote accept = absurd (accept x view refl)
prepared_else r c k votes proposal accepts from _ note decide vote accept = refl

pub takes_idle : (g : Given) (c : ClientState) (m : Memory) (t : Turn) (out : List Body) → StandsFor g c m → t ≡ idle c → out ≡ [] → Takes g t m out
takes_idle g c m t out s same is = subst (λ (u : Turn). Takes g u m out) (sym same) (record { state = s; sent = is })

-- ---- a warden's decision ends an attempt that runs

pub tells : (g : Given) (c : ClientState) (m : Memory) (d : Choice) (out : List Body) → StandsFor g c m → is_between c.phase ≡ false → out ≡ [] →
    Takes g (told_running c d) (record m { course = record m.course { fate = fate_of d }; stage = stage.Between }) out
tells g c m ToCommit out s way is = record { state = stands_ended g (noted c ToCommit) m Committed (stands_noted g c m ToCommit s) way; sent = is }
tells g c m Abandon out s way is = record { state = stands_ended g (noted c Abandon) m Aborted (stands_noted g c m Abandon s) way; sent = is }

-- ---- by stage

pub comes_between : (g : Given) (c : ClientState) (m : Memory) (from : NodeId) (b : Body) (out : List Body) → StandsFor g c m → m.stage ≡ stage.Between →
    out ≡ [] →
    Takes g (comes g.rules c c.phase from b) m out
unfolding comes
comes_between g c m from b out s at is =
    subst (λ p. Takes g (comes g.rules c p from b) m out) (sym (s.phase ∙ ap (λ x. phase_of x m.execution) at)) (record { state = s; sent = is })

pub phase_is : (g : Given) (c : ClientState) (m : Memory) (x : Stage) → StandsFor g c m → m.stage ≡ x → c.phase ≡ phase_of x m.execution
phase_is g c m x s at = s.phase ∙ ap (λ y. phase_of y m.execution) at

pub comes_while_running : (g : Given) (c : ClientState) (m' : Memory) (p q : Bool) (from : NodeId) (b : Body) (out : List Body) → c.phase ≡ Running p q →
    Takes g (comes_running g.rules c p from b) m' out → Takes g (comes g.rules c c.phase from b) m' out
unfolding comes
comes_while_running g c m' p q from b out runs takes = subst (λ x. Takes g (comes g.rules c x from b) m' out) (sym runs) takes

pub comes_while_prepared : (g : Given) (c : ClientState) (m' : Memory) (content : Content) (votes : List CountedVote) (proposal : Option Choice)
    (accepts : List ℕ) (from : NodeId) (b : Body) (out : List Body) →
    c.phase ≡ Prepared content votes proposal accepts →
    Takes g (comes_prepared g.rules c content votes proposal accepts from b) m' out → Takes g (comes g.rules c c.phase from b) m' out
unfolding comes
comes_while_prepared g c m' content votes proposal accepts from b out is takes = subst (λ x. Takes g (comes g.rules c x from b) m' out) (sym is) takes

-- an envelope can always come
pub comes_step : (r : protocol.Rules) (c : ClientState) (t : Turn) (from : NodeId) (b : Body) → client_step r c (Comes from b) ≡ Some t →
    t ≡ comes r c c.phase from b
unfolding client_step
comes_step r c t from b e = let same : comes r c c.phase from b ≡ t = cc in sym same
