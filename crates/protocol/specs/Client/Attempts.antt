-- How a client begins an attempt, takes what its program did, and prepares.
use Rattle.std.specs.Prelude.{ℕ, ℤ, ◌+◌, ◌-◌, ◌*◌, ◌^◌, min, max, Bool, true, false, cond, not, ◌&&◌, ◌||◌, ◌==◌, nat_lt, List, [], ◌∷◌, ◌++◌, length, take, Option, Some, None}
use Rattle.std.specs.List.{list_all, slice_get}
use Rattle.protocol.specs.Words.{Version, Exec, Key, Ending, Body, Get, Puts, Prepare}
use Rattle.protocol.specs.Lists.{one_when}
use Rattle.protocol.specs.declared.Fate.{Fate}
use Rattle.protocol.specs.Client.State.{ClientState, Phase, Rules, Turn, Txn, content, idle, may_put, values, walk, walk_at}
use Rattle.protocol.specs.Client.State.Phase.{Between, Running, Prepared}
use Rattle.protocol.specs.declared.Fate.TheVariants.{Live, Aborted}

-- serials of jobs rise by one, up to the greatest u64
abbrev pub bumped : ℕ → ℕ
bumped s = min (s + 1) (2 ^ 64 - 1)

-- where the execution has ended and each read is sure, it is prepared at once
abbrev pub prepare_when : Rules → ClientState → List Body → Option Ending → Bool → Turn
prepare_when rules c sent (Some e) true = record {
  state = record c { phase = Prepared (content rules c e) [] None [] };
  sent = sent ++ Prepare c.exec (content rules c e) ∷ [];
}
prepare_when rules c sent _ _ = record { state = c; sent = sent }

-- an execution is prepared once it has ended and each of its reads is sure
unfoldable pub prepare_if_ready : Rules → ClientState → List Body → Turn
prepare_if_ready rules c sent = prepare_when rules c sent (walk rules c).ending (list_all (λ a. a.label.sure) c.answers)

-- the attempt was aborted
abbrev pub is_aborted : Fate → Bool
is_aborted Aborted = true
is_aborted _ = false

-- an aborted transaction has a try left
abbrev pub tries_again : Rules → ClientState → Bool
tries_again rules c = is_aborted c.fate && nat_lt c.try rules.tries

-- no attempt is under way
abbrev pub is_between : Phase → Bool
is_between Between = true
is_between _ = false

-- a try or a transaction is left to begin
abbrev pub can_go : Rules → ClientState → Bool
can_go rules c = is_between c.phase && (tries_again rules c || nat_lt c.begun (length rules.txns))

-- when a transaction starts
abbrev pub start_of : Option Txn → ℕ
start_of None = 0
start_of (Some t) = t.at

-- the version of a try: its transaction's start, later by a gap with each try, and later than all versions of this
-- client before
abbrev pub next_version : Rules → ClientState → ℕ → ℕ → Version
next_version rules c begun try = record { ts = max (start_of (slice_get rules.txns (begun - 1)) + (try - 1) * rules.gap) (c.exec.ver.ts + 1); client = rules.client }

-- an attempt begins, with a job that starts its program
unfoldable pub begin : Rules → ClientState → ℕ → ℕ → ClientState
begin rules c begun try = record {
  begun = begun;
  try = try;
  exec = record { ver = next_version rules c begun try; eid = 0 };
  answers = [];
  phase = Running true false;
  serial = bumped c.serial;
  fate = Live;
  decisions = c.decisions;
  attempts = record { ver = next_version rules c begun try; txn = begun; try = try } ∷ c.attempts;
}

-- the next try of an aborted transaction while tries are left, else the next transaction
unfoldable pub go : Rules → ClientState → Turn
go rules c = idle (cond (tries_again rules c) (begin rules c c.begun (c.try + 1)) (begin rules c (c.begun + 1) 1))

-- a job is pending
abbrev pub has_pending : Phase → Bool
has_pending (Running p g) = p
has_pending _ = false

-- all but the last
abbrev pub front : List ℤ → List ℤ
front vs = take (length vs - 1) vs

-- the segment that was given back wrote something
unfoldable pub wrote : Rules → ClientState → Bool
wrote rules c =
    let vs = values c.answers in
    cond (length vs == 0) (nat_lt 0 (length (walk rules c).writes))
    (nat_lt (length (walk_at (slice_get rules.txns (c.begun - 1)) (front vs)).writes) (length (walk rules c).writes))

-- the read that is asked next
abbrev pub question : Exec → Option Key → List Body
question x None = []
question x (Some k) = Get x k ∷ []

-- the segment of the pending job is given back: its writes go out, then its question
unfoldable pub ran : Rules → ClientState → Bool → Turn
ran rules c given =
    prepare_if_ready rules (record c { phase = Running false true })
    (one_when (may_put (walk rules c).ending && (wrote rules c || (not given && nat_lt 0 c.exec.eid))) (Puts c.exec (walk rules c).writes)
    ++ question c.exec (walk rules c).asks)
