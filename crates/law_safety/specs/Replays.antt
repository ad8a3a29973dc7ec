-- What was prepared is what a program does on its answers.
use Rattle.std.specs.Prelude.{◌≡◌, ◌-◌, cond, List, [], Some}
use Rattle.std.specs.List.{slice_get}
use Rattle.protocol.specs.Words.{Exec, Ending, Content, Prepare}
use Rattle.protocol.specs.Client.State.{Attempt, Answer, values, walk_at, reads_of, is_done}
use Rattle.protocol.specs.World.State.{Plan, World, rules}
use Rattle.protocol.specs.World.Decided.{WasSent, IsOf}
use Rattle.protocol.specs.Always.{AlwaysOfAny}

-- the content is what the program of an attempt does on these answers, which end it
pub record IsReplay (p : Plan) (x : Exec) (a : Attempt) (k : Content) : Type 0 where
  pub answers : List Answer
  pub ending : Ending
  pub ends : (walk_at (slice_get (rules p x.ver.client).txns (a.txn - 1)) (values answers)).ending ≡ Some ending
  pub reads : k.reads ≡ reads_of (walk_at (slice_get (rules p x.ver.client).txns (a.txn - 1)) (values answers)).keys answers
  pub writes : k.writes ≡ cond (is_done ending) (walk_at (slice_get (rules p x.ver.client).txns (a.txn - 1)) (values answers)).writes []
  pub out : k.out ≡ (walk_at (slice_get (rules p x.ver.client).txns (a.txn - 1)) (values answers)).out
  pub ended : k.ending ≡ ending

-- the execution is one of an attempt, and its content a replay of the program of that attempt
abbrev pub HasReplay : Plan → World → Exec → Content → Type 0
HasReplay p w x k = (a : Attempt) × IsOf w x a × IsReplay p x a k

-- each content that was prepared is a replay of the program of its attempt
abbrev pub ContentsReplayedOf : Plan → World → Type 0
ContentsReplayedOf p w = (x : Exec) (k : Content) → WasSent w (Prepare x k) → HasReplay p w x k

abbrev pub ContentsReplayed : Type 0
ContentsReplayed = AlwaysOfAny ContentsReplayedOf
