-- A dropped past is kept whole in a base.
use Rattle.std.specs.Prelude.{◌≡◌, ℕ, ◌≤◌, ◌⊎◌, true, List, ◌∷◌, ◌++◌, length, Some}
use Rattle.protocol.specs.Words.{Version, Exec, Key, Envelope, BaseEntry, Kept, Read, Commit, Abandon, Drops, before, Event}
use Rattle.protocol.specs.Lists.{IsIn}
use Rattle.protocol.specs.Quorums.{quorum}
use Rattle.protocol.specs.Replica.Taken.{Handled, dropped, base}
use Rattle.protocol.specs.Replica.Acceptor.{decided}
use Rattle.protocol.specs.Replica.Votes.{Cast, casts, new_cast, conflicts, writes_key}
use Rattle.protocol.specs.Warden.State.{FencedAnswer, Truncation}
use Rattle.protocol.specs.World.State.{Plan, World}
use Rattle.protocol.specs.World.Events.{replay_from}
use Rattle.protocol.specs.World.Decided.{UpTo, WasSent, Committed, IsBase}
use Rattle.protocol.specs.World.Committed.{base_at}
use Rattle.protocol.specs.Always.{Always}
use Rattle.law_steps.specs.AnsweredOn.{AnsweredOn}
use Rattle.law_safety.specs.Locks.{AbandonLock}

-- a world has one base at a version
abbrev pub BaseIsOneOf : Plan → World → Type 0
BaseIsOneOf p w = (v : Version) (bs cs : List BaseEntry) → IsBase w v bs → IsBase w v cs → bs ≡ cs

abbrev pub BaseIsOne : Type 0
BaseIsOne = Always BaseIsOneOf

-- the base of a world is just the one list that has for each key the write of greatest name
pub record BaseOfWorldOf (p : Plan) (w : World) : Type 0 where
  pub holds : (v : Version) → IsBase w v (base_at p w v)
  pub one : (v : Version) (bs : List BaseEntry) → IsBase w v bs → bs ≡ base_at p w v

abbrev pub BaseOfWorld : Type 0
BaseOfWorld = Always BaseOfWorldOf

-- the base of a Drop of v is that of the world w at v, and stays that of the world w' after it, and nothing at or below
-- v is committed there that was not committed in w
pub record IsBaseForGood (p : Plan) (w w' : World) (v : Version) (bs : List BaseEntry) : Type 0 where
  pub now : bs ≡ base_at p w v
  pub later : bs ≡ base_at p w' v
  pub settled : (x : Exec) → UpTo x.ver v → Committed w' x → Committed w x

-- once a Drop was sent, its base is the base for good
abbrev pub BaseOfDropOf : Plan → World → Type 0
BaseOfDropOf p w = (more : List Event) (v : Version) (bs : List BaseEntry) → WasSent w (Drops v bs) → IsBaseForGood p w (replay_from p w more) v bs

abbrev pub BaseOfDrop : Type 0
BaseOfDrop = Always BaseOfDropOf

-- where the counted answers of a truncation name x
pub data IsNamedByAnswers (w : World) (t : Truncation) (x : Exec) : Type 0 where
  As_committed : (a : FencedAnswer) → IsIn a t.answers → (k : Kept) → IsIn k a.committed → k.exec ≡ x → IsNamedByAnswers w t x
  As_voted : (a : FencedAnswer) → IsIn a t.answers → (k : Kept) → IsIn k a.voted → k.exec ≡ x → IsNamedByAnswers w t x
  Below_dropped : (a : FencedAnswer) → IsIn a t.answers → (g : Handled) → AnsweredOn (w.replica a.replica) g t.w a.base a.committed a.voted → UpTo x.ver (dropped g) → IsNamedByAnswers w t x

-- where a warden counted a quorum's Fenced of a version, each committed execution at or below it is named in one of
-- them, or stands at or below what was dropped at the sender of one of them when it answered
abbrev pub FenceNamesOf : Plan → World → Type 0
FenceNamesOf p w = (warden : ℕ) (t : Truncation) (x : Exec) → IsIn t (w.warden warden).truncations → quorum p.replicas ≤ length t.answers →
    Committed w x → UpTo x.ver t.w → IsNamedByAnswers w t x

abbrev pub FenceNames : Type 0
FenceNames = Always FenceNamesOf

-- where a Drop of v was sent, each execution at or below v is committed, or Abandon of it is locked
abbrev pub DropSettlesOf : Plan → World → Type 0
DropSettlesOf p w = (v : Version) (bs : List BaseEntry) (x : Exec) → WasSent w (Drops v bs) → UpTo x.ver v →
    Committed w x ⊎ AbandonLock p.replicas w x

abbrev pub DropSettles : Type 0
DropSettles = Always DropSettlesOf

-- T read k from a version below X's, and X, which comes before T, writes k
pub record MissesAt (k : Key) (t x : Cast) : Type 0 where
  pub read : Read
  pub there : IsIn read t.content.reads
  pub key : read.key ≡ k
  pub below : before read.wid.ver x.exec.ver ≡ true
  pub earlier : before x.exec.ver t.exec.ver ≡ true
  pub writes : writes_key k x.content.writes ≡ true

-- the envelope m made the replica of the list h vote Commit on what is in conflict with what it voted Commit on before
pub record VotesTwice (h : Handled) (m : Envelope) (first second : Cast) : Type 0 where
  pub earlier : IsIn first (casts h)
  pub voted : first.vote ≡ Commit
  pub later : IsIn second (new_cast h (casts h) m.body)
  pub votes : second.vote ≡ Commit
  pub conflict : conflicts first.exec.ver first.content second.exec.ver second.content ≡ true

-- what held there before the later of two such votes: the earlier one was decided Abandon there; or it stands at or
-- below the version dropped there, and the base there has no entry at or above its version for a key of the conflict
pub data IsOvertaken (h : Handled) (first second : Cast) : Type 0 where
  Decided_abandon : decided h first.exec ≡ Some Abandon → IsOvertaken h first second
  Was_dropped : UpTo first.exec.ver (dropped h) →
      ((k : Key) → MissesAt k first second ⊎ MissesAt k second first → (b : BaseEntry) → IsIn b (base h) → b.key ≡ k → before b.wid.ver first.exec.ver ≡ true) →
      IsOvertaken h first second

-- where a replica voted Commit on two executions in conflict, the earlier one was overtaken
abbrev pub TwoVotesOf : Plan → World → Type 0
TwoVotesOf p w = (r : ℕ) (h later : Handled) (m : Envelope) (first second : Cast) →
    w.replica r ≡ later ++ m ∷ h → VotesTwice h m first second → IsOvertaken h first second

abbrev pub TwoVotes : Type 0
TwoVotes = Always TwoVotesOf
