-- What replays and serial runs have of every program.
use Rattle.std.specs.Prelude.{◌≡◌, ℕ, ◌+◌, ◌≤◌, List, [], ◌∷◌, ◌++◌, map, take, length, reverse, Some, None, IsSome, IsNone, MatchOption, slice_get, ℤ}
use Rattle.std.specs.List.{All, IsDistinct}
use Rattle.std.specs.Option.{option_or}
use Rattle.morty_base.specs.declared.names.Key.{Key}
use Rattle.morty_base.specs.Names.{same_key}
use Rattle.txn_lang.specs.declared.limits.TheConstants.{MOST_OF_A_KIND, MOST_STEPS}
use Rattle.txn_lang.specs.declared.tree.Block.{Block}
use Rattle.txn_lang.specs.Tree.{commands}
use Rattle.txn_lang.specs.Actions.{Actions, program_actions}
use Rattle.txn_lang.specs.Limits.{IsWithin}
use Rattle.txn_lang.specs.Keys.{Entry, entry, found, held}
use Rattle.txn_lang.specs.Runs.{Run, after_read, run, next_answer, replay, serial_run}

abbrev pub keys_of : List Entry → List Key
keys_of entries = map (λ e. e.key) entries

abbrev pub values_of : List Entry → List ℤ
values_of entries = map (λ e. e.value) entries

-- a replay takes its answers in order: it asks only once all are taken, and once it has ended further ones change nothing
pub record TakesAnswers (replayed : List ℤ → Run) : Type 0 where
  pub in_order : (answers : List ℤ) → values_of (replayed answers).reads ≡ take (length (replayed answers).reads) answers
  pub asks_or_ends : (answers : List ℤ) →
      MatchOption (replayed answers).asks (IsSome (replayed answers).ending) (λ k. IsNone (replayed answers).ending)
  pub asks_past_all : (answers : List ℤ) (k : Key) → (replayed answers).asks ≡ Some k →
      values_of (replayed answers).reads ≡ answers
  pub no_further : (answers further : List ℤ) → (replayed answers).asks ≡ None →
      replayed (values_of (replayed answers).reads ++ further) ≡ replayed answers

-- a front of a list
abbrev pub IsFront : {A : Type 0} → List A → List A → Type 0
IsFront {A} xs ys = (rest : List A) × (ys ≡ xs ++ rest)

-- what the shorter run did, the longer did first
pub record Extends (shorter longer : Run) : Type 0 where
  pub reads : IsFront shorter.reads longer.reads
  pub writes : IsFront shorter.writes longer.writes
  pub out : IsFront shorter.out longer.out
  pub begun : shorter.begun ≤ longer.begun

-- more answers make a longer run
abbrev pub GrowsWithAnswers : (List ℤ → Run) → Type 0
GrowsWithAnswers replayed = (answers further : List ℤ) → Extends (replayed answers) (replayed (answers ++ further))

-- each read is of the key that was asked on the answers before it, and has the answer in its place
pub record ReadsWhatItAsked (replayed : List ℤ → Run) : Type 0 where
  pub each : (answers : List ℤ) (i : ℕ) (e : Entry) → slice_get (replayed answers).reads i ≡ Some e →
      ((replayed (take i answers)).asks ≡ Some e.key) × (slice_get answers i ≡ Some e.value)
  pub next : (answers : List ℤ) (k : Key) (x : ℤ) → (replayed answers).asks ≡ Some k →
      (replayed (answers ++ x ∷ [])).reads ≡ (replayed answers).reads ++ entry k x ∷ []

-- a key is asked at most once, and never after a write of it
pub record AsksOnce (replayed : List ℤ → Run) : Type 0 where
  pub distinct : (answers : List ℤ) → IsDistinct same_key (keys_of (replayed answers).reads)
  pub not_read : (answers : List ℤ) (k : Key) → (replayed answers).asks ≡ Some k →
      found (replayed answers).reads k ≡ None
  pub not_written : (answers : List ℤ) (k : Key) → (replayed answers).asks ≡ Some k →
      found (replayed answers).writes k ≡ None

-- a key shows its last own write, else its answer
abbrev pub KnowsItsOwn : (List ℤ → Run) → Type 0
KnowsItsOwn replayed = (answers : List ℤ) (k : Key) →
    found (replayed answers).known k ≡
    option_or (found (reverse (replayed answers).writes) k) (found (replayed answers).reads k)

-- a serial run ends, and the replay on the values that it read from its map is the same run; a replay that ended on
-- values that a map holds is the serial run on that map
pub record ReplaysSerial (body : Block) (n : ℕ) : Type 0 where
  pub ends : (m : List Entry) → IsSome (serial_run body n m).ending
  pub reads_map : (m : List Entry) → All (λ e. held m e.key ≡ e.value) (serial_run body n m).reads
  pub replayed : (m : List Entry) → replay body n (values_of (serial_run body n m).reads) ≡ serial_run body n m
  pub serialised : (m : List Entry) (answers : List ℤ) → (replay body n answers).asks ≡ None →
      All (λ e. held m e.key ≡ e.value) (replay body n answers).reads → serial_run body n m ≡ replay body n answers

-- a run that stopped to ask, and what was done then
abbrev pub joined : Run → Run → Run
joined r s = record {
  reads = r.reads ++ s.reads;
  writes = r.writes ++ s.writes;
  out = r.out ++ s.out;
  begun = r.begun + s.begun;
  asks = s.asks;
  ending = s.ending;
  known = s.known;
}

-- what is done after the answer for which actions ask: with it, a replay goes on from where it stopped
pub record GoesOn (a : Actions) (known : List Entry) (answers : List ℤ) (k : Key) : Type 0 where
  pub next : ℤ → Actions
  pub resumed : (x : ℤ) (further : List ℤ) →
      run next_answer a known (answers ++ x ∷ further) ≡
      joined (run next_answer a known answers)
      (after_read (entry k x) (run next_answer (next x) (entry k x ∷ (run next_answer a known answers).known) further))

-- where a replay asks, it goes on with the answer
abbrev pub GoesOnWithAnswer : Block → ℕ → Type 0
GoesOnWithAnswer body n = (answers : List ℤ) (k : Key) → (replay body n answers).asks ≡ Some k →
    GoesOn (program_actions (commands body) n) [] answers k

-- a run within the limits of programs
pub record IsLimited (r : Run) : Type 0 where
  pub begun : r.begun ≤ MOST_STEPS
  pub reads : length r.reads ≤ MOST_OF_A_KIND
  pub writes : length r.writes ≤ MOST_OF_A_KIND
  pub out : length r.out ≤ MOST_OF_A_KIND

-- replays and serial runs of a program
pub record AreLimited (body : Block) (n : ℕ) : Type 0 where
  pub replays : (answers : List ℤ) → IsLimited (replay body n answers)
  pub serials : (m : List Entry) → IsLimited (serial_run body n m)

-- no run of a program within the limits passes them
abbrev pub KeepsLimits : Block → ℕ → Type 0
KeepsLimits body n = IsWithin n (commands body) → AreLimited body n
