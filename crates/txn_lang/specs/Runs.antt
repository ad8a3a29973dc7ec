-- Runs of a program: serial on a map, and replayed on a list of answers.
use Rattle.std.specs.Prelude.{ℕ, ◌+◌, List, [], ◌∷◌, ◌++◌, map, Option, Some, None, ℤ}
use Rattle.morty_base.specs.declared.names.Key.{Key}
use Rattle.morty_base.specs.declared.names.Ending.{Ending}
use Rattle.morty_base.specs.declared.names.Ending.TheVariants.{Done}
use Rattle.txn_lang.specs.declared.tree.Block.{Block}
use Rattle.txn_lang.specs.Tree.{commands}
use Rattle.txn_lang.specs.Keys.{Entry, entry, found, held}
use Rattle.txn_lang.specs.Actions.{Actions, Begins, Reads, Writes, Prints, Ends, program_actions}

-- what a run did: its outside reads, the writes that it made and the lines that it printed, in order, and how many
-- statements it began; the key that it asks for, or its ending; and what it knows of keys, its own writes and its
-- reads, the newest first, so that a key which it wrote shows its last own write and another its first answer
pub record Run : Type 0 where
  pub reads : List Entry
  pub writes : List Entry
  pub out : List ℤ
  pub begun : ℕ
  pub asks : Option Key
  pub ending : Option Ending
  pub known : List Entry

abbrev pub asking : Key → List Entry → Run
asking k known = record { reads = []; writes = []; out = []; begun = 0; asks = Some k; ending = None; known = known }

abbrev pub ended : Ending → List Entry → Run
ended how known = record { reads = []; writes = []; out = []; begun = 0; asks = None; ending = Some how; known = known }

abbrev pub after_read : Entry → Run → Run
after_read e r = record r { reads = e ∷ r.reads }

abbrev pub after_write : Entry → Run → Run
after_write e r = record r { writes = e ∷ r.writes }

abbrev pub after_line : ℤ → Run → Run
after_line x r = record r { out = x ∷ r.out }

abbrev pub after_begin : Run → Run
after_begin r = record r { begun = 1 + r.begun }

-- the rule of reads: a known key shows its value; any other is an outside read, which takes its answer, and where
-- there is none the run stops and asks
abbrev pub read_by : {S : Type 0} → Option ℤ → Option (ℤ × S) → Key → List Entry → S → (ℤ → List Entry → S → Run) → Run
read_by (Some x) answer k known s next = next x known s
read_by None (Some a) k known s next = after_read (entry k a.0) (next a.0 (entry k a.0 ∷ known) a.1)
read_by None None k known s next = asking k known

-- the run of these actions, which knows these entries, over a source of answers
abbrev pub run : {S : Type 0} → (S → Key → Option (ℤ × S)) → Actions → List Entry → S → Run
run ask (Begins next) known s = after_begin (run ask next known s)
run ask (Reads k next) known s = read_by (found known k) (ask s k) k known s (λ x known s. run ask (next x) known s)
run ask (Writes w next) known s = after_write w (run ask next (w ∷ known) s)
run ask (Prints x next) known s = after_line x (run ask next known s)
run ask (Ends how) known s = ended how known

-- a list of answers gives them in order
abbrev pub next_answer : List ℤ → Key → Option (ℤ × List ℤ)
next_answer [] k = None
next_answer (x ∷ xs) k = Some (x, xs)

-- a map gives what it holds
abbrev pub map_answer : List Entry → Key → Option (ℤ × List Entry)
map_answer m k = Some (held m k, m)

-- the replay of a program with n locals on a list of answers
abbrev pub replay : Block → ℕ → List ℤ → Run
replay body n answers = run next_answer (program_actions (commands body) n) [] answers

-- the serial run of a program with n locals on a map
abbrev pub serial_run : Block → ℕ → List Entry → Run
serial_run body n m = run map_answer (program_actions (commands body) n) [] m

-- the writes made are kept where the ending is Done
abbrev pub kept_at : Option Ending → List Entry → List Entry
kept_at (Some Done) writes = writes
kept_at _ writes = []

abbrev pub kept : Run → List Entry
kept r = kept_at r.ending r.writes

-- a key is touched where it is read outside or a write of it is made
abbrev pub touched : Run → List Key
touched r = map (λ e. e.key) r.reads ++ map (λ e. e.key) r.writes
