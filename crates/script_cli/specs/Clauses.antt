-- What each status says.
use Rattle.std.specs.Prelude.{◌≡◌, ℕ, ◌<◌, ◌⊎◌, ◌≤◌, true, false, List, [], length, reverse, Option, Some, None, IfSome, IsSomeAnd, is_some}
use Rattle.morty_base.specs.declared.names.Ended.{Ended}
use Rattle.morty_io.specs.Bytes.{Takes, TakesPart}
use Rattle.net_core.specs.Ruled.{LinkState}
use Rattle.txn_text.specs.declared.faults.FaultKind.{FaultKind}
use Rattle.txn_text.specs.declared.faults.TextFault.TheVariants.{At}
use Rattle.script.specs.declared.setup.Setup.{Setup}
use Rattle.script.specs.Sayable.{IsSetup}
use Rattle.script.specs.Texts.{IsFaultOf}
use Rattle.script_plans.specs.Plans.{scripted, link_kind}
use Rattle.law_outcomes.specs.Outcome.{IsCorrectThroughout}
use Rattle.links.specs.Choosing.{first_for}
use Rattle.script_cli.specs.Runs.{rules_for, IsRunOf, IsLinkMissing}
use Rattle.script_cli.specs.declared.words.Command.{Command}
use Rattle.script_cli.specs.declared.words.Command.TheVariants.{Gen, Big}
use Rattle.script_cli.specs.Words.{command_of, reads, runs, is_shared}
use Rattle.script_cli.specs.Lines.{bad_command_line, read_failed as read_failed_line, too_long, fault_line, no_link_line}
use Rattle.script_cli.specs.Due.{Due, IsDue, IsTooLong, AreLeft, IsScriptText, IsGeneratedFor, status_of, text_of_run, IsTextOf, IsUnnamed}
use Rattle.script_cli.specs.Answer.{Given, IsAnswered}

-- the script of a command: that of its seed, or one that the bytes say which were read
abbrev pub IsScriptFor : Command → Option (List ℕ) → Setup → Type 0
IsScriptFor (Gen seeded) left s = IsGeneratedFor (Gen seeded) s
IsScriptFor (Big seeded) left s = IsGeneratedFor (Big seeded) s
IsScriptFor c left s = (bytes : List ℕ) × AreLeft left bytes × IsScriptText bytes s

-- a command that reads is given a script
abbrev pub IsGoodInput : Command → Option (List ℕ) → Type 0
IsGoodInput (Gen seeded) left = Unit {0}
IsGoodInput (Big seeded) left = Unit {0}
IsGoodInput c left = IsSomeAnd left (λ bytes. (s : Setup) × IsScriptText bytes s)

-- a link was handed in for each node
abbrev pub HasLinks : Setup → List LinkState → Type 0
HasLinks s handed = (slot : ℕ) → slot < length (rules_for s).nodes → is_some (first_for (link_kind s) slot handed) ≡ true

-- the script has the transactions that are asked for, and the links that its run needs
pub record HasAll (c : Command) (s : Setup) (handed : List LinkState) : Type 0 where
  pub named : ¬ IsUnnamed c s
  pub linked : runs c ≡ true → HasLinks s handed

-- the command's script was run, and what the command writes of its run was written
pub record IsRunTold (c : Command) (left : Option (List ℕ)) (handed : List LinkState) (old new : Option (List ℕ)) (g : Given) : Type 0 where
  pub script : Setup
  pub setup : IsSetup script
  pub own : IsScriptFor c left script
  pub ended : Ended
  pub run : IsRunOf (is_shared c) script handed ended (reverse g.journal) g.links
  pub status : g.status ≡ status_of ended
  pub written : Takes old new (text_of_run c script g.journal ended)

-- what a command without a run writes of its script was written
pub record IsPrintedFor (c : Command) (left : Option (List ℕ)) (old new : Option (List ℕ)) (status : ℕ) : Type 0 where
  pub script : Setup
  pub own : IsScriptFor c left script
  pub zero : status ≡ 0
  pub text : List ℕ
  pub told : IsTextOf c script text
  pub written : Takes old new text

-- the words are no command, or ask for a transaction that the script does not have
pub data IsBadCommand (words : List (List ℕ)) (left : Option (List ℕ)) : Type 0 where
  No_command : command_of words ≡ None → IsBadCommand words left
  No_transaction : (c : Command) → command_of words ≡ Some c → (s : Setup) → IsScriptFor c left s → IsUnnamed c s → IsBadCommand words left

-- the bytes are too many, or have this one fault, and the line that says so was written
pub data IsRefused (left old new : Option (List ℕ)) : Type 0 where
  Long : IfSome left IsTooLong → Takes old new too_long → IsRefused left old new
  Faulty : (bytes : List ℕ) → AreLeft left bytes → (line : ℕ) (kind : FaultKind) → IsFaultOf bytes (At line kind) → Takes old new (fault_line line kind) →
      IsRefused left old new

-- a link for the command's script was not handed in, and the line that names its slot was written
pub record IsLinkTold (c : Command) (left : Option (List ℕ)) (handed : List LinkState) (old new : Option (List ℕ)) : Type 0 where
  pub script : Setup
  pub own : IsScriptFor c left script
  pub slot : ℕ
  pub missing : IsLinkMissing script handed slot
  pub written : Takes old new (no_link_line (link_kind script) slot)

-- a part of what was due was taken
pub data IsCut (words : List (List ℕ)) (left : Option (List ℕ)) (ReadFailed : Type 0) (handed : List LinkState) (old new : Option (List ℕ)) (g : Given) : Type 0 where
  Line_cut : command_of words ≡ None → TakesPart old new bad_command_line → g.journal ≡ [] → g.links ≡ [] → IsCut words left ReadFailed handed old new g
  Due_cut : (c : Command) → command_of words ≡ Some c → (d : Due) → IsDue c left ReadFailed handed d → TakesPart old new d.text →
      g.journal ≡ d.journal → g.links ≡ d.links → IsCut words left ReadFailed handed old new g

-- the statuses that there are
abbrev pub IsStatus : ℕ → Type 0
IsStatus status = (status ≡ 0) ⊎ (status ≡ 1) ⊎ (status ≡ 2) ⊎ (status ≡ 3) ⊎ (status ≡ 4) ⊎ (status ≡ 5) ⊎ (status ≡ 6) ⊎ (status ≡ 9)

-- What is promised of a call, whatever its words, bytes and links are, by what the source had left, what the sink took, and
-- what was given back.
pub record IsExitOf (words : List (List ℕ)) (left : Option (List ℕ)) (ReadFailed : Type 0) (handed : List LinkState) (old new : Option (List ℕ))
    (WriteFailed : Type 0) (g : Given) : Type 0 where
  -- what is due for the words, the bytes and the links was written, and goes with what is given back
  pub answered : IsAnswered words left ReadFailed handed old new WriteFailed g
  -- whatever the status, at each moment of the journal: no execution is decided two ways by two nodes, at most one execution
  -- of a transaction is committed, what is committed is the serial run of its programs, and each Drop that was sent carries
  -- the base of the world at its version
  pub correct : (c : Command) → command_of words ≡ Some c → (s : Setup) → IsSetup s → IsScriptFor c left s → IsCorrectThroughout (scripted s) g.journal
  -- 0 and 1 of a command that runs a script: what the command writes of the world that the journal's events make was written.
  -- The run ended so, quiet exactly with 0, and with one worker the nodes took turns in rounds. For each slot there is the
  -- first link that was handed in for it, with the picks that it had and then those of its node; where it tells its mind,
  -- these are those of its rule from the script's plan on
  pub ran : (c : Command) → command_of words ≡ Some c → runs c ≡ true → g.status ≤ 1 → IsRunTold c left handed old new g
  -- 0 of another command: the canonical text of the script was written; of `serial`, the text of the serial run of the
  -- transactions that were asked for, which the script has, or without any of all of them at their first tries
  pub printed : (c : Command) → command_of words ≡ Some c → runs c ≡ false → g.status ≤ 1 → IsPrintedFor c left old new g.status
  -- 2: exactly where the words are no command, or ask for a transaction that the script does not have, unless the sink fails
  -- or memory runs out
  pub bad_words : g.status ≡ 2 → IsBadCommand words left × Takes old new bad_command_line
  pub good_words : command_of words ≡ None → (g.status ≡ 2) ⊎ ((g.status ≡ 5) ⊎ (g.status ≡ 9))
  -- 3: the bytes are too many, or no script; then the line of their one fault was written
  pub refused : g.status ≡ 3 → (c : Command) × (command_of words ≡ Some c) × (reads c ≡ true) × IsRefused left old new
  -- 4 and 5: only where a fault of the source or of the sink was counted. With 5 a part of what was due was taken, and the
  -- events and links of the run are those that go with it
  pub read_failed : g.status ≡ 4 → ReadFailed × Takes old new read_failed_line
  pub write_failed : g.status ≡ 5 → WriteFailed
  pub cut : g.status ≡ 5 → IsCut words left ReadFailed handed old new g
  -- 6: a script was to be run, and the line names the lowest slot for which no link was handed in
  pub linkless : g.status ≡ 6 → (c : Command) × (command_of words ≡ Some c) × (runs c ≡ true) × IsLinkTold c left handed old new
  -- 9: want of memory, before anything is written
  pub no_memory : g.status ≡ 9 → new ≡ old
  -- where nothing fails, a script that is there, with the transactions and the links that are needed, is run or printed,
  -- unless memory runs out
  pub complete : (c : Command) → command_of words ≡ Some c → IsGoodInput c left → ((s : Setup) → IsScriptFor c left s → HasAll c s handed) →
      (ReadFailed → ⊥) → (WriteFailed → ⊥) → (g.status ≡ 0) ⊎ (((g.status ≡ 1) × (runs c ≡ true)) ⊎ (g.status ≡ 9))
  -- there are no other statuses, and a run stands behind 0, 1 and 5 alone
  pub known : IsStatus g.status
  pub unrun : (g.status ≡ 2) ⊎ ((g.status ≡ 3) ⊎ ((g.status ≡ 4) ⊎ ((g.status ≡ 6) ⊎ (g.status ≡ 9)))) → (g.journal ≡ []) × (g.links ≡ [])
