-- What a command is to write, and the status, the events and the links that go with it.
use Rattle.std.specs.Prelude.{◌≡◌, ℕ, ◌<◌, ◌≤◌, true, false, List, [], length, map, reverse, Option, IfSome}
use Rattle.morty_base.specs.declared.names.Ended.{Ended}
use Rattle.morty_base.specs.declared.names.Ended.TheVariants.{Quiet}
use Rattle.msg.specs.declared.Event.{Event}
use Rattle.net_core.specs.Ruled.{LinkState}
use Rattle.report.specs.declared.rows.Rows.{Rows}
use Rattle.report.specs.Text.{report_of, brief_of, serial_of}
use Rattle.txn_text.specs.declared.faults.FaultKind.{FaultKind}
use Rattle.txn_text.specs.declared.faults.TextFault.TheVariants.{At}
use Rattle.script.specs.declared.setup.Setup.{Setup}
use Rattle.script.specs.Meaning.{said_by}
use Rattle.script.specs.Sayable.{IsSetup}
use Rattle.script.specs.Texts.{IsSetupOf, IsFaultOf}
use Rattle.script.specs.Canonical.{canonical_script}
use Rattle.script_plans.specs.Plans.{scripted, link_kind}
use Rattle.serial_rows.specs.Rows.{IsSerial}
use Rattle.serial_ref.specs.declared.item.SerialItem.{SerialItem}
use Rattle.serial_ref.specs.SerialItem.{AreNamed, IsInOrder}
use Rattle.serial_ref.specs.FirstTries.{IsFirstTries}
use Rattle.serial_ref.specs.Serial.{items_of, firsts_of}
use Rattle.world_rows.specs.Rows.{rows_of}
use Rattle.run_trace.specs.Trace.{trace_bytes}
use Rattle.lab.specs.Generated.{generated}
use Rattle.script_cli.specs.Runs.{world_for, IsRunOf, IsLinkMissing}
use Rattle.script_cli.specs.declared.words.Command.{Command}
use Rattle.script_cli.specs.declared.words.Command.TheVariants.{Serial, Trace, Gen, Big}
use Rattle.script_cli.specs.declared.output.Output.{Output}
use Rattle.script_cli.specs.Words.{reads, runs, is_shared}
use Rattle.script_cli.specs.Lines.{bad_command_line, read_failed, too_long, fault_line, no_link_line}

-- a text, with the status, the events and the links of the run behind it
pub record Due : Type 0 where
  pub status : ℕ
  pub text : List ℕ
  pub journal : List Event
  pub links : List LinkState

-- a text with no run behind it
abbrev pub unrun : ℕ → List ℕ → Due
unrun status text = record { status = status; text = text; journal = []; links = [] }

abbrev pub due_of : {V : Type 0} → (V → LinkState) → Output V → Due
due_of state o = record { status = o.status; text = o.text; journal = o.journal.items; links = map state o.links.items }

-- the greatest length of a script
abbrev pub script_limit : ℕ
script_limit = 1048576

-- the bytes are more than a script may have
abbrev pub IsTooLong : List ℕ → Type 0
IsTooLong bytes = script_limit < length bytes

-- the bytes are those that the source had left, where it tells them
abbrev pub AreLeft : Option (List ℕ) → List ℕ → Type 0
AreLeft left bytes = IfSome left (λ told. bytes ≡ told)

-- the bytes are few enough, and say this script
pub record IsScriptText (bytes : List ℕ) (s : Setup) : Type 0 where
  pub short : length bytes ≤ script_limit
  pub says : IsSetupOf bytes s

-- a run ends well where it ends quiet
abbrev pub status_of : Ended → ℕ
status_of Quiet = 0
status_of _ = 1

-- what is reported of a script's world after these events
abbrev pub rows_for : Setup → List Event → Rows
rows_for s journal = rows_of (scripted s) (world_for s (reverse journal))

-- what a command writes of a run: its report, all that happened in it, or its summary
abbrev pub text_of_run : Command → Setup → List Event → Ended → List ℕ
text_of_run Trace s journal ended = trace_bytes (canonical_script s) journal (world_for s (reverse journal)).mail ended
text_of_run (Big seeded) s journal ended = brief_of (rows_for s journal) ended
text_of_run _ s journal ended = report_of s.tables (rows_for s journal) ended

-- the script was run, and this is what is written of its run
pub record IsRunDue (c : Command) (s : Setup) (handed : List LinkState) (d : Due) : Type 0 where
  pub ended : Ended
  pub run : IsRunOf (is_shared c) s handed ended (reverse d.journal) d.links
  pub status : d.status ≡ status_of ended
  pub written : d.text ≡ text_of_run c s d.journal ended

-- a link was not handed in
pub record IsLinkDue (s : Setup) (handed : List LinkState) (d : Due) : Type 0 where
  pub slot : ℕ
  pub missing : IsLinkMissing s handed slot
  pub line : d ≡ unrun 6 (no_link_line (link_kind s) slot)

-- the transactions that are run one after another, where these were asked for: those, or, without any, all at their first
-- tries; by rising version
abbrev pub AreRun : Setup → List SerialItem → List SerialItem → Type 0
AreRun s [] items = IsFirstTries s items
AreRun s asked items = IsInOrder asked items

-- the text is that of the serial run of these transactions
pub record IsSerialText (s : Setup) (asked : List SerialItem) (text : List ℕ) : Type 0 where
  pub items : List SerialItem
  pub run : AreRun s asked items
  pub rows : Rows
  pub serial : IsSerial (firsts_of s) (items_of s items) rows
  pub written : text ≡ serial_of s.tables rows

-- what a command without a run writes of a script: that of the serial run of transactions, which it has, or the script
abbrev pub IsTextOf : Command → Setup → List ℕ → Type 0
IsTextOf (Serial asked) s text = AreNamed s asked × IsSerialText s asked text
IsTextOf _ s text = text ≡ canonical_script s

-- a transaction was asked for that the script does not have
abbrev pub IsUnnamed : Command → Setup → Type 0
IsUnnamed (Serial asked) s = ¬ AreNamed s asked
IsUnnamed _ s = ⊥

-- what is due for a script: a text, or what is written of its run
pub data IsDueOf (c : Command) (s : Setup) (handed : List LinkState) (d : Due) : Type 0 where
  Printed : runs c ≡ false → IsTextOf c s d.text → d ≡ unrun 0 d.text → IsDueOf c s handed d
  Unnamed : IsUnnamed c s → d ≡ unrun 2 bad_command_line → IsDueOf c s handed d
  Ran : runs c ≡ true → IsRunDue c s handed d → IsDueOf c s handed d
  Linkless : runs c ≡ true → IsLinkDue s handed d → IsDueOf c s handed d

-- this is due for some script of which that is so
pub record IsDueOfSome (Is : Setup → Type 0) (c : Command) (handed : List LinkState) (d : Due) : Type 0 where
  pub script : Setup
  pub setup : IsSetup script
  pub is : Is script
  pub due : IsDueOf c script handed d

-- the bytes are no script, and this is the line of their fault
pub record IsFaulty (bytes : List ℕ) (d : Due) : Type 0 where
  pub short : length bytes ≤ script_limit
  pub line : ℕ
  pub kind : FaultKind
  pub found : IsFaultOf bytes (At line kind)
  pub told : d ≡ unrun 3 (fault_line line kind)

-- what is due for bytes that were read, which are few enough
pub data IsTextDue (c : Command) (handed : List LinkState) (d : Due) (bytes : List ℕ) : Type 0 where
  Of_script : IsDueOfSome (IsScriptText bytes) c handed d → IsTextDue c handed d bytes
  Of_fault : IsFaulty bytes d → IsTextDue c handed d bytes

-- the script that a seed and a size make
abbrev pub IsGeneratedFor : Command → Setup → Type 0
IsGeneratedFor (Gen seeded) s = said_by s ≡ generated seeded.seed seeded.size
IsGeneratedFor (Big seeded) s = said_by s ≡ generated seeded.seed seeded.size
IsGeneratedFor _ s = ⊥

-- what is due for a command, where the source had these bytes left
pub data IsDue (c : Command) (left : Option (List ℕ)) (ReadFailed : Type 0) (handed : List LinkState) (d : Due) : Type 0 where
  Unread : reads c ≡ true → ReadFailed → d ≡ unrun 4 read_failed → IsDue c left ReadFailed handed d
  Too_long : reads c ≡ true → IfSome left IsTooLong → d ≡ unrun 3 too_long → IsDue c left ReadFailed handed d
  Read : reads c ≡ true → (bytes : List ℕ) → AreLeft left bytes → IsTextDue c handed d bytes → IsDue c left ReadFailed handed d
  Generated : reads c ≡ false → IsDueOfSome (IsGeneratedFor c) c handed d → IsDue c left ReadFailed handed d
