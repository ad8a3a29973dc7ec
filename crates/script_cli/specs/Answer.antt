-- What a call answers: what it wrote, and what it gives back.
use Rattle.std.specs.Prelude.{◌≡◌, ℕ, List, [], map, Option, Some, None}
use Rattle.msg.specs.declared.Event.{Event}
use Rattle.morty_io.specs.Bytes.{Takes, TakesPart}
use Rattle.net_core.specs.Ruled.{LinkState}
use Rattle.script_cli.specs.declared.words.Command.{Command}
use Rattle.script_cli.specs.declared.top.Answer.{Answer}
use Rattle.script_cli.specs.Words.{command_of}
use Rattle.script_cli.specs.Lines.{bad_command_line}
use Rattle.script_cli.specs.Due.{Due, IsDue}

-- what is given back
pub record Given : Type 0 where
  pub status : ℕ
  pub journal : List Event
  pub links : List LinkState

abbrev pub given : ℕ → List Event → List LinkState → Given
given status journal links = record { status = status; journal = journal; links = links }

abbrev pub given_by : {V : Type 0} → (V → LinkState) → Answer V → Given
given_by state a = given a.status a.journal.items (map state a.links.items)

-- the text was written with the status that goes with it, or the sink failed within it and the status is 5
pub data IsWritten (old new : Option (List ℕ)) (WriteFailed : Type 0) (text : List ℕ) (due status : ℕ) : Type 0 where
  Whole : Takes old new text → status ≡ due → IsWritten old new WriteFailed text due status
  Part : TakesPart old new text → WriteFailed → status ≡ 5 → IsWritten old new WriteFailed text due status

-- the words are no command; or what is due for their command was written, or the sink failed within it; or memory ran out
-- before anything was written
pub data IsAnswered (words : List (List ℕ)) (left : Option (List ℕ)) (ReadFailed : Type 0) (handed : List LinkState)
    (old new : Option (List ℕ)) (WriteFailed : Type 0) (g : Given) : Type 0 where
  Refused : command_of words ≡ None → IsWritten old new WriteFailed bad_command_line 2 g.status → g.journal ≡ [] → g.links ≡ [] →
      IsAnswered words left ReadFailed handed old new WriteFailed g
  Answered : (c : Command) → command_of words ≡ Some c → (d : Due) → IsDue c left ReadFailed handed d →
      IsWritten old new WriteFailed d.text d.status g.status → g.journal ≡ d.journal → g.links ≡ d.links →
      IsAnswered words left ReadFailed handed old new WriteFailed g
  Out_of_memory : new ≡ old → g.status ≡ 9 → g.journal ≡ [] → g.links ≡ [] → IsAnswered words left ReadFailed handed old new WriteFailed g
