-- The reads of a log as the answers of the protocol.
use Rattle.std.specs.Prelude.{ℕ, Bool, List, [], ◌∷◌, map, Option, None, unwrap_or, slice_get}
use Rattle.std.specs.List.{list_all}
use Rattle.protocol.specs.Words.{Key}
use Rattle.protocol.specs.declared.Held.{Held}
use Rattle.protocol.specs.Client.State.{Answer}
use Rattle.exec_log.specs.declared.read.LogRead.{LogRead}

-- the label of a read
abbrev pub held_of : LogRead → Held
held_of r = record { wid = r.wid; value = r.value; sure = r.sure }

-- the next label of the read at a place; one that is not listed has none
abbrev pub next_at : List (Option Held) → ℕ → Option Held
next_at nexts i = unwrap_or (slice_get nexts i) None

-- a read with its next label
abbrev pub answer_with : LogRead → Option Held → Answer
answer_with r h = record { label = held_of r; next = h }

-- the reads with their next labels
abbrev pub answers_with : List LogRead → List (Option Held) → List Answer
answers_with [] nexts = []
answers_with (r ∷ reads) [] = answer_with r None ∷ answers_with reads []
answers_with (r ∷ reads) (h ∷ nexts) = answer_with r h ∷ answers_with reads nexts

-- each read is sure
abbrev pub are_sure : List LogRead → Bool
are_sure reads = list_all (λ r. r.sure) reads

-- the keys of the reads
abbrev pub keys_in : List LogRead → List Key
keys_in reads = map (λ r. r.key) reads
