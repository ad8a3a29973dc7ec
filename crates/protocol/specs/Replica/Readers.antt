-- Who read what at a replica, and the Notes that its readers are due.
use Rattle.std.specs.Prelude.{ℕ, Bool, true, false, cond, not, ◌&&◌, ◌||◌, List, [], ◌∷◌, flat_map}
use Rattle.std.specs.List.{list_any}
use Rattle.std.specs.Ordering.{int_eq}
use Rattle.protocol.specs.Words.{Version, Key, NodeId, Client, Replica, Envelope, Body, Get, Note, before, same_version, same_key, key_before, same_wid}
use Rattle.std.specs.Bool.{then_some}
use Rattle.protocol.specs.Lists.{one_when}
use Rattle.protocol.specs.Replica.Taken.{Handled, dropped}
use Rattle.protocol.specs.declared.First2.{First2}
use Rattle.protocol.specs.declared.Held.{Held}
use Rattle.protocol.specs.Replica.Held.{held, latest}

-- a key that was read at a version
pub record Reader : Type 0 where
  pub key : Key
  pub ver : Version

-- readers stand in rising order of key and version, each once
abbrev pub put_reader : Reader → List Reader → List Reader
put_reader r [] = r ∷ []
put_reader r (s ∷ ss) =
    cond (key_before r.key s.key || (same_key r.key s.key && before r.ver s.ver)) (r ∷ s ∷ ss)
    (cond (same_key r.key s.key && same_version r.ver s.ver) (s ∷ ss) (s ∷ put_reader r ss))

-- a Get records its reader
abbrev pub reader_after : List Reader → Body → List Reader
reader_after rs (Get x k) = put_reader (record { key = k; ver = x.ver }) rs
reader_after rs _ = rs

-- the readers of a list
abbrev pub readers : Handled → List Reader
readers [] = []
readers (m ∷ h) = reader_after (readers h) m.body

-- the two are equal
abbrev pub same_bool : Bool → Bool → Bool
same_bool true b = b
same_bool false b = not b

-- the same write, value and certainty
abbrev pub same_held : Held → Held → Bool
same_held a b = same_wid a.wid b.wid && (int_eq a.value b.value && same_bool a.sure b.sure)

-- an envelope of replica r
abbrev pub envelope_from : ℕ → NodeId → Body → Envelope
envelope_from r to b = record { from = Replica r; to = to; body = b }

-- the Note that a reader is due where what it sees has changed; a write that it saw and that is no longer held is
-- named as gone
unfoldable pub note_for : List First2 → Handled → Handled → ℕ → Reader → List Envelope
note_for firsts h h' r reader =
    let old = latest firsts h reader.key reader.ver in
    let new = latest firsts h' reader.key reader.ver in
    let gone = then_some (not (list_any (λ a. same_wid old.wid a.wid) (held firsts h' reader.key))) old.wid in
    one_when (before (dropped h') reader.ver && not (same_held old new))
    (envelope_from r (Client reader.ver.client) (Note reader.ver reader.key new.wid new.value new.sure gone))

-- the Notes that are due once h has become h', in the order of the readers
unfoldable pub due : List First2 → ℕ → Handled → Handled → List Envelope
due firsts r h h' = flat_map (note_for firsts h h' r) (readers h)
