-- The text of rows, line by line. Each line ends with a line feed.
use Rattle.std.specs.Prelude.{ℕ, ℤ, pos, ◌+ℤ◌, Bool, true, false, List, [], ◌∷◌, ◌++◌, length, flat_map, fold, count_by, codes, decimal, unwrap_or, slice_get}
use Rattle.std.specs.Fmt.{signed_decimal}
use Rattle.morty_base.specs.declared.names.Version.{Version}
use Rattle.morty_base.specs.declared.names.Key.{Key}
use Rattle.morty_base.specs.declared.names.Ending.{Ending}
use Rattle.morty_base.specs.declared.names.Ending.TheVariants.{Done, Abort, Overflow, ZeroDivisor}
use Rattle.morty_base.specs.declared.names.Ended.{Ended}
use Rattle.morty_base.specs.declared.names.Ended.TheVariants.{Quiet, Spent, Full}
use Rattle.msg.specs.declared.Read.{Read}
use Rattle.report.specs.declared.rows.Left.{Left}
use Rattle.report.specs.declared.rows.Left.TheVariants.{Live, Aborted, Unbegun}
use Rattle.report.specs.declared.rows.CommitRow.{CommitRow}
use Rattle.report.specs.declared.rows.LeftRow.{LeftRow}
use Rattle.report.specs.declared.rows.ValueRow.{ValueRow}
use Rattle.report.specs.declared.rows.Rows.{Rows}

-- the names of a script's tables, by number
abbrev pub Tables : Type 0
Tables = List (List ℕ)

abbrev pub line_feed : List ℕ
line_feed = 10 ∷ []

abbrev pub version_text : Version → List ℕ
version_text v = decimal v.ts ++ codes "." ++ decimal v.client

-- a table without a name is written as nothing
abbrev pub key_text : Tables → Key → List ℕ
key_text tables k = unwrap_or (slice_get tables k.table) [] ++ codes "[" ++ signed_decimal k.index ++ codes "]"

abbrev pub ending_text : Ending → List ℕ
ending_text Done = codes "done"
ending_text Abort = codes "abort"
ending_text Overflow = codes "overflow"
ending_text ZeroDivisor = codes "zero divisor"

-- a key with its value, after the line's word
unfoldable pub cell_line : Tables → List ℕ → Key → ℤ → List ℕ
cell_line tables word k value = word ++ codes " " ++ key_text tables k ++ codes " " ++ signed_decimal value ++ line_feed

abbrev pub read_line : Tables → Read → List ℕ
read_line tables r = cell_line tables (codes "read") r.key r.value

unfoldable pub out_line : ℤ → List ℕ
out_line value = codes "out " ++ signed_decimal value ++ line_feed

-- the version, client and number of a committed transaction, after the head's word
unfoldable pub head_text : List ℕ → CommitRow → List ℕ
head_text word c = word ++ codes " " ++ version_text c.exec.ver ++ codes " txn " ++ decimal c.exec.ver.client ++ codes "." ++ decimal c.txn

unfoldable pub try_text : CommitRow → List ℕ
try_text c = codes " try " ++ decimal c.attempt ++ codes " exec " ++ decimal c.exec.eid

unfoldable pub end_text : Ending → List ℕ
end_text e = codes " end " ++ ending_text e ++ line_feed

-- the reads and the printed lines of a committed execution
unfoldable pub content_text : Tables → CommitRow → List ℕ
content_text tables c = flat_map (read_line tables) c.reads ++ flat_map out_line c.out

unfoldable pub commit_block : Tables → CommitRow → List ℕ
commit_block tables c = head_text (codes "commit") c ++ try_text c ++ end_text c.ending ++ content_text tables c

-- in a serial run there are no tries and no executions to tell apart
unfoldable pub serial_block : Tables → CommitRow → List ℕ
serial_block tables c = head_text (codes "serial") c ++ end_text c.ending ++ content_text tables c

abbrev pub left_text : Left → List ℕ
left_text Live = codes "open"
left_text Aborted = codes "aborted"
left_text Unbegun = codes "unbegun"

unfoldable pub left_line : LeftRow → List ℕ
left_line l = codes "none " ++ decimal l.client ++ codes "." ++ decimal l.txn ++ codes " " ++ left_text l.state ++ line_feed

abbrev pub value_line : Tables → ValueRow → List ℕ
value_line tables v = cell_line tables (codes "value") v.key v.value

abbrev pub kind_text : Ended → List ℕ
kind_text Quiet = codes "quiet"
kind_text Spent = codes "spent"
kind_text Full = codes "full"

unfoldable pub ended_line : Ended → ℕ → List ℕ
ended_line kind events = codes "ended " ++ kind_text kind ++ codes " events " ++ decimal events ++ line_feed

-- the report of a run: what committed, what is left, the last values, how it ended
unfoldable pub report_of : Tables → Rows → Ended → List ℕ
report_of tables rows kind =
    flat_map (commit_block tables) rows.commits ++ flat_map left_line rows.left ++ flat_map (value_line tables) rows.values ++ ended_line kind rows.events

-- a serial run: its transactions and the last values
unfoldable pub serial_of : Tables → Rows → List ℕ
serial_of tables rows = flat_map (serial_block tables) rows.commits ++ flat_map (value_line tables) rows.values

-- the sum of the values
abbrev pub sum_of : List ValueRow → ℤ
sum_of rows = fold (λ (sum : ℤ) (row : ValueRow). sum +ℤ row.value) (pos 0) rows

abbrev pub is_left : Left → Left → Bool
is_left Live Live = true
is_left Aborted Aborted = true
is_left Unbegun Unbegun = true
is_left _ _ = false

abbrev pub left_count : Left → List LeftRow → ℕ
left_count state rows = count_by (λ row. is_left state row.state) rows

unfoldable pub count_line : List ℕ → ℕ → List ℕ
count_line word count = word ++ codes " " ++ decimal count ++ line_feed

-- the summary of a run: its transactions counted, the sum of its last values, how it ended
unfoldable pub brief_of : Rows → Ended → List ℕ
brief_of rows kind =
    count_line (codes "commits") (length rows.commits)
    ++ count_line (codes "aborted") (left_count Aborted rows.left)
    ++ count_line (codes "open") (left_count Live rows.left)
    ++ count_line (codes "unbegun") (left_count Unbegun rows.left)
    ++ codes "sum " ++ signed_decimal (sum_of rows.values) ++ line_feed
    ++ ended_line kind rows.events
