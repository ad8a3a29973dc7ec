-- One more program was run.
use Rattle.std.proofs.Common.{◌≡◌, List, [], ◌∷◌, ◌++◌, ap, sym, ◌∙◌, append_assoc}
use Rattle.txn_lang.specs.Keys.{Entry}
use Rattle.txn_lang.specs.Runs.{Run}
use Rattle.txn_lang.specs.Program.{serial_of, map_after, serial, last_map}
use Rattle.report.specs.declared.rows.CommitRow.{CommitRow}
use Rattle.serial_rows.specs.Rows.{Item, programs_of, commit_row, commit_rows}

-- the rows of what is still to run on a map
abbrev pub rows_left : List Entry → List Item → List CommitRow
rows_left m items = commit_rows items (serial m (programs_of items))

pub one_more_row : (done all : List CommitRow) (row : CommitRow) (r : Run) (item : Item) (here rest : List Item) (m : List Entry) → here ≡ item ∷ rest →
    row ≡ commit_row item r → r ≡ serial_of item.program m → done ++ rows_left m here ≡ all →
    (done ++ row ∷ []) ++ rows_left (map_after m item.program) rest ≡ all
one_more_row done all row r item here rest m next is ran so_far =
    append_assoc done (row ∷ []) (rows_left (map_after m item.program) rest)
    ∙ ap (λ x. done ++ x ∷ rows_left (map_after m item.program) rest) (is ∙ ap (commit_row item) ran)
    ∙ ap (λ l. done ++ rows_left m l) (sym next)
    ∙ so_far

pub one_more_map : (item : Item) (here rest : List Item) (m last : List Entry) → here ≡ item ∷ rest → last_map m (programs_of here) ≡ last →
    last_map (map_after m item.program) (programs_of rest) ≡ last
one_more_map item here rest m last next so_far = ap (λ l. last_map m (programs_of l)) (sym next) ∙ so_far
