-- The lines that say why nothing else was written.
use Rattle.std.specs.Prelude.{ℕ, List, ◌++◌, codes, decimal}
use Rattle.report.specs.Text.{line_feed}
use Rattle.net_core.specs.declared.plan.LinkKind.{LinkKind}
use Rattle.net_core.specs.declared.plan.LinkKind.TheVariants.{Fair, Listed, Seeded}
use Rattle.txn_text.specs.Faults.{words_of}
use Rattle.txn_text.specs.declared.faults.FaultKind.{FaultKind}

abbrev pub bad_command_line : List ℕ
bad_command_line = codes "morty: bad command line" ++ line_feed

abbrev pub read_failed : List ℕ
read_failed = codes "morty: read failed" ++ line_feed

abbrev pub too_long : List ℕ
too_long = codes "morty: script too long" ++ line_feed

-- the one fault of a text
abbrev pub fault_line : ℕ → FaultKind → List ℕ
fault_line line kind = codes "morty: script line " ++ decimal line ++ codes ": " ++ words_of kind ++ line_feed

abbrev pub kind_word : LinkKind → List ℕ
kind_word Fair = codes "fair"
kind_word Listed = codes "listed"
kind_word Seeded = codes "seeded"

-- no link was handed in for a slot
abbrev pub no_link_line : LinkKind → ℕ → List ℕ
no_link_line kind slot = codes "morty: no link " ++ kind_word kind ++ codes " " ++ decimal slot ++ line_feed
