use Rattle.std.proofs.Common.{◌∙◌, ap, List}
use Rattle.std.specs.List.{list_any}
use Rattle.protocol.specs.Words.{Read}
use Rattle.mv_index.specs.BaseEntries.{misses_entry}
use Rattle.mv_index.proofs.BaseSearch.{base_conflicts}
use Rattle.mv_index.proofs.base_entries.BaseEntries.conflicts.Goals as goal

pub returns : goal.returns
returns c =
    c.are_missed.ensures
    ∙ (ap (λ (rs : List Read). list_any (λ r. list_any (misses_entry c.args.ver r) c.args.self.now) rs) c.as_slice.ensures
    ∙ base_conflicts c.args.ver c.args.content.now c.args.self.now)
