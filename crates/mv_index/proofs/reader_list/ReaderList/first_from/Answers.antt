use Rattle.std.proofs.Common.{◌∙◌, ap, subst, sym}
use Rattle.mv_index.specs.ReaderList.{stands_before, prefix, IsInOrder}
use Rattle.mv_index.proofs.reader_list.ReaderList.first_from.Goals as goal

pub returns-clause-place : goal.returns-clause-place
returns-clause-place c = λ order.
    c.place.ensures.place (subst IsInOrder (sym c.as_slice.ensures.value) order)
    ∙ ap (prefix (stands_before c.args.key c.args.ver)) c.as_slice.ensures.value
