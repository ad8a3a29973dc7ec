use Rattle.txn_text.proofs.LayoutLemmas.{laid_out_is_read}
use Rattle.txn_text.proofs.slices.layout_law.Goals as goal

pub returns : goal.returns
returns c = laid_out_is_read
