use Rattle.std.proofs.Common.{rules}
use Rattle.std.proofs.lemmas.Fn.{filter_same}
use Rattle.protocol.specs.Words.{before}
use Rattle.mv_index.specs.declared.reader_list.Reader.{Reader}
use Rattle.mv_index.proofs.reader_list.ReaderList.cut.Goals as goal

pub returns : goal.returns
returns c = filter_same _ (λ (r : Reader). before c.args.w r.ver) _ (λ x b f h. search rules) _ _ c.retain.ensures.filtered
