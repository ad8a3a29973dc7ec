use Rattle.std.proofs.Common.{◌++◌, reverse, ap, sym, ◌∙◌}
use Rattle.std.specs.Option.{option_or}
use Rattle.std.proofs.lemmas.List.{append-nil}
use Rattle.txn_lang.specs.Keys.{found}
use Rattle.txn_lang.proofs.Entries.{found-append}
use Rattle.exec_log.specs.Entries.{read_entries, write_entries}
use Rattle.exec_log.proofs.knowledge.knowledge.Goals as goal

pub returns-clause-shows : goal.returns-clause-shows
returns-clause-shows c = λ k.
    let reads = read_entries c.args.reads.now in
    let writes = reverse (write_entries c.args.writes.now) in
    let shown = c.in_ok-put_reads.ensures.shows k ∙ ap (λ es. found (reads ++ es) k) c.new-known.ensures.items ∙ ap (λ es. found es k) (append-nil reads) in
    ap (λ es. found es k) c.from_vec.ensures
    ∙ c.in_ok-put_writes.ensures.shows k
    ∙ found-append writes c.put_reads.new.known.items k
    ∙ ap (option_or (found writes k)) shown
    ∙ sym (found-append writes reads k)
