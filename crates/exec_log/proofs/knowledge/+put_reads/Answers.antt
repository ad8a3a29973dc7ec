use Rattle.std.proofs.Common.{◌≡◌, ◌++◌, ap, sym, subst, ◌∙◌, w64, to_z, of_z, rules}
use Rattle.morty_base.specs.Names.{same_key}
use Rattle.txn_lang.specs.Keys.{entry, first_of, found}
use Rattle.exec_log.specs.Entries.{read_entries}
use Rattle.exec_log.specs.Knowledge.{IsRising}
use Rattle.exec_log.proofs.Placing.{found-with_entry, rising-with_entry}
use Rattle.exec_log.proofs.knowledge.+put_reads.Goals as goal

pub returns-in_ok-put-clause-rising : goal.returns-in_ok-put-clause-rising
returns-in_ok-put-clause-rising t c = λ h.
    subst IsRising (sym c.in_ok-put.ensures) (rising-with_entry _ c.put_reads.new.known.items (c.in_ok-put_reads.ensures.rising h))

pub returns-in_ok-put-clause-shows : goal.returns-in_ok-put-clause-shows
returns-in_ok-put-clause-shows t c = λ k.
    let r = c.in-Some.first.now in
    let old = c.args.known.now.items in
    let rest = c.put_reads.new.known.items in
    let same : to_z w64 (of_z w64 r.value) ≡ r.value = search rules in
    ap (λ es. found es k) c.in_ok-put.ensures
    ∙ found-with_entry (entry r.key (to_z w64 (of_z w64 r.value))) rest k
    ∙ ap (λ x. first_of (same_key r.key k) x (found rest k)) same
    ∙ ap (first_of (same_key r.key k) r.value) (c.in_ok-put_reads.ensures.shows k)
    ∙ ap (λ rs. found (read_entries rs ++ old) k) (sym c.in-Some.ensures.cases.0)
