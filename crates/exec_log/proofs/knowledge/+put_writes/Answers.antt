use Rattle.std.proofs.Common.{◌≡◌, [], ◌∷◌, ◌++◌, reverse, ap, sym, subst, ◌∙◌, w64, to_z, of_z, rules}
use Rattle.std.proofs.lemmas.List.{reverse-append, map-append}
use Rattle.morty_base.specs.Names.{same_key}
use Rattle.txn_lang.specs.Keys.{entry, first_of, found}
use Rattle.exec_log.specs.Entries.{write_entry, write_entries}
use Rattle.exec_log.specs.Knowledge.{IsRising}
use Rattle.exec_log.proofs.Placing.{found-with_entry, rising-with_entry}
use Rattle.exec_log.proofs.knowledge.+put_writes.Goals as goal

pub returns-in_ok-put-clause-rising : goal.returns-in_ok-put-clause-rising
returns-in_ok-put-clause-rising t c = λ h.
    subst IsRising (sym c.in_ok-put.ensures) (rising-with_entry _ c.put_writes.new.known.items (c.in_ok-put_writes.ensures.rising h))

pub returns-in_ok-put-clause-shows : goal.returns-in_ok-put-clause-shows
returns-in_ok-put-clause-shows t c = λ k.
    let w = c.in-Some.last.now in
    let front = c.in-Some.front.now in
    let old = c.args.known.now.items in
    let rest = c.put_writes.new.known.items in
    let same : to_z w64 (of_z w64 w.value) ≡ w.value = search rules in
    let newest : reverse (write_entries (front ++ w ∷ [])) ≡ entry w.key w.value ∷ reverse (write_entries front) =
    ap reverse (map-append write_entry front (w ∷ [])) ∙ reverse-append (write_entries front) (entry w.key w.value ∷ []) in
    ap (λ es. found es k) c.in_ok-put.ensures
    ∙ found-with_entry (entry w.key (to_z w64 (of_z w64 w.value))) rest k
    ∙ ap (λ x. first_of (same_key w.key k) x (found rest k)) same
    ∙ ap (first_of (same_key w.key k) w.value) (c.in_ok-put_writes.ensures.shows k)
    ∙ ap (λ es. found (es ++ old) k) (sym newest)
    ∙ ap (λ ws. found (reverse (write_entries ws) ++ old) k) (sym c.in-Some.ensures.cases.0)
