use Rattle.std.proofs.Common.{◌≡◌, ◌+◌, List, ◌∷◌, [], ◌++◌, map, drop, refl, ap, subst, sym, ◌∙◌, append-nil}
use Rattle.std.proofs.lemmas.List.{drop_more, drop_all}
use Rattle.txn_lang.specs.Keys.{Entry}
use Rattle.txn_lang.specs.Program.{map_after, last_map}
use Rattle.serial_runs.specs.Execution.{run_of_serial}
use Rattle.serial_rows.specs.Values.{AreValues}
use Rattle.serial_rows.specs.Rows.{programs_of, item_of}
use Rattle.serial_rows.proofs.OneMore.{rows_left, one_more_row, one_more_map}
use Rattle.serial_rows.proofs.serial.serial_rows.Goals as goal

pub loop-item-init : goal.loop-item-init
loop-item-init c =
    (c.args.firsts.now, ap (λ l. l ++ rows_left c.args.firsts.now (map item_of c.args.items.now)) c.new-commits.ensures, refl, c.in_ok-table.ensures)

pub loop-item-preserved : goal.loop-item-preserved
loop-item-preserved c =
    let so = c.loop-item.invariant in
    let item = item_of c.item-item.result in
    let m = so.0 in
    let here = map item_of (drop c.loop-item.item-index c.args.items.now) in
    let rest = map item_of (drop (c.loop-item.item-index + 1) c.args.items.now) in
    let next : here ≡ item ∷ rest =
    ap (map item_of) (drop_more c.args.items.now c.loop-item.item-index c.item-item.result c.loop-item-test.true)
    ∙ ap (λ x. item_of x ∷ rest) (sym c.item-item.is) in
    let ran = c.in_ok-run.ensures m so.3 in (
      map_after m item.program,
      ap (λ l. l ++ rows_left (map_after m item.program) rest) c.in_ok-push.ensures.ok
          ∙ one_more_row c.loop-item.commits _ c.in_ok-commit_row.field-0 (run_of_serial c.in_ok-run.run') item here rest m next
          c.in_ok-commit_row.ensures ran.0 so.1,
      one_more_map item here rest m _ next so.2,
      ran.1,
    )

pub returns : goal.returns
returns c =
    let so = c.loop-item.invariant in
    let items = c.args.items.now in
    let done = c.loop-item.commits in
    let none : drop c.loop-item.item-index items ≡ [] = drop_all c.loop-item.item-index items c.loop-item-test.false in
    let last = ap (λ l. last_map so.0 (programs_of (map item_of l))) (sym none) ∙ so.2 in
    record {
      commits = c.commits-2.view_is ∙ sym (append-nil done) ∙ ap (λ l. done ++ rows_left so.0 (map item_of l)) (sym none) ∙ so.1;
      left = c.new-2.ensures;
      values = subst (λ (m : List Entry). AreValues m c.in_ok-rows.field-0) last (c.in_ok-rows.ensures so.0 so.3);
      events = refl;
    }
