use Rattle.std.proofs.Common.{◌∷◌, ap, subst, ◌∙◌, w64}
use Rattle.std.proofs.lemmas.Int.{to_z-of_z}
use Rattle.std.proofs.lemmas.Result.{on_ok_weaker}
use Rattle.txn_lang.specs.Keys.{entry, HoldTheSame}
use Rattle.txn_lang.proofs.SameMaps.{same_with}
use Rattle.serial_rows.proofs.TableLemmas.{same_through}
use Rattle.serial_rows.proofs.table.Table.add.Goals as goal

pub returns : goal.returns
returns c = λ m is.
    let e = c.args.entry in
    let old = c.args.self.now.cells in
    let here = ap (entry c.entry.inside.key) (to_z-of_z w64 c.entry.inside.value c.entry.invariant) ∙ c.entry.view_is in
    let made = subst (λ e. HoldTheSame c.insert.new.self (e ∷ old)) here c.in_ok-insert.ensures.ok in
    on_ok_weaker c.add_key.result (λ keys. record { same = same_through c.insert.new.self (e ∷ old) (e ∷ m) made (same_with old m is.same e); keys = keys })
    (c.add_key.ensures m is.keys)
