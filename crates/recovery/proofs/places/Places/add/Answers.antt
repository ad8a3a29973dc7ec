-- One more place at an execution.
use Rattle.std.proofs.Common.{◌≡◌, ◌∷◌, [], ◌++◌, cond, Some, None, ap, sym, ◌∙◌, rules}
use Rattle.std.specs.BTreeMap.{get, is_at}
use Rattle.std.proofs.lemmas.Result.{on_ok_weaker, on_err_weaker}
use Rattle.recovery.specs.Places.{exec_cmp, listed}
use Rattle.recovery.proofs.PlacesLemmas.{added, kept}
use Rattle.recovery.proofs.places.Places.add.Goals as goal

pub returns-in-Some-clause-ok : goal.returns-in-Some-clause-ok
returns-in-Some-clause-ok c = on_ok_weaker c.push.result (λ e. λ x.
    added c.args.self.now.by_exec (c.get_mut.follows.lender c.push.new.self) c.args.exec (c.args.place ∷ []) c.push.new.self
    ((c.get_mut.follows.holds c.push.new.self).3 (search rules)).0 (e ∙ ap (λ l. l ++ c.args.place ∷ []) (search rules)) x) c.push.ensures.ok

pub returns-in-Some-clause-err : goal.returns-in-Some-clause-err
returns-in-Some-clause-err c = on_err_weaker c.push.result (λ e. λ x.
    kept c.args.self.now.by_exec (c.get_mut.follows.lender c.push.new.self) c.args.exec c.push.new.self
    ((c.get_mut.follows.holds c.push.new.self).3 (search rules)).0 (e ∙ search rules) x) c.push.ensures.err

pub returns-clause-ok : goal.returns-clause-ok
returns-clause-ok c = λ x.
    let m = c.args.self.now.by_exec in
    let none : get exec_cmp m c.args.exec ≡ None = search rules in
    let same : c.get_mut.follows.lender-at-none ≡ m = search rules in
    added m c.insert.new.self c.args.exec (c.args.place ∷ []) c.push-2.new.self
    (λ y. c.in_ok-insert.ensures.updates.0 y ∙ ap (λ n. cond (is_at (exec_cmp c.args.exec) y) (Some c.push-2.new.self) (get exec_cmp n y)) same)
    (c.in_ok-push.ensures.ok ∙ ap (λ l. l ++ c.args.place ∷ []) (c.new-places.ensures ∙ ap listed (sym none))) x
