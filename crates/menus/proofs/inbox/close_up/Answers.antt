-- The gap moves down by one.
use Rattle.std.proofs.Common.{◌≡◌, ◌<◌, ◌-◌, suc, List, ℕ, length, get_or, set, ap, subst, sym, ◌∙◌, arith}
use Rattle.std.specs.List.{remove}
use Rattle.std.proofs.lemmas.List.{length-set}
use Rattle.menus.proofs.Removal.{remove_below}
use Rattle.menus.proofs.inbox.close_up.Goals as goal

down : (xs : List ℕ) (gap x : ℕ) → 0 < gap → gap < length xs → x ≡ get_or xs (gap - 1) x → remove (set xs gap x) (gap - 1) ≡ remove xs gap
down xs gap x low h e =
    let up : suc (gap - 1) ≡ gap = omega arith in
    ap (λ y. remove (set xs gap y) (gap - 1)) e
    ∙ subst (λ k. remove (set xs k (get_or xs (gap - 1) x)) (gap - 1) ≡ remove xs k) up (remove_below xs (gap - 1) x (omega arith))

pub loop-gap-preserved : goal.loop-gap-preserved
loop-gap-preserved c =
    let i = c.loop-gap.invariant in
    let same = length-set c.loop-gap.numbers.items c.loop-gap.gap c.index.result.now in
    record {
      from = omega (arith, c.loop-gap-test.true);
      within = omega (arith, i.within, c.loop-gap-test.true, same);
      len = same ∙ i.len;
      left = down c.loop-gap.numbers.items c.loop-gap.gap c.index.result.now (omega (arith, c.loop-gap-test.true)) i.within c.index.ensures ∙ i.left;
    }

pub returns-clause-left : goal.returns-clause-left
returns-clause-left c =
    let i = c.loop-gap.invariant in
    let end : c.loop-gap.gap ≡ c.args.start = omega (arith, i.from, c.loop-gap-test.false) in
    ap (remove c.loop-gap.numbers.items) (sym end) ∙ i.left
