-- Where the number is above the fresh ones, they rise with it.
use Rattle.std.proofs.Common.{◌≡◌, ◌≤◌, ◌++◌, ◌∷◌, [], length, ap, sym, refl, subst, arith, length-append}
use Rattle.std.specs.Prelude.{drop}
use Rattle.menus.specs.Inbox.{Arrived, AreBelow, AreRising}
use Rattle.menus.proofs.Removal.{drop_push, rising_push}
use Rattle.menus.proofs.inbox.Inbox.arrive.Goals as goal

pub invariant_of-self-2 : goal.invariant_of-self-2
invariant_of-self-2 c =
    let b = c.self.inside in
    let fresh : drop b.taken b.numbers.items ≡ c.args.self.now.fresh = ap (λ (v : Arrived). v.fresh) c.self.view_is in
    let below : AreBelow c.args.i (drop b.taken b.numbers.items) = subst (AreBelow c.args.i) (sym fresh) c.requires in
    let within : b.taken ≤ length (b.numbers.items ++ c.args.i ∷ []) = omega (arith, length-append b.numbers.items (c.args.i ∷ []), c.self.invariant.0) in
    let rising : AreRising (drop b.taken (b.numbers.items ++ c.args.i ∷ [])) =
    subst AreRising (sym (drop_push b.taken c.args.i b.numbers.items c.self.invariant.0))
    (rising_push c.args.i (drop b.taken b.numbers.items) c.self.invariant.1 below) in
    rw c.in_ok-push.ensures.items (within, rising)

pub returns-clause-ok : goal.returns-clause-ok
returns-clause-ok c =
    let b = c.self.inside in
    let fresh : drop b.taken b.numbers.items ≡ c.args.self.now.fresh = ap (λ (v : Arrived). v.fresh) c.self.view_is in
    let same : b.delivered ≡ c.args.self.now.delivered = ap (λ (v : Arrived). v.delivered) c.self.view_is in
    rw (c.in_ok-push.ensures.items, drop_push b.taken c.args.i b.numbers.items c.self.invariant.0, fresh, same) refl
