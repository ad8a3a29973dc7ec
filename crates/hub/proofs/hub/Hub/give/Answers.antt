use Rattle.std.proofs.Common.{◌≡◌, false, sym, ◌∙◌, ap}
use Rattle.hub.proofs.Results.{if_ok}
use Rattle.hub.proofs.hub.Hub.give.Goals as goal

pub returns-else-is_err-clause-ok : goal.returns-else-is_err-clause-ok
returns-else-is_err-clause-ok g c =
    let whole : c.args.self.now.broken ≡ false = sym (ap (λ v. v.broken) c.self.view_is) ∙ c.if-self.false in
    if_ok c.take_back-given.result _ _ (λ out given none s is.
    let n = c.node-node.result in
    let here = c.node-node.ensures whole s is in
    (n, here, given whole s n is here)) c.take_back-given.ensures.ok
