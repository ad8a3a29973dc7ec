use Rattle.hub.proofs.Ends.{ends_quiet, ends_spent}
use Rattle.hub.proofs.hub.Hub.act.Goals as goal

pub end-requires-clause-running : goal.end-requires-clause-running
end-requires-clause-running g c = λ s is. (rw c.in-Quiet.is at c.requires.case s c.node-node.result is (c.node-node.ensures c.requires.whole s is)).0

pub end-requires-clause-end : goal.end-requires-clause-end
end-requires-clause-end g c = λ s is full.
    let case = rw c.in-Quiet.is at c.requires.case s c.node-node.result is (c.node-node.ensures c.requires.whole s is) in
    ends_quiet (g.M.Machine.rules s.origin) s.turns _ full case.1

pub end-requires-in-Spent-clause-running : goal.end-requires-in-Spent-clause-running
end-requires-in-Spent-clause-running g c = λ s is.
    (rw c.in-Spent.is at c.requires.case s c.node-node.result is (c.node-node.ensures c.requires.whole s is)).0.no_end

pub end-requires-in-Spent-clause-end : goal.end-requires-in-Spent-clause-end
end-requires-in-Spent-clause-end g c = λ s is full.
    let here = c.node-node.ensures c.requires.whole s is in
    let case = rw c.in-Spent.is at c.requires.case s c.node-node.result is here in
    ends_spent (g.M.Machine.rules s.origin) s.turns _ c.args.slot c.node-node.result full case.0.not_quiet here case.1 case.3 case.4

pub ask-requires-clause-running : goal.ask-requires-clause-running
ask-requires-clause-running g c = λ s is.
    (rw c.in-Ask.is at c.requires.case s c.node-node.result is (c.node-node.ensures c.requires.whole s is)).0.no_end
