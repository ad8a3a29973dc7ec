use Rattle.std.proofs.Common.{arith}
use Rattle.workers.proofs.run.run_counted.Goals as goal

pub invariant_of-run_crew : goal.invariant_of-run_crew
invariant_of-run_crew g c =
    (c.requires.workers.0, (c.requires.kit.0, c.requires.kit.1, c.nodes-nodes.ensures.machine c.requires.kit.0 c.requires.kit.1, c.requires.kit.2))

pub overflow_add-out-2 : goal.overflow_add-out-2
overflow_add-out-2 g c =
    let s = c.requires.kit.0 in
    let is = c.requires.kit.1 in
    let grown = (c.in_ok-rest.ensures.grown s is).rans in
    let made = c.into_hub-hub.ensures.rans s is in
    let rest = c.in_ok-rest.ensures.rans s is in
    let all = c.counted-counted.ensures.rans s is in
    omega (arith, grown, made, rest, all)

pub returns-clause-turns : goal.returns-clause-turns
returns-clause-turns g c =
    let s = c.requires.kit.0 in
    let is = c.requires.kit.1 in
    let grown = (c.in_ok-rest.ensures.grown s is).picks in
    omega (arith, grown, c.into_hub-hub.ensures.turns, c.in_ok-rest.ensures.turns)

pub returns-clause-rans : goal.returns-clause-rans
returns-clause-rans g c = λ s is.
    let grown = (c.in_ok-rest.ensures.grown s is).rans in
    let made = c.into_hub-hub.ensures.rans s is in
    let rest = c.in_ok-rest.ensures.rans s is in
    omega (arith, grown, made, rest)
