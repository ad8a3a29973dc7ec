use Rattle.std.proofs.Common.{◌≡◌, ◌+◌, ap, subst, sym, arith}
use Rattle.hub.specs.Kept.{picks_in}
use Rattle.hub.specs.Views.{history}
use Rattle.node_future.specs.Answers.{CountsTurn, turn_kind}
use Rattle.workers.proofs.Counting.{turn_adds, turn_shift}
use Rattle.workers.proofs.locked.Locked.turn.Goals as goal

pub grown-requires : goal.grown-requires
grown-requires g c =
    let old = c.self.inside.hub in
    let new = c.turn-out.new.self in
    let a = turn_adds g.N.Named.start g.M.Machine.rules c.args.slot c.requires.slot old new c.turn-out.result c.turn-out.ensures.ok c.turn-out.ensures.err in
    let first = c.counted-first.ensures.rans a.from a.is in
    let last = c.counted.ensures.rans a.from a.is in (
      (let more = a.counts.no_fewer in omega (arith, c.counted-first.ensures.turns, c.counted.ensures.turns)),
      (let same = a.counts.rans in omega (arith, first, last)),
    )

pub enter-requires-clause-fits : goal.enter-requires-clause-fits
enter-requires-clause-fits g c =
    let old = c.self.inside.hub in
    let new = c.turn-out.new.self in
    let a = turn_adds g.N.Named.start g.M.Machine.rules c.args.slot c.requires.slot old new c.turn-out.result c.turn-out.ensures.ok c.turn-out.ensures.err in
    let first = c.counted-first.ensures.rans a.from a.is in
    let kept = c.self.invariant.1 a.from a.is in (
      (omega (arith, c.self.invariant.0, c.counted-first.ensures.turns, c.grown.ensures.turns)),
      (omega (arith, kept, first, c.grown.ensures.rans)),
    )

pub returns-clause-turns : goal.returns-clause-turns
returns-clause-turns g c =
    let old = c.self.inside.hub in
    let new = c.turn-out.new.self in
    let a = turn_adds g.N.Named.start g.M.Machine.rules c.args.slot c.requires.slot old new c.turn-out.result c.turn-out.ensures.ok c.turn-out.ensures.err in
    let k = turn_kind c.turn-out.result in
    let more : picks_in (history new) ≡ picks_in (history old) + c.grown.result.turns =
    omega (arith, c.counted-first.ensures.turns, c.counted.ensures.turns, c.grown.ensures.turns) in
    let grew = turn_shift k (picks_in (history old)) c.args.mine.now.turns c.grown.result.turns
    (subst (λ i. CountsTurn k (picks_in (history old)) i) more a.counts.picks) in
    subst (λ i. CountsTurn k c.args.mine.now.turns i) (sym (ap (λ t. t.turns) c.enter.ensures.mine)) grew

pub returns-clause-rans : goal.returns-clause-rans
returns-clause-rans g c =
    let old = c.self.inside.hub in
    let new = c.turn-out.new.self in
    let a = turn_adds g.N.Named.start g.M.Machine.rules c.args.slot c.requires.slot old new c.turn-out.result c.turn-out.ensures.ok c.turn-out.ensures.err in
    let first = c.counted-first.ensures.rans a.from a.is in
    let last = c.counted.ensures.rans a.from a.is in
    let mine = ap (λ t. t.rans) c.enter.ensures.mine in
    let same = a.counts.rans in
    omega (arith, first, last, c.grown.ensures.rans, mine)
