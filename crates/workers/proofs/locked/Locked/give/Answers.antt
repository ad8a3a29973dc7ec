use Rattle.std.proofs.Common.{◌≡◌, ◌+◌, ap, subst, sym, arith}
use Rattle.hub.specs.Kept.{rans_in}
use Rattle.hub.specs.Views.{history}
use Rattle.node_future.specs.Answers.{CountsGive, give_kind}
use Rattle.workers.proofs.Counting.{give_adds, give_shift}
use Rattle.workers.proofs.locked.Locked.give.Goals as goal

pub grown-requires : goal.grown-requires
grown-requires g c =
    let old = c.self.inside.hub in
    let new = c.give-out.new.self in
    let a = give_adds g.N.Named.start g.M.Machine.rules c.args.slot c.requires.slot old new c.give-out.result
    (λ o j. g.M.Machine.of_job o j c.args.done.now) c.give-out.ensures.over c.give-out.ensures.ok c.give-out.ensures.err in
    let first = c.counted-first.ensures.rans a.from a.is in
    let last = c.counted.ensures.rans a.from a.is in (
      (let same = a.counts.picks in omega (arith, c.counted-first.ensures.turns, c.counted.ensures.turns)),
      (let more = a.counts.no_fewer in omega (arith, first, last)),
    )

pub enter-requires-clause-fits : goal.enter-requires-clause-fits
enter-requires-clause-fits g c =
    let old = c.self.inside.hub in
    let new = c.give-out.new.self in
    let a = give_adds g.N.Named.start g.M.Machine.rules c.args.slot c.requires.slot old new c.give-out.result
    (λ o j. g.M.Machine.of_job o j c.args.done.now) c.give-out.ensures.over c.give-out.ensures.ok c.give-out.ensures.err in
    let first = c.counted-first.ensures.rans a.from a.is in
    let kept = c.self.invariant.1 a.from a.is in (
      (omega (arith, c.self.invariant.0, c.counted-first.ensures.turns, c.grown.ensures.turns)),
      (omega (arith, kept, first, c.grown.ensures.rans)),
    )

pub returns-clause-rans : goal.returns-clause-rans
returns-clause-rans g c =
    let old = c.self.inside.hub in
    let new = c.give-out.new.self in
    let a = give_adds g.N.Named.start g.M.Machine.rules c.args.slot c.requires.slot old new c.give-out.result
    (λ o j. g.M.Machine.of_job o j c.args.done.now) c.give-out.ensures.over c.give-out.ensures.ok c.give-out.ensures.err in
    let k = give_kind c.give-out.result in
    let m = g.M.Machine.rules a.from.origin in
    let first = c.counted-first.ensures.rans a.from a.is in
    let last = c.counted.ensures.rans a.from a.is in
    let more : rans_in m (history new) ≡ rans_in m (history old) + c.grown.result.rans = omega (arith, first, last, c.grown.ensures.rans) in
    let grew = give_shift k (rans_in m (history old)) c.args.mine.now.rans c.grown.result.rans
    (subst (λ i. CountsGive k (rans_in m (history old)) i) more a.counts.rans) in
    subst (λ i. CountsGive k c.args.mine.now.rans i) (sym (ap (λ t. t.rans) c.enter.ensures.mine)) grew

pub returns-clause-turns : goal.returns-clause-turns
returns-clause-turns g c =
    let old = c.self.inside.hub in
    let new = c.give-out.new.self in
    let a = give_adds g.N.Named.start g.M.Machine.rules c.args.slot c.requires.slot old new c.give-out.result
    (λ o j. g.M.Machine.of_job o j c.args.done.now) c.give-out.ensures.over c.give-out.ensures.ok c.give-out.ensures.err in
    let mine = ap (λ t. t.turns) c.enter.ensures.mine in
    let same = a.counts.picks in
    omega (arith, c.counted-first.ensures.turns, c.counted.ensures.turns, c.grown.ensures.turns, mine)
