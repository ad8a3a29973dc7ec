use Rattle.std.proofs.Common.{◌∙◌, ◌<◌, ◌≤◌, length, ap, arith}
use Rattle.std.proofs.lemmas.List.{take_all}
use Rattle.mv_index.specs.FirstValues.{first_of}
use Rattle.mv_index.proofs.FirstValuesLemmas.{listed_first, listed_held, listed_more}
use Rattle.mv_index.proofs.first_values.FirstValues.new.Goals as goal

pub loop-first-preserved : goal.loop-first-preserved
loop-first-preserved c = λ k.
    let h : c.loop-first.first-index < length c.args.firsts.now = omega arith in
    listed_more k c.args.firsts.now c.loop-first.first-index _ _ _ h (c.loop-first.invariant k) (c.in_ok-add.ensures k)

pub returns : goal.returns
returns c = λ k.
    let past : length c.args.firsts.now ≤ c.loop-first.first-index = omega arith in
    ap first_of (c.loop-first.invariant k ∙ ap (listed_first k) (take_all c.loop-first.first-index c.args.firsts.now past)) ∙ listed_held k c.args.firsts.now
