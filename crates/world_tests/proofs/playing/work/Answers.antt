-- The pending job of a world of the origin fits the origin's code.
use Rattle.std.proofs.Common.{refl, sym, ◌∙◌}
use Rattle.std.proofs.lemmas.Result.{IfOk-at_ok}
use Rattle.world.specs.MachineLaws.{jobs_fit}
use Rattle.world_tests.proofs.playing.work.Goals as goal

pub work-requires : goal.work-requires
work-requires g c =
    let w = c.requires in
    let o = c.args.origin.now in
    let n = c.node-node.result in
    let is = IfOk-at_ok _ c.expect.ensures c.job.ensures o w.history n w.stands (c.node-node.ensures o w.history w.stands) in
    (o, refl, jobs_fit c.args.world.now o w.history w.stands n c.expect-job.result (sym is ∙ c.expect-job.ensures))

pub returns : goal.returns
returns g c =
    let w = c.requires in
    let o = c.args.origin.now in
    let n = c.node-node.result in
    let is = IfOk-at_ok _ c.expect.ensures c.job.ensures o w.history n w.stands (c.node-node.ensures o w.history w.stands) in
    let fits = jobs_fit c.args.world.now o w.history w.stands n c.expect-job.result (sym is ∙ c.expect-job.ensures) in
    record { job = c.expect-job.result; is = IfOk-at_ok _ c.expect-2.ensures c.work.ensures o refl fits }
