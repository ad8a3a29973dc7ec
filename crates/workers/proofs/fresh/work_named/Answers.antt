use Rattle.std.proofs.Common.{◌≡◌, Some, reverse, map, ap, sym, ◌∙◌, subst}
use Rattle.net_core.specs.Machine.{History}
use Rattle.net_core.specs.Marks.{end_of}
use Rattle.hub.specs.Kept.{picks_in, rans_in}
use Rattle.runner.specs.WholeRun.{start_of}
use Rattle.workers.proofs.fresh.work_named.Goals as goal

pub returns : goal.returns
returns g c =
    let s = start_of c.args.origin.now c.args.turns (map g.L.Link.state_of c.args.links.items) in
    let m = g.M.Machine.rules c.args.origin.now in
    let out = c.in_ok-hub-2.out in
    let same = ap reverse (sym c.into_parts-machine.ensures.journal) in
    record {
      run = c.into_parts-machine.ensures.run c.in_ok-hub-2.ensures.whole s c.requires.start;
      end = subst (λ (h : History). end_of m c.args.turns h ≡ Some out.ended) same (c.in_ok-hub-2.ensures.end s c.requires.start);
      turns = c.in_ok-hub-2.ensures.turns ∙ ap picks_in same;
      rans = c.in_ok-hub-2.ensures.rans s c.requires.start ∙ ap (rans_in m) same;
    }
