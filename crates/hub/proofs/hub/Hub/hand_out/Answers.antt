use Rattle.std.proofs.Common.{length, map}
use Rattle.std.specs.Prelude.{slice_set}
use Rattle.hub.specs.Views.{nodes_of}
use Rattle.hub.proofs.hub.Hub.hand_out.Goals as goal

pub returns-clause-ok : goal.returns-clause-ok
returns-clause-ok g c = λ whole s n is here.
    let told = c.in_ok-job.ensures whole s n is here in
    let job = rw (← c.self.view_is) at told in
    let old = c.self.inside in
    rw (← c.self.view_is) (λ i. record {
      nodes = length old.links.items;
      journal = old.journal.items;
      jobs = map (g.M.Machine.jobs old.machine) (nodes_of g.N.Named.start g.M.Machine.rules);
      handed = slice_set old.handed.items c.args.slot (job i);
      ended = old.ended;
      spoiled = old.spoiled;
      broken = old.broken;
    })
