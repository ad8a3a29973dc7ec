-- A Recoverer and a Truncator that have done nothing.
use Rattle.std.proofs.Common.{sym, ap, ◌∙◌}
use Rattle.recovery.specs.Recoverer.{RecoveringWarden}
use Rattle.world.proofs.warden.Warden.new.Goals as goal

pub returns : goal.returns
returns c = λ p e.
    let is = c.new.ensures in
    record {
      rules = ap (λ (r : RecoveringWarden). r.rules) is ∙ sym e;
      stands = c.new-2.ensures c.new.result (ap (λ (r : RecoveringWarden). r.rules.warden) is) (ap (λ (r : RecoveringWarden). r.rules.replicas) is)
          (ap (λ (r : RecoveringWarden). r.state) is) (ap (λ (r : RecoveringWarden). r.broken) is);
    }
