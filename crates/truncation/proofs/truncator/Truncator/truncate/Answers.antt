-- A truncation begins as the definitions begin it.
use Rattle.std.proofs.Common.{◌+◌, [], false, ap, subst, ◌∙◌, add-one}
use Rattle.protocol.specs.Warden.Truncation.{truncate}
use Rattle.truncation.specs.declared.truncation.Truncation.{Truncation as Newest}
use Rattle.truncation.specs.Truncator.{TruncatingWarden, StandsFor, StandsAt}
use Rattle.truncation.proofs.TruncatorLemmas.{begins}
use Rattle.truncation.proofs.truncator.Truncator.truncate.Goals as goal

pub returns-clause-ok : goal.returns-clause-ok
returns-clause-ok c = λ rec s stands.
    let i = c.self.inside in
    let with : Newest → TruncatingWarden = λ n. record { warden = i.warden; replicas = i.replicas; newest = n; begun = i.begun + 1; broken = false } in
    subst (λ (z : TruncatingWarden). StandsFor z rec s
    → StandsAt (with c.new.result) rec c.args.out.now c.send_to_all.new.out (truncate s c.args.w)) c.self.view_is
    (λ p. begins (record { warden = i.warden; replicas = i.replicas; newest = i.newest; begun = i.begun; broken = i.broken })
    (with c.new.result) rec s c.args.w c.args.out.now c.send_to_all.new.out p
    (ap with c.new.ensures ∙ ap (λ n. record {
      warden = i.warden;
      replicas = i.replicas;
      newest = record { w = c.args.w; answers = []; named = []; dropped = false };
      begun = n;
      broken = false;
    }) (add-one i.begun))
    c.in_ok-send_to_all.ensures) stands
