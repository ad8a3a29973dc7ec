use Rattle.std.proofs.Common.{refl}
use Rattle.std.proofs.lemmas.Result.{IfOk-weaker}
use Rattle.world.specs.Origin.{script, loads, world_at}
use Rattle.world.proofs.world.World.rows.Goals as goal

pub rows-requires : goal.rows-requires
rows-requires c =
    let r = c.requires.reached c.if-self.false in
    (loads r.origin r.stands.after.origin, world_at r.origin r.history, r.stands.after.world)

pub returns : goal.returns
returns c = IfOk-weaker c.rows.result _ _ (λ r f. λ o h s. f (script o) (loads o s.after.origin) (world_at o h) refl s.after.world s.whole.told) c.rows.ensures
