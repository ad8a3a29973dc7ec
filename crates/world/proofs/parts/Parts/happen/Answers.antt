use Rattle.std.proofs.Common.{◌≡◌, ◌++◌, sym, ap, ◌∙◌, subst}
use Rattle.std.specs.Prelude.{length}
use Rattle.std.proofs.lemmas.Result.{on_ok_weaker}
use Rattle.protocol.specs.Lists.{IsIn}
use Rattle.protocol.specs.World.State.{mail_limit}
use Rattle.protocol.specs.World.Events.{enabled}
use Rattle.wire.specs.Sendable.{MaySend}
use Rattle.world_rows.proofs.Enabling.{some_of}
use Rattle.world.specs.World.{IsWorld, with_sent, counted}
use Rattle.world.proofs.Happening.{move, moves}
use Rattle.world.proofs.Keeping.{moved_after}
use Rattle.world.proofs.Taking.{less_than}
use Rattle.world.proofs.parts.Parts.happen.Goals as goal

pub finish-requires-clause-frames : goal.finish-requires-clause-frames
finish-requires-clause-frames c =
    let h = c.requires.can in
    let v = move c.args.self.now c.args.event h in
    let e = moves c.args.self.now c.args.event h in
    let taken = c.in_ok-sent.ensures h.loads h.world v h.stands h.sound e in
    let room = less_than mail_limit (length h.world.mail) (c.requires.room h.loads h.world h.stands) in
    λ m there. h.sound.sent c.args.event v e room m (subst (λ ms. IsIn m ms) (c.as_slice.ensures ∙ taken.sent) there)

pub finish-requires-clause-stands : goal.finish-requires-clause-stands
finish-requires-clause-stands c =
    let h = c.requires.can in
    let v = move c.args.self.now c.args.event h in
    let taken = c.in_ok-sent.ensures h.loads h.world v h.stands h.sound (moves c.args.self.now c.args.event h) in
    (h.loads, v.world, taken.world)

pub returns : goal.returns
returns c = on_ok_weaker c.finish.result (λ f. λ l w is sound can.
    let v = some_of (enabled l.plan w c.args.event) can in
    let taken = c.in_ok-sent.ensures l w v.0 is sound v.1 in
    let world = f l v.0.world taken.world in
    let sent = subst (λ ms. IsWorld l (counted (with_sent v.0.world ms)) c.finish.new.self) (c.as_slice.ensures ∙ taken.sent) world in
    subst (λ u. IsWorld l u c.finish.new.self) (moved_after l.plan w c.args.event v.0 v.1 (c.requires.room l w is)) sent) c.finish.ensures
