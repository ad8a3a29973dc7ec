use Rattle.std.proofs.Common.{◌≡◌, ◌++◌, ◌+◌, ◌<◌, ◌≤◌, [], ◌∷◌, length, refl, ap, sym, ◌∙◌, subst, arith}
use Rattle.std.specs.Prelude.{take}
use Rattle.std.proofs.lemmas.Option.{slice_get_read}
use Rattle.protocol.specs.World.Committed.{nodes as nodes_of}
use Rattle.protocol.proofs.EventSteps.{IsIn-get}
use Rattle.world.specs.World.{IsWorld, with_sent}
use Rattle.world.proofs.Taking.{IsPosted, append_none, posted_more, take_past}
use Rattle.world.proofs.WorldLemmas.{envelope_sent}
use Rattle.world.proofs.parts.Parts.post.Goals as goal

pub post-requires-clause-stands : goal.post-requires-clause-stands
post-requires-clause-stands c =
    let s = c.requires.stands in
    let now = c.loop-env.invariant.stands s.0 s.1 s.2 in
    record {
      nodes = nodes_of s.0.plan;
      mail = s.1.mail ++ take c.loop-env.env-index c.args.sent.now;
      delivered = s.1.delivered;
      stopped = s.1.stopped;
      stand = now.boxes;
    }

pub post-requires-clause-sendable : goal.post-requires-clause-sendable
post-requires-clause-sendable c =
    let ms = c.args.sent.now in
    let i = c.loop-env.env-index in
    let test = c.loop-env-test.true in
    let less : i < length ms = omega (arith, test) in
    c.requires.frames c.env-item.result (IsIn-get ms i c.env-item.result (slice_get_read ms (length ms) i c.env-item.result refl less c.env-item.is))

pub loop-env-preserved : goal.loop-env-preserved
loop-env-preserved c = record {
  stands = λ l w is.
      let ms = c.args.sent.now in
      let i = c.loop-env.env-index in
      let test = c.loop-env-test.true in
      let less : i < length ms = omega (arith, test) in
      let at = slice_get_read ms (length ms) i c.env-item.result refl less c.env-item.is in
      let now = c.loop-env.invariant.stands l w is in
      let mail = w.mail ++ take i ms in
      let boxes = c.in_ok-post.ensures.sent (nodes_of l.plan) mail w.delivered w.stopped now.boxes in
      let number = c.sent-number.ensures (nodes_of l.plan) mail w.delivered w.stopped now.boxes in
      let notes = c.in_ok-sent.ensures mail (λ d. (w.client d).attempts) now.notes number in
      let sent = envelope_sent l (with_sent w (take i ms)) c.env-item.result c.loop-env.self c.post.new.self c.sent.new.self c.in_ok-post.ensures.slots now boxes notes in
      subst (λ m. IsWorld l (record w { mail = m }) (record c.loop-env.self { boxes = c.post.new.self; notes = c.sent.new.self }))
      (posted_more w ms i c.env-item.result at) sent;
}

pub returns : goal.returns
returns c = λ l w is.
    let now = c.loop-env.invariant.stands l w is in
    let test = c.loop-env-test.false in
    let past : length c.args.sent.now ≤ c.loop-env.env-index = omega (arith, test) in
    subst (λ ms. IsWorld l (with_sent w ms) c.loop-env.self) (take_past c.args.sent.now c.loop-env.env-index past) now
