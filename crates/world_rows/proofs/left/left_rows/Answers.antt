-- One more client.
use Rattle.std.proofs.Common.{◌≡◌, ◌∙◌, ◌<◌, length, ap, rules, arith, ℕ}
use Rattle.std.specs.Prelude.{flat_map}
use Rattle.std.proofs.lemmas.Option.{slice_get-get_or}
use Rattle.protocol.specs.Lists.{upto}
use Rattle.world_rows.proofs.LeftLemmas.{client_rows, left_more}
use Rattle.world_rows.proofs.left.left_rows.Goals as goal

pub loop-i-init : goal.loop-i-init
loop-i-init c = λ s w cs a p. search rules

pub loop-i-preserved : goal.loop-i-preserved
loop-i-preserved c = λ s w cs a p.
    let h : c.loop-i.i < length c.args.clients.now = omega arith in
    left_more s w cs _ c.args.clients.now c.loop-i.i _ _ _ a p (slice_get-get_or c.args.clients.now c.loop-i.i _ h) (c.loop-i.invariant s w cs a p)
    c.in_ok-add_client.ensures

pub returns : goal.returns
returns c = λ s w cs a p.
    let past : c.loop-i.i ≡ length c.args.clients.now = omega arith in
    c.loop-i.invariant s w cs a p ∙ ap (λ (n : ℕ). flat_map (client_rows s w cs) (upto n)) (past ∙ p.count)
