-- One more warden has done nothing.
use Rattle.std.proofs.Common.{◌≡◌, ℕ, suc, ◌+◌, ◌∷◌, [], ◌++◌, List, length, refl, sym, subst, ap, ◌∙◌, arith, length-append}
use Rattle.protocol.specs.Warden.State.{fresh_warden}
use Rattle.protocol.specs.World.State.{Plan, warden_rules}
use Rattle.world.specs.declared.warden.Warden.{Warden}
use Rattle.world.specs.Wardens.{IsWarden}
use Rattle.world.proofs.Placed.{Stand, pushed}
use Rattle.world.proofs.wardens.Wardens.new.Goals as goal

given_rules : (p : Plan) (i a b d : ℕ) → p.wardens ≡ a → p.replicas ≡ b → length p.clients ≡ d →
    warden_rules p (i + 1) ≡ record { warden = i + 1; wardens = a; replicas = b; clients = d }
given_rules p i a b d e f g = rw (sym e, sym f, sym g) refl

more : (p : Plan) (xs : List Warden) (i : ℕ) (w : Warden) → length xs ≡ i → Stand (IsWarden p) (λ k. fresh_warden) xs → IsWarden p (i + 1) fresh_warden w →
    Stand (IsWarden p) (λ k. fresh_warden) (xs ++ w ∷ [])
more p xs i w n h k =
    let e : i + 1 ≡ suc (length xs) = omega (arith, n) in
    pushed (IsWarden p) (λ k. fresh_warden) xs w h (subst (λ j. IsWarden p j fresh_warden w) e k)

pub loop-i-preserved : goal.loop-i-preserved
loop-i-preserved c =
    let items = c.loop-i.wardens.items in
    record {
      count = ap length c.in_ok-push.ensures.items ∙ (length-append items (c.new.result ∷ []) ∙ ap (λ n. n + 1) c.loop-i.invariant.count);
      each = λ p e f g. subst (Stand (IsWarden p) (λ k. fresh_warden)) (sym c.in_ok-push.ensures.items)
          (more p items c.loop-i.i c.new.result c.loop-i.invariant.count (c.loop-i.invariant.each p e f g)
          (c.new.ensures p (given_rules p c.loop-i.i c.args.count c.args.replicas c.args.clients e f g)));
    }

pub returns : goal.returns
returns c = λ p e f g. record {
  count = c.loop-i.invariant.count ∙ (omega (arith, c.loop-i-test.false, c.loop-i.auto.i-end, e));
  each = c.loop-i.invariant.each p e f g;
}
