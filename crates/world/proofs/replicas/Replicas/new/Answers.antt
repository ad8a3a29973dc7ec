-- To one more replica nothing came.
use Rattle.std.proofs.Common.{◌≡◌, ℕ, suc, ◌+◌, ◌∷◌, [], ◌++◌, List, length, sym, subst, ap, ◌∙◌, arith, length-append}
use Rattle.protocol.specs.declared.First2.{First2}
use Rattle.replica.specs.Replica.{StandsFor}
use Rattle.replica.specs.declared.replica.Replica.{Replica}
use Rattle.world.proofs.Placed.{Stand, pushed}
use Rattle.world.proofs.replicas.Replicas.new.Goals as goal

more : (fs : List First2) (xs : List Replica) (i : ℕ) (r : Replica) → length xs ≡ i → Stand (λ n h r. StandsFor fs n h r) (λ n. []) xs → StandsFor fs (i + 1) [] r →
    Stand (λ n h r. StandsFor fs n h r) (λ n. []) (xs ++ r ∷ [])
more fs xs i r n h k =
    let e : i + 1 ≡ suc (length xs) = omega (arith, n) in
    pushed (λ n h r. StandsFor fs n h r) (λ n. []) xs r h (subst (λ j. StandsFor fs j [] r) e k)

pub loop-i-preserved : goal.loop-i-preserved
loop-i-preserved c =
    let items = c.loop-i.replicas.items in
    let own : c.in_ok-own_firsts.own_firsts ≡ c.args.firsts.now = c.in_ok-own_firsts.ensures in
    record {
      count = ap length c.in_ok-push.ensures.items ∙ (length-append items (c.in_ok-replica.replica ∷ []) ∙ ap (λ n. n + 1) c.loop-i.invariant.count);
      each = λ p e. subst (Stand (λ n h r. StandsFor p.firsts n h r) (λ n. [])) (sym c.in_ok-push.ensures.items)
          (more p.firsts items c.loop-i.i c.in_ok-replica.replica c.loop-i.invariant.count (c.loop-i.invariant.each p e)
          (subst (λ fs. StandsFor fs (c.loop-i.i + 1) [] c.in_ok-replica.replica) (own ∙ sym e) c.in_ok-replica.ensures));
    }

pub returns : goal.returns
returns c = λ p e f. record {
  count = c.loop-i.invariant.count ∙ (omega (arith, c.loop-i-test.false, c.loop-i.auto.i-end, e));
  each = c.loop-i.invariant.each p f;
}
