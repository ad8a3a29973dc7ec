-- A node that stops changes what is kept as the definitions say.
use Rattle.std.proofs.Common.{◌≡◌, ◌≢◌, ◌⊎◌, inl, inr, ℕ, suc, ◌-◌, ◌<◌, ◌≤◌, Bool, true, false, List, [], ◌∷◌, ◌++◌, length, get_or, refl, ap, sym}
use Rattle.std.proofs.Common.{◌∙◌, arith}
use Rattle.std.specs.Prelude.{◌||◌}
use Rattle.std.specs.List.{list_any}
use Rattle.std.specs.BTreeSet.{contains}
use Rattle.std.specs.Vec.{with_item}
use Rattle.std.proofs.lemmas.Bool.Decides.{nat_tests}
use Rattle.std.proofs.lemmas.List.{length-set}
use Rattle.std.proofs.lemmas.List.Folds.{list_any-append}
use Rattle.protocol.specs.Words.{NodeId, Client, same_node, Envelope}
use Rattle.protocol.specs.World.State.{in_range}
use Rattle.menus.specs.Waiting.{exec_cmp, IsUndecided, AreWaiting}
use Rattle.menus.specs.declared.waiting.Undecided.{Undecided}
use Rattle.menus.specs.declared.waiting.Waiting.{Waiting}
use Rattle.menus.proofs.EachPlace.{each_at, each_with}
use Rattle.menus.proofs.WaitingLemmas.{or_false}

-- whether a node is stopped once one more is
pub stopped_more : (n k : NodeId) (stopped : List NodeId) → list_any (same_node n) (stopped ++ k ∷ []) ≡ (list_any (same_node n) stopped || same_node n k)
stopped_more n k stopped = list_any-append (same_node n) stopped (k ∷ []) ∙ ap (λ t. list_any (same_node n) stopped || t) (or_false (same_node n k))

or_true : (a : Bool) → (a || true) ≡ true
or_true true = refl
or_true false = refl

one_of : (a b : Bool) → (a || b) ≡ true → (a ≡ true) ⊎ (b ≡ true)
one_of true b e = inl refl
one_of false b e = inr e

same_client : (a b : ℕ) → a ≡ b → same_node (Client a) (Client b) ≡ true
unfolding same_node
same_client a b e = grind (arith, nat_tests)

other_client : (a b : ℕ) → a ≢ b → same_node (Client a) (Client b) ≡ false
unfolding same_node
other_client a b e = grind (arith, nat_tests)

is_client : (a b : ℕ) → same_node (Client a) (Client b) ≡ true → a ≡ b
unfolding same_node
is_client a b e = grind (arith, nat_tests)

-- a node stops that is no client, or one that there is
module _ (n : ℕ) (mail : List Envelope) (stopped : List NodeId) (s : Waiting) (are : AreWaiting n mail stopped s) where
  -- no client stops
  pub other_stops : (k : NodeId) → ((c : ℕ) → same_node (Client c) k ≡ false) → AreWaiting n mail (stopped ++ k ∷ []) s
  other_stops k other = record {
    count = are.count;
    decided = are.decided;
    each = λ i u there. let is = are.each i u there in record { execs = is.execs; client_stopped = is.client_stopped ∙ sym (as_before (suc i)) };
    real = λ c e. are.real c (sym (as_before c) ∙ e);
  }
    where
      as_before : (c : ℕ) → list_any (same_node (Client c)) (stopped ++ k ∷ []) ≡ list_any (same_node (Client c)) stopped
      as_before c = stopped_more (Client c) k stopped ∙ (ap (λ t. list_any (same_node (Client c)) stopped || t) (other c) ∙ or_false _)

  -- a client does
  pub client_stops : (c : ℕ) (new u : Undecided) → 0 < c → c ≤ length s.clients.items → u ≡ get_or s.clients.items (c - 1) u → new.execs ≡ u.execs →
      new.is_stopped ≡ true →
      AreWaiting n mail (stopped ++ Client c ∷ []) (record { clients = with_item s.clients (c - 1) new; decided = s.decided })
  client_stops c new u low high there execs now =
      let at : suc (c - 1) ≡ c = omega arith in
      let was = each_at (λ i v. IsUndecided (suc i) mail stopped v) s.clients.items (c - 1) u (omega arith) there are.each in
      record {
        count = length-set _ _ _ ∙ are.count;
        decided = are.decided;
        each = each_with (λ i v. IsUndecided (suc i) mail stopped v) (λ i v. IsUndecided (suc i) mail (stopped ++ Client c ∷ []) v) s.clients.items
            (c - 1) new are.each
            (record { execs = λ x. ap (λ es. contains exec_cmp es x) execs ∙ was.execs x; client_stopped = now ∙ sym (stops (suc (c - 1)) at) })
            (λ i v other is. record { execs = is.execs; client_stopped = is.client_stopped ∙ sym (stays (suc i) (λ f. other (omega (arith, f)))) });
        real = λ d e. elim (one_of (list_any (same_node (Client d)) stopped) (same_node (Client d) (Client c))
            (sym (stopped_more (Client d) (Client c) stopped) ∙ e)) [
              | inl f ↦ are.real d f
              | inr f ↦ let q = is_client d c f in let m = are.count in within d (omega arith) (omega arith)
            ];
      }
    where
      stops : (d : ℕ) → d ≡ c → list_any (same_node (Client d)) (stopped ++ Client c ∷ []) ≡ true
      stops d e = stopped_more (Client d) (Client c) stopped ∙ (ap (λ t. list_any (same_node (Client d)) stopped || t) (same_client d c e) ∙ or_true _)

      stays : (d : ℕ) → d ≢ c → list_any (same_node (Client d)) (stopped ++ Client c ∷ []) ≡ list_any (same_node (Client d)) stopped
      stays d e = stopped_more (Client d) (Client c) stopped ∙ (ap (λ t. list_any (same_node (Client d)) stopped || t) (other_client d c e) ∙ or_false _)

      within : (d : ℕ) → 0 < d → d ≤ n → in_range d n ≡ true
      within d p q = grind (arith, nat_tests)
