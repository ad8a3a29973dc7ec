-- What a script has no node for does nothing.
use Rattle.std.proofs.Common.{◌≡◌, ℕ, ◌⊎◌, inl, inr, refl, subst, true, [], Some}
use Rattle.std.specs.Prelude.{map, length, nat_lt, nat_le}
use Rattle.protocol.specs.Words.{Exec, NodeId, Client, Replica, Warden, Choice}
use Rattle.protocol.specs.Lists.{IsIn, upto}
use Rattle.protocol.specs.Replica.Taken.{Handled}
use Rattle.protocol.specs.Client.State.{ClientState, fresh_client}
use Rattle.protocol.specs.Warden.State.{WardenState, fresh_warden}
use Rattle.protocol.specs.World.State.{Plan, World, exists, in_range}
use Rattle.protocol.specs.World.Decided.{decided_by}
use Rattle.protocol.specs.World.Committed.{nodes}
use Rattle.protocol.proofs.TestLemmas.{and_left, and_right, lt_is, le_is}
use Rattle.protocol.proofs.ListsLemmas.{IsIn-left, IsIn-right, map_in, upto_in}
use Rattle.law_steps.proofs.Reach.{Reach}
use Rattle.law_steps.proofs.Induction.{on_clients, on_replicas, on_wardens}

-- each record outside the script is as it was at first
pub record Absent (p : Plan) (w : World) : Type 0 where
  pub client : (c : ℕ) → (w.client c ≡ fresh_client) ⊎ (in_range c (length p.clients) ≡ true)
  pub replica : (r : ℕ) → (w.replica r ≡ []) ⊎ (in_range r p.replicas ≡ true)
  pub warden : (k : ℕ) → (w.warden k ≡ fresh_warden) ⊎ (in_range k p.wardens ≡ true)

pub absent_reach : (p : Plan) (w : World) → Reach p w → Absent p w
absent_reach p w q = record {
  client =
      on_clients p (λ w c s. (s ≡ fresh_client) ⊎ (in_range c (length p.clients) ≡ true)) (λ c. inl refl) (λ w w' st c s k. k) (λ w w' q s k. inr s.real) w q;
  replica = on_replicas p (λ w r h. (h ≡ []) ⊎ (in_range r p.replicas ≡ true)) (λ r. inl refl) (λ w w' st r h k. k) (λ w w' q s k. inr s.real) w q;
  warden = on_wardens p (λ w k s. (s ≡ fresh_warden) ⊎ (in_range k p.wardens ≡ true)) (λ k. inl refl) (λ w w' st k s z. z) (λ w w' q s k. inr s.real) w q;
}

-- who decided something is a node of the script
decided_real : (p : Plan) (w : World) → Reach p w → (n : NodeId) (x : Exec) (d : Choice) → decided_by w n x ≡ Some d → exists p n ≡ true
decided_real p w q (Client c) x d e = elim ((absent_reach p w q).client c) [
  | inr r ↦ r
  | inl z ↦ let f : decided_by (record w { client = λ j. fresh_client }) (Client c) x ≡ Some d = subst (λ (s : ClientState). decided_by (record w { client = λ j. s }) (Client c) x ≡ Some d) z e in cc
]
decided_real p w q (Replica r) x d e = elim ((absent_reach p w q).replica r) [
  | inr k ↦ k
  | inl z ↦ let f : decided_by (record w { replica = λ j. [] }) (Replica r) x ≡ Some d = subst (λ (h : Handled). decided_by (record w { replica = λ j. h }) (Replica r) x ≡ Some d) z e in cc
]
decided_real p w q (Warden k) x d e = elim ((absent_reach p w q).warden k) [
  | inr r ↦ r
  | inl z ↦ let f : decided_by (record w { warden = λ j. fresh_warden }) (Warden k) x ≡ Some d = subst (λ (s : WardenState). decided_by (record w { warden = λ j. s }) (Warden k) x ≡ Some d) z e in cc
]

in_upto : (k n : ℕ) → in_range k n ≡ true → IsIn k (upto n)
in_upto k n e = upto_in n k (lt_is 0 k (and_left (nat_lt 0 k) (nat_le k n) e)) (le_is k n (and_right (nat_lt 0 k) (nat_le k n) e))

in_nodes : (p : Plan) (n : NodeId) → exists p n ≡ true → IsIn n (nodes p)
in_nodes p (Client c) e =
    IsIn-left (Client c) (map Client (upto (length p.clients))) _ (map_in Client (upto (length p.clients)) c (in_upto c (length p.clients) e))
in_nodes p (Replica r) e = IsIn-right (Replica r) (map Client (upto (length p.clients))) _ (IsIn-left (Replica r) (map Replica (upto p.replicas)) _ (map_in Replica (upto p.replicas) r (in_upto r p.replicas e)))
in_nodes p (Warden k) e = IsIn-right (Warden k) (map Client (upto (length p.clients))) _ (IsIn-right (Warden k) (map Replica (upto p.replicas)) _ (map_in Warden (upto p.wardens) k (in_upto k p.wardens e)))

-- who decided something is among the nodes of the script
pub decider : (p : Plan) (w : World) → Reach p w → (n : NodeId) (x : Exec) (d : Choice) → decided_by w n x ≡ Some d → IsIn n (nodes p)
decider p w q n x d e = in_nodes p n (decided_real p w q n x d e)
