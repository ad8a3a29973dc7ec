-- What each client tells of the world for which the parts stand.
use Rattle.std.proofs.Common.{◌≡◌, ℕ, zero, suc, ◌+◌, ◌-◌, ◌<◌, ◌⊎◌, inl, inr, true, List, [], ◌∷◌, ◌++◌, Some}
use Rattle.std.proofs.Common.{map, length, get_or, refl, sym, ap, ◌∙◌, subst, arith, length-append}
use Rattle.std.specs.Prelude.{option_map}
use Rattle.std.specs.List.{slice_get}
use Rattle.std.proofs.lemmas.List.{length-map}
use Rattle.std.proofs.lemmas.Bool.Decides.{nat_tests}
use Rattle.std.proofs.lemmas.Option.{slice_get-map, slice_get-get_or}
use Rattle.protocol.specs.Words.{Client}
use Rattle.protocol.specs.Client.State.{Txn}
use Rattle.protocol.specs.World.State.{World, in_range, rules, txns_of}
use Rattle.protocol_plans.specs.Scripted.{Scripted, plan_of, txn_of}
use Rattle.world.specs.Clients.{Loads}
use Rattle.world.specs.Nodes.{has_node}
use Rattle.world.specs.NodeJobs.{has_is}
use Rattle.world_rows.specs.declared.left.Progress.{Progress}
use Rattle.world_rows.specs.Report.{AreProgress, progress_of}
use Rattle.world.specs.declared.parts.Parts.{Parts}
use Rattle.world.specs.World.{IsWorld}

-- so many told of the world
pub record AreTold (p : Parts) (n : ℕ) (gs : List Progress) : Type 0 where
  pub count : length gs ≡ n
  pub each : (s : Scripted) (l : Loads) (w : World) → l.plan ≡ plan_of s → IsWorld l w p → (i : ℕ) (g : Progress) → slice_get gs i ≡ Some g →
      g ≡ progress_of s w (i + 1)

get_push : {A : Type 0} (xs : List A) (i : ℕ) (x y : A) → slice_get (xs ++ x ∷ []) i ≡ Some y → (slice_get xs i ≡ Some y) ⊎ ((i ≡ length xs) × (y ≡ x))
get_push [] zero x y e = inr (refl, let f : y ≡ x = cc in f)
get_push [] (suc i) x y e = absurd (cc e)
get_push (z ∷ xs) zero x y e = inl e
get_push (z ∷ xs) (suc i) x y e = elim (get_push xs i x y e) [ inl a ↦ inl a | inr a ↦ inr (ap suc a.0, a.1) ]

pub none_told : (p : Parts) → AreTold p 0 []
none_told p = record { count = refl; each = λ s l w e is i g there. absurd (cc there) }

-- as many transactions for each client as the plan has
pub txns_counted : (l : Loads) (w : World) (p : Parts) → IsWorld l w p → length p.txns ≡ length l.plan.clients
txns_counted l w p is = ap length is.txns ∙ length-map l.plan.clients (λ (ts : List Txn). length ts)

-- how many transactions a client has
txns_at : (l : Loads) (w : World) (p : Parts) (i n d : ℕ) → IsWorld l w p → i < length p.txns → n ≡ get_or p.txns i d → n ≡ length (rules l.plan (i + 1)).txns
txns_at l w p i n d is less there =
    let at : i + 1 - 1 ≡ i = omega arith in
    let long : i < length l.plan.clients = subst (λ k. i < k) (txns_counted l w p is) less in
    let own : slice_get l.plan.clients i ≡ Some (get_or l.plan.clients i []) = slice_get-get_or l.plan.clients i [] long in
    let a : slice_get p.txns i ≡ Some (get_or p.txns i d) = slice_get-get_or p.txns i d less in
    let b : slice_get p.txns i ≡ Some (length (get_or l.plan.clients i [])) =
    ap (λ xs. slice_get xs i) is.txns ∙ (slice_get-map (λ (ts : List Txn). length ts) l.plan.clients i
    ∙ ap (option_map (λ (ts : List Txn). length ts)) own) in
    let f : n ≡ length (get_or l.plan.clients i []) = cc in
    f ∙ sym (ap (λ k. length (txns_of (slice_get l.plan.clients k))) at ∙ ap (λ o. length (txns_of o)) own)

-- what a client tells, by how many transactions it has
abbrev told_by : World → ℕ → ℕ → Progress
told_by w c n = record { txns = n; begun = (w.client c).begun; fate = (w.client c).fate }

-- one more tells
pub one_more : (p : Parts) (i n d : ℕ) (gs : List Progress) (g : Progress) → i < length p.txns → n ≡ get_or p.txns i d → AreTold p i gs →
    ((l : Loads) (w : World) → IsWorld l w p → g ≡ told_by w (i + 1) n) → AreTold p (i + 1) (gs ++ g ∷ [])
one_more p i n d gs g less there are told = record {
  count = length-append gs (g ∷ []) ∙ ap (λ k. k + 1) are.count;
  each = λ s l w e is j h at. elim (get_push gs j g h at) [
    | inl old ↦ are.each s l w e is j h old
    | inr new ↦
        let same : i ≡ j = sym (new.0 ∙ are.count) in
        let count = txns_at l w p i n d is less there ∙ ap (λ q. length (rules q (i + 1)).txns) e in
        new.1 ∙ told l w is ∙ ap (told_by w (i + 1)) count ∙ ap (λ k. progress_of s w (k + 1)) same
  ];
}

-- all clients told
pub all_told : (p : Parts) (n : ℕ) (gs : List Progress) → AreTold p n gs → n ≡ length p.txns → (s : Scripted) (l : Loads) (w : World) → l.plan ≡ plan_of s →
    IsWorld l w p → AreProgress s w gs
all_told p n gs are all s l w e is = record {
  count = are.count ∙ all ∙ txns_counted l w p is ∙ ap (λ q. length q.clients) e ∙ length-map s.clients (map txn_of);
  each = are.each s l w e is;
}

-- the client of a place is there
pub client_there : (p : Parts) (i : ℕ) → ((l : Loads) × (w : World) × IsWorld l w p) → i < length p.txns → has_node p.nodes (Client (i + 1)) ≡ true
client_there p i given less =
    let l = given.0 in
    let is : IsWorld l given.1 p = given.2 in
    let long : i < length l.plan.clients = subst (λ k. i < k) (txns_counted l given.1 p is) less in
    let within : in_range (i + 1) (length l.plan.clients) ≡ true = grind (arith, nat_tests) in
    has_is l given.1 p.nodes (Client (i + 1)) is.nodes ∙ within
