-- The nodes in the order of their turns are the nodes, and tests that agree on the nodes agree on lists of them.
use Rattle.std.proofs.Common.{◌≡◌, inl, inr, Bool, true, false, List, [], ◌∷◌, ◌++◌, refl, sym, ◌∙◌, ap, subst, Option, Some, None}
use Rattle.std.specs.Prelude.{◌&&◌, ◌||◌, cond, find}
use Rattle.std.specs.List.{list_all, list_any}
use Rattle.std.proofs.lemmas.List.Folds.{list_all-append, list_any-append}
use Rattle.morty_base.specs.declared.names.NodeId.{NodeId}
use Rattle.morty_base.specs.Names.{same_node}
use Rattle.morty_base.proofs.Orders.{same_node_tells}
use Rattle.msg.specs.Events.{node_of}
use Rattle.net_core.specs.Machine.{History}
use Rattle.net_core.specs.Rounds.{nodes_after, nodes_upto, turn_order}

both_swap : (a b : Bool) → (a && b) ≡ (b && a)
both_swap true true = refl
both_swap true false = refl
both_swap false true = refl
both_swap false false = refl

both_true : (a : Bool) → (a && true) ≡ a
both_true true = refl
both_true false = refl

both_third : (a b c : Bool) → (a && (b && c)) ≡ (b && (a && c))
both_third true b c = refl
both_third false true c = refl
both_third false false c = refl

or_true : (a b : Bool) → b ≡ true → (a || b) ≡ true
or_true a b e = rw e (right a)
  where
    right : (a : Bool) → (a || true) ≡ true
    right true = refl
    right false = refl

or_swap : (a b : Bool) → (a || b) ≡ (b || a)
or_swap true true = refl
or_swap true false = refl
or_swap false true = refl
or_swap false false = refl

or_third : (a b c : Bool) → (a || (b || c)) ≡ (b || (a || c))
or_third true true c = refl
or_third true false c = refl
or_third false b c = refl

or_false : (a : Bool) → (a || false) ≡ a
or_false true = refl
or_false false = refl

module _ (q : NodeId → Bool) where
  -- the nodes in turn order are the nodes
  order_all : (n : NodeId) (ns : List NodeId) → list_all q (nodes_after n ns ++ nodes_upto n ns) ≡ list_all q ns
  order_all n [] = refl
  order_all n (m ∷ ms) = go (same_node n m) (order_all n ms)
    where
      go : (b : Bool) → list_all q (nodes_after n ms ++ nodes_upto n ms) ≡ list_all q ms →
          list_all q (cond b ms (nodes_after n ms) ++ cond b (m ∷ []) (m ∷ nodes_upto n ms)) ≡ (q m && list_all q ms)
      go true ih = list_all-append q ms (m ∷ []) ∙ both_swap (list_all q ms) (list_all q (m ∷ [])) ∙ ap (λ b. b && list_all q ms) (both_true (q m))
      go false ih = list_all-append q (nodes_after n ms) (m ∷ nodes_upto n ms)
          ∙ both_third (list_all q (nodes_after n ms)) (q m) (list_all q (nodes_upto n ms))
          ∙ ap (λ b. q m && b) (sym (list_all-append q (nodes_after n ms) (nodes_upto n ms)) ∙ ih)

  order_any : (n : NodeId) (ns : List NodeId) → list_any q (nodes_after n ns ++ nodes_upto n ns) ≡ list_any q ns
  order_any n [] = refl
  order_any n (m ∷ ms) = go (same_node n m) (order_any n ms)
    where
      go : (b : Bool) → list_any q (nodes_after n ms ++ nodes_upto n ms) ≡ list_any q ms →
          list_any q (cond b ms (nodes_after n ms) ++ cond b (m ∷ []) (m ∷ nodes_upto n ms)) ≡ (q m || list_any q ms)
      go true ih = list_any-append q ms (m ∷ []) ∙ or_swap (list_any q ms) (list_any q (m ∷ [])) ∙ ap (λ b. b || list_any q ms) (or_false (q m))
      go false ih = list_any-append q (nodes_after n ms) (m ∷ nodes_upto n ms) ∙ or_third (list_any q (nodes_after n ms)) (q m) (list_any q (nodes_upto n ms))
          ∙ ap (λ b. q m || b) (sym (list_any-append q (nodes_after n ms) (nodes_upto n ms)) ∙ ih)

  -- what all nodes pass, and what some node passes, does not depend on whose turn it is
  pub all_in_order : (ns : List NodeId) (h : History) → list_all q (turn_order ns h) ≡ list_all q ns
  all_in_order ns [] = refl
  all_in_order ns (e ∷ h) = order_all (node_of e) ns

  pub any_in_order : (ns : List NodeId) (h : History) → list_any q (turn_order ns h) ≡ list_any q ns
  any_in_order ns [] = refl
  any_in_order ns (e ∷ h) = order_any (node_of e) ns

-- the node is among these
abbrev pub is_among : List NodeId → NodeId → Bool
is_among ns n = list_any (same_node n) ns

itself : (n : NodeId) → same_node n n ≡ true
itself n = elim (same_node_tells n n) [ inl t ↦ t.0 | inr f ↦ absurd (f.1 refl) ]

pub first_among : (n : NodeId) (ns : List NodeId) → is_among (n ∷ ns) n ≡ true
first_among n ns = rw (itself n) refl

-- a node that is found is among those that were looked at
pub found_among : (p : NodeId → Bool) (ns : List NodeId) (n : NodeId) → find p ns ≡ Some n → is_among ns n ≡ true
found_among p [] n e = let no : None ≡ Some n = e in absurd cc
found_among p (m ∷ ms) n e = go (p m) e (found_among p ms n)
  where
    go : (b : Bool) → cond b (Some m) (find p ms) ≡ Some n → (find p ms ≡ Some n → is_among ms n ≡ true) → is_among (m ∷ ms) n ≡ true
    go true e ih = let same : m ≡ n = cc in subst (λ (k : NodeId). is_among (m ∷ ms) k ≡ true) same (first_among m ms)
    go false e ih = or_true (same_node n m) (is_among ms n) (ih e)

-- tests that agree on the nodes of a list tell the same of it
module _ (p q : NodeId → Bool) where
  later : (m : NodeId) (ms : List NodeId) → ((n : NodeId) → is_among (m ∷ ms) n ≡ true → p n ≡ q n) → (n : NodeId) → is_among ms n ≡ true → p n ≡ q n
  later m ms same n i = same n (or_true (same_node n m) (is_among ms n) i)

  pub find_same : (ns : List NodeId) → ((n : NodeId) → is_among ns n ≡ true → p n ≡ q n) → find p ns ≡ find q ns
  find_same [] same = refl
  find_same (m ∷ ms) same = ap (λ b. cond b (Some m) (find p ms)) (same m (first_among m ms))
      ∙ ap (λ (o : Option NodeId). cond (q m) (Some m) o) (find_same ms (later m ms same))

  pub all_same : (ns : List NodeId) → ((n : NodeId) → is_among ns n ≡ true → p n ≡ q n) → list_all p ns ≡ list_all q ns
  all_same [] same = refl
  all_same (m ∷ ms) same = ap (λ b. b && list_all p ms) (same m (first_among m ms)) ∙ ap (λ b. q m && b) (all_same ms (later m ms same))

  pub any_same : (ns : List NodeId) → ((n : NodeId) → is_among ns n ≡ true → p n ≡ q n) → list_any p ns ≡ list_any q ns
  any_same [] same = refl
  any_same (m ∷ ms) same = ap (λ b. b || list_any p ms) (same m (first_among m ms)) ∙ ap (λ b. q m || b) (any_same ms (later m ms same))
