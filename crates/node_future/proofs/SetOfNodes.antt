-- The nodes of a set: each is polled in turn, what they may give then they might give before, and their outputs are gathered in order.
use Rattle.std.proofs.Common.{◌≡◌, zero, suc, ℕ, zero, suc, List, [], ◌∷◌, ◌++◌, ◌+◌, ◌<◌, length, take, get_or, set, Some, Result, Ok, Err, IfOk, add-one, refl, sym, ◌∙◌, ap, subst, arith}
use Rattle.std.proofs.Math.Seq.{take-suc}
use Rattle.futures.specs.Poll.{OnPending}
use Rattle.futures.specs.declared.task.Poll.{Poll}
use Rattle.futures.specs.declared.task.Poll.TheVariants.{Ready, Pending}
use Rattle.node_future.specs.declared.output.NodeOut.{NodeOut}
use Rattle.node_future.specs.Outputs.{NodeView, MayGive, IsTold, IsAfter, IsPolled, ArePolled, AllGiven, AllTold}

-- the first k of the nodes were polled, and the others stand as they were
abbrev pub ArePolledTo : {T : Type 0} → ℕ → List (NodeView T) → List (NodeView T) → Type 0
ArePolledTo k [] [] = Unit {0}
ArePolledTo zero (n ∷ ns) (m ∷ ms) = (m ≡ n) × ArePolledTo zero ns ms
ArePolledTo (suc k) (n ∷ ns) (m ∷ ms) = IsPolled n m × ArePolledTo k ns ms
ArePolledTo k _ _ = ⊥

pub ArePolledTo-none : {T : Type 0} (ns : List (NodeView T)) → ArePolledTo 0 ns ns
ArePolledTo-none [] = tt
ArePolledTo-none (n ∷ ns) = (refl, ArePolledTo-none ns)

-- the next node is polled
ArePolledTo-next : {T : Type 0} (ns ms : List (NodeView T)) (k : ℕ) (m m' : NodeView T) → ArePolledTo k ns ms → k < length ms → m ≡ get_or ms k m
    → IsPolled m m' → ArePolledTo (suc k) ns (set ms k m')
ArePolledTo-next [] [] k m m' a lt is b = absurd (omega arith)
ArePolledTo-next [] (x ∷ ms) zero m m' a lt is b = absurd a
ArePolledTo-next [] (x ∷ ms) (suc k) m m' a lt is b = absurd a
ArePolledTo-next (n ∷ ns) [] k m m' a lt is b = absurd (omega arith)
ArePolledTo-next (n ∷ ns) (x ∷ ms) zero m m' a lt is b = (subst (λ y. IsPolled y m') (is ∙ a.0) b, a.1)
ArePolledTo-next (n ∷ ns) (x ∷ ms) (suc k) m m' a lt is b = (a.0, ArePolledTo-next ns ms k m m' a.1 (omega arith) is b)

pub ArePolledTo-more : {T : Type 0} (ns ms : List (NodeView T)) (k : ℕ) (m m' : NodeView T) → ArePolledTo k ns ms → k < length ms → m ≡ get_or ms k m
    → IsPolled m m' → ArePolledTo (k + 1) ns (set ms k m')
ArePolledTo-more ns ms k m m' a lt is b = subst (λ j. ArePolledTo j ns (set ms k m')) (sym (add-one k)) (ArePolledTo-next ns ms k m m' a lt is b)

-- all of them were polled
pub ArePolledTo-all : {T : Type 0} (ns ms : List (NodeView T)) (k : ℕ) → k ≡ length ms → ArePolledTo k ns ms → ArePolled ns ms
ArePolledTo-all [] [] k is a = tt
ArePolledTo-all [] (m ∷ ms) zero is a = absurd a
ArePolledTo-all [] (m ∷ ms) (suc k) is a = absurd a
ArePolledTo-all (n ∷ ns) [] zero is a = absurd a
ArePolledTo-all (n ∷ ns) [] (suc k) is a = absurd a
ArePolledTo-all (n ∷ ns) (m ∷ ms) zero is a = absurd (omega arith)
ArePolledTo-all (n ∷ ns) (m ∷ ms) (suc k) is a = (a.0, ArePolledTo-all ns ms k (omega arith) a.1)

-- what a node may give later on it might give before
pub MayGive-before : {T : Type 0} (a b : NodeView T) (o : NodeOut) → IsAfter a b → MayGive b o → MayGive a o
MayGive-before a b o p g = record {
  last = g.last;
  later = record {
    nodes = g.later.nodes ∙ p.later.nodes;
    turns = (let s = p.later.turns in let t = g.later.turns in omega arith);
    rans = (let s = p.later.rans in let t = g.later.rans in omega arith);
  };
  told = subst (λ f. IsTold f g.last o) p.first g.told;
  same = λ x h. let e = p.same x h in g.same x (ap (λ n. n.out) e ∙ h);
}

pub AllGiven-before : {T : Type 0} (ns ms : List (NodeView T)) (os : List NodeOut) → ArePolled ns ms → AllGiven ms os → AllGiven ns os
AllGiven-before [] [] os p g = g
AllGiven-before [] (m ∷ ms) os p g = absurd p
AllGiven-before (n ∷ ns) [] os p g = absurd p
AllGiven-before (n ∷ ns) (m ∷ ms) [] p g = absurd g
AllGiven-before (n ∷ ns) (m ∷ ms) (o ∷ os) p g = (MayGive-before n m o p.0.after g.0, AllGiven-before ns ms os p.1 g.1)

-- outputs that the nodes have are such as they may give
pub AllGiven-told : {T : Type 0} (ns : List (NodeView T)) (os : List NodeOut) → AllTold ns os → AllGiven ns os
AllGiven-told [] [] t = tt
AllGiven-told [] (o ∷ os) t = absurd t
AllGiven-told (n ∷ ns) [] t = absurd t
AllGiven-told (n ∷ ns) (o ∷ os) t = (
  record {
    last = n.state;
    later = record { nodes = refl; turns = omega arith; rans = omega arith };
    told = t.1;
    same = λ x h. cc;
  },
  AllGiven-told ns os t.2,
)

-- one more node, with its output
AllTold-snoc : {T : Type 0} (ns : List (NodeView T)) (os : List NodeOut) (n : NodeView T) (o : NodeOut) → AllTold ns os → n.out ≡ Some o
    → IsTold n.first n.state o → AllTold (ns ++ n ∷ []) (os ++ o ∷ [])
AllTold-snoc [] [] n o t has told = (has, told, tt)
AllTold-snoc [] (x ∷ os) n o t has told = absurd t
AllTold-snoc (m ∷ ns) [] n o t has told = absurd t
AllTold-snoc (m ∷ ns) (x ∷ os) n o t has told = (t.0, t.1, AllTold-snoc ns os n o t.2 has told)

pub AllTold-more : {T : Type 0} (ns : List (NodeView T)) (os os' : List NodeOut) (i : ℕ) (n : NodeView T) (o : NodeOut) → i < length ns → n ≡ get_or ns i n
    → AllTold (take i ns) os → n.out ≡ Some o → IsTold n.first n.state o → os' ≡ os ++ o ∷ [] → AllTold (take (i + 1) ns) os'
AllTold-more ns os os' i n o lt is t has told more =
    let front : take (i + 1) ns ≡ take i ns ++ n ∷ [] = ap (λ k. take k ns) (add-one i) ∙ (take-suc ns i n lt ∙ ap (λ m. take i ns ++ m ∷ []) (sym is)) in
    subst (λ xs. AllTold xs os') (sym front) (subst (AllTold (take i ns ++ n ∷ [])) (sym more) (AllTold-snoc (take i ns) os n o t has told))

-- the outputs that a set gives are such as its nodes might give before
pub AllGiven-ready : {T E : Type 0} (ns ms : List (NodeView T)) (r : Result (List NodeOut) E) → ArePolled ns ms → IfOk r (AllTold ms) → IfOk r (AllGiven ns)
AllGiven-ready ns ms (Ok os) p told = AllGiven-before ns ms os p (AllGiven-told ms os told)
AllGiven-ready ns ms (Err e) p told = tt

-- what holds in any case holds of a poll that is pending
pub on_pending : {A : Type 0} (p : Poll A) (P : Type 0) → P → OnPending p P
on_pending (Ready x) P h = tt
on_pending Pending P h = h
