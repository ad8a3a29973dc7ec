-- The nodes from a slot on: what is found first there, and that after an event of a slot's node they go on from the next.
use Rattle.std.proofs.Common.{◌≡◌, ℕ, zero, suc, ◌<◌, Bool, true, false, cond, List, [], ◌∷◌, ◌++◌, take, drop, Option, Some, None, refl, sym, ◌∙◌, ap, arith}
use Rattle.std.specs.Prelude.{find, not}
use Rattle.std.specs.List.{slice_get}
use Rattle.std.proofs.lemmas.List.{append_assoc}
use Rattle.morty_base.specs.declared.names.NodeId.{NodeId}
use Rattle.morty_base.specs.Names.{same_node}
use Rattle.net_core.specs.Machine.{Machine, History}
use Rattle.net_core.specs.Marks.{rests}
use Rattle.net_core.specs.Rounds.{nodes_after, nodes_upto}
use Rattle.runner.specs.AtSlot.{first_from}

dropped : (ns : List NodeId) (slot : ℕ) (n : NodeId) → slice_get ns slot ≡ Some n → drop slot ns ≡ n ∷ drop (suc slot) ns
dropped [] slot n here = absurd (let t : ◌≡◌ {A = Option NodeId} None (Some n) = here in cc)
dropped (x ∷ ns) zero n here =
    let t : ◌≡◌ {A = Option NodeId} (Some x) (Some n) = here in
    let same : x ≡ n = cc in
    ap (λ y. y ∷ ns) same
dropped (x ∷ ns) (suc slot) n here = dropped ns slot n here

taken : (ns : List NodeId) (slot : ℕ) (n : NodeId) → slice_get ns slot ≡ Some n → take (suc slot) ns ≡ take slot ns ++ n ∷ []
taken [] slot n here = absurd (let t : ◌≡◌ {A = Option NodeId} None (Some n) = here in cc)
taken (x ∷ ns) zero n here =
    let t : ◌≡◌ {A = Option NodeId} (Some x) (Some n) = here in
    let same : x ≡ n = cc in
    ap (λ y. y ∷ []) same
taken (x ∷ ns) (suc slot) n here = ap (λ ys. x ∷ ys) (taken ns slot n here)

find_head : (p : NodeId → Bool) (n : NodeId) (ns : List NodeId) → p n ≡ true → find p (n ∷ ns) ≡ Some n
find_head p n ns found = ap (λ b. cond b (Some n) (find p ns)) found

find_tail : (p : NodeId → Bool) (n : NodeId) (ns : List NodeId) → p n ≡ false → find p (n ∷ ns) ≡ find p ns
find_tail p n ns passed = ap (λ b. cond b (Some n) (find p ns)) passed

find_but_last : (p : NodeId → Bool) (n : NodeId) (ns : List NodeId) → p n ≡ false → find p (ns ++ n ∷ []) ≡ find p ns
find_but_last p n [] passed = find_tail p n [] passed
find_but_last p n (k ∷ ns) passed = ap (λ o. cond (p k) (Some k) o) (find_but_last p n ns passed)

-- the slot's node is the first, where it does not rest
pub first_is : (m : Machine) (slot : ℕ) (h : History) (n : NodeId) → slice_get m.nodes slot ≡ Some n → rests m h n ≡ false → first_from m slot h ≡ Some n
first_is m slot h n here busy =
    let p : NodeId → Bool = λ k. not (rests m h k) in
    ap (λ ds. find p (ds ++ take slot m.nodes)) (dropped m.nodes slot n here)
    ∙ find_head p n (drop (suc slot) m.nodes ++ take slot m.nodes) (ap not busy)

-- where it rests, the first is that from the next slot on
pub first_is_later : (m : Machine) (slot : ℕ) (h : History) (n : NodeId) → slice_get m.nodes slot ≡ Some n → rests m h n ≡ true →
    first_from m slot h ≡ first_from m (suc slot) h
first_is_later m slot h n here rest =
    let p : NodeId → Bool = λ k. not (rests m h k) in
    let ds = drop (suc slot) m.nodes in
    let ts = take slot m.nodes in
    ap (λ xs. find p (xs ++ ts)) (dropped m.nodes slot n here)
    ∙ find_tail p n (ds ++ ts) (ap not rest)
    ∙ sym (ap (λ xs. find p (ds ++ xs)) (taken m.nodes slot n here)
    ∙ ap (find p) (sym (append_assoc ds ts (n ∷ []))) ∙ find_but_last p n (ds ++ ts) (ap not rest))

-- the nodes before the slot are others
abbrev pub OthersBefore : List NodeId → ℕ → NodeId → Type 0
OthersBefore ns slot n = (j : ℕ) (k : NodeId) → j < slot → slice_get ns j ≡ Some k → same_node n k ≡ false

pub after_is : (ns : List NodeId) (slot : ℕ) (n : NodeId) → slice_get ns slot ≡ Some n → same_node n n ≡ true → OthersBefore ns slot n →
    nodes_after n ns ≡ drop (suc slot) ns
after_is [] slot n here own others = absurd (let t : ◌≡◌ {A = Option NodeId} None (Some n) = here in cc)
after_is (x ∷ ns) zero n here own others =
    let t : ◌≡◌ {A = Option NodeId} (Some x) (Some n) = here in
    let same : x ≡ n = cc in
    ap (λ b. cond b ns (nodes_after n ns)) (ap (same_node n) same ∙ own)
after_is (x ∷ ns) (suc slot) n here own others =
    ap (λ b. cond b ns (nodes_after n ns)) (others 0 x (omega arith) refl)
    ∙ after_is ns slot n here own (λ j k lt there. others (suc j) k (omega (arith, lt)) there)

pub upto_is : (ns : List NodeId) (slot : ℕ) (n : NodeId) → slice_get ns slot ≡ Some n → same_node n n ≡ true → OthersBefore ns slot n →
    nodes_upto n ns ≡ take (suc slot) ns
upto_is [] slot n here own others = absurd (let t : ◌≡◌ {A = Option NodeId} None (Some n) = here in cc)
upto_is (x ∷ ns) zero n here own others =
    let t : ◌≡◌ {A = Option NodeId} (Some x) (Some n) = here in
    let same : x ≡ n = cc in
    ap (λ b. cond b (x ∷ []) (x ∷ nodes_upto n ns)) (ap (same_node n) same ∙ own)
upto_is (x ∷ ns) (suc slot) n here own others =
    ap (λ b. cond b (x ∷ []) (x ∷ nodes_upto n ns)) (others 0 x (omega arith) refl)
    ∙ ap (λ ys. x ∷ ys) (upto_is ns slot n here own (λ j k lt there. others (suc j) k (omega (arith, lt)) there))
