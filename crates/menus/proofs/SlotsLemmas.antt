-- Each slot has one node, and each node that is there one slot.
use Rattle.std.proofs.Common.{◌≡◌, ℕ, zero, suc, ◌+◌, ◌-◌, ◌<◌, ◌≤◌, Bool, true, false, cond, List, [], ◌∷◌, ◌++◌, length, Option, Some, None, refl}
use Rattle.std.proofs.Common.{ap, sym, subst, ◌∙◌, arith, length-append}
use Rattle.std.specs.Prelude.{nat_lt, map, is_some}
use Rattle.std.specs.List.{slice_get}
use Rattle.std.proofs.lemmas.Bool.Decides.{nat_tests}
use Rattle.std.proofs.lemmas.List.{length-map}
use Rattle.std.proofs.lemmas.Option.{slice_get_within}
use Rattle.protocol.specs.Words.{NodeId, Client, Replica, Warden}
use Rattle.protocol.specs.Lists.{upto}
use Rattle.protocol.specs.World.State.{in_range}
use Rattle.menus.specs.Slots.{Counts, nodes_of, count_of, has_node, slot_of}

pub length_upto : (n : ℕ) → length (upto n) ≡ n
length_upto zero = refl
length_upto (suc n) = length-append (upto n) (suc n ∷ []) ∙ (let e = length_upto n in omega (arith, e))

-- ---- what stands in the first or in the second of two lists

pub get_first : {A : Type 0} (xs ys : List A) (i : ℕ) → i < length xs → slice_get (xs ++ ys) i ≡ slice_get xs i
get_first [] ys i h = absurd (omega arith)
get_first (x ∷ xs) ys zero h = refl
get_first (x ∷ xs) ys (suc i) h = get_first xs ys i (omega arith)

pub get_second : {A : Type 0} (xs ys : List A) (i : ℕ) → slice_get (xs ++ ys) (length xs + i) ≡ slice_get ys i
get_second [] ys i = let e : 0 + i ≡ i = omega arith in rw e refl
get_second (x ∷ xs) ys i = let e : suc (length xs) + i ≡ suc (length xs + i) = omega arith in rw e (get_second xs ys i)

-- ---- the nodes of one kind

get_upto : {A : Type 0} (f : ℕ → A) (n i : ℕ) → i < n → slice_get (map f (upto n)) i ≡ Some (f (suc i))
get_upto f zero i h = absurd (omega arith)
get_upto {A = A} f (suc n) i h = go (nat_lt i n) refl (λ l. get_upto f n i l)
  where
    map-push : (xs : List ℕ) (x : ℕ) → map f (xs ++ x ∷ []) ≡ map f xs ++ f x ∷ []
    map-push [] x = refl
    map-push (y ∷ ys) x = ap (λ l. f y ∷ l) (map-push ys x)

    len : length (map f (upto n)) ≡ n
    len = length-map (upto n) f ∙ length_upto n

    go : (t : Bool) → nat_lt i n ≡ t → (i < n → slice_get (map f (upto n)) i ≡ Some (f (suc i))) →
        slice_get (map f (upto n ++ suc n ∷ [])) i ≡ Some (f (suc i))
    go true e below =
        let l : i < n = grind (arith, nat_tests) in
        rw (map-push (upto n) (suc n)) (get_first (map f (upto n)) (f (suc n) ∷ []) i (omega (arith, len)) ∙ below l)
    go false e below =
        let same : i ≡ n = grind (arith, nat_tests) in
        let at : length (map f (upto n)) + 0 ≡ i = omega (arith, len) in
        rw (map-push (upto n) (suc n)) (ap (slice_get (map f (upto n) ++ f (suc n) ∷ [])) (sym at)
        ∙ (get_second (map f (upto n)) (f (suc n) ∷ []) 0 ∙ ap (λ k. Some (f (suc k))) (sym same)))

kind_length : {A : Type 0} (f : ℕ → A) (n : ℕ) → length (map f (upto n)) ≡ n
kind_length f n = length-map (upto n) f ∙ length_upto n

pub nodes_length : (v : Counts) → length (nodes_of v) ≡ count_of v
nodes_length v =
    length-append (map Client (upto v.clients)) (map Replica (upto v.replicas) ++ map Warden (upto v.wardens))
    ∙ (let a = kind_length Client v.clients in let b = kind_length Replica v.replicas in let d = kind_length Warden v.wardens in
    let e = length-append (map Replica (upto v.replicas)) (map Warden (upto v.wardens)) in omega (arith, a, b, d, e))

-- ---- the node of a slot

pub client_at : (v : Counts) (i : ℕ) → i < v.clients → slice_get (nodes_of v) i ≡ Some (Client (suc i))
client_at v i h =
    get_first (map Client (upto v.clients)) (map Replica (upto v.replicas) ++ map Warden (upto v.wardens)) i (let e = kind_length Client v.clients in
    omega (arith, e))
    ∙ get_upto Client v.clients i h

pub replica_at : (v : Counts) (i : ℕ) → i < v.replicas → slice_get (nodes_of v) (v.clients + i) ≡ Some (Replica (suc i))
replica_at v i h =
    ap (λ n. slice_get (nodes_of v) (n + i)) (sym (kind_length Client v.clients))
    ∙ (get_second (map Client (upto v.clients)) (map Replica (upto v.replicas) ++ map Warden (upto v.wardens)) i
    ∙ (get_first (map Replica (upto v.replicas)) (map Warden (upto v.wardens)) i (let e = kind_length Replica v.replicas in omega (arith, e))
    ∙ get_upto Replica v.replicas i h))

pub warden_at : (v : Counts) (i : ℕ) → i < v.wardens → slice_get (nodes_of v) (v.clients + (v.replicas + i)) ≡ Some (Warden (suc i))
warden_at v i h =
    ap (λ n. slice_get (nodes_of v) (n + (v.replicas + i))) (sym (kind_length Client v.clients))
    ∙ (get_second (map Client (upto v.clients)) (map Replica (upto v.replicas) ++ map Warden (upto v.wardens)) (v.replicas + i)
    ∙ (ap (λ n. slice_get (map Replica (upto v.replicas) ++ map Warden (upto v.wardens)) (n + i)) (sym (kind_length Replica v.replicas))
    ∙ (get_second (map Replica (upto v.replicas)) (map Warden (upto v.wardens)) i
    ∙ get_upto Warden v.wardens i h)))

-- the same, where the code counts otherwise
pub client_in : (v : Counts) (i n : ℕ) → i < v.clients → n ≡ i + 1 → slice_get (nodes_of v) i ≡ Some (Client n)
client_in v i n h e = client_at v i h ∙ ap (λ k. Some (Client k)) (omega (arith, e))

pub replica_in : (v : Counts) (i j n : ℕ) → i ≡ v.clients + j → n ≡ j + 1 → j < v.replicas → slice_get (nodes_of v) i ≡ Some (Replica n)
replica_in v i j n p e h = ap (slice_get (nodes_of v)) p ∙ (replica_at v j h ∙ ap (λ k. Some (Replica k)) (omega (arith, e)))

pub warden_in : (v : Counts) (i j n : ℕ) → i ≡ v.clients + (v.replicas + j) → n ≡ j + 1 → j < v.wardens → slice_get (nodes_of v) i ≡ Some (Warden n)
warden_in v i j n p e h = ap (slice_get (nodes_of v)) p ∙ (warden_at v j h ∙ ap (λ k. Some (Warden k)) (omega (arith, e)))

-- ---- the slot of a node

in_range_from : (k n : ℕ) → 0 < k → k ≤ n → in_range k n ≡ true
in_range_from k n p q = grind (arith, nat_tests)

some_is : {A : Type 0} (x y : A) (o : Option A) → o ≡ Some x → o ≡ Some y → x ≡ y
some_is x y o e f = cc (e, f)

-- the node that stands in a slot has that slot
pub slot_of_node : (v : Counts) (i : ℕ) (n : NodeId) → slice_get (nodes_of v) i ≡ Some n → slot_of v n ≡ Some i
slot_of_node v i n e = go (nat_lt i v.clients) refl (nat_lt (i - v.clients) v.replicas) refl
  where
    within : i < count_of v
    within = let l = slice_get_within (nodes_of v) i n e in let m = nodes_length v in omega (arith, l, m)

    go : (s : Bool) → nat_lt i v.clients ≡ s → (t : Bool) → nat_lt (i - v.clients) v.replicas ≡ t → slot_of v n ≡ Some i
    go true a t b =
        let l : i < v.clients = grind (arith, nat_tests) in
        subst (λ m. slot_of v m ≡ Some i) (some_is (Client (suc i)) n (slice_get (nodes_of v) i) (client_at v i l) e)
        (ap (λ t. cond t (Some (suc i - 1)) None) (in_range_from (suc i) v.clients (omega arith) (omega arith)) ∙ ap (λ k. Some k) (omega arith))
    go false a true b =
        let l : v.clients ≤ i = grind (arith, nat_tests) in
        let r : i - v.clients < v.replicas = grind (arith, nat_tests) in
        let j : v.clients + (i - v.clients) ≡ i = omega arith in
        subst (λ m. slot_of v m ≡ Some i)
        (some_is (Replica (suc (i - v.clients))) n (slice_get (nodes_of v) i) (ap (slice_get (nodes_of v)) (sym j) ∙ replica_at v (i - v.clients) r) e)
        (ap (λ t. cond t (Some (v.clients + (suc (i - v.clients) - 1))) None) (in_range_from (suc (i - v.clients)) v.replicas (omega arith) (omega arith))
        ∙ ap (λ k. Some k) (omega arith))
    go false a false b =
        let l : v.clients ≤ i = grind (arith, nat_tests) in
        let m : v.replicas ≤ i - v.clients = grind (arith, nat_tests) in
        let r : i - v.clients - v.replicas < v.wardens = omega (arith, within) in
        let j : v.clients + (v.replicas + (i - v.clients - v.replicas)) ≡ i = omega arith in
        subst (λ m. slot_of v m ≡ Some i)
        (some_is (Warden (suc (i - v.clients - v.replicas))) n (slice_get (nodes_of v) i)
        (ap (slice_get (nodes_of v)) (sym j) ∙ warden_at v (i - v.clients - v.replicas) r) e)
        (ap (λ t. cond t (Some (v.clients + (v.replicas + (suc (i - v.clients - v.replicas) - 1)))) None)
        (in_range_from (suc (i - v.clients - v.replicas)) v.wardens (omega arith) (omega arith))
        ∙ ap (λ k. Some k) (omega arith))

-- a node has one slot
pub one_slot : (v : Counts) (i j : ℕ) (n : NodeId) → slice_get (nodes_of v) i ≡ Some n → slice_get (nodes_of v) j ≡ Some n → i ≡ j
one_slot v i j n e f = some_is i j (slot_of v n) (slot_of_node v i n e) (slot_of_node v j n f)

-- a node has a slot just where it is there
pub has_slot : (v : Counts) (n : NodeId) → is_some (slot_of v n) ≡ has_node v n
has_slot v (Client c) = go (in_range c v.clients)
  where
    go : (t : Bool) → is_some (cond t (Some (c - 1)) None) ≡ t
    go true = refl
    go false = refl
has_slot v (Replica r) = go (in_range r v.replicas)
  where
    go : (t : Bool) → is_some (cond t (Some (v.clients + (r - 1))) None) ≡ t
    go true = refl
    go false = refl
has_slot v (Warden w) = go (in_range w v.wardens)
  where
    go : (t : Bool) → is_some (cond t (Some (v.clients + (v.replicas + (w - 1)))) None) ≡ t
    go true = refl
    go false = refl

-- the node of a slot is there
pub is_there : (v : Counts) (i : ℕ) (n : NodeId) → slice_get (nodes_of v) i ≡ Some n → has_node v n ≡ true
is_there v i n e = sym (has_slot v n) ∙ ap is_some (slot_of_node v i n e)

is_in_range : (k n : ℕ) → in_range k n ≡ true → (0 < k) × (k ≤ n)
is_in_range k n e = (grind (arith, nat_tests), grind (arith, nat_tests))

-- a node that is there stands in a slot
pub stands_somewhere : (v : Counts) (n : NodeId) → has_node v n ≡ true → (i : ℕ) × (slice_get (nodes_of v) i ≡ Some n)
stands_somewhere v (Client c) e =
    let r = is_in_range c v.clients e in
    let s : suc (c - 1) ≡ c = omega (arith, r) in
    (c - 1, client_at v (c - 1) (omega (arith, r)) ∙ ap (λ k. Some (Client k)) s)
stands_somewhere v (Replica c) e =
    let r = is_in_range c v.replicas e in
    let s : suc (c - 1) ≡ c = omega (arith, r) in
    (v.clients + (c - 1), replica_at v (c - 1) (omega (arith, r)) ∙ ap (λ k. Some (Replica k)) s)
stands_somewhere v (Warden c) e =
    let r = is_in_range c v.wardens e in
    let s : suc (c - 1) ≡ c = omega (arith, r) in
    (v.clients + (v.replicas + (c - 1)), warden_at v (c - 1) (omega (arith, r)) ∙ ap (λ k. Some (Warden k)) s)
