-- One more entry at its place: the list still rises, and shows the new entry first.
use Rattle.std.proofs.Common.{◌≡◌, ℕ, Bool, true, false, List, [], ◌∷◌, Option, Some, None, refl, ap, sym, subst, ◌∙◌, ⊎_elim, ℤ}
use Rattle.std.specs.Prelude.{slice_get, slice_set}
use Rattle.std.specs.List.{insert}
use Rattle.morty_base.specs.declared.names.Key.{Key}
use Rattle.morty_base.specs.Names.{key_before, same_key}
use Rattle.morty_base.proofs.Orders.{key_before_total, same_key_tells}
use Rattle.txn_lang.specs.Keys.{Entry, first_of, found}
use Rattle.exec_log.specs.Knowledge.{IsBelow, IsRising, ranked, rank, is_of, placed, with_entry}

true_is_not_false : {b : Bool} → b ≡ true → b ≡ false → ⊥
true_is_not_false t f = cc

same_is : (k j : Key) → same_key k j ≡ true → k ≡ j
same_is k j e = ⊎_elim (λ p. p.1) (λ p. absurd (true_is_not_false e p.0)) (same_key_tells k j)

-- two tests of one key, in either order
both_first : (b c : Bool) (x y : ℤ) (o : Option ℤ) → (b ≡ true → c ≡ true → ⊥) → first_of b x (first_of c y o) ≡ first_of c y (first_of b x o)
both_first true true x y o h = absurd (h refl refl)
both_first true false x y o h = refl
both_first false true x y o h = refl
both_first false false x y o h = refl

hidden : (c : Bool) (x y : ℤ) (o : Option ℤ) → first_of c x o ≡ first_of c x (first_of c y o)
hidden true x y o = refl
hidden false x y o = refl

pub not_before_itself : (k j : Key) → key_before k j ≡ true → k ≡ j → ⊥
not_before_itself k j b e = true_is_not_false (subst (λ i. key_before k i ≡ true) (sym e) b) (key_before_total.irreflexive k)

found_placed : (b s : Bool) (e x : Entry) (xs later : List Entry) (k : Key) → key_before x.key e.key ≡ b → same_key x.key e.key ≡ s →
    found later k ≡ first_of (same_key e.key k) e.value (found xs k) →
    found (placed b s e x xs later) k ≡ first_of (same_key e.key k) e.value (found (x ∷ xs) k)
found_placed true s e x xs later k before same h =
    ap (first_of (same_key x.key k) x.value) h
    ∙ both_first (same_key x.key k) (same_key e.key k) x.value e.value (found xs k)
    (λ p q. not_before_itself x.key e.key before (same_is x.key k p ∙ sym (same_is e.key k q)))
found_placed false true e x xs later k before same h =
    let one : x.key ≡ e.key = same_is x.key e.key same in
    hidden (same_key e.key k) e.value x.value (found xs k)
    ∙ ap (λ j. first_of (same_key e.key k) e.value (first_of (same_key j k) x.value (found xs k))) (sym one)
found_placed false false e x xs later k before same h = refl

-- the new entry shows its key, and the others what they did
pub found-with_entry : (e : Entry) (xs : List Entry) (k : Key) → found (with_entry e xs) k ≡ first_of (same_key e.key k) e.value (found xs k)
found-with_entry e [] k = refl
found-with_entry e (x ∷ xs) k =
    found_placed (key_before x.key e.key) (same_key x.key e.key) e x xs (with_entry e xs) k refl refl (found-with_entry e xs k)

pub below_all : (k j : Key) (xs : List Entry) → key_before k j ≡ true → IsBelow j xs → IsBelow k xs
below_all k j [] b h = tt
below_all k j (x ∷ xs) b h = (key_before_total.transitive k j x.key b h.0, below_all k j xs b h.1)

below_placed : (k : Key) (b s : Bool) (e x : Entry) (xs later : List Entry) → key_before k e.key ≡ true → IsBelow k (x ∷ xs) → IsBelow k later →
    IsBelow k (placed b s e x xs later)
below_placed k true s e x xs later p h l = (h.0, l)
below_placed k false true e x xs later p h l = (p, h.1)
below_placed k false false e x xs later p h l = (p, h)

below-with_entry : (k : Key) (e : Entry) (xs : List Entry) → key_before k e.key ≡ true → IsBelow k xs → IsBelow k (with_entry e xs)
below-with_entry k e [] p h = (p, tt)
below-with_entry k e (x ∷ xs) p h =
    below_placed k (key_before x.key e.key) (same_key x.key e.key) e x xs (with_entry e xs) p h (below-with_entry k e xs p h.1)

-- a key that is neither before another nor the same stands behind it
behind : (j k : Key) (b : Bool) → key_before k j ≡ b → key_before j k ≡ false → same_key j k ≡ false → b ≡ true
behind j k true e before other = refl
behind j k false e before other =
    absurd (⊎_elim (λ p. true_is_not_false p.0 other) (λ p. p.1 (key_before_total.total j k before e)) (same_key_tells j k))

rising_placed : (b s : Bool) (e x : Entry) (xs later : List Entry) → key_before x.key e.key ≡ b → same_key x.key e.key ≡ s →
    IsRising (x ∷ xs) → (key_before x.key e.key ≡ true → IsBelow x.key later) → IsRising later → IsRising (placed b s e x xs later)
rising_placed true s e x xs later before same h below rising = (below before, rising)
rising_placed false true e x xs later before same h below rising = (subst (λ k. IsBelow k xs) (same_is x.key e.key same) h.0, h.1)
rising_placed false false e x xs later before same h below rising =
    let above = behind x.key e.key (key_before e.key x.key) refl before same in
    ((above, below_all e.key x.key xs above h.0), h)

-- the list rises still
pub rising-with_entry : (e : Entry) (xs : List Entry) → IsRising xs → IsRising (with_entry e xs)
rising-with_entry e [] h = (tt, tt)
rising-with_entry e (x ∷ xs) h =
    rising_placed (key_before x.key e.key) (same_key x.key e.key) e x xs (with_entry e xs) refl refl h
    (λ before. below-with_entry x.key e xs before h.0) (rising-with_entry e xs h.1)

set_placed : (b s : Bool) (e x y : Entry) (ys later : List Entry) (n : ℕ) → same_key y.key e.key ≡ s →
    slice_get (y ∷ ys) (ranked b n) ≡ Some x → same_key x.key e.key ≡ true → (slice_get ys n ≡ Some x → slice_set ys n e ≡ later) →
    slice_set (y ∷ ys) (ranked b n) e ≡ placed b s e y ys later
set_placed true s e x y ys later n other h same rest = ap (λ l. y ∷ l) (rest h)
set_placed false true e x y ys later n other h same rest = refl
set_placed false false e x y ys later n other h same rest =
    let one : y ≡ x = cc in
    absurd (true_is_not_false (subst (λ z. same_key z.key e.key ≡ true) (sym one) same) other)

-- an entry of its key gives up its place
pub set-rank : (e x : Entry) (xs : List Entry) → slice_get xs (rank e.key xs) ≡ Some x → same_key x.key e.key ≡ true →
    slice_set xs (rank e.key xs) e ≡ with_entry e xs
set-rank e x [] h same = cc
set-rank e x (y ∷ ys) h same =
    set_placed (key_before y.key e.key) (same_key y.key e.key) e x y ys (with_entry e ys) (rank e.key ys) refl h same
    (λ g. set-rank e x ys g same)

insert_placed : (b s : Bool) (e y : Entry) (ys later : List Entry) (n : ℕ) → same_key y.key e.key ≡ s →
    (slice_get (y ∷ ys) (ranked b n) ≡ Some y → b ≡ false → same_key y.key e.key ≡ false) → (b ≡ true → insert ys n e ≡ later) →
    insert (y ∷ ys) (ranked b n) e ≡ placed b s e y ys later
insert_placed true s e y ys later n same none rest = ap (λ l. y ∷ l) (rest refl)
insert_placed false true e y ys later n same none rest = absurd (true_is_not_false same (none refl refl))
insert_placed false false e y ys later n same none rest = refl

none_later : (b : Bool) (e y : Entry) (ys : List Entry) (n : ℕ) → b ≡ true →
    ((x : Entry) → slice_get (y ∷ ys) (ranked b n) ≡ Some x → same_key x.key e.key ≡ false) →
    (x : Entry) → slice_get ys n ≡ Some x → same_key x.key e.key ≡ false
none_later true e y ys n is none x h = none x h
none_later false e y ys n is none x h = cc

-- and all others stay
pub insert-rank : (e : Entry) (xs : List Entry) → ((x : Entry) → slice_get xs (rank e.key xs) ≡ Some x → same_key x.key e.key ≡ false) →
    insert xs (rank e.key xs) e ≡ with_entry e xs
insert-rank e [] none = refl
insert-rank e (y ∷ ys) none =
    insert_placed (key_before y.key e.key) (same_key y.key e.key) e y ys (with_entry e ys) (rank e.key ys) refl
    (λ h before. none y h)
    (λ before. insert-rank e ys (none_later (key_before y.key e.key) e y ys (rank e.key ys) before none))

-- the entry that stands at the place of a key
held : (o : Option Entry) (k : Key) → is_of o k ≡ true → (x : Entry) × (o ≡ Some x) × (same_key x.key k ≡ true)
held None k h = absurd (true_is_not_false h refl)
held (Some x) k h = (x, refl, h)

pub put_set : (e : Entry) (xs : List Entry) (n : ℕ) → n ≡ rank e.key xs → is_of (slice_get xs n) e.key ≡ true → slice_set xs n e ≡ with_entry e xs
put_set e xs n is h =
    let there = held (slice_get xs n) e.key h in
    ap (λ m. slice_set xs m e) is ∙ set-rank e there.0 xs (ap (slice_get xs) (sym is) ∙ there.1) there.2

pub put_insert : (e : Entry) (xs : List Entry) (n : ℕ) → n ≡ rank e.key xs → is_of (slice_get xs n) e.key ≡ false → insert xs n e ≡ with_entry e xs
put_insert e xs n is h =
    ap (λ m. insert xs m e) is
    ∙ insert-rank e xs (λ x g. ap (λ o. is_of o e.key) (sym g ∙ ap (slice_get xs) (sym is)) ∙ h)
