-- Reading items one after another, as a loop does, and what a list's condition says of each item.
use Rattle.std.proofs.Common.{◌≡◌, ℕ, suc, ◌-◌, ◌+◌, ◌<◌, List, [], ◌∷◌, ◌++◌, length, Option, Some, None, Ok, Err, refl, sym, ap, ◌∙◌, append_assoc, arith, length-append}
use Rattle.std.specs.Prelude.{slice_get}
use Rattle.std.specs.List.{All, AllByRecursion}
use Rattle.std.proofs.lemmas.List.Elements.{All-from_recursion}
use Rattle.msg.specs.declared.Kept.{Kept}
use Rattle.wire.specs.declared.fault.FrameFault.{FrameFault}
use Rattle.wire.specs.declared.fault.FrameFault.TheVariants as faults
use Rattle.wire.specs.Field.{◌>>=◌, Judged, items_at, AllInTurn}
use Rattle.wire.specs.Values.{kept_entry, content}
use Rattle.wire.specs.Outcome.{Fails}

abbrev pub last_of : {A : Type 0} → List A → Option A
last_of xs = slice_get xs (length xs - 1)

get-push : {A : Type 0} (xs : List A) (x : A) → slice_get (xs ++ x ∷ []) (length xs) ≡ Some x
get-push [] x = refl
get-push (y ∷ xs) x = get-push xs x

last_of-push : {A : Type 0} (xs : List A) (x : A) → last_of (xs ++ x ∷ []) ≡ Some x
last_of-push xs x =
    let k : length (xs ++ x ∷ []) - 1 ≡ length xs = omega (arith, length-append xs (x ∷ [])) in
    ap (slice_get (xs ++ x ∷ [])) k ∙ get-push xs x

-- what was read before, and what is still read
abbrev pub with_front : {A : Type 0} → List A → Judged (List A) → Judged (List A)
with_front front judged = judged >>= λ x. Ok (front ++ x.0, x.1)

regroup : {A : Type 0} (front : List A) (x : A) (judged : Judged (List A))
    → with_front front (judged >>= λ y. Ok (x ∷ y.0, y.1)) ≡ with_front (front ++ x ∷ []) judged
regroup front x (Ok y) = ap (λ (xs : List _). Ok (xs, y.1)) (simp append_assoc)
regroup front x (Err f) = refl

-- the loop reads one more item
pub goes_on : {A : Type 0} (judged : Option A → List ℕ → Judged A) (front : List A) (count i : ℕ)
    → (bytes : List ℕ) (x : A) (after : List ℕ) (total : Judged (List A)) → i < count
    → judged (last_of front) bytes ≡ Ok (x, after) → with_front front (items_at judged (last_of front) (count - i) bytes) ≡ total
    → with_front (front ++ x ∷ []) (items_at judged (last_of (front ++ x ∷ [])) (count - (i + 1)) after) ≡ total
goes_on judged front count i bytes x after total lt h so_far =
    let k : count - i ≡ suc (count - (i + 1)) = omega arith in
    let one :
    with_front front (items_at judged (last_of front) (count - i) bytes) ≡ with_front (front ++ x ∷ []) (items_at judged (Some x) (count - (i + 1)) after) =
    rw (k, h) (regroup front x (items_at judged (Some x) (count - (i + 1)) after)) in
    ap (λ o. with_front (front ++ x ∷ []) (items_at judged o (count - (i + 1)) after)) (last_of-push front x) ∙ sym one ∙ so_far

-- an item is at fault
pub ends : {A : Type 0} (judged : Option A → List ℕ → Judged A) (fault : FrameFault) (front : List A) (count i : ℕ)
    → (bytes : List ℕ) (total : Judged (List A)) → i < count
    → Fails fault (judged (last_of front) bytes) → with_front front (items_at judged (last_of front) (count - i) bytes) ≡ total → Fails fault total
ends judged faults.NoMemory front count i bytes total lt h so_far = tt
ends judged fault front count i bytes total lt h so_far =
    let k : count - i ≡ suc (count - (i + 1)) = omega arith in
    sym so_far ∙ rw (k, h) refl

-- each entry's content is admitted
kept_each : (before : Option Kept) (ks : List Kept) → AllInTurn (λ b. (kept_entry b).Admits) before ks → AllByRecursion (λ k. content.Admits k.content) ks
unfolding kept_entry
kept_each before [] h = tt
kept_each before (k ∷ ks) h = (h.0.1, kept_each (Some k) ks h.1)

pub kept_may_put : (ks : List Kept) → AllInTurn (λ b. (kept_entry b).Admits) None ks → All (λ k. content.Admits k.content) ks
kept_may_put ks h = All-from_recursion (λ k. content.Admits k.content) ks (kept_each None ks h)
