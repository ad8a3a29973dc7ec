-- How bytes given and taken by one call after another add up.
use Rattle.std.proofs.Common.{◌≡◌, ◌+◌, ◌≤◌, ℕ, List, ◌++◌, take, drop, length, Option, None, Some, sym, subst, append_assoc, arith}
use Rattle.std.proofs.Math.Seq.{take-add}
use Rattle.std.proofs.lemmas.List.{take_at, take-append-drop, length-take, length-drop, drop-drop}
use Rattle.morty_io.specs.Bytes.{Gives, Takes, IfTold}

-- what two calls gave, one after the other
pub Gives-append : (a b c : Option (List ℕ)) (xs ys : List ℕ) → Gives a b xs → Gives b c ys → Gives a c (xs ++ ys)
Gives-append None None c xs ys p q = q
Gives-append None (Some m) c xs ys p q = cc
Gives-append (Some bytes) None c xs ys p q = absurd p
Gives-append (Some bytes) (Some m) None xs ys p q = absurd q
Gives-append (Some bytes) (Some m) (Some r) xs ys p q = cc (append_assoc xs ys r)

-- what two calls took, one after the other
pub Takes-append : (a b c : Option (List ℕ)) (xs ys : List ℕ) → Takes a b xs → Takes b c ys → Takes a c (xs ++ ys)
Takes-append None None c xs ys p q = q
Takes-append None (Some m) c xs ys p q = cc
Takes-append (Some already) None c xs ys p q = cc
Takes-append (Some already) (Some m) None xs ys p q = cc
Takes-append (Some already) (Some m) (Some r) xs ys p q = cc (append_assoc already xs ys)

-- a longer front was taken
pub Takes-more : (a b c : Option (List ℕ)) (xs piece : List ℕ) (d n : ℕ) → piece ≡ drop d xs → Takes a b (take d xs) → Takes b c (take n piece) → Takes a c (take (d + n) xs)
Takes-more a b c xs piece d n e p q =
    let front : take d xs ++ take n piece ≡ take (d + n) xs = rw e (sym (take-add d n xs)) in
    subst (λ (ys : List ℕ). Takes a c ys) front (Takes-append a b c (take d xs) (take n piece) p q)

-- a full piece of a list in a buffer, and what the list has behind it
pub front_of_buffer : (xs ys buf : List ℕ) (n i : ℕ) → buf ≡ take n (drop i xs) ++ ys → n + i ≤ length xs → drop i xs ≡ take n buf ++ drop (i + n) xs
front_of_buffer xs ys buf n i e h =
    let fits : length (take n (drop i xs)) ≡ n = omega (arith, length-take n (drop i xs), length-drop i xs) in
    rw (e, take_at (take n (drop i xs)) ys n fits, ← drop-drop n i xs) (sym (take-append-drop n (drop i xs)))

-- what was given is the front of what was left, where that is told
pub IfTold-from_gives : (P : List ℕ → List ℕ → Type 0) (a b : Option (List ℕ)) (moved : List ℕ) → Gives a b moved → ((bytes rest : List ℕ) → bytes ≡ moved ++ rest → P bytes rest) → IfTold a b P
IfTold-from_gives P None b moved p k = p
IfTold-from_gives P (Some bytes) None moved p k = absurd p
IfTold-from_gives P (Some bytes) (Some rest) moved p k = k bytes rest p
