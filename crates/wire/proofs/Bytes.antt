-- Bytes, steps that may fail, and where a list of two parts is cut.
use Rattle.std.proofs.Common.{◌≡◌, ℕ, suc, ◌+◌, ◌-◌, ◌<◌, ◌⊎◌, Bool, true, false, cond, List, [], ◌∷◌, ◌++◌, length, get_or, take, Result, Ok, Err, refl, ap, ◌∙◌, arith, inl, inr}
use Rattle.std.proofs.lemmas.Bool.{cases_lt}
use Rattle.std.proofs.lemmas.List.{length-append, length-take, get_or-take, get_or_past, take-append-le}
use Rattle.std.proofs.Math.Seq.{take-append-add}
use Rattle.wire.specs.declared.fault.FrameFault.{FrameFault}
use Rattle.wire.specs.Field.{◌>>=◌}

abbrev pub IsBytes : List ℕ → Type 0
IsBytes bytes = (i : ℕ) → get_or bytes i 0 < 256

pub IsBytes-take : (n : ℕ) (bytes : List ℕ) → IsBytes bytes → IsBytes (take n bytes)
IsBytes-take n bytes h i =
    elim (cases_lt i n) [
      | inl lt ↦ rw (get_or-take n bytes i 0 lt) (h i)
      | inr le ↦ rw (get_or_past (take n bytes) i 0 (omega (arith, length-take n bytes))) (omega arith)
    ]

-- the bytes after a front are bytes
pub IsBytes-rest : (front rest : List ℕ) → IsBytes (front ++ rest) → IsBytes rest
IsBytes-rest [] rest h = h
IsBytes-rest (b ∷ front) rest h = IsBytes-rest front rest (λ i. h (suc i))

-- the value of a step that did not fail
pub bind_ok : {A B : Type 0} (r : Result A FrameFault) (f : A → Result B FrameFault) (y : B) → (r >>= f) ≡ Ok y → (x : A) × (r ≡ Ok x) × (f x ≡ Ok y)
bind_ok (Ok x) f y e = (x, refl, e)
bind_ok (Err d) f y e = absurd cc

pub bind_err : {A B : Type 0} (r : Result A FrameFault) (f : A → Result B FrameFault) (fault : FrameFault) → r ≡ Err fault → (r >>= f) ≡ Err fault
bind_err (Ok x) f fault e = absurd cc
bind_err (Err d) f fault e = cc

-- a test that did not fail
pub guard_ok : {A : Type 0} (b : Bool) (d : FrameFault) (x y : A) → cond b (Ok x) (Err d) ≡ Ok y → (b ≡ true) × (x ≡ y)
guard_ok true d x y e = (refl, cc)
guard_ok false d x y e = absurd cc

pub refused_ok : {A : Type 0} (b : Bool) (d : FrameFault) (x y : A) → cond b (Err d) (Ok x) ≡ Ok y → (b ≡ false) × (x ≡ y)
refused_ok true d x y e = absurd cc
refused_ok false d x y e = (refl, cc)

abbrev pub done : {A : Type 0} → A → Result A FrameFault
done x = Ok x

pub ok_is : {A : Type 0} (x y : A) → done x ≡ done y → x ≡ y
ok_is x y e = cc

-- the first n bytes of two parts end within the first part
pub record EndsFirst (xs ys : List ℕ) (n : ℕ) : Type 0 where
  pub within : n < length xs
  pub front : take n (xs ++ ys) ≡ take n xs

-- they end within the second part, after k bytes of it
pub record EndsLater (xs ys : List ℕ) (n k : ℕ) : Type 0 where
  pub within : k < length ys
  pub front : take n (xs ++ ys) ≡ xs ++ take k ys

pub cut : (xs ys : List ℕ) (n : ℕ) → n < length (xs ++ ys) → EndsFirst xs ys n ⊎ ((k : ℕ) × EndsLater xs ys n k)
cut xs ys n lt =
    elim (cases_lt n (length xs)) [
      | inl below ↦ inl (record { within = below; front = take-append-le n xs ys (omega arith) })
      | inr le ↦
          let k = n - length xs in
          let is : n ≡ length xs + k = omega (arith, le) in
          inr (
            k,
            record {
              within = omega (arith, length-append xs ys, le, lt);
              front = ap (λ (i : ℕ). take i (xs ++ ys)) is ∙ take-append-add xs ys k;
            },
          )
    ]
