-- A field is exact: what bytes are judged to be is a value that it admits, and the bytes begin with its frame; a value
-- that it admits is judged of its frame, whatever follows; and a cut frame is Short. The plain fields are exact.
use Rattle.std.proofs.Common.{◌≡◌, ℕ, zero, suc, ◌*◌, ◌^◌, ◌<◌, ◌≤◌, Bool, true, false, cond, ltb, List, [], ◌∷◌, ◌++◌, length, take, drop, rules, Option, Some, None, Ok, Err, refl, sym, ap, subst, ◌∙◌, arith}
use Rattle.std.specs.Prelude.{ℤ, FitsSigned, ◌==◌}
use Rattle.std.specs.Int.{Width, w16, w32, w64, byte_len, from_be_bytes, to_be_bytes, cast_signed, cast_unsigned}
use Rattle.std.specs.List.{find}
use Rattle.std.proofs.lemmas.Bool.{ltb-false, le-ltb, lt-ltb, eqb-true}
use Rattle.std.proofs.lemmas.List.{take_at, drop_at, take-append-drop, length-append, length-take}
use Rattle.std.proofs.lemmas.Int.{to_z-of_z, of_z-to_z}
use Rattle.std.proofs.lemmas.Nat.{be_bytes_2, be_bytes_4, be_bytes_8, from_be_bytes-to_be_bytes_2, from_be_bytes-to_be_bytes_4, from_be_bytes-to_be_bytes_8}
use Rattle.wire.specs.declared.fault.FrameFault.TheVariants as faults
use Rattle.wire.specs.Field.{Field, first_byte, u8, u16, u32, u64, i64, number_at, number, named_at, named}
use Rattle.wire.proofs.Bytes.{IsBytes, IsBytes-take, bind_ok, bind_err, refused_ok, ok_is}

-- the bytes begin with the frame of the value that was read, and the field admits it
pub record Reads {A : Type 0} (a : Field A) (bytes : List ℕ) (x : A × List ℕ) : Type 0 where
  pub parts : bytes ≡ a.frame x.0 ++ x.1
  pub admits : a.Admits x.0
  pub in_range : a.InRange x.0

pub record IsExact {A : Type 0} (a : Field A) : Type 0 where
  pub reads : (bytes : List ℕ) (x : A × List ℕ) → IsBytes bytes → a.judged bytes ≡ Ok x → Reads a bytes x
  pub again : (x : A) (rest : List ℕ) → a.Admits x → a.InRange x → a.judged (a.frame x ++ rest) ≡ Ok (x, rest)
  pub short : (x : A) (n : ℕ) → a.Admits x → a.InRange x → n < length (a.frame x) → a.judged (take n (a.frame x)) ≡ Err faults.Short

-- ---- one byte

byte_reads : (bytes : List ℕ) (x : ℕ × List ℕ) → first_byte bytes ≡ Ok x → bytes ≡ x.0 ∷ x.1
byte_reads [] x e = absurd cc
byte_reads (b ∷ bytes) x e = ap (λ (p : ℕ × List ℕ). p.0 ∷ p.1) (ok_is (b, bytes) x e)

byte_short : (b n : ℕ) → n < 1 → first_byte (take n (b ∷ [])) ≡ Err faults.Short
byte_short b zero lt = refl
byte_short b (suc n) lt = absurd (omega arith)

pub u8_exact : IsExact u8
unfolding u8
u8_exact = record {
  reads = λ bytes x fits e. record { parts = byte_reads bytes x e; admits = tt; in_range = tt };
  again = λ x rest may fits. refl;
  short = λ x n may fits lt. byte_short x n lt;
}

-- ---- numbers

-- numbers of a width and their bytes, both ways
pub record IsWide (w : Width) : Type 0 where
  pub len : (n : ℕ) → length (to_be_bytes w n) ≡ byte_len w
  pub back : (bytes : List ℕ) → length bytes ≡ byte_len w → IsBytes bytes → to_be_bytes w (from_be_bytes w bytes) ≡ bytes
  pub again : (n : ℕ) → n < 2 ^ (8 * byte_len w) → from_be_bytes w (to_be_bytes w n) ≡ n
  pub below : (bytes : List ℕ) → IsBytes bytes → from_be_bytes w bytes < 2 ^ (8 * byte_len w)

wide16 : IsWide w16
wide16 = record {
  len = λ n. refl;
  back = λ bytes len fits. be_bytes_2 bytes _ len fits refl;
  again = λ n lt. from_be_bytes-to_be_bytes_2 n lt;
  below = λ bytes fits. omega (arith, fits 0, fits 1);
}

wide32 : IsWide w32
wide32 = record {
  len = λ n. refl;
  back = λ bytes len fits. be_bytes_4 bytes _ len fits refl;
  again = λ n lt. from_be_bytes-to_be_bytes_4 n lt;
  below = λ bytes fits. omega (arith, fits 0, fits 1, fits 2, fits 3);
}

wide64 : IsWide w64
wide64 = record {
  len = λ n. refl;
  back = λ bytes len fits. be_bytes_8 bytes _ len fits refl;
  again = λ n lt. from_be_bytes-to_be_bytes_8 n lt;
  below = λ bytes fits. omega (arith, fits 0, fits 1, fits 2, fits 3, fits 4, fits 5, fits 6, fits 7);
}

number_reads : (w : Width) (wide : IsWide w) (bytes : List ℕ) (x : ℕ × List ℕ) → IsBytes bytes → number_at w bytes ≡ Ok x → Reads (number w) bytes x
number_reads w wide bytes x fits e =
    let front = take (byte_len w) bytes in
    let g = refused_ok (ltb (length bytes) (byte_len w)) faults.Short (from_be_bytes w front, drop (byte_len w) bytes) x e in
    let long : byte_len w ≤ length bytes = ltb-false _ _ g.0 in
    let back : to_be_bytes w (from_be_bytes w front) ≡ front =
    wide.back front (omega (arith, length-take (byte_len w) bytes)) (IsBytes-take (byte_len w) bytes fits) in
    let whole : bytes ≡ to_be_bytes w (from_be_bytes w front) ++ drop (byte_len w) bytes = rw back (sym (take-append-drop (byte_len w) bytes)) in
    let read : Reads (number w) bytes (from_be_bytes w front, drop (byte_len w) bytes) =
    record { parts = whole; admits = tt; in_range = wide.below front (IsBytes-take (byte_len w) bytes fits) } in
    subst (Reads (number w) bytes) g.1 read

number_again : (w : Width) (wide : IsWide w) (n : ℕ) (rest : List ℕ) → n < 2 ^ (8 * byte_len w) → number_at w (to_be_bytes w n ++ rest) ≡ Ok (n, rest)
number_again w wide n rest lt =
    let len = wide.len n in
    let long : ltb (length (to_be_bytes w n ++ rest)) (byte_len w) ≡ false = le-ltb _ _ (omega (arith, length-append (to_be_bytes w n) rest)) in
    rw (long, take_at (to_be_bytes w n) rest (byte_len w) len, drop_at (to_be_bytes w n) rest (byte_len w) len, wide.again n lt) refl

number_short : (w : Width) (wide : IsWide w) (x n : ℕ) → n < length (to_be_bytes w x) → number_at w (take n (to_be_bytes w x)) ≡ Err faults.Short
number_short w wide x n lt =
    let len = wide.len x in
    let cut : ltb (length (take n (to_be_bytes w x))) (byte_len w) ≡ true = lt-ltb _ _ (omega (arith, length-take n (to_be_bytes w x))) in
    rw cut refl

number_exact : (w : Width) → IsWide w → IsExact (number w)
number_exact w wide = record {
  reads = number_reads w wide;
  again = λ n rest may lt. number_again w wide n rest lt;
  short = λ x n may fits lt. number_short w wide x n lt;
}

pub u16_exact : IsExact u16
unfolding u16
u16_exact = number_exact w16 wide16

pub u32_exact : IsExact u32
unfolding u32
u32_exact = number_exact w32 wide32

pub u64_exact : IsExact u64
unfolding u64
u64_exact = number_exact w64 wide64

-- what a count may be
pub u16_counts : (n : ℕ) → n ≤ 2 ^ 15 → u16.Admits n × u16.InRange n
unfolding u16
u16_counts n le = (tt, omega (arith, le))

pub u32_counts : (n : ℕ) → n ≤ 2 ^ 31 → u32.Admits n × u32.InRange n
unfolding u32
u32_counts n le = (tt, omega (arith, le))

-- ---- signed numbers

signed_fits : (n : ℕ) → n < 2 ^ 64 → FitsSigned w64 (cast_signed w64 n)
signed_fits n lt = search rules

unsigned_below : (z : ℤ) → FitsSigned w64 z → cast_unsigned w64 z < 2 ^ 64
unsigned_below z fits = search rules

i64_reads : (bytes : List ℕ) (x : ℤ × List ℕ) → IsBytes bytes → i64.judged bytes ≡ Ok x → Reads i64 bytes x
unfolding i64 u64
i64_reads bytes x fits e =
    let f = bind_ok (number_at w64 bytes) (λ n. Ok (cast_signed w64 n.0, n.1)) x e in
    let n = number_reads w64 wide64 bytes f.0 fits f.1 in
    let read : Reads i64 bytes (cast_signed w64 f.0.0, f.0.1) = record {
      parts = n.parts ∙ ap (λ (k : ℕ). to_be_bytes w64 k ++ f.0.1) (sym (of_z-to_z w64 f.0.0 n.in_range));
      admits = tt;
      in_range = signed_fits f.0.0 n.in_range;
    } in
    subst (Reads i64 bytes) (ok_is (cast_signed w64 f.0.0, f.0.1) x f.2) read

pub i64_exact : IsExact i64
unfolding i64 u64
i64_exact = record {
  reads = i64_reads;
  again = λ z rest may fits. rw (number_again w64 wide64 (cast_unsigned w64 z) rest (unsigned_below z fits), to_z-of_z w64 z fits) refl;
  short = λ z n may fits lt. bind_err _ _ faults.Short (number_short w64 wide64 (cast_unsigned w64 z) n lt);
}

-- ---- bytes that name something

abbrev there : {A : Type 0} → A → Option A
there x = Some x

some_is : {A : Type 0} (x y : A) → there x ≡ there y → x ≡ y
some_is x y e = cc

found_passes : {A : Type 0} (test : A → Bool) (y x : A) (later : Option A) (b : Bool) → test y ≡ b → cond b (Some y) later ≡ Some x
    → (later ≡ Some x → test x ≡ true) → test x ≡ true
found_passes test y x later true is e h = subst (λ z. test z ≡ true) (some_is y x e) is
found_passes test y x later false is e h = h e

find_passes : {A : Type 0} (test : A → Bool) (xs : List A) (x : A) → find test xs ≡ Some x → test x ≡ true
find_passes test [] x e = absurd cc
find_passes test (y ∷ xs) x e = found_passes test y x (find test xs) (test y) refl e (find_passes test xs x)

named_ok : {A : Type 0} (o : Option A) (bytes : List ℕ) (x : A × List ℕ) → named_at o bytes ≡ Ok x → (o ≡ Some x.0) × (bytes ≡ x.1)
named_ok None bytes x e = absurd cc
named_ok (Some y) bytes x e = (ap (λ (p : _ × List ℕ). Some p.0) (ok_is (y, bytes) x e), ap (λ (p : _ × List ℕ). p.1) (ok_is (y, bytes) x e))

-- each value is the first one of its code
pub named_exact : {A : Type 0} (all : List A) (code : A → ℕ) → ((x : A) → find (λ y. code y == code x) all ≡ Some x) → IsExact (named all code)
unfolding u8
named_exact all code first = record {
  reads = λ bytes x fits e.
      let f = bind_ok (first_byte bytes) (λ b. named_at (find (λ y. code y == b.0) all) b.1) x e in
      let n = named_ok (find (λ y. code y == f.0.0) all) f.0.1 x f.2 in
      let same : code x.0 ≡ f.0.0 = eqb-true _ _ (find_passes (λ y. code y == f.0.0) all x.0 n.0) in
      record { parts = byte_reads bytes f.0 f.1 ∙ ap (λ (b : ℕ). b ∷ f.0.1) (sym same) ∙ ap (λ (t : List ℕ). code x.0 ∷ t) n.1; admits = tt; in_range = tt };
  again = λ x rest may fits. rw (first x) refl;
  short = λ x n may fits lt. bind_err _ _ faults.Short (byte_short (code x) n lt);
}
