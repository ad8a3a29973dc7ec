-- What a field of a frame is, and the ways to make a field of smaller ones.
use Rattle.std.specs.Prelude.{◌≡◌, ℕ, zero, suc, ◌*◌, ◌<◌, ◌≤◌, ◌^◌, Bool, true, ℤ, FitsSigned, List, [], ◌∷◌, ◌++◌, length, take, drop, Option, Some, None, IfSome, Result, Ok, Err, nat_lt, nat_le, ◌==◌, if◌then◌else◌}
use Rattle.std.specs.Int.{Width, w16, w32, w64, byte_len, from_be_bytes, to_be_bytes, cast_signed, cast_unsigned}
use Rattle.std.specs.List.{All, flat_map, find}
use Rattle.wire.specs.declared.fault.FrameFault.{FrameFault}
use Rattle.wire.specs.declared.fault.FrameFault.TheVariants as faults

-- What bytes are judged to be: a value and the bytes after it, or the first fault.
abbrev pub Judged : Type 0 → Type 0
Judged A = Result (A × List ℕ) FrameFault

-- the first fault goes before what would come after it
infixl 10 ◌>>=◌
abbrev pub ◌>>=◌ : {A B : Type 0} → Result A FrameFault → (A → Result B FrameFault) → Result B FrameFault
(Ok x) >>= f = f x
(Err fault) >>= f = Err fault

-- A field: the bytes of each value; what bytes are judged to be that should begin with it; which values it admits;
-- and what each value keeps by its type.
pub record Field (A : Type 0) : Type 1 where
  pub frame : A → List ℕ
  pub judged : List ℕ → Judged A
  pub Admits : A → Type 0
  pub InRange : A → Type 0

-- ---- plain fields

abbrev pub first_byte : List ℕ → Judged ℕ
first_byte [] = Err faults.Short
first_byte (b ∷ bytes) = Ok (b, bytes)

-- one byte
unfoldable pub u8 : Field ℕ
u8 = record { frame = λ b. b ∷ []; judged = first_byte; Admits = λ b. Unit {0}; InRange = λ b. Unit {0} }

abbrev pub number_at : Width → List ℕ → Judged ℕ
number_at w bytes = if nat_lt (length bytes) (byte_len w) then Err faults.Short else Ok (from_be_bytes w (take (byte_len w) bytes), drop (byte_len w) bytes)

-- a number, big-endian
abbrev pub number : Width → Field ℕ
number w = record { frame = to_be_bytes w; judged = number_at w; Admits = λ n. Unit {0}; InRange = λ n. n < 2 ^ (8 * byte_len w) }

unfoldable pub u16 : Field ℕ
u16 = number w16

unfoldable pub u32 : Field ℕ
u32 = number w32

unfoldable pub u64 : Field ℕ
u64 = number w64

-- a signed number of 8 bytes, in two's complement
unfoldable pub i64 : Field ℤ
i64 = record {
  frame = λ z. u64.frame (cast_unsigned w64 z);
  judged = λ bytes. u64.judged bytes >>= λ n. Ok (cast_signed w64 n.0, n.1);
  Admits = λ z. Unit {0};
  InRange = FitsSigned w64;
}

abbrev pub named_at : {A : Type 0} → Option A → List ℕ → Judged A
named_at None bytes = Err faults.Kind
named_at (Some x) bytes = Ok (x, bytes)

-- a byte that names one of these
abbrev pub named : {A : Type 0} → List A → (A → ℕ) → Field A
named all code = record {
  frame = λ x. u8.frame (code x);
  judged = λ bytes. u8.judged bytes >>= λ b. named_at (find (λ x. code x == b.0) all) b.1;
  Admits = λ x. Unit {0};
  InRange = λ x. Unit {0};
}

-- ---- fields made of smaller ones

infixr 20 ◌&◌
-- one field after another
abbrev pub ◌&◌ : {A B : Type 0} → Field A → Field B → Field (A × B)
a & b = record {
  frame = λ x. a.frame x.0 ++ b.frame x.1;
  judged = λ bytes. a.judged bytes >>= λ x. b.judged x.1 >>= λ y. Ok ((x.0, y.0), y.1);
  Admits = λ x. a.Admits x.0 × b.Admits x.1;
  InRange = λ x. a.InRange x.0 × b.InRange x.1;
}

-- a field that says which one comes after it
abbrev pub tagged : {K : Type 0} {P : K → Type 0} → Field K → ((k : K) → Field (P k)) → Field ((k : K) × P k)
tagged tag rest = record {
  frame = λ x. tag.frame x.0 ++ (rest x.0).frame x.1;
  judged = λ bytes. tag.judged bytes >>= λ k. (rest k.0).judged k.1 >>= λ y. Ok ((k.0, y.0), y.1);
  Admits = λ x. tag.Admits x.0 × (rest x.0).Admits x.1;
  InRange = λ x. tag.InRange x.0 × (rest x.0).InRange x.1;
}

-- The same bytes for another type: `parts` takes its values apart, and `whole` puts them together. `IsWhole` holds
-- of the values that are so put together.
abbrev pub built : {A B : Type 0} → (B → Type 0) → (B → A) → (A → B) → Field A → Field B
built IsWhole parts whole a = record {
  frame = λ x. a.frame (parts x);
  judged = λ bytes. a.judged bytes >>= λ x. Ok (whole x.0, x.1);
  Admits = λ x. IsWhole x × a.Admits (parts x);
  InRange = λ x. a.InRange (parts x);
}

-- where each value is put together of its parts
abbrev pub shaped : {A B : Type 0} → (B → A) → (A → B) → Field A → Field B
shaped parts whole a = record {
  frame = λ x. a.frame (parts x);
  judged = λ bytes. a.judged bytes >>= λ x. Ok (whole x.0, x.1);
  Admits = λ x. a.Admits (parts x);
  InRange = λ x. a.InRange (parts x);
}

-- a field that has to pass a test, which is made when the field is whole
abbrev pub checked : {A : Type 0} → FrameFault → (A → Bool) → Field A → Field A
checked fault test a = record {
  frame = a.frame;
  judged = λ bytes. a.judged bytes >>= λ x. if test x.0 then Ok x else Err fault;
  Admits = λ x. (test x ≡ true) × a.Admits x;
  InRange = a.InRange;
}

abbrev pub optional_at : {A : Type 0} → Field A → List ℕ → Judged (Option A)
optional_at a [] = Err faults.Short
optional_at a (zero ∷ bytes) = Ok (None, bytes)
optional_at a (suc zero ∷ bytes) = a.judged bytes >>= λ x. Ok (Some x.0, x.1)
optional_at a (suc (suc b) ∷ bytes) = Err faults.Kind

abbrev pub optional_frame : {A : Type 0} → Field A → Option A → List ℕ
optional_frame a None = 0 ∷ []
optional_frame a (Some x) = 1 ∷ a.frame x

-- a byte 0, or a byte 1 and then the field
abbrev pub optional : {A : Type 0} → Field A → Field (Option A)
optional a = record { frame = optional_frame a; judged = optional_at a; Admits = λ o. IfSome o a.Admits; InRange = λ o. IfSome o a.InRange }

-- ---- lists

-- n items, each judged in the light of the item before it
abbrev pub items_at : {A : Type 0} → (Option A → List ℕ → Judged A) → Option A → ℕ → List ℕ → Judged (List A)
items_at judged before zero bytes = Ok ([], bytes)
items_at judged before (suc n) bytes = judged before bytes >>= λ x. items_at judged (Some x.0) n x.1 >>= λ xs. Ok (x.0 ∷ xs.0, xs.1)

-- each item, in the light of the item before it
abbrev pub AllInTurn : {A : Type 0} → (Option A → A → Type 0) → Option A → List A → Type 0
AllInTurn P before [] = Unit {0}
AllInTurn P before (x ∷ xs) = P before x × AllInTurn P (Some x) xs

-- the number of items, at most `most`, and then the items
abbrev pub counted : {A : Type 0} → Field ℕ → ℕ → (Option A → Field A) → Field (List A)
counted count most item = record {
  frame = λ xs. count.frame (length xs) ++ flat_map (item None).frame xs;
  judged = λ bytes. (checked faults.Long (λ n. nat_le n most) count).judged bytes >>= λ n. items_at (λ before. (item before).judged) None n.0 n.1;
  Admits = λ xs. (length xs ≤ most) × AllInTurn (λ before. (item before).Admits) None xs;
  InRange = λ xs. All (item None).InRange xs;
}
