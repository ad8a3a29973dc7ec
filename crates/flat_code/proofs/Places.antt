-- The operation that code holds at a place of a run, and that it is valid there.
use Rattle.std.proofs.Common.{◌≡◌, ℕ, zero, suc, ◌+◌, ◌<◌, ◌≤◌, ◌^◌, List, [], ◌∷◌, length, map, Option, Some, None, refl, sym, ap, subst, ◌∙◌, arith}
use Rattle.std.specs.Prelude.{slice_get, slice_index_or}
use Rattle.std.proofs.lemmas.Option.{slice_get-get_or}
use Rattle.txn_lang.specs.Actions.{Actions}
use Rattle.flat_code.specs.declared.op.Op.{Op}
use Rattle.flat_code.specs.declared.frame.Frame.{Frame}
use Rattle.flat_code.specs.Operation.{Operation, Let, Read, Write, Print, Test, Go, Enter, Again, Skip, Abort, Finish, operation, Flat}
use Rattle.flat_code.specs.Jumps.{IsValid, AreValid, IsFlat}
use Rattle.flat_code.specs.Does.{fetched, DoesAt, DoesFrom, IsPlace, IsReached}

slice_get-map : (ops : List Op) (i : ℕ) (o : Op) → slice_get ops i ≡ Some o → slice_get (map operation ops) i ≡ Some (operation o)
slice_get-map [] i o h = cc
slice_get-map (x ∷ xs) zero o h = let same : x ≡ o = cc in ap (λ y. Some (operation y)) same
slice_get-map (x ∷ xs) (suc i) o h = slice_get-map xs i o h

get_within : (os : List Op) (i : ℕ) → (slice_get (map operation os) i ≡ None → ⊥) → i < length os
get_within [] i h = absurd (h refl)
get_within (x ∷ xs) zero h = omega arith
get_within (x ∷ xs) (suc i) h = let rest = get_within xs i h in omega arith

does_not_none : (D : Frame → Actions → Type 0) (at : Option Operation) (f : Frame) (a : Actions) → DoesAt D at f a → at ≡ None → ⊥
does_not_none D None f a d e = d
does_not_none D (Some o) f a d e = cc

does_within : (code : Flat) (n : ℕ) (f : Frame) (a : Actions) → DoesFrom code n f a → (length f.locals ≡ code.locals) × (f.pc < length code.operations)
does_within code zero f a d = absurd d
does_within code (suc n) f a d = (d.0, get_within code.operations f.pc (does_not_none (DoesFrom code n) (fetched code f.pc) f a d.1))

-- a place that a run reaches has an operation
pub reached_place : (code : Flat) (f : Frame) → IsReached code f → IsPlace code f
reached_place code f r = let d = does_within code r.left f r.rest r.does in record { locals = d.0; within = d.1 }

-- the operation that the code holds at a place
pub held_op : (code : Flat) (ops : List Op) (f : Frame) (o : Op) →
    ops ≡ code.operations → IsPlace code f → o ≡ slice_index_or ops f.pc o → fetched code f.pc ≡ Some (operation o)
held_op code ops f o same place at =
    slice_get-map code.operations f.pc o
    (slice_get-get_or code.operations f.pc o place.within ∙ ap Some (sym (at ∙ ap (λ l. slice_index_or l f.pc o) same)))

valid_at : (n end pc : ℕ) (os : List Operation) (i : ℕ) (o : Operation) → AreValid n end pc os → slice_get os i ≡ Some o → IsValid n end (pc + i) o
valid_at n end pc [] i o v h = cc
valid_at n end pc (x ∷ xs) zero o v h =
    let same : x ≡ o = cc in
    let e : pc ≡ pc + 0 = omega arith in
    subst (λ p. IsValid n end p o) e (subst (IsValid n end pc) same v.0)
valid_at n end pc (x ∷ xs) (suc i) o v h =
    let e : pc + 1 + i ≡ pc + suc i = omega arith in
    subst (λ p. IsValid n end p o) e (valid_at n end (pc + 1) xs i o v.1 h)

valid_more : (n end more pc : ℕ) (o : Operation) → end ≤ more → IsValid n end pc o → IsValid n more pc o
valid_more n end more pc (Let v e) le h = (h.0, h.1, omega arith)
valid_more n end more pc (Read v table i) le h = (h.0, h.1, omega arith)
valid_more n end more pc (Write table i e) le h = (h.0, h.1, omega arith)
valid_more n end more pc (Print e) le h = (h.0, omega arith)
valid_more n end more pc (Test e past) le h = (h.0, omega arith)
valid_more n end more pc (Go past) le h = omega arith
valid_more n end more pc (Enter further) le h = omega arith
valid_more n end more pc (Again back) le h = (h.0, omega arith)
valid_more n end more pc Skip le h = omega arith
valid_more n end more pc Abort le h = tt
valid_more n end more pc Finish le h = tt

-- an operation that the code holds is valid there
pub valid_op : (code : Flat) (f : Frame) (o : Op) → IsFlat code → IsPlace code f → fetched code f.pc ≡ Some (operation o) →
    IsValid (length f.locals) (2 ^ 32) f.pc (operation o)
valid_op code f o flat place h =
    let le : length code.operations ≤ 2 ^ 32 = omega (arith, flat.short) in
    let e : 0 + f.pc ≡ f.pc = omega arith in
    subst (λ m. IsValid m (2 ^ 32) f.pc (operation o)) (sym place.locals)
    (valid_more code.locals (length code.operations) (2 ^ 32) f.pc (operation o) le
    (subst (λ p. IsValid code.locals (length code.operations) p (operation o)) e
    (valid_at code.locals (length code.operations) 0 (map operation code.operations) f.pc (operation o) flat.valid h)))
