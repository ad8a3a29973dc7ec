-- Operations that stand in a list from a place on, and their parts.
use Rattle.std.proofs.Common.{◌≡◌, ℕ, ◌+◌, ◌<◌, List, [], ◌∷◌, ◌++◌, length, Some, ap, subst, ◌∙◌, arith, append_assoc, length-append}
use Rattle.std.specs.Prelude.{slice_get, ⊤}
use Rattle.std.proofs.Math.Seq.{get_or-append_seam}
use Rattle.std.proofs.lemmas.Option.{slice_get-get_or}
use Rattle.flat_code.specs.Operation.{Operation}

-- the operations stand in the list at this place
abbrev pub HasIn : List Operation → ℕ → List Operation → Type 0
HasIn all pc [] = ⊤
HasIn all pc (o ∷ os) = (slice_get all pc ≡ Some o) × HasIn all (pc + 1) os

pub has_front : (all : List Operation) (pc : ℕ) (a b : List Operation) → HasIn all pc (a ++ b) → HasIn all pc a
has_front all pc [] b h = tt
has_front all pc (o ∷ a) b h = (h.0, has_front all (pc + 1) a b h.1)

pub has_back : (all : List Operation) (pc : ℕ) (a b : List Operation) → HasIn all pc (a ++ b) → HasIn all (pc + length a) b
has_back all pc [] b h = let e : pc ≡ pc + 0 = omega arith in subst (λ n. HasIn all n b) e h
has_back all pc (o ∷ a) b h =
    let e : pc + 1 + length a ≡ pc + length (o ∷ a) = omega arith in
    subst (λ n. HasIn all n b) e (has_back all (pc + 1) a b h.1)

pub has_all : (os pre : List Operation) → HasIn (pre ++ os) (length pre) os
has_all [] pre = tt
has_all (o ∷ os) pre =
    let within : length pre < length (pre ++ o ∷ os) = omega (arith, length-append pre (o ∷ os)) in
    let here = slice_get-get_or (pre ++ o ∷ os) (length pre) o within ∙ ap Some (get_or-append_seam pre o os o) in
    let n : length (pre ++ o ∷ []) ≡ length pre + 1 = omega (arith, length-append pre (o ∷ [])) in
    let rest = has_all os (pre ++ o ∷ []) in
    let rest' = subst (λ l. HasIn l (length (pre ++ o ∷ [])) os) (append_assoc pre (o ∷ []) os) rest in
    (here, subst (λ m. HasIn (pre ++ o ∷ os) m os) n rest')
