-- The round of an execution in a view, and what is left where it is replaced.
use Rattle.std.proofs.Common.{◌≡◌, ℕ, Bool, true, false, cond, Some, List, [], ◌∷◌, refl, ap, ◌∙◌, sym}
use Rattle.protocol.specs.Words.{Exec}
use Rattle.protocol.specs.Warden.State.{Round}
use Rattle.protocol.specs.Warden.Recovery.{round_of, with_round}
use Rattle.recovery.specs.Round.{is_of}

-- the round that is found is of the execution and in the view
pub found_is_of : (x : Exec) (v : ℕ) (rounds : List Round) (a : Round) → round_of x v rounds ≡ Some a → is_of x v a ≡ true
found_is_of x v [] a e = absurd (cc)
found_is_of x v (b ∷ older) a e = go (is_of x v b) refl (λ h. found_is_of x v older a h) e
  where
    go : (t : Bool) → is_of x v b ≡ t → (round_of x v older ≡ Some a → is_of x v a ≡ true) → cond t (Some b) (round_of x v older) ≡ Some a → is_of x v a ≡ true
    go true is ih h = let same : b ≡ a = cc in ap (is_of x v) (sym same) ∙ is
    go false is ih h = ih h

-- a round that was put in its place is found there
pub put_is_found : (x : Exec) (v : ℕ) (rounds : List Round) (a new : Round) → round_of x v rounds ≡ Some a → is_of x v new ≡ true →
    round_of x v (with_round x v new rounds) ≡ Some new
put_is_found x v [] a new e n = absurd (cc)
put_is_found x v (b ∷ older) a new e n = go (is_of x v b) refl (λ h. put_is_found x v older a new h n) e
  where
    go : (t : Bool) → is_of x v b ≡ t → (round_of x v older ≡ Some a → round_of x v (with_round x v new older) ≡ Some new) → cond t (Some b) (round_of x v older) ≡ Some a →
        round_of x v (cond t (new ∷ older) (b ∷ with_round x v new older)) ≡ Some new
    go true is ih h = ap (λ t. cond t (Some new) (round_of x v older)) n
    go false is ih h = ap (λ t. cond t (Some b) (round_of x v (with_round x v new older))) is ∙ ih h

-- of two rounds that are put in one place the later one stays
pub put_twice : (x : Exec) (v : ℕ) (rounds : List Round) (new last : Round) → is_of x v new ≡ true →
    with_round x v last (with_round x v new rounds) ≡ with_round x v last rounds
put_twice x v [] new last n = refl
put_twice x v (b ∷ older) new last n = go (is_of x v b) refl (put_twice x v older new last n)
  where
    go : (t : Bool) → is_of x v b ≡ t → with_round x v last (with_round x v new older) ≡ with_round x v last older →
        with_round x v last (cond t (new ∷ older) (b ∷ with_round x v new older)) ≡ cond t (last ∷ older) (b ∷ with_round x v last older)
    go true is ih = ap (λ t. cond t (last ∷ older) (new ∷ with_round x v last older)) n
    go false is ih = ap (λ t. cond t (last ∷ with_round x v new older) (b ∷ with_round x v last (with_round x v new older))) is
        ∙ ap (λ rs. b ∷ rs) ih
