-- What holds where a call was not refused.
use Rattle.std.proofs.Common.{◌≡◌, refl, subst}
use Rattle.std.specs.Prelude.{Result, Ok, Err, OnOk}

pub on_ok_given : {A E : Type 0} (r : Result A E) (X : Type 0) → ((a : A) → r ≡ Ok a → X) → OnOk r X
on_ok_given (Ok a) X f = f a refl
on_ok_given (Err e) X f = tt

pub on_ok_at : {A E : Type 0} (r : Result A E) (X : Type 0) (a : A) → OnOk r X → r ≡ Ok a → X
on_ok_at r X a h e = subst (λ q. OnOk q X) e h
