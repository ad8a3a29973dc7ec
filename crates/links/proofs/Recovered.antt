-- What was picked to recover is found among the executions that were picked.
use Rattle.std.proofs.Common.{◌≡◌, List, [], ◌∷◌, refl, ap, map}
use Rattle.std.specs.Prelude.{◌||◌}
use Rattle.std.specs.List.{list_any}
use Rattle.morty_base.specs.declared.names.Exec.{Exec}
use Rattle.morty_base.specs.Names.{same_exec}
use Rattle.msg.specs.declared.Pick.TheVariants.{Recover}
use Rattle.net_core.specs.Fair.{recovers}

pub any_recovered : (x : Exec) (ys : List Exec) → list_any (recovers x) (map Recover ys) ≡ list_any (same_exec x) ys
any_recovered x [] = refl
any_recovered x (y ∷ ys) = ap (λ b. same_exec x y || b) (any_recovered x ys)
