-- The program sums.
use Rattle.std.proofs.Common.{[], ◌∷◌}
use Rattle.std.specs.Prelude.{codes}
use Rattle.txn_lang.specs.Tree.{commands}
use Rattle.client_tests.specs.Programs.{sums}
use Rattle.client_tests.proofs.ProgramLemmas.{sums_formed, formed_as}
use Rattle.client_tests.proofs.programs.sums.Goals as goal

pub make_prog-requires : goal.make_prog-requires
make_prog-requires c =
    formed_as c.in_ok-names.names (codes "a" ∷ codes "b" ∷ []) (commands c.in_ok-body.body) sums c.in_ok-names.ensures c.in_ok-body.ensures sums_formed
