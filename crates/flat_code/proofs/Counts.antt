-- How many operations a run of a tree has at most.
use Rattle.std.proofs.Common.{◌≡◌, ℕ, zero, suc, ◌+◌, ◌*◌, List, [], ◌∷◌, ◌++◌, refl}
use Rattle.txn_lang.specs.Tree as tree
use Rattle.txn_lang.specs.Tree.{Command, Commands}
use Rattle.flat_code.specs.Operation.{Operation}
use Rattle.flat_code.specs.Flat.{looped, flat_in, flat}

-- how many operations a run of a statement has at most
abbrev pub loop_count : ℕ → List Operation → ℕ → ℕ
loop_count zero body n = 1
loop_count (suc further) [] n = 1
loop_count (suc further) (o ∷ os) n = 1 + (suc further) * (1 + n)

abbrev mutual
  pub count_in : Command → ℕ
  count_in (tree.If e a b) = 2 + (count a + count b)
  count_in (tree.Repeat times body) = loop_count times (flat body) (count body)
  count_in _ = 1

  pub count : Commands → ℕ
  count tree.End = 0
  count (tree.Then c rest) = count_in c + count rest

-- each statement has an operation
loop_has_one : (times : ℕ) (os rest : List Operation) → looped times os ++ rest ≡ [] → ⊥
loop_has_one zero os rest e = cc
loop_has_one (suc further) [] rest e = cc
loop_has_one (suc further) (o ∷ os) rest e = cc

in_has_one : (c : Command) (rest : List Operation) → flat_in c ++ rest ≡ [] → ⊥
in_has_one (tree.Let v e) rest h = cc
in_has_one (tree.Read v table i) rest h = cc
in_has_one (tree.Write table i e) rest h = cc
in_has_one (tree.Print e) rest h = cc
in_has_one (tree.If e a b) rest h = cc
in_has_one (tree.Repeat times body) rest h = loop_has_one times (flat body) rest h
in_has_one tree.Abort rest h = cc

pub nothing_counted : (cs : Commands) → flat cs ≡ [] → count cs ≡ 0
nothing_counted tree.End h = refl
nothing_counted (tree.Then c rest) h = absurd (in_has_one c (flat rest) h)
