-- The statements of a program, one after another.
use Rattle.std.proofs.Common.{◌≡◌, List, [], ◌∷◌, ◌++◌, refl, ap}
use Rattle.txn_lang.specs.Tree.{Command, Commands, End, Then, in_order}

-- statements in front of others
abbrev pub behind : List Command → Commands → Commands
behind [] rest = rest
behind (c ∷ cs) rest = Then c (behind cs rest)

pub behind_end : (cs : List Command) → behind cs End ≡ in_order cs
behind_end [] = refl
behind_end (c ∷ cs) = ap (Then c) (behind_end cs)

pub behind_push : (cs : List Command) (c : Command) (rest : Commands) → behind (cs ++ c ∷ []) rest ≡ behind cs (Then c rest)
behind_push [] c rest = refl
behind_push (x ∷ cs) c rest = ap (Then x) (behind_push cs c rest)
