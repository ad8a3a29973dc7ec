-- The pieces of an expression are as many as are counted.
use Rattle.std.proofs.Common.{◌≡◌, ◌+◌, ℕ, Bool, true, false, cond, List, [], ◌∷◌, ◌++◌, length, refl, ap, ◌∙◌, ltb, arith}
use Rattle.std.proofs.lemmas.List.{length-append}
use Rattle.txn_lang.specs.Tree.{Term, Num, Local, Neg, Not, Bin}
use Rattle.txn_lang.specs.Limits.{operator_level, left_level, level, in_parentheses}
use Rattle.txn_print.specs.Piece.{Piece}
use Rattle.txn_print.specs.Canonical.{operator_piece, operand, term_pieces}
use Rattle.txn_print.specs.Laws.{PiecesAreCounted}

enclosed : (b : Bool) (x y : Piece) (ps : List Piece) → length (cond b (x ∷ (ps ++ y ∷ [])) ps) ≡ cond b (length ps + 2) (length ps)
enclosed true x y ps = let len = length-append ps (y ∷ []) in omega (arith, len)
enclosed false x y ps = refl

length-operand : (least : ℕ) (e : Term) (ps : List Piece) (n : ℕ) → length ps ≡ n → length (operand least e ps) ≡ in_parentheses least e n
length-operand least e ps n same = enclosed (ltb (level e) least) _ _ ps ∙ ap (in_parentheses least e) same

pub pieces_are_counted : PiecesAreCounted
pieces_are_counted locals (Num x) = refl
pieces_are_counted locals (Local v) = refl
pieces_are_counted locals (Neg a) = let inner = length-operand 6 a _ _ (pieces_are_counted locals a) in omega (arith, inner)
pieces_are_counted locals (Not a) = let inner = length-operand 6 a _ _ (pieces_are_counted locals a) in omega (arith, inner)
pieces_are_counted locals (Bin op a b) =
    let left = length-operand (left_level op) a _ _ (pieces_are_counted locals a) in
    let right = length-operand (operator_level op + 1) b _ _ (pieces_are_counted locals b) in
    let len = length-append (operand (left_level op) a (term_pieces locals a)) (operator_piece op ∷ operand (operator_level op + 1) b (term_pieces locals b)) in
    omega (arith, left, right, len)
