-- The pieces of programs have the bytes of their kinds.
use Rattle.std.proofs.Common.{◌≡◌, ℕ, zero, suc, ◌+◌, ◌<◌, true, List, [], ◌∷◌, ◌++◌, length, get_or, ltb, refl, ap, ◌∙◌, arith}
use Rattle.std.specs.Prelude.{codes}
use Rattle.std.specs.List.{list_all}
use Rattle.std.proofs.lemmas.Bool.{cond_both, and_parts}
use Rattle.std.proofs.lemmas.Option.{unwrap_or-slice_get}
use Rattle.morty_base.specs.ScriptNames.{is_name, is_reserved, is_setting_word, is_item_word, is_net_word, is_plan_word, is_statement_word}
use Rattle.txn_lang.specs.declared.tree.BinOp.{BinOp}
use Rattle.txn_lang.specs.declared.tree.BinOp.TheVariants as op
use Rattle.txn_lang.specs.Tree.{Term, Num, Local, Neg, Not, Bin, Command, Let, Read, Write, Print, If, Repeat, Abort, Commands, End, Then}
use Rattle.txn_lang.specs.Value.{UsesBelow}
use Rattle.txn_lang.specs.Limits.{operator_level, left_level, level, FitsIn, Fits}
use Rattle.txn_parse.specs.Binding.{Names}
use Rattle.txn_print.specs.Piece.{Piece, Symbol}
use Rattle.txn_print.specs.Canonical.{name_at, operator_piece, operand, term_pieces, index_pieces, in_braces, command_pieces, first_pieces, more_pieces, else_pieces, block_pieces}
use Rattle.txn_print.specs.Spelling.{IsPiece, ArePieces}
use Rattle.txn_print.specs.Written.{HasNumbers, IsWrittenIn, AreWritten}

pub pieces_append : (xs ys : List Piece) → ArePieces xs → ArePieces ys → ArePieces (xs ++ ys)
pieces_append [] ys first second = second
pieces_append (x ∷ xs) ys first second = (first.0, pieces_append xs ys first.1 second)

name_pieces : (names : Names) (v : ℕ) → v < length names → list_all is_name names ≡ true → is_name (get_or names v []) ≡ true
name_pieces [] v less all = absurd (let e : ⊥ = omega (arith, less) in e)
name_pieces (x ∷ names) zero less all = (and_parts (is_name x) (list_all is_name names) all).0
name_pieces (x ∷ names) (suc v) less all = name_pieces names v (omega (arith, less)) (and_parts (is_name x) (list_all is_name names) all).1

pub name_is : (names : Names) (v : ℕ) → v < length names → list_all is_name names ≡ true → IsPiece (name_at names v)
name_is names v less all = ap is_name (unwrap_or-slice_get names v []) ∙ name_pieces names v less all

operator_is : (o : BinOp) → IsPiece (operator_piece o)
unfolding is_reserved is_setting_word is_item_word is_net_word is_plan_word is_statement_word
operator_is op.Add = refl
operator_is op.Sub = refl
operator_is op.Mul = refl
operator_is op.Div = refl
operator_is op.Rem = refl
operator_is op.Eq = refl
operator_is op.Ne = refl
operator_is op.Lt = refl
operator_is op.Le = refl
operator_is op.Gt = refl
operator_is op.Ge = refl
operator_is op.And = refl
operator_is op.Or = refl

pub enclosed : (x y : Piece) (xs : List Piece) → IsPiece x → IsPiece y → ArePieces xs → ArePieces (x ∷ (xs ++ y ∷ []))
enclosed x y xs first last all = (first, pieces_append xs (y ∷ []) all (last, tt))

pub braces_are : (xs : List Piece) → ArePieces xs → ArePieces (in_braces xs)
braces_are xs all = enclosed (Symbol (codes "{")) (Symbol (codes "}")) xs refl refl all

operand_are : (least : ℕ) (e : Term) (xs : List Piece) → ArePieces xs → ArePieces (operand least e xs)
operand_are least e xs all =
    cond_both (ltb (level e) least) (Symbol (codes "(") ∷ (xs ++ Symbol (codes ")") ∷ [])) xs ArePieces
    (λ _. enclosed (Symbol (codes "(")) (Symbol (codes ")")) xs refl refl all) (λ _. all)

module _ (locals : Names) (named : list_all is_name locals ≡ true) where
  term_are : (e : Term) → UsesBelow e (length locals) → HasNumbers e → ArePieces (term_pieces locals e)
  unfolding is_reserved is_setting_word is_item_word is_net_word is_plan_word is_statement_word
  term_are (Num x) below small = (small, tt)
  term_are (Local v) below small = (name_is locals v below named, tt)
  term_are (Neg a) below small = (tt, operand_are 6 a (term_pieces locals a) (term_are a below small))
  term_are (Not a) below small = (refl, operand_are 6 a (term_pieces locals a) (term_are a below small))
  term_are (Bin o a b) below small =
      pieces_append (operand (left_level o) a (term_pieces locals a)) (operator_piece o ∷ operand (operator_level o + 1) b (term_pieces locals b))
      (operand_are (left_level o) a (term_pieces locals a) (term_are a below.0 small.0))
      (operator_is o, operand_are (operator_level o + 1) b (term_pieces locals b) (term_are b below.1 small.1))

  index_are : (i : Term) → UsesBelow i (length locals) → HasNumbers i → ArePieces (index_pieces locals i)
  index_are i below small = enclosed (Symbol (codes "[")) (Symbol (codes "]")) (term_pieces locals i) refl refl (term_are i below small)

  module _ (tables : Names) (tabled : list_all is_name tables ≡ true) where
    mutual
      unfolding is_reserved is_setting_word is_item_word is_net_word is_plan_word is_statement_word

      command_are : (c : Command) → FitsIn (length locals) c → IsWrittenIn (length tables) c → ArePieces (command_pieces tables locals c)
      command_are (Let v e) fits written = (refl, (name_is locals v fits.0 named, (refl, term_are e fits.1.0 written)))
      command_are (Read v t i) fits written = (refl, (name_is locals v fits.0 named, (name_is tables t written.0 tabled, index_are i fits.1.0 written.1)))
      command_are (Write t i e) fits written = (refl, (name_is tables t written.0 tabled, pieces_append (index_pieces locals i) (term_pieces locals e) (index_are i fits.0.0 written.1) (term_are e fits.1.0 written.2)))
      command_are (Print e) fits written = (refl, term_are e fits.0 written)
      command_are (If e a b) fits written = (
        refl,
        pieces_append (term_pieces locals e ++ in_braces (first_pieces tables locals a)) (else_pieces tables locals b)
            (pieces_append (term_pieces locals e) (in_braces (first_pieces tables locals a)) (term_are e fits.0.0 written.0) (braces_are (first_pieces tables locals a) (first_are a fits.1 written.1)))
            (else_are b fits.2 written.2),
      )
      command_are (Repeat n body) fits written = let few = fits.0 in (refl, (omega (arith, few), braces_are (first_pieces tables locals body) (first_are body fits.1 written)))
      command_are Abort fits written = (refl, tt)

      first_are : (cs : Commands) → Fits (length locals) cs → AreWritten (length tables) cs → ArePieces (first_pieces tables locals cs)
      first_are End fits written = tt
      first_are (Then c cs) fits written = pieces_append (command_pieces tables locals c) (more_pieces tables locals cs) (command_are c fits.0 written.0) (more_are cs fits.1 written.1)

      more_are : (cs : Commands) → Fits (length locals) cs → AreWritten (length tables) cs → ArePieces (more_pieces tables locals cs)
      more_are End fits written = tt
      more_are (Then c cs) fits written = (refl, pieces_append (command_pieces tables locals c) (more_pieces tables locals cs) (command_are c fits.0 written.0) (more_are cs fits.1 written.1))

      else_are : (cs : Commands) → Fits (length locals) cs → AreWritten (length tables) cs → ArePieces (else_pieces tables locals cs)
      else_are End fits written = tt
      else_are (Then c cs) fits written =
          (refl, braces_are (command_pieces tables locals c ++ more_pieces tables locals cs) (pieces_append (command_pieces tables locals c) (more_pieces tables locals cs) (command_are c fits.0 written.0) (more_are cs fits.1 written.1)))

    pub block_are : (cs : Commands) → Fits (length locals) cs → AreWritten (length tables) cs → ArePieces (block_pieces tables locals cs)
    block_are cs fits written = braces_are (first_pieces tables locals cs) (first_are cs fits written)
