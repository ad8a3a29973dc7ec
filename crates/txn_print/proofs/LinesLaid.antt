-- The text of lines lies as the tokens of their pieces.
use Rattle.std.proofs.Common.{◌≡◌, ℕ, ◌+◌, true, List, [], ◌∷◌, ◌++◌, length, drop, refl, sym, ap, ◌∙◌, arith}
use Rattle.std.specs.Prelude.{Ok}
use Rattle.std.proofs.lemmas.List.{append_assoc, length-append, drop-drop, drop_at}
use Rattle.txn_text.specs.declared.kinds.Token.{Token}
use Rattle.txn_text.specs.Tokens.{tokens_of}
use Rattle.txn_text.specs.Layout.{IsLaidOutFrom, ended, blank}
use Rattle.txn_text.proofs.LayoutLemmas.{laid_out_is_read}
use Rattle.txn_print.specs.Piece.{Piece, line_text, lines_text}
use Rattle.txn_print.specs.Spelling.{SpellAll, ArePieces}
use Rattle.txn_print.proofs.LaidLemmas.{are_laid}

-- the pieces of all lines, in order
abbrev pub joined : List (List Piece) → List Piece
joined [] = []
joined (line ∷ lines) = line ++ joined lines

abbrev pub AreLines : List (List Piece) → Type 0
AreLines [] = Unit {0}
AreLines (line ∷ lines) = ArePieces line × AreLines lines

spell_both : (text : List ℕ) (xs ys : List Piece) (ts us : List Token) → SpellAll text xs ts → SpellAll text ys us → SpellAll text (xs ++ ys) (ts ++ us)
spell_both text [] ys [] us first second = second
spell_both text [] ys (t ∷ ts) us first second = absurd first
spell_both text (x ∷ xs) ys [] us first second = absurd first
spell_both text (x ∷ xs) ys (t ∷ ts) us first second = (first.0, spell_both text xs ys ts us first.1 second)

-- the tokens of lines that stand in the text up to its end
record LinesLaid (text : List ℕ) (at : ℕ) (lines : List (List Piece)) : Type 0 where
  tokens : List Token
  laid : IsLaidOutFrom text at tokens
  spelled : SpellAll text (joined lines) tokens

behind_bytes : (text : List ℕ) (at : ℕ) (bs rest : List ℕ) → drop at text ≡ bs ++ rest → drop (at + length bs) text ≡ rest
behind_bytes text at bs rest here =
    ap (λ n. drop n text) (let e : at + length bs ≡ length bs + at = omega arith in e) ∙ sym (drop-drop (length bs) at text ∙ ap (λ n. drop n text) (let e : at + length bs ≡ length bs + at = omega arith in e)) ∙ ap (drop (length bs)) here ∙ drop_at bs rest (length bs) refl

lines_laid : (text : List ℕ) (lines : List (List Piece)) (at : ℕ) → AreLines lines → drop at text ≡ lines_text lines → at + length (lines_text lines) ≡ length text → LinesLaid text at lines
lines_laid text [] at are here reach = record { tokens = []; laid = ended at (omega (arith, reach)); spelled = tt }
lines_laid text (line ∷ lines) at are here reach =
    let bs = line_text line in
    let rest = lines_text lines in
    let split : drop at text ≡ bs ++ (10 ∷ rest) = here ∙ append_assoc bs (10 ∷ []) rest in
    let next : drop (at + length bs) text ≡ 10 ∷ rest = behind_bytes text at bs (10 ∷ rest) split in
    let len = length-append (bs ++ 10 ∷ []) rest in
    let len' = length-append bs (10 ∷ []) in
    let others = lines_laid text lines (at + length bs + 1) are.1 (behind_bytes text (at + length bs) (10 ∷ []) rest next) (omega (arith, reach, len, len')) in
    let first = are_laid text line true at (at + length bs) (10 ∷ rest) others.tokens are.0 split refl refl (blank (at + length bs) 10 rest others.tokens next refl others.laid) in
    record { tokens = first.tokens ++ others.tokens; laid = first.laid; spelled = spell_both text line (joined lines) first.tokens others.tokens first.spelled others.spelled }

-- the tokens of a text of lines
pub record LinesRead (lines : List (List Piece)) : Type 0 where
  pub tokens : List Token
  pub are_tokens : tokens_of (lines_text lines) ≡ Ok tokens
  pub spelled : SpellAll (lines_text lines) (joined lines) tokens

pub lines_read : (lines : List (List Piece)) → AreLines lines → LinesRead lines
lines_read lines are =
    let text = lines_text lines in
    let l = lines_laid text lines 0 are refl (omega arith) in
    record { tokens = l.tokens; are_tokens = laid_out_is_read text l.tokens l.laid; spelled = l.spelled }
