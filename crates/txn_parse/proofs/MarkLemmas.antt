-- A mark that is not one byte long is looked for among those of two bytes.
use Rattle.std.proofs.Common.{◌≡◌, ℕ, List, [], ◌∷◌, ◌++◌, length, codes, refl, sym, ap, ◌∙◌}
use Rattle.std.specs.Str.{bytes_eq}
use Rattle.std.proofs.lemmas.Bool.{cond_both}
use Rattle.std.proofs.lemmas.Slice.Eq.{bytes_eq-Decides}
use Rattle.txn_lang.specs.declared.tree.BinOp.TheVariants as op
use Rattle.txn_parse.specs.declared.symbols.Symbol.TheVariants as symbol
use Rattle.txn_parse.specs.Symbols.{Sign, sign, marks, symbol_in}

abbrev AreSingle : List Sign → Type 0
AreSingle [] = Unit {0}
AreSingle (s ∷ signs) = (length s.bytes ≡ 1) × AreSingle signs

skipped : (signs rest : List Sign) (text : List ℕ) → AreSingle signs → ((length text ≡ 1) → ⊥) → symbol_in (signs ++ rest) text ≡ symbol_in rest text
skipped [] rest text single long = refl
skipped (s ∷ signs) rest text single long =
    cond_both (bytes_eq s.bytes text) s.symbol (symbol_in (signs ++ rest) text) (λ x. x ≡ symbol_in rest text)
    (λ same. absurd (long (ap length (sym ((bytes_eq-Decides s.bytes text).0 same)) ∙ single.0)))
    (λ _. skipped signs rest text single.1 long)

-- the marks of one byte
singles : List Sign
singles =
    sign (codes ";") symbol.Semicolon ∷ sign (codes "[") symbol.OpenIndex ∷ sign (codes "]") symbol.CloseIndex ∷
    sign (codes "{") symbol.OpenBlock ∷ sign (codes "}") symbol.CloseBlock ∷ sign (codes "=") symbol.Assign ∷
    sign (codes "(") symbol.OpenParen ∷ sign (codes ")") symbol.CloseParen ∷ sign (codes "+") (symbol.Op op.Add) ∷
    sign (codes "-") (symbol.Op op.Sub) ∷ sign (codes "*") (symbol.Op op.Mul) ∷ sign (codes "/") (symbol.Op op.Div) ∷
    sign (codes "%") (symbol.Op op.Rem) ∷ sign (codes "<") (symbol.Op op.Lt) ∷ sign (codes ">") (symbol.Op op.Gt) ∷
    sign (codes ".") symbol.Dot ∷ []

-- the others, which the program's table has
abbrev pub pairs : List Sign
pairs = sign (codes "==") (symbol.Op op.Eq) ∷ sign (codes "!=") (symbol.Op op.Ne) ∷ sign (codes "<=") (symbol.Op op.Le) ∷ sign (codes ">=") (symbol.Op op.Ge) ∷ []

pub not_single : (text : List ℕ) → ((length text ≡ 1) → ⊥) → symbol_in pairs text ≡ symbol_in marks text
unfolding singles marks
not_single text long = sym (skipped singles pairs text (refl, (refl, (refl, (refl, (refl, (refl, (refl, (refl, (refl, (refl, (refl, (refl, (refl, (refl, (refl, (refl, tt)))))))))))))))) long)
