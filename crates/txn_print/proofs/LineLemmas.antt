-- What a printer holds once lines were printed.
use Rattle.std.proofs.Common.{◌≡◌, true, List, [], ◌∷◌, ◌++◌, refl, sym, ap, ◌∙◌}
use Rattle.std.proofs.lemmas.List.{append_assoc, append-nil}
use Rattle.txn_print.specs.declared.printer.Printer.{Printer}
use Rattle.txn_print.specs.Piece.{Piece, text_of, line_text, lines_text}
use Rattle.txn_print.specs.Printer.{printed, with_line, lines_printed}
use Rattle.txn_print.proofs.PrinterLemmas.{text_printed}

pub lines_printed_append : (p : Printer) (xs ys : List (List Piece)) → lines_printed p (xs ++ ys) ≡ lines_printed (lines_printed p xs) ys
lines_printed_append p [] ys = refl
lines_printed_append p (x ∷ xs) ys = lines_printed_append (with_line (printed p x)) xs ys

one_text : (p : Printer) (line : List Piece) → p.joined ≡ true → (with_line (printed p line)).text ≡ p.text ++ (line_text line ++ 10 ∷ [])
unfolding with_line
one_text p line begun =
    ap (λ t. t ++ 10 ∷ []) (text_printed p line ∙ ap (λ b. p.text ++ text_of b line) begun) ∙ append_assoc p.text (line_text line) (10 ∷ [])

begins : (p : Printer) → (with_line p).joined ≡ true
unfolding with_line
begins p = refl

-- at the beginning of a line the text goes on by that of the lines
pub text_lines : (p : Printer) (lines : List (List Piece)) → p.joined ≡ true → (lines_printed p lines).text ≡ p.text ++ lines_text lines
text_lines p [] begun = sym (append-nil p.text)
text_lines p (l ∷ ls) begun =
    text_lines (with_line (printed p l)) ls (begins (printed p l))
    ∙ ap (λ t. t ++ lines_text ls) (one_text p l begun) ∙ append_assoc p.text (line_text l ++ 10 ∷ []) (lines_text ls)
