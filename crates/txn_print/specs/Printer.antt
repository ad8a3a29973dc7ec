-- What a printer holds once pieces were printed.
use Rattle.std.specs.Prelude.{true, ◌||◌, List, [], ◌∷◌, ◌++◌}
use Rattle.txn_print.specs.declared.printer.Printer.{Printer}
use Rattle.txn_print.specs.Piece.{Piece, bytes_of, is_close, is_open, gap}

-- one more piece
unfoldable pub with_piece : Printer → Piece → Printer
with_piece p piece = record { text = p.text ++ gap (p.joined || is_close piece) ++ bytes_of piece; joined = is_open piece }

-- these pieces, in order
abbrev pub printed : Printer → List Piece → Printer
printed p [] = p
printed p (piece ∷ pieces) = printed (with_piece p piece) pieces

-- the end of a line
unfoldable pub with_line : Printer → Printer
with_line p = record { text = p.text ++ 10 ∷ []; joined = true }

-- these lines, in order
abbrev pub lines_printed : Printer → List (List Piece) → Printer
lines_printed p [] = p
lines_printed p (line ∷ lines) = lines_printed (with_line (printed p line)) lines
