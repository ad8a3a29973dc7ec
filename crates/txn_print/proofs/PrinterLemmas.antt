-- What a printer holds once pieces were printed in several calls.
use Rattle.std.proofs.Common.{◌≡◌, ◌<◌, ◌≤◌, ◌+◌, ◌||◌, ℕ, zero, suc, List, [], ◌∷◌, ◌++◌, length, drop, get_or, Result, refl, sym, ap, ◌∙◌, subst, ltb, add-one, drop-cons, arith}
use Rattle.std.specs.Prelude.{OnOk, codes}
use Rattle.std.proofs.lemmas.List.{append_assoc, append-nil, drop_all}
use Rattle.std.proofs.lemmas.Bool.{cond-true, lt-ltb}
use Rattle.std.proofs.lemmas.Result.{on_ok_weaker}
use Rattle.txn_lang.specs.declared.tree.BinOp.{BinOp}
use Rattle.txn_lang.specs.declared.tree.Stmt.{Stmt}
use Rattle.txn_lang.specs.Tree.{Term, Bin, Command, Write, If, Commands, End, Then, command, commands_of}
use Rattle.txn_lang.specs.Limits.{operator_level, left_level, level}
use Rattle.txn_print.specs.declared.printer.Printer.{Printer}
use Rattle.txn_print.specs.Piece.{Piece, Word, Symbol, bytes_of, is_close, is_open, gap, text_of}
use Rattle.txn_print.specs.Printer.{with_piece, printed}
use Rattle.txn_print.specs.Canonical.{Names, name_at, operator_piece, operand, term_pieces, index_pieces, command_pieces, first_pieces, more_pieces, else_pieces, block_pieces}

-- pieces behind others
pub printed_append : (p : Printer) (xs ys : List Piece) → printed p (xs ++ ys) ≡ printed (printed p xs) ys
printed_append p [] ys = refl
printed_append p (x ∷ xs) ys = printed_append (with_piece p x) xs ys

-- the text that is held goes on by the text of the pieces
pub text_printed : (p : Printer) (xs : List Piece) → (printed p xs).text ≡ p.text ++ text_of p.joined xs
unfolding text_of with_piece
text_printed p [] = sym (append-nil p.text)
text_printed p (x ∷ xs) =
    text_printed (with_piece p x) xs ∙ append_assoc (p.text ++ gap (p.joined || is_close x)) (bytes_of x) (text_of (is_open x) xs)
    ∙ append_assoc p.text (gap (p.joined || is_close x)) (bytes_of x ++ text_of (is_open x) xs)
    ∙ ap (λ t. p.text ++ t) (sym (append_assoc (gap (p.joined || is_close x)) (bytes_of x) (text_of (is_open x) xs)))

-- an else block with statements
pub else_filled : (tables locals : Names) (stmts : List Stmt) → (stmts ≡ [] → ⊥) → else_pieces tables locals (commands_of stmts) ≡ Word (codes "else") ∷ block_pieces tables locals (commands_of stmts)
else_filled tables locals [] some = absurd (some refl)
else_filled tables locals (x ∷ xs) some = refl

module _ {T E : Type 0} (r : Result T E) where
  -- further pieces behind those that were printed
  pub then_printed : (p q z : Printer) (xs ys : List Piece) → q ≡ printed p xs → OnOk r (z ≡ printed q ys) → OnOk r (z ≡ printed p (xs ++ ys))
  then_printed p q z xs ys first = on_ok_weaker r (λ e. e ∙ ap (λ (s : Printer). printed s ys) first ∙ sym (printed_append p xs ys))

  -- an operator between two operands
  pub joined_printed : (p q s z : Printer) (xs : List Piece) (y : Piece) (ys : List Piece) → q ≡ printed p xs → s ≡ with_piece q y → OnOk r (z ≡ printed s ys) → OnOk r (z ≡ printed p (xs ++ y ∷ ys))
  joined_printed p q s z xs y ys first second = on_ok_weaker r (λ e. e ∙ ap (λ (s : Printer). printed s ys) (second ∙ ap (λ (t : Printer). with_piece t y) first) ∙ sym (printed_append p xs (y ∷ ys)))

  -- pieces between two others
  pub enclosed_printed : (p q s z : Printer) (x : Piece) (xs : List Piece) (y : Piece) → q ≡ with_piece p x → s ≡ printed q xs → OnOk r (z ≡ with_piece s y) → OnOk r (z ≡ printed p (x ∷ (xs ++ y ∷ [])))
  enclosed_printed p q s z x xs y first second =
      on_ok_weaker r (λ e. e ∙ ap (λ (t : Printer). with_piece t y) (second ∙ ap (λ (t : Printer). printed t xs) first) ∙ sym (printed_append (with_piece p x) xs (y ∷ [])))

  pub operand_low : (p q s z : Printer) (least : ℕ) (e : Term) (xs : List Piece) → level e < least → q ≡ with_piece p (Symbol (codes "(")) → s ≡ printed q xs → OnOk r (z ≡ with_piece s (Symbol (codes ")"))) → OnOk r (z ≡ printed p (operand least e xs))
  operand_low p q s z least e xs low first second last =
      on_ok_weaker r (λ is. is ∙ ap (printed p) (sym (cond-true (ltb (level e) least) _ _ (lt-ltb (level e) least low))))
      (enclosed_printed p q s z (Symbol (codes "(")) xs (Symbol (codes ")")) first second last)

  pub bin_printed :
      (locals : Names) (op : BinOp) (a b : Term) (k n : ℕ) (p q s z : Printer) → k ≡ left_level op → n ≡ operator_level op →
      q ≡ printed p (operand k a (term_pieces locals a)) → s ≡ with_piece q (operator_piece op) → OnOk r (z ≡ printed s (operand (n + 1) b (term_pieces locals b))) →
      OnOk r (z ≡ printed p (term_pieces locals (Bin op a b)))
  bin_printed locals op a b k n p q s z left right first second last =
      joined_printed p q s z (operand (left_level op) a (term_pieces locals a)) (operator_piece op) (operand (operator_level op + 1) b (term_pieces locals b))
      (first ∙ ap (λ (m : ℕ). printed p (operand m a (term_pieces locals a))) left) second
      (subst (λ (m : ℕ). OnOk r (z ≡ printed s (operand (m + 1) b (term_pieces locals b)))) right last)

  pub write_printed :
      (tables locals : Names) (table : ℕ) (i e : Term) (p q s u z : Printer) → q ≡ with_piece p (Word (codes "write")) → s ≡ with_piece q (name_at tables table) →
      u ≡ printed s (index_pieces locals i) → OnOk r (z ≡ printed u (term_pieces locals e)) → OnOk r (z ≡ printed p (command_pieces tables locals (Write table i e)))
  write_printed tables locals table i e p q s u z first second third last =
      then_printed (with_piece (with_piece p (Word (codes "write"))) (name_at tables table)) u z (index_pieces locals i) (term_pieces locals e)
      (third ∙ ap (λ (x : Printer). printed x (index_pieces locals i)) (second ∙ ap (λ (x : Printer). with_piece x (name_at tables table)) first)) last

  pub if_printed :
      (tables locals : Names) (e : Term) (a b : Commands) (p q s u z : Printer) → q ≡ with_piece p (Word (codes "if")) → s ≡ printed q (term_pieces locals e) →
      u ≡ printed s (block_pieces tables locals a) → OnOk r (z ≡ printed u (else_pieces tables locals b)) → OnOk r (z ≡ printed p (command_pieces tables locals (If e a b)))
  if_printed tables locals e a b p q s u z first second third last =
      let start = with_piece p (Word (codes "if")) in
      let behind : u ≡ printed start (term_pieces locals e ++ block_pieces tables locals a) =
      third ∙ ap (λ (x : Printer). printed x (block_pieces tables locals a)) (second ∙ ap (λ (x : Printer). printed x (term_pieces locals e)) first)
      ∙ sym (printed_append start (term_pieces locals e) (block_pieces tables locals a)) in
      then_printed start u z (term_pieces locals e ++ block_pieces tables locals a) (else_pieces tables locals b) behind last

  pub else_printed :
      (tables locals : Names) (stmts : List Stmt) (p q z : Printer) → (stmts ≡ [] → ⊥) → q ≡ with_piece p (Word (codes "else")) →
      OnOk r (z ≡ printed q (block_pieces tables locals (commands_of stmts))) → OnOk r (z ≡ printed p (else_pieces tables locals (commands_of stmts)))
  else_printed tables locals stmts p q z some first =
      on_ok_weaker r (λ e. e ∙ ap (λ (x : Printer). printed x (block_pieces tables locals (commands_of stmts))) first ∙ ap (printed p) (sym (else_filled tables locals stmts some)))

-- what is printed before statement i of a block, and from there on
abbrev pub separator_at : ℕ → List Piece
separator_at zero = []
separator_at (suc i) = Symbol (codes ";") ∷ []

abbrev pub pieces_from : Names → Names → ℕ → Commands → List Piece
pieces_from tables locals zero cs = first_pieces tables locals cs
pieces_from tables locals (suc i) cs = more_pieces tables locals cs

pub separator_some : (i : ℕ) → 0 < i → separator_at i ≡ Symbol (codes ";") ∷ []
separator_some zero some = absurd (omega (arith, some))
separator_some (suc i) some = refl

pub separator_none : (i : ℕ) → i ≤ 0 → separator_at i ≡ []
separator_none zero none = refl
separator_none (suc i) none = absurd (omega (arith, none))

module _ (tables locals : Names) where
  from_next : (i : ℕ) (c : Command) (cs : Commands) → pieces_from tables locals i (Then c cs) ≡ separator_at i ++ command_pieces tables locals c ++ more_pieces tables locals cs
  from_next zero c cs = refl
  from_next (suc i) c cs = refl

  from_none : (i : ℕ) → pieces_from tables locals i End ≡ []
  from_none zero = refl
  from_none (suc i) = refl

  -- one more statement was printed
  pub one_printed :
      (stmts : List Stmt) (i : ℕ) (x : Stmt) (p q s : Printer) → i < length stmts → x ≡ get_or stmts i x → q ≡ printed p (separator_at i) →
      s ≡ printed q (command_pieces tables locals (command x)) →
      printed s (pieces_from tables locals (i + 1) (commands_of (drop (i + 1) stmts))) ≡ printed p (pieces_from tables locals i (commands_of (drop i stmts)))
  one_printed stmts i x p q s within is first second =
      let sep = separator_at i in
      let piece = command_pieces tables locals (command x) in
      let rest = commands_of (drop (suc i) stmts) in
      let split : drop i stmts ≡ x ∷ drop (suc i) stmts = drop-cons stmts i x within ∙ ap (λ (y : Stmt). y ∷ drop (suc i) stmts) (sym is) in
      ap (λ (n : ℕ). printed s (pieces_from tables locals n (commands_of (drop n stmts)))) (add-one i)
      ∙ ap (λ (t : Printer). printed t (more_pieces tables locals rest)) (second ∙ ap (λ (t : Printer). printed t piece) first ∙ sym (printed_append p sep piece))
      ∙ sym (printed_append p (sep ++ piece) (more_pieces tables locals rest))
      ∙ ap (printed p) (sym (from_next i (command x) rest))
      ∙ ap (λ (l : List Stmt). printed p (pieces_from tables locals i (commands_of l))) (sym split)

  -- all were printed
  pub all_printed : (stmts : List Stmt) (i : ℕ) (p : Printer) → length stmts ≤ i → printed p (pieces_from tables locals i (commands_of (drop i stmts))) ≡ p
  all_printed stmts i p over = ap (λ (l : List Stmt). printed p (pieces_from tables locals i (commands_of l))) (drop_all i stmts over) ∙ ap (printed p) (from_none i)
