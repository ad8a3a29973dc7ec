-- The pieces of an expression are read as that expression.
use Rattle.std.proofs.Common.{◌≡◌, ℕ, suc, ◌+◌, ◌≤◌, Bool, true, not, cond, ltb, List, [], ◌∷◌, ◌++◌, length, take, Some, None, refl, sym, ap, ◌∙◌, subst, arith, ℤ, pos, negsuc, ⊎_elim}
use Rattle.std.specs.Prelude.{codes, decimal, unsigned_abs}
use Rattle.std.specs.List.{IsDistinct}
use Rattle.std.specs.Str.{bytes_eq}
use Rattle.std.specs.Int.{IsNonNegative}
use Rattle.std.proofs.lemmas.Bool.{cases_Bool, cond-true, cond-false, le-ltb, ltb-false}
use Rattle.std.proofs.lemmas.List.{map-append}
use Rattle.std.proofs.lemmas.Option.{unwrap_or-slice_get}
use Rattle.txn_lang.specs.declared.tree.BinOp.{BinOp}
use Rattle.txn_lang.specs.declared.tree.BinOp.TheVariants as op
use Rattle.txn_lang.specs.Tree as lang
use Rattle.txn_lang.specs.Value.{UsesBelow}
use Rattle.txn_lang.specs.Limits.{operator_level, left_level, level}
use Rattle.txn_lang.specs.Form.{IsFormedTerm}
use Rattle.txn_text.specs.declared.bytes.TheConstants.{GREATEST_NUMBER}
use Rattle.txn_text.specs.declared.kinds.Token.{Token}
use Rattle.txn_text.specs.declared.faults.FaultKind.TheVariants.{UnknownLocal}
use Rattle.txn_text.specs.declared.faults.TextFault.TheVariants.{At}
use Rattle.txn_text.specs.Bytes.{number_of as value_of_digits, number_value_of}
use Rattle.txn_text.specs.Tokens.{token_bytes}
use Rattle.txn_parse.specs.declared.symbols.Symbol.{Symbol}
use Rattle.txn_parse.specs.declared.symbols.Symbol.TheVariants as symbol
use Rattle.txn_parse.specs.Symbols.{words, marks, Lexeme, lexeme}
use Rattle.txn_parse.specs.Tree.{Term, Num, Local, Neg, Not, Bin}
use Rattle.txn_parse.specs.Grammar.{IsExpr, number, local, negative, denied, grouped, joined}
use Rattle.txn_parse.specs.Binding.{first_failing, Names, is_known, place, number_of, bound_term, locals_of, used_checks}
use Rattle.txn_parse.proofs.PendingLemmas.{level_some, loosened}
use Rattle.txn_parse.proofs.NamesLemmas.{none_first}
use Rattle.txn_print.specs.Piece.{Piece, Symbol as Mark, bytes_of}
use Rattle.txn_print.specs.Canonical.{name_at, operator_piece, operand, term_pieces}
use Rattle.txn_print.specs.Written.{HasNumbers}
use Rattle.txn_print.proofs.LaidLemmas.{number-decimal}
use Rattle.txn_print.proofs.LexedLemmas.{Lexed, none, one, Parts, parts, operator_symbol}
use Rattle.txn_print.proofs.PlacesLemmas.{name_of, place_of, known_of}

-- the level at which an expression is read without parentheses
pub bare_level : lang.Term → ℕ
bare_level (lang.Num x) = 6
bare_level (lang.Local v) = 6
bare_level (lang.Neg a) = 6
bare_level (lang.Not a) = 6
bare_level (lang.Bin o a b) = operator_level o

pub bare_some : (e : lang.Term) → 1 ≤ bare_level e
unfolding bare_level
bare_some (lang.Num x) = omega arith
bare_some (lang.Local v) = omega arith
bare_some (lang.Neg a) = omega arith
bare_some (lang.Not a) = omega arith
bare_some (lang.Bin o a b) = level_some o

bare_least : (e : lang.Term) (least : ℕ) → least ≤ 6 → least ≤ level e → least ≤ bare_level e
unfolding bare_level
bare_least (lang.Num x) least six above = six
bare_least (lang.Local v) least six above = six
bare_least (lang.Neg a) least six above = six
bare_least (lang.Not a) least six above = six
bare_least (lang.Bin o a b) least six above = above

-- a number is read back
pub number_back : (text : List ℕ) (t : Token) (n : ℕ) → n ≤ GREATEST_NUMBER → token_bytes text t ≡ decimal n → number_of text t ≡ n
number_back text t n small is =
    ap number_value_of is
    ∙ cond-false (ltb GREATEST_NUMBER (value_of_digits (decimal n))) 0 (value_of_digits (decimal n)) (le-ltb GREATEST_NUMBER (value_of_digits (decimal n)) (let e = number-decimal n small in omega (arith, e, small)))
    ∙ number-decimal n small

positive : (x : ℤ) → IsNonNegative x → pos (unsigned_abs x) ≡ x
positive (pos n) some = refl
positive (negsuc n) some = absurd some

-- the name of a piece
pub name_spelled : (text : List ℕ) (names : Names) (v : ℕ) (t : Token) → token_bytes text t ≡ bytes_of (name_at names v) → token_bytes text t ≡ name_of names v
name_spelled text names v t is = is ∙ unwrap_or-slice_get names v []

-- among locals of which so many have a place as a target: the tokens are those of an expression that stands for e
pub record TermRead (text : List ℕ) (locals : Names) (k n : ℕ) (ls : List Lexeme) (e : lang.Term) : Type 0 where
  pub raw : Term
  pub derived : IsExpr n ls raw
  pub bound : bound_term text locals raw ≡ e
  pub used : first_failing (used_checks text (take k locals) raw) ≡ None

module _ (text : List ℕ) (locals : Names) (distinct : IsDistinct bytes_eq locals) (k : ℕ) where
  -- at a looser level
  looser : {m n : ℕ} {ls : List Lexeme} {e : lang.Term} → n ≤ m → TermRead text locals k m ls e → TermRead text locals k n ls e
  looser {m} {n} {ls} below r = record { raw = r.raw; derived = loosened m n ls r.raw below r.derived; bound = r.bound; used = r.used }

  closed : (e : lang.Term) (least : ℕ) → least ≤ 6 → (ls : List Lexeme) → Lexed text (Mark (codes "(") ∷ (term_pieces locals e ++ Mark (codes ")") ∷ [])) ls →
      ((ms : List Lexeme) → Lexed text (term_pieces locals e) ms → TermRead text locals k (bare_level e) ms e) → TermRead text locals k least ls e
  unfolding words marks
  closed e least six zs (one x t xs ls b rest) inner = by_parts (parts text (term_pieces locals e) (Mark (codes ")") ∷ []) rest)
    where
      by_back : (front back : List Lexeme) → ls ≡ front ++ back → Lexed text (term_pieces locals e) front → Lexed text (Mark (codes ")") ∷ []) back → TermRead text locals k least (lexeme symbol.OpenParen t ∷ ls) e
      by_back front back split first (one y u ys ms c none) =
          let r = looser (bare_some e) (inner front first) in
          let whole : IsExpr 6 (lexeme symbol.OpenParen t ∷ (front ++ lexeme symbol.CloseParen u ∷ [])) r.raw = grouped t u front r.raw r.derived in
          let moved = subst (λ (ms : List Lexeme). IsExpr 6 (lexeme symbol.OpenParen t ∷ ms) r.raw) (sym split) whole in
          record { raw = r.raw; derived = loosened 6 least (lexeme symbol.OpenParen t ∷ ls) r.raw six moved; bound = r.bound; used = r.used }

      by_parts : Parts text (term_pieces locals e) (Mark (codes ")") ∷ []) ls → TermRead text locals k least (lexeme symbol.OpenParen t ∷ ls) e
      by_parts p = by_back p.front p.back p.split p.first p.second

  -- an operand, in parentheses where it needs them
  operand_read : (e : lang.Term) (least : ℕ) → least ≤ 6 → (ls : List Lexeme) → Lexed text (operand least e (term_pieces locals e)) ls →
      ((ms : List Lexeme) → Lexed text (term_pieces locals e) ms → TermRead text locals k (bare_level e) ms e) → TermRead text locals k least ls e
  operand_read e least six ls l inner =
      ⊎_elim
      (λ low. closed e least six ls (subst (λ (ps : List Piece). Lexed text ps ls) (cond-true (ltb (level e) least) _ _ low) l) inner)
      (λ high. looser (bare_least e least six (ltb-false (level e) least high)) (inner ls (subst (λ (ps : List Piece). Lexed text ps ls) (cond-false (ltb (level e) least) _ _ high) l)))
      (cases_Bool (ltb (level e) least))

  level_six : (o : BinOp) → operator_level o + 1 ≤ 6
  level_six op.Add = omega arith
  level_six op.Sub = omega arith
  level_six op.Mul = omega arith
  level_six op.Div = omega arith
  level_six op.Rem = omega arith
  level_six op.Eq = omega arith
  level_six op.Ne = omega arith
  level_six op.Lt = omega arith
  level_six op.Le = omega arith
  level_six op.Gt = omega arith
  level_six op.Ge = omega arith
  level_six op.And = omega arith
  level_six op.Or = omega arith

  left_six : (o : BinOp) → left_level o ≤ 6
  left_six op.Add = omega arith
  left_six op.Sub = omega arith
  left_six op.Mul = omega arith
  left_six op.Div = omega arith
  left_six op.Rem = omega arith
  left_six op.Eq = omega arith
  left_six op.Ne = omega arith
  left_six op.Lt = omega arith
  left_six op.Le = omega arith
  left_six op.Gt = omega arith
  left_six op.Ge = omega arith
  left_six op.And = omega arith
  left_six op.Or = omega arith

  -- an operator between two operands
  joins : (o : BinOp) (a b : lang.Term) (ls front back : List Lexeme) → ls ≡ front ++ back → TermRead text locals k (left_level o) front a →
      Lexed text (operator_piece o ∷ operand (operator_level o + 1) b (term_pieces locals b)) back →
      ((ms : List Lexeme) → Lexed text (operand (operator_level o + 1) b (term_pieces locals b)) ms → TermRead text locals k (operator_level o + 1) ms b) →
      TermRead text locals k (operator_level o) ls (lang.Bin o a b)
  joins o a b ls front back split left (one x t xs ms c rest) right =
      let r = right ms rest in
      let next : IsExpr (suc (operator_level o)) ms r.raw = subst (λ (n : ℕ). IsExpr n ms r.raw) (let e : operator_level o + 1 ≡ suc (operator_level o) = omega arith in e) r.derived in
      let whole : IsExpr (operator_level o) (front ++ lexeme (symbol.Op o) t ∷ ms) (Bin o left.raw r.raw) = joined o t front ms left.raw r.raw left.derived next in
      let spelled = subst (λ (y : Symbol). IsExpr (operator_level o) (front ++ lexeme y t ∷ ms) (Bin o left.raw r.raw)) (sym (operator_symbol o)) whole in
      record {
        raw = Bin o left.raw r.raw;
        derived = subst (λ (zs : List Lexeme). IsExpr (operator_level o) zs (Bin o left.raw r.raw)) (sym split) spelled;
        bound = ap (λ (x : lang.Term). lang.Bin o x (bound_term text locals r.raw)) left.bound ∙ ap (λ (x : lang.Term). lang.Bin o a x) r.bound;
        used =
            ap first_failing (map-append _ (locals_of left.raw) (locals_of r.raw))
            ∙ none_first (used_checks text (take k locals) left.raw) (used_checks text (take k locals) r.raw) left.used ∙ r.used;
      }

  pub term_read : (e : lang.Term) → IsFormedTerm (length locals) k e → UsesBelow e (length locals) → HasNumbers e → (ls : List Lexeme) → Lexed text (term_pieces locals e) ls → TermRead text locals k (bare_level e) ls e
  unfolding words marks bare_level
  term_read (lang.Num x) formed below small zs (one y t ys ls b none) =
      record { raw = Num t; derived = number t; bound = ap (λ (n : ℕ). lang.Num (pos n)) (number_back text t (unsigned_abs x) small b) ∙ ap lang.Num (positive x formed); used = refl }
  term_read (lang.Local v) formed below small zs (one y t ys ls b none) =
      let name = name_spelled text locals v t b in
      let known : is_known (take k locals) (token_bytes text t) ≡ true = ap (is_known (take k locals)) name ∙ known_of locals distinct locals v k (formed below) below in
      record {
        raw = Local t;
        derived = local t;
        bound = ap lang.Local (ap (place locals) name ∙ place_of locals distinct v below);
        used = ap (λ (b : Bool). cond (not b) (Some (At t.line UnknownLocal)) None) known;
      }
  term_read (lang.Neg a) formed below small zs (one y t ys ls b rest) =
      let r = operand_read a 6 (omega arith) ls rest (term_read a formed below small) in
      record { raw = Neg r.raw; derived = negative t ls r.raw r.derived; bound = ap lang.Neg r.bound; used = r.used }
  term_read (lang.Not a) formed below small zs (one y t ys ls b rest) =
      let r = operand_read a 6 (omega arith) ls rest (term_read a formed below small) in
      record { raw = Not r.raw; derived = denied t ls r.raw r.derived; bound = ap lang.Not r.bound; used = r.used }
  term_read (lang.Bin o a b) formed below small ls l =
      let p = parts text (operand (left_level o) a (term_pieces locals a)) (operator_piece o ∷ operand (operator_level o + 1) b (term_pieces locals b)) l in
      joins o a b ls p.front p.back p.split
      (operand_read a (left_level o) (left_six o) p.front p.first (term_read a formed.0 below.0 small.0)) p.second
      (λ ms m. operand_read b (operator_level o + 1) (level_six o) ms m (term_read b formed.1 below.1 small.1))
