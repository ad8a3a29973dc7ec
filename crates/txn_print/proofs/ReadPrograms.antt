-- The canonical text of a program is read as that program.
use Rattle.std.proofs.Common.{◌≡◌, ℕ, zero, suc, ◌<◌, ◌≤◌, List, [], ◌∷◌, ◌++◌, length, refl, sym, subst, arith}
use Rattle.std.specs.Prelude.{codes}
use Rattle.std.specs.List.{IsDistinct}
use Rattle.std.specs.Str.{bytes_eq}
use Rattle.std.proofs.lemmas.List.{append_assoc, append-nil}
use Rattle.txn_lang.specs.Tree as lang
use Rattle.txn_lang.specs.Limits.{depth_in, depth, FitsIn, Fits}
use Rattle.txn_lang.specs.Form.{placed_in, placed_after, IsFilled, IsFormedIn, IsFormed}
use Rattle.txn_text.specs.declared.kinds.Token.{Token}
use Rattle.txn_parse.specs.declared.symbols.Symbol.TheVariants as symbol
use Rattle.txn_parse.specs.Symbols.{words, marks, Lexeme, lexeme}
use Rattle.txn_parse.specs.Grammar.{aborts}
use Rattle.txn_parse.specs.Tree.{Abort}
use Rattle.txn_parse.specs.Binding.{Names}
use Rattle.txn_print.specs.Piece.{Piece, Symbol as Mark}
use Rattle.txn_print.specs.Canonical.{term_pieces, index_pieces, in_braces, command_pieces, more_pieces, else_pieces, block_pieces}
use Rattle.txn_print.specs.Written.{IsWrittenIn, AreWritten}
use Rattle.txn_print.proofs.LexedLemmas.{Lexed, none, one, Parts, parts}
use Rattle.txn_print.proofs.ReadTerms.{name_spelled}
use Rattle.txn_print.proofs.ReadBlocks.{inner, StmtRead, MoreRead, BlockRead, ElseRead, no_more, more_then, braces, no_else, some_else, expr, let_read, index_read, read_read, write_read, print_read, if_read, repeat_read}

module _ (text : List ℕ) (tables locals : Names) (distinct : IsDistinct bytes_eq locals) (named : IsDistinct bytes_eq tables) where
  abbrev n : ℕ
  n = length locals

  abort_read : (k d : ℕ) (w : Token) → StmtRead text tables locals k d (lexeme symbol.Abort w ∷ []) lang.Abort
  abort_read k d w = record { raw = Abort; derived = aborts (inner d) w; stands = refl; names = refl; passes = refl; known = refl; times = omega arith }

  -- what stands in braces
  in_block : (k d : ℕ) (c : lang.Command) (cs : lang.Commands) → 0 < d → (ls : List Lexeme) → Lexed text (in_braces (command_pieces tables locals c ++ more_pieces tables locals cs)) ls →
      ((e : ℕ) → d ≡ suc e → (ms : List Lexeme) → Lexed text (command_pieces tables locals c) ms → StmtRead text tables locals k e ms c) →
      ((e : ℕ) → d ≡ suc e → (ms : List Lexeme) → Lexed text (more_pieces tables locals cs) ms → MoreRead text tables locals (placed_in n c k) e ms cs) →
      BlockRead text tables locals k d ls (lang.Then c cs)
  unfolding marks
  in_block k zero c cs deep ls l first second = absurd (let e : ⊥ = omega (arith, deep) in e)
  in_block k (suc d) c cs deep zs (one p x ps ls b l) first second = by_parts (parts text (command_pieces tables locals c ++ more_pieces tables locals cs) (Mark (codes "}") ∷ []) l)
    where
      by_back : (front back : List Lexeme) → ls ≡ front ++ back → Lexed text (command_pieces tables locals c ++ more_pieces tables locals cs) front → Lexed text (Mark (codes "}") ∷ []) back →
          BlockRead text tables locals k (suc d) (lexeme symbol.OpenBlock x ∷ ls) (lang.Then c cs)
      by_back front back split within (one q y qs ms e none) =
          let p = parts text (command_pieces tables locals c) (more_pieces tables locals cs) within in
          braces text tables locals k d x y front p.front p.back ls c cs split p.split (first d refl p.front p.first) (second d refl p.back p.second)

      by_parts : Parts text (command_pieces tables locals c ++ more_pieces tables locals cs) (Mark (codes "}") ∷ []) ls → BlockRead text tables locals k (suc d) (lexeme symbol.OpenBlock x ∷ ls) (lang.Then c cs)
      by_parts p = by_back p.front p.back p.split p.first p.second

  mutual
    unfolding words marks

    stmt_read : (c : lang.Command) (k d : ℕ) → depth_in c ≤ d → IsFormedIn n k c → FitsIn n c → IsWrittenIn (length tables) c → (ls : List Lexeme) → Lexed text (command_pieces tables locals c) ls → StmtRead text tables locals k d ls c
    stmt_read (lang.Let v e) k d deep formed fits written zs (one p w ps ps' b (one q t qs qs' b' (one r s rs ls b'' l))) =
        let_read text tables locals distinct named k d v e w t s ls (name_spelled text locals v t b') fits.0 formed.0 (expr text tables locals distinct named _ d e formed.1 fits.1 written ls l)
    stmt_read (lang.Read v t i) k d deep formed fits written zs (one p w ps ps' b (one q x qs qs' b' (one r y rs ls b'' l))) =
        read_read text tables locals distinct named k d v t i w x y ls (name_spelled text locals v x b') (name_spelled text tables t y b'') fits.0 formed.0 written.0
        (index_read text tables locals distinct named _ d i formed.1 fits.1 written.1 [] ls (subst (λ (ps : List Piece). Lexed text ps ls) (sym (append-nil (index_pieces locals i))) l))
    stmt_read (lang.Write t i e) k d deep formed fits written zs (one p w ps ps' b (one q y qs ls b' l)) =
        let r = index_read text tables locals distinct named k d i formed.0 fits.0 written.1 (term_pieces locals e) ls l in
        write_read text tables locals distinct named k d t i e w y ls (name_spelled text tables t y b') written.0 r (expr text tables locals distinct named k d e formed.1 fits.1 written.2 r.back r.rest)
    stmt_read (lang.Print e) k d deep formed fits written zs (one p w ps ls b l) = print_read text tables locals distinct named k d e w ls (expr text tables locals distinct named k d e formed fits written ls l)
    stmt_read (lang.If e a b) k d deep formed fits written zs (one p w ps ls b' l) =
        let x = parts text (term_pieces locals e) (block_pieces tables locals a ++ else_pieces tables locals b) (subst (λ (qs : List Piece). Lexed text qs ls) (append_assoc (term_pieces locals e) (block_pieces tables locals a) (else_pieces tables locals b)) l) in
        let y = parts text (block_pieces tables locals a) (else_pieces tables locals b) x.second in
        if_read text tables locals distinct named k d e a b w ls x.front x.back y.front y.back x.split y.split (expr text tables locals distinct named k d e formed.0 fits.0 written.0 x.front x.first)
        (block_read a k d (omega (arith, deep)) formed.1 formed.2 fits.1 written.1 y.front y.first)
        (else_read b (placed_after n a k) d (omega (arith, deep)) formed.3 fits.2 written.2 y.back y.second)
    stmt_read (lang.Repeat m body) k d deep formed fits written zs (one p w ps ps' b (one q t qs ls b' l)) =
        repeat_read text tables locals distinct named k d m body w t ls b' fits.0 (block_read body k d deep formed.0 formed.1 fits.1 written ls l)
    stmt_read lang.Abort k d deep formed fits written zs (one p w ps ls b none) = abort_read k d w

    more_read : (cs : lang.Commands) (k d : ℕ) → depth cs ≤ suc d → IsFormed n k cs → Fits n cs → AreWritten (length tables) cs → (ls : List Lexeme) → Lexed text (more_pieces tables locals cs) ls → MoreRead text tables locals k d ls cs
    more_read lang.End k d deep formed fits written zs none = no_more text tables locals k d
    more_read (lang.Then c cs) k d deep formed fits written zs (one p x ps ls b l) =
        let y = parts text (command_pieces tables locals c) (more_pieces tables locals cs) l in
        more_then text tables locals k d x ls y.front y.back c cs y.split (stmt_read c k d (omega (arith, deep)) formed.0 fits.0 written.0 y.front y.first)
        (more_read cs (placed_in n c k) d (omega (arith, deep)) formed.1 fits.1 written.1 y.back y.second)

    else_read : (cs : lang.Commands) (k d : ℕ) → depth cs ≤ d → IsFormed n k cs → Fits n cs → AreWritten (length tables) cs → (ls : List Lexeme) → Lexed text (else_pieces tables locals cs) ls → ElseRead text tables locals k d ls cs
    else_read lang.End k d deep formed fits written zs none = no_else text tables locals k d
    else_read (lang.Then c cs) k d deep formed fits written zs (one p x ps ls b l) =
        some_else text tables locals k d x ls (lang.Then c cs)
        (in_block k d c cs (omega (arith, deep)) ls l
        (λ e is ms m. stmt_read c k e (omega (arith, deep, is)) formed.0 fits.0 written.0 ms m)
        (λ e is ms m. more_read cs (placed_in n c k) e (omega (arith, deep, is)) formed.1 fits.1 written.1 ms m))

    pub block_read : (cs : lang.Commands) (k d : ℕ) → depth cs ≤ d → IsFilled cs → IsFormed n k cs → Fits n cs → AreWritten (length tables) cs → (ls : List Lexeme) → Lexed text (block_pieces tables locals cs) ls → BlockRead text tables locals k d ls cs
    block_read lang.End k d deep filled formed fits written ls l = absurd filled
    block_read (lang.Then c cs) k d deep filled formed fits written ls l =
        in_block k d c cs (omega (arith, deep)) ls l
        (λ e is ms m. stmt_read c k e (omega (arith, deep, is)) formed.0 fits.0 written.0 ms m)
        (λ e is ms m. more_read cs (placed_in n c k) e (omega (arith, deep, is)) formed.1 fits.1 written.1 ms m)
