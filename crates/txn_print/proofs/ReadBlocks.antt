-- The pieces of a program's block are read as that block.
use Rattle.std.proofs.Common.{◌≡◌, ℕ, suc, ◌<◌, ◌≤◌, Bool, true, not, cond, List, [], ◌∷◌, ◌++◌, length, take, Some, None, refl, sym, ap, ◌∙◌, subst, arith}
use Rattle.std.specs.Prelude.{codes, decimal}
use Rattle.std.specs.List.{IsDistinct}
use Rattle.std.specs.Str.{bytes_eq}
use Rattle.std.proofs.lemmas.List.{append_assoc, append-nil, map-append}
use Rattle.txn_lang.specs.declared.limits.TheConstants.{LONGEST_EXPRESSION, MOST_TIMES}
use Rattle.txn_lang.specs.Tree as lang
use Rattle.txn_lang.specs.Limits.{IsShort}
use Rattle.txn_lang.specs.Form.{with_target, placed_in, placed_after, IsFormedTerm}
use Rattle.txn_text.specs.declared.faults.FaultKind.TheVariants.{UnknownTable}
use Rattle.txn_text.specs.declared.faults.TextFault.TheVariants.{At}
use Rattle.txn_text.specs.declared.kinds.Token.{Token}
use Rattle.txn_text.specs.Tokens.{token_bytes}
use Rattle.txn_parse.specs.declared.symbols.Symbol.TheVariants as symbol
use Rattle.txn_parse.specs.Symbols.{marks, Lexeme, lexeme}
use Rattle.txn_parse.specs.Tree.{Term, Command, Let, Read, Write, Print, If, Repeat, Commands, End, Then}
use Rattle.txn_parse.specs.Grammar.{Limits, Within, IsOutermost, IsStmt, sets, reads, writes, prints, chooses, chooses_else, repeats, IsBlock, braced, IsStmts, last, more as further}
use Rattle.txn_parse.specs.Binding.{Check, first_failing, Names, is_known, place, with_name, known_checks, tables_in, tables_of, names_in, names_after, used_checks, local_checks_in, local_checks, most_times_in, most_times, bound_term, bound_in, bound}
use Rattle.txn_parse.proofs.NamesLemmas.{none_first}
use Rattle.txn_print.specs.Piece.{Piece, Symbol as Mark}
use Rattle.txn_print.specs.Canonical.{term_pieces, index_pieces}
use Rattle.txn_print.specs.Written.{HasNumbers}
use Rattle.txn_print.proofs.CountLemmas.{pieces_are_counted}
use Rattle.txn_print.proofs.LexedLemmas.{Lexed, none, one, Parts, parts, length-lexed}
use Rattle.txn_print.proofs.PlacesLemmas.{name_of, place_of, known_here, target_named}
use Rattle.txn_print.proofs.ReadTerms.{term_read, bare_level, bare_some, number_back}
use Rattle.txn_parse.proofs.PendingLemmas.{loosened}

-- the limits of programs in which so many blocks may be opened
abbrev pub inner : ℕ → Limits
inner d = Within LONGEST_EXPRESSION d

module _ (text : List ℕ) (tables locals : Names) where
  -- what is read of a statement, of what stands behind a statement, and of a block, where so many locals have a place
  pub record StmtRead (k d : ℕ) (ls : List Lexeme) (c : lang.Command) : Type 0 where
    pub raw : Command
    pub derived : IsStmt (inner d) ls raw
    pub stands : bound_in text tables locals raw ≡ c
    pub names : names_in text raw (take k locals) ≡ take (placed_in (length locals) c k) locals
    pub passes : first_failing (local_checks_in text (take k locals) raw) ≡ None
    pub known : first_failing (known_checks UnknownTable text tables (tables_in raw)) ≡ None
    pub times : most_times_in text raw ≤ MOST_TIMES

  pub record Told (k : ℕ) (cs : lang.Commands) (raw : Commands) : Type 0 where
    pub stands : bound text tables locals raw ≡ cs
    pub names : names_after text raw (take k locals) ≡ take (placed_after (length locals) cs k) locals
    pub passes : first_failing (local_checks text (take k locals) raw) ≡ None
    pub known : first_failing (known_checks UnknownTable text tables (tables_of raw)) ≡ None
    pub times : most_times text raw ≤ MOST_TIMES

  pub record MoreRead (k d : ℕ) (ms : List Lexeme) (cs : lang.Commands) : Type 0 where
    pub raw : Commands
    pub derive : (ls : List Lexeme) (c : Command) → IsStmt (inner d) ls c → IsStmts (inner d) (ls ++ ms) (Then c raw)
    pub told : Told k cs raw

  pub record BlockRead (k d : ℕ) (ls : List Lexeme) (cs : lang.Commands) : Type 0 where
    pub raw : Commands
    pub derived : IsBlock (inner d) ls raw
    pub told : Told k cs raw

  -- an else block, or none
  pub record ElseRead (k d : ℕ) (ms : List Lexeme) (cs : lang.Commands) : Type 0 where
    pub raw : Commands
    pub derive : (w : Token) (ls ns : List Lexeme) (e : Term) (a : Commands) → IsOutermost (inner d) ls e → IsBlock (inner d) ns a → IsStmt (inner d) (lexeme symbol.If w ∷ (ls ++ (ns ++ ms))) (If e a raw)
    pub told : Told k cs raw

  both_pass : (xs ys : List Check) → first_failing xs ≡ None → first_failing ys ≡ None → first_failing (xs ++ ys) ≡ None
  both_pass xs ys first second = none_first xs ys first ∙ second

  two_known : (xs ys : List Token) → first_failing (known_checks UnknownTable text tables xs) ≡ None → first_failing (known_checks UnknownTable text tables ys) ≡ None →
      first_failing (known_checks UnknownTable text tables (xs ++ ys)) ≡ None
  two_known xs ys first second = ap first_failing (map-append _ xs ys) ∙ both_pass (known_checks UnknownTable text tables xs) (known_checks UnknownTable text tables ys) first second

  one_known : (t : Token) → is_known tables (token_bytes text t) ≡ true → first_failing (known_checks UnknownTable text tables (t ∷ [])) ≡ None
  one_known t is = ap (λ (b : Bool). cond (not b) (Some (At t.line UnknownTable)) None) is

  pub no_more : (k d : ℕ) → MoreRead k d [] lang.End
  no_more k d = record {
    raw = End;
    derive = λ ls c s. subst (λ (zs : List Lexeme). IsStmts (inner d) zs (Then c End)) (sym (append-nil ls)) (last (inner d) ls c s);
    told = record { stands = refl; names = refl; passes = refl; known = refl; times = omega arith };
  }

  -- a statement in front of others
  told_then : (k d : ℕ) (ls ms : List Lexeme) (c : lang.Command) (cs : lang.Commands) → (s : StmtRead k d ls c) → (r : MoreRead (placed_in (length locals) c k) d ms cs) → Told k (lang.Then c cs) (Then s.raw r.raw)
  told_then k d ls ms c cs s r =
      let t = r.told in
      let after : names_in text s.raw (take k locals) ≡ take (placed_in (length locals) c k) locals = s.names in
      let m = s.times in
      let n = t.times in
      record {
        stands = ap (λ (x : lang.Command). lang.Then x (bound text tables locals r.raw)) s.stands ∙ ap (λ (x : lang.Commands). lang.Then c x) t.stands;
        names = ap (names_after text r.raw) after ∙ t.names;
        passes = both_pass (local_checks_in text (take k locals) s.raw) (local_checks text (names_in text s.raw (take k locals)) r.raw) s.passes (ap (λ (ns : Names). first_failing (local_checks text ns r.raw)) after ∙ t.passes);
        known = two_known (tables_in s.raw) (tables_of r.raw) s.known t.known;
        times = omega (arith, m, n);
      }

  pub more_then : (k d : ℕ) (x : Token) (ls front back : List Lexeme) (c : lang.Command) (cs : lang.Commands) → ls ≡ front ++ back → StmtRead k d front c → MoreRead (placed_in (length locals) c k) d back cs →
      MoreRead k d (lexeme symbol.Semicolon x ∷ ls) (lang.Then c cs)
  more_then k d x ls front back c cs split s r = record {
    raw = Then s.raw r.raw;
    derive = λ before c' st. subst (λ (zs : List Lexeme). IsStmts (inner d) (before ++ lexeme symbol.Semicolon x ∷ zs) (Then c' (Then s.raw r.raw))) (sym split)
        (further (inner d) x before (front ++ back) c' (Then s.raw r.raw) st (r.derive front s.raw s.derived));
    told = told_then k d front back c cs s r;
  }

  -- statements in braces
  pub braces : (k d : ℕ) (x y : Token) (ls front back all : List Lexeme) (c : lang.Command) (cs : lang.Commands) → all ≡ ls ++ lexeme symbol.CloseBlock y ∷ [] → ls ≡ front ++ back → StmtRead k d front c → MoreRead (placed_in (length locals) c k) d back cs →
      BlockRead k (suc d) (lexeme symbol.OpenBlock x ∷ all) (lang.Then c cs)
  braces k d x y ls front back all c cs whole split s r =
      let stmts = subst (λ (zs : List Lexeme). IsStmts (inner d) zs (Then s.raw r.raw)) (sym split) (r.derive front s.raw s.derived) in
      record {
        raw = Then s.raw r.raw;
        derived = subst (λ (zs : List Lexeme). IsBlock (inner (suc d)) (lexeme symbol.OpenBlock x ∷ zs) (Then s.raw r.raw)) (sym whole) (braced (inner (suc d)) x y ls (Then s.raw r.raw) tt stmts);
        told = told_then k d front back c cs s r;
      }

  pub no_else : (k d : ℕ) → ElseRead k d [] lang.End
  no_else k d = record {
    raw = End;
    derive = λ w ls ns e a o b. subst (λ (zs : List Lexeme). IsStmt (inner d) (lexeme symbol.If w ∷ (ls ++ zs)) (If e a End)) (sym (append-nil ns)) (chooses (inner d) w ls ns e a o b);
    told = record { stands = refl; names = refl; passes = refl; known = refl; times = omega arith };
  }

  pub some_else : (k d : ℕ) (x : Token) (ls : List Lexeme) (cs : lang.Commands) → BlockRead k d ls cs → ElseRead k d (lexeme symbol.Else x ∷ ls) cs
  some_else k d x ls cs b = record {
    raw = b.raw;
    derive = λ w es ns e a o f. chooses_else (inner d) w x es ns ls e a b.raw o f b.derived;
    told = b.told;
  }

  module _ (distinct : IsDistinct bytes_eq locals) (named : IsDistinct bytes_eq tables) where
    -- an outermost expression
    pub record ExprRead (k d : ℕ) (ls : List Lexeme) (e : lang.Term) : Type 0 where
      pub raw : Term
      pub derived : IsOutermost (inner d) ls raw
      pub stands : bound_term text locals raw ≡ e
      pub used : first_failing (used_checks text (take k locals) raw) ≡ None

    pub expr : (k d : ℕ) (e : lang.Term) → IsFormedTerm (length locals) k e → IsShort (length locals) e → HasNumbers e → (ls : List Lexeme) → Lexed text (term_pieces locals e) ls → ExprRead k d ls e
    expr k d e formed short small ls l =
        let r = term_read text locals distinct k e formed short.0 small ls l in
        let few = short.1 in
        let len = length-lexed text (term_pieces locals e) l in
        let count = pieces_are_counted locals e in
        record {
          raw = r.raw;
          derived = record { short = omega (arith, few, len, count); derived = loosened (bare_level e) 1 ls r.raw (bare_some e) r.derived };
          stands = r.bound;
          used = r.used;
        }

    -- a target and a table
    target : (k v : ℕ) (t : Token) → token_bytes text t ≡ name_of locals v → v < length locals → (v < length locals → v ≤ k) → with_name (token_bytes text t) (take k locals) ≡ take (with_target (length locals) v k) locals
    target k v t name below turn = ap (λ (n : List ℕ). with_name n (take k locals)) name ∙ target_named locals distinct v k below (turn below)

    place_back : (v : ℕ) (t : Token) → token_bytes text t ≡ name_of locals v → v < length locals → place locals (token_bytes text t) ≡ v
    place_back v t name below = ap (place locals) name ∙ place_of locals distinct v below

    table_back : (v : ℕ) (t : Token) → token_bytes text t ≡ name_of tables v → v < length tables → place tables (token_bytes text t) ≡ v
    table_back v t name below = ap (place tables) name ∙ place_of tables named v below

    table_known : (v : ℕ) (t : Token) → token_bytes text t ≡ name_of tables v → v < length tables → first_failing (known_checks UnknownTable text tables (t ∷ [])) ≡ None
    table_known v t name below = one_known t (ap (is_known tables) name ∙ known_here tables named v below)

    pub let_read : (k d v : ℕ) (e : lang.Term) (w t s : Token) (ls : List Lexeme) → token_bytes text t ≡ name_of locals v → v < length locals → (v < length locals → v ≤ k) →
        ExprRead (with_target (length locals) v k) d ls e → StmtRead k d (lexeme symbol.Let w ∷ lexeme symbol.Name t ∷ lexeme symbol.Assign s ∷ ls) (lang.Let v e)
    let_read k d v e w t s ls name below turn r =
        let named = target k v t name below turn in
        record {
          raw = Let t r.raw;
          derived = sets (inner d) w t s ls r.raw r.derived;
          stands = ap (λ (x : ℕ). lang.Let x (bound_term text locals r.raw)) (place_back v t name below) ∙ ap (lang.Let v) r.stands;
          names = named;
          passes = ap (λ (ns : Names). first_failing (used_checks text ns r.raw)) named ∙ r.used;
          known = refl;
          times = omega arith;
        }

    -- an index in its brackets, and what follows it
    pub record IndexRead (k d : ℕ) (i : lang.Term) (ys : List Piece) (ls : List Lexeme) : Type 0 where
      pub x : Token
      pub y : Token
      pub front : List Lexeme
      pub back : List Lexeme
      pub split : ls ≡ lexeme symbol.OpenIndex x ∷ (front ++ lexeme symbol.CloseIndex y ∷ back)
      pub index : ExprRead k d front i
      pub rest : Lexed text ys back

    pub index_read : (k d : ℕ) (i : lang.Term) → IsFormedTerm (length locals) k i → IsShort (length locals) i → HasNumbers i → (ys : List Piece) (ls : List Lexeme) → Lexed text (index_pieces locals i ++ ys) ls → IndexRead k d i ys ls
    unfolding marks
    index_read k d i formed short small ys zs (one p x ps ls b l) =
        by_parts (parts text (term_pieces locals i) (Mark (codes "]") ∷ ys) (subst (λ (qs : List Piece). Lexed text qs ls) (append_assoc (term_pieces locals i) (Mark (codes "]") ∷ []) ys) l))
      where
        by_back : (front back : List Lexeme) → ls ≡ front ++ back → Lexed text (term_pieces locals i) front → Lexed text (Mark (codes "]") ∷ ys) back → IndexRead k d i ys (lexeme symbol.OpenIndex x ∷ ls)
        by_back front back split first (one q y qs ms c rest) = record {
          x = x;
          y = y;
          front = front;
          back = ms;
          split = ap (λ (ns : List Lexeme). lexeme symbol.OpenIndex x ∷ ns) split;
          index = expr k d i formed short small front first;
          rest = rest;
        }

        by_parts : Parts text (term_pieces locals i) (Mark (codes "]") ∷ ys) ls → IndexRead k d i ys (lexeme symbol.OpenIndex x ∷ ls)
        by_parts p = by_back p.front p.back p.split p.first p.second

    pub read_read : (k d v n : ℕ) (i : lang.Term) (w t s : Token) (ls : List Lexeme) → token_bytes text t ≡ name_of locals v → token_bytes text s ≡ name_of tables n → v < length locals →
        (v < length locals → v ≤ k) → n < length tables → IndexRead (with_target (length locals) v k) d i [] ls → StmtRead k d (lexeme symbol.Read w ∷ lexeme symbol.Name t ∷ lexeme symbol.Name s ∷ ls) (lang.Read v n i)
    read_read k d v n i w t s ls name table below turn within r = by_rest r.back r.split r.rest
      where
        by_rest : (back : List Lexeme) → ls ≡ lexeme symbol.OpenIndex r.x ∷ (r.front ++ lexeme symbol.CloseIndex r.y ∷ back) → Lexed text [] back → StmtRead k d (lexeme symbol.Read w ∷ lexeme symbol.Name t ∷ lexeme symbol.Name s ∷ ls) (lang.Read v n i)
        by_rest zs split none =
            let e = r.index in
            let named = target k v t name below turn in
            record {
              raw = Read t s e.raw;
              derived = subst (λ (ms : List Lexeme). IsStmt (inner d) (lexeme symbol.Read w ∷ lexeme symbol.Name t ∷ lexeme symbol.Name s ∷ ms) (Read t s e.raw)) (sym split) (reads (inner d) w t s r.x r.y r.front e.raw e.derived);
              stands = ap (λ (x : ℕ). lang.Read x (place tables (token_bytes text s)) (bound_term text locals e.raw)) (place_back v t name below)
                  ∙ ap (λ (x : ℕ). lang.Read v x (bound_term text locals e.raw)) (table_back n s table within) ∙ ap (lang.Read v n) e.stands;
              names = named;
              passes = ap (λ (ns : Names). first_failing (used_checks text ns e.raw)) named ∙ e.used;
              known = table_known n s table within;
              times = omega arith;
            }

    pub write_read : (k d n : ℕ) (i e : lang.Term) (w s : Token) (ls : List Lexeme) → token_bytes text s ≡ name_of tables n → n < length tables → (r : IndexRead k d i (term_pieces locals e) ls) → ExprRead k d r.back e →
        StmtRead k d (lexeme symbol.Write w ∷ lexeme symbol.Name s ∷ ls) (lang.Write n i e)
    write_read k d n i e w s ls table within r q =
        let f = r.index in
        record {
          raw = Write s f.raw q.raw;
          derived = subst (λ (ms : List Lexeme). IsStmt (inner d) (lexeme symbol.Write w ∷ lexeme symbol.Name s ∷ ms) (Write s f.raw q.raw)) (sym r.split) (writes (inner d) w s r.x r.y r.front r.back f.raw q.raw f.derived q.derived);
          stands = ap (λ (x : ℕ). lang.Write x (bound_term text locals f.raw) (bound_term text locals q.raw)) (table_back n s table within)
              ∙ ap (λ (x : lang.Term). lang.Write n x (bound_term text locals q.raw)) f.stands ∙ ap (lang.Write n i) q.stands;
          names = refl;
          passes = both_pass (used_checks text (take k locals) f.raw) (used_checks text (take k locals) q.raw) f.used q.used;
          known = table_known n s table within;
          times = omega arith;
        }

    pub print_read : (k d : ℕ) (e : lang.Term) (w : Token) (ls : List Lexeme) → ExprRead k d ls e → StmtRead k d (lexeme symbol.Print w ∷ ls) (lang.Print e)
    print_read k d e w ls r = record { raw = Print r.raw; derived = prints (inner d) w ls r.raw r.derived; stands = ap lang.Print r.stands; names = refl; passes = r.used; known = refl; times = omega arith }

    pub if_read : (k d : ℕ) (e : lang.Term) (a b : lang.Commands) (w : Token) (ls es rest ns ms : List Lexeme) → ls ≡ es ++ rest → rest ≡ ns ++ ms → ExprRead k d es e → BlockRead k d ns a →
        ElseRead (placed_after (length locals) a k) d ms b → StmtRead k d (lexeme symbol.If w ∷ ls) (lang.If e a b)
    if_read k d e a b w ls es rest ns ms split part r f g =
        let whole : ls ≡ es ++ (ns ++ ms) = split ∙ ap (λ (zs : List Lexeme). es ++ zs) part in
        let p = f.told in
        let q = g.told in
        let m = p.times in
        let n = q.times in
        let after : names_after text f.raw (take k locals) ≡ take (placed_after (length locals) a k) locals = p.names in
        record {
          raw = If r.raw f.raw g.raw;
          derived = subst (λ (zs : List Lexeme). IsStmt (inner d) (lexeme symbol.If w ∷ zs) (If r.raw f.raw g.raw)) (sym whole) (g.derive w es ns r.raw f.raw r.derived f.derived);
          stands = ap (λ (x : lang.Term). lang.If x (bound text tables locals f.raw) (bound text tables locals g.raw)) r.stands
              ∙ ap (λ (x : lang.Commands). lang.If e x (bound text tables locals g.raw)) p.stands ∙ ap (lang.If e a) q.stands;
          names = ap (names_after text g.raw) after ∙ q.names;
          passes = both_pass (used_checks text (take k locals) r.raw) (local_checks text (take k locals) f.raw ++ local_checks text (names_after text f.raw (take k locals)) g.raw) r.used
              (both_pass (local_checks text (take k locals) f.raw) (local_checks text (names_after text f.raw (take k locals)) g.raw) p.passes (ap (λ (ns : Names). first_failing (local_checks text ns g.raw)) after ∙ q.passes));
          known = two_known (tables_of f.raw) (tables_of g.raw) p.known q.known;
          times = omega (arith, m, n);
        }

    pub repeat_read : (k d n : ℕ) (body : lang.Commands) (w t : Token) (ls : List Lexeme) → token_bytes text t ≡ decimal n → n ≤ MOST_TIMES → BlockRead k d ls body → StmtRead k d (lexeme symbol.Repeat w ∷ lexeme symbol.Number t ∷ ls) (lang.Repeat n body)
    repeat_read k d n body w t ls is few f =
        let p = f.told in
        let m = p.times in
        let same = number_back text t n (omega (arith, few)) is in
        record {
          raw = Repeat t f.raw;
          derived = repeats (inner d) w t ls f.raw f.derived;
          stands = ap (λ (x : ℕ). lang.Repeat x (bound text tables locals f.raw)) same ∙ ap (lang.Repeat n) p.stands;
          names = p.names;
          passes = p.passes;
          known = p.known;
          times = omega (arith, m, same, few);
        }
