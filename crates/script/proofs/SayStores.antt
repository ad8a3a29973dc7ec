-- What the lines of tables and of first values say.
use Rattle.std.proofs.Common.{◌≡◌, ℕ, suc, ◌<◌, ◌≤◌, ◌||◌, Bool, true, false, List, [], ◌∷◌, ◌++◌, map, length, refl, sym, ap, ◌∙◌, subst, arith, inl, inr, ℤ, pos, negsuc, neg_ℤ, nat_le}
use Rattle.std.specs.Prelude.{codes}
use Rattle.std.specs.List.{AllByRecursion, IsDistinct}
use Rattle.std.specs.Str.{bytes_eq}
use Rattle.std.proofs.lemmas.Bool.Decides.{nat_tests}
use Rattle.std.proofs.lemmas.List.{append_assoc, append-nil, length-append}
use Rattle.morty_base.specs.declared.names.Key.{Key}
use Rattle.morty_base.specs.Names.{same_key}
use Rattle.txn_text.specs.declared.faults.FaultKind.TheVariants as fault
use Rattle.txn_text.specs.declared.kinds.Token.{Token}
use Rattle.txn_text.specs.Tokens.{token_bytes}
use Rattle.txn_lang.specs.declared.tree.BinOp.TheVariants as op
use Rattle.txn_parse.specs.declared.symbols.Symbol.TheVariants as symbol
use Rattle.txn_parse.specs.Symbols.{words, marks, Lexeme, lexeme}
use Rattle.txn_parse.specs.Binding.{Names, is_known, is_unknown, place}
use Rattle.txn_print.specs.Piece.{Symbol as Mark}
use Rattle.txn_print.specs.Written.{IsWritten}
use Rattle.txn_print.proofs.LexedLemmas.{Lexed, none, one, Parts, parts}
use Rattle.txn_print.proofs.LinesLaid.{joined}
use Rattle.txn_print.proofs.PlacesLemmas.{name_of, new_name, place_of, known_here}
use Rattle.txn_print.proofs.ReadTerms.{number_back, name_spelled}
use Rattle.script.specs.declared.limits.TheConstants.{MOST_TABLES}
use Rattle.script.specs.declared.items.Signed.{Signed}
use Rattle.script.specs.declared.items.Stated.{Stated}
use Rattle.script.specs.declared.setup.First.{First as FirstValue}
use Rattle.script.specs.Items.{Table, First}
use Rattle.script.specs.Rules.{One, Both, Many, Derives}
use Rattle.script.specs.Grammar.{token, behind, number, name, minus_of, signed as signed_rule, table, first, store}
use Rattle.script.specs.Meaning.{Script, Said, signed, first_of}
use Rattle.script.specs.Checks.{check, has_first}
use Rattle.script.specs.Canonical.{table_line, signed_pieces, first_line}
use Rattle.script.specs.Sayable.{IsFirst}
use Rattle.script.proofs.SayLemmas.{Says, one_derived, into_derived, both_derived, token_derived, behind_derived, IsCalm, calm_both, says_none, says_one, says_both}
use Rattle.script.proofs.SaySettings.{pass, none_of}

module _ (text : List ℕ) (base : Script) (st : Stated) where
  -- what is said where these are the tables
  abbrev pub with_tables : Names → Said
  with_tables names = record { script = record base { tables = names }; stated = st }

  table_says : (before : Names) (x : List ℕ) (ls : List Lexeme) → is_known before x ≡ false → length before < MOST_TABLES → Lexed text (table_line x) ls → Says text (Many store) ls (with_tables before) (with_tables (before ++ x ∷ []))
  unfolding words store table
  table_says before x zs new few (one p w ps ps' b (one q t qs qs' b' none)) =
      says_one text store (lexeme symbol.Table w ∷ lexeme symbol.Name t ∷ []) (with_tables before) (with_tables (before ++ x ∷ [])) (Table t)
      (inl (into_derived Table (behind symbol.Table name) (lexeme symbol.Table w ∷ lexeme symbol.Name t ∷ []) t
      (behind_derived symbol.Table name w (lexeme symbol.Name t ∷ []) t refl (token_derived symbol.Name t refl))))
      (pass (is_known before (token_bytes text t)) t fault.RepeatedTable (check (nat_le MOST_TABLES (length before)) t fault.TooManyTables ∷ []) (ap (is_known before) b' ∙ new)
      (pass (nat_le MOST_TABLES (length before)) t fault.TooManyTables [] (grind (arith, nat_tests)) refl))
      (ap (λ (n : List ℕ). with_tables (before ++ n ∷ [])) b') (λ n. (1, refl))

  pub tables_say : (names before : Names) (ls : List Lexeme) → IsDistinct bytes_eq (before ++ names) → length (before ++ names) ≤ MOST_TABLES → Lexed text (joined (map table_line names)) ls →
      Says text (Many store) ls (with_tables before) (with_tables (before ++ names))
  tables_say [] before zs distinct few none = subst (λ (ns : Names). Says text (Many store) [] (with_tables before) (with_tables ns)) (sym (append-nil before)) (says_none text store (with_tables before))
  tables_say (x ∷ names) before ls distinct few l =
      let p = parts text (table_line x) (joined (map table_line names)) l in
      let len = length-append before (x ∷ names) in
      let more : before ++ x ∷ [] ++ names ≡ before ++ (x ∷ names) = append_assoc before (x ∷ []) names in
      let head = table_says before x p.front (new_name before x names distinct) (omega (arith, few, len)) p.first in
      let rest = tables_say names (before ++ x ∷ []) p.back (subst (IsDistinct bytes_eq) (sym more) distinct) (subst (λ (ns : Names). length ns ≤ MOST_TABLES) (sym more) few) p.second in
      subst (λ (ms : List Lexeme). Says text (Many store) ms (with_tables before) (with_tables (before ++ x ∷ names))) (sym p.split)
      (subst (λ (ns : Names). Says text (Many store) (p.front ++ p.back) (with_tables before) (with_tables ns)) more
      (says_both text store p.front p.back (with_tables before) (with_tables (before ++ x ∷ [])) (with_tables (before ++ x ∷ [] ++ names)) head rest))

  -- a number with its sign
  record SignedRead (ls : List Lexeme) (z : ℤ) : Type 0 where
    raw : Signed
    derived : Derives signed_rule ls raw
    same : signed text raw ≡ z

  signed_read : (z : ℤ) → IsWritten z → (ls : List Lexeme) → Lexed text (signed_pieces z) ls → SignedRead ls z
  unfolding words marks signed_rule
  signed_read (pos n) small zs (one p t ps ps' b none) = record {
    raw = record { minus = false; digits = t };
    derived = inr (into_derived (λ t. record { minus = false; digits = t }) number (lexeme symbol.Number t ∷ []) t (token_derived symbol.Number t refl));
    same = ap pos (number_back text t n small b);
  }
  signed_read (negsuc n) small zs (one p w ps ps' b (one q t qs qs' b' none)) = record {
    raw = record { minus = true; digits = t };
    derived = inl (into_derived (λ x. record { minus = true; digits = x.1 }) (Both (One minus_of (symbol.Op op.Sub)) number) (lexeme (symbol.Op op.Sub) w ∷ lexeme symbol.Number t ∷ []) ((tt, w), t)
        (both_derived (One minus_of (symbol.Op op.Sub)) number (lexeme (symbol.Op op.Sub) w ∷ []) (lexeme symbol.Number t ∷ []) (tt, w) t (one_derived minus_of (symbol.Op op.Sub) (symbol.Op op.Sub) w tt refl) (token_derived symbol.Number t refl)));
    same = ap (λ (m : ℕ). neg_ℤ (pos m)) (number_back text t (suc n) small b');
  }

  -- a first value in its line, where these are the tables
  module _ (tables : Names) (distinct : IsDistinct bytes_eq tables) where
    abbrev pub with_firsts : List FirstValue → Said
    with_firsts fs = record { script = record base { tables = tables; firsts = fs }; stated = st }

    or_none : (a b : Bool) → a ≡ false → b ≡ false → (a || b) ≡ false
    or_none a b is also = ap (λ (x : Bool). x || b) is ∙ also

    all_front : {A : Type 0} (P : A → Type 0) (key : FirstValue → A) (xs : List FirstValue) (y : FirstValue) (ys : List FirstValue) → AllByRecursion P (map key (xs ++ y ∷ ys)) → P (key y)
    all_front P key [] y ys all = all.0
    all_front P key (x ∷ xs) y ys all = all_front P key xs y ys all.1

    new_key : (xs : List FirstValue) (y : FirstValue) (ys : List FirstValue) → IsDistinct same_key (map (λ f. f.key) (xs ++ y ∷ ys)) → has_first y.key xs ≡ false
    unfolding IsDistinct
    new_key [] y ys d = refl
    new_key (x ∷ xs) y ys d = or_none (same_key x.key y.key) (has_first y.key xs) (all_front (λ (k : Key). same_key x.key k ≡ false) (λ f. f.key) xs y ys d.0) (new_key xs y ys d.1)

    calm_signed : (z : ℤ) (ls : List Lexeme) → Lexed text (signed_pieces z) ls → (y : Token) → IsCalm 0 (lexeme symbol.OpenIndex y ∷ ls) × IsCalm 0 (lexeme symbol.CloseIndex y ∷ ls)
    unfolding words marks
    calm_signed (pos n) zs (one p t ps ps' b none) y = ((λ n. (1, refl)), (λ n. (1, refl)))
    calm_signed (negsuc n) zs (one p w ps ps' b (one q t qs qs' b' none)) y = ((λ n. (2, refl)), (λ n. (2, refl)))

    -- the line of a first value: its tokens, one behind the other
    record FirstRead (f : FirstValue) (ls : List Lexeme) : Type 0 where
      word : Token
      table_name : Token
      open_index : Token
      close_index : Token
      front : List Lexeme
      back : List Lexeme
      split : ls ≡ lexeme symbol.First word ∷ lexeme symbol.Name table_name ∷ lexeme symbol.OpenIndex open_index ∷ (front ++ lexeme symbol.CloseIndex close_index ∷ back)
      named : token_bytes text table_name ≡ name_of tables f.key.table
      index : Lexed text (signed_pieces f.key.index) front
      value : Lexed text (signed_pieces f.value) back

    first_read : (f : FirstValue) (ls : List Lexeme) → Lexed text (first_line tables f) ls → FirstRead f ls
    unfolding words marks
    first_read f zs (one p w ps ps' b (one q t qs qs' b' (one r x rs ls b'' l))) = by_parts (parts text (signed_pieces f.key.index) (Mark (codes "]") ∷ signed_pieces f.value) l)
      where
        by_back : (front back : List Lexeme) → ls ≡ front ++ back → Lexed text (signed_pieces f.key.index) front → Lexed text (Mark (codes "]") ∷ signed_pieces f.value) back →
            FirstRead f (lexeme symbol.First w ∷ lexeme symbol.Name t ∷ lexeme symbol.OpenIndex x ∷ ls)
        by_back front back split index (one o y os os' c value) = record {
          word = w;
          table_name = t;
          open_index = x;
          close_index = y;
          front = front;
          back = os';
          split = ap (λ (ms : List Lexeme). lexeme symbol.First w ∷ lexeme symbol.Name t ∷ lexeme symbol.OpenIndex x ∷ ms) split;
          named = name_spelled text tables f.key.table t b';
          index = index;
          value = value;
        }

        by_parts : Parts text (signed_pieces f.key.index) (Mark (codes "]") ∷ signed_pieces f.value) ls → FirstRead f (lexeme symbol.First w ∷ lexeme symbol.Name t ∷ lexeme symbol.OpenIndex x ∷ ls)
        by_parts p = by_back p.front p.back p.split p.first p.second

    first_derived : (w t x y : Token) (front back : List Lexeme) (i v : Signed) → Derives signed_rule front i → Derives signed_rule back v →
        Derives store (lexeme symbol.First w ∷ lexeme symbol.Name t ∷ lexeme symbol.OpenIndex x ∷ (front ++ lexeme symbol.CloseIndex y ∷ back)) (First w t i v)
    unfolding store first
    first_derived w t x y front back i v di dv =
        let inner = both_derived (behind symbol.OpenIndex signed_rule) (behind symbol.CloseIndex signed_rule) (lexeme symbol.OpenIndex x ∷ front) (lexeme symbol.CloseIndex y ∷ back) i v
        (behind_derived symbol.OpenIndex signed_rule x front i refl di) (behind_derived symbol.CloseIndex signed_rule y back v refl dv) in
        let middle = both_derived name (Both (behind symbol.OpenIndex signed_rule) (behind symbol.CloseIndex signed_rule)) (lexeme symbol.Name t ∷ []) (lexeme symbol.OpenIndex x ∷ (front ++ lexeme symbol.CloseIndex y ∷ back)) t (i, v)
        (token_derived symbol.Name t refl) inner in
        let whole = both_derived (token symbol.First) (Both name (Both (behind symbol.OpenIndex signed_rule) (behind symbol.CloseIndex signed_rule))) (lexeme symbol.First w ∷ [])
        (lexeme symbol.Name t ∷ lexeme symbol.OpenIndex x ∷ (front ++ lexeme symbol.CloseIndex y ∷ back)) w (t, (i, v)) (token_derived symbol.First w refl) middle in
        inr (into_derived (λ x. First x.0 x.1.0 x.1.1.0 x.1.1.1) (Both (token symbol.First) (Both name (Both (behind symbol.OpenIndex signed_rule) (behind symbol.CloseIndex signed_rule))))
        (lexeme symbol.First w ∷ lexeme symbol.Name t ∷ lexeme symbol.OpenIndex x ∷ (front ++ lexeme symbol.CloseIndex y ∷ back)) (w, (t, (i, v))) whole)

    first_says : (before : List FirstValue) (f : FirstValue) (ls : List Lexeme) → IsFirst (length tables) f → has_first f.key before ≡ false → Lexed text (first_line tables f) ls →
        Says text (Many store) ls (with_firsts before) (with_firsts (before ++ f ∷ []))
    first_says before f ls of new l =
        let r = first_read f ls l in
        let i = signed_read f.key.index of.index r.front r.index in
        let v = signed_read f.value of.value r.back r.value in
        let known = ap (is_known tables) r.named ∙ known_here tables distinct f.key.table of.known in
        let here : place tables (token_bytes text r.table_name) ≡ f.key.table = ap (place tables) r.named ∙ place_of tables distinct f.key.table of.known in
        let same : first_of text tables r.table_name i.raw v.raw ≡ f =
        ap (λ (n : ℕ). let g : FirstValue = record { key = record { table = n; index = signed text i.raw }; value = signed text v.raw } in g) here
        ∙ ap (λ (z : ℤ). let g : FirstValue = record { key = record { table = f.key.table; index = z }; value = signed text v.raw } in g) i.same
        ∙ ap (λ (z : ℤ). let g : FirstValue = record { key = f.key; value = z } in g) v.same in
        let calm = calm_both 0 (lexeme symbol.First r.word ∷ lexeme symbol.Name r.table_name ∷ lexeme symbol.OpenIndex r.open_index ∷ r.front) (lexeme symbol.CloseIndex r.close_index ∷ r.back)
        (λ n. (calm_signed f.key.index r.front r.index r.open_index).0 1) (calm_signed f.value r.back r.value r.close_index).1 in
        subst (λ (ms : List Lexeme). Says text (Many store) ms (with_firsts before) (with_firsts (before ++ f ∷ []))) (sym r.split)
        (says_one text store (lexeme symbol.First r.word ∷ lexeme symbol.Name r.table_name ∷ lexeme symbol.OpenIndex r.open_index ∷ (r.front ++ lexeme symbol.CloseIndex r.close_index ∷ r.back))
        (with_firsts before) (with_firsts (before ++ f ∷ [])) (First r.word r.table_name i.raw v.raw)
        (first_derived r.word r.table_name r.open_index r.close_index r.front r.back i.raw v.raw i.derived v.derived)
        (pass (is_unknown text tables r.table_name) r.table_name fault.UnknownTable (check (has_first (first_of text tables r.table_name i.raw v.raw).key before) r.word fault.RepeatedFirst ∷ []) (none_of (is_known tables (token_bytes text r.table_name)) known)
        (pass (has_first (first_of text tables r.table_name i.raw v.raw).key before) r.word fault.RepeatedFirst [] (ap (λ (g : FirstValue). has_first g.key before) same ∙ new) refl))
        (ap (λ (g : FirstValue). with_firsts (before ++ g ∷ [])) same) calm)

    pub firsts_say : (fs before : List FirstValue) (ls : List Lexeme) → AllByRecursion (IsFirst (length tables)) fs → IsDistinct same_key (map (λ f. f.key) (before ++ fs)) → Lexed text (joined (map (first_line tables) fs)) ls →
        Says text (Many store) ls (with_firsts before) (with_firsts (before ++ fs))
    firsts_say [] before zs each distinct none = subst (λ (gs : List FirstValue). Says text (Many store) [] (with_firsts before) (with_firsts gs)) (sym (append-nil before)) (says_none text store (with_firsts before))
    firsts_say (f ∷ fs) before ls each keys l =
        let p = parts text (first_line tables f) (joined (map (first_line tables) fs)) l in
        let more : before ++ f ∷ [] ++ fs ≡ before ++ (f ∷ fs) = append_assoc before (f ∷ []) fs in
        let head = first_says before f p.front each.0 (new_key before f fs keys) p.first in
        let rest = firsts_say fs (before ++ f ∷ []) p.back each.1 (subst (λ (gs : List FirstValue). IsDistinct same_key (map (λ f. f.key) gs)) (sym more) keys) p.second in
        subst (λ (ms : List Lexeme). Says text (Many store) ms (with_firsts before) (with_firsts (before ++ f ∷ fs))) (sym p.split)
        (subst (λ (gs : List FirstValue). Says text (Many store) (p.front ++ p.back) (with_firsts before) (with_firsts gs)) more
        (says_both text store p.front p.back (with_firsts before) (with_firsts (before ++ f ∷ [])) (with_firsts (before ++ f ∷ [] ++ fs)) head rest))
