-- What the tokens of lines say, one line behind the other.
use Rattle.std.proofs.Common.{◌≡◌, ℕ, true, cond, List, [], ◌∷◌, ◌++◌, Option, Some, None, Ok, refl, sym, ap, ◌∙◌, subst}
use Rattle.std.proofs.lemmas.List.{append_assoc, append-nil}
use Rattle.txn_text.specs.declared.kinds.Token.{Token}
use Rattle.txn_parse.specs.declared.symbols.Symbol.{Symbol}
use Rattle.txn_parse.specs.Symbols.{Lexeme, lexeme, is}
use Rattle.txn_parse.specs.Counts.{counted, and_then}
use Rattle.txn_parse.specs.Binding.{Check, first_failing}
use Rattle.txn_parse.proofs.CountsLemmas.{counted-append}
use Rattle.txn_parse.proofs.NamesLemmas.{none_first}
use Rattle.script.specs.Items.{Item}
use Rattle.script.specs.Rules.{Rule, One, Both, Into, Many, IsMany, no_item, one_more, Derives}
use Rattle.script.specs.Grammar.{only, token, behind, single, then_items}
use Rattle.script.specs.Meaning.{Said, after, after_all}
use Rattle.script.specs.Checks.{checks, all_checks}

-- derivations, from their parts
pub one_derived : {A : Type 0} (choose : Symbol → Option A) (sample y : Symbol) (t : Token) (a : A) → choose y ≡ Some a → Derives (One choose sample) (lexeme y t ∷ []) (a, t)
one_derived choose sample y t a is = record { symbol = y; alone = refl; chosen = is }

pub into_derived : {A B : Type 0} (make : A → B) (r : Rule A) (ls : List Lexeme) (a : A) → Derives r ls a → Derives (Into make r) ls (make a)
into_derived make r ls a d = record { of = a; derived = d; made = refl }

pub both_derived : {A B : Type 0} (r : Rule A) (q : Rule B) (ls ms : List Lexeme) (a : A) (b : B) → Derives r ls a → Derives q ms b → Derives (Both r q) (ls ++ ms) (a, b)
both_derived r q ls ms a b d e = record { front = ls; back = ms; split = refl; first = d; second = e }

-- a token that is the wanted one
pub token_derived : (y : Symbol) (t : Token) → is y y ≡ true → Derives (token y) (lexeme y t ∷ []) t
unfolding token
token_derived y t same = into_derived (λ x. x.1) (One (only y) y) (lexeme y t ∷ []) (tt, t) (one_derived (only y) y y t tt (ap (λ b. cond b (Some tt) None) same))

pub behind_derived : {A : Type 0} (y : Symbol) (r : Rule A) (t : Token) (ls : List Lexeme) (a : A) → is y y ≡ true → Derives r ls a → Derives (behind y r) (lexeme y t ∷ ls) a
behind_derived y r t ls a same d = into_derived (λ x. x.1) (Both (token y) r) (lexeme y t ∷ ls) (t, a) (both_derived (token y) r (lexeme y t ∷ []) ls t a (token_derived y t same) d)

-- one more list of items behind another
pub many_both : {A : Type 0} (G : List Lexeme → A → Type 0) {ls : List Lexeme} {xs : List A} → IsMany G ls xs → (ms : List Lexeme) (ys : List A) → IsMany G ms ys → IsMany G (ls ++ ms) (xs ++ ys)
many_both G no_item ms ys second = second
many_both G (one_more ls ms a rest d more) ns ys second =
    subst (λ (zs : List Lexeme). IsMany G zs (a ∷ (rest ++ ys))) (sym (append_assoc ls ms ns)) (one_more ls (ms ++ ns) a (rest ++ ys) d (many_both G more ns ys second))

pub after_both : (text : List ℕ) (s : Said) (xs ys : List Item) → after_all text s (xs ++ ys) ≡ after_all text (after_all text s xs) ys
after_both text s [] ys = refl
after_both text s (x ∷ xs) ys = after_both text (after text s x) xs ys

pub checks_both : (text : List ℕ) (s : Said) (xs ys : List Item) → all_checks text s (xs ++ ys) ≡ all_checks text s xs ++ all_checks text (after_all text s xs) ys
checks_both text s [] ys = refl
checks_both text s (x ∷ xs) ys =
    ap (λ (cs : List Check). checks text s x ++ cs) (checks_both text (after text s x) xs ys)
    ∙ sym (append_assoc (checks text s x) (all_checks text (after text s x) xs) (all_checks text (after_all text (after text s x) xs) ys))

-- tokens of which none is past a limit, whatever run of tokens stands before them, where so many blocks are open
abbrev pub IsCalm : ℕ → List Lexeme → Type 0
IsCalm d ls = (n : ℕ) → (m : ℕ) × (counted d n ls ≡ Ok (d, m))

pub calm_none : (d : ℕ) → IsCalm d []
calm_none d n = (n, refl)

pub calm_both : (d : ℕ) (xs ys : List Lexeme) → IsCalm d xs → IsCalm d ys → IsCalm d (xs ++ ys)
calm_both d xs ys first second n =
    let f = first n in
    let s = second f.0 in
    (s.0, counted-append xs ys d n ∙ ap (λ r. and_then r (λ c. counted c.0 c.1 ys)) f.1 ∙ s.1)

-- the tokens are items by this rule, which pass their checks behind what is said, and say what is said then
pub record Says (text : List ℕ) (r : Rule (List Item)) (ls : List Lexeme) (s s' : Said) : Type 0 where
  pub items : List Item
  pub derived : Derives r ls items
  pub passes : first_failing (all_checks text s items) ≡ None
  pub says : after_all text s items ≡ s'
  pub calm : IsCalm 0 ls

module _ (text : List ℕ) where
  pub says_none : (r : Rule Item) (s : Said) → Says text (Many r) [] s s
  says_none r s = record { items = []; derived = no_item; passes = refl; says = refl; calm = calm_none 0 }

  pub says_single : (r : Rule Item) (ls : List Lexeme) (s s' : Said) (i : Item) → Derives r ls i → first_failing (checks text s i) ≡ None → after text s i ≡ s' → IsCalm 0 ls → Says text (Into single r) ls s s'
  says_single r ls s s' i d passes says calm =
      record { items = i ∷ []; derived = into_derived single r ls i d; passes = none_first (checks text s i) [] passes; says = says; calm = calm }

  pub says_one : (r : Rule Item) (ls : List Lexeme) (s s' : Said) (i : Item) → Derives r ls i → first_failing (checks text s i) ≡ None → after text s i ≡ s' → IsCalm 0 ls → Says text (Many r) ls s s'
  says_one r ls s s' i d passes says calm = record {
    items = i ∷ [];
    derived = subst (λ (ms : List Lexeme). IsMany (Derives r) ms (i ∷ [])) (append-nil ls) (one_more ls [] i [] d no_item);
    passes = none_first (checks text s i) [] passes;
    says = says;
    calm = calm;
  }

  -- items of two rules, and those of one rule, one behind the other
  module _ {r q : Rule (List Item)} {ls ms : List Lexeme} {s s' s'' : Said} (x : Says text r ls s s') (y : Says text q ms s' s'') where
    both_pass : first_failing (all_checks text s (x.items ++ y.items)) ≡ None
    both_pass =
        ap first_failing (checks_both text s x.items y.items) ∙ none_first (all_checks text s x.items) (all_checks text (after_all text s x.items) y.items) x.passes
        ∙ ap (λ (z : Said). first_failing (all_checks text z y.items)) x.says ∙ y.passes

    both_say : after_all text s (x.items ++ y.items) ≡ s''
    both_say = after_both text s x.items y.items ∙ ap (λ (z : Said). after_all text z y.items) x.says ∙ y.says

    pub says_then : Says text (then_items r q) (ls ++ ms) s s''
    says_then = record {
      items = x.items ++ y.items;
      derived = into_derived (λ x. x.0 ++ x.1) (Both r q) (ls ++ ms) (x.items, y.items) (both_derived r q ls ms x.items y.items x.derived y.derived);
      passes = both_pass;
      says = both_say;
      calm = calm_both 0 ls ms x.calm y.calm;
    }

  pub says_both : (r : Rule Item) (ls ms : List Lexeme) (s s' s'' : Said) → Says text (Many r) ls s s' → Says text (Many r) ms s' s'' → Says text (Many r) (ls ++ ms) s s''
  says_both r ls ms s s' s'' x y = record {
    items = x.items ++ y.items;
    derived = many_both (Derives r) x.derived ms y.items y.derived;
    passes = both_pass x y;
    says = both_say x y;
    calm = calm_both 0 ls ms x.calm y.calm;
  }
