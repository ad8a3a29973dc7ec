-- Where tokens are past a limit, one is the first.
use Rattle.std.proofs.Common.{◌≡◌, ℕ, ◌+◌, cond, ltb, List, [], ◌∷◌, ◌++◌, length, Ok, Err, refl, sym, ap, ◌∙◌}
use Rattle.std.proofs.lemmas.Bool.{cond_both}
use Rattle.txn_text.specs.declared.faults.FaultKind.{FaultKind}
use Rattle.txn_text.specs.declared.faults.FaultKind.TheVariants as fault
use Rattle.txn_lang.specs.declared.limits.TheConstants.{DEEPEST_BLOCK, LONGEST_EXPRESSION}
use Rattle.txn_parse.specs.declared.symbols.Symbol.{Symbol}
use Rattle.txn_parse.specs.declared.symbols.Symbol.TheVariants as symbol
use Rattle.txn_parse.specs.Symbols.{Lexeme}
use Rattle.txn_parse.specs.Counts.{in_expression, one_counted, Counts, and_then, counted}
use Rattle.txn_parse.specs.Faults.{IsFirstPast}

-- the token that is past is the one that was looked at
one_past : (o n : ℕ) (l : Lexeme) (s : Symbol) (e : Lexeme × FaultKind) → one_counted o n l s ≡ Err e → e.0 ≡ l
one_past o n l symbol.OpenBlock e =
    cond_both (ltb o DEEPEST_BLOCK) (Ok (o + 1, 0)) (Err (l, fault.Deep)) (λ r. r ≡ Err e → e.0 ≡ l)
    (λ _ is. cc) (λ _ is. let d : (l, fault.Deep) ≡ e = cc in sym (ap (λ (x : Lexeme × FaultKind). x.0) d))
one_past o n l symbol.CloseBlock e = λ is. cc
one_past o n l s e =
    cond_both (in_expression s) (cond (ltb n LONGEST_EXPRESSION) (Ok (o, n + 1)) (Err (l, fault.LongExpression))) (Ok (o, 0)) (λ r. r ≡ Err e → e.0 ≡ l)
    (λ _. cond_both (ltb n LONGEST_EXPRESSION) (Ok (o, n + 1)) (Err (l, fault.LongExpression)) (λ r. r ≡ Err e → e.0 ≡ l)
    (λ _ is. cc) (λ _ is. let d : (l, fault.LongExpression) ≡ e = cc in sym (ap (λ (x : Lexeme × FaultKind). x.0) d)))
    (λ _ is. cc)

-- where it stands, behind other counts
record Past (o n : ℕ) (ls : List Lexeme) (e : Lexeme × FaultKind) : Type 0 where
  front : List Lexeme
  rest : List Lexeme
  split : ls ≡ front ++ e.0 ∷ rest
  counts : ℕ × ℕ
  within : counted o n front ≡ Ok counts
  past : counted o n (front ++ e.0 ∷ []) ≡ Err e

past_by : (o n : ℕ) (l : Lexeme) (ls : List Lexeme) (e : Lexeme × FaultKind) (r : Counts) → ((o n : ℕ) → counted o n ls ≡ Err e → Past o n ls e) → one_counted o n l l.symbol ≡ r → and_then r (λ c. counted c.0 c.1 ls) ≡ Err e → Past o n (l ∷ ls) e
past_by o n l ls e (Ok c) behind one is =
    let later = behind c.0 c.1 is in
    record {
      front = l ∷ later.front;
      rest = later.rest;
      split = ap (λ x. l ∷ x) later.split;
      counts = later.counts;
      within = ap (λ r. and_then r (λ c. counted c.0 c.1 later.front)) one ∙ later.within;
      past = ap (λ r. and_then r (λ c. counted c.0 c.1 (later.front ++ e.0 ∷ []))) one ∙ later.past;
    }
past_by o n l ls e (Err d) behind one is =
    let same : d ≡ e = cc in
    let it : e.0 ≡ l = sym (ap (λ (x : Lexeme × FaultKind). x.0) same) ∙ one_past o n l l.symbol d one in
    record {
      front = [];
      rest = ls;
      split = ap (λ x. x ∷ ls) (sym it);
      counts = (o, n);
      within = refl;
      past = ap (λ (x : Lexeme). and_then (one_counted o n x x.symbol) (λ c. counted c.0 c.1 [])) it ∙ ap (λ r. and_then r (λ c. counted c.0 c.1 [])) one ∙ is;
    }

past_of : (o n : ℕ) (ls : List Lexeme) (e : Lexeme × FaultKind) → counted o n ls ≡ Err e → Past o n ls e
past_of o n [] e is = cc
past_of o n (l ∷ ls) e is = past_by o n l ls e (one_counted o n l l.symbol) (λ p m. past_of p m ls e) refl is

pub first_past_of : (ls : List Lexeme) (e : Lexeme × FaultKind) → counted 0 0 ls ≡ Err e → (at : ℕ) × IsFirstPast ls at e.1
first_past_of ls e is =
    let p = past_of 0 0 ls e is in
    (length p.front, record { front = p.front; token = e.0; rest = p.rest; split = p.split; place = refl; within = (p.counts, p.within); past = p.past })
