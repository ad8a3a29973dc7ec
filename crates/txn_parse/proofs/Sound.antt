-- What a reader found is in the grammar, or its fault is at the first token with which nothing begins; and it is found
-- again where only what follows differs.
use Rattle.std.proofs.Common.{◌≡◌, ℕ, ◌⊎◌, true, List, [], ◌∷◌, ◌++◌, Option, Some, None, Ok, Err, refl, sym, ap, ◌∙◌, subst, inl, inr}
use Rattle.std.proofs.lemmas.List.{append_assoc}
use Rattle.std.proofs.lemmas.Bool.{cond_both, cond-true, cond-false}
use Rattle.txn_text.specs.declared.kinds.Token.{Token}
use Rattle.txn_text.specs.declared.kinds.TokenKind.TheVariants as kind
use Rattle.txn_text.specs.declared.faults.FaultKind.TheVariants as fault
use Rattle.txn_text.specs.declared.faults.TextFault.{TextFault}
use Rattle.txn_text.specs.declared.faults.TextFault.TheVariants.{At}
use Rattle.txn_parse.specs.declared.symbols.Symbol.{Symbol}
use Rattle.txn_parse.specs.Symbols.{Lexeme, lexeme, is}
use Rattle.txn_parse.specs.Reading.{Found, Reader, ◌>>=◌, syntax_at, take_at}
use Rattle.txn_parse.specs.Laws.{Begins}

abbrev pub first_of : List Lexeme → Option Lexeme
first_of [] = None
first_of (l ∷ ls) = Some l

abbrev pub SameFirst : List Lexeme → List Lexeme → Type 0
SameFirst ls ms = first_of ls ≡ first_of ms

pub same_first_behind : (front ls ms : List Lexeme) → SameFirst ls ms → SameFirst (front ++ ls) (front ++ ms)
same_first_behind [] ls ms same = same
same_first_behind (x ∷ front) ls ms same = refl

abbrev pub Grammar : Type 0 → Type 1
Grammar A = List Lexeme → A → Type 0

-- a was found, in front of the rest
pub record IsFound {A J : Type 0} (Q : J → Reader A) (G : List Lexeme → A → Type 0) (ls : List Lexeme) (a : A) (rest : List Lexeme) : Type 0 where
  pub front : List Lexeme
  pub split : ls ≡ front ++ rest
  pub derived : G front a
  pub again : (j : J) (more : List Lexeme) → SameFirst rest more → Q j (front ++ more) ≡ Ok (a, more)

-- nothing begins with the tokens up to the first of the rest
pub record IsBad {A J : Type 0} (last : ℕ) (Q : J → Reader A) (H : List Lexeme → A → Type 0) (ls : List Lexeme) (f : TextFault) : Type 0 where
  pub front : List Lexeme
  pub rest : List Lexeme
  pub split : ls ≡ front ++ rest
  pub place : f ≡ syntax_at last rest
  pub begun : Begins H front
  pub again : (j : J) (more : List Lexeme) → SameFirst rest more → Q j (front ++ more) ≡ Err (syntax_at last more)

-- the token that is one too many, with which something begins
pub record IsOver {A : Type 0} (H : List Lexeme → A → Type 0) (ls : List Lexeme) (f : TextFault) : Type 0 where
  pub front : List Lexeme
  pub l : Lexeme
  pub rest : List Lexeme
  pub split : ls ≡ front ++ l ∷ rest
  pub place : (f ≡ At l.token.line fault.Deep) ⊎ (f ≡ At l.token.line fault.LongExpression)
  pub begun : Begins H (front ++ l ∷ [])

abbrev pub Answers : {A J : Type 0} → ℕ → (J → Reader A) → (List Lexeme → A → Type 0) → (List Lexeme → A → Type 0) → List Lexeme → Found A → Type 0
Answers last Q G H ls (Ok r) = IsFound Q G ls r.0 r.1
Answers last Q G H ls (Err f) = IsBad last Q H ls f ⊎ IsOver H ls f

-- nothing more is read
pub found_here : {A J : Type 0} (G : List Lexeme → A → Type 0) (a : A) (ls : List Lexeme) → G [] a → IsFound (λ (j : J) ms. Ok (a, ms)) G ls a ls
found_here G a ls g = record { front = []; split = refl; derived = g; again = λ j more same. refl }

-- a fault at the first token
pub bad_here : {A J : Type 0} (last : ℕ) (Q : J → Reader A) (G H : List Lexeme → A → Type 0) (ls : List Lexeme) → Begins H [] → ((j : J) (more : List Lexeme) → SameFirst ls more → Q j more ≡ Err (syntax_at last more)) → Answers last Q G H ls (Err (syntax_at last ls))
bad_here last Q G H ls begun again = inl (record { front = []; rest = ls; split = refl; place = refl; begun = begun; again = again })

-- a reader, and then what follows it
found_then : {A B J : Type 0} (last : ℕ) (Q : J → Reader A) (G1 H1 : List Lexeme → A → Type 0) (k' : J → A × List Lexeme → Found B) (G H : List Lexeme → B → Type 0) (ls : List Lexeme) (a : A) (rest : List Lexeme) (r : Found B) →
    (one : IsFound Q G1 ls a rest) →
    Answers last (λ j ms. k' j (a, ms)) (λ ms. G (one.front ++ ms)) (λ ms. H (one.front ++ ms)) rest r →
    Answers last (λ j ms. Q j ms >>= k' j) G H ls r
found_then last Q G1 H1 k' G H ls a rest (Ok b) one two =
    record {
      front = one.front ++ two.front;
      split = one.split ∙ ap (λ x. one.front ++ x) two.split ∙ sym (append_assoc one.front two.front b.1);
      derived = two.derived;
      again = λ j more same.
          ap (λ x. Q j x >>= k' j) (append_assoc one.front two.front more)
          ∙ ap (λ x. x >>= k' j) (one.again j (two.front ++ more) (ap first_of two.split ∙ same_first_behind two.front b.1 more same))
          ∙ two.again j more same;
    }
found_then last Q G1 H1 k' G H ls a rest (Err f) one (inl two) =
    inl (record {
      front = one.front ++ two.front;
      rest = two.rest;
      split = one.split ∙ ap (λ x. one.front ++ x) two.split ∙ sym (append_assoc one.front two.front two.rest);
      place = two.place;
      begun = (two.begun.0, two.begun.1, subst (λ x. H x two.begun.1) (sym (append_assoc one.front two.front two.begun.0)) two.begun.2);
      again = λ j more same.
          ap (λ x. Q j x >>= k' j) (append_assoc one.front two.front more)
          ∙ ap (λ x. x >>= k' j) (one.again j (two.front ++ more) (ap first_of two.split ∙ same_first_behind two.front two.rest more same))
          ∙ two.again j more same;
    })
found_then last Q G1 H1 k' G H ls a rest (Err f) one (inr two) =
    inr (record {
      front = one.front ++ two.front;
      l = two.l;
      rest = two.rest;
      split = one.split ∙ ap (λ x. one.front ++ x) two.split ∙ sym (append_assoc one.front two.front (two.l ∷ two.rest));
      place = two.place;
      begun = (two.begun.0, two.begun.1, subst (λ x. H x two.begun.1) (ap (λ x. x ++ two.begun.0) (sym (append_assoc one.front two.front (two.l ∷ []))) ∙ refl) (subst (λ x. H x two.begun.1) (sym (append_assoc one.front (two.front ++ two.l ∷ []) two.begun.0)) two.begun.2));
    })

-- some way to go on from what is in a grammar
abbrev pub GoesOn : {A B : Type 0} → (List Lexeme → A → Type 0) → (List Lexeme → B → Type 0) → Type 0
GoesOn {A} {B} H1 H = (a : A) (front : List Lexeme) → H1 front a → (more : List Lexeme) × (b : B) × H (front ++ more) b

pub then_answers : {A B J : Type 0} (last : ℕ) (Q : J → Reader A) (G1 H1 : List Lexeme → A → Type 0) (k : A × List Lexeme → Found B) (k' : J → A × List Lexeme → Found B) (G H : List Lexeme → B → Type 0) (ls : List Lexeme) (r : Found A) →
    Answers last Q G1 H1 ls r → GoesOn H1 H →
    ((a : A) (front rest : List Lexeme) → ls ≡ front ++ rest → G1 front a → Answers last (λ j ms. k' j (a, ms)) (λ ms. G (front ++ ms)) (λ ms. H (front ++ ms)) rest (k (a, rest))) →
    Answers last (λ j ms. Q j ms >>= k' j) G H ls (r >>= k)
then_answers last Q G1 H1 k k' G H ls (Ok r) one sample next =
    found_then last Q G1 H1 k' G H ls r.0 r.1 (k r) one (next r.0 one.front r.1 one.split one.derived)
then_answers last Q G1 H1 k k' G H ls (Err f) (inl one) sample next =
    let made = sample one.begun.1 (one.front ++ one.begun.0) one.begun.2 in
    inl (record {
      front = one.front;
      rest = one.rest;
      split = one.split;
      place = one.place;
      begun = (one.begun.0 ++ made.0, made.1, subst (λ x. H x made.1) (append_assoc one.front one.begun.0 made.0) made.2);
      again = λ j more same. ap (λ x. x >>= k' j) (one.again j more same);
    })
then_answers last Q G1 H1 k k' G H ls (Err f) (inr one) sample next =
    let made = sample one.begun.1 ((one.front ++ one.l ∷ []) ++ one.begun.0) one.begun.2 in
    inr (record {
      front = one.front;
      l = one.l;
      rest = one.rest;
      split = one.split;
      place = one.place;
      begun = (one.begun.0 ++ made.0, made.1, subst (λ x. H x made.1) (append_assoc (one.front ++ one.l ∷ []) one.begun.0 made.0) made.2);
    })

-- a token of one symbol
abbrev pub Is : Symbol → List Lexeme → Token → Type 0
Is s ls t = ls ≡ lexeme s t ∷ []

-- a symbol that is told by its code
abbrev pub Plain : Symbol → Type 0
Plain wanted = (x : Symbol) → is x wanted ≡ true → x ≡ wanted

pub some_token : Token
some_token = record { kind = kind.Sym; start = 0; end = 0; line = 0 }

take_found : {J : Type 0} (last : ℕ) (wanted : Symbol) (l : Lexeme) (ls : List Lexeme) → Plain wanted → is l.symbol wanted ≡ true → IsFound (λ (j : J). take_at last wanted) (Is wanted) (l ∷ ls) l.token ls
take_found last wanted l ls plain same = record {
  front = l ∷ [];
  split = refl;
  derived = ap (λ s. lexeme s l.token ∷ []) (plain l.symbol same);
  again = λ j more first. cond-true (is l.symbol wanted) _ _ same;
}

-- a list that begins with the same token
pub begins_same : (P : List Lexeme → Type 0) (l : Lexeme) (ls more : List Lexeme) → SameFirst (l ∷ ls) more → ((ms : List Lexeme) → P (l ∷ ms)) → P more
begins_same P l ls [] same each = cc
begins_same P l ls (m ∷ ms) same each = let e : l ≡ m = cc in subst (λ x. P (x ∷ ms)) e (each ms)

pub ends_same : (P : List Lexeme → Type 0) (more : List Lexeme) → SameFirst [] more → P [] → P more
ends_same P [] same p = p
ends_same P (m ∷ ms) same p = cc

pub take_answers : (J : Type 0) (last : ℕ) (wanted : Symbol) (ls : List Lexeme) → Plain wanted → Answers last (λ (j : J). take_at last wanted) (Is wanted) (Is wanted) ls (take_at last wanted ls)
take_answers J last wanted [] plain =
    bad_here last (λ (j : J). take_at last wanted) (Is wanted) (Is wanted) [] (lexeme wanted some_token ∷ [], some_token, refl)
    (λ j more same. ends_same (λ ms. take_at last wanted ms ≡ Err (syntax_at last ms)) more same refl)
take_answers J last wanted (l ∷ ls) plain =
    cond_both (is l.symbol wanted) (Ok (l.token, ls)) (Err (syntax_at last (l ∷ ls))) (Answers last (λ (j : J). take_at last wanted) (Is wanted) (Is wanted) (l ∷ ls))
    (take_found last wanted l ls plain)
    (λ other. bad_here last (λ (j : J). take_at last wanted) (Is wanted) (Is wanted) (l ∷ ls) (lexeme wanted some_token ∷ [], some_token, refl)
    (λ j more same. begins_same (λ ms. take_at last wanted ms ≡ Err (syntax_at last ms)) l ls more same (λ ms. cond-false (is l.symbol wanted) _ _ other)))

-- a token, and then what follows it
pub take_then : {B J : Type 0} (last : ℕ) (wanted : Symbol) (k : Token × List Lexeme → Found B) (k' : J → Token × List Lexeme → Found B) (G H : List Lexeme → B → Type 0) (ls : List Lexeme) → Plain wanted →
    ((t : Token) → (more : List Lexeme) × (b : B) × H (lexeme wanted t ∷ more) b) →
    ((t : Token) (rest : List Lexeme) → Answers last (λ j ms. k' j (t, ms)) (λ ms. G (lexeme wanted t ∷ ms)) (λ ms. H (lexeme wanted t ∷ ms)) rest (k (t, rest))) →
    Answers last (λ j ms. take_at last wanted ms >>= k' j) G H ls (take_at last wanted ls >>= k)
take_then {B} {J} last wanted k k' G H ls plain sample next =
    then_answers last (λ (j : J). take_at last wanted) (Is wanted) (Is wanted) k k' G H ls (take_at last wanted ls) (take_answers J last wanted ls plain)
    (λ t front is. let made = sample t in (made.0, made.1, subst (λ x. H (x ++ made.0) made.1) (sym is) made.2))
    (λ t front rest split is. subst (λ x. Answers last (λ j ms. k' j (t, ms)) (λ ms. G (x ++ ms)) (λ ms. H (x ++ ms)) rest (k (t, rest))) (sym is) (next t rest))

-- a reader behind a token that chose it
pub cons_answers : {A J : Type 0} (last : ℕ) (Q Q1 : J → Reader A) (G G1 H H1 : List Lexeme → A → Type 0) (l : Lexeme) (ls : List Lexeme) (r : Found A) →
    ((j : J) (ms : List Lexeme) → Q j (l ∷ ms) ≡ Q1 j ms) → ((ms : List Lexeme) (a : A) → G1 ms a → G (l ∷ ms) a) → ((ms : List Lexeme) (a : A) → H1 ms a → H (l ∷ ms) a) →
    Answers last Q1 G1 H1 ls r → Answers last Q G H (l ∷ ls) r
cons_answers last Q Q1 G G1 H H1 l ls (Ok r) chosen g h one = record {
  front = l ∷ one.front;
  split = ap (λ x. l ∷ x) one.split;
  derived = g one.front r.0 one.derived;
  again = λ j more same. chosen j (one.front ++ more) ∙ one.again j more same;
}
cons_answers last Q Q1 G G1 H H1 l ls (Err f) chosen g h (inl one) = inl (record {
  front = l ∷ one.front;
  rest = one.rest;
  split = ap (λ x. l ∷ x) one.split;
  place = one.place;
  begun = (one.begun.0, one.begun.1, h (one.front ++ one.begun.0) one.begun.1 one.begun.2);
  again = λ j more same. chosen j (one.front ++ more) ∙ one.again j more same;
})
cons_answers last Q Q1 G G1 H H1 l ls (Err f) chosen g h (inr one) = inr (record {
  front = l ∷ one.front;
  l = one.l;
  rest = one.rest;
  split = ap (λ x. l ∷ x) one.split;
  place = one.place;
  begun = (one.begun.0, one.begun.1, h ((one.front ++ one.l ∷ []) ++ one.begun.0) one.begun.1 one.begun.2);
})

-- the same reader by another name, and grammars that allow more
pub answers_as : {A J : Type 0} (last : ℕ) (Q Q1 : J → Reader A) (G G1 H H1 : List Lexeme → A → Type 0) (ls : List Lexeme) (r : Found A) →
    ((j : J) (ms : List Lexeme) → Q j ms ≡ Q1 j ms) → ((ms : List Lexeme) (a : A) → G1 ms a → G ms a) → ((ms : List Lexeme) (a : A) → H1 ms a → H ms a) →
    Answers last Q1 G1 H1 ls r → Answers last Q G H ls r
answers_as last Q Q1 G G1 H H1 ls (Ok r) same g h one = record {
  front = one.front;
  split = one.split;
  derived = g one.front r.0 one.derived;
  again = λ j more first. same j (one.front ++ more) ∙ one.again j more first;
}
answers_as last Q Q1 G G1 H H1 ls (Err f) same g h (inl one) = inl (record {
  front = one.front;
  rest = one.rest;
  split = one.split;
  place = one.place;
  begun = (one.begun.0, one.begun.1, h (one.front ++ one.begun.0) one.begun.1 one.begun.2);
  again = λ j more first. same j (one.front ++ more) ∙ one.again j more first;
})
answers_as last Q Q1 G G1 H H1 ls (Err f) same g h (inr one) = inr (record {
  front = one.front;
  l = one.l;
  rest = one.rest;
  split = one.split;
  place = one.place;
  begun = (one.begun.0, one.begun.1, h ((one.front ++ one.l ∷ []) ++ one.begun.0) one.begun.1 one.begun.2);
})
