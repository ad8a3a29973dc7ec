-- What a reader found is derived, or its fault is at the first token with which nothing derived goes on; and it is found
-- again where only what follows differs.
use Rattle.std.proofs.Common.{◌≡◌, ℕ, Bool, List, [], ◌∷◌, ◌++◌, Ok, Err, refl, sym, ap, ◌∙◌, subst}
use Rattle.std.proofs.lemmas.List.{append_assoc}
use Rattle.txn_text.specs.declared.faults.TextFault.{TextFault}
use Rattle.txn_parse.specs.declared.symbols.Symbol.{Symbol}
use Rattle.txn_parse.specs.Symbols.{Lexeme}
use Rattle.txn_parse.specs.Reading.{Found, Reader, ◌>>=◌, syntax_at}
use Rattle.txn_parse.specs.Laws.{Begins}
use Rattle.txn_parse.proofs.Sound.{first_of, SameFirst, same_first_behind, begins_same, ends_same}
use Rattle.script.specs.Rules.{next_is}

-- a was found, in front of the rest
pub record IsFound {A : Type 0} (Q : Reader A) (G : List Lexeme → A → Type 0) (ls : List Lexeme) (a : A) (rest : List Lexeme) : Type 0 where
  pub front : List Lexeme
  pub split : ls ≡ front ++ rest
  pub derived : G front a
  pub again : (more : List Lexeme) → SameFirst rest more → Q (front ++ more) ≡ Ok (a, more)

-- nothing begins with the tokens up to the first of the rest
pub record IsBad {A : Type 0} (last : ℕ) (Q : Reader A) (G : List Lexeme → A → Type 0) (ls : List Lexeme) (f : TextFault) : Type 0 where
  pub front : List Lexeme
  pub rest : List Lexeme
  pub split : ls ≡ front ++ rest
  pub place : f ≡ syntax_at last rest
  pub begun : Begins G front
  pub again : (more : List Lexeme) → SameFirst rest more → Q (front ++ more) ≡ Err (syntax_at last more)

abbrev pub Answers : {A : Type 0} → ℕ → Reader A → (List Lexeme → A → Type 0) → List Lexeme → Found A → Type 0
Answers last Q G ls (Ok r) = IsFound Q G ls r.0 r.1
Answers last Q G ls (Err f) = IsBad last Q G ls f

-- nothing is read
pub found_here : {A : Type 0} (G : List Lexeme → A → Type 0) (a : A) (ls : List Lexeme) → G [] a → IsFound (λ ms. Ok (a, ms)) G ls a ls
found_here G a ls g = record { front = []; split = refl; derived = g; again = λ more same. refl }

-- a fault at the first token
pub bad_here : {A : Type 0} (last : ℕ) (Q : Reader A) (G : List Lexeme → A → Type 0) (ls : List Lexeme) → Begins G [] → ((more : List Lexeme) → SameFirst ls more → Q more ≡ Err (syntax_at last more)) → IsBad last Q G ls (syntax_at last ls)
bad_here last Q G ls begun again = record { front = []; rest = ls; split = refl; place = refl; begun = begun; again = again }

-- some way to go on from what is in a grammar
abbrev pub GoesOn : {A B : Type 0} → (List Lexeme → A → Type 0) → (List Lexeme → B → Type 0) → Type 0
GoesOn {A} {B} G1 G = (a : A) (front : List Lexeme) → G1 front a → (more : List Lexeme) × (b : B) × G (front ++ more) b

-- a reader, and then what follows it
found_then : {A B : Type 0} (last : ℕ) (Q : Reader A) (G1 : List Lexeme → A → Type 0) (k : A × List Lexeme → Found B) (G : List Lexeme → B → Type 0) (ls : List Lexeme) (a : A) (rest : List Lexeme) (r : Found B) →
    (one : IsFound Q G1 ls a rest) →
    Answers last (λ ms. k (a, ms)) (λ ms. G (one.front ++ ms)) rest r →
    Answers last (λ ms. Q ms >>= k) G ls r
found_then last Q G1 k G ls a rest (Ok b) one two =
    record {
      front = one.front ++ two.front;
      split = one.split ∙ ap (λ x. one.front ++ x) two.split ∙ sym (append_assoc one.front two.front b.1);
      derived = two.derived;
      again = λ more same.
          ap (λ x. Q x >>= k) (append_assoc one.front two.front more)
          ∙ ap (λ x. x >>= k) (one.again (two.front ++ more) (ap first_of two.split ∙ same_first_behind two.front b.1 more same))
          ∙ two.again more same;
    }
found_then last Q G1 k G ls a rest (Err f) one two =
    record {
      front = one.front ++ two.front;
      rest = two.rest;
      split = one.split ∙ ap (λ x. one.front ++ x) two.split ∙ sym (append_assoc one.front two.front two.rest);
      place = two.place;
      begun = (two.begun.0, two.begun.1, subst (λ x. G x two.begun.1) (sym (append_assoc one.front two.front two.begun.0)) two.begun.2);
      again = λ more same.
          ap (λ x. Q x >>= k) (append_assoc one.front two.front more)
          ∙ ap (λ x. x >>= k) (one.again (two.front ++ more) (ap first_of two.split ∙ same_first_behind two.front two.rest more same))
          ∙ two.again more same;
    }

pub then_answers : {A B : Type 0} (last : ℕ) (Q : Reader A) (G1 : List Lexeme → A → Type 0) (k : A × List Lexeme → Found B) (G : List Lexeme → B → Type 0) (ls : List Lexeme) (r : Found A) →
    Answers last Q G1 ls r → GoesOn G1 G →
    ((a : A) (front rest : List Lexeme) → ls ≡ front ++ rest → G1 front a → Answers last (λ ms. k (a, ms)) (λ ms. G (front ++ ms)) rest (k (a, rest))) →
    Answers last (λ ms. Q ms >>= k) G ls (r >>= k)
then_answers last Q G1 k G ls (Ok r) one sample next =
    found_then last Q G1 k G ls r.0 r.1 (k r) one (next r.0 one.front r.1 one.split one.derived)
then_answers last Q G1 k G ls (Err f) one sample next =
    let made = sample one.begun.1 (one.front ++ one.begun.0) one.begun.2 in
    record {
      front = one.front;
      rest = one.rest;
      split = one.split;
      place = one.place;
      begun = (one.begun.0 ++ made.0, made.1, subst (λ x. G x made.1) (append_assoc one.front one.begun.0 made.0) made.2);
      again = λ more same. ap (λ x. x >>= k) (one.again more same);
    }

-- what is made of what a reader found
abbrev pub made_of : {A B : Type 0} → (A → B) → A × List Lexeme → Found B
made_of make a = Ok (make a.0, a.1)

pub made_answers : {A B : Type 0} (last : ℕ) (make : A → B) (Q : Reader A) (G1 : List Lexeme → A → Type 0) (G : List Lexeme → B → Type 0) (ls : List Lexeme) (r : Found A) →
    ((ms : List Lexeme) (a : A) → G1 ms a → G ms (make a)) → Answers last Q G1 ls r → Answers last (λ ms. Q ms >>= made_of make) G ls (r >>= made_of make)
made_answers last make Q G1 G ls (Ok r) g one = record {
  front = one.front;
  split = one.split;
  derived = g one.front r.0 one.derived;
  again = λ more same. ap (λ x. x >>= made_of make) (one.again more same);
}
made_answers last make Q G1 G ls (Err f) g one = record {
  front = one.front;
  rest = one.rest;
  split = one.split;
  place = one.place;
  begun = (one.begun.0, make one.begun.1, g (one.front ++ one.begun.0) one.begun.1 one.begun.2);
  again = λ more same. ap (λ x. x >>= made_of make) (one.again more same);
}

same_behind : (ls front rest more : List Lexeme) → ls ≡ front ++ rest → SameFirst rest more → SameFirst ls (front ++ more)
same_behind ls front rest more split same = ap first_of split ∙ same_first_behind front rest more same

-- a reader that is another one where the first token is this
pub answers_where : {A : Type 0} (last : ℕ) (Q Q1 : Reader A) (G1 G : List Lexeme → A → Type 0) (ls : List Lexeme) (r : Found A) →
    ((ms : List Lexeme) → SameFirst ls ms → Q ms ≡ Q1 ms) → ((ms : List Lexeme) (a : A) → G1 ms a → G ms a) → Answers last Q1 G1 ls r → Answers last Q G ls r
answers_where last Q Q1 G1 G ls (Ok r) same g one = record {
  front = one.front;
  split = one.split;
  derived = g one.front r.0 one.derived;
  again = λ more first. same (one.front ++ more) (same_behind ls one.front r.1 more one.split first) ∙ one.again more first;
}
answers_where last Q Q1 G1 G ls (Err f) same g one = record {
  front = one.front;
  rest = one.rest;
  split = one.split;
  place = one.place;
  begun = (one.begun.0, one.begun.1, g (one.front ++ one.begun.0) one.begun.1 one.begun.2);
  again = λ more first. same (one.front ++ more) (same_behind ls one.front one.rest more one.split first) ∙ one.again more first;
}

-- a test of the next token sees the first token alone
pub next_same : (among : Symbol → Bool) (ls ms : List Lexeme) → SameFirst ls ms → next_is among ls ≡ next_is among ms
next_same among [] ms same = ends_same (λ x. next_is among [] ≡ next_is among x) ms same refl
next_same among (l ∷ ls) ms same = begins_same (λ x. next_is among (l ∷ ls) ≡ next_is among x) l ls ms same (λ x. refl)
