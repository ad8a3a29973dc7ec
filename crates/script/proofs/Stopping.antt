-- Where reading by a rule stops, the tokens before that are begun and the next one is bad.
use Rattle.std.proofs.Common.{◌≡◌, ℕ, true, List, [], ◌∷◌, ◌++◌, length, Ok, Err, refl, sym, ap, ◌∙◌, subst, arith, ⊎_elim}
use Rattle.std.proofs.lemmas.List.{append_assoc, append-nil, length-append}
use Rattle.txn_text.specs.declared.faults.FaultKind.{FaultKind}
use Rattle.txn_text.specs.declared.faults.FaultKind.TheVariants as fault
use Rattle.txn_text.specs.declared.faults.TextFault.{TextFault}
use Rattle.txn_text.specs.declared.faults.TextFault.TheVariants.{At}
use Rattle.txn_parse.specs.Symbols.{Lexeme}
use Rattle.txn_parse.specs.Grammar.{Free, IsBlock}
use Rattle.txn_parse.specs.Reading.{Found, syntax_at}
use Rattle.txn_parse.specs.Laws.{Begins}
use Rattle.txn_parse.specs.Counts.{counted}
use Rattle.txn_parse.specs.Faults.{IsWithinLimits, IsTheFault, bad, past, ended, IsFirstPast}
use Rattle.txn_parse.proofs.CountsLemmas.{parts}
use Rattle.txn_parse.proofs.OneFault.{compared}
use Rattle.txn_parse.proofs.Sound.{first_of}
use Rattle.script.specs.Rules.{Rule, Derives, read}
use Rattle.script.specs.Fits.{fits}
use Rattle.script.specs.Stages.{Stopped}
use Rattle.script.proofs.Found.{IsFound, IsBad, Answers}
use Rattle.script.proofs.RulesAnswer.{BlocksAnswer, answers}
use Rattle.script.proofs.RulesComplete.{BlocksAreRead, complete}

-- what is true of blocks
pub record Blocks (last : ℕ) : Type 0 where
  pub answer : BlocksAnswer last
  pub some : Begins (IsBlock Free) []
  pub are_read : BlocksAreRead last

-- a token is left, or none is
no_rest : {A : Type 0} (a b : A) (l : Lexeme) (ls : List Lexeme) → (let y : Found A = Ok (a, l ∷ ls) in y) ≡ Ok (b, []) → ⊥
no_rest {A} a b l ls is =
    let e : (a, l ∷ ls) ≡ (b, []) = cc in
    let g : l ∷ ls ≡ [] = ap (λ (x : A × List Lexeme). x.1) e in
    cc

no_fault : {A : Type 0} (g : TextFault) (b : A) (ls : List Lexeme) → (let y : Found A = Err g in y) ≡ Ok (b, ls) → ⊥
no_fault g b ls is = cc

module _ {A : Type 0} (r : Rule A) (f : fits r ≡ true) (last : ℕ) (blocks : Blocks last) where
  -- what is derived is read whole
  pub read_whole : (ls : List Lexeme) (a : A) → Derives r ls a → read r last ls ≡ Ok (a, [])
  read_whole ls a d = ap (read r last) (sym (append-nil ls)) ∙ complete r f last blocks.answer blocks.some blocks.are_read ls a [] d refl

  regroup : (front more : List Lexeme) (l : Lexeme) → (front ++ l ∷ []) ++ more ≡ front ++ l ∷ more
  regroup front more l = append_assoc front (l ∷ []) more

  -- what goes on with a token is read up to its end
  goes_whole : (front : List Lexeme) (l : Lexeme) (b : Begins (Derives r) (front ++ l ∷ [])) → read r last (front ++ l ∷ b.0) ≡ Ok (b.1, [])
  goes_whole front l b = ap (read r last) (sym (regroup front b.0 l)) ∙ read_whole ((front ++ l ∷ []) ++ b.0) b.1 b.2

  stopped_found : (ls : List Lexeme) (a : A) (rest : List Lexeme) → IsFound (read r last) (Derives r) ls a rest → Stopped (Derives r) ls rest
  stopped_found ls a rest one = record {
    front = one.front;
    split = one.split;
    begun = ([], a, subst (λ x. Derives r x a) (sym (append-nil one.front)) one.derived);
    bad = λ l more is b.
        no_rest a b.1 l b.0 (sym (one.again (l ∷ b.0) (ap first_of is)) ∙ goes_whole one.front l b);
  }

  stopped_bad : (ls : List Lexeme) (g : TextFault) → (one : IsBad last (read r last) (Derives r) ls g) → Stopped (Derives r) ls one.rest
  stopped_bad ls g one = record {
    front = one.front;
    split = one.split;
    begun = one.begun;
    bad = λ l more is b.
        no_fault (syntax_at last (l ∷ b.0)) b.1 [] (sym (one.again (l ∷ b.0) (ap first_of is)) ∙ goes_whole one.front l b);
  }

-- what was found, and where it stopped
pub record Reached {A : Type 0} (G : List Lexeme → A → Type 0) (ls : List Lexeme) (a : A) (rest : List Lexeme) : Type 0 where
  pub stopped : Stopped G ls rest
  pub whole : rest ≡ [] → G ls a

pub record Failed {A : Type 0} (G : List Lexeme → A → Type 0) (last : ℕ) (ls : List Lexeme) (g : TextFault) : Type 0 where
  pub rest : List Lexeme
  pub stopped : Stopped G ls rest
  pub place : g ≡ syntax_at last rest
  pub proper : rest ≡ [] → (a : A) → G ls a → ⊥

module _ {A : Type 0} (r : Rule A) (f : fits r ≡ true) (last : ℕ) (blocks : Blocks last) (ls : List Lexeme) where
  reached_by : (a : A) (rest : List Lexeme) (x : Found A) → x ≡ Ok (a, rest) → Answers last (read r last) (Derives r) ls x → Reached (Derives r) ls a rest
  reached_by a rest (Err g) is one = cc
  reached_by a rest (Ok q) is one =
      let same : q ≡ (a, rest) = cc in
      let here : IsFound (read r last) (Derives r) ls a rest = subst (λ (y : A × List Lexeme). IsFound (read r last) (Derives r) ls y.0 y.1) same one in
      record {
        stopped = stopped_found r f last blocks ls a rest here;
        whole = λ none. subst (λ x. Derives r x a) (sym (here.split ∙ ap (λ x. here.front ++ x) none ∙ append-nil here.front)) here.derived;
      }

  pub reached : (a : A) (rest : List Lexeme) → read r last ls ≡ Ok (a, rest) → Reached (Derives r) ls a rest
  reached a rest is = reached_by a rest (read r last ls) is (answers r f last blocks.answer blocks.some ls)

  failed_by : (g : TextFault) (x : Found A) → x ≡ Err g → read r last ls ≡ x → Answers last (read r last) (Derives r) ls x → Failed (Derives r) last ls g
  failed_by g (Ok q) is was one = cc
  failed_by g (Err h) is was one =
      let same : h ≡ g = cc in
      record {
        rest = one.rest;
        stopped = stopped_bad r f last blocks ls h one;
        place = sym same ∙ one.place;
        proper = λ none a d. no_fault h a [] (sym was ∙ read_whole r f last blocks ls a d);
      }

  pub failed : (g : TextFault) → read r last ls ≡ Err g → Failed (Derives r) last ls g
  failed g is = failed_by g (read r last ls) is refl (answers r f last blocks.answer blocks.some ls)

-- the fault where reading stopped
within_front : (p front q : List Lexeme) → IsWithinLimits p → p ≡ front ++ q → IsWithinLimits front
within_front p front q w split = let x = parts front q 0 0 w.0 (sym (ap (counted 0 0) split) ∙ w.1) in (x.0, x.1)

pub bad_fault : {A : Type 0} (G : List Lexeme → A → Type 0) (last : ℕ) (ls : List Lexeme) (l : Lexeme) (more : List Lexeme) → IsWithinLimits ls → Stopped G ls (l ∷ more) → IsTheFault G last ls (At l.token.line fault.Syntax)
bad_fault G last ls l more w s =
    bad (record { front = s.front; token = l; rest = more; split = s.split; within = within_front ls s.front (l ∷ more) w s.split; bad = s.bad l more refl; begun = s.begun; place = refl })

pub end_fault : {A : Type 0} (G : List Lexeme → A → Type 0) (last : ℕ) (ls : List Lexeme) → IsWithinLimits ls → Stopped G ls [] → ((a : A) → G ls a → ⊥) → IsTheFault G last ls (At last fault.EndOfText)
end_fault G last ls w s proper =
    ended (record { within = w; proper = proper; begun = subst (Begins G) (sym (s.split ∙ append-nil s.front)) s.begun; place = refl })

lengths : (xs ys qs rs : List Lexeme) (x y : Lexeme) → xs ++ x ∷ [] ≡ (xs ++ x ∷ qs) ++ y ∷ rs → ⊥
lengths xs ys qs rs x y is =
    let a = ap length is in
    let b = length-append xs (x ∷ []) in
    let c = length-append (xs ++ x ∷ qs) (y ∷ rs) in
    let d = length-append xs (x ∷ qs) in
    omega (arith, a, b, c, d)

-- what stands in front of a token of p and t stands in p
in_front : (p front rs : List Lexeme) (t r : Lexeme) → p ++ t ∷ [] ≡ front ++ r ∷ rs → (q : List Lexeme) × (p ≡ front ++ q)
in_front p front rs t r is =
    ⊎_elim (λ same. ([], same.0 ∙ sym (append-nil front)))
    (⊎_elim (λ q. absurd (lengths p front q.0 rs t r (is ∙ ap (λ x. x ++ r ∷ rs) q.1))) (λ q. (r ∷ q.0, q.1)))
    (compared p front t r [] rs is)

-- the same, where reading goes up to the first token past a limit
pub cut_bad : {A : Type 0} (G : List Lexeme → A → Type 0) (last at : ℕ) (kind : FaultKind) (ls : List Lexeme) (p : IsFirstPast ls at kind) (l : Lexeme) (more : List Lexeme) → Stopped G (p.front ++ p.token ∷ []) (l ∷ more) → IsTheFault G last ls (At l.token.line fault.Syntax)
cut_bad G last at kind ls p l more s =
    let inside = in_front p.front s.front more p.token l s.split in
    bad (record {
      front = s.front;
      token = l;
      rest = more ++ p.rest;
      split = p.split ∙ sym (append_assoc p.front (p.token ∷ []) p.rest) ∙ ap (λ x. x ++ p.rest) s.split ∙ append_assoc s.front (l ∷ more) p.rest;
      within = within_front p.front s.front inside.0 p.within inside.1;
      bad = s.bad l more refl;
      begun = s.begun;
      place = refl;
    })

pub cut_past : {A : Type 0} (G : List Lexeme → A → Type 0) (last at : ℕ) (kind : FaultKind) (ls : List Lexeme) (p : IsFirstPast ls at kind) → Stopped G (p.front ++ p.token ∷ []) [] → IsTheFault G last ls (At p.token.token.line kind)
cut_past G last at kind ls p s =
    past (record {
      front = p.front;
      token = p.token;
      rest = p.rest;
      kind = kind;
      split = p.split;
      within = p.within;
      past = p.past;
      begun = subst (Begins G) (sym (s.split ∙ append-nil s.front)) s.begun;
      place = refl;
    })
