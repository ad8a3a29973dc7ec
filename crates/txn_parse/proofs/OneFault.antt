-- A list of tokens has one fault at most, and none where it is in the grammar and within the limits.
use Rattle.std.proofs.Common.{◌≡◌, ◌⊎◌, ℕ, List, [], ◌∷◌, ◌++◌, Ok, Err, refl, sym, ap, ◌∙◌, subst, inl, inr, ⊎_elim}
use Rattle.std.proofs.lemmas.List.{append_assoc, append-nil}
use Rattle.txn_text.specs.declared.faults.FaultKind.{FaultKind}
use Rattle.txn_text.specs.declared.faults.FaultKind.TheVariants as fault
use Rattle.txn_text.specs.declared.faults.TextFault.{TextFault}
use Rattle.txn_text.specs.declared.faults.TextFault.TheVariants.{At}
use Rattle.txn_parse.specs.Symbols.{Lexeme}
use Rattle.txn_parse.specs.Laws.{Begins}
use Rattle.txn_parse.specs.Counts.{counted, Counts, and_then}
use Rattle.txn_parse.specs.Faults.{IsWithinLimits, IsBadToken, IsPastLimit, IsEnded, IsTheFault, bad, past, ended, OneFault}
use Rattle.txn_parse.proofs.CountsLemmas.{counted-append}

-- one place, or the first stands in front of the second
abbrev pub Ahead : List Lexeme → Lexeme → List Lexeme → Type 0
Ahead xs x ys = (q : List Lexeme) × (ys ≡ xs ++ x ∷ q)

abbrev pub Compared : List Lexeme → Lexeme → List Lexeme → Lexeme → Type 0
Compared xs x ys y = ((xs ≡ ys) × (x ≡ y)) ⊎ (Ahead xs x ys ⊎ Ahead ys y xs)

behind_both : (h k : Lexeme) (xs ys : List Lexeme) (x y : Lexeme) → h ≡ k → Compared xs x ys y → Compared (h ∷ xs) x (k ∷ ys) y
behind_both h k xs ys x y same (inl p) = inl (ap (λ l. h ∷ l) p.0 ∙ ap (λ z. z ∷ ys) same, p.1)
behind_both h k xs ys x y same (inr (inl q)) = inr (inl (q.0, ap (λ l. k ∷ l) q.1 ∙ ap (λ z. z ∷ (xs ++ x ∷ q.0)) (sym same)))
behind_both h k xs ys x y same (inr (inr q)) = inr (inr (q.0, ap (λ l. h ∷ l) q.1 ∙ ap (λ z. z ∷ (ys ++ y ∷ q.0)) same))

tail_of : List Lexeme → List Lexeme
tail_of [] = []
tail_of (l ∷ ls) = ls

pub compared : (xs ys : List Lexeme) (x y : Lexeme) (xr yr : List Lexeme) → xs ++ x ∷ xr ≡ ys ++ y ∷ yr → Compared xs x ys y
unfolding tail_of
compared [] [] x y xr yr is = inl (refl, cc)
compared [] (k ∷ ys) x y xr yr is = let e : x ≡ k = cc in inr (inl (ys, ap (λ z. z ∷ ys) (sym e)))
compared (h ∷ xs) [] x y xr yr is = let e : h ≡ y = cc in inr (inr (xs, ap (λ z. z ∷ xs) e))
compared (h ∷ xs) (k ∷ ys) x y xr yr is = let e : h ≡ k = cc in behind_both h k xs ys x y e (compared xs ys x y xr yr (ap tail_of is))

-- what begins with more tokens begins with fewer
pub fewer : {A : Type 0} (G : List Lexeme → A → Type 0) (xs qs : List Lexeme) → Begins G (xs ++ qs) → Begins G xs
fewer G xs qs b = (qs ++ b.0, b.1, subst (λ l. G l b.1) (append_assoc xs qs b.0) b.2)

ahead_begins : {A : Type 0} (G : List Lexeme → A → Type 0) (xs ys : List Lexeme) (x : Lexeme) → Ahead xs x ys → Begins G ys → Begins G (xs ++ x ∷ [])
ahead_begins G xs ys x q b = fewer G (xs ++ x ∷ []) q.0 (subst (Begins G) (q.1 ∙ sym (append_assoc xs (x ∷ []) q.0)) b)

-- where a front is past a limit, so is the whole
pub stays_past : (xs qs : List Lexeme) (c : ℕ × ℕ) (e : Lexeme × FaultKind) → counted 0 0 xs ≡ Err e → counted 0 0 (xs ++ qs) ≡ Ok c → ⊥
stays_past xs qs c e over is =
    let clash : Err e ≡ Ok c = sym (ap (λ r. and_then r (λ c. counted c.0 c.1 qs)) over) ∙ sym (counted-append xs qs 0 0) ∙ is in
    cc

ahead_past : (xs ys : List Lexeme) (x : Lexeme) (e : Lexeme × FaultKind) → Ahead xs x ys → counted 0 0 (xs ++ x ∷ []) ≡ Err e → IsWithinLimits ys → ⊥
ahead_past xs ys x e q over w =
    stays_past (xs ++ x ∷ []) q.0 w.0 e over (ap (counted 0 0) (append_assoc xs (x ∷ []) q.0 ∙ sym q.1) ∙ w.1)

same_err : (d e : Lexeme × FaultKind) → (let r : Counts = Err d in r) ≡ Err e → d ≡ e
same_err d e is = cc

-- a part of a whole list
whole_ahead : (xs rest ls : List Lexeme) (x : Lexeme) → ls ≡ xs ++ x ∷ rest → Ahead xs x ls
whole_ahead xs rest ls x is = (rest, is)

module _ {A : Type 0} (G : List Lexeme → A → Type 0) (last : ℕ) (ls : List Lexeme) (f g : TextFault) where
  bad_bad : IsBadToken G ls f → IsBadToken G ls g → f ≡ g
  bad_bad a b =
      ⊎_elim (λ p. a.place ∙ ap (λ (l : Lexeme). At l.token.line fault.Syntax) p.1 ∙ sym b.place)
      (⊎_elim (λ q. absurd (a.bad (ahead_begins G a.front b.front a.token q b.begun))) (λ q. absurd (b.bad (ahead_begins G b.front a.front b.token q a.begun))))
      (compared a.front b.front a.token b.token a.rest b.rest (sym a.split ∙ b.split))

  bad_past : IsBadToken G ls f → IsPastLimit G ls g → ⊥
  bad_past a b =
      ⊎_elim (λ p. a.bad (subst (Begins G) (ap (λ l. l ++ b.token ∷ []) (sym p.0) ∙ ap (λ x. a.front ++ x ∷ []) (sym p.1)) b.begun))
      (⊎_elim (λ q. a.bad (ahead_begins G a.front b.front a.token q (fewer G b.front (b.token ∷ []) b.begun))) (λ q. ahead_past b.front a.front b.token (b.token, b.kind) q b.past a.within))
      (compared a.front b.front a.token b.token a.rest b.rest (sym a.split ∙ b.split))

  past_past : IsPastLimit G ls f → IsPastLimit G ls g → f ≡ g
  past_past a b =
      ⊎_elim (λ p.
      let e = same_err (a.token, a.kind) (b.token, b.kind) (sym a.past ∙ ap (counted 0 0) (ap (λ l. l ++ a.token ∷ []) p.0 ∙ ap (λ x. b.front ++ x ∷ []) p.1) ∙ b.past) in
      a.place ∙ ap (λ (d : Lexeme × FaultKind). At d.0.token.line d.1) e ∙ sym b.place)
      (⊎_elim (λ q. absurd (ahead_past a.front b.front a.token (a.token, a.kind) q a.past b.within)) (λ q. absurd (ahead_past b.front a.front b.token (b.token, b.kind) q b.past a.within)))
      (compared a.front b.front a.token b.token a.rest b.rest (sym a.split ∙ b.split))

  bad_ended : IsBadToken G ls f → IsEnded G last ls g → ⊥
  bad_ended a b = a.bad (ahead_begins G a.front ls a.token (whole_ahead a.front a.rest ls a.token a.split) b.begun)

  past_ended : IsPastLimit G ls f → IsEnded G last ls g → ⊥
  past_ended a b = ahead_past a.front ls a.token (a.token, a.kind) (whole_ahead a.front a.rest ls a.token a.split) a.past b.within

pub one_fault_of : {A : Type 0} (G : List Lexeme → A → Type 0) (last : ℕ) (ls : List Lexeme) (f g : TextFault) → IsTheFault G last ls f → IsTheFault G last ls g → f ≡ g
one_fault_of G last ls f g (bad a) (bad b) = bad_bad G last ls f g a b
one_fault_of G last ls f g (bad a) (past b) = absurd (bad_past G last ls f g a b)
one_fault_of G last ls f g (bad a) (ended b) = absurd (bad_ended G last ls f g a b)
one_fault_of G last ls f g (past a) (bad b) = absurd (bad_past G last ls g f b a)
one_fault_of G last ls f g (past a) (past b) = past_past G last ls f g a b
one_fault_of G last ls f g (past a) (ended b) = absurd (past_ended G last ls f g a b)
one_fault_of G last ls f g (ended a) (bad b) = absurd (bad_ended G last ls g f b a)
one_fault_of G last ls f g (ended a) (past b) = absurd (past_ended G last ls g f b a)
one_fault_of G last ls f g (ended a) (ended b) = a.place ∙ sym b.place

pub no_fault : {A : Type 0} (G : List Lexeme → A → Type 0) (last : ℕ) (ls : List Lexeme) (f : TextFault) (a : A) → G ls a → IsWithinLimits ls → IsTheFault G last ls f → ⊥
no_fault G last ls f a d w (bad b) = b.bad (ahead_begins G b.front ls b.token (whole_ahead b.front b.rest ls b.token b.split) ([], a, subst (λ l. G l a) (sym (append-nil ls)) d))
no_fault G last ls f a d w (past b) = ahead_past b.front ls b.token (b.token, b.kind) (whole_ahead b.front b.rest ls b.token b.split) b.past w
no_fault G last ls f a d w (ended b) = b.proper a d

pub one_fault : OneFault
one_fault = record { one = λ last ls f g a b. one_fault_of _ last ls f g a b; none = λ last ls f b d w s. no_fault _ last ls f b d w s }
