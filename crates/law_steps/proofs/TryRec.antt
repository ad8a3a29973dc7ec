-- What a client's record says of its tries.
use Rattle.std.proofs.Common.{◌≡◌, ℕ, ◌<◌, ◌≤◌, ◌⊎◌, inl, inr, refl, ap, sym, ◌∙◌, subst, List, [], ◌∷◌, arith}
use Rattle.protocol.specs.Words.{Exec, Version, Abandon}
use Rattle.protocol.specs.Lists.{IsIn}
use Rattle.protocol.specs.Client.State.{ClientState, Attempt}
use Rattle.protocol.specs.Client.State.Phase.{Between}
use Rattle.protocol.specs.World.State.{Plan, World}
use Rattle.law_steps.proofs.PhaseLemmas.{running_under_way, running_between}
use Rattle.law_steps.proofs.ClientActs.{IsAborted, IsOn, TryStep}
use Rattle.law_steps.proofs.ClientActs.TryStep.{Keeps, Next_exec, Next_try}
use Rattle.law_steps.proofs.Reach.{Step, Reach}
use Rattle.law_steps.proofs.Induction.{client_in_step, on_clients}

abbrev pub IsFalling : List Attempt → Type 0
IsFalling [] = Unit {0}
IsFalling (a ∷ more) = ((b : Attempt) → IsIn b more → b.ver.ts < a.ver.ts) × IsFalling more

-- what a client's record says of its tries
pub record TryRec (s : ClientState) : Type 0 where
  pub begun : (b : Attempt) → IsIn b s.attempts → b.ver ≡ s.exec.ver → b.txn ≡ s.begun
  pub bounded : (b : Attempt) → IsIn b s.attempts → (b.ver.ts ≤ s.exec.ver.ts) × (b.txn ≤ s.begun)
  pub aborted : s.phase ≡ Between → IsAborted s.fate → IsIn (record { exec = s.exec; choice = Abandon }) s.decisions
  pub has : IsOn s → (a : Attempt) × IsIn a s.attempts × (a.ver ≡ s.exec.ver)
  pub falling : IsFalling s.attempts

step_rec : (s s' : ClientState) → TryStep s s' → TryRec s → TryRec s'
step_rec s s' (Keeps e b a d k u) t = record {
  begun = λ c i v. t.begun c (subst (λ l. IsIn c l) a i) (v ∙ ap (λ (x : Exec). x.ver) e) ∙ sym b;
  bounded = λ c i. let z = t.bounded c (subst (λ l. IsIn c l) a i) in (subst (λ (x : Exec). c.ver.ts ≤ x.ver.ts) (sym e) z.0, subst (λ n. c.txn ≤ n) (sym b) z.1);
  aborted = λ z f. subst (λ (x : Exec). IsIn (record { exec = x; choice = Abandon }) s'.decisions) (sym e) (elim (k z f) [ inl y ↦ d _ (t.aborted y.0 y.1) | inr y ↦ y ]);
  has = λ z. let h = t.has (u z) in (h.0, subst (λ l. IsIn h.0 l) (sym a) h.1, h.2 ∙ ap (λ (x : Exec). x.ver) (sym e));
  falling = subst IsFalling (sym a) t.falling;
}
step_rec s s' (Next_exec v b a d c run) t = record {
  begun = λ z i y. t.begun z (subst (λ l. IsIn z l) a i) (y ∙ v) ∙ sym b;
  bounded = λ z i. let y = t.bounded z (subst (λ l. IsIn z l) a i) in (subst (λ (x : Version). z.ver.ts ≤ x.ts) (sym v) y.0, subst (λ n. z.txn ≤ n) (sym b) y.1);
  aborted = λ z f. absurd (running_between s'.phase run z);
  has = λ z. let h = t.has (elim c [ inl y ↦ inl (running_under_way s.phase y) | inr y ↦ inr y.0 ]) in (h.0, subst (λ l. IsIn h.0 l) (sym a) h.1, h.2 ∙ sym v);
  falling = subst IsFalling (sym a) t.falling;
}
step_rec s s' (Next_try q l a d c run) t = record {
  begun = λ z i y. elim (subst (λ l. IsIn z l) a i) [
    | inl e ↦ ap (λ (x : Attempt). x.txn) e
    | inr j ↦ let k = (t.bounded z j).0 in let f = ap (λ (x : Version). x.ts) y in absurd (omega (arith, k, f, l))
  ];
  bounded = λ z i. elim (subst (λ l. IsIn z l) a i) [
    | inl e ↦ let f = ap (λ (x : Attempt). x.ver.ts) e in let g = ap (λ (x : Attempt). x.txn) e in (omega (arith, f), omega (arith, g))
    | inr j ↦ let k = t.bounded z j in let k0 = k.0 in let k1 = k.1 in (omega (arith, k0, l), elim c [ inl m ↦ (let m0 = m.0 in omega (arith, k1, m0)) | inr m ↦ omega (arith, k1, m) ])
  ];
  aborted = λ z f. absurd (running_between s'.phase run z);
  has = λ z. (record { ver = s'.exec.ver; txn = s'.begun; try = s'.try }, subst (λ l. IsIn (record { ver = s'.exec.ver; txn = s'.begun; try = s'.try }) l) (sym a) (inl refl), refl);
  falling = subst IsFalling (sym a) ((λ b i. let k = (t.bounded b i).0 in omega (arith, k, l)), t.falling);
}

-- a client's record in a step
pub client_tries : (p : Plan) (w w' : World) → Step p w w' → (c : ℕ) → (w'.client c ≡ w.client c) ⊎ TryStep (w.client c) (w'.client c)
client_tries p w w' st c = client_in_step p w w' st (λ j s. (s ≡ w.client j) ⊎ TryStep (w.client j) s) (λ s k. inr s.tries) c (inl refl)

pub try_rec : (p : Plan) (w : World) → Reach p w → (c : ℕ) → TryRec (w.client c)
try_rec p = on_clients p (λ w c s. TryRec s)
    (λ c. record { begun = λ b i. absurd i; bounded = λ b i. absurd i; aborted = λ z f. absurd f; has = λ z. elim z [ inl y ↦ absurd y | inr y ↦ absurd y ]; falling = tt })
    (λ w w' st c s t. t) (λ w w' q s. step_rec (w.client s.c) s.state s.tries)

pub falling_one : (more : List Attempt) → IsFalling more → (a b : Attempt) → IsIn a more → IsIn b more → a.ver.ts ≡ b.ver.ts → a ≡ b
falling_one [] f a b i j e = absurd i
falling_one (c ∷ more) f a b (inl x) (inl y) e = x ∙ sym y
falling_one (c ∷ more) f a b (inl x) (inr j) e = let l = f.0 b j in let g = ap (λ (z : Attempt). z.ver.ts) x in absurd (omega (arith, l, g, e))
falling_one (c ∷ more) f a b (inr i) (inl y) e = let l = f.0 a i in let g = ap (λ (z : Attempt). z.ver.ts) y in absurd (omega (arith, l, g, e))
falling_one (c ∷ more) f a b (inr i) (inr j) e = falling_one more f.1 a b i j e
