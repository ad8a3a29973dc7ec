-- What the acts of a client do to the writes of its execution.
use Rattle.std.proofs.Common.{◌≡◌, ℕ, ℤ, inl, inr, refl, ap, sym, ◌∙◌, subst, Bool, List, [], ◌∷◌, ◌++◌, Option, Some, None, get_or, set}
use Rattle.std.specs.Prelude.{zero, suc}
use Rattle.std.proofs.lemmas.List.{append-nil}
use Rattle.protocol.specs.Words.{Exec, Key, Ending, Body, Puts, Prepare}
use Rattle.protocol.specs.Lists.{IsIn, one_when}
use Rattle.protocol.specs.Client.State.{Rules, ClientState, Answer, values, walk, content}
use Rattle.protocol.specs.Client.Following.{with_answer, answer_at, no_answer}
use Rattle.protocol.specs.Client.Attempts.{question}
use Rattle.protocol.proofs.ListsLemmas.{IsIn-cases, IsIn-one_when}
use Rattle.law_steps.specs.Executions.{IsEarlier}
use Rattle.law_steps.proofs.ClientActs.{IsRunning, Continues, WriteStep}

-- the body neither puts nor prepares
abbrev pub IsOther : Body → Type 0
IsOther (Puts x ws) = ⊥
IsOther (Prepare x k) = ⊥
IsOther _ = Unit {0}

-- an act after which nothing runs
pub stops : (r : Rules) (c c' : ClientState) (b : Body) → IsOther b → (IsRunning c'.phase → ⊥) → WriteStep r c c' (b ∷ [])
stops r c c' b o n = record {
  grows = λ z. absurd (n z);
  puts = λ x ws i. elim i [ inl z ↦ absurd (subst IsOther (sym z) o) | inr z ↦ absurd z ];
  prepares = λ x k i. elim i [ inl z ↦ absurd (subst IsOther (sym z) o) | inr z ↦ absurd z ];
}

pub stops_silent : (r : Rules) (c c' : ClientState) → (IsRunning c'.phase → ⊥) → WriteStep r c c' []
stops_silent r c c' n = record { grows = λ z. absurd (n z); puts = λ x ws i. absurd i; prepares = λ x k i. absurd i }

-- a later execution begins
pub begins : (r : Rules) (c c' : ClientState) → IsEarlier c.exec c'.exec → WriteStep r c c' []
begins r c c' l = record { grows = λ z. inr l; puts = λ x ws i. absurd i; prepares = λ x k i. absurd i }

-- the execution goes on
pub goes_on : (r : Rules) (c c' : ClientState) → (IsRunning c'.phase → Continues c c') → WriteStep r c c' []
goes_on r c c' f = record { grows = λ z. inl (f z); puts = λ x ws i. absurd i; prepares = λ x k i. absurd i }

pub values_set : (as' : List Answer) (i : ℕ) (a : Answer) → (get_or as' i no_answer).label.value ≡ a.label.value → values (set as' i a) ≡ values as'
values_set [] i a e = refl
values_set (b ∷ more) zero a e = ap (λ (v : ℤ). v ∷ values more) (sym e)
values_set (b ∷ more) (suc i) a e = ap (λ (l : List ℤ). b.label.value ∷ l) (values_set more i a e)

pub values_append : (as' : List Answer) (a : Answer) → values (as' ++ a ∷ []) ≡ values as' ++ a.label.value ∷ []
values_append [] a = refl
values_append (b ∷ more) a = ap (λ (l : List ℤ). b.label.value ∷ l) (values_append more a)

-- a label of the same value
pub relabels : (r : Rules) (c : ClientState) (i : ℕ) (a : Answer) → (answer_at c i).label.value ≡ a.label.value → WriteStep r c (with_answer c i a) []
relabels r c i a e = goes_on r c (with_answer c i a) (λ z. record { exec = refl; running = z; begun = refl; more = []; answers = values_set c.answers i a e ∙ sym (append-nil (values c.answers)) })

-- the writes of an execution that runs go out
pub puts_writes : (r : Rules) (c : ClientState) (t : Bool) (rest : List Body) → IsRunning c.phase → ((b : Body) → IsIn b rest → IsOther b) →
    (c' : ClientState) → Continues c c' → IsRunning c'.phase → (walk r c').writes ≡ (walk r c).writes →
    WriteStep r c c' (one_when t (Puts c.exec (walk r c).writes) ++ rest)
puts_writes r c t rest run other c' on run' same = record {
  grows = λ z. inl on;
  puts = λ x ws i. elim (IsIn-cases (Puts x ws) (one_when t (Puts c.exec (walk r c).writes)) rest i) [
    | inl j ↦ let z = (IsIn-one_when t (Puts c.exec (walk r c).writes) (Puts x ws) j).1 in let a : x ≡ c.exec = cc in let b : ws ≡ (walk r c).writes = cc in (a ∙ sym on.exec, run', b ∙ sym same)
    | inr j ↦ absurd (other (Puts x ws) j)
  ];
  prepares = λ x k i. elim (IsIn-cases (Prepare x k) (one_when t (Puts c.exec (walk r c).writes)) rest i) [
    | inl j ↦ let z = (IsIn-one_when t (Puts c.exec (walk r c).writes) (Prepare x k) j).1 in cc
    | inr j ↦ absurd (other (Prepare x k) j)
  ];
}

pub puts_alone : (r : Rules) (c : ClientState) (t : Bool) → IsRunning c.phase → WriteStep r c c (one_when t (Puts c.exec (walk r c).writes))
puts_alone r c t run = subst (λ (l : List Body). WriteStep r c c l) (append-nil (one_when t (Puts c.exec (walk r c).writes)))
    (puts_writes r c t [] run (λ b i. absurd i) c (record { exec = refl; running = run; begun = refl; more = []; answers = sym (append-nil (values c.answers)) }) run refl)

pub other_question : (x : Exec) (o : Option Key) (b : Body) → IsIn b (question x o) → IsOther b
other_question x None b i = absurd i
other_question x (Some k) b (inl z) = subst IsOther (sym z) tt
other_question x (Some k) b (inr z) = absurd z

-- its content is prepared
pub prepares_writes : (r : Rules) (c c' : ClientState) (e : Ending) → (walk r c).ending ≡ Some e → IsRunning c.phase → (IsRunning c'.phase → ⊥) →
    WriteStep r c c' (Prepare c.exec (content r c e) ∷ [])
prepares_writes r c c' e q run n = record {
  grows = λ z. absurd (n z);
  puts = λ x ws i. elim i [ inl z ↦ cc | inr z ↦ absurd z ];
  prepares = λ x k i. elim i [ inl z ↦ (let a : x ≡ c.exec = cc in let b : k ≡ content r c e = cc in (a, run, (e, b, q))) | inr z ↦ absurd z ];
}
