-- Of the executions that a mail tells as committed, the last of a name has the content of its last Prepare.
use Rattle.std.proofs.Common.{◌≡◌, ◌≢◌, ◌⊎◌, inl, inr, Bool, true, false, cond, List, [], ◌∷◌, Option, Some, None, refl, ap, sym, subst, ◌∙◌}
use Rattle.std.specs.Prelude.{flat_map}
use Rattle.std.specs.Bool.{then_some}
use Rattle.std.specs.Option.{option_or}
use Rattle.morty_base.proofs.Orders.{exec_before_total}
use Rattle.protocol.specs.Words.{Exec, Content, Envelope, Body, Prepare, same_exec, exec_before}
use Rattle.protocol.specs.Client.State.{Attempt}
use Rattle.protocol.specs.World.State.{Plan, World}
use Rattle.protocol.specs.World.Committed.{CommittedExec, is_committed, attempt_at, of_attempt, committed_in}
use Rattle.protocol.proofs.NamesLemmas.{same_exec_tells, same_exec_refl}
use Rattle.world_rows.proofs.LastPrepare.{content_for, last_content}
use Rattle.world_rows.proofs.SortedLemmas.{AreNames, last_by, last_append}

-- executions by their names
abbrev pub name_of : CommittedExec → Exec
name_of c = c.exec

pub execs_named : AreNames exec_before same_exec
execs_named = record { order = exec_before_total; tells = same_exec_tells }

-- the last of the name x
abbrev pub last_exec : Exec → List CommittedExec → Option CommittedExec
last_exec x cs = last_by name_of same_exec x cs

-- x with a content, as one of a try
abbrev pub exec_with : Exec → Option Attempt → Option Content → Option CommittedExec
exec_with x None o = None
exec_with x (Some a) None = None
exec_with x (Some a) (Some k) = Some (record { exec = x; content = k; txn = a.txn; try = a.try })

pub no_content : (x : Exec) (t : Bool) (a : Option Attempt) → cond t (exec_with x a None) None ≡ None
no_content x false a = refl
no_content x true None = refl
no_content x true (Some a) = refl

joined : (x : Exec) (t : Bool) (a : Option Attempt) (o p : Option Content) →
    option_or (cond t (exec_with x a o) None) (cond t (exec_with x a p) None) ≡ cond t (exec_with x a (option_or o p)) None
joined x false a o p = refl
joined x true None o p = refl
joined x true (Some a) None p = refl
joined x true (Some a) (Some k) p = refl

other : (x y : Exec) (k : Content) (t : Bool) (a : Option Attempt) → same_exec x y ≡ false → last_exec x (cond t (of_attempt y k a) []) ≡ None
other x y k false a e = refl
other x y k true None e = refl
other x y k true (Some a) e = ap (λ s. then_some s (record { exec = y; content = k; txn = a.txn; try = a.try })) e

itself : (x : Exec) (k : Content) (t : Bool) (a : Option Attempt) → last_exec x (cond t (of_attempt x k a) []) ≡ cond t (exec_with x a (Some k)) None
itself x k false a = refl
itself x k true None = refl
itself x k true (Some a) = ap (λ s. then_some s (record { exec = x; content = k; txn = a.txn; try = a.try })) (same_exec_refl x)

module _ (p : Plan) (w : World) (x : Exec) where
  by_body : (b : Body) → last_exec x (committed_in p w b) ≡ cond (is_committed p w x) (exec_with x (attempt_at w x.ver) (content_for x b)) None
  by_body (Prepare y k) = go (same_exec x y) refl (same_exec_tells x y)
    where
      go : (t : Bool) → same_exec x y ≡ t → ((t ≡ true) × (x ≡ y)) ⊎ ((t ≡ false) × (x ≢ y)) →
          last_exec x (committed_in p w (Prepare y k)) ≡ cond (is_committed p w x) (exec_with x (attempt_at w x.ver) (cond t (Some k) None)) None
      go true e (inl q) = subst (λ (z : Exec). last_exec x (committed_in p w (Prepare z k))
          ≡ cond (is_committed p w x) (exec_with x (attempt_at w x.ver) (Some k)) None) q.1 (itself x k (is_committed p w x) (attempt_at w x.ver))
      go true e (inr q) = absurd (let z : true ≡ false = q.0 in cc)
      go false e q = other x y k (is_committed p w y) (attempt_at w y.ver) e ∙ sym (no_content x (is_committed p w x) (attempt_at w x.ver))
  by_body _ = sym (no_content x (is_committed p w x) (attempt_at w x.ver))

  pub last_told : (mail : List Envelope) → last_exec x (flat_map (λ m. committed_in p w m.body) mail)
      ≡ cond (is_committed p w x) (exec_with x (attempt_at w x.ver) (last_content x mail)) None
  last_told [] = sym (no_content x (is_committed p w x) (attempt_at w x.ver))
  last_told (m ∷ ms) =
      last_append name_of same_exec x (committed_in p w m.body) (flat_map (λ (n : Envelope). committed_in p w n.body) ms)
      ∙ (ap (λ o. option_or o (last_exec x (committed_in p w m.body))) (last_told ms)
      ∙ (ap (option_or (cond (is_committed p w x) (exec_with x (attempt_at w x.ver) (last_content x ms)) None)) (by_body m.body)
      ∙ joined x (is_committed p w x) (attempt_at w x.ver) (last_content x ms) (content_for x m.body)))
