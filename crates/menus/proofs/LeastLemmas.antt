-- The least of the executions that pass a test is told by two of them at a time, and it is the one that the definition names.
use Rattle.std.proofs.Common.{◌≡◌, ◌⊎◌, inl, inr, Bool, true, false, cond, List, [], ◌∷◌, Option, Some, None, refl, ap, sym, subst, ◌∙◌}
use Rattle.std.specs.Prelude.{◌&&◌, ◌||◌}
use Rattle.morty_base.proofs.Orders.{exec_before_total, same_exec_tells}
use Rattle.protocol.specs.Words.{NodeId, Exec, same_exec, exec_before, Envelope}
use Rattle.menus.specs.Shown.{begun_by, is_waiting, lesser, where_waiting, least_waiting}
use Rattle.menus.specs.Waiting.{IsLeast, is_one, is_begun, waits}

-- ---- the order of executions

not_both : (x y : Exec) → exec_before y x ≡ true → exec_before x y ≡ false
not_both x y e = go (exec_before x y) refl
  where
    go : (t : Bool) → exec_before x y ≡ t → t ≡ false
    go false f = refl
    go true f = let loop : exec_before x x ≡ true = exec_before_total.transitive x y x f e in sym loop ∙ exec_before_total.irreflexive x

-- what is not before what is not before x is not before x
not_before : (z y x : Exec) → exec_before z y ≡ false → exec_before y x ≡ false → exec_before z x ≡ false
not_before z y x a b = go (exec_before z x) refl (exec_before y z) refl
  where
    go : (t : Bool) → exec_before z x ≡ t → (s : Bool) → exec_before y z ≡ s → t ≡ false
    go false e s f = refl
    go true e true f = sym (exec_before_total.transitive y z x f e) ∙ b
    go true e false f =
        let same : z ≡ y = exec_before_total.total z y a f in
        sym e ∙ subst (λ u. exec_before u x ≡ false) (sym same) b

-- ---- tests

pub same_least : (p q : Exec → Bool) (o : Option Exec) → ((x : Exec) → p x ≡ q x) → IsLeast p o → IsLeast q o
same_least p q None e h = λ x. sym (e x) ∙ h x
same_least p q (Some x) e h = (sym (e x) ∙ h.0, λ y k. h.1 y (e y ∙ k))

or_left : (a b : Bool) → a ≡ true → (a || b) ≡ true
or_left true b e = refl
or_left false b e = absurd (cc e)

or_right : (a b : Bool) → b ≡ true → (a || b) ≡ true
or_right true b e = refl
or_right false b e = e

one_of : (a b : Bool) → (a || b) ≡ true → (a ≡ true) ⊎ (b ≡ true)
one_of true b e = inl refl
one_of false b e = inr e

-- the lesser of the least of two tests is the least of those that pass either
pub least_of_two : (p q : Exec → Bool) (a b : Option Exec) → IsLeast p a → IsLeast q b → IsLeast (λ x. p x || q x) (lesser a b)
least_of_two p q None b h k = same_least q (λ x. p x || q x) b (λ x. sym (ap (λ t. t || q x) (h x))) k
least_of_two p q (Some x) None h k = (or_left (p x) (q x) h.0, λ y e. elim (one_of (p y) (q y) e) [ inl f ↦ h.1 y f | inr f ↦ absurd (cc (k y, f)) ])
least_of_two p q (Some x) (Some y) h k = go (exec_before y x) refl
  where
    go : (t : Bool) → exec_before y x ≡ t → IsLeast (λ z. p z || q z) (Some (cond t y x))
    go true e = (or_right (p y) (q y) k.0, λ z f. elim (one_of (p z) (q z) f) [ inl g ↦ not_before z x y (h.1 z g) (not_both x y e) | inr g ↦ k.1 z g ])
    go false e = (or_left (p x) (q x) h.0, λ z f. elim (one_of (p z) (q z) f) [ inl g ↦ h.1 z g | inr g ↦ not_before z y x (k.1 z g) e ])

-- there is one least
pub one_least : (p q : Exec → Bool) (a b : Option Exec) → ((x : Exec) → p x ≡ q x) → IsLeast p a → IsLeast q b → a ≡ b
one_least p q a b e h k = go a b (same_least p q a e h) k
  where
    go : (a b : Option Exec) → IsLeast q a → IsLeast q b → a ≡ b
    go None None h k = refl
    go None (Some y) h k = absurd (cc (h y, k.0))
    go (Some x) None h k = absurd (cc (k x, h.0))
    go (Some x) (Some y) h k = ap (λ z. Some z) (exec_before_total.total x y (k.1 x h.0) (h.1 y k.0))

-- ---- the definition

same_self : (x : Exec) → same_exec x x ≡ true
same_self x = elim (same_exec_tells x x) [ inl s ↦ s.0 | inr s ↦ absurd (s.1 refl) ]

module _ (mail : List Envelope) (stopped : List NodeId) where
  least_one : (o : Option Exec) → IsLeast (λ x. is_one x o && is_waiting mail stopped x) (where_waiting mail stopped o)
  least_one None = λ x. refl
  least_one (Some y) = go (is_waiting mail stopped y) refl
    where
      go : (t : Bool) → is_waiting mail stopped y ≡ t → IsLeast (λ x. same_exec x y && is_waiting mail stopped x) (cond t (Some y) None)
      go true e = (
        ap (λ s. s && is_waiting mail stopped y) (same_self y) ∙ e,
        λ z k. elim (same_exec_tells z y) [
          | inl s ↦ subst (λ u. exec_before u y ≡ false) (sym s.1) (exec_before_total.irreflexive y)
          | inr s ↦ absurd (let f : false ≡ true = sym (ap (λ t. t && is_waiting mail stopped z) s.0) ∙ k in cc f)
        ],
      )
      go false e = λ z. elim (same_exec_tells z y) [
        | inl s ↦ ap (λ t. t && is_waiting mail stopped z) s.0 ∙ subst (λ u. is_waiting mail stopped u ≡ false) (sym s.1) e
        | inr s ↦ ap (λ t. t && is_waiting mail stopped z) s.0
      ]

  spread : (a b c : Bool) → ((a && c) || (b && c)) ≡ ((a || b) && c)
  spread true b true = refl
  spread true true false = refl
  spread true false false = refl
  spread false b c = refl

  least_in : (ms : List Envelope) → IsLeast (λ x. is_begun ms x && is_waiting mail stopped x) (least_waiting mail stopped ms)
  least_in [] = λ x. refl
  least_in (m ∷ ms) =
      same_least (λ x. (is_one x (begun_by m.body) && is_waiting mail stopped x) || (is_begun ms x && is_waiting mail stopped x))
      (λ x. is_begun (m ∷ ms) x && is_waiting mail stopped x) (lesser (where_waiting mail stopped (begun_by m.body)) (least_waiting mail stopped ms))
      (λ x. spread (is_one x (begun_by m.body)) (is_begun ms x) (is_waiting mail stopped x))
      (least_of_two (λ x. is_one x (begun_by m.body) && is_waiting mail stopped x) (λ x. is_begun ms x && is_waiting mail stopped x)
      (where_waiting mail stopped (begun_by m.body)) (least_waiting mail stopped ms) (least_one (begun_by m.body)) (least_in ms))

-- of the executions that wait the definition names the least
pub least_waits : (mail : List Envelope) (stopped : List NodeId) → IsLeast (waits mail stopped) (least_waiting mail stopped mail)
least_waits mail stopped = least_in mail stopped mail
