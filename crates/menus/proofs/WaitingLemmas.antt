-- What is kept tells which executions wait, and one more envelope or a client that stops changes it as the definitions say.
use Rattle.std.proofs.Common.{◌≡◌, ℕ, zero, suc, ◌-◌, ◌<◌, Bool, true, false, cond, List, [], ◌∷◌, ◌++◌, Option, Some, None, length, refl, ap, sym}
use Rattle.std.proofs.Common.{◌∙◌, arith}
use Rattle.std.specs.Prelude.{◌&&◌, ◌||◌, ◌==◌, not}
use Rattle.std.specs.List.{list_any, slice_get}
use Rattle.std.specs.Ordering.{is_eq, is_gt}
use Rattle.std.specs.BTreeMap.{is_at}
use Rattle.std.specs.BTreeSet.{contains}
use Rattle.std.proofs.lemmas.Bool.{and_parts}
use Rattle.std.proofs.lemmas.Bool.Decides.{nat_tests}
use Rattle.std.proofs.lemmas.List.Folds.{list_any-append}
use Rattle.std.proofs.lemmas.Map.Keys.{any_passes_from_place}
use Rattle.protocol.specs.Words.{NodeId, Client, Exec, same_node, same_exec, exec_before, before, same_version, Envelope, Body, Write, Content}
use Rattle.protocol.specs.Words.{Choice, Puts, Prepare, Decide}
use Rattle.menus.specs.Shown.{begun_by, decides_on, is_waiting}
use Rattle.menus.specs.Waiting.{exec_cmp, is_one, is_begun, is_decided, waits, waits_in, waits_among, AreWaiting}
use Rattle.menus.specs.declared.waiting.Undecided.{Undecided}
use Rattle.menus.specs.declared.waiting.Waiting.{Waiting}

-- ---- the order of a set's keys

pub exec_eq : (a b : Exec) → is_eq (exec_cmp a b) ≡ same_exec b a
unfolding same_exec
exec_eq a b = grind (arith, nat_tests)

pub exec_gt : (a b : Exec) → is_gt (exec_cmp a b) ≡ exec_before b a
unfolding exec_before before same_version
exec_gt a b = grind (arith, nat_tests)

-- one more in a set, or one fewer
pub one_more : (x y : Exec) (now was : Bool) → now ≡ cond (is_at (exec_cmp x) y) true was → now ≡ (same_exec y x || was)
one_more x y now was e = e ∙ (ap (λ t. cond t true was) (exec_eq x y) ∙ go (same_exec y x))
  where
    go : (t : Bool) → cond t true was ≡ (t || was)
    go true = refl
    go false = refl

pub one_fewer : (x y : Exec) (now was : Bool) → now ≡ cond (is_at (exec_cmp x) y) false was → now ≡ (not (same_exec y x) && was)
one_fewer x y now was e = e ∙ (ap (λ t. cond t false was) (exec_eq x y) ∙ go (same_exec y x))
  where
    go : (t : Bool) → cond t false was ≡ (not t && was)
    go true = refl
    go false = refl

-- ---- tests

pub or_false : (a : Bool) → (a || false) ≡ a
or_false true = refl
or_false false = refl

same_tests : (a b : Bool) → (a ≡ true → b ≡ true) → (b ≡ true → a ≡ true) → a ≡ b
same_tests true b f g = sym (f refl)
same_tests false true f g = g refl
same_tests false false f g = refl

any_place : {A : Type 0} (p : A → Bool) (xs : List A) → list_any p xs ≡ true → (i : ℕ) × (x : A) × (slice_get xs i ≡ Some x) × (p x ≡ true)
any_place p [] e = absurd (cc e)
any_place {A = A} p (x ∷ xs) e = go (p x) refl e (any_place p xs)
  where
    go : (t : Bool) → p x ≡ t → (t || list_any p xs) ≡ true → (list_any p xs ≡ true → (i : ℕ) × (y : A) × (slice_get xs i ≡ Some y) × (p y ≡ true)) →
        (i : ℕ) × (y : A) × (slice_get (x ∷ xs) i ≡ Some y) × (p y ≡ true)
    go true f e more = (zero, x, refl, f)
    go false f e more = let k = more e in (suc k.0, k.1, k.2, k.3)

-- ---- which executions wait

pub among : (n : ℕ) (mail : List Envelope) (stopped : List NodeId) (s : Waiting) → AreWaiting n mail stopped s → (x : Exec) →
    waits_among s.clients.items x ≡ waits mail stopped x
among n mail stopped s are x = same_tests (waits_among s.clients.items x) (waits mail stopped x) down up
  where
    down : waits_among s.clients.items x ≡ true → waits mail stopped x ≡ true
    down e =
        let at = any_place (λ u. waits_in u x) s.clients.items e in
        let u = are.each at.0 at.1 at.2 in
        let both = and_parts at.1.is_stopped (contains exec_cmp at.1.execs x) at.3 in
        let undecided = and_parts (x.ver.client == suc at.0) (is_begun mail x && not (is_decided mail x)) (sym (u.execs x) ∙ both.1) in
        let parts = and_parts (is_begun mail x) (not (is_decided mail x)) undecided.1 in
        let number : x.ver.client ≡ suc at.0 = let t = undecided.0 in grind (arith, nat_tests) in
        let st : list_any (same_node (Client x.ver.client)) stopped ≡ true =
        ap (λ c. list_any (same_node (Client c)) stopped) number ∙ (sym u.client_stopped ∙ both.0) in
        ap (λ t. t && (not (is_decided mail x) && list_any (same_node (Client x.ver.client)) stopped)) parts.0
        ∙ (ap (λ t. t && list_any (same_node (Client x.ver.client)) stopped) parts.1 ∙ st)

    up : waits mail stopped x ≡ true → waits_among s.clients.items x ≡ true
    up e =
        let parts = and_parts (is_begun mail x) (is_waiting mail stopped x) e in
        let more = and_parts (not (is_decided mail x)) (list_any (same_node (Client x.ver.client)) stopped) parts.1 in
        let range = are.real x.ver.client more.1 in
        let k : ℕ = x.ver.client - 1 in
        let within : k < length s.clients.items = let c = are.count in grind (arith, nat_tests) in
        let number : x.ver.client ≡ suc k = grind (arith, nat_tests) in
        go k number within more.0 more.1 parts.0
      where
        go : (k : ℕ) → x.ver.client ≡ suc k → k < length s.clients.items → not (is_decided mail x) ≡ true →
            list_any (same_node (Client x.ver.client)) stopped ≡ true →
            is_begun mail x ≡ true → waits_among s.clients.items x ≡ true
        go k number within undecided st begun = go2 (slice_get s.clients.items k) refl
          where
            same : (x.ver.client == suc k) ≡ true
            same = grind (arith, nat_tests)

            go2 : (o : Option Undecided) → slice_get s.clients.items k ≡ o → waits_among s.clients.items x ≡ true
            go2 None e = absurd (some_there s.clients.items k within e)
              where
                some_there : (us : List Undecided) (k : ℕ) → k < length us → slice_get us k ≡ None → ⊥
                some_there [] k h e = absurd (omega arith)
                some_there (u ∷ us) zero h e = cc e
                some_there (u ∷ us) (suc k) h e = some_there us k (omega arith) e
            go2 (Some u) e =
                let is = are.each k u e in
                any_passes_from_place (λ v. waits_in v x) s.clients.items k u e
                (ap (λ t. t && contains exec_cmp u.execs x) (is.client_stopped ∙ ap (λ c. list_any (same_node (Client c)) stopped) (sym number) ∙ st)
                ∙ (is.execs x ∙ (ap (λ t. t && (is_begun mail x && not (is_decided mail x))) same
                ∙ (ap (λ t. t && not (is_decided mail x)) begun ∙ undecided))))

-- ---- one more envelope

pub begun_more : (mail : List Envelope) (m : Envelope) (x : Exec) → is_begun (mail ++ m ∷ []) x ≡ (is_begun mail x || is_one x (begun_by m.body))
begun_more mail m x = list_any-append (λ y. is_one x (begun_by y.body)) mail (m ∷ []) ∙ ap (λ t. is_begun mail x || t) (or_false (is_one x (begun_by m.body)))

pub decided_more : (mail : List Envelope) (m : Envelope) (x : Exec) → is_decided (mail ++ m ∷ []) x ≡ (is_decided mail x || decides_on x m.body)
decided_more mail m x = list_any-append (λ y. decides_on x y.body) mail (m ∷ []) ∙ ap (λ t. is_decided mail x || t) (or_false (decides_on x m.body))

pub begun_not_decided : (b : Body) (y : Exec) → begun_by b ≡ Some y → (x : Exec) → decides_on x b ≡ false
begun_not_decided (Decide z d c) y e x = absurd (cc e)
begun_not_decided _ y e x = refl

pub decided_not_begun : (b : Body) (x : Exec) → decides_on x b ≡ true → begun_by b ≡ None
decided_not_begun (Decide z d c) x e = refl
decided_not_begun _ x e = absurd (cc e)

-- an envelope that neither begins nor decides changes nothing
pub neither : (b : Body) → ((x : Exec) (ws : List Write) → b ≡ Puts x ws → ⊥) → ((x : Exec) (c : Content) → b ≡ Prepare x c → ⊥) →
    ((x : Exec) (d : Choice) (c : Option Content) → b ≡ Decide x d c → ⊥) →
    (begun_by b ≡ None) × ((x : Exec) → decides_on x b ≡ false)
neither (Puts x ws) p q r = absurd (p x ws refl)
neither (Prepare x c) p q r = absurd (q x c refl)
neither (Decide x d c) p q r = absurd (r x d c refl)
neither _ p q r = (refl, λ x. refl)
