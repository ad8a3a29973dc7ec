-- Whether a version has a committed content, by the table of contents.
use Rattle.std.proofs.Common.{◌≡◌, inl, inr, Bool, true, false, cond, List, [], ◌∷◌, refl, ap, sym, subst, ◌∙◌, Option, Some, None, ◌||◌, ◌&&◌}
use Rattle.std.specs.Prelude.{not, find, option_map}
use Rattle.std.specs.List.{list_any}
use Rattle.morty_base.proofs.Orders.{same_exec_tells, same_version_tells}
use Rattle.protocol.specs.Words.{Version, Exec, before, same_version, same_exec, Content, Kept}
use Rattle.protocol.specs.Lists.{IsIn}
use Rattle.protocol.specs.Replica.Taken.{Handled, dropped}
use Rattle.protocol.specs.Replica.Acceptor.{commits}
use Rattle.mv_index.specs.ContentTable.{HasVersion}
use Rattle.mv_index.specs.HeldByExec.{committed_content, has_commit}
use Rattle.mv_index.proofs.Values.{find_in, commit_found}

pub any_in : {A : Type 0} (p : A → Bool) (xs : List A) → list_any p xs ≡ true → (a : A) × IsIn a xs × (p a ≡ true)
any_in p [] e = absurd cc
any_in {A} p (x ∷ xs) e = go (p x) refl e (any_in p xs)
  where
    go : (t : Bool) → p x ≡ t → (t || list_any p xs) ≡ true → (list_any p xs ≡ true → (a : A) × IsIn a xs × (p a ≡ true)) →
        (a : A) × IsIn a (x ∷ xs) × (p a ≡ true)
    go true f e more = (x, inl refl, f)
    go false f e more = let k = more e in (k.0, inr k.1, k.2)

pub in_any : {A : Type 0} (p : A → Bool) (xs : List A) (a : A) → IsIn a xs → p a ≡ true → list_any p xs ≡ true
in_any p [] a i e = absurd i
in_any p (x ∷ xs) a (inl q) e = ap (λ t. t || list_any p xs) (ap p (sym q) ∙ e)
in_any p (x ∷ xs) a (inr i) e = go (p x) (in_any p xs a i e)
  where
    go : (t : Bool) → list_any p xs ≡ true → (t || list_any p xs) ≡ true
    go true f = refl
    go false f = f

found_above : (h : Handled) (x : Exec) (c : Content) (o : Option Content) → o ≡ cond (before (dropped h) x.ver) (committed_content h x) None → o ≡ Some c →
    committed_content h x ≡ Some c
found_above h x c o f e = go (before (dropped h) x.ver) (sym f ∙ e)
  where
    go : (t : Bool) → cond t (committed_content h x) None ≡ Some c → committed_content h x ≡ Some c
    go true e = e
    go false e = absurd cc

committed_is : (h : Handled) (x : Exec) (c : Content) → committed_content h x ≡ Some c → (d : Kept) × IsIn d (commits h) × (x ≡ d.exec)
committed_is h x c e = go (find (λ d. same_exec x d.exec) (commits h)) refl e
  where
    go : (o : Option Kept) → find (λ d. same_exec x d.exec) (commits h) ≡ o → option_map (λ (d : Kept). d.content) o ≡ Some c → (d : Kept) × IsIn d (commits h)
        × (x ≡ d.exec)
    go None f e = absurd cc
    go (Some d) f e =
        let i = find_in (λ (d : Kept). same_exec x d.exec) (commits h) d f in
        (d, i.0, elim (same_exec_tells x d.exec) [ inl s ↦ s.1 | inr s ↦ absurd (cc (s.0, i.1)) ])

pub has_commit_is : (h : Handled) (f : Exec → Option Content) (v : Version) (b : Bool) →
    ((x : Exec) → f x ≡ cond (before (dropped h) x.ver) (committed_content h x) None) → before (dropped h) v ≡ true → HasVersion f v b → b ≡ has_commit h v
has_commit_is h f v true e above (x, c, g, s) =
    let k = committed_is h x c (found_above h x c (f x) (e x) g) in
    sym (in_any (λ (d : Kept). same_version v d.exec.ver) (commits h) k.0 k.1 (subst (λ (y : Exec). same_version v y.ver ≡ true) k.2 s))
has_commit_is h f v false e above none = go (has_commit h v) refl
  where
    go : (t : Bool) → has_commit h v ≡ t → false ≡ t
    go false g = refl
    go true g =
        let k = any_in (λ (d : Kept). same_version v d.exec.ver) (commits h) g in
        let d = k.0 in
        let same : v ≡ d.exec.ver = elim (same_version_tells v d.exec.ver) [ inl s ↦ s.1 | inr s ↦ absurd (cc (s.0, k.2)) ] in
        let there : f d.exec ≡ Some d.content = e d.exec ∙ (ap (λ t. cond t (committed_content h d.exec) None)
        (subst (λ u. before (dropped h) u ≡ true) same above) ∙ ap (option_map (λ (d : Kept). d.content)) (commit_found h d k.1)) in
        let missing : f d.exec ≡ None = none d.exec k.2 in
        absurd cc

pub counting_is : (h : Handled) (x : Exec) (committed blocked result : Bool) (b : Bool) → before (dropped h) x.ver ≡ true → committed ≡ has_commit h x.ver →
    blocked ≡ (before (dropped h) x.ver && b) → result ≡ (not committed && not blocked) → result ≡ (not (has_commit h x.ver) && not b)
counting_is h x committed blocked result b above ce be re =
    re ∙ (ap (λ t. not t && not blocked) ce ∙ ap (λ t. not (has_commit h x.ver) && not t) (be ∙ ap (λ t. t && b) above))
