-- Conflicts with the contents of a table, and with those that are committed.
use Rattle.std.proofs.Common.{◌≡◌, inl, inr, Bool, true, false, cond, List, [], ◌∷◌, Option, Some, None, refl, ap, sym, subst, ◌∙◌, ◌&&◌}
use Rattle.std.specs.Prelude.{find, option_map}
use Rattle.std.specs.List.{list_any, AllByRecursion}
use Rattle.std.specs.List.Sorted.{IsStrictlySortedBy}
use Rattle.std.specs.Map.{lookup, keys_of}
use Rattle.std.specs.Ordering.{is_eq}
use Rattle.std.specs.BTreeMap.{is_at}
use Rattle.std.specs.declared.cmp.Ordering.TheVariants.{Less}
use Rattle.std.proofs.lemmas.Map.Keys.{sorted_head, sorted_tail}
use Rattle.morty_base.proofs.Orders.{same_exec_tells}
use Rattle.protocol.specs.Words.{Exec, before, same_exec, Content, Kept}
use Rattle.protocol.specs.Lists.{IsIn}
use Rattle.protocol.specs.Replica.Taken.{Handled, dropped}
use Rattle.protocol.specs.Replica.Acceptor.{commits}
use Rattle.protocol.specs.Replica.Votes.{conflicts, clashes_with_commit}
use Rattle.protocol.proofs.TestLemmas.{and_left, and_right}
use Rattle.mv_index.specs.HeldByExec.{committed_content}
use Rattle.mv_index.specs.Orders.{exec_cmp}
use Rattle.mv_index.specs.ContentTable.{HasConflict}
use Rattle.mv_index.proofs.Counting.{any_in, in_any}
use Rattle.mv_index.proofs.TableOrder.{exec_eq}
use Rattle.mv_index.proofs.Values.{find_in, commit_found}

-- ---- the entries of a table

same_exec_is : (x y : Exec) → same_exec x y ≡ true → x ≡ y
same_exec_is x y e = elim (same_exec_tells x y) [ inl q ↦ q.1 | inr q ↦ absurd (cc (q.0, e)) ]

at_self : (x : Exec) → is_at (exec_cmp x) x ≡ true
at_self x = exec_eq x x ∙ elim (same_exec_tells x x) [ inl q ↦ q.0 | inr q ↦ absurd (q.1 refl) ]

pub less_than : (x : Exec) (es : List (Exec × Content)) (f : Exec × Content) → AllByRecursion (λ y. exec_cmp x y ≡ Less) (keys_of es) → IsIn f es →
    exec_cmp x f.0 ≡ Less
less_than x [] f s i = absurd i
less_than x (e ∷ es) f s (inl q) = subst (λ (z : Exec × Content). exec_cmp x z.0 ≡ Less) (sym q) s.0
less_than x (e ∷ es) f s (inr i) = less_than x es f s.1 i

not_at : (x y : Exec) → exec_cmp x y ≡ Less → is_at (exec_cmp y) x ≡ false
not_at x y l = go (is_at (exec_cmp y) x) refl
  where
    go : (t : Bool) → is_at (exec_cmp y) x ≡ t → t ≡ false
    go false e = refl
    go true e =
        let same : x ≡ y = same_exec_is x y (sym (exec_eq y x) ∙ e) in
        let less : exec_cmp x x ≡ Less = subst (λ z. exec_cmp x z ≡ Less) (sym same) l in
        let z : is_eq Less ≡ true = ap is_eq (sym less) ∙ at_self x in
        absurd (cc z)

-- an entry is what its key has
pub entry_found : (es : List (Exec × Content)) (f : Exec × Content) → IsStrictlySortedBy exec_cmp (keys_of es) → IsIn f es →
    lookup (is_at (exec_cmp f.0)) es ≡ Some f.1
entry_found [] f s i = absurd i
entry_found (e ∷ es) f s (inl q) = ap (λ t. cond t (Some e.1) (lookup (is_at (exec_cmp f.0)) es)) (ap (λ (z : Exec × Content). is_at (exec_cmp z.0) e.0) q
    ∙ at_self e.0) ∙ ap (λ (z : Exec × Content). Some z.1) (sym q)
entry_found (e ∷ es) f s (inr i) =
    ap (λ t. cond t (Some e.1) (lookup (is_at (exec_cmp f.0)) es)) (not_at e.0 f.0 (less_than e.0 es f (sorted_head exec_cmp e.0 (keys_of es) s) i))
    ∙ entry_found es f (sorted_tail exec_cmp e.0 (keys_of es) s) i

pub lookup_in : (x : Exec) (es : List (Exec × Content)) (c : Content) → lookup (is_at (exec_cmp x)) es ≡ Some c → (e : Exec × Content) × IsIn e es × (x ≡ e.0)
    × (e.1 ≡ c)
lookup_in x [] c g = absurd cc
lookup_in x (e ∷ es) c g = go (is_at (exec_cmp x) e.0) refl g (lookup_in x es c)
  where
    go : (t : Bool) → is_at (exec_cmp x) e.0 ≡ t → cond t (Some e.1) (lookup (is_at (exec_cmp x)) es) ≡ Some c →
        (lookup (is_at (exec_cmp x)) es ≡ Some c → (f : Exec × Content) × IsIn f es × (x ≡ f.0) × (f.1 ≡ c)) → (f : Exec × Content) × IsIn f (e ∷ es)
        × (x ≡ f.0) × (f.1 ≡ c)
    go true h g more = let q : e.1 ≡ c = cc in (e, inl refl, sym (same_exec_is e.0 x (sym (exec_eq x e.0) ∙ h)), q)
    go false h g more = let k = more g in (k.0, inr k.1, k.2, k.3)

-- ---- what is committed

found_above : (h : Handled) (x : Exec) (c : Content) (o : Option Content) → o ≡ cond (before (dropped h) x.ver) (committed_content h x) None → o ≡ Some c →
    (before (dropped h) x.ver ≡ true) × (committed_content h x ≡ Some c)
found_above h x c o f e = go (before (dropped h) x.ver) refl (sym f ∙ e)
  where
    go : (t : Bool) → before (dropped h) x.ver ≡ t → cond t (committed_content h x) None ≡ Some c → (before (dropped h) x.ver ≡ true)
        × (committed_content h x ≡ Some c)
    go true b e = (b, e)
    go false b e = absurd cc

committed_kept : (h : Handled) (x : Exec) (c : Content) → committed_content h x ≡ Some c → (d : Kept) × IsIn d (commits h) × (x ≡ d.exec) × (d.content ≡ c)
committed_kept h x c e = go (find (λ (d : Kept). same_exec x d.exec) (commits h)) refl e
  where
    go : (o : Option Kept) → find (λ (d : Kept). same_exec x d.exec) (commits h) ≡ o → option_map (λ (d : Kept). d.content) o ≡ Some c →
        (d : Kept) × IsIn d (commits h) × (x ≡ d.exec) × (d.content ≡ c)
    go None f e = absurd cc
    go (Some d) f e = let k = find_in (λ (d : Kept). same_exec x d.exec) (commits h) d f in let q : d.content ≡ c = cc in (d, k.0, same_exec_is x d.exec k.1, q)

-- a table of the committed contents above the dropped version tells of conflicts with these
pub commit_clash : (h : Handled) (f : Exec → Option Content) (y : Exec) (c : Content) (t : Bool) →
    ((x : Exec) → f x ≡ cond (before (dropped h) x.ver) (committed_content h x) None) → HasConflict f y.ver c t →
    t ≡ list_any (clashes_with_commit h y c) (commits h)
commit_clash h f y c true e (x, d, g, k) =
    let above = found_above h x d (f x) (e x) g in
    let (q, i, p, s) = committed_kept h x d above.1 in
    sym (in_any (clashes_with_commit h y c) (commits h) q i
    (ap (λ (z : Exec). before (dropped h) z.ver && conflicts y.ver c z.ver q.content) (sym p)
    ∙ (ap (λ t. t && conflicts y.ver c x.ver q.content) above.0 ∙ (ap (conflicts y.ver c x.ver) s ∙ k))))
commit_clash h f y c false e none = go (list_any (clashes_with_commit h y c) (commits h)) refl
  where
    go : (t : Bool) → list_any (clashes_with_commit h y c) (commits h) ≡ t → false ≡ t
    go false g = refl
    go true g =
        let (d, i, p) = any_in (clashes_with_commit h y c) (commits h) g in
        let above = and_left (before (dropped h) d.exec.ver) (conflicts y.ver c d.exec.ver d.content) p in
        let clash = and_right (before (dropped h) d.exec.ver) (conflicts y.ver c d.exec.ver d.content) p in
        let there : f d.exec ≡ Some d.content = e d.exec ∙ (ap (λ t. cond t (committed_content h d.exec) None) above
        ∙ ap (option_map (λ (k : Kept). k.content)) (commit_found h d i)) in
        let z = none d.exec d.content there in
        absurd (cc (z, clash))
