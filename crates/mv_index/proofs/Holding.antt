-- Whether a write is held.
use Rattle.std.proofs.Common.{◌≡◌, inl, inr, Bool, true, false, cond, List, [], ◌∷◌, ◌++◌, refl, ap, sym, subst, ◌∙◌, Option, Some, None, ◌&&◌, ◌||◌}
use Rattle.std.specs.Prelude.{not, filter, map}
use Rattle.std.specs.List.{list_any, filter_map}
use Rattle.morty_base.proofs.Orders.{same_wid_tells}
use Rattle.protocol.specs.Words.{Key, Exec, Wid, before, same_version, same_key, same_wid, BaseEntry}
use Rattle.protocol.specs.declared.Held.{Held}
use Rattle.protocol.specs.declared.First2.{First2}
use Rattle.protocol.specs.Replica.Taken.{Handled, dropped, base}
use Rattle.protocol.specs.Replica.Acceptor.{commits}
use Rattle.protocol.specs.Replica.Held.{first_held, last_write, last_put, counting_put, kept_put, put_versions, held}
use Rattle.mv_index.specs.WriteIndex.{is_named}
use Rattle.mv_index.specs.HeldByExec.{sure_by, open_by, entries_of}
use Rattle.mv_index.proofs.Best.{AreValues, exec_of}
use Rattle.mv_index.proofs.Values.{sure_values}
use Rattle.mv_index.proofs.OpenValues.{open_values}
use Rattle.mv_index.proofs.Counting.{any_in, in_any}

pub any_append : {A : Type 0} (p : A → Bool) (xs ys : List A) → list_any p (xs ++ ys) ≡ (list_any p xs || list_any p ys)
any_append p [] ys = refl
any_append p (x ∷ xs) ys = ap (λ t. p x || t) (any_append p xs ys) ∙ assoc (p x) (list_any p xs) (list_any p ys)
  where
    assoc : (a b c : Bool) → (a || (b || c)) ≡ ((a || b) || c)
    assoc true b c = refl
    assoc false b c = refl

any_entries : (k : Key) (w : Wid) (bs : List BaseEntry) → list_any (λ (b : BaseEntry). same_key k b.key && same_wid w b.wid) bs
    ≡ list_any (λ (a : Held). same_wid w a.wid) (entries_of k bs)
any_entries k w [] = refl
any_entries k w (b ∷ bs) = go (same_key k b.key) (any_entries k w bs)
  where
    go : (t : Bool) → list_any (λ (b : BaseEntry). same_key k b.key && same_wid w b.wid) bs ≡ list_any (λ (a : Held). same_wid w a.wid) (entries_of k bs) →
        ((t && same_wid w b.wid) || list_any (λ (b : BaseEntry). same_key k b.key && same_wid w b.wid) bs)
        ≡ list_any (λ (a : Held). same_wid w a.wid) (map (λ (b : BaseEntry). record { wid = b.wid; value = b.value; sure = true })
        (cond t (b ∷ filter (λ (b : BaseEntry). same_key k b.key) bs) (filter (λ (b : BaseEntry). same_key k b.key) bs)))
    go true e = ap (λ t. same_wid w b.wid || t) e
    go false e = e

-- a list that has the values of a function has a name where the function has it
any_values : (w : Wid) (f : Exec → Option Held) (xs : List Held) → AreValues f xs → is_named w (f (exec_of w)) ≡ list_any (λ (a : Held). same_wid w a.wid) xs
any_values w f xs k = go (f (exec_of w)) refl (list_any (λ (a : Held). same_wid w a.wid) xs) refl
  where
    there : (t : Bool) → list_any (λ (a : Held). same_wid w a.wid) xs ≡ t → t ≡ true → (a : Held) × (f (exec_of w) ≡ Some a) × (same_wid w a.wid ≡ true)
    there t e g =
        let i = any_in (λ (a : Held). same_wid w a.wid) xs (e ∙ g) in
        let q : w ≡ i.0.wid = elim (same_wid_tells w i.0.wid) [ inl s ↦ s.1 | inr s ↦ absurd (cc (s.0, i.2)) ] in
        (i.0, subst (λ v. f (exec_of v) ≡ Some i.0) (sym q) (k.sound i.0 i.1), i.2)

    go : (o : Option Held) → f (exec_of w) ≡ o → (t : Bool) → list_any (λ (a : Held). same_wid w a.wid) xs ≡ t → is_named w o ≡ t
    go None e true g = let s = there true g refl in absurd (cc (s.1, e))
    go None e false g = refl
    go (Some a) e true g = let s = there true g refl in let q : s.0 ≡ a = cc (s.1, e) in subst (λ (b : Held). same_wid w b.wid ≡ true) q s.2
    go (Some a) e false g = by (same_wid w a.wid) refl
      where
        by : (t : Bool) → same_wid w a.wid ≡ t → same_wid w a.wid ≡ false
        by false h = h
        by true h = let z = in_any (λ (a : Held). same_wid w a.wid) xs a (k.complete (exec_of w) a e).0 h in absurd (cc (z, g))

pub holds_is : (firsts : List First2) (h : Handled) (k : Key) (w : Wid) →
    (same_wid w (first_held firsts k).wid || (list_any (λ (b : BaseEntry). same_key k b.key && same_wid w b.wid) (base h)
    || (is_named w (sure_by h k (exec_of w)) || is_named w (open_by h k (exec_of w))))) ≡ list_any (λ (a : Held). same_wid w a.wid) (held firsts h k)
unfolding held
holds_is firsts h k w =
    let committed = filter_map (λ c. last_write c.exec true 1 k c.content.writes) (filter (λ c. before (dropped h) c.exec.ver) (commits h)) in
    let others = filter_map (λ v. last_put k (counting_put h v (kept_put h v))) (filter
    (λ v. before (dropped h) v && not (list_any (λ c. same_version v c.exec.ver)
    (filter (λ c. before (dropped h) c.exec.ver) (commits h)))) (put_versions h)) in
    let test = λ (a : Held). same_wid w a.wid in
    ap (λ t. same_wid w (first_held firsts k).wid || t)
    (ap (λ t. t || (is_named w (sure_by h k (exec_of w)) || is_named w (open_by h k (exec_of w)))) (any_entries k w (base h))
    ∙ (ap (λ t. list_any test (entries_of k (base h)) || (t || is_named w (open_by h k (exec_of w)))) (any_values w (sure_by h k) committed (sure_values h k))
    ∙ (ap (λ t. list_any test (entries_of k (base h)) || (list_any test committed || t)) (any_values w (open_by h k) others (open_values h k))
    ∙ (ap (λ t. list_any test (entries_of k (base h)) || t) (sym (any_append test committed others))
    ∙ sym (any_append test (entries_of k (base h)) (committed ++ others))))))
