-- The best of a list, where the list is a function of executions.
use Rattle.std.proofs.Common.{◌≡◌, ◌⊎◌, inl, inr, Bool, true, false, cond, List, [], ◌∷◌, ◌++◌, refl, ap, sym, subst, ◌∙◌, Option, Some, None, arith, ◌&&◌}
use Rattle.std.proofs.lemmas.Bool.Decides.{nat_tests}
use Rattle.morty_base.proofs.Orders.{wid_before_total, exec_before_total}
use Rattle.protocol.specs.Words.{Version, Exec, Wid, before, same_version, exec_before, wid_before}
use Rattle.protocol.specs.declared.Held.{Held}
use Rattle.protocol.specs.Lists.{IsIn}
use Rattle.protocol.specs.Replica.Held.{best_below}
use Rattle.mv_index.specs.WriteIndex.{IsLastBelow, better, best_with}

pub best_below_append : (v : Version) (b : Held) (xs ys : List Held) → best_below v b (xs ++ ys) ≡ best_below v (best_below v b xs) ys
best_below_append v b [] ys = refl
best_below_append v b (x ∷ xs) ys = best_below_append v (better v b x) xs ys

-- what is the best of a list and a first one
pub record IsBest (v : Version) (b : Held) (xs : List Held) (r : Held) : Type 0 where
  pub among : (r ≡ b) ⊎ (IsIn r xs × (before r.wid.ver v ≡ true) × (wid_before b.wid r.wid ≡ true))
  pub most : (a : Held) → IsIn a xs → before a.wid.ver v ≡ true → wid_before r.wid a.wid ≡ false
  pub first : wid_before r.wid b.wid ≡ false

-- no later than, one after another
up_to_up_to : (a b c : Wid) → wid_before a b ≡ false → wid_before b c ≡ false → wid_before a c ≡ false
up_to_up_to a b c p q = go (wid_before a c) refl
  where
    go : (t : Bool) → wid_before a c ≡ t → wid_before a c ≡ false
    go false e = e
    go true e = by_order (wid_before c b) refl
      where
        by_order : (s : Bool) → wid_before c b ≡ s → wid_before a c ≡ false
        by_order true f = let g : wid_before a b ≡ true = wid_before_total.transitive a c b e f in absurd cc
        by_order false f = let g : b ≡ c = wid_before_total.total b c q f in let i : wid_before a c ≡ false = subst (λ w. wid_before a w ≡ false) g p in i

best_step : (v : Version) (b x : Held) (xs : List Held) (r : Held) → IsBest v (better v b x) xs r → IsBest v b (x ∷ xs) r
best_step v b x xs r k = go (before x.wid.ver v) (wid_before b.wid x.wid) refl refl k
  where
    go : (s t : Bool) → before x.wid.ver v ≡ s → wid_before b.wid x.wid ≡ t → IsBest v (cond (s && t) x b) xs r → IsBest v b (x ∷ xs) r
    go true true e f k = record {
      among = elim k.among [
        | inl q ↦ inr (inl q, subst (λ (a : Held). before a.wid.ver v ≡ true) (sym q) e, subst (λ (a : Held). wid_before b.wid a.wid ≡ true) (sym q) f)
        | inr q ↦ inr (inr q.0, q.1, wid_before_total.transitive b.wid x.wid r.wid f q.2)
      ];
      most = λ a i g. elim i [ inl q ↦ subst (λ (y : Held). wid_before r.wid y.wid ≡ false) (sym q) k.first | inr j ↦ k.most a j g ];
      first = up_to_up_to r.wid x.wid b.wid k.first (not_after b.wid x.wid f);
    }
      where
        not_after : (a c : Wid) → wid_before a c ≡ true → wid_before c a ≡ false
        not_after a c f = by (wid_before c a) refl
          where
            by : (t : Bool) → wid_before c a ≡ t → wid_before c a ≡ false
            by false g = g
            by true g = let z : wid_before a a ≡ true = wid_before_total.transitive a c a f g in
                let y : wid_before a a ≡ false = wid_before_total.irreflexive a in absurd cc
    go true false e f k = record {
      among = elim k.among [ inl q ↦ inl q | inr q ↦ inr (inr q.0, q.1, q.2) ];
      most = λ a i g. elim i [
        | inl q ↦ subst (λ (y : Held). wid_before r.wid y.wid ≡ false) (sym q) (up_to_up_to r.wid b.wid x.wid k.first f)
        | inr j ↦
            k.most a j g
      ];
      first = k.first;
    }
    go false t e f k = record {
      among = elim k.among [ inl q ↦ inl q | inr q ↦ inr (inr q.0, q.1, q.2) ];
      most = λ a i g. elim i [
        | inl q ↦ let z : before x.wid.ver v ≡ true = subst (λ (y : Held). before y.wid.ver v ≡ true) q g in
            absurd cc
        | inr j ↦ k.most a j g
      ];
      first = k.first;
    }

pub best_is : (v : Version) (b : Held) (xs : List Held) → IsBest v b xs (best_below v b xs)
best_is v b [] = record { among = inl refl; most = λ a i g. absurd i; first = wid_before_total.irreflexive b.wid }
best_is v b (x ∷ xs) = best_step v b x xs (best_below v (better v b x) xs) (best_is v (better v b x) xs)

-- the execution of a write
abbrev pub exec_of : Wid → Exec
exec_of w = record { ver = w.ver; eid = w.eid }

-- the list has just the values of f, each of its execution
pub record AreValues (f : Exec → Option Held) (xs : List Held) : Type 0 where
  pub sound : (a : Held) → IsIn a xs → f (exec_of a.wid) ≡ Some a
  pub complete : (x : Exec) (a : Held) → f x ≡ Some a → IsIn a xs × (exec_of a.wid ≡ x)

wid_exec : (a b : Wid) → wid_before a b ≡ false → exec_before (exec_of a) (exec_of b) ≡ false
unfolding wid_before exec_before before same_version
wid_exec a b e = grind (arith, nat_tests)

pub best_of_values : (v : Version) (b : Held) (f : Exec → Option Held) (xs : List Held) (o : Option Held) → AreValues f xs → IsLastBelow v f o →
    best_below v b xs ≡ best_with v b o
best_of_values v b f xs None k last = go (best_is v b xs)
  where
    go : IsBest v b xs (best_below v b xs) → best_below v b xs ≡ b
    go i = elim i.among [ inl q ↦ q | inr q ↦ let none : f (exec_of (best_below v b xs).wid) ≡ None = last _ q.1 in let some = k.sound _ q.0 in absurd cc ]
best_of_values v b f xs (Some m) k (x, below, is, most) = go (wid_before b.wid m.wid) refl (best_is v b xs)
  where
    r : Held
    r = best_below v b xs

    mine : IsIn m xs × (exec_of m.wid ≡ x)
    mine = k.complete x m is

    below_m : before m.wid.ver v ≡ true
    below_m = subst (λ (y : Exec). before y.ver v ≡ true) (sym mine.1) below

    same : (r' : Held) → IsIn r' xs → before r'.wid.ver v ≡ true → wid_before r'.wid m.wid ≡ false → r' ≡ m
    same r' i g h =
        let no_less : exec_before x (exec_of r'.wid) ≡ false = most (exec_of r'.wid) r' g (k.sound r' i) in
        let no_more : exec_before (exec_of r'.wid) x ≡ false = subst (λ y. exec_before (exec_of r'.wid) y ≡ false) mine.1 (wid_exec r'.wid m.wid h) in
        let at : exec_of r'.wid ≡ x = exec_before_total.total (exec_of r'.wid) x no_more no_less in
        let both : f x ≡ Some r' = subst (λ y. f y ≡ Some r') at (k.sound r' i) in
        cc

    go : (t : Bool) → wid_before b.wid m.wid ≡ t → IsBest v b xs (best_below v b xs) → best_below v b xs ≡ better v b m
    go t e i = elim i.among [ inl q ↦ by_first t e q | inr q ↦ by_one t e q ]
      where
        by_first : (t : Bool) → wid_before b.wid m.wid ≡ t → best_below v b xs ≡ b → best_below v b xs ≡ better v b m
        by_first true e q = let z : wid_before b.wid m.wid ≡ false = subst (λ (y : Held). wid_before y.wid m.wid ≡ false) q (i.most m mine.0 below_m) in
            absurd cc
        by_first false e q = q ∙ sym (ap (λ t. cond (t && wid_before b.wid m.wid) m b) below_m ∙ ap (λ t. cond t m b) e)

        by_one : (t : Bool) → wid_before b.wid m.wid ≡ t → IsIn (best_below v b xs) xs × (before (best_below v b xs).wid.ver v ≡ true)
            × (wid_before b.wid (best_below v b xs).wid ≡ true) → best_below v b xs ≡ better v b m
        by_one t e q =
            let s = same (best_below v b xs) q.0 q.1 (i.most m mine.0 below_m) in
            let later : wid_before b.wid m.wid ≡ true = subst (λ (y : Held). wid_before b.wid y.wid ≡ true) s q.2 in
            s ∙ sym (ap (λ t. cond (t && wid_before b.wid m.wid) m b) below_m ∙ ap (λ t. cond t m b) later)

-- the last of one function is that of another that is the same
pub last_same : (v : Version) (f g : Exec → Option Held) (o : Option Held) → ((x : Exec) → f x ≡ g x) → IsLastBelow v f o → IsLastBelow v g o
last_same v f g None e k = λ x b. sym (e x) ∙ k x b
last_same v f g (Some a) e (x, b, i, m) = (x, b, sym (e x) ∙ i, λ y c d j. m y c d (e y ∙ j))
