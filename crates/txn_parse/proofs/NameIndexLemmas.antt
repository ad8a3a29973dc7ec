-- An index that takes a further name has the places of the names with it.
use Rattle.std.proofs.Common.{◌≡◌, Ordering, ℕ, ◌+◌, Bool, true, false, not, ◌||◌, cond, List, [], ◌∷◌, ◌++◌, length, Option, Some, None, Vec, Global, refl, sym, ap, ◌∙◌, subst, arith}
use Rattle.std.specs.Option.{option_map}
use Rattle.std.specs.Cmp.Lexicographic.{slice_cmp}
use Rattle.std.specs.Ordering.{is_eq, nat_cmp, eq_by_cmp}
use Rattle.std.specs.Map.{lookup, IsKeyTest, AreApart, KeepsOthers}
use Rattle.std.specs.Str.{bytes_eq}
use Rattle.std.specs.BTreeMap.{BTreeMap, UpdatesBy, get_by, is_at}
use Rattle.std.proofs.lemmas.Bool.{cond_both}
use Rattle.std.proofs.lemmas.Cmp.{eq_by_cmp_equiv, nat_list_cmp_total, nat_list_eq_equiv}
use Rattle.std.proofs.lemmas.Map.Text.{is_eq-slice_cmp}
use Rattle.std.proofs.lemmas.Slice.Eq.{bytes_eq-Decides}
use Rattle.txn_parse.specs.Binding.{Names, is_known, place}
use Rattle.txn_parse.specs.NameIndex.{place_of, IsIndexOf}
use Rattle.txn_parse.specs.declared.name_index.NameIndex.{NameIndex}

or_false : (a b : Bool) → (a || b) ≡ false → (a ≡ false) × (b ≡ false)
or_false true b is = cc
or_false false b is = (refl, is)

-- a place behind a first name that is another one
one_on : (b : Bool) (n : ℕ) → cond b (Some (1 + n)) None ≡ option_map (λ n. 1 + n) (cond b (Some n) None)
one_on true n = refl
one_on false n = refl

one_back : (b c : Bool) (x : List ℕ) (xs : Names) (n : ℕ) →
    option_map (λ n. 1 + n) (cond b (Some (length xs)) (cond c (Some n) None)) ≡ cond b (Some (length (x ∷ xs))) (cond c (Some (1 + n)) None)
one_back true c x xs n = ap Some (let e : 1 + length xs ≡ length (x ∷ xs) = omega arith in e)
one_back false true x xs n = refl
one_back false false x xs n = refl

pub place_of-push : (names : Names) (name cs : List ℕ) → is_known names name ≡ false →
    place_of (names ++ name ∷ []) cs ≡ cond (bytes_eq name cs) (Some (length names)) (place_of names cs)
place_of-push [] name cs new = ap (λ b. cond (b || false) (Some (cond {A = ℕ} (not b) 1 0)) None) (nat_list_eq_equiv.symm cs name) ∙ go (bytes_eq name cs)
  where
    go : (b : Bool) → cond (b || false) (Some (cond {A = ℕ} (not b) 1 0)) None ≡ cond b (Some 0) None
    go true = refl
    go false = refl
place_of-push (x ∷ xs) name cs new = go (λ later. place_of-push xs name cs later) (bytes_eq cs x) refl
  where
    parts : (bytes_eq name x ≡ false) × (is_known xs name ≡ false)
    parts = or_false (bytes_eq name x) (is_known xs name) new

    go : (is_known xs name ≡ false → place_of (xs ++ name ∷ []) cs ≡ cond (bytes_eq name cs) (Some (length xs)) (place_of xs cs)) → (e : Bool) → bytes_eq cs x ≡ e →
        cond (e || is_known (xs ++ name ∷ []) cs) (Some (cond (not e) (1 + place (xs ++ name ∷ []) cs) 0)) None
        ≡ cond (bytes_eq name cs) (Some (length (x ∷ xs))) (cond (e || is_known xs cs) (Some (cond (not e) (1 + place xs cs) 0)) None)
    go behind true is =
        let apart : bytes_eq name cs ≡ false = nat_list_eq_equiv.symm name cs ∙ nat_list_eq_equiv.congr cs x name is ∙ nat_list_eq_equiv.symm x name ∙ parts.0 in
        ap (λ b. cond b (Some (length (x ∷ xs))) (Some 0)) (sym apart)
    go behind false is =
        one_on (is_known (xs ++ name ∷ []) cs) (place (xs ++ name ∷ []) cs)
        ∙ ap (option_map (λ n. 1 + n)) (behind parts.1)
        ∙ one_back (bytes_eq name cs) (is_known xs cs) x xs (place xs cs)

-- ---- what a map has once a key has a value

abbrev by_bytes : List ℕ → Vec ℕ Global → Ordering
by_bytes cs q = slice_cmp nat_cmp cs q.items

apart_keys : (bs cs ks : List ℕ) → bytes_eq bs cs ≡ false → is_eq (slice_cmp nat_cmp bs ks) ≡ true → is_eq (slice_cmp nat_cmp cs ks) ≡ false
apart_keys bs cs ks n y =
    is_eq-slice_cmp cs ks ∙ nat_list_eq_equiv.symm cs ks ∙ sym (nat_list_eq_equiv.congr bs ks cs (sym (is_eq-slice_cmp bs ks) ∙ y)) ∙ n

others : {X : Type 0} (eq : Vec ℕ Global → Vec ℕ Global → Bool) (test other : Vec ℕ Global → Bool) (old new : List (Vec ℕ Global × X)) →
    KeepsOthers eq test old new → IsKeyTest eq other → AreApart test other → lookup other new ≡ lookup other old
unfolding KeepsOthers
others eq test other old new keeps = keeps other

pub updated : {X : Type 0} (k : Vec ℕ Global) (m n : BTreeMap (Vec ℕ Global) X) (w : Option X) →
    UpdatesBy (λ x y. slice_cmp nat_cmp x.items y.items) (by_bytes k.items) m n w → (cs : List ℕ) →
    get_by (by_bytes cs) n ≡ cond (bytes_eq k.items cs) w (get_by (by_bytes cs) m)
updated {X} k m n w h cs =
    cond_both (bytes_eq k.items cs) w (get_by (by_bytes cs) m) (λ o. get_by (by_bytes cs) n ≡ o)
    (λ y. subst (λ l. get_by (by_bytes l) n ≡ w) ((bytes_eq-Decides k.items cs).0 y) h.1)
    (λ no. others (eq_by_cmp (λ x y. slice_cmp nat_cmp x.items y.items)) (is_at (by_bytes k.items)) (is_at (by_bytes cs)) m.entries n.entries h.3
    (λ x y. (eq_by_cmp_equiv nat_list_cmp_total).congr cs x.items y.items) (λ q. apart_keys k.items cs q.items no))

-- one more name
pub index_grows : (index later : NameIndex) (names : Names) (k : Vec ℕ Global) (at : ℕ) →
    UpdatesBy (λ x y. slice_cmp nat_cmp x.items y.items) (by_bytes k.items) index.places later.places (Some at) →
    IsIndexOf index names → is_known names k.items ≡ false → at ≡ length names → IsIndexOf later (names ++ k.items ∷ [])
index_grows index later names k at h stands new is = record {
  places = λ cs.
      updated k index.places later.places (Some at) h cs
      ∙ ap (λ o. cond (bytes_eq k.items cs) (Some at) o) (stands.places cs)
      ∙ ap (λ n. cond (bytes_eq k.items cs) (Some n) (place_of names cs)) is
      ∙ sym (place_of-push names k.items cs new);
}
