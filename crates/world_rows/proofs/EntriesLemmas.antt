-- The entries of an ordered map: each is what its key has, and what is read from them rises by key.
use Rattle.std.proofs.Common.{◌≡◌, inl, inr, Bool, true, false, cond, List, [], ◌∷◌, ◌++◌, Option, Some, None, refl, ap, sym, subst, ◌∙◌}
use Rattle.std.specs.Prelude.{flat_map}
use Rattle.std.specs.List.{AllByRecursion}
use Rattle.std.specs.List.Sorted.{IsStrictlySortedBy}
use Rattle.std.specs.Map.{lookup, keys_of}
use Rattle.std.specs.Option.{option_to_list}
use Rattle.std.specs.Ordering.{is_eq}
use Rattle.std.specs.BTreeMap.{is_at}
use Rattle.std.specs.declared.cmp.Ordering.{Ordering}
use Rattle.std.specs.declared.cmp.Ordering.TheVariants.{Less}
use Rattle.std.proofs.lemmas.Map.Keys.{sorted_head, sorted_tail}
use Rattle.protocol.specs.Lists.{IsIn, IsRisingBy}
use Rattle.protocol.proofs.ListsLemmas.{IsIn-flat_map, map_in}
use Rattle.world_rows.proofs.OrdersLemmas.{IsExact}

all_in : {K : Type 0} (P : K → Type 0) (ks : List K) (k : K) → AllByRecursion P ks → IsIn k ks → P k
all_in P [] k a i = absurd i
all_in P (l ∷ ls) k a (inl e) = subst P (sym e) a.0
all_in P (l ∷ ls) k a (inr i) = all_in P ls k a.1 i

not_at : {K : Type 0} (cmp : K → K → Ordering) → IsExact cmp → (a b : K) → cmp a b ≡ Less → is_eq (cmp b a) ≡ false
not_at {K} cmp o a b l = go (is_eq (cmp b a)) refl
  where
    go : (t : Bool) → is_eq (cmp b a) ≡ t → t ≡ false
    go false e = refl
    go true e =
        let less : cmp a a ≡ Less = subst (λ (c : K). cmp a c ≡ Less) (o.tells b a e) l in
        let z : is_eq Less ≡ true = ap is_eq (sym less) ∙ o.self a in
        absurd (cc z)

-- an entry is what its key has
pub entry_found : {K X : Type 0} (cmp : K → K → Ordering) → IsExact cmp → (es : List (K × X)) (e : K × X) → IsStrictlySortedBy cmp (keys_of es) → IsIn e es →
    lookup (is_at (cmp e.0)) es ≡ Some e.1
entry_found cmp o [] e s i = absurd i
entry_found {K} {X} cmp o (f ∷ es) e s (inl q) =
    ap (λ t. cond t (Some f.1) (lookup (is_at (cmp e.0)) es)) (ap (λ (z : K × X). is_eq (cmp z.0 f.0)) q ∙ o.self f.0) ∙ ap (λ (z : K × X). Some z.1) (sym q)
entry_found {K} {X} cmp o (f ∷ es) e s (inr i) =
    ap (λ t. cond t (Some f.1) (lookup (is_at (cmp e.0)) es))
    (not_at cmp o f.0 e.0 (all_in (λ k. cmp f.0 k ≡ Less) (keys_of es) e.0 (sorted_head cmp f.0 (keys_of es) s) (map_in (λ (z : K × X). z.0) es e i)))
    ∙ entry_found cmp o es e (sorted_tail cmp f.0 (keys_of es) s) i

-- what a key has is an entry
pub lookup_in : {K X : Type 0} (cmp : K → K → Ordering) → IsExact cmp → (k : K) (es : List (K × X)) (v : X) → lookup (is_at (cmp k)) es ≡ Some v →
    IsIn (k, v) es
lookup_in cmp o k [] v g = absurd cc
lookup_in {K} {X} cmp o k (e ∷ es) v g = go (is_at (cmp k) e.0) refl g (lookup_in cmp o k es v)
  where
    go : (t : Bool) → is_at (cmp k) e.0 ≡ t → cond t (Some e.1) (lookup (is_at (cmp k)) es) ≡ Some v → (lookup (is_at (cmp k)) es ≡ Some v → IsIn (k, v) es) →
        IsIn (k, v) (e ∷ es)
    go true h g more =
        let q : e.1 ≡ v = cc in
        let p : k ≡ e.0 = o.tells k e.0 h in
        inl (ap (λ (a : K). (let z : K × X = (a, v) in z)) p ∙ ap (λ (b : X). (let z : K × X = (e.0, b) in z)) (sym q))
    go false h g more = inr (more g)

-- keys that are sorted rise
pub keys_rise : {K : Type 0} (cmp : K → K → Ordering) (earlier : K → K → Bool) → ((a b : K) → cmp a b ≡ Less → earlier a b ≡ true) → (ks : List K) →
    IsStrictlySortedBy cmp ks → IsRisingBy earlier ks
keys_rise cmp earlier less [] s = tt
keys_rise cmp earlier less (k ∷ ks) s = (
  λ l i. less k l (all_in (λ m. cmp k m ≡ Less) ks l (sorted_head cmp k ks s) i),
  keys_rise cmp earlier less ks (sorted_tail cmp k ks s),
)

pub in_one : {A : Type 0} (o : Option A) (a : A) → IsIn a (option_to_list o) → o ≡ Some a
in_one None a i = absurd i
in_one (Some b) a (inl e) = ap Some (sym e)
in_one (Some b) a (inr i) = absurd i

pub one_in : {A : Type 0} (o : Option A) (a : A) → o ≡ Some a → IsIn a (option_to_list o)
one_in None a e = absurd cc
one_in (Some b) a e = let q : b ≡ a = cc in inl (sym q)

-- where each entry gives at most one element, of its own name, these rise by name
pub read_rise : {K X A : Type 0} (earlier : K → K → Bool) (name : A → K) (h : K × X → Option A) → ((e : K × X) (a : A) → h e ≡ Some a → name a ≡ e.0) →
    (es : List (K × X)) → IsRisingBy earlier (keys_of es) → IsRisingBy (λ a b. earlier (name a) (name b)) (flat_map (λ e. option_to_list (h e)) es)
read_rise earlier name h named [] r = tt
read_rise {K} {X} {A} earlier name h named (e ∷ es) r = go (h e) refl (read_rise earlier name h named es r.1)
  where
    first : (a b : A) → h e ≡ Some a → IsIn b (flat_map (λ f. option_to_list (h f)) es) → earlier (name a) (name b) ≡ true
    first a b q i =
        let k = IsIn-flat_map (λ f. option_to_list (h f)) b es i in
        subst (λ (x : K). earlier x (name b) ≡ true) (sym (named e a q))
        (subst (λ (x : K). earlier e.0 x ≡ true) (sym (named k.0 b (in_one (h k.0) b k.2))) (r.0 k.0.0 (map_in (λ (z : K × X). z.0) es k.0 k.1)))

    go : (o : Option A) → h e ≡ o → IsRisingBy (λ a b. earlier (name a) (name b)) (flat_map (λ f. option_to_list (h f)) es) →
        IsRisingBy (λ a b. earlier (name a) (name b)) (option_to_list o ++ flat_map (λ f. option_to_list (h f)) es)
    go None q more = more
    go (Some a) q more = (λ b i. first a b q i, more)
