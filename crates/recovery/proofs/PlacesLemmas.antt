-- The places of an execution in a list, the newest first: how they grow, and what is found by them.
use Rattle.std.proofs.Common.{◌≡◌, ◌≢◌, ◌⊎◌, ℕ, ◌-◌, ◌<◌, suc, Bool, true, false, cond, not, Some, None, List, [], ◌∷◌, ◌++◌, length, map, reverse, get_or, set, refl, ap, ◌∙◌, sym, subst, arith, inl, inr}
use Rattle.std.specs.Prelude.{Result, Ok, Err, OnOk, OnErr, find, slice_get, ◌||◌, ◌&&◌, ◌==◌}
use Rattle.std.specs.List.{list_any}
use Rattle.std.specs.Ordering.{is_eq}
use Rattle.std.specs.BTreeMap.{BTreeMap, get, is_at}
use Rattle.std.proofs.Math.Seq.{set-append_seam, get_or-append_seam, map-set_same}
use Rattle.std.proofs.lemmas.List.{append-nil, map-append, reverse-append, reverse-reverse, length-reverse, length-map, get_or-reverse, get_or_append_left, set-append_left}
use Rattle.std.proofs.lemmas.Option.{slice_get-get_or, slice_get_within, get_or_from_slice_get}
use Rattle.std.proofs.lemmas.Bool.Decides.{nat_tests}
use Rattle.morty_base.proofs.Orders.{same_exec_tells}
use Rattle.protocol.specs.Words.{Exec, same_exec}
use Rattle.protocol.specs.Warden.State.{Round, DecidedProposal}
use Rattle.protocol.specs.Warden.Recovery.{round_of, with_round, used}
use Rattle.recovery.specs.Round.{is_of}
use Rattle.recovery.specs.Places.{exec_cmp, listed, places_of}
use Rattle.recovery.specs.Rounds.{place_of, is_in_view, is_view_at}

-- the map's order tells executions as their test does
pub exec_eq : (a b : Exec) → is_eq (exec_cmp a b) ≡ same_exec b a
unfolding same_exec
exec_eq a b = grind (arith, nat_tests)

-- a map that has new places at one execution
pub added : (m n : BTreeMap Exec (List ℕ)) (x : Exec) (more new : List ℕ) →
    ((y : Exec) → get exec_cmp n y ≡ cond (is_at (exec_cmp x) y) (Some new) (get exec_cmp m y)) → new ≡ listed (get exec_cmp m x) ++ more →
    (y : Exec) → listed (get exec_cmp n y) ≡ listed (get exec_cmp m y) ++ cond (same_exec y x) more []
added m n x more new updates e y =
    ap listed (updates y) ∙ ap (λ t. listed (cond t (Some new) (get exec_cmp m y))) (exec_eq x y) ∙ go (same_exec y x) (same_exec_tells y x)
  where
    go : (t : Bool) → ((t ≡ true) × (y ≡ x)) ⊎ ((t ≡ false) × (y ≢ x)) →
        listed (cond t (Some new) (get exec_cmp m y)) ≡ listed (get exec_cmp m y) ++ cond t more []
    go true (inl q) = e ∙ ap (λ z. listed (get exec_cmp m z) ++ more) (sym q.1)
    go true (inr q) = absurd (cc (q.0))
    go false q = sym (append-nil (listed (get exec_cmp m y)))

-- a map that has the same places at one execution
pub kept : (m n : BTreeMap Exec (List ℕ)) (x : Exec) (new : List ℕ) →
    ((y : Exec) → get exec_cmp n y ≡ cond (is_at (exec_cmp x) y) (Some new) (get exec_cmp m y)) → new ≡ listed (get exec_cmp m x) →
    (y : Exec) → listed (get exec_cmp n y) ≡ listed (get exec_cmp m y)
kept m n x new updates e y = added m n x [] new updates (e ∙ sym (append-nil (listed (get exec_cmp m x)))) y ∙ none (same_exec y x) (listed (get exec_cmp m y))
  where
    none : (t : Bool) (l : List ℕ) → l ++ cond t [] [] ≡ l
    none true l = append-nil l
    none false l = append-nil l

-- one more execution, with one more place
pub grown : (x y : Exec) (older : List Exec) (places more : List ℕ) → reverse places ≡ places_of x older →
    more ≡ places ++ cond (same_exec x y) (length older ∷ []) [] → reverse more ≡ places_of x (y ∷ older)
grown x y older places more e m = ap reverse m ∙ go (same_exec x y)
  where
    go : (t : Bool) → reverse (places ++ cond t (length older ∷ []) []) ≡ cond t (length older ∷ places_of x older) (places_of x older)
    go true = reverse-append places (length older ∷ []) ∙ ap (λ ps. length older ∷ ps) e
    go false = ap reverse (append-nil places) ∙ e

-- as many places as views used
pub used_places : (x : Exec) (rounds : List Round) → length (places_of x (map (λ (a : Round). a.exec) rounds)) ≡ used x rounds
used_places x [] = refl
used_places x (a ∷ older) = go (same_exec x a.exec) (used_places x older)
  where
    go : (t : Bool) → length (places_of x (map (λ (b : Round). b.exec) older)) ≡ used x older → length (cond t (length (map (λ (b : Round). b.exec) older) ∷ places_of x (map (λ (b : Round). b.exec) older)) (places_of x (map (λ (b : Round). b.exec) older)))
        ≡ cond t (suc (used x older)) (used x older)
    go true ih = ap suc ih
    go false ih = ih

-- there are no places exactly where nothing is listed
pub has_places : (x : Exec) (rounds : List Round) →
    not (length (places_of x (map (λ (a : Round). a.exec) rounds)) == 0) ≡ list_any (λ (a : Round). same_exec x a.exec) rounds
has_places x [] = refl
has_places x (a ∷ older) = go (same_exec x a.exec) (has_places x older)
  where
    go : (t : Bool) → not (length (places_of x (map (λ (b : Round). b.exec) older)) == 0) ≡ list_any (λ (b : Round). same_exec x b.exec) older →
        not (length (cond t (length (map (λ (b : Round). b.exec) older) ∷ places_of x (map (λ (b : Round). b.exec) older)) (places_of x (map (λ (b : Round). b.exec) older))) == 0)
        ≡ (t || list_any (λ (b : Round). same_exec x b.exec) older)
    go true ih = grind (arith, nat_tests)
    go false ih = ih

oldest_first : {A : Type 0} (a : A) (older : List A) → reverse (a ∷ older) ≡ reverse older ++ a ∷ []
oldest_first a older = reverse-append (a ∷ []) older

-- the newest stands at the end
newest_at : {A : Type 0} (a : A) (older : List A) (d : A) → get_or (reverse (a ∷ older)) (length older) d ≡ a
newest_at a older d =
    ap (λ l. get_or l (length older) d) (oldest_first a older)
    ∙ ap (λ n. get_or (reverse older ++ a ∷ []) n d) (sym (length-reverse older)) ∙ get_or-append_seam (reverse older) a [] d

older_at : {A : Type 0} (a : A) (older : List A) (i : ℕ) (d : A) → i < length older → get_or (reverse (a ∷ older)) i d ≡ get_or (reverse older) i d
older_at a older i d h = ap (λ l. get_or l i d) (oldest_first a older) ∙ get_or_append_left (reverse older) (a ∷ []) d i (omega (arith, length-reverse older))

-- ---- what a search by places finds

-- a test of places tells which of the rounds are in view v
abbrev Tells : (ℕ → Bool) → ℕ → List Round → Type 0
Tells p v rounds = (i : ℕ) → i < length rounds → (a : Round) → p i ≡ ((get_or (reverse rounds) i a).view == v)

tells_older : (p : ℕ → Bool) (v : ℕ) (a : Round) (older : List Round) → Tells p v (a ∷ older) → Tells p v older
tells_older p v a older t = λ i h b. t i (omega arith) b ∙ ap (λ (c : Round). c.view == v) (older_at a older i b h)

pub search_finds : (p : ℕ → Bool) (x : Exec) (v : ℕ) (rounds : List Round) → Tells p v rounds →
    find p (places_of x (map (λ (a : Round). a.exec) rounds)) ≡ place_of x v rounds
search_finds p x v [] t = refl
search_finds p x v (a ∷ older) t = go (same_exec x a.exec) (search_finds p x v older (tells_older p v a older t))
  where
    newest : p (length (map (λ (b : Round). b.exec) older)) ≡ (a.view == v)
    newest = ap p (length-map older (λ (b : Round). b.exec)) ∙ t (length older) (omega arith) a ∙ ap (λ (c : Round). c.view == v) (newest_at a older a)

    go : (same : Bool) → find p (places_of x (map (λ (b : Round). b.exec) older)) ≡ place_of x v older →
        find p (cond same (length (map (λ (b : Round). b.exec) older) ∷ places_of x (map (λ (b : Round). b.exec) older)) (places_of x (map (λ (b : Round). b.exec) older)))
        ≡ cond (same && (a.view == v)) (Some (length older)) (place_of x v older)
    go true below = ap (λ b. cond b (Some (length (map (λ (c : Round). c.exec) older))) (find p (places_of x (map (λ (c : Round). c.exec) older)))) newest
        ∙ ap (λ o. cond (a.view == v) (Some (length (map (λ (c : Round). c.exec) older))) o) below
        ∙ ap (λ n. cond (a.view == v) (Some n) (place_of x v older)) (length-map older (λ (c : Round). c.exec))
    go false below = below

pub searched : (x : Exec) (v : ℕ) (rounds : List Round) (ps : List ℕ) → reverse ps ≡ places_of x (map (λ (a : Round). a.exec) rounds) →
    find (is_view_at v (reverse rounds)) (reverse ps) ≡ place_of x v rounds
searched x v rounds ps e =
    ap (find (is_view_at v (reverse rounds))) e
    ∙ search_finds (is_view_at v (reverse rounds)) x v rounds
    (λ i h a. ap (is_in_view v) (slice_get-get_or (reverse rounds) i a (omega (arith, length-reverse rounds))))

-- one step of such a search, from the last place
pub step_back : (p : ℕ → Bool) (rest : List ℕ) (place : ℕ) → find p (reverse (rest ++ place ∷ [])) ≡ cond (p place) (Some place) (find p (reverse rest))
step_back p rest place = ap (find p) (reverse-append rest (place ∷ []))

-- ---- what stands at the place

-- the place of a round: the round that is meant stands there, and one that is put there takes its place
pub record IsPlaceOf (x : Exec) (v i : ℕ) (rounds : List Round) : Type 0 where
  pub within : i < length rounds
  pub round : (d : Round) → round_of x v rounds ≡ Some (get_or (reverse rounds) i d)
  pub put : (new : Round) → with_round x v new rounds ≡ reverse (set (reverse rounds) i new)

put_newest : {A : Type 0} (a new : A) (older : List A) → reverse (set (reverse (a ∷ older)) (length older) new) ≡ new ∷ older
put_newest a new older =
    ap (λ l. reverse (set l (length older) new)) (oldest_first a older)
    ∙ ap (λ n. reverse (set (reverse older ++ a ∷ []) n new)) (sym (length-reverse older))
    ∙ ap reverse (set-append_seam (reverse older) a [] new)
    ∙ reverse-append (reverse older) (new ∷ []) ∙ ap (λ l. new ∷ l) (reverse-reverse older)

put_older : {A : Type 0} (a new : A) (older : List A) (i : ℕ) → i < length older →
    reverse (set (reverse (a ∷ older)) i new) ≡ a ∷ reverse (set (reverse older) i new)
put_older a new older i h =
    ap (λ l. reverse (set l i new)) (oldest_first a older)
    ∙ ap reverse (set-append_left (reverse older) (a ∷ []) i new (omega (arith, length-reverse older)))
    ∙ reverse-append (set (reverse older) i new) (a ∷ [])

pub place_is : (x : Exec) (v : ℕ) (rounds : List Round) (i : ℕ) → place_of x v rounds ≡ Some i → IsPlaceOf x v i rounds
place_is x v [] i e = absurd (cc)
place_is x v (a ∷ older) i e = go (is_of x v a) refl (λ h. place_is x v older i h) e
  where
    go : (t : Bool) → is_of x v a ≡ t → (place_of x v older ≡ Some i → IsPlaceOf x v i older) → cond t (Some (length older)) (place_of x v older) ≡ Some i → IsPlaceOf x v i (a ∷ older)
    go true is ih h = let n : length older ≡ i = cc in subst (λ j. IsPlaceOf x v j (a ∷ older)) n (record {
      within = omega arith;
      round = λ d. ap (λ t. cond t (Some a) (round_of x v older)) is ∙ ap (λ (b : Round). Some b) (sym (newest_at a older d));
      put = λ new. ap (λ t. cond t (new ∷ older) (a ∷ with_round x v new older)) is ∙ sym (put_newest a new older);
    })
    go false is ih h = let below = ih h in record {
      within = omega (arith, below.within);
      round = λ d. ap (λ t. cond t (Some a) (round_of x v older)) is ∙ below.round d ∙ ap (λ (b : Round). Some b) (sym (older_at a older i d below.within));
      put = λ new. ap (λ t. cond t (new ∷ older) (a ∷ with_round x v new older)) is ∙ ap (λ l. a ∷ l) (below.put new) ∙ sym (put_older a new older i below.within);
    }

pub no_place : (x : Exec) (v : ℕ) (rounds : List Round) → place_of x v rounds ≡ None → round_of x v rounds ≡ None
no_place x v [] e = refl
no_place x v (a ∷ older) e = go (is_of x v a) (λ h. no_place x v older h) e
  where
    go : (t : Bool) → (place_of x v older ≡ None → round_of x v older ≡ None) → cond t (Some (length older)) (place_of x v older) ≡ None → cond t (Some a) (round_of x v older) ≡ None
    go true ih h = absurd (cc)
    go false ih h = ih h

map_reverse : {A B : Type 0} (f : A → B) (l : List A) → map f (reverse l) ≡ reverse (map f l)
map_reverse f [] = refl
map_reverse f (a ∷ l) =
    ap (map f) (oldest_first a l) ∙ map-append f (reverse l) (a ∷ []) ∙ ap (λ m. m ++ f a ∷ []) (map_reverse f l) ∙ sym (oldest_first (f a) (map f l))

-- the place of a round among those that are kept, the oldest first
module _ (x : Exec) (v i : ℕ) (items now : List Round) (is : reverse items ≡ now) (e : place_of x v now ≡ Some i) where
  kept_first : reverse now ≡ items
  kept_first = ap reverse (sym is) ∙ reverse-reverse items

  pub in_items : i < length items
  in_items = let p = place_is x v now i e in omega (arith, p.within, ap length is, length-reverse items)

  pub is_there : (d : Round) → round_of x v now ≡ Some (get_or items i d)
  is_there d = (place_is x v now i e).round d ∙ ap (λ l. Some (get_or l i d)) kept_first

  pub is_put : (new : Round) → reverse (set items i new) ≡ with_round x v new now
  is_put new = ap (λ l. reverse (set l i new)) (sym kept_first) ∙ sym ((place_is x v now i e).put new)

  -- a round of the same execution leaves the places as they are
  pub index_kept : (f : Exec → List ℕ) → ((y : Exec) → f y ≡ places_of y (map (λ (a : Round). a.exec) (reverse items))) → (d new : Round) →
      new.exec ≡ (get_or items i d).exec → (y : Exec) → f y ≡ places_of y (map (λ (a : Round). a.exec) (reverse (set items i new)))
  index_kept f index d new same y =
      index y
      ∙ ap (places_of y) (map_reverse (λ (a : Round). a.exec) items
      ∙ ap reverse (sym (map-set_same (λ (a : Round). a.exec) items i new d same))
      ∙ sym (map_reverse (λ (a : Round). a.exec) (set items i new)))

pub exec_of : (a b : Round) → a ≡ b → a.exec ≡ b.exec
exec_of a b e = ap (λ (c : Round). c.exec) e

-- a fact that holds whatever came of a call
pub either_way : {T E P : Type 0} (r : Result T E) → OnOk r P → OnErr r P → P
either_way (Ok t) p q = p
either_way (Err t) p q = q

pub empty : (l : List ℕ) → length l ≡ 0 → [] ≡ l
empty [] e = refl
empty (a ∷ l) e = absurd (omega arith)

-- ---- the newest of those that concern an execution

-- the place of the newest decision on x: the one that is meant stands there
pub newest_decision : (x : Exec) (ds : List DecidedProposal) (i : ℕ) (rest : List ℕ) → places_of x (map (λ (d : DecidedProposal). d.exec) ds) ≡ i ∷ rest →
    (i < length ds) × ((d : DecidedProposal) → find (λ (e : DecidedProposal). same_exec x e.exec) ds ≡ Some (get_or (reverse ds) i d))
newest_decision x [] i rest e = absurd (cc)
newest_decision x (a ∷ older) i rest e = go (same_exec x a.exec) (λ h. newest_decision x older i rest h) e
  where
    go : (t : Bool) →
        (places_of x (map (λ (b : DecidedProposal). b.exec) older) ≡ i ∷ rest → (i < length older) × ((d : DecidedProposal) → find (λ (e : DecidedProposal). same_exec x e.exec) older ≡ Some (get_or (reverse older) i d))) →
        cond t (length (map (λ (b : DecidedProposal). b.exec) older) ∷ places_of x (map (λ (b : DecidedProposal). b.exec) older)) (places_of x (map (λ (b : DecidedProposal). b.exec) older)) ≡ i ∷ rest →
        (i < length (a ∷ older)) × ((d : DecidedProposal) → cond t (Some a) (find (λ (e : DecidedProposal). same_exec x e.exec) older) ≡ Some (get_or (reverse (a ∷ older)) i d))
    go true ih h =
        let n : length older ≡ i = sym (length-map older (λ (b : DecidedProposal). b.exec)) ∙ (cc) in
        subst (λ j. (j < length (a ∷ older)) × ((d : DecidedProposal) → Some a ≡ Some (get_or (reverse (a ∷ older)) j d))) n
        (omega arith, λ d. ap (λ (b : DecidedProposal). Some b) (sym (newest_at a older d)))
    go false ih h = let below = ih h in
        (omega (arith, below.0), λ d. below.1 d ∙ ap (λ (b : DecidedProposal). Some b) (sym (older_at a older i d below.0)))

pub no_decision : (x : Exec) (ds : List DecidedProposal) → places_of x (map (λ (d : DecidedProposal). d.exec) ds) ≡ [] → find (λ (e : DecidedProposal). same_exec x e.exec) ds ≡ None
no_decision x [] e = refl
no_decision x (a ∷ older) e = go (same_exec x a.exec) (λ h. no_decision x older h) e
  where
    go : (t : Bool) → (places_of x (map (λ (b : DecidedProposal). b.exec) older) ≡ [] → find (λ (e : DecidedProposal). same_exec x e.exec) older ≡ None) → cond t (length (map (λ (b : DecidedProposal). b.exec) older) ∷ places_of x (map (λ (b : DecidedProposal). b.exec) older)) (places_of x (map (λ (b : DecidedProposal). b.exec) older)) ≡ [] →
        cond t (Some a) (find (λ (e : DecidedProposal). same_exec x e.exec) older) ≡ None
    go true ih h = absurd (cc)
    go false ih h = ih h

-- the last of the places, where the oldest stands first, is that of the newest
first_of_reverse : (ps : List ℕ) (i : ℕ) → slice_get ps (length ps - 1) ≡ Some i → (rest : List ℕ) × (reverse ps ≡ i ∷ rest)
first_of_reverse ps i e = go (reverse ps) refl
  where
    within : length ps - 1 < length ps
    within = slice_get_within ps (length ps - 1) i e

    go : (qs : List ℕ) → reverse ps ≡ qs → (rest : List ℕ) × (qs ≡ i ∷ rest)
    go [] is = let none : length (reverse ps) ≡ 0 = ap length is in absurd (omega (arith, length-reverse ps, within))
    go (q ∷ qs) is =
        let at : 0 < length ps = omega (arith, within) in
        let same : length ps - 1 - 0 ≡ length ps - 1 = omega arith in
        let one : q ≡ i = ap (λ l. get_or l 0 i) (sym is) ∙ get_or-reverse ps 0 i at ∙ ap (λ n. get_or ps n i) same ∙ get_or_from_slice_get ps (length ps - 1) i i e in
        (qs, ap (λ (k : ℕ). k ∷ qs) one)

none_of_reverse : (ps : List ℕ) → slice_get ps (length ps - 1) ≡ None → reverse ps ≡ []
none_of_reverse [] e = refl
none_of_reverse (p ∷ ps) e = let there = slice_get-get_or (p ∷ ps) (length (p ∷ ps) - 1) 0 (omega arith) in absurd (cc)

module _ (x : Exec) (items : List DecidedProposal) (ps : List ℕ) (index : reverse ps ≡ places_of x (map (λ (d : DecidedProposal). d.exec) (reverse items))) where
  pub decision_at : (i : ℕ) → slice_get ps (length ps - 1) ≡ Some i →
      (i < length items) × ((d : DecidedProposal) → find (λ (e : DecidedProposal). same_exec x e.exec) (reverse items) ≡ Some (get_or items i d))
  decision_at i e =
      let first = first_of_reverse ps i e in
      let is = newest_decision x (reverse items) i first.0 (sym index ∙ first.1) in
      (omega (arith, is.0, length-reverse items), λ d. is.1 d ∙ ap (λ (l : List DecidedProposal). Some (get_or l i d)) (reverse-reverse items))

  pub decision_none : slice_get ps (length ps - 1) ≡ None → find (λ (e : DecidedProposal). same_exec x e.exec) (reverse items) ≡ None
  decision_none e = no_decision x (reverse items) (sym index ∙ none_of_reverse ps e)
