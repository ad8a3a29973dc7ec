-- Logs of the same answers have the same last job: the code comes to one place, and one rising list shows what is known there.
use Rattle.std.proofs.Common.{◌≡◌, Bool, true, false, List, [], ◌∷◌, Some, None, refl, ap, sym, subst, ◌∙◌, ⊎_elim, ℤ}
use Rattle.morty_base.specs.declared.names.Key.{Key}
use Rattle.morty_base.specs.Names.{key_before, same_key}
use Rattle.morty_base.proofs.Orders.{key_before_total, same_key_tells}
use Rattle.txn_lang.specs.Keys.{Entry, entry, first_of, found}
use Rattle.txn_lang.specs.Program.{Program, replay_of}
use Rattle.flat_code.specs.Operation.{Flat}
use Rattle.flat_code.specs.Does.{first_frame}
use Rattle.continuation.specs.declared.segment.Cont.{Cont}
use Rattle.continuation.specs.declared.segment.JobAt.{JobAt}
use Rattle.continuation.specs.declared.segment.JobAt.TheVariants.{Start, From}
use Rattle.continuation.specs.Place.{frame_of, cont_of}
use Rattle.continuation.proofs.Places.{one_place}
use Rattle.exec_log.specs.Knowledge.{IsBelow, IsRising}
use Rattle.exec_log.specs.Log.{Log, answers_in, answers_of}
use Rattle.exec_log.specs.Standing.{GoesOnAt, IsLastJob}
use Rattle.exec_log.proofs.Fronts.{not_none, one_front, one_last}
use Rattle.exec_log.proofs.Placing.{not_before_itself, below_all}

later_differs : (k j : Key) → key_before k j ≡ true → same_key j k ≡ false
later_differs k j before = ⊎_elim (λ p. absurd (not_before_itself k j before (sym p.1))) (λ p. p.0) (same_key_tells j k)

same_itself : (k : Key) → same_key k k ≡ true
same_itself k = ⊎_elim (λ p. p.0) (λ p. absurd (p.1 refl)) (same_key_tells k k)

-- a key below all of them is not there
not_there : (k : Key) (es : List Entry) → IsBelow k es → found es k ≡ None
not_there k [] below = refl
not_there k (e ∷ es) below = ap (λ t. first_of t e.value (found es k)) (later_differs k e.key below.0) ∙ not_there k es below.1

there : (e : Entry) (es : List Entry) → found (e ∷ es) e.key ≡ Some e.value
there e es = ap (λ t. first_of t e.value (found es e.key)) (same_itself e.key)

-- the first key of one list is not before that of another that shows the same
not_first : (x y : Entry) (xs ys : List Entry) → IsBelow y.key ys → found (x ∷ xs) x.key ≡ found (y ∷ ys) x.key → key_before x.key y.key ≡ true → ⊥
not_first x y xs ys below same before =
    let none = not_there x.key (y ∷ ys) (before, below_all x.key y.key ys before below) in
    let both : Some x.value ≡ None = sym (there x xs) ∙ same ∙ none in
    cc

one_key : (j k : Key) → (key_before j k ≡ true → ⊥) → (key_before k j ≡ true → ⊥) → j ≡ k
one_key j k a b = go (key_before j k) (key_before k j) refl refl
  where
    go : (s t : Bool) → key_before j k ≡ s → key_before k j ≡ t → j ≡ k
    go true t e f = absurd (a e)
    go false true e f = absurd (b f)
    go false false e f = key_before_total.total j k e f

-- behind the first of them the lists show the same
rest_shows : (x y : Entry) (xs ys : List Entry) → IsBelow x.key xs → IsBelow y.key ys → x.key ≡ y.key →
    ((k : Key) → found (x ∷ xs) k ≡ found (y ∷ ys) k) → (k : Key) → found xs k ≡ found ys k
rest_shows x y xs ys first second one same k = ⊎_elim
    (λ p. not_there k xs (subst (λ j. IsBelow j xs) p.1 first) ∙ sym (not_there k ys (subst (λ j. IsBelow j ys) (sym one ∙ p.1) second)))
    (λ p.
    ap (λ t. first_of t x.value (found xs k)) (sym p.0) ∙ same k
    ∙ ap (λ j. first_of (same_key j k) y.value (found ys k)) (sym one) ∙ ap (λ t. first_of t y.value (found ys k)) p.0)
    (same_key_tells x.key k)

-- rising lists that show the same are the same
rising_same : (xs ys : List Entry) → IsRising xs → IsRising ys → ((k : Key) → found xs k ≡ found ys k) → xs ≡ ys
rising_same [] [] a b same = refl
rising_same [] (y ∷ ys) a b same = absurd (let both : None ≡ Some y.value = same y.key ∙ there y ys in cc)
rising_same (x ∷ xs) [] a b same = absurd (let both : Some x.value ≡ None = sym (there x xs) ∙ same x.key in cc)
rising_same (x ∷ xs) (y ∷ ys) a b same =
    let one = one_key x.key y.key (not_first x y xs ys b.0 (same x.key)) (not_first y x ys xs a.0 (sym (same y.key))) in
    let both : Some x.value ≡ Some y.value = sym (there x xs) ∙ same x.key ∙ ap (found (y ∷ ys)) one ∙ there y ys in
    let value : x.value ≡ y.value = cc in
    ap (λ k. entry k x.value ∷ xs) one ∙ ap (λ v. entry y.key v ∷ xs) value
    ∙ ap (λ es. y ∷ es) (rising_same xs ys a.1 b.1 (rest_shows x y xs ys a.0 b.0 one same))

one_value : (code : Flat) (p : Program) (front back : List ℤ) (v w given taken : ℤ) (cont at : Cont) (known seen : List Entry) → front ≡ back → v ≡ w →
    GoesOnAt code p front v (From cont given known) → GoesOnAt code p back w (From at taken seen) → From cont given known ≡ From at taken seen
one_value code p front back v w given taken cont at known seen same is a b =
    let s = a.2.1 in
    let t = subst (λ xs. GoesOnAt code p xs w (From at taken seen)) (sym same) b in
    let frame = one_place code (first_frame code) [] front a.2.0 t.2.0 (replay_of p front).known (replay_of p front).known (frame_of cont) (frame_of at)
    s.at.comes t.2.1.at.comes in
    let shows = rising_same known seen a.1 t.1 (λ k. s.knows.same k ∙ sym (t.2.1.knows.same k)) in
    ap (λ f. From (cont_of f) given known) frame ∙ ap (λ x. From at x known) (a.0 ∙ is ∙ sym t.0) ∙ ap (From at taken) shows

-- the last job is one
pub one_last_job : (code : Flat) (p : Program) (l l' : Log) (at at' : JobAt) → answers_of l ≡ answers_of l' →
    IsLastJob code p l at → IsLastJob code p l' at' → at ≡ at'
one_last_job code p l l' Start Start same a b = refl
one_last_job code p l l' Start (From cont given known) same a b = absurd (not_none b.0 b.1 (sym (ap answers_in a) ∙ same ∙ b.2))
one_last_job code p l l' (From cont given known) Start same a b = absurd (not_none a.0 a.1 (sym (ap answers_in b) ∙ sym same ∙ a.2))
one_last_job code p l l' (From cont given known) (From cont' given' known') same a b =
    let both = sym a.2 ∙ same ∙ b.2 in
    one_value code p a.0 b.0 a.1 b.1 given given' cont cont' known known' (one_front a.0 b.0 a.1 b.1 both) (one_last a.0 b.0 a.1 b.1 both) a.3 b.3
