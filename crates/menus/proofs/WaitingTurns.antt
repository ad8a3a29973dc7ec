-- One more envelope, or a client that stops, changes what is kept as the definitions say.
use Rattle.std.proofs.Common.{◌≡◌, ◌≢◌, inl, inr, ℕ, suc, ◌-◌, ◌<◌, ◌≤◌, Bool, true, false, List, [], ◌∷◌, ◌++◌, Some, None, length, get_or, refl, ap}
use Rattle.std.proofs.Common.{sym, subst, ◌∙◌, arith}
use Rattle.std.specs.Prelude.{◌&&◌, ◌||◌, ◌==◌, not}
use Rattle.std.specs.BTreeSet.{BTreeSet, contains}
use Rattle.std.specs.Vec.{with_item}
use Rattle.std.proofs.lemmas.Bool.Decides.{nat_tests}
use Rattle.std.proofs.lemmas.List.{length-set}
use Rattle.std.proofs.lemmas.Option.{slice_get_within}
use Rattle.morty_base.proofs.Orders.{same_exec_tells}
use Rattle.protocol.specs.Words.{NodeId, Exec, same_exec, Envelope}
use Rattle.protocol.specs.World.State.{in_range}
use Rattle.menus.specs.Shown.{begun_by, decides_on}
use Rattle.menus.specs.Waiting.{exec_cmp, is_one, is_begun, is_decided, IsUndecided, AreWaiting}
use Rattle.menus.specs.declared.waiting.Undecided.{Undecided}
use Rattle.menus.specs.declared.waiting.Waiting.{Waiting}
use Rattle.menus.proofs.EachPlace.{each_at, each_with}
use Rattle.menus.proofs.WaitingLemmas.{or_false, begun_more, decided_more, begun_not_decided, decided_not_begun}

-- ---- tests

-- one that is begun where it cannot be open
stays : (t b s d : Bool) → (s ≡ true → (t && not d) ≡ false) → (t && (b && not d)) ≡ (t && ((b || s) && not d))
stays true true s d f = refl
stays true false true false f = absurd (cc (f refl))
stays true false true true f = refl
stays true false false d f = refl
stays false b s d f = refl

-- one that is begun where it can
gains : (t b s d : Bool) → (s ≡ true → (t && not d) ≡ true) → (s || (t && (b && not d))) ≡ (t && ((b || s) && not d))
gains true true true false f = refl
gains true true true true f = absurd (cc (f refl))
gains true true false d f = refl
gains true false true false f = refl
gains true false true true f = absurd (cc (f refl))
gains true false false d f = refl
gains false b true d f = absurd (cc (f refl))
gains false b false d f = refl

-- one that is decided
loses : (t b s d : Bool) → (not s && (t && (b && not d))) ≡ (t && (b && not (d || s)))
loses true true true true = refl
loses true true true false = refl
loses true true false true = refl
loses true true false false = refl
loses true false true d = refl
loses true false false d = refl
loses false b true d = refl
loses false b false d = refl

keeps : (t b s d : Bool) → (s ≡ true → t ≡ false) → (t && (b && not d)) ≡ (t && (b && not (d || s)))
keeps true b true d f = absurd (cc (f refl))
keeps true true false true f = refl
keeps true true false false f = refl
keeps true false false d f = refl
keeps false b s d f = refl

turned : (a b : Bool) → (a || b) ≡ (b || a)
turned true true = refl
turned true false = refl
turned false true = refl
turned false false = refl

same_number : (a b : ℕ) → a ≡ b → (a == b) ≡ true
same_number a b e = grind (arith, nat_tests)

other_number : (a b : ℕ) → a ≢ b → (a == b) ≡ false
other_number a b e = grind (arith, nat_tests)

is_exec : (x y : Exec) → same_exec x y ≡ true → x ≡ y
is_exec x y e = elim (same_exec_tells x y) [ inl s ↦ s.1 | inr s ↦ absurd (cc (e, s.0)) ]

-- the place of a client's number
pub in_place : (c n : ℕ) → in_range c n ≡ true → (0 < c) × (c ≤ n)
in_place c n e = (grind (arith, nat_tests), grind (arith, nat_tests))

out_of_place : (c n i : ℕ) → in_range c n ≡ false → i < n → c ≢ suc i
out_of_place c n i e h f = grind (arith, nat_tests)

-- ---- an execution is begun

module _ (n : ℕ) (mail : List Envelope) (stopped : List NodeId) (m : Envelope) (s : Waiting) (exec : Exec) (are : AreWaiting n mail stopped s)
    (e : begun_by m.body ≡ Some exec) where
  begun_now : (x : Exec) → is_begun (mail ++ m ∷ []) x ≡ (is_begun mail x || same_exec x exec)
  begun_now x = begun_more mail m x ∙ ap (λ o. is_begun mail x || is_one x o) e

  decided_now : (x : Exec) → is_decided (mail ++ m ∷ []) x ≡ is_decided mail x
  decided_now x = decided_more mail m x ∙ (ap (λ t. is_decided mail x || t) (begun_not_decided m.body exec e x) ∙ or_false (is_decided mail x))

  open_now : (c : ℕ) (x : Exec) → (x.ver.client == c && ((is_begun mail x || same_exec x exec) && not (is_decided mail x)))
      ≡ (x.ver.client == c && (is_begun (mail ++ m ∷ []) x && not (is_decided (mail ++ m ∷ []) x)))
  open_now c x =
      ap (λ t. x.ver.client == c && (t && not (is_decided mail x))) (sym (begun_now x))
      ∙ ap (λ t. x.ver.client == c && (is_begun (mail ++ m ∷ []) x && not t)) (sym (decided_now x))

  -- of a client of which it cannot be open nothing changes
  begun_elsewhere : (c : ℕ) (u : Undecided) → ((x : Exec) → same_exec x exec ≡ true → (x.ver.client == c && not (is_decided mail x)) ≡ false) →
      IsUndecided c mail stopped u → IsUndecided c (mail ++ m ∷ []) stopped u
  begun_elsewhere c u f is = record {
    execs = λ x. is.execs x ∙ (stays (x.ver.client == c) (is_begun mail x) (same_exec x exec) (is_decided mail x) (f x) ∙ open_now c x);
    client_stopped = is.client_stopped;
  }

  begun_stays : ((i : ℕ) → i < length s.clients.items → (x : Exec) → same_exec x exec ≡ true → (x.ver.client == suc i && not (is_decided mail x)) ≡ false) →
      AreWaiting n (mail ++ m ∷ []) stopped s
  begun_stays f = record {
    count = are.count;
    decided = λ x. are.decided x ∙ sym (decided_now x);
    each = λ i u there. begun_elsewhere (suc i) u (λ x same. f i (slice_get_within s.clients.items i u there) x same) (are.each i u there);
    real = are.real;
  }

  -- it is decided already
  pub begun_late : contains exec_cmp s.decided exec ≡ true → AreWaiting n (mail ++ m ∷ []) stopped s
  begun_late d = begun_stays (λ i h x same.
      let is : is_decided mail x ≡ true = subst (λ y. is_decided mail y ≡ true) (sym (is_exec x exec same)) (sym (are.decided exec) ∙ d) in
      ap (λ t. x.ver.client == suc i && not t) is ∙ none (x.ver.client == suc i))
    where
      none : (t : Bool) → (t && false) ≡ false
      none true = refl
      none false = refl

  -- its client is none of those that there are
  pub begun_by_none : in_range exec.ver.client (length s.clients.items) ≡ false → AreWaiting n (mail ++ m ∷ []) stopped s
  begun_by_none r = begun_stays (λ i h x same.
      let other : x.ver.client ≢ suc i = subst (λ y. y.ver.client ≢ suc i) (sym (is_exec x exec same))
      (out_of_place exec.ver.client (length s.clients.items) i r h) in
      ap (λ t. t && not (is_decided mail x)) (other_number x.ver.client (suc i) other))

  -- it is one more of its client
  pub begun_anew : (new : Undecided) → in_range exec.ver.client (length s.clients.items) ≡ true → contains exec_cmp s.decided exec ≡ false → (u : Undecided) →
      u ≡ get_or s.clients.items (exec.ver.client - 1) u → ((x : Exec) → contains exec_cmp new.execs x ≡ (same_exec x exec || contains exec_cmp u.execs x)) →
      new.is_stopped ≡ u.is_stopped → AreWaiting n (mail ++ m ∷ []) stopped
      (record { clients = with_item s.clients (exec.ver.client - 1) new; decided = s.decided })
  begun_anew new r d u there execs same =
      let k : ℕ = exec.ver.client - 1 in
      let range = in_place exec.ver.client (length s.clients.items) r in
      let at : suc (exec.ver.client - 1) ≡ exec.ver.client = omega (arith, range) in
      let was = each_at (λ i v. IsUndecided (suc i) mail stopped v) s.clients.items (exec.ver.client - 1) u (omega (arith, range)) there are.each in
      record {
        count = length-set _ _ _ ∙ are.count;
        decided = λ x. are.decided x ∙ sym (decided_now x);
        each = each_with (λ i v. IsUndecided (suc i) mail stopped v) (λ i v. IsUndecided (suc i) (mail ++ m ∷ []) stopped v) s.clients.items
            (exec.ver.client - 1) new are.each
            (record {
              execs = λ x. execs x ∙ (ap (λ t. same_exec x exec || t) (was.execs x)
                  ∙ (gains (x.ver.client == suc (exec.ver.client - 1)) (is_begun mail x) (same_exec x exec) (is_decided mail x) (here x at)
                  ∙ open_now (suc (exec.ver.client - 1)) x));
              client_stopped = same ∙ was.client_stopped;
            })
            (λ i v other is. begun_elsewhere (suc i) v (λ x q. apart i x at other q) is);
        real = are.real;
      }
    where
      here : (x : Exec) → suc (exec.ver.client - 1) ≡ exec.ver.client → same_exec x exec ≡ true →
          (x.ver.client == suc (exec.ver.client - 1) && not (is_decided mail x)) ≡ true
      here x at q =
          let is = is_exec x exec q in
          let number : x.ver.client ≡ suc (exec.ver.client - 1) = ap (λ y. y.ver.client) is ∙ sym at in
          let undecided : is_decided mail x ≡ false = subst (λ y. is_decided mail y ≡ false) (sym is) (sym (are.decided exec) ∙ d) in
          ap (λ t. t && not (is_decided mail x)) (same_number x.ver.client (suc (exec.ver.client - 1)) number) ∙ ap not undecided

      apart : (i : ℕ) (x : Exec) → suc (exec.ver.client - 1) ≡ exec.ver.client → i ≢ exec.ver.client - 1 → same_exec x exec ≡ true →
          (x.ver.client == suc i && not (is_decided mail x)) ≡ false
      apart i x at other q =
          let number : x.ver.client ≡ exec.ver.client = ap (λ y. y.ver.client) (is_exec x exec q) in
          let not_here : x.ver.client ≢ suc i = λ f. other (omega (arith, f, number, at)) in
          ap (λ t. t && not (is_decided mail x)) (other_number x.ver.client (suc i) not_here)

-- ---- an execution is decided

module _ (n : ℕ) (mail : List Envelope) (stopped : List NodeId) (m : Envelope) (s : Waiting) (exec : Exec) (decided : BTreeSet Exec)
    (are : AreWaiting n mail stopped s)
    (e : (x : Exec) → decides_on x m.body ≡ same_exec x exec) (d : (x : Exec) →
    contains exec_cmp decided x ≡ (same_exec x exec || contains exec_cmp s.decided x)) where
  same_self : same_exec exec exec ≡ true
  same_self = elim (same_exec_tells exec exec) [ inl q ↦ q.0 | inr q ↦ absurd (q.1 refl) ]

  begun_then : (x : Exec) → is_begun (mail ++ m ∷ []) x ≡ is_begun mail x
  begun_then x =
      begun_more mail m x
      ∙ (ap (λ o. is_begun mail x || is_one x o) (decided_not_begun m.body exec (e exec ∙ same_self)) ∙ or_false (is_begun mail x))

  decided_then : (x : Exec) → is_decided (mail ++ m ∷ []) x ≡ (is_decided mail x || same_exec x exec)
  decided_then x = decided_more mail m x ∙ ap (λ t. is_decided mail x || t) (e x)

  noted : (x : Exec) → contains exec_cmp decided x ≡ is_decided (mail ++ m ∷ []) x
  noted x = d x ∙ (turned (same_exec x exec) (contains exec_cmp s.decided x) ∙ (ap (λ t. t || same_exec x exec) (are.decided x) ∙ sym (decided_then x)))

  open_then : (c : ℕ) (x : Exec) → (x.ver.client == c && (is_begun mail x && not (is_decided mail x || same_exec x exec)))
      ≡ (x.ver.client == c && (is_begun (mail ++ m ∷ []) x && not (is_decided (mail ++ m ∷ []) x)))
  open_then c x =
      ap (λ t. x.ver.client == c && (t && not (is_decided mail x || same_exec x exec))) (sym (begun_then x))
      ∙ ap (λ t. x.ver.client == c && (is_begun (mail ++ m ∷ []) x && not t)) (sym (decided_then x))

  -- of other clients nothing changes
  decided_elsewhere : (c : ℕ) (u : Undecided) → exec.ver.client ≢ c → IsUndecided c mail stopped u → IsUndecided c (mail ++ m ∷ []) stopped u
  decided_elsewhere c u other is = record {
    execs = λ x. is.execs x
        ∙ (keeps (x.ver.client == c) (is_begun mail x) (same_exec x exec) (is_decided mail x)
        (λ q. other_number x.ver.client c (subst (λ y. y.ver.client ≢ c) (sym (is_exec x exec q)) other)) ∙ open_then c x);
    client_stopped = is.client_stopped;
  }

  -- its client is none of those that there are
  pub decided_by_none : in_range exec.ver.client (length s.clients.items) ≡ false →
      AreWaiting n (mail ++ m ∷ []) stopped (record { clients = s.clients; decided = decided })
  decided_by_none r = record {
    count = are.count;
    decided = noted;
    each = λ i u there. decided_elsewhere (suc i) u (out_of_place exec.ver.client (length s.clients.items) i r (slice_get_within s.clients.items i u there))
        (are.each i u there);
    real = are.real;
  }

  -- it is no longer open
  pub decided_of_client : (new : Undecided) → in_range exec.ver.client (length s.clients.items) ≡ true → (u : Undecided) →
      u ≡ get_or s.clients.items (exec.ver.client - 1) u →
      ((x : Exec) → contains exec_cmp new.execs x ≡ (not (same_exec x exec) && contains exec_cmp u.execs x)) → new.is_stopped ≡ u.is_stopped →
      AreWaiting n (mail ++ m ∷ []) stopped (record { clients = with_item s.clients (exec.ver.client - 1) new; decided = decided })
  decided_of_client new r u there execs same =
      let range = in_place exec.ver.client (length s.clients.items) r in
      let at : suc (exec.ver.client - 1) ≡ exec.ver.client = omega (arith, range) in
      let was = each_at (λ i v. IsUndecided (suc i) mail stopped v) s.clients.items (exec.ver.client - 1) u (omega (arith, range)) there are.each in
      record {
        count = length-set _ _ _ ∙ are.count;
        decided = noted;
        each = each_with (λ i v. IsUndecided (suc i) mail stopped v) (λ i v. IsUndecided (suc i) (mail ++ m ∷ []) stopped v) s.clients.items
            (exec.ver.client - 1) new are.each
            (record {
              execs = λ x. execs x ∙ (ap (λ t. not (same_exec x exec) && t) (was.execs x)
                  ∙ (loses (x.ver.client == suc (exec.ver.client - 1)) (is_begun mail x) (same_exec x exec) (is_decided mail x)
                  ∙ open_then (suc (exec.ver.client - 1)) x));
              client_stopped = same ∙ was.client_stopped;
            })
            (λ i v other is. decided_elsewhere (suc i) v (λ f. other (omega (arith, f, at))) is);
        real = are.real;
      }

-- ---- an envelope that neither begins nor decides

pub nothing_new : (n : ℕ) (mail : List Envelope) (stopped : List NodeId) (m : Envelope) (s : Waiting) → AreWaiting n mail stopped s →
    begun_by m.body ≡ None → ((x : Exec) → decides_on x m.body ≡ false) → AreWaiting n (mail ++ m ∷ []) stopped s
nothing_new n mail stopped m s are b d = record {
  count = are.count;
  decided = λ x. are.decided x ∙ sym (decided_so x);
  each = λ i u there. let is = are.each i u there in record {
    execs = λ x. is.execs x
        ∙ (ap (λ t. x.ver.client == suc i && (t && not (is_decided mail x))) (sym (begun_so x))
        ∙ ap (λ t. x.ver.client == suc i && (is_begun (mail ++ m ∷ []) x && not t)) (sym (decided_so x)));
    client_stopped = is.client_stopped;
  };
  real = are.real;
}
  where
    begun_so : (x : Exec) → is_begun (mail ++ m ∷ []) x ≡ is_begun mail x
    begun_so x = begun_more mail m x ∙ (ap (λ o. is_begun mail x || is_one x o) b ∙ or_false (is_begun mail x))

    decided_so : (x : Exec) → is_decided (mail ++ m ∷ []) x ≡ is_decided mail x
    decided_so x = decided_more mail m x ∙ (ap (λ t. is_decided mail x || t) (d x) ∙ or_false (is_decided mail x))

-- ---- nothing was sent

pub fresh_client : (c : ℕ) (u : Undecided) → ((x : Exec) → contains exec_cmp u.execs x ≡ false) → u.is_stopped ≡ false → IsUndecided c [] [] u
fresh_client c u e f = record { execs = λ x. e x ∙ sym (none (x.ver.client == c)); client_stopped = f }
  where
    none : (t : Bool) → (t && false) ≡ false
    none true = refl
    none false = refl
