-- The step in which a transaction begins, and what a client does before and after its transaction.
use Rattle.std.proofs.Common.{◌≡◌, ℕ, ◌<◌, ◌+◌, inl, inr, refl, ap, sym, ◌∙◌, subst, true, false, Bool, [], length, arith, get_or}
use Rattle.std.specs.Prelude.{cond, max, ◌-◌, ◌*◌, ◌&&◌, ◌||◌, nat_lt}
use Rattle.std.specs.List.{slice_get}
use Rattle.std.proofs.lemmas.Bool.Decides.{nat_tests}
use Rattle.std.proofs.lemmas.Option.{slice_get-get_or}
use Rattle.protocol.specs.Words.{no_version, before}
use Rattle.protocol.specs.declared.Fate.{Fate}
use Rattle.protocol.specs.declared.Fate.TheVariants.{Committed}
use Rattle.protocol.specs.Client.State.{Attempt, ClientState, Phase, Rules, Txn, no_walk}
use Rattle.protocol.specs.Client.State.Phase.{Between, Running, Prepared}
use Rattle.protocol.specs.Client.Attempts.{can_go, go, begin, tries_again, is_aborted, is_between, next_version, start_of}
use Rattle.protocol.specs.World.State.{Plan, World, rules}
use Rattle.protocol.proofs.TestLemmas.{and_right, lt_is}
use Rattle.law_steps.proofs.TryRec.{TryRec}
use Rattle.law_progress.proofs.Stage.{InFirst, Stands}

-- a client that goes begins the next try, or the next transaction
pub data Goes (r : Rules) (s s' : ClientState) : Type 0 where
  Again : tries_again r s ≡ true → s'.begun ≡ s.begun → Goes r s s'
  Next_one : tries_again r s ≡ false → s.begun < length r.txns → s' ≡ begin r s (s.begun + 1) 1 → Goes r s s'

pub goes : (r : Rules) (s : ClientState) → can_go r s ≡ true → Goes r s (go r s).state
unfolding go begin
goes r s e = by (tries_again r s) refl
  where
    by : (t : Bool) → tries_again r s ≡ t → Goes r s (cond t (begin r s s.begun (s.try + 1)) (begin r s (s.begun + 1) 1))
    by true q = Again q refl
    by false q = Next_one q (lt_is s.begun (length r.txns) (left q (and_right (is_between s.phase) _ e))) refl
      where
        left : tries_again r s ≡ false → (tries_again r s || nat_lt s.begun (length r.txns)) ≡ true → nat_lt s.begun (length r.txns) ≡ true
        left q f = subst (λ (t : Bool). (t || nat_lt s.begun (length r.txns)) ≡ true) q f

-- one that goes has nothing under way
pub goes_between : (p : Plan) (w : World) (c : ℕ) (r : Rules) (s : ClientState) (h : Phase) → s.phase ≡ h → Stands p w c s h → can_go r s ≡ true → ⊥
goes_between p w c r s Between e z g = z
goes_between p w c r s (Running true b) e z g = let f : false
    ≡ true = subst (λ (h : Phase). (is_between h && (tries_again r s || nat_lt s.begun (length r.txns))) ≡ true) e g in cc
goes_between p w c r s (Running false b) e z g = let f : false
    ≡ true = subst (λ (h : Phase). (is_between h && (tries_again r s || nat_lt s.begun (length r.txns))) ≡ true) e g in cc
goes_between p w c r s (Prepared k vs o acs) e z g = let f : false
    ≡ true = subst (λ (h : Phase). (is_between h && (tries_again r s || nat_lt s.begun (length r.txns))) ≡ true) e g in cc

-- after a commit the next transaction is begun
pub no_more_tries : (r : Rules) (s : ClientState) → s.fate ≡ Committed → tries_again r s ≡ true → ⊥
no_more_tries r s e f = let g : false ≡ true = subst (λ (y : Fate). (is_aborted y && nat_lt s.try r.tries) ≡ true) e f in cc

pub begun_next : (r : Rules) (s : ClientState) → (begin r s (s.begun + 1) 1).begun ≡ s.begun + 1
unfolding begin
begun_next r s = refl

some_time : (ts c : ℕ) → 0 < ts → before no_version (record { ts = ts; client = c }) ≡ true
unfolding before
some_time ts c l = grind (arith, nat_tests)

pub begins_stands : (p : Plan) (w : World) (c : ℕ) (r : Rules) (s : ClientState) (b t : ℕ) → Stands p w c (begin r s b t) (begin r s b t).phase
unfolding begin
begins_stands p w c r s b t = ([], refl)

module _ (p : Plan) (c n : ℕ) (s : ClientState) (before_it : s.begun < n) (t : TryRec s) where
  -- a transaction that begins has its first version, above that of first values
  pub begins_first : s.begun + 1 ≡ n → s.begun < length (rules p c).txns → InFirst p c n (begin (rules p c) s (s.begun + 1) 1)
  unfolding begin
  begins_first e l = record {
    begun = e;
    there = inl (λ i. record { ver = next_version (rules p c) s (s.begun + 1) 1; txn = sym e i; try = 1 });
    first = refl;
    client = refl;
    above = some_time (max (start_of (slice_get (rules p c).txns (s.begun + 1 - 1)) + (1 - 1) * (rules p c).gap) (s.exec.ver.ts + 1)) c (omega arith);
    only = λ b i f. elim i [
      | inl g ↦ ap (λ (a : Attempt). a.ver) g
      | inr j ↦ let k = (t.bounded b j).1 in absurd (omega (arith, k, f, before_it))
    ];
    program = (
      get_or (rules p c).txns s.begun no_txn,
      ap (λ (m : ℕ). slice_get (rules p c).txns m) at_place
          ∙ slice_get-get_or (rules p c).txns s.begun no_txn l,
    );
  }
    where
      no_txn : Txn
      no_txn = record { walk = λ vs. no_walk; at = 0 }

      at_place : n - 1 ≡ s.begun
      at_place = omega (arith, e)
