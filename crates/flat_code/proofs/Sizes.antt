-- Code is no longer than three operations for each statement that a run can begin, and its jumps are valid.
use Rattle.std.proofs.Common.{◌≡◌, ℕ, zero, suc, ◌+◌, ◌*◌, ◌<◌, ◌≤◌, List, [], ◌∷◌, ◌++◌, length, subst, arith, length-append}
use Rattle.txn_lang.specs.Tree as tree
use Rattle.txn_lang.specs.Tree.{Term, Command, Commands}
use Rattle.txn_lang.specs.Limits.{steps_in, steps, FitsIn, Fits}
use Rattle.flat_code.specs.Operation.{Operation, Go, Again}
use Rattle.flat_code.specs.Flat.{looped, flat_in, flat}
use Rattle.flat_code.specs.Jumps.{AreValid}
use Rattle.flat_code.proofs.Counts.{loop_count, count_in, count}

loop_length : (times : ℕ) (os : List Operation) (s : ℕ) → length os ≤ 3 * s → length (looped times os) ≤ 3 * (1 + times * s)
loop_length zero os s h = omega arith
loop_length (suc further) [] s h = omega arith
loop_length (suc further) (o ∷ os) s h =
    let more : s ≤ suc further * s = omega arith in
    omega (arith, length-append (o ∷ os) (Again (length (o ∷ os)) ∷ []))

mutual
  length_in : (c : Command) → length (flat_in c) ≤ 3 * steps_in c
  length_in (tree.Let v e) = omega arith
  length_in (tree.Read v table i) = omega arith
  length_in (tree.Write table i e) = omega arith
  length_in (tree.Print e) = omega arith
  length_in (tree.If e a b) = omega (arith, length-append (flat a) (Go (length (flat b)) ∷ flat b), length_of a, length_of b)
  length_in (tree.Repeat times body) = loop_length times (flat body) (steps body) (length_of body)
  length_in tree.Abort = omega arith

  pub length_of : (cs : Commands) → length (flat cs) ≤ 3 * steps cs
  length_of tree.End = omega arith
  length_of (tree.Then c rest) = omega (arith, length-append (flat_in c) (flat rest), length_in c, length_of rest)

steps_some : (c : Command) → 1 ≤ steps_in c
steps_some (tree.If e a b) = omega arith
steps_some (tree.Repeat times body) = omega arith
steps_some (tree.Let v e) = omega arith
steps_some (tree.Read v table i) = omega arith
steps_some (tree.Write table i e) = omega arith
steps_some (tree.Print e) = omega arith
steps_some tree.Abort = omega arith

mul_le : (k a b : ℕ) → a ≤ b → k * a ≤ k * b
mul_le zero a b h = omega arith
mul_le (suc k) a b h = omega (arith, mul_le k a b h)

thrice : (k s : ℕ) → k * (3 * s) ≡ 3 * (k * s)
thrice zero s = omega arith
thrice (suc k) s = omega (arith, thrice k s)

-- one less than three for each, so that a loop's end is counted too
loop_counted : (times n s : ℕ) (os : List Operation) → n + 1 ≤ 3 * s → loop_count times os n + 1 ≤ 3 * (1 + times * s)
loop_counted zero n s os h = omega arith
loop_counted (suc further) n s [] h = omega arith
loop_counted (suc further) n s (o ∷ os) h =
    let all : further * (1 + n) ≤ further * (3 * s) = mul_le further (1 + n) (3 * s) (omega arith) in
    let same : further * (3 * s) ≡ 3 * (further * s) = thrice further s in
    let t : suc further * s ≡ s + further * s = omega arith in
    let u : suc further * (1 + n) ≡ 1 + n + further * (1 + n) = omega arith in
    omega arith

loop_counted_none : (times : ℕ) → loop_count times [] 0 + 1 ≤ 3 * (1 + times * 0)
loop_counted_none zero = omega arith
loop_counted_none (suc further) = omega arith

mutual
  counted_in : (c : Command) → count_in c + 1 ≤ 3 * steps_in c
  counted_in (tree.Let v e) = omega arith
  counted_in (tree.Read v table i) = omega arith
  counted_in (tree.Write table i e) = omega arith
  counted_in (tree.Print e) = omega arith
  counted_in (tree.If e a b) = omega (arith, counted a, counted b)
  counted_in (tree.Repeat times tree.End) = loop_counted_none times
  counted_in (tree.Repeat times (tree.Then c rest)) =
      loop_counted times (count_in c + count rest) (steps_in c + steps rest) (flat (tree.Then c rest)) (omega (arith, counted_in c, counted rest))
  counted_in tree.Abort = omega arith

  pub counted : (cs : Commands) → count cs ≤ 3 * steps cs
  counted tree.End = omega arith
  counted (tree.Then c rest) = omega (arith, counted_in c, counted rest)

-- the operations of a tree stay valid where more follow
pub valid_both : (n end pc : ℕ) (a b : List Operation) → AreValid n end pc a → AreValid n end (pc + length a) b → AreValid n end pc (a ++ b)
valid_both n end pc [] b ha hb = let e : pc + 0 ≡ pc = omega arith in subst (λ p. AreValid n end p b) e hb
valid_both n end pc (o ∷ a) b ha hb =
    let e : pc + length (o ∷ a) ≡ pc + 1 + length a = omega arith in
    (ha.0, valid_both n end (pc + 1) a b ha.1 (subst (λ p. AreValid n end p b) e hb))

loop_valid : (n end pc times : ℕ) (os : List Operation) → ((p : ℕ) → p + length os < end → AreValid n end p os) → pc + length (looped times os) < end →
    AreValid n end pc (looped times os)
loop_valid n end pc zero os h within = (omega arith, tt)
loop_valid n end pc (suc further) [] h within = (omega arith, tt)
loop_valid n end pc (suc further) (o ∷ os) h within =
    let b = o ∷ os in
    let l : length (b ++ Again (length b) ∷ []) ≡ length b + 1 = length-append b (Again (length b) ∷ []) in
    let first : pc + 1 < end = omega arith in
    let back : length b ≤ pc + 1 + length b = omega arith in
    let last : pc + 1 + length b + 1 < end = omega arith in
    let here : pc + 1 + length b < end = omega arith in
    (first, valid_both n end (pc + 1) b (Again (length b) ∷ []) (h (pc + 1) here) ((back, last), tt))

mutual
  valid_in : (n end : ℕ) (c : Command) (pc : ℕ) → FitsIn n c → pc + length (flat_in c) < end → AreValid n end pc (flat_in c)
  valid_in n end (tree.Let v e) pc fits within = ((fits.0, fits.1.0, omega arith), tt)
  valid_in n end (tree.Read v table i) pc fits within = ((fits.0, fits.1.0, omega arith), tt)
  valid_in n end (tree.Write table i e) pc fits within = ((fits.0.0, fits.1.0, omega arith), tt)
  valid_in n end (tree.Print e) pc fits within = ((fits.0, omega arith), tt)
  valid_in n end (tree.If e a b) pc fits within =
      let l = length-append (flat a) (Go (length (flat b)) ∷ flat b) in
      let test : pc + 1 + (length (flat a) + 1) < end = omega arith in
      let go : pc + 1 + length (flat a) + 1 + length (flat b) < end = omega arith in
      let in_a : pc + 1 + length (flat a) < end = omega arith in (
        (fits.0.0, test),
        valid_both n end (pc + 1) (flat a) (Go (length (flat b)) ∷ flat b) (valid_all n end a (pc + 1) fits.1 in_a)
            (go, valid_all n end b (pc + 1 + length (flat a) + 1) fits.2 go),
      )
  valid_in n end (tree.Repeat times body) pc fits within = loop_valid n end pc times (flat body) (λ p w. valid_all n end body p fits.1 w) within
  valid_in n end tree.Abort pc fits within = (tt, tt)

  pub valid_all : (n end : ℕ) (cs : Commands) (pc : ℕ) → Fits n cs → pc + length (flat cs) < end → AreValid n end pc (flat cs)
  valid_all n end tree.End pc fits within = tt
  valid_all n end (tree.Then c rest) pc fits within =
      let l = length-append (flat_in c) (flat rest) in
      let first : pc + length (flat_in c) < end = omega arith in
      let second : pc + length (flat_in c) + length (flat rest) < end = omega arith in
      valid_both n end pc (flat_in c) (flat rest) (valid_in n end c pc fits.0 first) (valid_all n end rest (pc + length (flat_in c)) fits.1 second)
