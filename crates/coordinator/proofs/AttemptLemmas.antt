-- An attempt that begins is the one of the definitions.
use Rattle.std.proofs.Common.{◌≡◌, ℕ, ◌+◌, ◌-◌, ◌*◌, ◌^◌, ◌<◌, ◌≤◌, min, Bool, true, false, cond, List, length, Option, Some, None, refl, ap, sym, subst, ◌∙◌, arith}
use Rattle.std.specs.Prelude.{nat_lt, slice_get, option_map, ◌||◌, ◌&&◌}
use Rattle.std.proofs.lemmas.Bool.Decides.{nat_tests}
use Rattle.std.proofs.lemmas.List.{length-map}
use Rattle.std.proofs.lemmas.Option.{slice_get-map}
use Rattle.std.proofs.Math.Nat.{mul-le-mul}
use Rattle.protocol.specs.Words.{Version}
use Rattle.protocol.specs.Client.State as protocol
use Rattle.protocol.specs.Client.State.{ClientState}
use Rattle.protocol.specs.declared.Fate.TheVariants.{Live}
use Rattle.protocol.specs.Client.Attempts.{begin, bumped, can_go, go, is_aborted, is_between, next_version, start_of, tries_again}
use Rattle.coordinator.specs.Execution as execution
use Rattle.coordinator.specs.Execution.{fresh_execution}
use Rattle.coordinator.specs.declared.memory.Txn2.{Txn2}
use Rattle.coordinator.specs.declared.memory.Course.{Course}
use Rattle.coordinator.specs.declared.memory.Memory.{Memory}
use Rattle.coordinator.specs.Memory.{Given, StandsFor, txn_in, current, start_in, due_version, begun_memory}
use Rattle.coordinator.specs.Execution.{Loaded}
use Rattle.coordinator.proofs.MemoryLemmas.{begun_before}
use Rattle.std.specs.Bool.{then_some}
use Rattle.protocol.specs.Client.Step.{client_step}
use Rattle.protocol.specs.Client.Step.Input.{Goes}

starts : (programs : List Loaded) (o : Option Txn2) → start_of (option_map (txn_in programs) o) ≡ start_in o
starts programs None = refl
starts programs (Some t) = refl

start_within : (ts : List Txn2) (i : ℕ) → ((j : ℕ) (t : Txn2) → slice_get ts j ≡ Some t → t.at ≤ 1000000000000) → start_in (slice_get ts i) ≤ 1000000000000
start_within ts i h = go (slice_get ts i) refl
  where
    go : (o : Option Txn2) → slice_get ts i ≡ o → start_in o ≤ 1000000000000
    go None e = omega arith
    go (Some t) e = h i t e

pub least : (a b : ℕ) → a ≤ b → min a b ≡ a
least a b h = omega arith

-- within the limits no time saturates
pub version_is : (g : Given) (c : ClientState) (m : Memory) (begun attempt : ℕ) → StandsFor g c m → attempt ≤ 8 →
    next_version g.rules c begun attempt ≡ due_version m.plan begun attempt m.course.exec.ver.ts
version_is g c m begun attempt s few =
    let p = m.plan in
    let start = start_in (slice_get p.txns (begun - 1)) in
    let early : start ≤ 1000000000000 = start_within p.txns (begun - 1) s.limits.starts in
    let less : attempt - 1 ≤ 7 = omega arith in
    let delay : (attempt - 1) * p.rules.gap ≤ 7 * 1000000 = mul-le-mul less s.limits.gap in
    let ts = s.within.ts in
    let count = s.within.begun in
    let all = s.limits.few in
    let tried = s.within.attempt in
    let a : min ((attempt - 1) * p.rules.gap) (2 ^ 64 - 1) ≡ (attempt - 1) * p.rules.gap = least _ _ (omega arith) in
    let b : min (start + (attempt - 1) * p.rules.gap) (2 ^ 64 - 1) ≡ start + (attempt - 1) * p.rules.gap = least _ _ (omega arith) in
    let l : min (m.course.exec.ver.ts + 1) (2 ^ 64 - 1) ≡ m.course.exec.ver.ts + 1 = least _ _ (omega arith) in
    let first : start_of (slice_get g.rules.txns (begun - 1)) ≡ start =
    ap (λ (r : protocol.Rules). start_of (slice_get r.txns (begun - 1))) s.rules
    ∙ ap start_of (slice_get-map (txn_in g.programs) p.txns (begun - 1)) ∙ starts g.programs (slice_get p.txns (begun - 1)) in
    let last : c.exec.ver.ts ≡ m.course.exec.ver.ts = ap (λ (k : Course). k.exec.ver.ts) s.course in
    let gap : g.rules.gap ≡ p.rules.gap = ap (λ (r : protocol.Rules). r.gap) s.rules in
    let client : g.rules.client ≡ p.client = ap (λ (r : protocol.Rules). r.client) s.rules in
    rw (a, b, l, first, last, gap, client) refl

-- an attempt begins within the limits
pub stands_begun : (g : Given) (c : ClientState) (m : Memory) (begun attempt : ℕ) → StandsFor g c m → 0 < begun → begun ≤ length m.plan.txns → attempt ≤ 8 →
    m.course.exec.ver.ts + 1 ≤ 1000008000000 + 8 * begun + attempt →
    execution.StandsFor (current g.programs m.plan begun) fresh_execution → StandsFor g (begin g.rules c begun attempt) (begun_memory m begun attempt)
unfolding begin
stands_begun g c m begun attempt s some there few late fresh = record {
  rules = s.rules;
  limits = s.limits;
  programs = s.programs;
  course =
      ap (λ (v : Version). record { begun = begun; attempt = attempt; exec = record { ver = v; eid = 0 }; serial = bumped c.serial; fate = Live })
      (version_is g c m begun attempt s few)
      ∙ ap (λ n. record (begun_memory m begun attempt).course { serial = bumped n }) (ap (λ (k : Course). k.serial) s.course);
  within = record {
    begun = there;
    attempt = few;
    ts =
        let early : start_in (slice_get m.plan.txns (begun - 1)) ≤ 1000000000000 = start_within m.plan.txns (begun - 1) s.limits.starts in
        let less : attempt - 1 ≤ 7 = omega arith in
        let delay : (attempt - 1) * m.plan.rules.gap ≤ 7 * 1000000 = mul-le-mul less s.limits.gap in
        omega arith;
  };
  started = some;
  answers = refl;
  execution = fresh;
  phase = refl;
  holds = refl;
}

-- how many transactions there are
pub txns_are : (g : Given) (c : ClientState) (m : Memory) → StandsFor g c m → length g.rules.txns ≡ length m.plan.txns
txns_are g c m s = ap (λ (r : protocol.Rules). length r.txns) s.rules ∙ length-map m.plan.txns (txn_in g.programs)

pub below : (a b : ℕ) → nat_lt a b ≡ true → a < b
below a b e = grind (arith, nat_tests)

both : (a b : Bool) → (a && b) ≡ true → (a ≡ true) × (b ≡ true)
both true b e = (refl, e)
both false b e = absurd (cc)

second : (a b c : Bool) → a ≡ false → (c && (a || b)) ≡ true → b ≡ true
second false b true e h = h
second false b false e h = cc
second true b c e h = cc

-- the next try of the transaction
pub stands_again : (g : Given) (c : ClientState) (m : Memory) (attempt : ℕ) → StandsFor g c m → tries_again g.rules c ≡ true → attempt ≡ min (m.course.attempt + 1) (2 ^ 32 - 1) →
    execution.StandsFor (current g.programs m.plan m.course.begun) fresh_execution → StandsFor g (go g.rules c).state (begun_memory m m.course.begun attempt)
unfolding go
stands_again g c m attempt s again is fresh =
    let try : c.try ≡ m.course.attempt = ap (λ (k : Course). k.attempt) s.course in
    let begun : c.begun ≡ m.course.begun = ap (λ (k : Course). k.begun) s.course in
    let tries : g.rules.tries ≡ m.plan.rules.tries = ap (λ (r : protocol.Rules). r.tries) s.rules in
    let left = below c.try g.rules.tries (both (is_aborted c.fate) (nat_lt c.try g.rules.tries) again).1 in
    let some = begun_before g c m s (both (is_aborted c.fate) (nat_lt c.try g.rules.tries) again).0 in
    let most = s.limits.tries in
    let late = s.within.ts in
    let one : attempt ≡ c.try + 1 = omega (arith, is) in
    let few : attempt ≤ 8 = omega arith in
    let later : m.course.exec.ver.ts + 1 ≤ 1000008000000 + 8 * m.course.begun + attempt = omega arith in
    subst (λ t. StandsFor g (cond t (begin g.rules c c.begun (c.try + 1)) (begin g.rules c (c.begun + 1) 1)) (begun_memory m m.course.begun attempt)) (sym again)
    (subst (λ n. StandsFor g (begin g.rules c n (c.try + 1)) (begun_memory m m.course.begun attempt)) (sym begun)
    (subst (λ n. StandsFor g (begin g.rules c m.course.begun n) (begun_memory m m.course.begun attempt)) one
    (stands_begun g c m m.course.begun attempt s some s.within.begun few later fresh)))

-- the next transaction
pub stands_next : (g : Given) (c : ClientState) (m : Memory) (begun : ℕ) → StandsFor g c m → tries_again g.rules c ≡ false → can_go g.rules c ≡ true →
    begun ≡ min (m.course.begun + 1) (2 ^ 32 - 1) →
    execution.StandsFor (current g.programs m.plan begun) fresh_execution → StandsFor g (go g.rules c).state (begun_memory m begun 1)
unfolding go
stands_next g c m begun s not_again may is fresh =
    let was : c.begun ≡ m.course.begun = ap (λ (k : Course). k.begun) s.course in
    let left = below c.begun (length g.rules.txns) (second (tries_again g.rules c) _ (is_between c.phase) not_again may) in
    let count = txns_are g c m s in
    let all = s.limits.few in
    let one : begun ≡ c.begun + 1 = omega (arith, is) in
    let there : begun ≤ length m.plan.txns = omega arith in
    let some : 0 < begun = omega (arith, one) in
    let late = s.within.ts in
    let tried = s.within.attempt in
    let few : 1 ≤ 8 = omega arith in
    let later : m.course.exec.ver.ts + 1 ≤ 1000008000000 + 8 * begun + 1 = omega arith in
    subst (λ t. StandsFor g (cond t (begin g.rules c c.begun (c.try + 1)) (begin g.rules c (c.begun + 1) 1)) (begun_memory m begun 1)) (sym not_again)
    (subst (λ n. StandsFor g (begin g.rules c n 1) (begun_memory m begun 1)) one
    (stands_begun g c m begun 1 s some there few later fresh))

-- the step of a client that begins an attempt
pub goes : (r : protocol.Rules) (c : ClientState) (t : protocol.Turn) → client_step r c Goes ≡ Some t → (can_go r c ≡ true) × (t ≡ go r c)
unfolding client_step
goes r c t e = case (can_go r c) e
  where
    case : (b : Bool) → then_some b (go r c) ≡ Some t → (b ≡ true) × (t ≡ go r c)
    case true e = (refl, let same : go r c ≡ t = cc in sym same)
    case false e = absurd (cc)
