-- A part of tokens that are within the limits is within them.
use Rattle.std.proofs.Common.{◌≡◌, ℕ, ◌+◌, ◌-◌, ◌≤◌, Bool, true, false, ltb, cond, List, [], ◌∷◌, ◌++◌, Ok, Err, refl, ap, ◌∙◌, arith}
use Rattle.std.proofs.lemmas.Bool.{cond_both, cond-true, lt-ltb, ltb-true}
use Rattle.txn_lang.specs.declared.limits.TheConstants.{DEEPEST_BLOCK, LONGEST_EXPRESSION}
use Rattle.txn_text.specs.declared.faults.FaultKind.TheVariants.{Deep, LongExpression}
use Rattle.txn_parse.specs.declared.symbols.Symbol.{Symbol}
use Rattle.txn_parse.specs.declared.symbols.Symbol.TheVariants as symbol
use Rattle.txn_parse.specs.Symbols.{Lexeme}
use Rattle.txn_parse.specs.Tree.{Commands}
use Rattle.txn_parse.specs.Grammar.{Free, Within, IsBlock}
use Rattle.txn_parse.specs.Counts.{in_expression, Counts, one_counted, and_then, counted}
use Rattle.txn_parse.specs.Faults.{IsWithinLimits}
use Rattle.txn_parse.proofs.CountsLemmas.{then_ok, parts, same_ok, limits_are_counts}

-- counts that are no greater than others
record Less (r : Counts) (c : ℕ × ℕ) : Type 0 where
  counts : ℕ × ℕ
  are : r ≡ Ok counts
  depth : counts.0 ≤ c.0
  run : counts.1 ≤ c.1

less : (p m : ℕ) (c : ℕ × ℕ) (d : ℕ × ℕ) → d ≡ c → p ≤ d.0 → m ≤ d.1 → Less (Ok (p, m)) c
less p m c d same deep long = record { counts = (p, m); are = refl; depth = let e = ap (λ (x : ℕ × ℕ). x.0) same in omega (arith, e, deep); run = let e = ap (λ (x : ℕ × ℕ). x.1) same in omega (arith, e, long) }

-- behind a brace that opens a block, and behind a token of expressions
abbrev open_to : ℕ → Lexeme → Counts
open_to o l = cond (ltb o DEEPEST_BLOCK) (Ok (o + 1, 0)) (Err (l, Deep))

abbrev run_to : ℕ → ℕ → Lexeme → Counts
run_to o n l = cond (ltb n LONGEST_EXPRESSION) (Ok (o, n + 1)) (Err (l, LongExpression))

abbrev other_to : Bool → ℕ → ℕ → Lexeme → Counts
other_to on o n l = cond on (run_to o n l) (Ok (o, 0))

open_less : (o n p : ℕ) (l : Lexeme) (c : ℕ × ℕ) → p ≤ o → open_to o l ≡ Ok c → Less (open_to p l) c
open_less o n p l c deep =
    cond_both (ltb o DEEPEST_BLOCK) (Ok (o + 1, 0)) (Err (l, Deep)) (λ r. r ≡ Ok c → Less (open_to p l) c)
    (λ low is.
    let room = ltb-true o DEEPEST_BLOCK low in
    let one = less (p + 1) 0 c (o + 1, 0) (same_ok (o + 1, 0) c is) (omega (arith, deep)) (omega arith) in
    record { counts = one.counts; are = cond-true (ltb p DEEPEST_BLOCK) _ _ (lt-ltb p DEEPEST_BLOCK (omega (arith, deep, room))) ∙ one.are; depth = one.depth; run = one.run })
    (λ _ is. cc)

run_less : (o n p m : ℕ) (l : Lexeme) (c : ℕ × ℕ) → p ≤ o → m ≤ n → run_to o n l ≡ Ok c → Less (run_to p m l) c
run_less o n p m l c deep long =
    cond_both (ltb n LONGEST_EXPRESSION) (Ok (o, n + 1)) (Err (l, LongExpression)) (λ r. r ≡ Ok c → Less (run_to p m l) c)
    (λ low is.
    let room = ltb-true n LONGEST_EXPRESSION low in
    let one = less p (m + 1) c (o, n + 1) (same_ok (o, n + 1) c is) deep (omega (arith, long)) in
    record { counts = one.counts; are = cond-true (ltb m LONGEST_EXPRESSION) _ _ (lt-ltb m LONGEST_EXPRESSION (omega (arith, long, room))) ∙ one.are; depth = one.depth; run = one.run })
    (λ _ is. cc)

other_less : (on : Bool) (o n p m : ℕ) (l : Lexeme) (c : ℕ × ℕ) → p ≤ o → m ≤ n → other_to on o n l ≡ Ok c → Less (other_to on p m l) c
other_less true o n p m l c deep long is = run_less o n p m l c deep long is
other_less false o n p m l c deep long is = less p 0 c (o, 0) (same_ok (o, 0) c is) deep (omega arith)

one_less : (o n p m : ℕ) (l : Lexeme) (s : Symbol) (c : ℕ × ℕ) → p ≤ o → m ≤ n → one_counted o n l s ≡ Ok c → Less (one_counted p m l s) c
one_less o n p m l symbol.OpenBlock c deep long is = open_less o n p l c deep is
one_less o n p m l symbol.CloseBlock c deep long is = less (p - 1) 0 c (o - 1, 0) (same_ok (o - 1, 0) c is) (omega (arith, deep)) (omega arith)
one_less o n p m l s c deep long is = other_less (in_expression s) o n p m l c deep long is

counted_less : (ls : List Lexeme) (o n p m : ℕ) (c : ℕ × ℕ) → p ≤ o → m ≤ n → counted o n ls ≡ Ok c → Less (counted p m ls) c
counted_less [] o n p m c deep long is = less p m c (o, n) (same_ok (o, n) c is) deep long
counted_less (l ∷ ls) o n p m c deep long is =
    let x = then_ok (one_counted o n l l.symbol) (λ c. counted c.0 c.1 ls) c is in
    let one = one_less o n p m l l.symbol x.0 deep long x.1 in
    let rest = counted_less ls x.0.0 x.0.1 one.counts.0 one.counts.1 c one.depth one.run x.2 in
    record { counts = rest.counts; are = ap (λ r. and_then r (λ c. counted c.0 c.1 ls)) one.are ∙ rest.are; depth = rest.depth; run = rest.run }

pub part_within : (front part rest : List Lexeme) → IsWithinLimits (front ++ (part ++ rest)) → IsWithinLimits part
part_within front part rest w =
    let x = parts front (part ++ rest) 0 0 w.0 w.1 in
    let y = parts part rest x.0.0 x.0.1 w.0 x.2 in
    let one = counted_less part x.0.0 x.0.1 0 0 y.0 (omega arith) (omega arith) y.1 in
    (one.counts, one.are)

-- so a block among them is one within the limits
pub block_within : (front part rest : List Lexeme) (b : Commands) → IsWithinLimits (front ++ (part ++ rest)) → IsBlock Free part b → IsBlock (Within LONGEST_EXPRESSION DEEPEST_BLOCK) part b
block_within front part rest b w d = let one = part_within front part rest w in limits_are_counts.within part b one.0 d one.1
