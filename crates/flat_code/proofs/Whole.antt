-- The operations of a whole program are code, and do what the program does.
use Rattle.std.proofs.Common.{◌≡◌, ℕ, suc, ◌+◌, ◌*◌, ◌<◌, ◌≤◌, ◌^◌, List, [], ◌∷◌, ◌++◌, length, map, refl, sym, ap, subst, ◌∙◌, arith, length-append, append_assoc}
use Rattle.txn_lang.specs.declared.tree.Expr.{Expr}
use Rattle.txn_lang.specs.declared.tree.Block.{Block}
use Rattle.txn_lang.specs.declared.tree.Stmt.{Stmt}
use Rattle.txn_lang.specs.declared.tree.Stmt.TheVariants as stmt
use Rattle.txn_lang.specs.Tree.{Commands, Repeat, command, commands, term}
use Rattle.txn_lang.specs.declared.limits.TheConstants.{MOST_STEPS}
use Rattle.txn_lang.specs.Limits.{steps, steps_in, IsWithin}
use Rattle.txn_lang.specs.Program.{Program, IsProgram}
use Rattle.txn_lang.proofs.Trees.{command-If, command-Repeat}
use Rattle.flat_code.specs.declared.op.Op.{Op}
use Rattle.flat_code.specs.declared.op.Op.TheVariants as op
use Rattle.flat_code.specs.Operation.{Operation, Finish, Test, Go, Enter, Again, operation, Flat}
use Rattle.flat_code.specs.Flat.{flat, flat_in, chosen, looped, flat_program}
use Rattle.flat_code.specs.Jumps.{AreValid, IsFlat}
use Rattle.flat_code.specs.declared.code.TheConstants.{MOST_OPERATIONS}
use Rattle.flat_code.specs.Does.{IsCodeOf}
use Rattle.flat_code.proofs.Counts.{count}
use Rattle.flat_code.proofs.Doing.{program_done}
use Rattle.flat_code.proofs.Sizes.{length_of, counted, valid_both, valid_all}

map_append : (a b : List Op) → map operation (a ++ b) ≡ map operation a ++ map operation b
map_append [] b = refl
map_append (o ∷ a) b = ap (λ l. operation o ∷ l) (map_append a b)

map_length : (a : List Op) → length (map operation a) ≡ length a
map_length [] = refl
map_length (o ∷ a) = let e = map_length a in omega arith

pub with_finish : (ops all : List Op) (body : Commands) → map operation ops ≡ flat body → all ≡ ops ++ op.Finish ∷ [] → map operation all ≡ flat_program body
with_finish ops all body e is = ap (map operation) is ∙ map_append ops (op.Finish ∷ []) ∙ ap (λ l. l ++ Finish ∷ []) e

-- a block that a run can begin is short
pub is_short : (ops : List Op) (cs : Commands) → map operation ops ≡ flat cs → steps cs ≤ MOST_STEPS → length ops ≤ 12288
is_short ops cs e few = let l = map_length ops in let m = ap length e in let n = length_of cs in omega arith

pub is_flat : (ops : List Op) (n : ℕ) (body : Commands) → IsWithin n body → map operation ops ≡ flat_program body →
    IsFlat (record { operations = ops; locals = n })
is_flat ops n body w e =
    let l : length ops ≡ length (flat body) + 1 = sym (map_length ops) ∙ ap length e ∙ length-append (flat body) (Finish ∷ []) in
    let short : length ops < 2 ^ 32 = omega (arith, length_of body, w.steps_within) in
    let within : 0 + length (flat body) < length ops = omega arith in
    record {
      short = short;
      valid =
          subst (λ os. AreValid n (length ops) 0 os) (sym e)
          (valid_both n (length ops) 0 (flat body) (Finish ∷ []) (valid_all n (length ops) body 0 w.each within) (tt, tt));
    }

pub is_code_of : (code : Flat) (p : Program) → IsProgram p → map operation code.operations ≡ flat_program (commands p.body) → code.locals ≡ length p.names →
    IsCodeOf code p
is_code_of code p kept e same =
    let le : count (commands p.body) + 1 ≤ MOST_OPERATIONS = omega (arith, counted (commands p.body), kept.within.steps_within) in
    record {
      locals = same;
      does = record {
        left = count (commands p.body) + 1;
        few = le;
        does = program_done code (commands p.body) (length p.names) e same;
      };
    }

-- the parts of a choice and of a loop, put together
pub choice_emitted : (o1 o2 o3 o4 first second : List Op) (s : Stmt) (e e' : Expr) (a b : Block) (n m : ℕ) → s ≡ stmt.If e a b → e' ≡ e →
    o1 ≡ op.Test e' (n + 1) ∷ [] → o2 ≡ o1 ++ first → o3 ≡ o2 ++ op.Go m ∷ [] → o4 ≡ o3 ++ second → n ≡ length first → m ≡ length second →
    map operation first ≡ flat (commands a) → map operation second ≡ flat (commands b) → map operation o4 ≡ flat_in (command s)
choice_emitted o1 o2 o3 o4 first second s e e' a b n m is same e1 e2 e3 e4 hn hm hy hno =
    let all : o4 ≡ ((op.Test e' (n + 1) ∷ [] ++ first) ++ op.Go m ∷ []) ++ second = cc in
    let ny : n ≡ length (flat (commands a)) = hn ∙ sym (map_length first) ∙ ap length hy in
    let mn : m ≡ length (flat (commands b)) = hm ∙ sym (map_length second) ∙ ap length hno in
    ap (map operation) all
    ∙ map_append ((op.Test e' (n + 1) ∷ [] ++ first) ++ op.Go m ∷ []) second
    ∙ ap (λ l. l ++ map operation second) (map_append (op.Test e' (n + 1) ∷ [] ++ first) (op.Go m ∷ []))
    ∙ ap (λ l. (Test (term e') (n + 1) ∷ l ++ Go m ∷ []) ++ map operation second) hy
    ∙ ap (λ l. (Test (term e') (n + 1) ∷ flat (commands a) ++ Go m ∷ []) ++ l) hno
    ∙ ap (λ l. Test (term e') (n + 1) ∷ l) (append_assoc (flat (commands a)) (Go m ∷ []) (flat (commands b)))
    ∙ ap (λ k. Test (term e') (k + 1) ∷ (flat (commands a) ++ Go m ∷ flat (commands b))) ny
    ∙ ap (λ k. Test (term e') (length (flat (commands a)) + 1) ∷ (flat (commands a) ++ Go k ∷ flat (commands b))) mn
    ∙ ap (λ x. chosen (term x) (flat (commands a)) (flat (commands b))) same
    ∙ ap flat_in (sym (command-If e a b))
    ∙ ap (λ x. flat_in (command x)) (sym is)

loop_whole : (further : ℕ) (os : List Operation) → (os ≡ [] → ⊥) → looped (suc further) os ≡ Enter further ∷ (os ++ Again (length os) ∷ [])
loop_whole further [] h = absurd (h refl)
loop_whole further (o ∷ os) h = refl

none_of : (ops : List Op) → map operation ops ≡ [] → ops ≡ []
none_of [] h = refl
none_of (o ∷ ops) h = cc

pub loop_emitted : (o1 o2 o3 ops : List Op) (s : Stmt) (body : Block) (times further n : ℕ) → s ≡ stmt.Repeat times body → times ≡ suc further →
    (ops ≡ [] → ⊥) → o1 ≡ op.Enter further ∷ [] → o2 ≡ o1 ++ ops → o3 ≡ o2 ++ op.Again n ∷ [] → n ≡ length ops → map operation ops ≡ flat (commands body) →
    map operation o3 ≡ flat_in (command s)
loop_emitted o1 o2 o3 ops s body times further n is t some e1 e2 e3 hn h =
    let all : o3 ≡ (op.Enter further ∷ [] ++ ops) ++ op.Again n ∷ [] = cc in
    let same : n ≡ length (flat (commands body)) = hn ∙ sym (map_length ops) ∙ ap length h in
    ap (map operation) all
    ∙ map_append (op.Enter further ∷ [] ++ ops) (op.Again n ∷ [])
    ∙ ap (λ l. Enter further ∷ (l ++ Again n ∷ [])) h
    ∙ ap (λ k. Enter further ∷ (flat (commands body) ++ Again k ∷ [])) same
    ∙ sym (loop_whole further (flat (commands body)) (λ e. some (none_of ops (h ∙ e))))
    ∙ ap (λ k. looped k (flat (commands body))) (sym t)
    ∙ ap flat_in (sym (command-Repeat times body))
    ∙ ap (λ x. flat_in (command x)) (sym is)

pub few_first : (s : Stmt) (e : Expr) (a b : Block) → s ≡ stmt.If e a b → steps_in (command s) ≤ MOST_STEPS → steps (commands a) ≤ MOST_STEPS
few_first s e a b is few =
    let h : 1 + (steps (commands a) + steps (commands b)) ≤ MOST_STEPS = subst (λ k. steps_in k ≤ MOST_STEPS) (ap command is ∙ command-If e a b) few in
    omega (arith, h)

pub few_second : (s : Stmt) (e : Expr) (a b : Block) → s ≡ stmt.If e a b → steps_in (command s) ≤ MOST_STEPS → steps (commands b) ≤ MOST_STEPS
few_second s e a b is few =
    let h : 1 + (steps (commands a) + steps (commands b)) ≤ MOST_STEPS = subst (λ k. steps_in k ≤ MOST_STEPS) (ap command is ∙ command-If e a b) few in
    omega (arith, h)

pub few_turn : (s : Stmt) (body : Block) (times further : ℕ) → s ≡ stmt.Repeat times body → times ≡ suc further → steps_in (command s) ≤ MOST_STEPS →
    steps (commands body) ≤ MOST_STEPS
few_turn s body times further is t few =
    let h : 1 + suc further * steps (commands body) ≤ MOST_STEPS =
    subst (λ k. steps_in k ≤ MOST_STEPS) (ap command is ∙ command-Repeat times body ∙ ap (λ n. Repeat n (commands body)) t) few in
    let e : suc further * steps (commands body) ≡ steps (commands body) + further * steps (commands body) = omega arith in
    omega (arith, h)
