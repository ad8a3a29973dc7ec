-- Code that has the operations of a tree does what the tree does.
use Rattle.std.proofs.Common.{◌≡◌, ℕ, zero, suc, ◌+◌, ◌-◌, ◌*◌, ◌≤◌, List, [], ◌∷◌, ◌++◌, length, map, replicate, Bool, true, false, Some, Ok, Err, refl, sym, subst, ◌∙◌, ℤ, pos, arith, length-append}
use Rattle.std.specs.Prelude.{slice_set}
use Rattle.std.proofs.lemmas.List.{reverse-append, reverse-reverse, length-replicate, length-set}
use Rattle.morty_base.specs.declared.names.Ending.TheVariants as ending
use Rattle.txn_lang.specs.Tree as tree
use Rattle.txn_lang.specs.Tree.{Term, Command, Commands}
use Rattle.txn_lang.specs.Value.{Value, value, is_true}
use Rattle.txn_lang.specs.Actions.{Actions, Begins, Ends, Next, with_value, choice, repeated, actions, all_actions, program_actions}
use Rattle.flat_code.specs.declared.frame.Frame.{Frame}
use Rattle.flat_code.specs.declared.frame.OpOut.TheVariants as out
use Rattle.flat_code.specs.Operation.{Operation, Let, Read, Write, Print, Test, Go, Enter, Again, Skip, Abort, Finish, operation, begins, Flat}
use Rattle.flat_code.specs.Step.{Step, step, on_value, branch, turn}
use Rattle.flat_code.specs.Flat.{chosen, looped, flat_in, flat, flat_program}
use Rattle.flat_code.specs.Does.{fetched, After, Begun, DoesAt, DoesFrom, first_frame}
use Rattle.flat_code.proofs.More.{Doing, does_more}
use Rattle.flat_code.proofs.Parts.{HasIn, has_front, has_back, has_all}
use Rattle.flat_code.proofs.Counts.{loop_count, count_in, count, nothing_counted}

abbrev frame : ℕ → List ℕ → List ℤ → Frame
frame pc loops locals = record { pc = pc; loops = loops; locals = locals }

-- what one operation does with a value
valued : (D : Doing) (o : Operation) (f : Frame) (v : Value) (s : ℤ → Step) (k : ℤ → Actions) → ((x : ℤ) → After D o (s x).out (s x).at (k x)) →
    After D o (on_value v f s).out (on_value v f s).at (with_value v k)
valued D o f (Ok x) s k h = h x
valued D o f (Err fault) s k h = refl

module _ (code : Flat) where
  abbrev Has : ℕ → List Operation → Type 0
  Has pc os = HasIn (map operation code.operations) pc os

  -- from this place the code does what follows, whatever the locals
  abbrev Ready : ℕ → ℕ → List ℕ → Next → Type 0
  Ready n pc loops next = (locals : List ℤ) → length locals ≡ code.locals → DoesFrom code n (frame pc loops locals) (next locals)

  ready_more : (m n pc : ℕ) (loops : List ℕ) (next : Next) → m ≤ n → Ready m pc loops next → Ready n pc loops next
  ready_more m n pc loops next le h locals l = does_more code m n le (frame pc loops locals) (next locals) (h locals l)

  ready_at : (n p q : ℕ) (loops : List ℕ) (next : Next) → p ≡ q → Ready n p loops next → Ready n q loops next
  ready_at n p q loops next e h = subst (λ p. Ready n p loops next) e h

  does_one : (o : Operation) (n : ℕ) (f : Frame) (a : Actions) → fetched code f.pc ≡ Some o → length f.locals ≡ code.locals →
      DoesAt (DoesFrom code n) (Some o) f a → DoesFrom code (suc n) f a
  does_one o n f a h l d = (l, subst (λ s. DoesAt (DoesFrom code n) s f a) (sym h) d)

  abbrev D : ℕ → Doing
  D n = DoesFrom code n

  lets : (v : ℕ) (e : Term) (n pc : ℕ) (loops : List ℕ) (next : Next) → fetched code pc ≡ Some (Let v e) → Ready n (pc + 1) loops next →
      Ready (suc n) pc loops (actions (tree.Let v e) next)
  lets v e n pc loops next h ready locals l =
      let f = frame pc loops locals in
      does_one (Let v e) n f (actions (tree.Let v e) next locals) h l
      (_, refl, valued (D n) (Let v e) f (value e locals) _ _ (λ x. ready (slice_set locals v x) (length-set locals v x ∙ l)))

  -- one operation that begins a statement and goes on with a value
  begun : (o : Operation) (n : ℕ) (f : Frame) (a b : Actions) → begins o ≡ true → a ≡ Begins b → fetched code f.pc ≡ Some o →
      length f.locals ≡ code.locals → After (D n) o (step o f).out (step o f).at b → DoesFrom code (suc n) f a
  begun o n f a b t e h l d = does_one o n f a h l (subst (λ x. Begun x (After (D n) o (step o f).out (step o f).at) a) (sym t) (b, e, d))

  reads : (v table : ℕ) (i : Term) (n pc : ℕ) (loops : List ℕ) (next : Next) → fetched code pc ≡ Some (Read v table i) → Ready n (pc + 1) loops next →
      Ready (suc n) pc loops (actions (tree.Read v table i) next)
  reads v table i n pc loops next h ready locals l =
      begun (Read v table i) n (frame pc loops locals) _ _ refl refl h l
      (valued (D n) (Read v table i) (frame pc loops locals) (value i locals) _ _
      (λ at. ((λ x. next (slice_set locals v x)), refl, λ x. ready (slice_set locals v x) (length-set locals v x ∙ l))))

  writes : (table : ℕ) (i e : Term) (n pc : ℕ) (loops : List ℕ) (next : Next) → fetched code pc ≡ Some (Write table i e) → Ready n (pc + 1) loops next →
      Ready (suc n) pc loops (actions (tree.Write table i e) next)
  writes table i e n pc loops next h ready locals l =
      begun (Write table i e) n (frame pc loops locals) _ _ refl refl h l
      (valued (D n) (Write table i e) (frame pc loops locals) (value i locals) _ _
      (λ at. valued (D n) (Write table i e) (frame pc loops locals) (value e locals) _ _ (λ x. (next locals, refl, ready locals l))))

  prints : (e : Term) (n pc : ℕ) (loops : List ℕ) (next : Next) → fetched code pc ≡ Some (Print e) → Ready n (pc + 1) loops next →
      Ready (suc n) pc loops (actions (tree.Print e) next)
  prints e n pc loops next h ready locals l =
      begun (Print e) n (frame pc loops locals) _ _ refl refl h l
      (valued (D n) (Print e) (frame pc loops locals) (value e locals) _ _ (λ x. (next locals, refl, ready locals l)))

  passes : (o : Operation) (n pc to : ℕ) (loops : List ℕ) (next : Next) → begins o ≡ false →
      ((f : Frame) → f.pc ≡ pc → f.loops ≡ loops → (step o f).out ≡ out.Went) →
      ((locals : List ℤ) → (step o (frame pc loops locals)).at ≡ frame to loops locals) → fetched code pc ≡ Some o → Ready n to loops next →
      Ready (suc n) pc loops next
  passes o n pc to loops next b went goes h ready locals l =
      let f = frame pc loops locals in
      does_one o n f (next locals) h l
      (subst (λ x. Begun x (After (D n) o (step o f).out (step o f).at) (next locals)) (sym b)
      (subst (λ x. After (D n) o x (step o f).at (next locals)) (sym (went f refl refl))
      (subst (λ g. D n g (next locals)) (sym (goes locals)) (ready locals l))))

  branches : (n pc past : ℕ) (loops : List ℕ) (b : Bool) (p q : Next) → Ready n (pc + 1) loops p → Ready n (pc + 1 + past) loops q → (locals : List ℤ) →
      length locals ≡ code.locals → DoesFrom code n (frame (pc + 1 + branch b past) loops locals) (choice b p q locals)
  branches n pc past loops true p q hp hq locals l = let e : pc + 1 ≡ pc + 1 + 0 = omega arith in ready_at n (pc + 1) (pc + 1 + 0) loops p e hp locals l
  branches n pc past loops false p q hp hq locals l = hq locals l

  -- a loop's end: `body` is the operations back to the loop's start
  turns : (size : ℕ) (body : Next → Next) (start at back : ℕ) → start ≡ at - back → fetched code at ≡ Some (Again back) →
      ((n : ℕ) (loops : List ℕ) (next : Next) → Ready n at loops next → Ready (size + n) start loops (body next)) →
      (further n : ℕ) (outer : List ℕ) (next : Next) → Ready n (at + 1) outer next →
      Ready (1 + further * (1 + size) + n) at (outer ++ further ∷ []) (repeated further body next)
  turns size body start at back e h does zero n outer next ready =
      let le : suc n ≤ 1 + 0 * (1 + size) + n = omega arith in
      ready_more (suc n) (1 + 0 * (1 + size) + n) at (outer ++ zero ∷ []) next le
      (λ locals l. let f = frame at (outer ++ zero ∷ []) locals in
      does_one (Again back) n f (next locals) h l
      (subst (λ ls. D n (turn ls back f) (next locals)) (sym (reverse-append outer (zero ∷ [])))
      (subst (λ ls. D n (frame (at + 1) ls locals) (next locals)) (sym (reverse-reverse outer)) (ready locals l))))
  turns size body start at back e h does (suc further) n outer next ready =
      let k = 1 + further * (1 + size) + n in
      let le : suc (size + k) ≤ 1 + suc further * (1 + size) + n = omega arith in
      let again = does k (outer ++ further ∷ []) (repeated further body next) (turns size body start at back e h does further n outer next ready) in
      ready_more (suc (size + k)) (1 + suc further * (1 + size) + n) at (outer ++ suc further ∷ []) (body (repeated further body next)) le
      (λ locals l. let f = frame at (outer ++ suc further ∷ []) locals in
      let a = body (repeated further body next) locals in
      does_one (Again back) (size + k) f a h l
      (subst (λ ls. D (size + k) (turn ls back f) a) (sym (reverse-append outer (suc further ∷ [])))
      (subst (λ ls. D (size + k) (frame (at - back) (ls ++ further ∷ []) locals) a) (sym (reverse-reverse outer))
      (subst (λ p. D (size + k) (frame p (outer ++ further ∷ []) locals) a) e (again locals l)))))

  -- where a body has no operations, it does nothing however often
  nothing : (times : ℕ) (body : Next → Next) (n pc : ℕ) (loops : List ℕ) → ((next : Next) → Ready n pc loops next → Ready n pc loops (body next)) →
      (next : Next) → Ready n pc loops next → Ready n pc loops (repeated times body next)
  nothing zero body n pc loops does next ready = ready
  nothing (suc times) body n pc loops does next ready = does (repeated times body next) (nothing times body n pc loops does next ready)

  -- a tree is done by its operations
  abbrev IsDone : ℕ → List Operation → (Next → Next) → Type 0
  IsDone size os body = (n pc : ℕ) (loops : List ℕ) (next : Next) → Has pc os → Ready n (pc + length os) loops next → Ready (size + n) pc loops (body next)

  chooses : (e : Term) (a b : Commands) → IsDone (count a) (flat a) (all_actions a) → IsDone (count b) (flat b) (all_actions b) →
      IsDone (2 + (count a + count b)) (chosen e (flat a) (flat b)) (actions (tree.If e a b))
  chooses e a b does_a does_b n pc loops next has ready =
      let fa = flat a in
      let fb = flat b in
      let k = count a + (count b + suc n) in
      let rest = has_back _ (pc + 1) fa (Go (length fb) ∷ fb) has.1 in
      let to : pc + length (chosen e fa fb) ≡ pc + 1 + length fa + 1 + length fb = omega (arith, length-append fa (Go (length fb) ∷ fb)) in
      let to' : pc + length (chosen e fa fb) ≡ pc + 1 + (length fa + 1) + length fb = omega (arith, length-append fa (Go (length fb) ∷ fb)) in
      let go =
      passes (Go (length fb)) n (pc + 1 + length fa) (pc + 1 + length fa + 1 + length fb) loops next refl
      (λ f p q. refl) (λ locals. refl) rest.0 (ready_at n _ _ loops next to ready) in
      let first = does_a (suc n) (pc + 1) loops next (has_front _ (pc + 1) fa (Go (length fb) ∷ fb) has.1) go in
      let place : pc + 1 + length fa + 1 ≡ pc + 1 + (length fa + 1) = omega arith in
      let second = does_b n (pc + 1 + (length fa + 1)) loops next (subst (λ p. Has p fb) place rest.1) (ready_at n _ _ loops next to' ready) in
      let le_first : count a + suc n ≤ k = omega arith in
      let le_second : count b + n ≤ k = omega arith in
      let le : suc k ≤ 2 + (count a + count b) + n = omega arith in
      ready_more (suc k) (2 + (count a + count b) + n) pc loops (actions (tree.If e a b) next) le
      (λ locals l. begun (Test e (length fa + 1)) k (frame pc loops locals) _ _ refl refl has.0 l
      (valued (D k) (Test e (length fa + 1)) (frame pc loops locals) (value e locals) _ _
      (λ x. branches k pc (length fa + 1) loops (is_true x) (all_actions a next) (all_actions b next)
      (ready_more (count a + suc n) k (pc + 1) loops (all_actions a next) le_first first)
      (ready_more (count b + n) k (pc + 1 + (length fa + 1)) loops (all_actions b next) le_second second) locals l)))

  skips : (times : ℕ) (body : Next → Next) (n pc : ℕ) (loops : List ℕ) (next : Next) → fetched code pc ≡ Some Skip →
      Ready n (pc + 1) loops (repeated times body next) → Ready (1 + n) pc loops (λ locals. Begins (repeated times body next locals))
  skips times body n pc loops next h ready =
      let le : suc n ≤ 1 + n = omega arith in
      ready_more (suc n) (1 + n) pc loops (λ locals. Begins (repeated times body next locals)) le
      (λ locals l. begun Skip n (frame pc loops locals) _ _ refl refl h l (ready locals l))

  loops_done : (times size : ℕ) (os : List Operation) (body : Next → Next) → IsDone size os body → (os ≡ [] → size ≡ 0) →
      IsDone (loop_count times os size) (looped times os) (λ next locals. Begins (repeated times body next locals))
  loops_done zero size os body does empty n pc loops next has ready = skips zero body n pc loops next has.0 ready
  loops_done (suc further) size [] body does empty n pc loops next has ready =
      let none : size + n ≡ n = omega (arith, empty refl) in
      let at : pc + 1 ≡ pc + 1 + 0 = omega arith in
      skips (suc further) body n pc loops next has.0
      (nothing (suc further) body n (pc + 1) loops
      (λ next ready. subst (λ m. Ready m (pc + 1) loops (body next)) none (does n (pc + 1) loops next tt (ready_at n _ _ loops next at ready)))
      next ready)
  loops_done (suc further) size (o ∷ os) body does empty n pc loops next has ready =
      let b = o ∷ os in
      let again = has_back _ (pc + 1) b (Again (length b) ∷ []) has.1 in
      let front = has_front _ (pc + 1) b (Again (length b) ∷ []) has.1 in
      let at = pc + 1 + length b in
      let start : pc + 1 ≡ at - length b = omega arith in
      let to : pc + length (looped (suc further) b) ≡ at + 1 = omega (arith, length-append b (Again (length b) ∷ [])) in
      let k = 1 + further * (1 + size) + n in
      let turning =
      turns size body (pc + 1) at (length b) start again.0 (λ n loops next ready. does n (pc + 1) loops next front ready)
      further n loops next (ready_at n _ _ loops next to ready) in
      let once = does k (pc + 1) (loops ++ further ∷ []) (repeated further body next) front turning in
      let le : suc (size + k) ≤ 1 + (suc further) * (1 + size) + n = omega arith in
      ready_more (suc (size + k)) (1 + (suc further) * (1 + size) + n) pc loops (λ locals. Begins (repeated (suc further) body next locals)) le
      (λ locals l. begun (Enter further) (size + k) (frame pc loops locals) _ _ refl refl has.0 l (once locals l))

  simple : (o : Operation) (body : Next → Next) →
      ((n pc : ℕ) (loops : List ℕ) (next : Next) → fetched code pc ≡ Some o → Ready n (pc + 1) loops next → Ready (suc n) pc loops (body next)) →
      IsDone 1 (o ∷ []) body
  simple o body does n pc loops next has ready =
      let le : suc n ≤ 1 + n = omega arith in
      ready_more (suc n) (1 + n) pc loops (body next) le (does n pc loops next has.0 ready)

  mutual
    command_done : (c : Command) → IsDone (count_in c) (flat_in c) (actions c)
    command_done (tree.Let v e) = simple (Let v e) _ (lets v e)
    command_done (tree.Read v table i) = simple (Read v table i) _ (reads v table i)
    command_done (tree.Write table i e) = simple (Write table i e) _ (writes table i e)
    command_done (tree.Print e) = simple (Print e) _ (prints e)
    command_done (tree.If e a b) = chooses e a b (all_done a) (all_done b)
    command_done (tree.Repeat times body) = loops_done times (count body) (flat body) (all_actions body) (all_done body) (nothing_counted body)
    command_done tree.Abort = simple Abort _ (λ n pc loops next h ready locals l. begun Abort n (frame pc loops locals) _ _ refl refl h l refl)

    all_done : (cs : Commands) → IsDone (count cs) (flat cs) (all_actions cs)
    all_done tree.End n pc loops next has ready =
        let at : pc + 0 ≡ pc = omega arith in
        let le : n ≤ 0 + n = omega arith in
        ready_more n (0 + n) pc loops next le (ready_at n _ _ loops next at ready)
    all_done (tree.Then c rest) n pc loops next has ready =
        let to : pc + length (flat_in c ++ flat rest) ≡ pc + length (flat_in c) + length (flat rest) = omega (arith, length-append (flat_in c) (flat rest)) in
        let after = all_done rest n (pc + length (flat_in c)) loops next (has_back _ pc (flat_in c) (flat rest) has) (ready_at n _ _ loops next to ready) in
        let le : count_in c + (count rest + n) ≤ count_in c + count rest + n = omega arith in
        ready_more (count_in c + (count rest + n)) (count_in c + count rest + n) pc loops (actions c (all_actions rest next)) le
        (command_done c (count rest + n) pc loops (all_actions rest next) (has_front _ pc (flat_in c) (flat rest) has) after)

  program_ready : (n : ℕ) (pc : ℕ) → fetched code pc ≡ Some Finish → Ready (suc n) pc [] (λ locals. Ends ending.Done)
  program_ready n pc h locals l = does_one Finish n (frame pc [] locals) (Ends ending.Done) h l refl

  -- the operations of a program do what the program does
  pub program_done : (body : Commands) (n : ℕ) → map operation code.operations ≡ flat_program body → code.locals ≡ n →
      DoesFrom code (count body + 1) (first_frame code) (program_actions body n)
  program_done body n e same =
      let has : Has 0 (flat_program body) = subst (λ os. HasIn os 0 (flat_program body)) (sym e) (has_all (flat_program body) []) in
      let last = has_back _ 0 (flat body) (Finish ∷ []) has in
      let front = has_front _ 0 (flat body) (Finish ∷ []) has in
      let done = all_done body 1 0 [] (λ locals. Ends ending.Done) front (program_ready 0 (0 + length (flat body)) last.0) in
      subst (λ m. DoesFrom code (count body + 1) (first_frame code) (program_actions body m)) same
      (done (replicate code.locals (pos 0)) (length-replicate code.locals (pos 0)))
