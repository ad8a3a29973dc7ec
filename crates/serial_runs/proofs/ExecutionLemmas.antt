-- Steps of a program one after another.
use Rattle.std.proofs.Common.{◌≡◌, ◌+◌, Bool, true, false, Option, Some, None, Result, Ok, Err, IfOk, refl, ap, sym, subst, ◌∙◌, ℤ, add_assoc}
use Rattle.morty_base.specs.declared.names.Key.{Key}
use Rattle.morty_base.specs.declared.list.NoMemory.{NoMemory}
use Rattle.txn_lang.specs.declared.tree.Expr.{Expr}
use Rattle.txn_lang.specs.declared.tree.Stmt.{Stmt}
use Rattle.txn_lang.specs.declared.tree.Stmt.TheVariants as stmt
use Rattle.txn_lang.specs.declared.tree.Block.{Block}
use Rattle.txn_lang.specs.Tree.{command, commands}
use Rattle.txn_lang.specs.Value.{Value, value_of, is_true}
use Rattle.txn_lang.specs.Actions.{Actions, Begins, Next, with_value, choice, actions, all_actions}
use Rattle.txn_lang.specs.Runs.{run}
use Rattle.txn_lang.proofs.Trees.{command-If}
use Rattle.serial_runs.specs.declared.effects.Stop.{Stop}
use Rattle.serial_runs.specs.declared.execution.Execution.{Execution}
use Rattle.serial_runs.specs.Execution.{whole, IsStep, tested}

-- an execution that had all of this to do has the rest of it left
pub record IsLeft {S : Type 0} (ask : S → Key → Option (ℤ × S)) (old new : Execution S) (all rest : Next → Next) : Type 0 where
  pub same : (next : Next) → whole ask old (all next old.locals) ≡ whole ask new (rest next new.locals)

-- the state in which a statement was begun
abbrev pub begun_in : {S : Type 0} → Execution S → Execution S
begun_in at = record at { did = record at.did { begun = at.did.begun + 1 } }

abbrev pub picked : Bool → Block → Block → Block
picked true a b = a
picked false a b = b

module _ {S : Type 0} (ask : S → Key → Option (ℤ × S)) where
  pub begins : (old : Execution S) (a : Actions) → whole ask old (Begins a) ≡ whole ask (begun_in old) a
  begins old a =
      let r = run ask a old.did.known old.source in
      ap (λ n. record (whole ask (begun_in old) a) { begun = n }) (sym (add_assoc old.did.begun 1 r.begun))

  -- what is left is done
  steps_on : (old mid new : Execution S) (all rest : Next → Next) (r : Option Stop) → IsLeft ask old mid all rest → IsStep ask mid new rest r → IsStep ask old new all r
  steps_on old mid new all rest None left step = λ next. left.same next ∙ step next
  steps_on old mid new all rest (Some stop) left step = λ next. left.same next ∙ step next

  ok_on : (old mid new : Execution S) (all rest : Next → Next) (result : Result (Option Stop) NoMemory) → IsLeft ask old mid all rest → IfOk result (IsStep ask mid new rest) → IfOk result (IsStep ask old new all)
  ok_on old mid new all rest (Ok r) left step = steps_on old mid new all rest r left step
  ok_on old mid new all rest (Err e) left step = step

  chosen : (old : Execution S) (v : Value) (holds : Bool) (f g : Next) → tested v ≡ Ok holds → whole ask old (Begins (with_value v (λ x. choice (is_true x) f g old.locals))) ≡ whole ask (begun_in old) (choice holds f g old.locals)
  chosen old (Ok x) holds f g e =
      let same : is_true x ≡ holds = cc in
      ap (λ b. whole ask old (Begins (choice b f g old.locals))) same ∙ begins old (choice holds f g old.locals)
  chosen old (Err fault) holds f g e = cc

  choice_is : (holds : Bool) (a b : Block) (next : Next) (at : Execution S) → whole ask at (choice holds (all_actions (commands a) next) (all_actions (commands b) next) at.locals) ≡ whole ask at (all_actions (commands (picked holds a b)) next at.locals)
  choice_is true a b next at = refl
  choice_is false a b next at = refl

  picks : (old : Execution S) (e : Expr) (a b : Block) (holds : Bool) → tested (value_of e old.locals) ≡ Ok holds → IsLeft ask old (begun_in old) (actions (command (stmt.If e a b))) (all_actions (commands (picked holds a b)))
  picks old e a b holds is = record {
    same = λ next.
        ap (λ k. whole ask old (actions k next old.locals)) (command-If e a b)
        ∙ chosen old (value_of e old.locals) holds (all_actions (commands a) next) (all_actions (commands b) next) is
        ∙ choice_is holds a b next (begun_in old);
  }

  -- an `if` goes on with the block that its test picks
  pub goes_on_picked : (old mid new : Execution S) (s : Stmt) (e : Expr) (a b : Block) (holds : Bool) (test : Result Bool Stop) (result : Result (Option Stop) NoMemory) →
      s ≡ stmt.If e a b → test ≡ tested (value_of e old.locals) → test ≡ Ok holds → mid ≡ begun_in old →
      IfOk result (IsStep ask mid new (all_actions (commands (picked holds a b)))) → IfOk result (IsStep ask old new (actions (command s)))
  goes_on_picked old mid new s e a b holds test result is tests holding begun step =
      let left = picks old e a b holds (sym tests ∙ holding) in
      let at_mid = subst (λ at. IsLeft ask old at (actions (command (stmt.If e a b))) (all_actions (commands (picked holds a b)))) (sym begun) left in
      subst (λ s. IfOk result (IsStep ask old new (actions (command s)))) (sym is)
      (ok_on old mid new (actions (command (stmt.If e a b))) (all_actions (commands (picked holds a b))) result at_mid step)
