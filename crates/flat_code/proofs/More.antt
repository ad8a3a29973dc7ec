-- A place from which code does actions within some number of operations does them within more.
use Rattle.std.proofs.Common.{ℕ, zero, suc, ◌≤◌, Bool, true, false, Option, Some, None, arith}
use Rattle.txn_lang.specs.Actions.{Actions}
use Rattle.flat_code.specs.declared.frame.Frame.{Frame}
use Rattle.flat_code.specs.declared.frame.OpOut.{OpOut}
use Rattle.flat_code.specs.declared.frame.OpOut.TheVariants as out
use Rattle.flat_code.specs.Operation.{Operation, begins, Flat}
use Rattle.flat_code.specs.Step.{step, answered}
use Rattle.flat_code.specs.Does.{fetched, After, Begun, DoesAt, DoesFrom}

abbrev pub Doing : Type 1
Doing = Frame → Actions → Type 0

after_more : (D E : Doing) → ((f : Frame) (a : Actions) → D f a → E f a) → (o : Operation) (what : OpOut) (f : Frame) (a : Actions) → After D o what f a →
    After E o what f a
after_more D E h o out.Went f a d = h f a d
after_more D E h o (out.Asks k) f a d = (d.0, d.1, λ x. h (answered o f x) (d.0 x) (d.2 x))
after_more D E h o (out.Wrote w) f a d = (d.0, d.1, h f d.0 d.2)
after_more D E h o (out.Printed x) f a d = (d.0, d.1, h f d.0 d.2)
after_more D E h o (out.Ends how) f a d = d

begun_more : (b : Bool) (P Q : Actions → Type 0) → ((a : Actions) → P a → Q a) → (a : Actions) → Begun b P a → Begun b Q a
begun_more true P Q h a d = (d.0, d.1, h d.0 d.2)
begun_more false P Q h a d = h a d

at_more : (D E : Doing) → ((f : Frame) (a : Actions) → D f a → E f a) → (o : Option Operation) (f : Frame) (a : Actions) → DoesAt D o f a → DoesAt E o f a
at_more D E h None f a d = absurd d
at_more D E h (Some o) f a d =
    begun_more (begins o) (After D o (step o f).out (step o f).at) (After E o (step o f).out (step o f).at)
    (λ b. after_more D E h o (step o f).out (step o f).at b) a d

pub does_more : (code : Flat) (m n : ℕ) → m ≤ n → (f : Frame) (a : Actions) → DoesFrom code m f a → DoesFrom code n f a
does_more code zero n le f a d = absurd d
does_more code (suc m) zero le f a d = absurd (omega arith)
does_more code (suc m) (suc n) le f a d =
    let less : m ≤ n = omega arith in
    (d.0, at_more (DoesFrom code m) (DoesFrom code n) (does_more code m n less) (fetched code f.pc) f a d.1)
