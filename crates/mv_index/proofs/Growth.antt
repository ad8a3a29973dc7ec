-- How the definitions over a list grow by one element at its end, and what they are where nothing is found.
use Rattle.std.proofs.Common.{◌≡◌, ℕ, suc, ◌+◌, ◌<◌, Bool, false, cond, List, [], ◌∷◌, ◌++◌, length, length-take, get_or, take, refl, ap, sym, ◌∙◌, Option, Some, None, arith}
use Rattle.std.specs.Option.{option_or}
use Rattle.std.proofs.lemmas.List.{take_more}
use Rattle.std.proofs.lemmas.Bool.Decides.{nat_tests}
use Rattle.protocol.specs.Words.{Version, Exec, Key, Write, before, no_version}
use Rattle.protocol.specs.Replica.Taken.{later}
use Rattle.protocol.specs.Replica.Held.{last_write}
use Rattle.mv_index.specs.WriteIndex.{write_at}

pub option_or_assoc : {X : Type 0} (a b c : Option X) → option_or (option_or a b) c ≡ option_or a (option_or b c)
option_or_assoc None b c = refl
option_or_assoc (Some x) b c = refl

pub option_or_none : {X : Type 0} (a : Option X) → option_or a None ≡ a
option_or_none None = refl
option_or_none (Some x) = refl

pub last_write_push : (x : Exec) (sure : Bool) (i : ℕ) (k : Key) (ws : List Write) (w : Write) →
    last_write x sure i k (ws ++ w ∷ []) ≡ option_or (write_at x sure (length ws + i) k w) (last_write x sure i k ws)
last_write_push x sure i k [] w =
    let e : 0 + i ≡ i = omega arith in
    rw e (sym (option_or_none (write_at x sure i k w)))
last_write_push x sure i k (y ∷ ys) w =
    let e : length ys + suc i ≡ suc (length ys) + i = omega arith in
    ap (λ o. option_or o (write_at x sure i k y)) (last_write_push x sure (suc i) k ys w)
    ∙ (ap (λ n. option_or (option_or (write_at x sure n k w) (last_write x sure (suc i) k ys)) (write_at x sure i k y)) e
    ∙ option_or_assoc (write_at x sure (suc (length ys) + i) k w) (last_write x sure (suc i) k ys) (write_at x sure i k y))

pub last_write_more : (x : Exec) (sure : Bool) (k : Key) (ws : List Write) (i : ℕ) (d : Write) → i < length ws →
    last_write x sure 1 k (take (i + 1) ws) ≡ option_or (write_at x sure (i + 1) k (get_or ws i d)) (last_write x sure 1 k (take i ws))
last_write_more x sure k ws i d h =
    let n : length (take i ws) + 1 ≡ i + 1 = omega (arith, length-take i ws) in
    ap (last_write x sure 1 k) (take_more ws i d h)
    ∙ (last_write_push x sure 1 k (take i ws) (get_or ws i d)
    ∙ ap (λ j. option_or (write_at x sure j k (get_or ws i d)) (last_write x sure 1 k (take i ws))) n)

before_none : (v : Version) → before v no_version ≡ false
unfolding before
before_none v = grind (arith, nat_tests)

-- no version is below the first one
pub later_none : (v : Version) → later v no_version ≡ v
later_none v = ap (λ b. cond b no_version v) (before_none v)
