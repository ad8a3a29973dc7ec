-- What a content is that was prepared, beside the run of its program.
use Rattle.protocol.specs.Words.{Key, Ending}
use Rattle.std.proofs.lemmas.List.Elements.{All-nil, All-cons}
use Rattle.std.specs.Prelude.{MatchOption, map, option_map, IsSome, IsNone}
use Rattle.std.proofs.Common.{◌≡◌, ℕ, ℤ, ◌-◌, inl, inr, refl, ap, sym, ◌∙◌, subst, cond, List, [], ◌∷◌, take, length, Option, Some, None}
use Rattle.std.specs.List.{slice_get, All}
use Rattle.std.proofs.lemmas.Option.{slice_get-map}
use Rattle.morty_base.specs.declared.names.Ending.TheVariants as ending
use Rattle.txn_lang.specs.Keys.{Entry, entry}
use Rattle.txn_lang.specs.Runs.{kept_at}
use Rattle.txn_lang.specs.Program.{Program, replay_of}
use Rattle.txn_lang.specs.Laws.{values_of}
use Rattle.txn_lang.proofs.Taking.{takes_answers}
use Rattle.protocol.specs.Lists.{IsIn}
use Rattle.protocol.specs.Client.State.{Txn, Walk, Answer, values, walk_at, no_walk, reads_of, is_done}
use Rattle.protocol.specs.World.State.{rules, txns_of}
use Rattle.protocol_plans.specs.Scripted.{Start, Scripted, txn_of, plan_of, program_walk, write_of}
use Rattle.protocol_plans.specs.SerialOutcome.{nth_start, start_at, entry_read, entry_written}

-- what a transaction of a script does on answers
abbrev pub start_walk : Option Start → List ℤ → Walk
start_walk None vs = no_walk
start_walk (Some t) vs = program_walk t.program vs

pub walk_is : (s : Scripted) (c n : ℕ) (vs : List ℤ) → walk_at (slice_get (rules (plan_of s) c).txns (n - 1)) vs ≡ start_walk (start_at s c n) vs
walk_is s c n vs = ap (λ (o : Option (List Txn)). walk_at (slice_get (txns_of o) (n - 1)) vs) (slice_get-map (map txn_of) s.clients (c - 1))
    ∙ outer (slice_get s.clients (c - 1))
  where
    inner : (o : Option Start) → walk_at (option_map txn_of o) vs ≡ start_walk o vs
    inner None = refl
    inner (Some t) = refl

    outer : (o : Option (List Start)) → walk_at (slice_get (txns_of (option_map (map txn_of) o)) (n - 1)) vs ≡ start_walk (nth_start n o) vs
    outer None = refl
    outer (Some ts) = ap (λ (o : Option Txn). walk_at o vs) (slice_get-map txn_of ts (n - 1)) ∙ inner (slice_get ts (n - 1))

pub no_ending : (e : Ending) → no_walk.ending ≡ Some e → ⊥
no_ending e q = cc

-- the reads of a content, as the run made them
pub reads_are : (es : List Entry) (answers : List Answer) → values_of es ≡ take (length es) (values answers) →
    map entry_read (reads_of (map (λ (e : Entry). e.key) es) answers) ≡ es
reads_are [] answers q = refl
reads_are (e ∷ es) [] q = absurd (cc)
reads_are (e ∷ es) (a ∷ answers) q =
    let v : e.value ≡ a.label.value = cc in
    let t : values_of es ≡ take (length es) (values answers) = cc in
    ap (λ (x : ℤ). entry e.key x ∷ map entry_read (reads_of (map (λ (e : Entry). e.key) es) answers)) (sym v)
    ∙ ap (λ (l : List Entry). e ∷ l) (reads_are es answers t)

back_and_forth : (es : List Entry) → map entry_written (map write_of es) ≡ es
back_and_forth [] = refl
back_and_forth (e ∷ es) = ap (λ (l : List Entry). e ∷ l) (back_and_forth es)

-- what a program keeps, by its ending
pub kept_writes : (e : Ending) (es : List Entry) → map entry_written (cond (is_done e) (map write_of es) []) ≡ kept_at (Some e) es
kept_writes ending.Done es = back_and_forth es
kept_writes ending.Abort es = refl
kept_writes ending.Overflow es = refl
kept_writes ending.ZeroDivisor es = refl

pub all_of : {A : Type 0} (P : A → Type 0) (xs : List A) → ((a : A) → IsIn a xs → P a) → All P xs
all_of P [] f = All-nil P
all_of P (x ∷ xs) f = All-cons P x xs (f x (inl refl)) (all_of P xs (λ a i. f a (inr i)))

-- a program that ended asks nothing
pub ended_asks : (p : Program) (vs : List ℤ) (e : Ending) → (replay_of p vs).ending ≡ Some e → (replay_of p vs).asks ≡ None
ended_asks p vs e q = go (replay_of p vs).asks refl ((takes_answers p.body (length p.names)).asks_or_ends vs)
  where
    no : IsNone (Some e) → ⊥
    no h = cc

    go : (o : Option Key) → (replay_of p vs).asks ≡ o →
        MatchOption (replay_of p vs).asks (IsSome (replay_of p vs).ending) (λ k. IsNone (replay_of p vs).ending) → (replay_of p vs).asks ≡ None
    go None f h = f
    go (Some k) f h = absurd (no (subst (λ (o : Option Ending). IsNone o) q (subst (λ (o : Option Key). MatchOption o (IsSome (replay_of p vs).ending) (λ k. IsNone (replay_of p vs).ending)) f h)))
