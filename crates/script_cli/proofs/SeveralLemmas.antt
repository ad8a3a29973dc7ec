-- Which command words that ask for several workers are, and that no others ask for them.
use Rattle.std.proofs.Common.{◌≡◌, ℕ, Bool, true, false, List, [], ◌∷◌, refl, sym, ap, ◌∙◌, subst, Option, None, Some, is_some}
use Rattle.std.specs.Prelude.{nat_lt, cond, codes}
use Rattle.std.specs.Option.{option_map}
use Rattle.std.specs.Str.{bytes_eq}
use Rattle.serial_ref.specs.declared.item.SerialItem.{SerialItem}
use Rattle.script_cli.specs.declared.words.Command.{Command}
use Rattle.script_cli.specs.declared.words.Command.TheVariants.{Run, Serial, Check, Trace, Gen, Big}
use Rattle.script_cli.specs.declared.words.Seeded.{Seeded}
use Rattle.script_cli.specs.Words.{workers_of, run_of, serial_if, serial_of, seeded_of, differ, alone, generating, summing, command_but_run, command_of, is_shared, if_several, several_of, wants_workers}

-- the command, if there is one, asks for one worker at most
abbrev IsAlone : Option Command → Type 0
IsAlone None = Unit {0}
IsAlone (Some c) = is_shared c ≡ false

alone_if : (b : Bool) (x y : Option Command) → IsAlone x → IsAlone y → IsAlone (cond b x y)
alone_if true x y first second = first
alone_if false x y first second = second

alone_serial : (said : Option (List SerialItem)) → IsAlone (serial_if said)
alone_serial None = tt
alone_serial (Some items) = alone_if (differ items) (Some (Serial items)) None refl tt

alone_word : (c : Command) → is_shared c ≡ false → (rest : List (List ℕ)) → IsAlone (alone c rest)
alone_word c still [] = still
alone_word c still (word ∷ rest) = tt

alone_generating : (s : Option Seeded) → IsAlone (generating s)
alone_generating None = tt
alone_generating (Some s) = refl

alone_summing : (s : Option Seeded) → IsAlone (summing s)
alone_summing None = tt
alone_summing (Some s) = refl

alone_but_run : (word : List ℕ) (rest : List (List ℕ)) → IsAlone (command_but_run word rest)
alone_but_run word rest =
    let big = alone_if (bytes_eq word (codes "big")) (summing (seeded_of rest)) None (alone_summing (seeded_of rest)) tt in
    let gen = alone_if (bytes_eq word (codes "gen")) (generating (seeded_of rest)) _ (alone_generating (seeded_of rest)) big in
    let trace = alone_if (bytes_eq word (codes "trace")) (alone Trace rest) _ (alone_word Trace refl rest) gen in
    let check = alone_if (bytes_eq word (codes "check")) (alone Check rest) _ (alone_word Check refl rest) trace in
    alone_if (bytes_eq word (codes "serial")) (serial_of rest) _ (alone_serial _) check

alone_run : (said : Option ℕ) → is_some (if_several said) ≡ false → IsAlone (option_map Run said)
alone_run None few = tt
alone_run (Some n) few = go (nat_lt 1 n) refl few
  where
    go : (b : Bool) → nat_lt 1 n ≡ b → is_some (cond b (Some n) None) ≡ false → nat_lt 1 n ≡ false
    go true more is = absurd (let e : true ≡ false = is in cc)
    go false more is = more

alone_words : (words : List (List ℕ)) → wants_workers words ≡ false → IsAlone (command_of words)
alone_words [] few = tt
alone_words (word ∷ rest) few = go (bytes_eq word (codes "run")) few
  where
    go : (b : Bool) → is_some (cond b (if_several (workers_of rest)) None) ≡ false → IsAlone (cond b (run_of rest) (command_but_run word rest))
    go true is = alone_run (workers_of rest) is
    go false is = alone_but_run word rest

pub not_shared : (words : List (List ℕ)) (c : Command) → wants_workers words ≡ false → command_of words ≡ Some c → is_shared c ≡ false
not_shared words c few asked = subst IsAlone asked (alone_words words few)

run_shared : (said : Option ℕ) (n : ℕ) → if_several said ≡ Some n → option_map Run said ≡ Some (Run n)
run_shared None n is = absurd (let e : ◌≡◌ {A = Option ℕ} None (Some n) = is in cc)
run_shared (Some m) n is = go (nat_lt 1 m) is
  where
    go : (b : Bool) → cond b (Some m) None ≡ Some n → ◌≡◌ {A = Option Command} (Some (Run m)) (Some (Run n))
    go true e = let same : m ≡ n = cc in ap (λ k. Some (Run k)) same
    go false e = absurd (let f : ◌≡◌ {A = Option ℕ} None (Some n) = e in cc)

-- they are those that run a script by so many
pub run_by : (words : List (List ℕ)) (n : ℕ) → several_of words ≡ Some n → command_of words ≡ Some (Run n)
run_by [] n is = absurd (let e : ◌≡◌ {A = Option ℕ} None (Some n) = is in cc)
run_by (word ∷ rest) n is = go (bytes_eq word (codes "run")) is
  where
    go : (b : Bool) → cond b (if_several (workers_of rest)) None ≡ Some n → cond b (run_of rest) (command_but_run word rest) ≡ Some (Run n)
    go true e = run_shared (workers_of rest) n e
    go false e = absurd (let f : ◌≡◌ {A = Option ℕ} None (Some n) = e in cc)
