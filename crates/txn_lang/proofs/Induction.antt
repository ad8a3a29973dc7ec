-- What holds of each replay, by induction over the actions: the replay is seen as a function of its answers.
use Rattle.std.proofs.Common.{◌≡◌, List, ◌∷◌, Option, Some, None, refl, ℤ}
use Rattle.morty_base.specs.declared.names.Key.{Key}
use Rattle.morty_base.specs.declared.names.Ending.{Ending}
use Rattle.txn_lang.specs.Keys.{Entry, entry, found}
use Rattle.txn_lang.specs.Actions.{Actions, Begins, Reads, Writes, Prints, Ends}
use Rattle.txn_lang.specs.Runs.{Run, ended, after_write, after_line, after_begin, read_by, run, next_answer}

-- the replay of actions, where these entries are known
abbrev pub replayed : Actions → List Entry → List ℤ → Run
replayed a known answers = run next_answer a known answers

-- an outside read, and then `next`
abbrev pub outside : Key → List Entry → (ℤ → List Entry → List ℤ → Run) → List ℤ → Run
outside k known next answers = read_by None (next_answer answers k) k known answers next

-- a property of replays at what is known, kept by each action
pub record IsKept (P : List Entry → (List ℤ → Run) → Type 0) : Type 0 where
  pub ends : (known : List Entry) (how : Ending) → P known (λ answers. ended how known)
  pub begins : (known : List Entry) (f : List ℤ → Run) → P known f → P known (λ answers. after_begin (f answers))
  pub prints : (known : List Entry) (x : ℤ) (f : List ℤ → Run) → P known f → P known (λ answers. after_line x (f answers))
  pub writes : (known : List Entry) (w : Entry) (f : List ℤ → Run) → P (w ∷ known) f → P known (λ answers. after_write w (f answers))
  pub reads : (known : List Entry) (k : Key) (next : ℤ → List Entry → List ℤ → Run) → found known k ≡ None → ((x : ℤ) → P (entry k x ∷ known) (next x (entry k x ∷ known))) → P known (outside k known next)

module _ (P : List Entry → (List ℤ → Run) → Type 0) (kept : IsKept P) where
  at_read : (known : List Entry) (k : Key) (next : ℤ → Actions) (shown : Option ℤ) → found known k ≡ shown → ((x : ℤ) (known : List Entry) → P known (replayed (next x) known)) → P known (λ answers. read_by shown (next_answer answers k) k known answers (λ x known s. replayed (next x) known s))
  at_read known k next (Some x) e ih = ih x known
  at_read known k next None e ih = kept.reads known k (λ x known s. replayed (next x) known s) e (λ x. ih x (entry k x ∷ known))

  pub holds : (a : Actions) (known : List Entry) → P known (replayed a known)
  holds (Begins next) known = kept.begins known (replayed next known) (holds next known)
  holds (Reads k next) known = at_read known k next (found known k) refl (λ x known. holds (next x) known)
  holds (Writes w next) known = kept.writes known w (replayed next (w ∷ known)) (holds next (w ∷ known))
  holds (Prints x next) known = kept.prints known x (replayed next known) (holds next known)
  holds (Ends how) known = kept.ends known how
