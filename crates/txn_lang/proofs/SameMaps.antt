-- Maps that hold the same at each key: serial runs on them are the same, and leave maps that hold the same.
use Rattle.std.proofs.Common.{◌≡◌, Bool, true, false, List, [], ◌∷◌, length, Option, Some, None, unwrap_or, refl, ap, ◌∙◌, ℤ, pos}
use Rattle.morty_base.specs.declared.names.Key.{Key}
use Rattle.morty_base.specs.Names.{same_key}
use Rattle.txn_lang.specs.Tree.{commands}
use Rattle.txn_lang.specs.Keys.{Entry, entry, first_of, found, held, after_writes, HoldTheSame}
use Rattle.txn_lang.specs.Actions.{Actions, Begins, Reads, Writes, Prints, Ends, program_actions}
use Rattle.txn_lang.specs.Runs.{Run, after_read, after_write, after_line, after_begin, read_by, run, map_answer, kept}
use Rattle.txn_lang.specs.Program.{Program, serial_of, map_after, serial, last_map}

abbrev on_map : Actions → List Entry → List Entry → Run
on_map a known m = run map_answer a known m

pub same_map : (m : List Entry) → HoldTheSame m m
same_map m = record { each = λ k. refl }

module _ (m n : List Entry) (same : HoldTheSame m n) where
  read_same : (shown : Option ℤ) (k : Key) (known : List Entry) (next : ℤ → Actions) → ((x : ℤ) (known : List Entry) → on_map (next x) known m ≡ on_map (next x) known n) →
      read_by shown (map_answer m k) k known m (λ x known m. on_map (next x) known m) ≡ read_by shown (map_answer n k) k known n (λ x known m. on_map (next x) known m)
  read_same (Some x) k known next ih = ih x known
  read_same None k known next ih =
      ap (λ x. after_read (entry k x) (on_map (next x) (entry k x ∷ known) m)) (same.each k)
      ∙ ap (after_read (entry k (held n k))) (ih (held n k) (entry k (held n k) ∷ known))

  run_same : (a : Actions) (known : List Entry) → on_map a known m ≡ on_map a known n
  run_same (Begins next) known = ap after_begin (run_same next known)
  run_same (Reads k next) known = read_same (found known k) k known next (λ x known. run_same (next x) known)
  run_same (Writes w next) known = ap (after_write w) (run_same next (w ∷ known))
  run_same (Prints x next) known = ap (after_line x) (run_same next known)
  run_same (Ends how) known = refl

  pub serial_of_same : (p : Program) → serial_of p m ≡ serial_of p n
  serial_of_same p = run_same (program_actions (commands p.body) (length p.names)) []

  written : (b : Bool) (x : ℤ) (k : Key) → unwrap_or (first_of b x (found m k)) (pos 0) ≡ unwrap_or (first_of b x (found n k)) (pos 0)
  written true x k = refl
  written false x k = same.each k

  -- one entry more in front of both
  pub same_with : (e : Entry) → HoldTheSame (e ∷ m) (e ∷ n)
  same_with e = record { each = λ k. written (same_key e.key k) e.value k }

pub after_writes_same : (writes m n : List Entry) → HoldTheSame m n → HoldTheSame (after_writes writes m) (after_writes writes n)
after_writes_same [] m n same = same
after_writes_same (w ∷ ws) m n same = after_writes_same ws (w ∷ m) (w ∷ n) (same_with m n same w)

pub map_after_same : (p : Program) (m n : List Entry) → HoldTheSame m n → HoldTheSame (map_after m p) (map_after n p)
map_after_same p m n same =
    let next = after_writes_same (kept (serial_of p m)) m n same in
    record { each = λ k. next.each k ∙ ap (λ r. held (after_writes (kept r) n) k) (serial_of_same m n same p) }

pub serial_same : (ps : List Program) (m n : List Entry) → HoldTheSame m n → serial m ps ≡ serial n ps
serial_same [] m n same = refl
serial_same (p ∷ ps) m n same =
    ap (λ r. r ∷ serial (map_after m p) ps) (serial_of_same m n same p)
    ∙ ap (λ rs. serial_of p n ∷ rs) (serial_same ps (map_after m p) (map_after n p) (map_after_same p m n same))

pub last_map_same : (ps : List Program) (m n : List Entry) → HoldTheSame m n → HoldTheSame (last_map m ps) (last_map n ps)
last_map_same [] m n same = same
last_map_same (p ∷ ps) m n same = last_map_same ps (map_after m p) (map_after n p) (map_after_same p m n same)
