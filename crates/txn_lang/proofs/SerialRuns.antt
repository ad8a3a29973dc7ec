-- A serial run is the replay on the values that it read, and the other way round.
use Rattle.std.proofs.Common.{◌≡◌, ℕ, List, [], ◌∷◌, Option, Some, None, refl, ap, ◌∙◌, ℤ, rules}
use Rattle.std.specs.Prelude.{IsSome}
use Rattle.std.specs.List.{All, AllByRecursion}
use Rattle.std.proofs.lemmas.List.Elements.{All-nil, All-cons, All-head, All-tail}
use Rattle.morty_base.specs.declared.names.Key.{Key}
use Rattle.txn_lang.specs.Tree.{commands}
use Rattle.txn_lang.specs.Keys.{Entry, entry, found, held}
use Rattle.txn_lang.specs.Actions.{Actions, Begins, Reads, Writes, Prints, Ends, program_actions}
use Rattle.txn_lang.specs.Runs.{Run, after_read, after_write, after_line, after_begin, read_by, run, next_answer, map_answer}
use Rattle.txn_lang.specs.declared.tree.Block.{Block}
use Rattle.txn_lang.specs.Laws.{values_of, ReplaysSerial}
use Rattle.txn_lang.proofs.Induction.{replayed}

abbrev on_map : Actions → List Entry → List Entry → Run
on_map a known m = run map_answer a known m

abbrev read_on_map : Option ℤ → Key → List Entry → List Entry → (ℤ → Actions) → Run
read_on_map shown k known m next = read_by shown (map_answer m k) k known m (λ x known m. on_map (next x) known m)

abbrev read_on_list : Option ℤ → Key → List Entry → List ℤ → (ℤ → Actions) → Run
read_on_list shown k known answers next = read_by shown (next_answer answers k) k known answers (λ x known s. replayed (next x) known s)

abbrev Ended : Run → Type 0
Ended r = IsSome r.ending

ends_read : (shown : Option ℤ) (k : Key) (known m : List Entry) (next : ℤ → Actions) → ((x : ℤ) (known m : List Entry) → Ended (on_map (next x) known m)) → Ended (read_on_map shown k known m next)
ends_read (Some x) k known m next ih = ih x known m
ends_read None k known m next ih = ih (held m k) (entry k (held m k) ∷ known) m

ends : (a : Actions) (known m : List Entry) → Ended (on_map a known m)
ends (Begins next) known m = ends next known m
ends (Reads k next) known m = ends_read (found known k) k known m next (λ x known m. ends (next x) known m)
ends (Writes w next) known m = ends next (w ∷ known) m
ends (Prints x next) known m = ends next known m
ends (Ends how) known m = search rules

abbrev FromMap : List Entry → List Entry → Type 0
FromMap m reads = AllByRecursion (λ e. held m e.key ≡ e.value) reads

from_map_read : (shown : Option ℤ) (k : Key) (known m : List Entry) (next : ℤ → Actions) → ((x : ℤ) (known m : List Entry) → FromMap m (on_map (next x) known m).reads) → FromMap m (read_on_map shown k known m next).reads
from_map_read (Some x) k known m next ih = ih x known m
from_map_read None k known m next ih = (refl, ih (held m k) (entry k (held m k) ∷ known) m)

from_map : (a : Actions) (known m : List Entry) → FromMap m (on_map a known m).reads
from_map (Begins next) known m = from_map next known m
from_map (Reads k next) known m = from_map_read (found known k) k known m next (λ x known m. from_map (next x) known m)
from_map (Writes w next) known m = from_map next (w ∷ known) m
from_map (Prints x next) known m = from_map next known m
from_map (Ends how) known m = tt

abbrev IsReplayed : Actions → List Entry → List Entry → Type 0
IsReplayed a known m = replayed a known (values_of (on_map a known m).reads) ≡ on_map a known m

replayed_read : (shown : Option ℤ) (k : Key) (known m : List Entry) (next : ℤ → Actions) → ((x : ℤ) (known m : List Entry) → IsReplayed (next x) known m) → read_on_list shown k known (values_of (read_on_map shown k known m next).reads) next ≡ read_on_map shown k known m next
replayed_read (Some x) k known m next ih = ih x known m
replayed_read None k known m next ih =
    ap (after_read (entry k (held m k))) (ih (held m k) (entry k (held m k) ∷ known) m)

is_replayed : (a : Actions) (known m : List Entry) → IsReplayed a known m
is_replayed (Begins next) known m = ap after_begin (is_replayed next known m)
is_replayed (Reads k next) known m = replayed_read (found known k) k known m next (λ x known m. is_replayed (next x) known m)
is_replayed (Writes w next) known m = ap (after_write w) (is_replayed next (w ∷ known) m)
is_replayed (Prints x next) known m = ap (after_line x) (is_replayed next known m)
is_replayed (Ends how) known m = refl

abbrev IsSerial : Actions → List Entry → List Entry → List ℤ → Type 0
IsSerial a known m answers = (replayed a known answers).asks ≡ None → FromMap m (replayed a known answers).reads → on_map a known m ≡ replayed a known answers

serial_read : (shown : Option ℤ) (k : Key) (known m : List Entry) (answers : List ℤ) (next : ℤ → Actions) → ((x : ℤ) (known m : List Entry) (answers : List ℤ) → IsSerial (next x) known m answers) → (read_on_list shown k known answers next).asks ≡ None → FromMap m (read_on_list shown k known answers next).reads → read_on_map shown k known m next ≡ read_on_list shown k known answers next
serial_read (Some x) k known m answers next ih e h = ih x known m answers e h
serial_read None k known m [] next ih e h = cc
serial_read None k known m (x ∷ xs) next ih e h =
    ap (λ y. after_read (entry k y) (on_map (next y) (entry k y ∷ known) m)) h.0
    ∙ ap (after_read (entry k x)) (ih x (entry k x ∷ known) m xs e h.1)

is_serial : (a : Actions) (known m : List Entry) (answers : List ℤ) → IsSerial a known m answers
is_serial (Begins next) known m answers e h = ap after_begin (is_serial next known m answers e h)
is_serial (Reads k next) known m answers e h =
    serial_read (found known k) k known m answers next (λ x known m answers. is_serial (next x) known m answers) e h
is_serial (Writes w next) known m answers e h = ap (after_write w) (is_serial next (w ∷ known) m answers e h)
is_serial (Prints x next) known m answers e h = ap (after_line x) (is_serial next known m answers e h)
is_serial (Ends how) known m answers e h = refl

all_from : {A : Type 0} (P : A → Type 0) (xs : List A) → AllByRecursion P xs → All P xs
all_from P [] h = All-nil P
all_from P (x ∷ xs) h = All-cons P x xs h.0 (all_from P xs h.1)

all_to : {A : Type 0} (P : A → Type 0) (xs : List A) → All P xs → AllByRecursion P xs
all_to P [] h = tt
all_to P (x ∷ xs) h = (All-head P x xs h, all_to P xs (All-tail P x xs h))

pub replays_serial : (body : Block) (n : ℕ) → ReplaysSerial body n
replays_serial body n =
    let a = program_actions (commands body) n in
    record {
      ends = λ m. ends a [] m;
      reads_map = λ m. all_from _ _ (from_map a [] m);
      replayed = λ m. is_replayed a [] m;
      serialised = λ m answers e h. is_serial a [] m answers e (all_to _ _ h);
    }
