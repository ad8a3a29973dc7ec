-- A generated script is one that some text says.
use Rattle.std.proofs.Common.{◌≡◌, ℕ, zero, suc, ◌+◌, ◌-◌, ◌/◌, ◌%◌, ◌^◌, ◌<◌, ◌≤◌, ◌==◌, ◌&&◌, ◌||◌, nat_le, Bool, true, false, not, cond, List, [], ◌∷◌, ◌++◌, map, length, drop, refl, sym, ap, ◌∙◌, subst, arith, pos, ⊎_elim}
use Rattle.std.specs.Prelude.{codes, decimal, slice_index}
use Rattle.std.specs.List.{list_all, filter, range_with_len, AllByRecursion, IsDistinct}
use Rattle.std.specs.Ordering.{int_eq}
use Rattle.std.specs.Str.{bytes_eq}
use Rattle.std.proofs.lemmas.Bool.{cases_Bool, cond_both, and_from, and_parts}
use Rattle.std.proofs.lemmas.Bool.Decides.{nat_tests, Decides-int_eq}
use Rattle.std.proofs.lemmas.Slice.Eq.{bytes_eq-Decides}
use Rattle.std.proofs.lemmas.Fmt.{decimal_injective, decimal_nonempty, length-decimal-le}
use Rattle.std.proofs.lemmas.List.FromFn.{length-map-range_with_len}
use Rattle.rand_pcg.specs.Lcg.{Lcg}
use Rattle.morty_base.specs.Names.{same_key}
use Rattle.morty_base.specs.ScriptNames.{is_letter, is_digit, is_name_byte, is_name, is_reserved, is_one_of, is_setting_word, is_item_word, is_net_word, is_plan_word, is_statement_word}
use Rattle.txn_text.proofs.LayoutLemmas.{one_passes}
use Rattle.txn_print.proofs.LaidLemmas.{decimal_is}
use Rattle.txn_print.specs.Written.{AreWritten}
use Rattle.script.specs.declared.setup.First.{First}
use Rattle.script.specs.declared.setup.Txn.{Txn}
use Rattle.script.specs.Meaning.{Named}
use Rattle.script.specs.Sayable.{IsFirst, IsProg, IsTxn, IsClient, IsSayable}
use Rattle.lab.specs.declared.draws.TheConstants.{ACCOUNTS, GREATEST_AMOUNT}
use Rattle.lab.specs.declared.generated.TheConstants.{GREATEST_SEED, MOST_GENERATED, CLIENTS}
use Rattle.lab.specs.declared.draws.Transfer.{Transfer}
use Rattle.lab.specs.Draws.{generator, draw, transfer_by, next_transfer, transfers}
use Rattle.lab.specs.Generated.{transfer_body, transfer_progs, transfer_txn, txns_of, account, generated}
use Rattle.lab.proofs.TransferLemmas.{transfer_formed, transfer_within}

-- the first values: one an account
keys_apart : (a b : ℕ) → a < b → same_key (account a).key (account b).key ≡ false
unfolding same_key
keys_apart a b less =
    ⊎_elim (λ yes. let same = (Decides-int_eq (pos a) (pos b)).0 yes in let n : a ≡ b = cc in absurd (let e : ⊥ = omega (arith, n, less) in e)) (λ no. no) (cases_Bool (int_eq (pos a) (pos b)))

accounts_apart : (a b n : ℕ) → a < b → AllByRecursion (λ k. same_key (account a).key k ≡ false) (map (λ (f : First). f.key) (map account (range_with_len b n)))
accounts_apart a b zero less = tt
accounts_apart a b (suc n) less = (keys_apart a b less, accounts_apart a (b + 1) n (omega (arith, less)))

accounts_distinct : (a n : ℕ) → IsDistinct same_key (map (λ (f : First). f.key) (map account (range_with_len a n)))
unfolding IsDistinct
accounts_distinct a zero = tt
accounts_distinct a (suc n) = (accounts_apart a (a + 1) n (omega arith), accounts_distinct (a + 1) n)

accounts_are : (a n : ℕ) → a + n ≤ ACCOUNTS + 1 → AllByRecursion (IsFirst 1) (map account (range_with_len a n))
accounts_are a zero few = tt
accounts_are a (suc n) few = (record { known = omega arith; index = omega (arith, few); value = omega arith }, accounts_are (a + 1) n (omega (arith, few)))

-- a draw is below its number
draw_below : (below : ℕ) (g : Lcg) → 0 < below → (draw below g).0 < below
unfolding draw
draw_below below g some = omega (arith, some)

-- what a transfer keeps
record IsSmall (t : Transfer) : Type 0 where
  from : t.from ≤ ACCOUNTS
  to : t.to ≤ ACCOUNTS
  amount : t.amount ≤ GREATEST_AMOUNT

small_by : (f o a : ℕ) → f < ACCOUNTS → o < ACCOUNTS - 1 → a < GREATEST_AMOUNT → IsSmall (transfer_by f o a)
small_by f o a less less' less'' = record {
  from = omega (arith, less);
  to = cond_both (nat_le (1 + f) (1 + o)) (1 + o + 1) (1 + o) (λ n. n ≤ ACCOUNTS) (λ _. omega (arith, less')) (λ _. omega (arith, less'));
  amount = omega (arith, less'');
}

next_small : (g : Lcg) → IsSmall (next_transfer g).0
unfolding next_transfer
next_small g =
    let first = draw ACCOUNTS g in
    let second = draw (ACCOUNTS - 1) first.1 in
    small_by first.0 second.0 (draw GREATEST_AMOUNT second.1).0 (draw_below ACCOUNTS g (omega arith)) (draw_below (ACCOUNTS - 1) first.1 (omega arith)) (draw_below GREATEST_AMOUNT second.1 (omega arith))

-- the programs
written : (t : Transfer) → IsSmall t → AreWritten 1 (transfer_body t)
written t s =
    let f = s.from in
    let o = s.to in
    let a = s.amount in
    ((omega arith, omega (arith, f)), (((tt, omega (arith, a)), (tt, tt), tt), ((omega arith, omega (arith, o)), ((omega arith, omega (arith, f), (tt, omega (arith, a))), ((omega arith, omega (arith, o), (tt, omega (arith, a))), ((tt, omega (arith, a)), tt))))))

progs_are : (i n : ℕ) (g : Lcg) → AllByRecursion (IsProg 1) (transfer_progs i (transfers n g))
progs_are i zero g = tt
progs_are i (suc n) g =
    let t = (next_transfer g).0 in
    (record { within = transfer_within t; formed = transfer_formed t; written = written t (next_small g) }, progs_are (i + 1) n (next_transfer g).1)

many_progs : (i n : ℕ) (g : Lcg) → length (transfer_progs i (transfers n g)) ≡ n
many_progs i zero g = refl
many_progs i (suc n) g = let rest = many_progs (i + 1) n (next_transfer g).1 in omega (arith, rest)

many_names : (i n : ℕ) (g : Lcg) → length (map (λ (p : Named). p.name) (transfer_progs i (transfers n g))) ≡ n
many_names i zero g = refl
many_names i (suc n) g = let rest = many_names (i + 1) n (next_transfer g).1 in omega (arith, rest)

-- no reserved word has a digit behind its first letter
no_digit : List ℕ → Bool
no_digit w = not (is_digit (slice_index w 1))

none_of : (words : List (List ℕ)) (w : List ℕ) → list_all no_digit words ≡ true → is_digit (slice_index w 1) ≡ true → is_one_of words w ≡ false
unfolding no_digit
none_of words w all digit =
    ⊎_elim (λ yes. let e : not (is_digit (slice_index w 1)) ≡ true = one_passes no_digit words w all yes in let f : false ≡ true = ap not (sym digit) ∙ e in cc) (λ no. no) (cases_Bool (is_one_of words w))

unreserved : (w : List ℕ) → is_digit (slice_index w 1) ≡ true → is_reserved w ≡ false
unfolding is_reserved is_setting_word is_item_word is_net_word is_plan_word is_statement_word no_digit
unreserved w digit =
    let a = none_of (codes "morty" ∷ codes "replicas" ∷ codes "wardens" ∷ codes "tries" ∷ codes "execs" ∷ codes "gap" ∷ codes "turns" ∷ codes "policy" ∷ codes "rewind" ∷ codes "abort" ∷ []) w refl digit in
    let b = none_of (codes "table" ∷ codes "first" ∷ codes "program" ∷ codes "client" ∷ codes "at" ∷ codes "end" ∷ []) w refl digit in
    let c = none_of (codes "net" ∷ codes "fair" ∷ codes "seeded" ∷ codes "listed" ∷ codes "late" ∷ codes "repeat" ∷ codes "hurry" ∷ codes "list" ∷ []) w refl digit in
    let d = none_of (codes "go" ∷ codes "stop" ∷ codes "deliver" ∷ codes "recover" ∷ codes "truncate" ∷ codes "wait" ∷ codes "next" ∷ codes "newest" ∷ codes "replica" ∷ codes "warden" ∷ []) w refl digit in
    let e = none_of (codes "let" ∷ codes "read" ∷ codes "write" ∷ codes "print" ∷ codes "if" ∷ codes "else" ∷ codes "and" ∷ codes "or" ∷ codes "not" ∷ codes "sum" ∷ []) w refl digit in
    or_none (or_none (or_none (or_none a b) c) d) e
  where
    or_none : {x y : Bool} → x ≡ false → y ≡ false → (x || y) ≡ false
    or_none {x} {y} one two = ap (λ z. z || y) one ∙ two

digits_go_on : (ds : List ℕ) → list_all is_digit ds ≡ true → list_all is_name_byte ds ≡ true
digits_go_on [] all = refl
digits_go_on (d ∷ ds) all =
    let both = and_parts (is_digit d) (list_all is_digit ds) all in
    and_from (is_name_byte d) (list_all is_name_byte ds) (goes_on d both.0) (digits_go_on ds both.1)
  where
    goes_on : (d : ℕ) → is_digit d ≡ true → is_name_byte d ≡ true
    goes_on d is = grind (arith, nat_tests)

named_by : (ds : List ℕ) → list_all is_digit ds ≡ true → 0 < length ds → length ds ≤ 20 → is_name (112 ∷ ds) ≡ true
unfolding is_name
named_by [] all some few = absurd (let e : ⊥ = omega (arith, some) in e)
named_by (d ∷ ds) all some few =
    let first = (and_parts (is_digit d) (list_all is_digit ds) all).0 in
    and_from (is_letter 112 && list_all is_name_byte (112 ∷ d ∷ ds) && nat_le (length (112 ∷ d ∷ ds)) 32) (not (is_reserved (112 ∷ d ∷ ds)))
    (and_from (is_letter 112 && list_all is_name_byte (112 ∷ d ∷ ds)) (nat_le (length (112 ∷ d ∷ ds)) 32) (digits_go_on (d ∷ ds) all) (short (length (112 ∷ d ∷ ds)) (omega (arith, few))))
    (ap not (unreserved (112 ∷ d ∷ ds) first))
  where
    short : (n : ℕ) → n ≤ 32 → nat_le n 32 ≡ true
    short n few = grind (arith, nat_tests)

name_is : (i : ℕ) → i < 2 ^ 32 → is_name (codes "p" ++ decimal i) ≡ true
name_is i small = named_by (decimal i) (decimal_is i (omega (arith, small))).all (decimal_nonempty i (omega (arith, small))) (length-decimal-le 20 i (omega arith) (omega (arith, small)) (omega (arith, small)))

names_are : (i n : ℕ) (g : Lcg) → i + n < 2 ^ 32 → list_all is_name (map (λ (p : Named). p.name) (transfer_progs i (transfers n g))) ≡ true
names_are i zero g small = refl
names_are i (suc n) g small =
    and_from (is_name (codes "p" ++ decimal i)) (list_all is_name (map (λ (p : Named). p.name) (transfer_progs (i + 1) (transfers n (next_transfer g).1)))) (name_is i (omega (arith, small)))
    (names_are (i + 1) n (next_transfer g).1 (omega (arith, small)))

other_name : (a b : ℕ) → a < b → b < 2 ^ 32 → bytes_eq (codes "p" ++ decimal a) (codes "p" ++ decimal b) ≡ false
other_name a b less small =
    ⊎_elim
    (λ yes. let same : codes "p" ++ decimal a ≡ codes "p" ++ decimal b = (bytes_eq-Decides (codes "p" ++ decimal a) (codes "p" ++ decimal b)).0 yes in
    let digits : decimal a ≡ decimal b = ap (λ (w : List ℕ). drop 1 w) same in
    let number = decimal_injective a b (omega (arith, less, small)) (omega (arith, small)) digits in
    absurd (let e : ⊥ = omega (arith, number, less) in e))
    (λ no. no) (cases_Bool (bytes_eq (codes "p" ++ decimal a) (codes "p" ++ decimal b)))

names_apart : (a i n : ℕ) (g : Lcg) → a < i → i + n < 2 ^ 32 → AllByRecursion (λ w. bytes_eq (codes "p" ++ decimal a) w ≡ false) (map (λ (p : Named). p.name) (transfer_progs i (transfers n g)))
names_apart a i zero g less small = tt
names_apart a i (suc n) g less small = (other_name a i less (omega (arith, small)), names_apart a (i + 1) n (next_transfer g).1 (omega (arith, less)) (omega (arith, small)))

names_distinct : (i n : ℕ) (g : Lcg) → i + n < 2 ^ 32 → IsDistinct bytes_eq (map (λ (p : Named). p.name) (transfer_progs i (transfers n g)))
unfolding IsDistinct
names_distinct i zero g small = tt
names_distinct i (suc n) g small = (names_apart i (i + 1) n (next_transfer g).1 (omega arith) (omega (arith, small)), names_distinct (i + 1) n (next_transfer g).1 (omega (arith, small)))

-- the clients
module _ (client : ℕ) (turn : client < CLIENTS) where
  takes : Txn → Bool
  takes t = t.prog % CLIENTS == client

  txns_are : (a n size : ℕ) → a + n ≤ size → size ≤ MOST_GENERATED → AllByRecursion (IsTxn size) (filter (λ t. t.prog % CLIENTS == client) (map transfer_txn (range_with_len a n)))
  txns_are a zero size within few = tt
  txns_are a (suc n) size within few =
      let rest = txns_are (a + 1) n size (omega (arith, within)) few in
      let xs = filter (λ t. t.prog % CLIENTS == client) (map transfer_txn (range_with_len (a + 1) n)) in
      cond_both (a % CLIENTS == client) (transfer_txn a ∷ xs) xs (AllByRecursion (IsTxn size))
      (λ _. (record { known = omega (arith, within); start = omega (arith, within, few) }, rest)) (λ _. rest)

  -- how many places below one are the client's
  turns_below : ℕ → ℕ
  turns_below a = (a + (CLIENTS - 1) - client) / CLIENTS

  next_turn : (a : ℕ) → (b : Bool) → (a % CLIENTS == client) ≡ b → turns_below (a + 1) ≡ turns_below a + cond b 1 0
  unfolding turns_below
  next_turn a true is = let e : a % CLIENTS ≡ client = equal (a % CLIENTS) client is in omega (arith, e, turn)
    where
      equal : (x y : ℕ) → (x == y) ≡ true → x ≡ y
      equal x y is = grind (arith, nat_tests)
  next_turn a false is = let e = differs (a % CLIENTS) client is in omega (arith, e, turn)
    where
      differs : (x y : ℕ) → (x == y) ≡ false → (x ≡ y → ⊥)
      differs x y is = λ same. absurd (grind (arith, nat_tests))

  txns_counted : (a n : ℕ) → turns_below a + length (filter (λ t. t.prog % CLIENTS == client) (map transfer_txn (range_with_len a n))) ≡ turns_below (a + n)
  txns_counted a zero = let e : turns_below a + 0 ≡ turns_below a = omega arith in e ∙ ap turns_below (let same : a ≡ a + 0 = omega arith in same)
  txns_counted a (suc n) = by_turn (a % CLIENTS == client) refl (txns_counted (a + 1) n)
    where
      xs : List Txn
      xs = filter (λ t. t.prog % CLIENTS == client) (map transfer_txn (range_with_len (a + 1) n))

      by_turn : (b : Bool) → (a % CLIENTS == client) ≡ b → turns_below (a + 1) + length xs ≡ turns_below (a + 1 + n) → turns_below a + length (filter (λ t. t.prog % CLIENTS == client) (map transfer_txn (range_with_len a (suc n)))) ≡ turns_below (a + suc n)
      by_turn true is rest =
          let len : length (cond (a % CLIENTS == client) (transfer_txn a ∷ xs) xs) ≡ suc (length xs) = ap (λ x. length (cond x (transfer_txn a ∷ xs) xs)) is in
          let next = next_turn a true is in
          let end = ap turns_below (let e : a + 1 + n ≡ a + suc n = omega arith in e) in
          omega (arith, len, rest, next, end)
      by_turn false is rest =
          let len : length (cond (a % CLIENTS == client) (transfer_txn a ∷ xs) xs) ≡ length xs = ap (λ x. length (cond x (transfer_txn a ∷ xs) xs)) is in
          let next = next_turn a false is in
          let end = ap turns_below (let e : a + 1 + n ≡ a + suc n = omega arith in e) in
          omega (arith, len, rest, next, end)

  few_txns : (size : ℕ) → size ≤ MOST_GENERATED → length (txns_of size client) ≤ 64
  unfolding turns_below
  few_txns size few = let count = txns_counted 0 size in omega (arith, count, few, turn)

clients_are : (size a n : ℕ) → a + n ≤ CLIENTS → size ≤ MOST_GENERATED → AllByRecursion (IsClient size) (map (txns_of size) (range_with_len a n))
clients_are size a zero within few = tt
clients_are size a (suc n) within few =
    (record { each = txns_are a (omega (arith, within)) 0 size size (omega arith) few; few = few_txns a (omega (arith, within)) size few }, clients_are size (a + 1) n (omega (arith, within)) few)

pub generated_is_sayable : (seed size : ℕ) → seed ≤ GREATEST_SEED → size ≤ MOST_GENERATED → IsSayable (generated seed size)
unfolding is_name is_reserved is_setting_word is_item_word is_net_word is_plan_word is_statement_word IsDistinct
generated_is_sayable seed size small few =
    let g = generator seed in
    let names = many_names 1 size g in
    let progs = many_progs 1 size g in
    let clients = length-map-range_with_len (txns_of size) 0 CLIENTS in
    record {
      settings = record { replicas = refl; wardens = refl; tries = refl; execs = refl; gap = refl; turns = refl };
      tables = record { named = refl; distinct = (tt, tt); few = omega arith };
      firsts = record { each = accounts_are 1 ACCOUNTS (omega arith); distinct = accounts_distinct 1 ACCOUNTS };
      named = record { named = names_are 1 size g (omega (arith, few)); distinct = names_distinct 1 size g (omega (arith, few)); few = omega (arith, names, few) };
      progs = progs_are 1 size g;
      clients = record {
        each = subst (λ (n : ℕ). AllByRecursion (IsClient n) (map (txns_of size) (range_with_len 0 CLIENTS))) (sym progs) (clients_are size 0 CLIENTS (omega arith) few);
        some = omega (arith, clients);
        few = omega (arith, clients);
      };
      net = (small, omega arith, omega arith, omega arith);
      plan = (record { node = (omega arith, omega (arith, clients)); says = (refl, omega arith, tt) }, tt);
    }
