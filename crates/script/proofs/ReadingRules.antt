-- Reading many items, however many are allowed for: as long as each shortens the list, only the list decides.
use Rattle.std.proofs.Common.{◌≡◌, ℕ, zero, suc, ◌<◌, ◌≤◌, Bool, true, false, cond, List, [], ◌∷◌, length, Result, Ok, Err, refl, ap, arith}
use Rattle.txn_text.specs.declared.faults.TextFault.{TextFault}
use Rattle.txn_parse.specs.declared.symbols.Symbol.{Symbol}
use Rattle.txn_parse.specs.Symbols.{Lexeme}
use Rattle.txn_parse.specs.Reading.{Found, Reader, ◌>>=◌, separator_at}
use Rattle.script.specs.Rules.{next_is, many_at, listed_at}

-- each read item has a token
abbrev pub Shortens : {A : Type 0} → Reader A → Type 0
Shortens {A} item = (ls : List Lexeme) (a : A × List Lexeme) → item ls ≡ Ok a → length a.1 < length ls

abbrev pub NeverLengthens : {A : Type 0} → Reader A → Type 0
NeverLengthens {A} item = (ls : List Lexeme) (a : A × List Lexeme) → item ls ≡ Ok a → length a.1 ≤ length ls

-- what goes on alike behind what was found goes on alike
pub bind_same : {A B : Type 0} (r : Result A TextFault) (j k : A → Result B TextFault) → ((a : A) → r ≡ Ok a → j a ≡ k a) → (r >>= j) ≡ (r >>= k)
bind_same (Ok a) j k same = same a refl
bind_same (Err e) j k same = refl

pub cond_same : {A : Type 0} (b : Bool) (x y z : A) → (b ≡ true → x ≡ y) → cond b x z ≡ cond b y z
cond_same true x y z same = same refl
cond_same false x y z same = refl

-- an item in front of what is read behind it
abbrev pub more_of : {A : Type 0} → Reader (List A) → A × List Lexeme → Found (List A)
more_of rest a = rest a.1 >>= (λ r. Ok (a.0 ∷ r.0, r.1))

many_fuel : {A : Type 0} (begun : Symbol → Bool) (item : Reader A) → Shortens item → (n m : ℕ) (ls : List Lexeme) → length ls < n → length ls < m → many_at begun item n ls ≡ many_at begun item m ls
unfolding many_at
many_fuel begun item short zero m ls a b = absurd (omega (arith, a))
many_fuel begun item short (suc n) zero ls a b = absurd (omega (arith, b))
many_fuel begun item short (suc n) (suc m) ls a b =
    cond_same (next_is begun ls) (item ls >>= more_of (many_at begun item n)) (item ls >>= more_of (many_at begun item m)) (Ok ([], ls))
    (λ _. bind_same (item ls) (more_of (many_at begun item n)) (more_of (many_at begun item m))
    (λ x is. let s = short ls x is in ap (λ (r : Found _). r >>= (λ r. Ok (x.0 ∷ r.0, r.1))) (many_fuel begun item short n m x.1 (omega (arith, s, a)) (omega (arith, s, b)))))

-- the items at the front of a list
abbrev pub all_at : {A : Type 0} → (Symbol → Bool) → Reader A → Reader (List A)
all_at begun item ls = many_at begun item (suc (length ls)) ls

pub many_step : {A : Type 0} (begun : Symbol → Bool) (item : Reader A) → Shortens item → (ls : List Lexeme) → all_at begun item ls ≡ cond (next_is begun ls) (item ls >>= more_of (all_at begun item)) (Ok ([], ls))
unfolding many_at
many_step begun item short ls =
    cond_same (next_is begun ls) (item ls >>= more_of (many_at begun item (length ls))) (item ls >>= more_of (all_at begun item)) (Ok ([], ls))
    (λ _. bind_same (item ls) (more_of (many_at begun item (length ls))) (more_of (all_at begun item))
    (λ x is. let s = short ls x is in ap (λ (r : Found _). r >>= (λ r. Ok (x.0 ∷ r.0, r.1))) (many_fuel begun item short (length ls) (suc (length x.1)) x.1 s (omega arith))))

-- behind an item: the end, or a further one
abbrev pub listed_then : {A : Type 0} → ℕ → Reader (List A) → A × List Lexeme → Found (List A)
listed_then last rest a = separator_at last a.1 >>= (λ m. cond m.0 (rest m.1 >>= (λ r. Ok (a.0 ∷ r.0, r.1))) (Ok (a.0 ∷ [], m.1)))

listed_same : {A : Type 0} (last : ℕ) (j k : Reader (List A)) → NeverLengthens (separator_at last) → (a : A × List Lexeme) → ((ls : List Lexeme) → length ls ≤ length a.1 → j ls ≡ k ls) → listed_then last j a ≡ listed_then last k a
listed_same last j k sep a same =
    bind_same (separator_at last a.1) (λ m. cond m.0 (j m.1 >>= (λ r. Ok (a.0 ∷ r.0, r.1))) (Ok (a.0 ∷ [], m.1))) (λ m. cond m.0 (k m.1 >>= (λ r. Ok (a.0 ∷ r.0, r.1))) (Ok (a.0 ∷ [], m.1)))
    (λ m is. ap (λ (r : Found _). cond m.0 (r >>= (λ r. Ok (a.0 ∷ r.0, r.1))) (Ok (a.0 ∷ [], m.1))) (same m.1 (sep a.1 m is)))

listed_fuel : {A : Type 0} (last : ℕ) (item : Reader A) → Shortens item → NeverLengthens (separator_at last) → (n m : ℕ) (ls : List Lexeme) → length ls < n → length ls < m → listed_at last item n ls ≡ listed_at last item m ls
unfolding listed_at
listed_fuel last item short sep zero m ls a b = absurd (omega (arith, a))
listed_fuel last item short sep (suc n) zero ls a b = absurd (omega (arith, b))
listed_fuel last item short sep (suc n) (suc m) ls a b =
    bind_same (item ls) (listed_then last (listed_at last item n)) (listed_then last (listed_at last item m))
    (λ x is. let s = short ls x is in listed_same last (listed_at last item n) (listed_at last item m) sep x
    (λ ms less. listed_fuel last item short sep n m ms (omega (arith, s, a, less)) (omega (arith, s, b, less))))

abbrev pub list_at : {A : Type 0} → ℕ → Reader A → Reader (List A)
list_at last item ls = listed_at last item (suc (length ls)) ls

pub listed_step : {A : Type 0} (last : ℕ) (item : Reader A) → Shortens item → NeverLengthens (separator_at last) → (ls : List Lexeme) → list_at last item ls ≡ (item ls >>= listed_then last (list_at last item))
unfolding listed_at
listed_step last item short sep ls =
    bind_same (item ls) (listed_then last (listed_at last item (length ls))) (listed_then last (list_at last item))
    (λ x is. let s = short ls x is in listed_same last (listed_at last item (length ls)) (list_at last item) sep x
    (λ ms less. listed_fuel last item short sep (length ls) (suc (length ms)) ms (omega (arith, s, less)) (omega arith)))
