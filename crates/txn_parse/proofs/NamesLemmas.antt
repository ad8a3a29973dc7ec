-- The places of names in a list of names that grows, and the first check that fails.
use Rattle.std.proofs.Common.{◌≡◌, ℕ, ◌+◌, ◌<◌, Bool, true, false, not, ◌||◌, cond, List, [], ◌∷◌, ◌++◌, length, Option, Some, None, Result, Ok, Err, refl, sym, ap, ◌∙◌, arith}
use Rattle.std.specs.Prelude.{find}
use Rattle.std.specs.List.{IsDistinct}
use Rattle.std.specs.Option.{option_or, option_map}
use Rattle.std.specs.Str.{bytes_eq}
use Rattle.std.proofs.lemmas.Bool.{cond_both}
use Rattle.std.proofs.lemmas.Cmp.{nat_list_eq_equiv}
use Rattle.std.proofs.lemmas.List.{append_assoc, append-nil}
use Rattle.std.proofs.lemmas.List.Folds.{find-append}
use Rattle.std.proofs.lemmas.Map.Keys.{IsDistinct-push}
use Rattle.txn_text.specs.declared.kinds.Token.{Token}
use Rattle.txn_text.specs.declared.faults.FaultKind.{FaultKind}
use Rattle.txn_text.specs.declared.faults.TextFault.{TextFault}
use Rattle.txn_text.specs.declared.faults.TextFault.TheVariants.{At, NoMemory}
use Rattle.txn_text.specs.Tokens.{token_bytes}
use Rattle.txn_parse.specs.Binding.{Check, first_failing, Names, is_known, place, is_unknown, known_checks, with_name, FaultIs}

append_by : (c : Check) (xs ys : List Check) (b : Bool) → first_failing (xs ++ ys) ≡ option_or (first_failing xs) (first_failing ys) →
    cond b (Some (At c.line c.kind)) (first_failing (xs ++ ys)) ≡ option_or (cond b (Some (At c.line c.kind)) (first_failing xs)) (first_failing ys)
append_by c xs ys true behind = refl
append_by c xs ys false behind = behind

pub first_failing-append : (xs ys : List Check) → first_failing (xs ++ ys) ≡ option_or (first_failing xs) (first_failing ys)
first_failing-append [] ys = refl
first_failing-append (c ∷ xs) ys = append_by c xs ys c.fails (first_failing-append xs ys)

option_parts : {A : Type 0} (a b : Option A) → option_or a b ≡ None → (a ≡ None) × (b ≡ None)
option_parts None b is = (refl, is)
option_parts (Some x) b is = cc

-- where no check fails, none of a part does
pub none_failing : (xs ys : List Check) → first_failing (xs ++ ys) ≡ None → (first_failing xs ≡ None) × (first_failing ys ≡ None)
none_failing xs ys is = option_parts (first_failing xs) (first_failing ys) (sym (first_failing-append xs ys) ∙ is)

pub none_found : {A : Type 0} (p : A → Bool) (xs ys : List A) → find p (xs ++ ys) ≡ None → (find p xs ≡ None) × (find p ys ≡ None)
none_found p xs ys is = option_parts (find p xs) (find p ys) (sym (find-append p xs ys) ∙ is)

pub found_first : {A : Type 0} (p : A → Bool) (xs ys : List A) (x : A) → Some x ≡ find p xs → find p (xs ++ ys) ≡ Some x
found_first p xs ys x is = find-append p xs ys ∙ ap (λ o. option_or o (find p ys)) (sym is)

pub found_second : {A : Type 0} (p : A → Bool) (xs ys : List A) → None ≡ find p xs → find p (xs ++ ys) ≡ find p ys
found_second p xs ys is = find-append p xs ys ∙ ap (λ o. option_or o (find p ys)) (sym is)

-- a fault of the first checks, and one of those behind them
pub first_fault : (A B : Type 0) (xs ys : List Check) (f : TextFault) → FaultIs {A = A} xs (Err f) → FaultIs {A = B} (xs ++ ys) (Err f)
first_fault A B xs ys (At line kind) is = first_failing-append xs ys ∙ ap (λ o. option_or o (first_failing ys)) is
first_fault A B xs ys NoMemory is = tt

pub later_fault : (A : Type 0) (xs ys : List Check) (r : Result A TextFault) → first_failing xs ≡ None → FaultIs ys r → FaultIs (xs ++ ys) r
later_fault A xs ys (Ok b) none is = first_failing-append xs ys ∙ ap (λ o. option_or o (first_failing ys)) none ∙ is
later_fault A xs ys (Err (At line kind)) none is = first_failing-append xs ys ∙ ap (λ o. option_or o (first_failing ys)) none ∙ is
later_fault A xs ys (Err NoMemory) none is = tt

-- names that stand at the end of others
pub record Grows (names later : Names) : Type 0 where
  pub more : Names
  pub split : later ≡ names ++ more

pub grows_none : (names : Names) → Grows names names
grows_none names = record { more = []; split = sym (append-nil names) }

pub grows_twice : {a b c : Names} → Grows a b → Grows b c → Grows a c
grows_twice {a} {b} {c} f g = record { more = f.more ++ g.more; split = g.split ∙ ap (λ x. x ++ g.more) f.split ∙ append_assoc a f.more g.more }

pub with_name_grows : (name : List ℕ) (names : Names) → Grows names (with_name name names)
with_name_grows name names =
    cond_both (is_known names name) names (names ++ name ∷ []) (Grows names) (λ _. grows_none names) (λ _. record { more = name ∷ []; split = refl })

pub same_name : (name : List ℕ) → bytes_eq name name ≡ true
same_name name = nat_list_eq_equiv.refl name

place_by : (x : List ℕ) (names : Names) (name : List ℕ) (b : Bool) → (b || is_known names name) ≡ true → (is_known names name ≡ true → place names name < length names) → cond (not b) (1 + place names name) 0 < length (x ∷ names)
place_by x names name true is behind = omega arith
place_by x names name false is behind = let less = behind is in omega (arith, less)

pub known_place : (names : Names) (name : List ℕ) → is_known names name ≡ true → place names name < length names
known_place [] name is = cc
known_place (x ∷ names) name is = place_by x names name (bytes_eq name x) is (known_place names name)

kept_by : (names more : Names) (name : List ℕ) (b : Bool) → (b || is_known names name) ≡ true → (is_known names name ≡ true → place (names ++ more) name ≡ place names name) → cond (not b) (1 + place (names ++ more) name) 0 ≡ cond (not b) (1 + place names name) 0
kept_by names more name true is behind = refl
kept_by names more name false is behind = ap (λ n. 1 + n) (behind is)

pub place_kept : (names more : Names) (name : List ℕ) → is_known names name ≡ true → place (names ++ more) name ≡ place names name
place_kept [] more name is = cc
place_kept (x ∷ names) more name is = kept_by names more name (bytes_eq name x) is (place_kept names more name)

new_by : (x : List ℕ) (names more : Names) (name : List ℕ) (b : Bool) → (b || is_known names name) ≡ false → (is_known names name ≡ false → place (names ++ name ∷ more) name ≡ length names) → cond (not b) (1 + place (names ++ name ∷ more) name) 0 ≡ length (x ∷ names)
new_by x names more name true is behind = cc
new_by x names more name false is behind = let same = behind is in omega (arith, same)

-- a new name has the next place
pub place_new : (names more : Names) (name : List ℕ) → is_known names name ≡ false → place (names ++ name ∷ more) name ≡ length names
place_new [] more name is = ap (λ b. cond (not b) (1 + place more name) 0) (same_name name)
place_new (x ∷ names) more name is = new_by x names more name (bytes_eq name x) is (place_new names more name)

or_true : (a b : Bool) → b ≡ true → (a || b) ≡ true
or_true true b is = refl
or_true false b is = is

known_last : (names : Names) (name : List ℕ) → is_known (names ++ name ∷ []) name ≡ true
known_last [] name = ap (λ b. b || false) (same_name name)
known_last (x ∷ names) name = or_true (bytes_eq name x) _ (known_last names name)

pub known_with : (name : List ℕ) (names : Names) → is_known (with_name name names) name ≡ true
known_with name names =
    cond_both (is_known names name) names (names ++ name ∷ []) (λ ns. is_known ns name ≡ true) (λ is. is) (λ _. known_last names name)

-- the place of a name is the same once names have grown
pub place_stays : (names later : Names) (name : List ℕ) → Grows names later → is_known names name ≡ true → (place later name ≡ place names name) × (place later name < length names)
place_stays names later name g is =
    let same : place later name ≡ place names name = ap (λ ns. place ns name) g.split ∙ place_kept names g.more name is in
    let less = known_place names name is in
    (same, omega (arith, same, less))

-- what is told of all names is told of them with one more
pub with_distinct : (name : List ℕ) (names : Names) → IsDistinct bytes_eq names → IsDistinct bytes_eq (with_name name names)
with_distinct name names d =
    cond_both (is_known names name) names (names ++ name ∷ []) (IsDistinct bytes_eq) (λ _. d) (λ new. IsDistinct-push nat_list_eq_equiv names name d new)

-- where no check of a front fails, the fault is that of those behind it
pub none_first : (xs ys : List Check) → first_failing xs ≡ None → first_failing (xs ++ ys) ≡ first_failing ys
none_first xs ys none = first_failing-append xs ys ∙ ap (λ o. option_or o (first_failing ys)) none

-- a fault of the first of all checks
pub fault_of_all : (xs ys all : List Check) (f : TextFault) → first_failing (xs ++ ys) ≡ first_failing all → FaultIs {A = Unit {0}} xs (Err f) → FaultIs {A = Unit {0}} all (Err f)
fault_of_all xs ys all (At line kind) same is = sym same ∙ first_failing-append xs ys ∙ ap (λ o. option_or o (first_failing ys)) is
fault_of_all xs ys all NoMemory same is = tt

-- the first name that is unknown is the fault
failing_by : (k : FaultKind) (text : List ℕ) (names : Names) (t : Token) (ts : List Token) (b : Bool) → first_failing (known_checks k text names ts) ≡ option_map (λ (t : Token). At t.line k) (find (is_unknown text names) ts) →
    cond b (Some (At t.line k)) (first_failing (known_checks k text names ts)) ≡ option_map (λ (t : Token). At t.line k) (cond b (Some t) (find (is_unknown text names) ts))
failing_by k text names t ts true behind = refl
failing_by k text names t ts false behind = behind

pub unknown_failing : (k : FaultKind) (text : List ℕ) (names : Names) (ts : List Token) → first_failing (known_checks k text names ts) ≡ option_map (λ (t : Token). At t.line k) (find (is_unknown text names) ts)
unknown_failing k text names [] = refl
unknown_failing k text names (t ∷ ts) = failing_by k text names t ts (is_unknown text names t) (unknown_failing k text names ts)

known_by : (b : Bool) (t : Token) → cond (not b) (Some t) None ≡ None → b ≡ true
known_by true t is = refl
known_by false t is = cc

-- a name of which a search found nothing unknown
pub known_one : (text : List ℕ) (names : Names) (t : Token) → find (is_unknown text names) (t ∷ []) ≡ None → is_known names (token_bytes text t) ≡ true
known_one text names t is = known_by (is_known names (token_bytes text t)) t is
