-- What a test of each symbol says of one.
use Rattle.std.proofs.Common.{◌≡◌, ℕ, zero, suc, arith, Bool, true, false, not, ◌&&◌, ◌||◌, List, [], ◌∷◌, Some, refl, subst}
use Rattle.std.specs.List.{slice_get, All}
use Rattle.std.proofs.lemmas.List.Sums.{AllPass-from_list_all}
use Rattle.txn_lang.specs.declared.tree.BinOp.TheVariants as op
use Rattle.txn_parse.specs.declared.symbols.Symbol.{Symbol}
use Rattle.txn_parse.specs.declared.symbols.Symbol.TheVariants as symbol
use Rattle.script.specs.Fits.{all_symbols, every, apart}

pub and_left : (a b : Bool) → (a && b) ≡ true → a ≡ true
and_left true b h = refl
and_left false b h = h

pub and_right : (a b : Bool) → (a && b) ≡ true → b ≡ true
and_right true b h = h
and_right false b h = cc

pub both_true : (a b : Bool) → a ≡ true → b ≡ true → (a && b) ≡ true
both_true true b h k = k
both_true false b h k = h

pub or_left : (a b : Bool) → a ≡ true → (a || b) ≡ true
or_left true b h = refl
or_left false b h = cc

pub or_right : (a b : Bool) → b ≡ true → (a || b) ≡ true
or_right true b h = refl
or_right false b h = h

pub none_left : (a b : Bool) → (a || b) ≡ false → a ≡ false
none_left true b h = h
none_left false b h = refl

pub none_right : (a b : Bool) → (a || b) ≡ false → b ≡ false
none_right true b h = cc
none_right false b h = h

pub not_true : (a : Bool) → not a ≡ true → a ≡ false
not_true true h = cc
not_true false h = refl

-- the place of a symbol in the list of all
abbrev place : Symbol → ℕ
place symbol.Name = 0
place symbol.Number = 1
place symbol.Let = 2
place symbol.Read = 3
place symbol.Write = 4
place symbol.Print = 5
place symbol.If = 6
place symbol.Else = 7
place symbol.Repeat = 8
place symbol.Abort = 9
place symbol.Not = 10
place (symbol.Op op.Add) = 11
place (symbol.Op op.Sub) = 12
place (symbol.Op op.Mul) = 13
place (symbol.Op op.Div) = 14
place (symbol.Op op.Rem) = 15
place (symbol.Op op.Eq) = 16
place (symbol.Op op.Ne) = 17
place (symbol.Op op.Lt) = 18
place (symbol.Op op.Le) = 19
place (symbol.Op op.Gt) = 20
place (symbol.Op op.Ge) = 21
place (symbol.Op op.And) = 22
place (symbol.Op op.Or) = 23
place symbol.Assign = 24
place symbol.Semicolon = 25
place symbol.OpenBlock = 26
place symbol.CloseBlock = 27
place symbol.OpenIndex = 28
place symbol.CloseIndex = 29
place symbol.OpenParen = 30
place symbol.CloseParen = 31
place symbol.Dot = 32
place symbol.Morty = 33
place symbol.Replicas = 34
place symbol.Wardens = 35
place symbol.Tries = 36
place symbol.Execs = 37
place symbol.Gap = 38
place symbol.Turns = 39
place symbol.Policy = 40
place symbol.Rewind = 41
place symbol.Table = 42
place symbol.First = 43
place symbol.Program = 44
place symbol.Client = 45
place symbol.At = 46
place symbol.Net = 47
place symbol.Fair = 48
place symbol.Seeded = 49
place symbol.Listed = 50
place symbol.Late = 51
place symbol.Hurry = 52
place symbol.List = 53
place symbol.Go = 54
place symbol.Stop = 55
place symbol.Deliver = 56
place symbol.Recover = 57
place symbol.Truncate = 58
place symbol.Wait = 59
place symbol.Next = 60
place symbol.Newest = 61
place symbol.Replica = 62
place symbol.Warden = 63
place symbol.End = 64
place symbol.Other = 65

at_place : (s : Symbol) → slice_get all_symbols (place s) ≡ Some s
at_place (symbol.Op op.Add) = refl
at_place (symbol.Op op.Sub) = refl
at_place (symbol.Op op.Mul) = refl
at_place (symbol.Op op.Div) = refl
at_place (symbol.Op op.Rem) = refl
at_place (symbol.Op op.Eq) = refl
at_place (symbol.Op op.Ne) = refl
at_place (symbol.Op op.Lt) = refl
at_place (symbol.Op op.Le) = refl
at_place (symbol.Op op.Gt) = refl
at_place (symbol.Op op.Ge) = refl
at_place (symbol.Op op.And) = refl
at_place (symbol.Op op.Or) = refl
at_place s = refl

get_pass : (test : Symbol → Bool) (xs : List Symbol) (i : ℕ) (s : Symbol) → All (λ x. test x ≡ true) xs → slice_get xs i ≡ Some s → test s ≡ true
get_pass test [] i s h at = cc
get_pass test (x ∷ xs) zero s h at = let e : x ≡ s = cc in subst (λ (y : Symbol). test y ≡ true) e (h 0 x (omega arith))
get_pass test (x ∷ xs) (suc i) s h at = get_pass test xs i s (λ k d less. h (suc k) d (omega (arith, less))) at

pub every_one : (test : Symbol → Bool) → every test ≡ true → (s : Symbol) → test s ≡ true
every_one test h s = get_pass test all_symbols (place s) s (AllPass-from_list_all test all_symbols h) (at_place s)

pub apart_at : (p q : Symbol → Bool) → apart p q ≡ true → (s : Symbol) → p s ≡ true → q s ≡ false
apart_at p q h s is = by_test (p s) (q s) is (every_one (λ s. not (p s && q s)) h s)
  where
    by_test : (a b : Bool) → a ≡ true → not (a && b) ≡ true → b ≡ false
    by_test true b e n = not_true b n
    by_test false b e n = cc
