-- The programs of transfers, one after another, and the form of each.
use Rattle.std.proofs.Common.{◌≡◌, ℕ, suc, ◌+◌, ◌-◌, ◌<◌, ◌≤◌, List, [], ◌∷◌, ◌++◌, map, length, refl, sym, ap, ◌∙◌, subst, arith, rules, cond, nat_le, ◌%◌, ◌==◌, Bool, true, false}
use Rattle.std.proofs.lemmas.Bool.{cond-true, cond-false}
use Rattle.std.proofs.lemmas.Bool.Decides.{nat_tests}
use Rattle.std.proofs.lemmas.List.{append_assoc, append-nil, map-append}
use Rattle.std.proofs.lemmas.List.FromFn.{map-range_with_len_more, filter_of_map_range_with_len_more}
use Rattle.std.specs.List.{IsDistinct, range_with_len}
use Rattle.rand_pcg.specs.Lcg.{Lcg}
use Rattle.morty_base.specs.ScriptNames.{is_setting_word, is_item_word, is_net_word, is_plan_word, is_statement_word, is_reserved, is_name}
use Rattle.txn_lang.specs.Tree.{Commands}
use Rattle.txn_lang.specs.Limits.{IsWithin}
use Rattle.txn_lang.specs.Form.{IsWellFormed}
use Rattle.script.specs.declared.setup.First.{First}
use Rattle.script.specs.declared.setup.NamedProg.{NamedProg}
use Rattle.script.specs.declared.setup.Txn.{Txn}
use Rattle.script.specs.Meaning.{Named, named_of}
use Rattle.lab.specs.declared.draws.Transfer.{Transfer}
use Rattle.lab.specs.declared.draws.TheConstants.{ACCOUNTS, GREATEST_AMOUNT}
use Rattle.lab.specs.declared.generated.TheConstants.{CLIENTS}
use Rattle.lab.specs.Draws.{draw, apart_from, transfer_by, next_transfer, transfers}
use Rattle.lab.specs.Generated.{transfer_body, transfer_locals, transfer_prog, transfer_progs, transfer_txn, txns_of, account}

-- the next transfer is the first of those that are left
next_of_left : (size i : ℕ) (g : Lcg) → i < size → transfers (size - i) g ≡ (next_transfer g).0 ∷ transfers (size - (i + 1)) (next_transfer g).1
next_of_left size i g less = ap (λ (n : ℕ). transfers n g) (let e : size - i ≡ suc (size - (i + 1)) = omega (arith, less) in e)

-- one more program was made
pub one_prog : (size i : ℕ) (g h : Lcg) (t : Transfer) (ps : List NamedProg) (p : NamedProg) → i < size → (t, h) ≡ next_transfer g → named_of p ≡ transfer_prog (i + 1) t →
    map named_of (ps ++ p ∷ []) ++ transfer_progs (i + 1 + 1) (transfers (size - (i + 1)) h) ≡ map named_of ps ++ transfer_progs (i + 1) (transfers (size - i) g)
one_prog size i g h t ps p less drawn made =
    let first : t ≡ (next_transfer g).0 = ap (λ x. x.0) drawn in
    let behind : h ≡ (next_transfer g).1 = ap (λ x. x.1) drawn in
    let rest : List Named = transfer_progs (i + 1 + 1) (transfers (size - (i + 1)) h) in
    ap (λ (ns : List Named). ns ++ rest) (map-append named_of ps (p ∷ [])) ∙ append_assoc (map named_of ps) (named_of p ∷ []) rest
    ∙ ap (λ (n : Named). map named_of ps ++ n ∷ rest) (made ∙ ap (transfer_prog (i + 1)) first)
    ∙ ap (λ (x : Lcg). map named_of ps ++ transfer_prog (i + 1) (next_transfer g).0 ∷ transfer_progs (i + 1 + 1) (transfers (size - (i + 1)) x)) behind
    ∙ ap (λ (ts : List Transfer). map named_of ps ++ transfer_progs (i + 1) ts) (sym (next_of_left size i g less))

pub transfer_formed : (t : Transfer) → IsWellFormed transfer_locals (transfer_body t)
unfolding is_setting_word is_item_word is_net_word is_plan_word is_statement_word is_reserved is_name IsDistinct
transfer_formed t = record { named = refl; distinct = ((refl, tt), (tt, tt)); filled = tt; formed = search rules; all_placed = refl }

pub transfer_within : (t : Transfer) → IsWithin 2 (transfer_body t)
transfer_within t = record {
  locals = omega arith;
  steps_within = omega arith;
  reads_within = omega arith;
  writes_within = omega arith;
  prints_within = omega arith;
  depth_within = omega arith;
  each = search rules;
}

pub formed_as : (names : List (List ℕ)) (body : Commands) (t : Transfer) → names ≡ transfer_locals → body ≡ transfer_body t → IsWellFormed names body
formed_as names body t same is = subst (λ ns. IsWellFormed ns body) (sym same) (subst (IsWellFormed transfer_locals) (sym is) (transfer_formed t))

pub within_as : (names : List (List ℕ)) (body : Commands) (t : Transfer) → names ≡ transfer_locals → body ≡ transfer_body t → IsWithin (length names) body
within_as names body t same is = subst (λ (ns : List (List ℕ)). IsWithin (length ns) body) (sym same) (subst (IsWithin 2) (sym is) (transfer_within t))

-- what three draws make
pub drawn_by : (g g1 g2 g3 : Lcg) (f o a : ℕ) → (f, g1) ≡ draw ACCOUNTS g → (o, g2) ≡ draw (ACCOUNTS - 1) g1 → (a, g3) ≡ draw GREATEST_AMOUNT g2 → (transfer_by f o a, g3) ≡ next_transfer g
unfolding next_transfer
drawn_by g g1 g2 g3 f o a e1 e2 e3 =
    let f0 : f ≡ (draw ACCOUNTS g).0 = ap (λ x. x.0) e1 in
    let h1 : g1 ≡ (draw ACCOUNTS g).1 = ap (λ x. x.1) e1 in
    let o0 : o ≡ (draw (ACCOUNTS - 1) (draw ACCOUNTS g).1).0 = ap (λ x. x.0) e2 ∙ ap (λ (x : Lcg). (draw (ACCOUNTS - 1) x).0) h1 in
    let h2 : g2 ≡ (draw (ACCOUNTS - 1) (draw ACCOUNTS g).1).1 = ap (λ x. x.1) e2 ∙ ap (λ (x : Lcg). (draw (ACCOUNTS - 1) x).1) h1 in
    ap (λ (n : ℕ). (transfer_by n o a, g3)) f0 ∙ ap (λ (n : ℕ). (transfer_by (draw ACCOUNTS g).0 n a, g3)) o0
    ∙ ap (λ (x : ℕ × Lcg). (transfer_by (draw ACCOUNTS g).0 (draw (ACCOUNTS - 1) (draw ACCOUNTS g).1).0 x.0, x.1)) (e3 ∙ ap (draw GREATEST_AMOUNT) h2)

-- the other account is moved up where it is at or above the first, and else not
pub moved_up : (f o : ℕ) → 1 + f ≤ 1 + o → 1 + o + 1 ≡ apart_from (1 + f) (1 + o)
moved_up f o above = sym (cond-true (nat_le (1 + f) (1 + o)) (1 + o + 1) (1 + o) (at_or_above (1 + f) (1 + o) above))
  where
    at_or_above : (x y : ℕ) → x ≤ y → nat_le x y ≡ true
    at_or_above x y above = grind (arith, nat_tests)

pub not_moved : (f o : ℕ) → 1 + o < 1 + f → 1 + o ≡ apart_from (1 + f) (1 + o)
not_moved f o below = sym (cond-false (nat_le (1 + f) (1 + o)) (1 + o + 1) (1 + o) (under (1 + f) (1 + o) below))
  where
    under : (x y : ℕ) → y < x → nat_le x y ≡ false
    under x y below = grind (arith, nat_tests)

-- no program was made
pub progs_begun : (size : ℕ) (g h : Lcg) (ps : List NamedProg) → ps ≡ [] → g ≡ h → map named_of ps ++ transfer_progs (0 + 1) (transfers (size - 0) g) ≡ transfer_progs 1 (transfers size h)
progs_begun size g h ps none same =
    ap (λ (qs : List NamedProg). map named_of qs ++ transfer_progs 1 (transfers (size - 0) g)) none
    ∙ ap (λ (n : ℕ). transfer_progs 1 (transfers n g)) (let e : size - 0 ≡ size = omega arith in e) ∙ ap (λ (x : Lcg). transfer_progs 1 (transfers size x)) same

-- one more place is one of the client, or it is not
pub one_txn : (i client : ℕ) (txns : List Txn) → txns ≡ txns_of i client → i % CLIENTS ≡ client → txns ++ transfer_txn i ∷ [] ≡ txns_of (i + 1) client
one_txn i client txns so_far turn =
    ap (λ (ts : List Txn). ts ++ transfer_txn i ∷ []) so_far
    ∙ ap (λ (b : Bool). txns_of i client ++ cond b (transfer_txn i ∷ []) []) (sym (equal (i % CLIENTS) client turn))
    ∙ sym (filter_of_map_range_with_len_more (λ (t : Txn). t.prog % CLIENTS == client) transfer_txn 0 i i (let e : 0 + i ≡ i = omega arith in e))
  where
    equal : (x y : ℕ) → x ≡ y → (x == y) ≡ true
    equal x y same = grind (arith, nat_tests)

pub other_txn : (i client : ℕ) (txns : List Txn) → txns ≡ txns_of i client → (i % CLIENTS ≡ client → ⊥) → txns ≡ txns_of (i + 1) client
other_txn i client txns so_far turn =
    so_far ∙ sym (append-nil (txns_of i client))
    ∙ ap (λ (b : Bool). txns_of i client ++ cond b (transfer_txn i ∷ []) []) (sym (differs (i % CLIENTS) client turn))
    ∙ sym (filter_of_map_range_with_len_more (λ (t : Txn). t.prog % CLIENTS == client) transfer_txn 0 i i (let e : 0 + i ≡ i = omega arith in e))
  where
    differs : (x y : ℕ) → (x ≡ y → ⊥) → (x == y) ≡ false
    differs x y apart = grind (arith, nat_tests, apart)

-- one more client
pub one_client : (size i : ℕ) (clients all : List (List Txn)) (ts : List Txn) → clients ≡ map (txns_of size) (range_with_len 0 i) → ts ≡ txns_of size i → all ≡ clients ++ ts ∷ [] → all ≡ map (txns_of size) (range_with_len 0 (i + 1))
one_client size i clients all ts so_far same is =
    is ∙ ap (λ (cs : List (List Txn)). cs ++ ts ∷ []) so_far ∙ ap (λ (x : List Txn). map (txns_of size) (range_with_len 0 i) ++ x ∷ []) same
    ∙ sym (map-range_with_len_more (txns_of size) 0 i i (let e : 0 + i ≡ i = omega arith in e))

-- one more account
pub one_account : (i : ℕ) (firsts all : List First) (f : First) → firsts ≡ map account (range_with_len 1 i) → f ≡ account (i + 1) → all ≡ firsts ++ f ∷ [] → all ≡ map account (range_with_len 1 (i + 1))
one_account i firsts all f so_far same is =
    is ∙ ap (λ (cs : List First). cs ++ f ∷ []) so_far ∙ ap (λ (x : First). map account (range_with_len 1 i) ++ x ∷ []) same
    ∙ sym (map-range_with_len_more account 1 i (i + 1) (let e : 1 + i ≡ i + 1 = omega arith in e))
