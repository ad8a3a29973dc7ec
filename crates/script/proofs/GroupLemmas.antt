-- The groups of a script's items are read one behind the other, and each group item by item.
use Rattle.std.proofs.Common.{◌≡◌, ℕ, true, false, List, [], ◌∷◌, ◌++◌, Ok, Err, refl, sym, ap, ◌∙◌}
use Rattle.std.proofs.lemmas.List.{append_assoc, append-nil}
use Rattle.std.proofs.lemmas.Bool.{cond-true, cond-false}
use Rattle.txn_text.specs.declared.faults.TextFault.{TextFault}
use Rattle.txn_parse.specs.Symbols.{Lexeme}
use Rattle.txn_parse.specs.Reading.{Found, ◌>>=◌}
use Rattle.script.specs.declared.reading.Group.{Group}
use Rattle.script.specs.declared.reading.Group.TheVariants as group
use Rattle.script.specs.Items.{Item}
use Rattle.script.specs.Rules.{Rule, Into, Many, begins, empty, next_is, read}
use Rattle.script.specs.Fits.{fits}
use Rattle.script.specs.Grammar.{token, version, number_setting, policy_setting, setting, signed, table, first, store, program, txn, txns, client, seeded, net, node, version_name, named_pick, pick, at_item, entry, list_item, plan, end_item, single, as_list, optional, then_items, script}
use Rattle.script.specs.Groups.{rule_of, joined, script_by}
use Rattle.script.proofs.Found.{made_of}
use Rattle.script.proofs.ReadingRules.{Shortens, more_of, all_at, many_step}
use Rattle.script.proofs.RulesAreRead.{shortens_by}
use Rattle.script.proofs.RulesAnswer.{answers}
use Rattle.script.proofs.BlocksAreRead.{blocks}

joined-nil : (r : Found (List Item)) → joined [] r ≡ r
joined-nil (Ok r) = refl
joined-nil (Err f) = refl

behind_front : (front xs : List Item) (y : Found (List Item)) → joined front ((y >>= made_of {B = List Item × List Item} (λ b. (xs, b))) >>= made_of (λ x. x.0 ++ x.1)) ≡ joined (front ++ xs) y
behind_front front xs (Ok b) = ap (λ zs. let r : Found (List Item) = Ok (zs, b.1) in r) (sym (append_assoc front xs b.0))
behind_front front xs (Err f) = refl

then_by : (at : ℕ) (q : Rule (List Item)) (front : List Item) (x : Found (List Item)) →
    joined front ((x >>= (λ a. read q at a.1 >>= made_of {B = List Item × List Item} (λ b. (a.0, b)))) >>= made_of (λ x. x.0 ++ x.1)) ≡ (joined front x >>= (λ a. joined a.0 (read q at a.1)))
then_by at q front (Ok a) = behind_front front a.0 (read q at a.1)
then_by at q front (Err f) = refl

then_step : (r q : Rule (List Item)) (at : ℕ) (front : List Item) (ls : List Lexeme) → joined front (read (then_items r q) at ls) ≡ (joined front (read r at ls) >>= (λ a. joined a.0 (read q at a.1)))
then_step r q at front ls = then_by at q front (read r at ls)

next : (x : Found (List Item)) (j k : List Item × List Lexeme → Found (List Item)) → ((a : List Item × List Lexeme) → j a ≡ k a) → (x >>= j) ≡ (x >>= k)
next (Ok a) j k same = same a
next (Err f) j k same = refl

pub script_is_read : (at : ℕ) (ls : List Lexeme) → read script at ls ≡ script_by at ls
unfolding script script_by
script_is_read at ls =
    sym (joined-nil (read script at ls))
    ∙ then_step (Into single version) from_settings at [] ls
    ∙ next _ _ _ (λ a. then_step (Many setting) from_stores at a.0 a.1
    ∙ next _ _ _ (λ b. then_step (Many store) from_programs at b.0 b.1
    ∙ next _ _ _ (λ c. then_step (Many program) from_clients at c.0 c.1
    ∙ next _ _ _ (λ d. then_step (Many client) from_net at d.0 d.1
    ∙ next _ _ _ (λ e. then_step (Into as_list (optional net)) from_plans at e.0 e.1
    ∙ next _ _ _ (λ f. then_step (Many plan) (Into single end_item) at f.0 f.1))))))
  where
    from_plans : Rule (List Item)
    from_plans = then_items (Many plan) (Into single end_item)

    from_net : Rule (List Item)
    from_net = then_items (Into as_list (optional net)) from_plans

    from_clients : Rule (List Item)
    from_clients = then_items (Many client) from_net

    from_programs : Rule (List Item)
    from_programs = then_items (Many program) from_clients

    from_stores : Rule (List Item)
    from_stores = then_items (Many store) from_programs

    from_settings : Rule (List Item)
    from_settings = then_items (Many setting) from_stores

group_fits : (g : Group) → fits (rule_of g) ≡ true
unfolding token version number_setting policy_setting setting signed table first store program txn txns client seeded net node version_name named_pick pick at_item entry list_item plan
group_fits group.Settings = refl
group_fits group.Stores = refl
group_fits group.Programs = refl
group_fits group.Clients = refl
group_fits group.Plans = refl

group_some : (g : Group) → empty (rule_of g) ≡ false
unfolding token number_setting policy_setting setting table first store program client at_item list_item plan
group_some group.Settings = refl
group_some group.Stores = refl
group_some group.Programs = refl
group_some group.Clients = refl
group_some group.Plans = refl

short : (g : Group) (at : ℕ) → Shortens (read (rule_of g) at)
short g at = shortens_by at (rule_of g) (group_fits g) (group_some g) (answers (rule_of g) (group_fits g) at (blocks at).answer (blocks at).some)

more_by : (front : List Item) (a : Item) (r : Found (List Item)) → joined front (r >>= made_of (λ xs. a ∷ xs)) ≡ joined (front ++ a ∷ []) r
more_by front a (Ok r) = ap (λ zs. let x : Found (List Item) = Ok (zs, r.1) in x) (sym (append_assoc front (a ∷ []) r.0))
more_by front a (Err f) = refl

-- an item behind those that are there
pub group_more : (g : Group) (at : ℕ) (front : List Item) (a : Item) (ls ms : List Lexeme) → next_is (begins (rule_of g)) ls ≡ true → read (rule_of g) at ls ≡ Ok (a, ms) →
    joined front (read (Many (rule_of g)) at ls) ≡ joined (front ++ a ∷ []) (read (Many (rule_of g)) at ms)
group_more g at front a ls ms begun is =
    ap (joined front) (many_step (begins (rule_of g)) (read (rule_of g) at) (short g at) ls ∙ cond-true (next_is (begins (rule_of g)) ls) _ _ begun
    ∙ ap (λ r. r >>= more_of (all_at (begins (rule_of g)) (read (rule_of g) at))) is)
    ∙ more_by front a (all_at (begins (rule_of g)) (read (rule_of g) at) ms)

pub group_none : (g : Group) (at : ℕ) (front : List Item) (ls : List Lexeme) → next_is (begins (rule_of g)) ls ≡ false → joined front (read (Many (rule_of g)) at ls) ≡ Ok (front, ls)
group_none g at front ls none =
    ap (joined front) (many_step (begins (rule_of g)) (read (rule_of g) at) (short g at) ls ∙ cond-false (next_is (begins (rule_of g)) ls) _ _ none)
    ∙ ap (λ zs. let x : Found (List Item) = Ok (zs, ls) in x) (append-nil front)

pub group_err : (g : Group) (at : ℕ) (front : List Item) (ls : List Lexeme) (f : TextFault) → next_is (begins (rule_of g)) ls ≡ true → read (rule_of g) at ls ≡ Err f → joined front (read (Many (rule_of g)) at ls) ≡ Err f
group_err g at front ls f begun is =
    ap (joined front) (many_step (begins (rule_of g)) (read (rule_of g) at) (short g at) ls ∙ cond-true (next_is (begins (rule_of g)) ls) _ _ begun
    ∙ ap (λ r. r >>= more_of (all_at (begins (rule_of g)) (read (rule_of g) at))) is)
