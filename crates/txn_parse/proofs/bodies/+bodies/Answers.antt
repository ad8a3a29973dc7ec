use Rattle.std.proofs.Common.{◌≡◌, ◌≤◌, ◌<◌, ◌+◌, ℕ, List, [], ◌∷◌, ◌++◌, length, map, drop, get_or, rules, None, sym, ap, ◌∙◌, arith}
use Rattle.std.specs.Prelude.{find}
use Rattle.std.proofs.Math.ListN.{drop_of_length-le}
use Rattle.std.proofs.lemmas.List.{map_push}
use Rattle.txn_text.specs.declared.kinds.Token.{Token}
use Rattle.txn_text.specs.Tokens.{token_bytes}
use Rattle.txn_lang.specs.Tree as lang
use Rattle.txn_lang.specs.declared.limits.TheConstants.{MOST_TIMES}
use Rattle.txn_parse.specs.declared.tree.RawExpr.{RawExpr}
use Rattle.txn_parse.specs.declared.tree.RawStmt.{RawStmt}
use Rattle.txn_parse.specs.declared.tree.RawStmt.TheFolds.{the_lemmas}
use Rattle.txn_parse.specs.declared.tree.RawStmt.TheVariants as stmt
use Rattle.txn_parse.specs.declared.tree.RawBlock.{RawBlock}
use Rattle.txn_parse.specs.Tree.{command, commands, commands_of}
use Rattle.txn_parse.specs.Binding.{Names, place, is_unknown, tables_in, tables_of, most_times_in, most_times, bound_in, bound}
use Rattle.txn_parse.proofs.NamesLemmas.{none_found, known_one, known_place}
use Rattle.txn_parse.proofs.RawTrees.{command-Read, command-Write, command-If, first_behind}
use Rattle.txn_parse.proofs.BodyLemmas.{behind, behind_end, behind_push}
use Rattle.txn_parse.proofs.bodies.+bodies.Goals as goal

-- the place of a known table
table_fits : (text : List ℕ) (tables : Names) (t : Token) (n : ℕ) → n ≡ place tables (token_bytes text t) → length tables ≤ 65536 → find (is_unknown text tables) (t ∷ []) ≡ None → n < 65536
table_fits text tables t n is few known = let less = known_place tables (token_bytes text t) (known_one text tables t known) in omega (arith, less, is, few)

pub bound_stmt-overflow_cast-table : goal.bound_stmt-overflow_cast-table
bound_stmt-overflow_cast-table t c =
    let p = is_unknown c.args.text.now c.args.tables.now in
    let known = sym (ap (λ s. find p (tables_in (command s))) c.in-Read.is ∙ ap (λ s. find p (tables_in s)) (command-Read c.in-Read.v c.in-Read.t c.in-Read.index)) ∙ c.requires.known in
    let less = table_fits c.args.text.now c.args.tables.now c.in-Read.t c.place-table.result c.place-table.ensures.value c.requires.numbered known in
    search (rules, less)

pub bound_stmt-overflow_cast-table-in-Write : goal.bound_stmt-overflow_cast-table-in-Write
bound_stmt-overflow_cast-table-in-Write t c =
    let p = is_unknown c.args.text.now c.args.tables.now in
    let known = sym (ap (λ s. find p (tables_in (command s))) c.in-Write.is ∙ ap (λ s. find p (tables_in s)) (command-Write c.in-Write.t c.in-Write.index c.in-Write.e)) ∙ c.requires.known in
    let less = table_fits c.args.text.now c.args.tables.now c.in-Write.t c.place-table-in-Write.result c.place-table-in-Write.ensures.value c.requires.numbered known in
    search (rules, less)

-- what is required of an `if` is required of its blocks
parts_of_if : (text : List ℕ) (tables : Names) (s : RawStmt) (e : RawExpr) (a b : RawBlock) → s ≡ stmt.If e a b → find (is_unknown text tables) (tables_in (command s)) ≡ None → most_times_in text (command s) ≤ MOST_TIMES →
    ((find (is_unknown text tables) (tables_of (commands a)) ≡ None) × (most_times text (commands a) ≤ MOST_TIMES)) × ((find (is_unknown text tables) (tables_of (commands b)) ≡ None) × (most_times text (commands b) ≤ MOST_TIMES))
parts_of_if text tables s e a b is known times =
    let tree = ap command is ∙ command-If e a b in
    let parts = none_found (is_unknown text tables) (tables_of (commands a)) (tables_of (commands b)) (sym (ap (λ x. find (is_unknown text tables) (tables_in x)) tree) ∙ known) in
    let same = ap (most_times_in text) tree in
    ((parts.0, omega (arith, same, times)), (parts.1, omega (arith, same, times)))

pub bound_stmt-bound_block-requires : goal.bound_stmt-bound_block-requires
bound_stmt-bound_block-requires t c =
    let parts = parts_of_if c.args.text.now c.args.tables.now c.args.stmt.now c.in-If.e c.in-If.a c.in-If.b c.in-If.is c.requires.known c.requires.times in
    (search (rules, the_lemmas), (c.requires.few, (c.requires.numbered, (parts.0.0, parts.0.1))))

pub bound_stmt-bound_block-requires-in-If : goal.bound_stmt-bound_block-requires-in-If
bound_stmt-bound_block-requires-in-If t c =
    let parts = parts_of_if c.args.text.now c.args.tables.now c.args.stmt.now c.in-If.e c.in-If.a c.in-If.b c.in-If.is c.requires.known c.requires.times in
    (search (rules, the_lemmas), (c.requires.few, (c.requires.numbered, (parts.1.0, parts.1.1))))

-- what is required of the statements behind a place is required of the first and of those behind it
parts_of_rest : (text : List ℕ) (tables : Names) (stmts : List RawStmt) (i : ℕ) (s : RawStmt) → i < length stmts → s ≡ get_or stmts i s → find (is_unknown text tables) (tables_of (commands_of (drop i stmts))) ≡ None → most_times text (commands_of (drop i stmts)) ≤ MOST_TIMES →
    ((find (is_unknown text tables) (tables_in (command s)) ≡ None) × (most_times_in text (command s) ≤ MOST_TIMES)) × ((find (is_unknown text tables) (tables_of (commands_of (drop (i + 1) stmts))) ≡ None) × (most_times text (commands_of (drop (i + 1) stmts)) ≤ MOST_TIMES))
parts_of_rest text tables stmts i s less is known times =
    let tree = first_behind stmts i s less is in
    let rest = commands_of (drop (i + 1) stmts) in
    let parts = none_found (is_unknown text tables) (tables_in (command s)) (tables_of rest) (sym (ap (λ x. find (is_unknown text tables) (tables_of x)) tree) ∙ known) in
    let same = ap (most_times text) tree in
    ((parts.0, omega (arith, same, times)), (parts.1, omega (arith, same, times)))

pub bound_block-bound_stmt-requires : goal.bound_block-bound_stmt-requires
bound_block-bound_stmt-requires t c =
    let parts = parts_of_rest c.args.text.now c.args.tables.now c.as_slice-stmt-items.result.now c.loop-stmt.stmt-index c.stmt-item.result c.loop-stmt-test.true c.stmt-item.is c.loop-stmt.invariant.known c.loop-stmt.invariant.times in
    (search (rules, the_lemmas), (c.requires.few, (c.requires.numbered, (parts.0.0, parts.0.1))))

pub bound_block-loop-stmt-preserved : goal.bound_block-loop-stmt-preserved
bound_block-loop-stmt-preserved t c =
    let text = c.args.text.now in
    let tables = c.args.tables.now in
    let names = c.args.names.now in
    let items = c.as_slice-stmt-items.result.now in
    let i = c.loop-stmt.stmt-index in
    let x = c.stmt-item.result in
    let made = map lang.command c.loop-stmt.stmts in
    let s = c.in_ok-bound_stmt.field-0 in
    let rest = commands_of (drop (i + 1) items) in
    let parts = parts_of_rest text tables items i x c.loop-stmt-test.true c.stmt-item.is c.loop-stmt.invariant.known c.loop-stmt.invariant.times in
    let pushed : map lang.command c.push.new.self ≡ made ++ lang.command s ∷ [] = ap (map lang.command) c.in_ok-push.ensures.ok ∙ map_push lang.command c.loop-stmt.stmts s in
    let one : lang.command s ≡ bound_in text tables names (command x) = c.in_ok-bound_stmt.ensures in
    record {
      made =
          ap (λ cs. behind cs (bound text tables names rest)) pushed ∙ behind_push made (lang.command s) (bound text tables names rest)
          ∙ ap (λ y. behind made (lang.Then y (bound text tables names rest))) one
          ∙ ap (λ cs. behind made (bound text tables names cs)) (sym (first_behind items i x c.loop-stmt-test.true c.stmt-item.is)) ∙ c.loop-stmt.invariant.made;
      known = parts.1.0;
      times = parts.1.1;
    }

pub bound_block-returns : goal.bound_block-returns
bound_block-returns t c =
    let made = map lang.command c.loop-stmt.stmts in
    sym (behind_end made)
    ∙ ap (λ xs. behind made (bound c.args.text.now c.args.tables.now c.args.names.now (commands_of xs))) (sym (drop_of_length-le c.as_slice-stmt-items.result.now c.loop-stmt-test.false))
    ∙ c.loop-stmt.invariant.made
