-- The place of a table is below the most of them.
use Rattle.std.proofs.Common.{◌<◌, sym, arith, rules}
use Rattle.script.proofs.BuilderLemmas.{place_within}
use Rattle.script.proofs.builder.SetupBuilder.table_place.Goals as goal

pub overflow_cast-result : goal.overflow_cast-result
overflow_cast-result c =
    let b = c.args.self.now in
    let less = place_within b.tables b.setup.tables c.token_text.result.now c.in-Some.place c.requires.tables (sym c.in-Some.ensures) in
    let few = c.requires.few_tables in
    let small : c.in-Some.place < 65536 = omega (arith, less, few) in
    search (rules, small)
