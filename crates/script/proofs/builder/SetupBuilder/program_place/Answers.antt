-- The place of a program is below the most of them.
use Rattle.std.proofs.Common.{◌<◌, sym, map, arith, rules}
use Rattle.std.proofs.lemmas.List.{length-map}
use Rattle.script.specs.Meaning.{prog_names, said_by, named_of}
use Rattle.script.proofs.BuilderLemmas.{place_within}
use Rattle.script.proofs.builder.SetupBuilder.program_place.Goals as goal

pub overflow_cast-result : goal.overflow_cast-result
overflow_cast-result c =
    let b = c.args.self.now in
    let less = place_within b.programs (prog_names (said_by b.setup)) c.token_text.result.now c.in-Some.place c.requires.programs (sym c.in-Some.ensures) in
    let named = length-map (map named_of b.setup.progs) (λ p. p.name) in
    let all = length-map b.setup.progs named_of in
    let few = c.requires.few_programs in
    let small : c.in-Some.place < 65536 = omega (arith, less, named, all, few) in
    search (rules, small)
