-- A first value of a key that has none.
use Rattle.std.proofs.Common.{◌≡◌, ◌∷◌, [], ◌∙◌, rules, w64, to_z, of_z}
use Rattle.std.proofs.lemmas.Result.{err_from_is_err_and}
use Rattle.txn_text.specs.Tokens.{token_bytes}
use Rattle.txn_text.specs.declared.faults.FaultKind.TheVariants.{UnknownTable, RepeatedFirst}
use Rattle.txn_parse.specs.Binding.{is_unknown, place}
use Rattle.script.specs.Meaning.{signed}
use Rattle.script.specs.Checks.{check, has_first}
use Rattle.script.proofs.BuilderLemmas.{behind_passed, with_first, key_fault}
use Rattle.script.proofs.builder.SetupBuilder.first.Goals as goal

pub returns-in_err-add_key-clause-fault : goal.returns-in_err-add_key-clause-fault
returns-in_err-add_key-clause-fault c =
    let p = err_from_is_err_and c.from_residual-in_err-add_key.result c.from_residual-in_err-add_key.ensures.1 in
    let s = c.args.self.now.setup in
    let f = c.in_err-add_key.field-0.0 in
    let table_check = check (is_unknown c.args.text.now s.tables c.args.table) c.args.table UnknownTable ∷ [] in
    let same : to_z w64 (of_z w64 c.signed.result) ≡ c.signed.result = search rules in
    rw (p.1, p.2) (behind_passed (Unit {0}) (Unit {0}) table_check (check (has_first (record { table = place s.tables (token_bytes c.args.text.now c.args.table); index = signed c.args.text.now c.args.index }) s.firsts) c.args.word RepeatedFirst ∷ []) f c.in_ok-table.ensures.fault
    (key_fault s.firsts c.args.word f c.in_ok-table.table (place s.tables (token_bytes c.args.text.now c.args.table)) (to_z w64 (of_z w64 c.signed.result)) (signed c.args.text.now c.args.index) c.in_ok-table.ensures.place (same ∙ c.signed.ensures) c.in_err-add_key.ensures.fault))

pub returns-clause-indexed : goal.returns-clause-indexed
returns-clause-indexed c =
    let e = c.add_key.ensures in
    with_first c.args.self.now c.add_key.new.self c.push.new.self _ c.requires e.tables e.programs e.setup c.in_ok-push.ensures.ok c.in_ok-add_key.ensures.keys
