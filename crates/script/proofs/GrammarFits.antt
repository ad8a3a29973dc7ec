-- The next token decides what is read of a script.
use Rattle.std.proofs.Common.{◌≡◌, true, refl}
use Rattle.script.specs.Grammar.{token, version, number_setting, policy_setting, setting, signed, table, first, store, program, txn, txns, client, seeded, net, node, version_name, named_pick, pick, at_item, entry, list_item, plan, end_item, script}
use Rattle.script.specs.Fits.{fits}

pub script_fits : fits script ≡ true
unfolding token version number_setting policy_setting setting signed table first store program txn txns client seeded net node version_name named_pick pick at_item entry list_item plan end_item script
script_fits = refl
