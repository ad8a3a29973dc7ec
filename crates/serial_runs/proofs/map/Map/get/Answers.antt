use Rattle.std.proofs.Common.{◌∙◌, ap, unwrap_or, pos, w64}
use Rattle.std.proofs.lemmas.Int.{to_z-of_z}
use Rattle.txn_lang.specs.Keys.{found}
use Rattle.serial_runs.proofs.MapLemmas.{lookup_is_found}
use Rattle.serial_runs.proofs.map.Map.get.Goals as goal

pub returns : goal.returns
returns c =
    to_z-of_z w64 c.unwrap_or.result (record { sfits = c.unwrap_or.type_inv })
    ∙ c.unwrap_or.ensures
    ∙ ap (λ o. unwrap_or o (pos 0))
    (c.copied.ensures ∙ c.get.ensures.value ∙ lookup_is_found c.self.inside.values.entries c.args.key ∙ ap (λ es. found es c.args.key) c.self.view_is)
