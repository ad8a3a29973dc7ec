-- One more name in an index.
use Rattle.std.proofs.Common.{◌≡◌, ◌++◌, ◌∷◌, [], false, length, subst}
use Rattle.txn_parse.specs.Binding.{Names, is_known}
use Rattle.txn_parse.specs.NameIndex.{IsIndexOf}
use Rattle.txn_parse.proofs.NameIndexLemmas.{index_grows}
use Rattle.txn_parse.proofs.name_index.NameIndex.add.Goals as goal

pub returns : goal.returns
returns c = subst (λ name. (names : Names) → IsIndexOf c.args.self.now names → is_known names name ≡ false → c.args.place ≡ length names → IsIndexOf (record { places = c.insert.new.self }) (names ++ name ∷ []))
    c.in_ok-from_slice.ensures.items
    (λ names stands new is. index_grows c.args.self.now (record { places = c.insert.new.self }) names c.in_ok-from_slice.field-0 c.args.place c.in_ok-insert.ensures.updates stands new is)
