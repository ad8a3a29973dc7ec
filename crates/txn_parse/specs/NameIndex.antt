-- An index of names: where each stands in a list.
use Rattle.std.specs.Prelude.{◌≡◌, ℕ, List, Option, Some, None, if◌then◌else◌}
use Rattle.std.specs.Ordering.{nat_cmp}
use Rattle.std.specs.Cmp.Lexicographic.{slice_cmp}
use Rattle.std.specs.BTreeMap.{get_by}
use Rattle.txn_parse.specs.declared.name_index.NameIndex.{NameIndex}
use Rattle.txn_parse.specs.Binding.{Names, is_known, place}

-- the place of a name, where it is one of these
abbrev pub place_of : Names → List ℕ → Option ℕ
place_of names name = if is_known names name then Some (place names name) else None

-- what an index has for a name
abbrev pub place_in : NameIndex → List ℕ → Option ℕ
place_in index name = get_by (λ k. slice_cmp nat_cmp name k.items) index.places

-- it has the places of these names
pub record IsIndexOf (index : NameIndex) (names : Names) : Type 0 where
  pub places : (name : List ℕ) → place_in index name ≡ place_of names name
