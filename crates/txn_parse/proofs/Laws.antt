-- The laws of the reading of whole blocks.
use Rattle.std.proofs.Common.{[], Ok, Err, sym, ap, ◌∙◌}
use Rattle.txn_parse.specs.Tree.{Commands, End}
use Rattle.txn_parse.specs.Reading.{Found}
use Rattle.txn_parse.specs.Laws.{FoundIsDerived, DerivedIsFound, HasOneTree, FaultIsFirst}
use Rattle.txn_parse.proofs.LimitsLemmas.{free_block}
use Rattle.txn_parse.proofs.FreeBlocks.{free_found, free_first_bad, reads_free}

pub found_is_derived : FoundIsDerived
found_is_derived last ls b rest is = let one = free_found last ls b rest is in (one.front, one.split, one.derived)

pub derived_is_found : DerivedIsFound
derived_is_found last front rest b d = reads_free last front rest b d

tree_of : Found Commands → Commands
tree_of (Ok r) = r.0
tree_of (Err f) = End

pub has_one_tree : HasOneTree
unfolding tree_of
has_one_tree lim lim' ls b b' d d' = ap tree_of (sym (reads_free 0 ls [] b (free_block d)) ∙ reads_free 0 ls [] b' (free_block d'))

pub fault_is_first : FaultIsFirst
fault_is_first last ls f is = free_first_bad last ls f is
