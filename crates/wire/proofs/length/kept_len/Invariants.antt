-- The length of the count and of the entries so far.
use Rattle.std.proofs.Common.{◌≡◌, ◌+◌, ◌*◌, ◌≤◌, length, take, None}
use Rattle.std.specs.List.{flat_map}
use Rattle.wire.specs.Values.{kept_entry}
use Rattle.wire.specs.Lengths.{most_content}
use Rattle.wire.proofs.length.kept_len.Given as goal

abbrev pub invariant-loop-entry : goal.invariant-loop-entry
invariant-loop-entry l = record {
  value : l.len ≡ 4 + length (flat_map (kept_entry None).frame (take l.entry-index l.entries));
  small : l.len ≤ 4 + l.entry-index * (16 + most_content);
}
