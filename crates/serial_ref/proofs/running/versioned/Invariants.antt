-- The items so far have their programs.
use Rattle.std.proofs.Common.{◌≡◌, map, take}
use Rattle.serial_rows.specs.Rows.{item_of}
use Rattle.serial_ref.specs.Serial.{items_of}
use Rattle.serial_ref.proofs.running.versioned.Given as goal

abbrev pub invariant-loop-item : goal.invariant-loop-item
invariant-loop-item l = map item_of l.versioned ≡ items_of l.setup (take l.item-index l.items)
