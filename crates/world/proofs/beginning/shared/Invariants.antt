-- So many codes are shared.
use Rattle.std.proofs.Common.{◌≡◌, take}
use Rattle.world.proofs.beginning.shared.Given as goal

abbrev pub invariant-loop-code : goal.invariant-loop-code
invariant-loop-code l = l.codes ≡ take l.code-index l.code-items
