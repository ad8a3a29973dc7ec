-- One client's executions are in order.
use Rattle.std.proofs.Common.{◌≡◌, ◌⊎◌, arith}
use Rattle.protocol.specs.Words.{Exec}
use Rattle.law_steps.specs.Executions.{IsEarlier}

pub earlier_itself : (x : Exec) → IsEarlier x x → ⊥
earlier_itself x e = grind arith

pub earlier_trans : (x y z : Exec) → IsEarlier x y → IsEarlier y z → IsEarlier x z
earlier_trans x y z p q = grind arith

pub exec_order : (x y : Exec) → x.ver.client ≡ y.ver.client → IsEarlier x y ⊎ ((x ≡ y) ⊎ IsEarlier y x)
exec_order x y e = grind arith
