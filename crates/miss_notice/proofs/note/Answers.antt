use Rattle.std.proofs.Common.{◌≡◌, ◌∙◌, Some, sym}
use Rattle.protocol.specs.Replica.Held.{latest}
use Rattle.protocol.specs.declared.Held.{Held}
use Rattle.miss_notice.proofs.note.Goals as goal

pub returns-in-None : goal.returns-in-None
returns-in-None c = λ firsts h h' number s told above. absurd (cc (told, c.in-None.is))

pub returns-in-Some : goal.returns-in-Some
returns-in-Some c = λ firsts h h' number s told above.
    c.changed.ensures firsts h h' number s (same c.in-Some.told (latest firsts h c.args.reader.key c.args.reader.ver) (sym c.in-Some.is ∙ told)) above
  where
    same : (a b : Held) → Some a ≡ Some b → a ≡ b
    same a b e = cc
