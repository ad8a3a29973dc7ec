use Rattle.std.proofs.Common.{◌≡◌, reverse}
use Rattle.std.specs.Prelude.{find}
use Rattle.recovery.specs.Rounds.{place_of, is_view_at}
use Rattle.recovery.proofs.rounds.Rounds.place.Given as goal

-- the places that are left find what all of them do
abbrev pub invariant-loop-place : goal.invariant-loop-place
invariant-loop-place l = find (is_view_at l.fn.view (reverse l.fn.self)) (reverse l.place-iterator.iter.rest.now) ≡ place_of l.fn.exec l.fn.view l.fn.self
