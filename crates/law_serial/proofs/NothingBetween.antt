-- What was committed between a read and its reader would be in conflict with the reader.
use Rattle.std.proofs.Common.{◌≡◌, refl, sym, ◌∙◌, true, false, Bool}
use Rattle.std.specs.Prelude.{◌&&◌}
use Rattle.protocol.specs.Words.{Read, before}
use Rattle.protocol.specs.Replica.Votes.{conflicts, misses, writes_key}
use Rattle.law_serial.specs.NothingBetween.{NothingBetween}
use Rattle.protocol.proofs.TestLemmas.{true_false}
use Rattle.law_safety.proofs.BaseEntries.{both, or_left_in}
use Rattle.law_steps.proofs.VotesLemmas.{any_in}
use Rattle.law_safety.proofs.NoConflict.{no_conflict}

pub nothing_between : NothingBetween
unfolding conflicts
nothing_between p pos events x z k m r a s i b t f g = go (writes_key r.key m.writes) refl
  where
    go : (u : Bool) → writes_key r.key m.writes ≡ u → u ≡ false
    go false e = refl
    go true e = absurd (true_false (sym (or_left_in (misses x.ver k z.ver m.writes) _
        (both (before z.ver x.ver) _ g (any_in (λ (y : Read). before y.wid.ver z.ver && writes_key y.key m.writes) k.reads r i (both (before r.wid.ver z.ver) _ f e))))
        ∙ no_conflict p pos events x z k m a b s t))
