-- The proposals of one view carry one choice, and what a quorum accepted, those of higher views carry.
use Rattle.std.proofs.Common.{sym}
use Rattle.law_steps.proofs.AlwaysLemmas.{always}
use Rattle.law_safety.specs.Invariants.{Views, ViewsOf}
use Rattle.law_safety.proofs.OneProposal.{one_view}
use Rattle.law_safety.proofs.LocksLemmas.{carried}
use Rattle.law_safety.proofs.InvariantHolds.{safe_reach}

pub views : Views
views = always ViewsOf (λ p some w q. record {
  one = λ x v d c o u s t. (one_view p w q s.envelope t.envelope x v d c o u s.there t.there s.body t.body).0;
  carried = λ x u v d c o a t l. sym (carried p w (safe_reach p some w q).proposals x v u d c o a t l);
})
