use Rattle.std.proofs.Common.{◌≡◌, ℕ, ◌-◌, [], reverse, map, Some, refl, ap, subst, sym, ◌∙◌, arith}
use Rattle.net_core.specs.Machine.{History}
use Rattle.net_core.specs.Marks.{end_of}
use Rattle.net_core.specs.Rounds.{InRounds}
use Rattle.hub.specs.Kept.{picks_in, rans_in}
use Rattle.hub.specs.Views.{history}
use Rattle.runner.specs.WholeRun.{start_of}
use Rattle.runner.proofs.fresh.run_named.Goals as goal

-- nothing was counted before the first event
grew : (f : History → ℕ) (n : ℕ) (old new last : History) → n ≡ f new - f old → new ≡ last → old ≡ [] → f [] ≡ 0 → n ≡ f last
grew f n old new last is same none zero =
    let first : f old ≡ 0 = ap f none ∙ zero in
    let all : f new ≡ f last = ap f same in
    omega arith

pub returns : goal.returns
returns g c =
    let s = start_of c.args.origin.now c.args.turns (map g.L.Link.state_of c.args.links.items) in
    let m = g.M.Machine.rules c.args.origin.now in
    let out = c.in_ok-out.out in
    let old = history c.in_ok-hub.hub in
    let new = history c.run_one.new.hub in
    let last = reverse c.into_parts-machine.result.1.items in
    let same : new ≡ last = ap reverse (sym c.into_parts-machine.ensures.journal) in
    let none : old ≡ [] = ap history c.in_ok-hub.ensures in
    record {
      run = c.into_parts-machine.ensures.run c.in_ok-out.ensures.whole s c.requires.start;
      end = subst (λ (h : History). end_of m c.args.turns h ≡ Some out.ended) same (c.in_ok-out.ensures.end s c.requires.start);
      rounds =
          subst (λ (h : History). InRounds m c.args.turns h) same
          (c.in_ok-out.ensures.rounds s c.requires.start (ap (λ v. v.journal) c.in_ok-hub.ensures) (ap (λ v. v.ended) c.in_ok-hub.ensures));
      turns = grew picks_in out.turns old new last c.in_ok-out.ensures.turns same none refl;
      rans = grew (rans_in m) out.rans old new last (c.in_ok-out.ensures.rans s c.requires.start) same none refl;
    }
