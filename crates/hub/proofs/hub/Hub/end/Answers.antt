use Rattle.std.proofs.Common.{◌≡◌, ◌∙◌, ap, None, Some, Option, false}
use Rattle.morty_base.specs.declared.names.Ended.{Ended}
use Rattle.hub.proofs.hub.Hub.end.Goals as goal

pub invariant_of-self : goal.invariant_of-self
invariant_of-self g c =
    let whole : c.self.inside.broken ≡ false = ap (λ v. v.broken) c.self.view_is ∙ c.requires.whole in
    let running = rw (← c.self.view_is) at c.requires.running in
    let end = rw (← c.self.view_is) at c.requires.end in (
      c.self.invariant.0,
      c.self.invariant.1,
      λ s is. record {
        used_are = (c.self.invariant.2 s is).used_are;
        ends = λ e same. end s is ((c.self.invariant.3 whole s is).not_full (running s is)) ∙ same;
      },
      λ still s is.
          let kept = c.self.invariant.3 still s is in
          record {
            run = kept.run;
            turns_are = kept.turns_are;
            marks_are = kept.marks_are;
            made_are = kept.made_are;
            not_full = λ none. absurd (let t : ◌≡◌ {A = Option Ended} (Some c.args.ended) None = none in cc);
          },
      c.self.invariant.4,
      c.self.invariant.5,
      c.self.invariant.6,
    )
