use Rattle.std.proofs.Common.{◌∙◌, ap, rules}
use Rattle.std.specs.Prelude.{◌==◌, ℕ, not, filter}
use Rattle.std.proofs.lemmas.Fn.{filter_same}
use Rattle.links.proofs.LateLemmas.{dropped}
use Rattle.links.proofs.drawing.drop_choice.Goals as goal

pub returns : goal.returns
returns c = λ late fresh same.
    let stays = λ (i : ℕ). not (i == c.args.place) in
    filter_same _ stays _ (λ x b f h. search rules) _ _ c.retain.ensures.filtered ∙ ap (filter stays) same ∙ dropped late c.args.place fresh
