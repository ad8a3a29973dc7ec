-- A new count: nothing is stored, and its number is picked as 0.
use Rattle.std.proofs.Common.{[], ◌∷◌, refl}
use Rattle.std.proofs.raw_atomic.Walks.{proved}
use contract.Running.{tables}
use types.Kit.{raw, ◌$◌, ◌∵◌, !, qed, keep, fjoin, suffices, done}
use types.Run.{enter, no_more, returns}
use types.ByLocal.{alloc_all, pass_all, free_all, look_at, sets}
use types.Part.{agg}
use denote.Steps.{nothing}
use denote.Triple.Entry.{on_entry}
use denote.Triple.Walked.{Stays, walk_of, ends_at, says}
use Rattle.morty_base.proofs.Unstored.{unstored, holds_nothing}
use Rattle.morty_base.specs.contracts.steps.Count.zero as f
use Rattle.morty_base.proofs.steps.Count.zero.Statement.{statement}
use Rattle.morty_base.proofs.steps.Count.zero.Code as code

abbrev stayed : Stays f.ended.signature.params f.ended.kept
stayed = tt

pub zero_spec : {M : Type 1} → statement M
zero_spec 𝓤 𝓛 𝓜 𝓡 wired =
    let c = f.clauses 𝓛 𝓜.mem 𝓡.returns in let W = walk_of 𝓛 f.ended stayed c in let 𝓣 = tables 𝓤 𝓛.H 𝓜 𝓡 𝓡.env in
    proved 𝓛 f.ended stayed c 𝓜 𝓡 tt f.Key.name code.function (code.unfolded 𝓤 𝓛.H 𝓜 𝓡 wired)
    (λ κs. tt) (λ κs. tt) (λ κs qs bounds a none are.
    let y : W.Ghost = ((κs, qs, bounds, a, tt), none) in
    qed 𝓛 (raw (on_entry 𝓛 f.signature κs qs a tt) ∷ raw ((c κs a).requires none) ∷ []) ∵ keep ! [] $
    enter ! 𝓣.C 𝓣.Λ code.function [] _ $ alloc_all ! (λ l. pass_all ! refl tt $
    sets ! (agg ! (no_more !)) refl (tt, tt) $ returns ! (look_at ! 0 refl) $ free_all ! refl $
    suffices ! _ (ends_at 𝓛 f.ended stayed c y unstored (record { number = 0 }) tt tt) $ says ! refl $
    nothing ! $ holds_nothing ! $ fjoin ! $ nothing ! $ nothing ! $ done !))
