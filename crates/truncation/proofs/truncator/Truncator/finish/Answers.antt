-- The truncation ends as the definitions end it, where it is settled, and else goes on.
use Rattle.std.proofs.Common.{ap, sym, subst, ◌∙◌}
use Rattle.protocol.specs.Warden.Base.{base_of}
use Rattle.protocol.specs.Warden.Step.{finished}
use Rattle.truncation.specs.declared.truncation.Truncation.{Truncation as Newest}
use Rattle.truncation.specs.Truncator.{TruncatingWarden, Steps, is_settled}
use Rattle.truncation.proofs.TruncatorLemmas.{stays, goes_on, ends}
use Rattle.truncation.proofs.truncator.Truncator.finish.Goals as goal

pub returns-then-not-is_settled : goal.returns-then-not-is_settled
returns-then-not-is_settled c =
    stays finished c.args.self.now c.args.rec.now c.args.out.now c.requires (λ before u at. goes_on c.args.self.now c.args.rec.now before c.args.out.now u at
    (ap (λ (z : TruncatingWarden). is_settled z.replicas c.args.rec.now.state z.newest) (sym c.self.view_is)
    ∙ (sym c.is_settled.ensures ∙ c.if-not-is_settled.true)))

pub returns : goal.returns
returns c =
    let i = c.self.inside in let rec = c.args.rec.now in
    let with : Newest → TruncatingWarden = λ n. record { warden = i.warden; replicas = i.replicas; newest = n; begun = i.begun; broken = i.broken } in
    subst (λ (z : TruncatingWarden). Steps finished z (with c.drop_answers.new.self) rec rec c.args.out.now c.send_to_all.new.out) c.self.view_is
    (ends (with i.newest) (with c.drop_answers.new.self) rec c.args.out.now c.send_to_all.new.out c.in_ok-base.base c.requires
    (sym c.is_settled.ensures ∙ c.if-not-is_settled.false) (ap with c.drop_answers.ensures)
    (c.in_ok-base.ensures ∙ ap (base_of i.newest.w rec.state) c.as_slice.ensures) c.in_ok-send_to_all.ensures)
