-- A Fenced that counts is taken as the definitions take it.
use Rattle.std.proofs.Common.{ap, subst, ◌∙◌}
use Rattle.std.proofs.lemmas.Result.{on_ok_weaker}
use Rattle.protocol.specs.Warden.State.{still}
use Rattle.protocol.specs.Warden.Truncation.{recover_all, take_fenced}
use Rattle.recovery.specs.Recoverer.{Does}
use Rattle.truncation.specs.declared.truncation.Truncation.{Truncation as Newest}
use Rattle.truncation.specs.Truncator.{TruncatingWarden, Steps, is_counted}
use Rattle.truncation.proofs.TruncatorLemmas.{takes}
use Rattle.truncation.proofs.truncator.Truncator.take_fenced.Goals as goal

pub returns : goal.returns
returns c = on_ok_weaker c.recover_named.result (λ does.
    let i = c.self.inside in let rec = c.args.rec.now in let rec' = c.recover_named.new.rec in let out = c.args.out.now in let out' = c.recover_named.new.out in
    let with : Newest → TruncatingWarden = λ n. record { warden = i.warden; replicas = i.replicas; newest = n; begun = i.begun; broken = i.broken } in
    subst (λ (z : TruncatingWarden). Steps (λ rules u. take_fenced rules u c.args.w c.args.answer u.state.truncations) z
    (with c.add.new.self) rec rec' out out') c.self.view_is
    (takes (with i.newest) (with c.add.new.self) rec rec' out out' c.args.w c.args.answer
    (ap (λ (z : TruncatingWarden). is_counted z.replicas z.newest c.args.w c.args.answer.replica) c.self.view_is ∙ c.requires.counts)
    (ap with c.in_ok-add.ensures)
    (subst (λ l. Does (recover_all rec.rules (still rec.state) l) rec rec' out out') c.as_slice.ensures does))) c.recover_named.ensures
