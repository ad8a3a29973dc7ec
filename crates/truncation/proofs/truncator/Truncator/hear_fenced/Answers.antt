-- A Fenced that does not count changes nothing.
use Rattle.std.proofs.Common.{ap, sym, ◌∙◌}
use Rattle.protocol.specs.Words.{Fenced}
use Rattle.protocol.specs.Client.Counting.{sender}
use Rattle.protocol.specs.Warden.Step.{fenced_from}
use Rattle.truncation.specs.Truncator.{TruncatingWarden, is_counted}
use Rattle.truncation.proofs.TruncatorLemmas.{stays, ignored}
use Rattle.truncation.proofs.truncator.Truncator.hear_fenced.Goals as goal

pub returns-then-not-counts : goal.returns-then-not-counts
returns-then-not-counts c =
    let t = c.args.self.now in let rec = c.args.rec.now in let from = c.args.env.now.from in
    let fenced = Fenced c.in-Fenced.w c.in-Fenced.base c.in-Fenced.committed c.in-Fenced.voted in
    stays (λ rules u. fenced_from rules u (sender rules.replicas from) c.args.env.now.body) t rec c.args.out.now c.requires (λ before u at.
    ap (λ b. fenced_from rec.rules u (sender rec.rules.replicas from) b) c.in-Fenced.is
    ∙ (ap (λ o. fenced_from rec.rules u o fenced)
    (ap (λ n. sender n from) (sym at.stands.replicas)
    ∙ (ap (λ (z : TruncatingWarden). sender z.replicas from) (sym c.self.view_is) ∙ (sym c.sender.ensures ∙ c.in-Some.is)))
    ∙ ignored t rec before c.args.out.now u c.in-Fenced.w
    (record { replica = c.in-Some.replica; base = c.in-Fenced.base; committed = c.in-Fenced.committed; voted = c.in-Fenced.voted }) at
    (ap (λ (z : TruncatingWarden). is_counted z.replicas z.newest c.in-Fenced.w c.in-Some.replica) (sym c.self.view_is)
    ∙ (sym c.counts.ensures ∙ c.if-not-counts.true))))
