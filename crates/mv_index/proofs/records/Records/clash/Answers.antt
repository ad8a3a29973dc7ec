use Rattle.std.proofs.Common.{true, false, refl}
use Rattle.mv_index.specs.ContentTable.{content_at}
use Rattle.mv_index.specs.Clash.{at_version}
use Rattle.mv_index.specs.declared.clash.Clash.TheVariants.{Voted, Clear}
use Rattle.mv_index.proofs.Clashes.{vote_clash, clash_committed, clash_voted}
use Rattle.mv_index.proofs.records.Records.clash.Goals as goal

pub returns-then-conflicts : goal.returns-then-conflicts
returns-then-conflicts c = λ firsts h s. clash_committed h c.args.ver c.args.content.now _ (c.conflicts.ensures firsts h s.holdings) c.if-conflicts.true

pub returns-then-conflicts-2 : goal.returns-then-conflicts-2
returns-then-conflicts-2 c = λ firsts h s.
    clash_voted h c.args.ver c.args.content.now _ _ true Voted (c.conflicts.ensures firsts h s.holdings) c.if-conflicts.false (vote_clash h
    (content_at c.args.self.now.voted) (at_version c.args.ver) c.args.content.now _ s.voted (c.conflicts-2.ensures s.voted_indexed)) c.if-conflicts-2.true refl

pub returns : goal.returns
returns c = λ firsts h s.
    clash_voted h c.args.ver c.args.content.now _ _ false Clear (c.conflicts.ensures firsts h s.holdings) c.if-conflicts.false (vote_clash h
    (content_at c.args.self.now.voted) (at_version c.args.ver) c.args.content.now _ s.voted (c.conflicts-2.ensures s.voted_indexed)) c.if-conflicts-2.false refl
