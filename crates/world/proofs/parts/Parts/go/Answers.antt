use Rattle.std.proofs.Common.{◌≡◌, ◌++◌, Some, None, sym, ap, ◌∙◌, subst}
use Rattle.std.specs.Prelude.{is_some}
use Rattle.protocol.specs.Words.{Client, Go, Picked}
use Rattle.world.specs.NodeJobs.{has_is}
use Rattle.coordinator.specs.declared.memory.Attempt.{Attempt}
use Rattle.world_rows.proofs.Enabling.{move_enabled}
use Rattle.world_rows.specs.Notes.{AreNotes, IsBegun}
use Rattle.world.proofs.Begun.{go_begins}
use Rattle.world.proofs.Happening.{has, there, move, doing, go_is, last_is, none_same, some_same}
use Rattle.world.proofs.WorldLemmas.{begun_noted, client_gone}
use Rattle.world.proofs.parts.Parts.go.Goals as goal

pub pick-requires-clause-has : goal.pick-requires-clause-has
pick-requires-clause-has c = has c.args.self.now (Picked (Client c.args.client) Go) c.requires

pub pick-requires-clause-can : goal.pick-requires-clause-can
pick-requires-clause-can c =
    let h = c.requires in
    record {
      loads = h.loads;
      world = h.world;
      stands = h.stands.nodes;
      views = h.sound.views;
      can = ap is_some (doing c.args.self.now (Picked (Client c.args.client) Go) h);
    }

pub current-requires : goal.current-requires
current-requires c =
    let h = c.requires in
    let e = Picked (Client c.args.client) Go in
    let v = move c.args.self.now e h in
    let moved = c.in_ok-pick.ensures h.loads h.world v h.stands.nodes (doing c.args.self.now e h) in
    has_is h.loads v.world c.pick.new.self (Client c.args.client) moved.stands ∙ there c.args.self.now e h

pub returns-in_default : goal.returns-in_default
returns-in_default c = λ l w v is sound e.
    let does = move_enabled l.plan w (Picked (Client c.args.client) Go) v e in
    let moved = c.in_ok-pick.ensures l w v is.nodes does in
    let goes = go_begins l.plan w c.args.client v sound.idle (sym (go_is l.plan w c.args.client) ∙ does) in
    let last = c.current.ensures l v.world moved.stands ∙ last_is (v.world.client c.args.client) goes.own.begun in
    absurd (none_same _ (sym c.in_default.is ∙ last))

pub returns : goal.returns
returns c = λ l w v is sound e.
    let does = move_enabled l.plan w (Picked (Client c.args.client) Go) v e in
    let moved = c.in_ok-pick.ensures l w v is.nodes does in
    let goes = go_begins l.plan w c.args.client v sound.idle (sym (go_is l.plan w c.args.client) ∙ does) in
    let last = c.current.ensures l v.world moved.stands ∙ last_is (v.world.client c.args.client) goes.own.begun in
    let same = some_same _ _ (sym last ∙ c.in-Some.is) in
    let noted = c.in_ok-begun.ensures.more w.mail (λ d. (w.client d).attempts) (λ d. (v.world.client d).attempts) is.notes
    (subst (λ (a : Attempt). IsBegun (record { ver = a.exec.ver; txn = a.txn; try = a.attempt }) (λ d. (w.client d).attempts) (λ d. (v.world.client d).attempts)) same
    (begun_noted l.plan w c.args.client v goes)) in
    record {
      world = client_gone l w c.args.client v c.args.self.now c.pick.new.self c.begun.new.self is goes moved.stands noted;
      sent = moved.sent ∙ ap (λ b. b ++ v.sent) c.new-sent.ensures;
    }
