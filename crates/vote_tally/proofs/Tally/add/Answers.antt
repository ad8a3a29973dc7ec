-- A first vote has room, its tally stays one of first votes, and Wait is answered where nothing is called for.
use Rattle.std.proofs.Common.{◌≡◌, ◌<◌, ◌≤◌, inl, inr, false, sym, ap, ◌∙◌, length, arith, lit<}
use Rattle.protocol.specs.Client.Counting.{tally_says}
use Rattle.vote_tally.specs.Tally.{Counted, has_voted}
use Rattle.vote_tally.proofs.TallyLemmas.{first_more, room_left}
use Rattle.vote_tally.proofs.CountingLemmas.{nothing_called_for, nothing_said}
use Rattle.vote_tally.proofs.Tally.add.Goals as goal

pub push-requires : goal.push-requires
push-requires c =
    let t : Counted = record { replicas = c.self.inside.replicas; votes = c.self.inside.votes.items } in
    let view : t ≡ c.args.self.now = c.self.view_is in
    let new : has_voted c.args.replica t ≡ false = ap (has_voted c.args.replica) view ∙ sym c.has_voted.ensures ∙ c.if-has_voted.false in
    let high : c.args.replica ≤ t.replicas = omega (arith, ap (λ (v : Counted). v.replicas) view, c.requires.up_to_replicas) in
    let room : length t.votes < t.replicas = room_left t c.args.replica c.args.vote c.requires.from_one high new c.self.invariant.1 in
    let few : t.replicas ≤ 5 = c.self.invariant.0 in
    (lit< tt, omega arith)

pub invariant_of-self : goal.invariant_of-self
invariant_of-self c =
    let t : Counted = record { replicas = c.self.inside.replicas; votes = c.self.inside.votes.items } in
    let view : t ≡ c.args.self.now = c.self.view_is in
    let new : has_voted c.args.replica t ≡ false = ap (has_voted c.args.replica) view ∙ sym c.has_voted.ensures ∙ c.if-has_voted.false in
    let high : c.args.replica ≤ t.replicas = omega (arith, ap (λ (v : Counted). v.replicas) view, c.requires.up_to_replicas) in
    (c.self.invariant.0, rw c.push.ensures.items (first_more t c.args.replica c.args.vote c.requires.from_one high new c.self.invariant.1))

pub returns-clause-wait : goal.returns-clause-wait
returns-clause-wait c =
    let more : Counted = record { replicas = c.self.inside.replicas; votes = c.push.new.self.items } in
    let slice : c.deref.result.now ≡ more.votes = c.deref.ensures.0 in
    let said : c.called_for.result ≡ tally_says more.replicas more.votes = rw slice at c.called_for.ensures in
    let unheard : has_voted c.args.replica c.args.self.now ≡ false = sym c.has_voted.ensures ∙ c.if-has_voted.false in
    (λ w. inr (nothing_called_for more (sym said ∙ w)), λ h. said ∙ elim h [ inl voted ↦ absurd (cc (unheard, voted)) | inr none ↦ nothing_said more none ])
