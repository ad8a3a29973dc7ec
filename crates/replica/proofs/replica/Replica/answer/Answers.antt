use Rattle.std.proofs.Common.{◌∙◌, ◌++◌, ◌∷◌, ap, sym, subst}
use Rattle.std.specs.Prelude.{map}
use Rattle.std.specs.Option.{option_to_list}
use Rattle.protocol.specs.Replica.Readers.{envelope_from, due}
use Rattle.protocol.specs.Replica.Says.{answer}
use Rattle.mv_index.proofs.Taken.{taken, not_taken}
use Rattle.replica.specs.Replica.{Keeps}
use Rattle.replica.proofs.ReplicaTurns.{says_taken, says_untaken}
use Rattle.replica.proofs.replica.Replica.answer.Goals as goal

pub returns-then-not-takes-clause-says : goal.returns-then-not-takes-clause-says
returns-then-not-takes-clause-says c = λ firsts number h k.
    let m = c.args.env.now in
    let untaken = sym (c.takes.ensures firsts number h h k) ∙ c.if-not-takes.true in
    c.in_ok-send_answer.ensures
    ∙ (ap (λ o. o ++ map (envelope_from c.args.self.now.number m.from) (option_to_list c.refuse.result)) c.new-out.ensures
    ∙ (ap (λ n. map (envelope_from n m.from) (option_to_list c.refuse.result)) k.number_is
    ∙ (ap (map (envelope_from number m.from)) (c.refuse.ensures firsts number h h k)
    ∙ says_untaken firsts number h m untaken)))

pub returns-then-not-takes-clause-stands : goal.returns-then-not-takes-clause-stands
returns-then-not-takes-clause-stands c = λ firsts number h k.
    subst (λ g. Keeps firsts number g g c.args.self.now) (not_taken h c.args.env.now (sym (c.takes.ensures firsts number h h k) ∙ c.if-not-takes.true)) k

pub returns-clause-says : goal.returns-clause-says
returns-clause-says c = λ firsts number h k.
    let m = c.args.env.now in
    let is_taken = sym (c.takes.ensures firsts number h h k) ∙ c.if-not-takes.false in
    let after = c.in_ok-answer.ensures.stands firsts number h m.from m.to k is_taken in
    let notes = due firsts number h (m ∷ h) in
    c.in_ok-send_due_notes.ensures.due firsts number h m after
    ∙ (ap (λ l. l ++ notes) (c.in_ok-send_answer-2.ensures
    ∙ (ap (λ o. o ++ map (envelope_from c.follow.new.self.number m.from) (option_to_list c.in_ok-answer.answer)) c.new-out.ensures
    ∙ (ap (λ n. map (envelope_from n m.from) (option_to_list c.in_ok-answer.answer)) after.number_is
    ∙ ap (map (envelope_from number m.from)) (c.in_ok-answer.ensures.answers firsts number h k is_taken))))
    ∙ says_taken firsts number h m is_taken)

pub returns-clause-stands : goal.returns-clause-stands
returns-clause-stands c = λ firsts number h k.
    let m = c.args.env.now in
    let is_taken = sym (c.takes.ensures firsts number h h k) ∙ c.if-not-takes.false in
    subst (λ g. Keeps firsts number g g c.send_due_notes.new.self) (taken h m is_taken)
    (c.in_ok-send_due_notes.ensures.told firsts number h m (c.in_ok-answer.ensures.stands firsts number h m.from m.to k is_taken))
