use Rattle.std.proofs.Common.{◌∙◌, ◌∷◌, [], ap, sym, subst, refl, cond, map, true, false}
use Rattle.std.specs.Prelude.{not}
use Rattle.protocol.specs.Words.{before, Replica, Get, TooOld}
use Rattle.protocol.specs.Replica.Held.{latest}
use Rattle.protocol.specs.Replica.Says.{answer, refusal, note_of}
use Rattle.mv_index.specs.ReaderList.{told_at}
use Rattle.mv_index.proofs.Unchanged.{seen_same}
use Rattle.mv_index.specs.Records.{StandsFor}
use Rattle.mv_index.proofs.Reading.{read_told}
use Rattle.mv_index.proofs.Unseen.{get_holds}
use Rattle.mv_index.proofs.Taken.{taken, not_taken, takes_by_version}
use Rattle.mv_index.proofs.VotesSame.{after_body}
use Rattle.read_path.proofs.on_get.Goals as goal

pub returns-then-not-is_before-clause-answers : goal.returns-then-not-is_before-clause-answers
returns-then-not-is_before-clause-answers c = λ firsts h s d.
    let b = Get c.args.exec c.args.key in
    let refused = takes_by_version h b false (ap (λ w. before w c.args.exec.ver) (sym d) ∙ (sym c.is_before.ensures ∙ c.if-not-is_before.true)) refl in
    ap (λ w. TooOld c.args.exec.ver w ∷ []) d ∙ sym (ap (λ t. cond t (answer firsts h b) (refusal h b)) refused)

pub returns-then-not-is_before-clause-too_old : goal.returns-then-not-is_before-clause-too_old
returns-then-not-is_before-clause-too_old c = λ firsts h s d.
    sym (ap not (takes_by_version h (Get c.args.exec c.args.key) false (ap (λ w. before w c.args.exec.ver) (sym d)
    ∙ (sym c.is_before.ensures ∙ c.if-not-is_before.true)) refl))

pub returns-then-not-is_before-clause-stands : goal.returns-then-not-is_before-clause-stands
returns-then-not-is_before-clause-stands c = λ firsts h from to s d.
    subst (λ g. StandsFor firsts g c.args.rec.now) (not_taken h (record { from = from; to = to; body = Get c.args.exec c.args.key })
    (takes_by_version h (Get c.args.exec c.args.key) false (ap (λ w. before w c.args.exec.ver) (sym d)
    ∙ (sym c.is_before.ensures ∙ c.if-not-is_before.true)) refl)) s

pub returns-clause-answers : goal.returns-clause-answers
unfolding answer
returns-clause-answers c = λ firsts h s d.
    let x = c.args.exec in
    let k = c.args.key in
    let b = Get x k in
    let above = ap (λ w. before w x.ver) (sym d) ∙ (sym c.is_before.ensures ∙ c.if-not-is_before.false) in
    let h' = after_body h (Replica 0) (Replica 0) b in
    let seen = c.latest_below-seen.ensures firsts h' (c.in_ok-read_by.ensures.ok firsts h (Replica 0) (Replica 0) x.eid s above)
    ∙ seen_same firsts h h' (get_holds h (Replica 0) (Replica 0) x k) k x.ver in
    ap (λ n. n ∷ []) c.read_note.ensures
    ∙ (ap (λ a. note_of x.ver k a ∷ []) seen
    ∙ sym (ap (λ t. cond t (note_of x.ver k (latest firsts h k x.ver) ∷ []) (refusal h b)) (takes_by_version h b true above refl)))

pub returns-clause-too_old : goal.returns-clause-too_old
returns-clause-too_old c = λ firsts h s d. sym (ap not (takes_by_version h (Get c.args.exec c.args.key) true (ap (λ w. before w c.args.exec.ver) (sym d)
    ∙ (sym c.is_before.ensures ∙ c.if-not-is_before.false)) refl))

pub returns-clause-stands : goal.returns-clause-stands
returns-clause-stands c = λ firsts h from to s d.
    let x = c.args.exec in
    let b = Get x c.args.key in
    let above = ap (λ w. before w x.ver) (sym d) ∙ (sym c.is_before.ensures ∙ c.if-not-is_before.false) in
    subst (λ g. StandsFor firsts g c.mark.new.self) (taken h (record { from = from; to = to; body = b }) (takes_by_version h b true above refl))
    (c.mark.ensures.stands firsts (after_body h from to b) (c.in_ok-read_by.ensures.ok firsts h from to x.eid s above))

pub returns-clause-told : goal.returns-clause-told
returns-clause-told c = λ firsts h s t d.
    let x = c.args.exec in
    let k = c.args.key in
    let above = ap (λ w. before w x.ver) (sym d) ∙ (sym c.is_before.ensures ∙ c.if-not-is_before.false) in
    let h' = after_body h (Replica 0) (Replica 0) (Get x k) in
    let s' = c.in_ok-read_by.ensures.ok firsts h (Replica 0) (Replica 0) x.eid s above in
    let seen = c.latest_below-seen.ensures firsts h' s' ∙ seen_same firsts h h' (get_holds h (Replica 0) (Replica 0) x k) k x.ver in
    record {
      each = read_told firsts h k x.ver c.latest_below-seen.result c.args.rec.now.readers.readers.items c.mark.new.self.readers.readers.items
          (c.mark.ensures.mark firsts h' s' ∙ ap (map (told_at k x.ver c.latest_below-seen.result)) (c.in_ok-read_by.ensures.readers firsts h s)) seen t.each;
    }
