use Rattle.std.proofs.Common.{◌≡◌, ◌∷◌, ◌++◌, [], length, Some, ap, sym, ◌∙◌, w64, to_z, of_z, rules}
use Rattle.continuation.specs.declared.segment.Next.TheVariants as next
use Rattle.exec_log.specs.declared.read.Place.{Place}
use Rattle.exec_log.specs.Log.{Log, answers_of, labelled_read}
use Rattle.exec_log.proofs.Rewinding.{answers_then, stands_answered, answered_job}
use Rattle.exec_log.proofs.log.ExecLog.answer.Goals as goal

pub returns-clause-stands : goal.returns-clause-stands
returns-clause-stands c = λ code p s.
    let l = c.args.self.now in
    let key = c.in-Some-Asks.key in
    let cont = c.in-Some-Asks.cont in
    let r = labelled_read key c.args.wid (to_z w64 (of_z w64 c.args.value)) c.args.sure in
    let m : Place = record { cont = cont; wrote = c.len-wrote.result; printed = c.len-printed.result } in
    let taken : c.self.inside.next ≡ Some (next.Asks key cont) = cc (c.take.ensures.value) in
    let asks : l.next ≡ Some (next.Asks key cont) = sym (ap (λ (x : Log). x.next) c.self.view_is) ∙ taken in
    let wrote : c.len-wrote.result ≡ length c.self.inside.writes.items = search rules in
    let printed : c.len-printed.result ≡ length c.self.inside.out.items = search rules in
    stands_answered code p l _ r m s asks
    (wrote ∙ ap (λ (x : Log). length x.writes) c.self.view_is)
    (printed ∙ ap (λ (x : Log). length x.out) c.self.view_is)
    (c.in_ok-push-2.ensures.items ∙ ap (λ (x : Log). x.reads ++ r ∷ []) c.self.view_is)
    (c.in_ok-push.ensures.items ∙ ap (λ (x : Log). x.places ++ m ∷ []) c.self.view_is)
    (ap (λ (x : Log). x.writes) c.self.view_is)
    (ap (λ (x : Log). x.out) c.self.view_is)
    c.take.ensures.after

pub returns-clause-job : goal.returns-clause-job
returns-clause-job c = λ code p s.
    let l = c.args.self.now in
    let key = c.in-Some-Asks.key in
    let cont = c.in-Some-Asks.cont in
    let taken : c.self.inside.next ≡ Some (next.Asks key cont) = cc (c.take.ensures.value) in
    let asks : l.next ≡ Some (next.Asks key cont) = sym (ap (λ (x : Log). x.next) c.self.view_is) ∙ taken in
    let same : to_z w64 (of_z w64 c.args.value) ≡ c.args.value = search rules in (
      same,
      c.in_ok-known.ensures.rising,
      (
        key,
        answered_job code p l key cont c.in_ok-from.from c.in_ok-known.known c.as_slice.result.now c.as_slice-2.result.now s asks c.in_ok-from.ensures
            (c.as_slice.ensures.value ∙ ap (λ (x : Log). x.reads) c.self.view_is)
            (c.as_slice-2.ensures.value ∙ ap (λ (x : Log). x.writes) c.self.view_is)
            c.in_ok-known.ensures.shows,
      ),
    )

pub returns-clause-last : goal.returns-clause-last
returns-clause-last c = λ code p s.
    let l = c.args.self.now in
    let key = c.in-Some-Asks.key in
    let r = labelled_read key c.args.wid (to_z w64 (of_z w64 c.args.value)) c.args.sure in
    let same : to_z w64 (of_z w64 c.args.value) ≡ c.args.value = search rules in (
      answers_of l,
      c.args.value,
      answers_then l.reads c.push-2.new.self.items key c.args.wid (to_z w64 (of_z w64 c.args.value)) c.args.value c.args.sure
          (c.in_ok-push-2.ensures.items ∙ ap (λ (x : Log). x.reads ++ r ∷ []) c.self.view_is) same,
      returns-clause-job c code p s,
    )
