use Rattle.std.proofs.Common.{◌≡◌, ◌<◌, ◌∷◌, ◌++◌, [], take, length, Some, None, false, refl, ap, sym, ◌∙◌, w64, to_z, of_z, arith, rules}
use Rattle.std.specs.Prelude.{slice_get}
use Rattle.std.proofs.lemmas.List.{take-map}
use Rattle.std.proofs.lemmas.Option.{slice_get_within}
use Rattle.exec_log.specs.declared.read.LogRead.{LogRead}
use Rattle.exec_log.specs.declared.read.Place.{Place}
use Rattle.exec_log.specs.Log.{Log, answers_of, labelled_read}
use Rattle.exec_log.proofs.Rewinding.{answers_then, Rewound, rewound, place_again, reads_cut, stands_rewound, rewound_job}
use Rattle.exec_log.proofs.log.ExecLog.rewind.Goals as goal

pub returns-clause-stands : goal.returns-clause-stands
returns-clause-stands c = λ code p s.
    let l = c.args.self.now in
    let i = c.args.i in
    let r = c.read.result in
    let r' = labelled_read r.key c.args.wid (to_z w64 (of_z w64 c.args.value)) c.args.sure in
    let m = c.index.result.now in
    let l' : Log = record {
      reads = c.push.new.self.items;
      places = c.truncate-2.new.self.items;
      writes = c.truncate-3.new.self.items;
      out = c.truncate-4.new.self.items;
      next = None;
      broken = false;
    } in
    let read : slice_get c.self.inside.reads.items i ≡ Some r = c.read.ensures in
    let within : i < length c.self.inside.places.items = omega (arith, slice_get_within c.self.inside.reads.items i r read, c.self.invariant) in
    let reads : l'.reads ≡ take i c.self.inside.reads.items ++ r' ∷ [] =
    c.in_ok-push.ensures.items ∙ ap (λ rs. rs ++ r' ∷ []) c.truncate.ensures.items in
    let w : Rewound l l' i r r' m =
    rewound _ l l' i r r' m c.index-2.result.now c.self.view_is read within reads c.truncate-2.ensures.items c.index.ensures c.index-2.ensures
    c.truncate-3.ensures.items c.truncate-4.ensures.items refl in
    stands_rewound code p l l' i r r' m s w.read w.place refl w.cut

pub returns-clause-job : goal.returns-clause-job
returns-clause-job c = λ code p s.
    let l = c.args.self.now in
    let i = c.args.i in
    let r = c.read.result in
    let r' = labelled_read r.key c.args.wid (to_z w64 (of_z w64 c.args.value)) c.args.sure in
    let m = c.index.result.now in
    let l' : Log = record {
      reads = c.push.new.self.items;
      places = c.truncate-2.new.self.items;
      writes = c.truncate-3.new.self.items;
      out = c.truncate-4.new.self.items;
      next = None;
      broken = false;
    } in
    let read : slice_get c.self.inside.reads.items i ≡ Some r = c.read.ensures in
    let within : i < length c.self.inside.places.items = omega (arith, slice_get_within c.self.inside.reads.items i r read, c.self.invariant) in
    let reads : l'.reads ≡ take i c.self.inside.reads.items ++ r' ∷ [] =
    c.in_ok-push.ensures.items ∙ ap (λ rs. rs ++ r' ∷ []) c.truncate.ensures.items in
    let w : Rewound l l' i r r' m =
    rewound _ l l' i r r' m c.index-2.result.now c.self.view_is read within reads c.truncate-2.ensures.items c.index.ensures c.index-2.ensures
    c.truncate-3.ensures.items c.truncate-4.ensures.items refl in
    let same : to_z w64 (of_z w64 c.args.value) ≡ c.args.value = search rules in
    let again = place_again l l' i r r' m c.index-3.result.now w c.index-3.ensures in (
      same,
      c.in_ok-known.ensures.rising,
      (
        r.key,
        rewound_job code p l l' i r r' m c.in_ok-cont.cont c.in_ok-known.known c.as_slice.result.now c.as_slice-2.result.now s w
            (c.in_ok-cont.ensures ∙ ap (λ (x : Place). x.cont) again)
            (c.as_slice.ensures.value ∙ c.truncate.ensures.items ∙ ap (λ (x : Log). take i x.reads) c.self.view_is)
            c.as_slice-2.ensures.value
            c.in_ok-known.ensures.shows,
      ),
    )

pub returns-clause-reads : goal.returns-clause-reads
returns-clause-reads c =
    let r = c.read.result in
    let same : to_z w64 (of_z w64 c.args.value) ≡ c.args.value = search rules in
    reads_cut _ c.args.self.now c.args.i r c.args.wid _ c.args.value c.args.sure c.push.new.self.items c.self.view_is c.read.ensures same
    (c.in_ok-push.ensures.items ∙ ap (λ rs. rs ++ labelled_read r.key c.args.wid (to_z w64 (of_z w64 c.args.value)) c.args.sure ∷ []) c.truncate.ensures.items)

pub returns-clause-last : goal.returns-clause-last
returns-clause-last c = λ code p s.
    let l = c.args.self.now in
    let i = c.args.i in
    let r = c.read.result in
    let r' = labelled_read r.key c.args.wid (to_z w64 (of_z w64 c.args.value)) c.args.sure in
    let same : to_z w64 (of_z w64 c.args.value) ≡ c.args.value = search rules in
    let reads : c.push.new.self.items ≡ take i l.reads ++ r' ∷ [] =
    c.in_ok-push.ensures.items ∙ ap (λ rs. rs ++ r' ∷ []) c.truncate.ensures.items ∙ ap (λ (x : Log). take i x.reads ++ r' ∷ []) c.self.view_is in (
      take i (answers_of l),
      c.args.value,
      answers_then (take i l.reads) c.push.new.self.items r.key c.args.wid (to_z w64 (of_z w64 c.args.value)) c.args.value c.args.sure reads same
          ∙ ap (λ xs. xs ++ c.args.value ∷ []) (sym (take-map (λ (x : LogRead). x.value) i l.reads)),
      returns-clause-job c code p s,
    )
