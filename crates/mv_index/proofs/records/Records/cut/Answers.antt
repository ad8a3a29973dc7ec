use Rattle.std.proofs.Common.{◌≡◌, ◌∙◌, cond, ap, sym, subst, true, None}
use Rattle.std.specs.Prelude.{filter}
use Rattle.std.specs.List.{list_any}
use Rattle.protocol.specs.Words.{before, same_key}
use Rattle.protocol.specs.Lists.{IsIn}
use Rattle.protocol.specs.Replica.Taken.{dropped}
use Rattle.protocol.specs.Replica.Readers.{Reader as ReaderOf, readers}
use Rattle.mv_index.specs.declared.reader_list.Reader.{Reader}
use Rattle.mv_index.proofs.DropTurn.{after_drop, dropped_now, cut_again}
use Rattle.mv_index.proofs.Values.{filter_in}
use Rattle.mv_index.specs.Clash.{voted_content}
use Rattle.mv_index.proofs.Cutting.{readers_cut}
use Rattle.mv_index.proofs.Quiet.{none_below}
use Rattle.mv_index.proofs.VotesSame.{drop_votes}
use Rattle.mv_index.proofs.records.Records.cut.Goals as goal

pub returns-clause-ok : goal.returns-clause-ok
returns-clause-ok c = λ firsts h from to s above.
    let w = c.args.w in
    let r = c.args.self.now in
    let h' = after_drop h from to w c.args.base in
    let now = sym (dropped_now h from to w c.args.base above) in
    let left = λ (p : Reader) (i : IsIn p c.cut-3.new.self.readers.items). (filter_in (λ (q : Reader). before w q.ver) r.readers.readers.items p
    (subst (λ l. IsIn p l) c.cut-3.ensures i)).0 in
    record {
      holdings = c.cut.ensures firsts h from to s.holdings above;
      voted = λ x. c.cut-2.ensures.contents x ∙ (ap (λ o. cond (before w x.ver) o None) (s.voted x)
          ∙ (cut_again (dropped h) w x.ver (voted_content h x) above
          ∙ (ap (λ d. cond (before d x.ver) (voted_content h x) None) now
          ∙ ap (λ o. cond (before (dropped h') x.ver) o None) (sym (drop_votes h from to w c.args.base x)))));
      voted_indexed = c.cut-2.ensures.indexed s.voted_indexed;
      readers_are = readers_cut (dropped h) w r.readers.readers.items c.cut-3.new.self.readers.items (readers h) above c.cut-3.ensures s.readers_are
          ∙ ap (λ d. filter (λ (p : ReaderOf). before d p.ver) (readers h)) now;
      keys_rise = s.keys_rise;
      keys_have = λ p i. s.keys_have p (left p i);
      touched_rise = s.touched_rise;
      quiet = λ p i e. let z : list_any (same_key p.key) r.reader_keys.keys.items ≡ true = s.keys_have p (left p i) in absurd (cc (z, e));
      below = λ p i e. absurd (none_below p.ver e);
      whole = s.whole;
    }

pub returns-clause-marks : goal.returns-clause-marks
returns-clause-marks c = λ firsts h t. record {
  each = λ p i. t.each p (filter_in (λ (q : Reader). before c.args.w q.ver) c.args.self.now.readers.readers.items p
      (subst (λ l. IsIn p l) c.cut-3.ensures i)).0;
}
