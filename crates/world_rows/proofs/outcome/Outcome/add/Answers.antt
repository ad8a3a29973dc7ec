-- One more committed execution.
use Rattle.std.proofs.Common.{◌∙◌, ◌++◌, ◌∷◌, [], List, ap, sym, subst}
use Rattle.std.specs.Prelude.{map}
use Rattle.std.proofs.lemmas.List.{map-append}
use Rattle.protocol.specs.Words.{Write}
use Rattle.report.specs.declared.rows.CommitRow.{CommitRow}
use Rattle.protocol_plans.specs.SerialOutcome.{first_map, map_of, entry_written}
use Rattle.txn_lang.specs.Keys.{Entry, after_writes}
use Rattle.world_rows.specs.Rows.{commit_row}
use Rattle.world_rows.specs.Outcome.{committed_of}
use Rattle.world_rows.specs.Values.{HasValues}
use Rattle.world_rows.proofs.LeftLemmas.{done_more}
use Rattle.world_rows.proofs.ValuesLemmas.{map_more}
use Rattle.world_rows.proofs.outcome.Outcome.add.Goals as goal

pub returns : goal.returns
returns c = λ firsts cs h.
    let d = committed_of c.args.committed in
    let m = map_of (first_map firsts) cs in
    record {
      commits = c.in_ok-push.ensures.ok ∙ (ap (λ (l : List CommitRow). l ++ commit_row d ∷ []) h.commits ∙ sym (map-append commit_row cs (d ∷ [])));
      done = done_more cs d c.args.self.now.done c.insert.new.self c.in_ok-insert.ensures.updates.0 h.done;
      values = subst (λ (es : List Entry). HasValues es c.write.new.self) (sym (map_more (first_map firsts) cs d))
          (subst (λ (ws : List Write). HasValues (after_writes (map entry_written ws) m) c.write.new.self) c.as_slice.ensures
          (c.in_ok-write.ensures m h.values));
    }
