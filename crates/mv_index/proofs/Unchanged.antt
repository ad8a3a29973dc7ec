-- What holds of an envelope that changes nothing of what is held.
use Rattle.std.proofs.Common.{◌≡◌, ℕ, cond, List, ap, sym, ◌∙◌, None, ◌&&◌, nat_le}
use Rattle.std.specs.Prelude.{not, find, option_map}
use Rattle.std.specs.List.{list_any}
use Rattle.protocol.specs.Words.{Version, Exec, Key, before, same_version, same_exec, Kept}
use Rattle.protocol.specs.declared.First2.{First2}
use Rattle.protocol.specs.Replica.Taken.{Handled, dropped, base}
use Rattle.protocol.specs.Replica.Acceptor.{commits}
use Rattle.protocol.specs.Replica.Held.{kept_put, abandons, latest}
use Rattle.mv_index.specs.HeldByExec.{committed_content, has_commit, is_blocked, last_of_content, last_of_put, sure_by, open_by, entries_of}
use Rattle.mv_index.specs.Holdings.{StandsFor}
use Rattle.mv_index.specs.declared.holdings.Holdings.{Holdings}
use Rattle.mv_index.proofs.Same.{SameAt, latest_same}

-- the lists tell the same of what is held
pub record HoldsSame (h h' : Handled) : Type 0 where
  pub dropped_is : dropped h' ≡ dropped h
  pub base_is : base h' ≡ base h
  pub commits_are : commits h' ≡ commits h
  pub abandons_are : abandons h' ≡ abandons h
  pub kept_are : (v : Version) → kept_put h' v ≡ kept_put h v

content_same : (h h' : Handled) → HoldsSame h h' → (x : Exec) → committed_content h' x ≡ committed_content h x
content_same h h' s x = ap (λ (cs : List Kept). option_map (λ (c : Kept). c.content) (find (λ (c : Kept). same_exec x c.exec) cs)) s.commits_are

has_commit_same : (h h' : Handled) → HoldsSame h h' → (v : Version) → has_commit h' v ≡ has_commit h v
has_commit_same h h' s v = ap (λ (cs : List Kept). list_any (λ (c : Kept). same_version v c.exec.ver) cs) s.commits_are

blocked_same : (h h' : Handled) → HoldsSame h h' → (v : Version) (n : ℕ) → is_blocked h' v n ≡ is_blocked h v n
blocked_same h h' s v n = ap (λ (xs : List Exec). list_any (λ (x : Exec). same_version v x.ver && nat_le n x.eid) xs) s.abandons_are

pub same_at : (h h' : Handled) → HoldsSame h h' → (k : Key) → SameAt k h h'
unfolding sure_by open_by
same_at h h' s k = record {
  based = ap (entries_of k) s.base_is;
  sure = λ x. ap (λ d. cond (before d x.ver) (last_of_content k x (committed_content h' x)) None) s.dropped_is
      ∙ ap (λ o. cond (before (dropped h) x.ver) (last_of_content k x o) None) (content_same h h' s x);
  tried = λ x. ap (λ d. cond (before d x.ver && not (has_commit h' x.ver)) (last_of_put k x (is_blocked h' x.ver) (kept_put h' x.ver)) None) s.dropped_is
      ∙ (ap (λ t. cond (before (dropped h) x.ver && not t) (last_of_put k x (is_blocked h' x.ver) (kept_put h' x.ver)) None) (has_commit_same h h' s x.ver)
      ∙ (ap (λ (xs : List Exec). cond (before (dropped h) x.ver && not (has_commit h x.ver))
      (last_of_put k x (λ n. list_any (λ (y : Exec). same_version x.ver y.ver && nat_le n y.eid) xs) (kept_put h' x.ver)) None) s.abandons_are
      ∙ ap (λ o. cond (before (dropped h) x.ver && not (has_commit h x.ver)) (last_of_put k x (is_blocked h x.ver) o) None) (s.kept_are x.ver)));
}

-- what is seen stays
pub seen_same : (firsts : List First2) (h h' : Handled) → HoldsSame h h' → (k : Key) (v : Version) → latest firsts h' k v ≡ latest firsts h k v
seen_same firsts h h' s k v = latest_same firsts h h' k v (same_at h h' s k)

-- and what is held stands for the longer list
pub holdings_same : (firsts : List First2) (h h' : Handled) (r : Holdings) → HoldsSame h h' → StandsFor firsts h r → StandsFor firsts h' r
holdings_same firsts h h' r s t = record {
  firsts_are = t.firsts_are;
  dropped_is = t.dropped_is ∙ sym s.dropped_is;
  base_is = t.base_is ∙ sym s.base_is;
  blocked_are = λ v n. t.blocked_are v n ∙ (ap (λ d. before d v && is_blocked h v n) (sym s.dropped_is)
      ∙ ap (λ b. before (dropped h') v && b) (sym (blocked_same h h' s v n)));
  commits_are = λ x. t.commits_are x ∙ (ap (λ d. cond (before d x.ver) (committed_content h x) None) (sym s.dropped_is)
      ∙ ap (λ o. cond (before (dropped h') x.ver) o None) (sym (content_same h h' s x)));
  commits_indexed = t.commits_indexed;
  open_are = record {
    puts_are = λ v. t.open_are.puts_are v ∙ (ap (λ d. cond (before d v) (kept_put h v) None) (sym s.dropped_is)
        ∙ ap (λ o. cond (before (dropped h') v) o None) (sym (s.kept_are v)));
    held_are = λ k x. t.open_are.held_are k x ∙ sym ((same_at h h' s k).tried x);
  };
}
