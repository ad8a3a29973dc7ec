-- Readers of keys that are not listed were told what they see.
use Rattle.std.proofs.Common.{◌≡◌, ◌∙◌, Bool, true, false, cond, List, ◌||◌, Some, None, ap, sym, subst, refl, arith}
use Rattle.std.specs.List.{list_any}
use Rattle.std.proofs.lemmas.Bool.Decides.{nat_tests}
use Rattle.morty_base.proofs.Orders.{before_total}
use Rattle.protocol.specs.Words.{Version, Key, Exec, NodeId, before, no_version, same_key, Content, Write}
use Rattle.protocol.specs.declared.First2.{First2}
use Rattle.protocol.specs.Lists.{IsIn}
use Rattle.protocol.specs.Replica.Taken.{Handled}
use Rattle.protocol.specs.Replica.Acceptor.{decided}
use Rattle.protocol.specs.Replica.Held.{kept_put}
use Rattle.mv_index.specs.HeldByExec.{kept_writes}
use Rattle.protocol.specs.Replica.Votes.{writes_key}
use Rattle.mv_index.specs.declared.reader_list.Reader.{Reader}
use Rattle.mv_index.proofs.PutsTurn.{after_puts}
use Rattle.mv_index.proofs.CommitTurn.{after_commit}
use Rattle.mv_index.proofs.Same.{SameAt, SameBelow, latest_same, latest_same_below, puts_same}
use Rattle.mv_index.proofs.Decided.{commit_same}
use Rattle.mv_index.specs.KeyList.{Lists}
use Rattle.mv_index.specs.declared.key_list.KeyList.{KeyList}
use Rattle.mv_index.specs.Records.{StandsFor, IsTold, listed, earlier}
use Rattle.mv_index.specs.declared.records.Records.{Records}

neither_left : (a b : Bool) → (a || b) ≡ false → a ≡ false
neither_left true b e = e
neither_left false b e = refl

neither_right : (a b : Bool) → (a || b) ≡ false → b ≡ false
neither_right true b e = cc
neither_right false b e = e

-- what is listed in two turns
pub lists_both : (f g : Key → Bool) (old mid new : KeyList) → Lists f old mid → Lists g mid new → Lists (λ k. g k || f k) old new
lists_both f g old mid new s t = record {
  rising = t.rising;
  has = λ k. t.has k ∙ (ap (λ b. g k || b) (s.has k) ∙ joined (g k) (f k) (list_any (same_key k) old.keys.items));
}
  where
    joined : (a b c : Bool) → (a || (b || c)) ≡ ((a || b) || c)
    joined true b c = refl
    joined false b c = refl

-- where the keys that may change were listed, a reader of another key was told what it sees then
pub quiet_after : (firsts : List First2) (h h' : Handled) (r : Records) (p : Reader) (test : Key → Bool) (new : KeyList) → StandsFor firsts h r →
    IsIn p r.readers.readers.items → Lists test r.touched new → ((k : Key) → test k ≡ false → SameAt k h h') →
    list_any (same_key p.key) (cond r.all_touched r.reader_keys.keys.items new.keys.items) ≡ false → IsTold firsts h' p
quiet_after firsts h h' r p test new s i more same e = go r.all_touched refl e
  where
    go : (t : Bool) → r.all_touched ≡ t → list_any (same_key p.key) (cond t r.reader_keys.keys.items new.keys.items) ≡ false → IsTold firsts h' p
    go true f e = let z = s.keys_have p i in absurd cc
    go false f e =
        let neither = sym (more.has p.key) ∙ e in
        let unlisted : list_any (same_key p.key) (listed r) ≡ false =
        ap (λ t. list_any (same_key p.key) (cond t r.reader_keys.keys.items r.touched.keys.items)) f ∙ neither_right (test p.key) _ neither in
        s.quiet p i unlisted ∙ ap Some (sym (latest_same firsts h h' p.key p.ver (same p.key (neither_left (test p.key) _ neither))))

abbrev pub writes_either : Handled → Exec → List Write → Key → Bool
writes_either h y ws k = writes_key k ws || writes_key k (kept_writes (kept_put h y.ver))

pub puts_other : (h : Handled) (from to : NodeId) (y : Exec) (ws : List Write) (k : Key) → writes_either h y ws k ≡ false →
    SameAt k h (after_puts h from to y ws)
puts_other h from to y ws k e = puts_same h from to y ws k (neither_left (writes_key k ws) _ e) (neither_right (writes_key k ws) _ e)

pub commit_other : (h : Handled) (from to : NodeId) (y : Exec) (c : Content) → decided h y ≡ None → (k : Key) → writes_either h y c.writes k ≡ false →
    SameAt k h (after_commit h from to y c)
commit_other h from to y c u k e = commit_same h from to y c k u (neither_left (writes_key k c.writes) _ e) (neither_right (writes_key k c.writes) _ e)

-- ---- by version

-- what is below the earlier of two versions is below both
pub below_earlier : (p low y : Version) → before p (earlier low y) ≡ true → (before p low ≡ true) × (before p y ≡ true)
below_earlier p low y e = go (before y low) refl e
  where
    go : (t : Bool) → before y low ≡ t → before p (cond t y low) ≡ true → (before p low ≡ true) × (before p y ≡ true)
    go true f e = (before_total.transitive p y low e f, e)
    go false f e = (e, by (before low y) refl)
      where
        by : (t : Bool) → before low y ≡ t → before p y ≡ true
        by true g = before_total.transitive p low y e g
        by false g = subst (λ v. before p v ≡ true) (before_total.total low y g f) e

not_above : (p y : Version) → before p y ≡ true → before y p ≡ false
not_above p y e = go (before y p) refl
  where
    go : (t : Bool) → before y p ≡ t → t ≡ false
    go false f = refl
    go true f =
        let z : before p p ≡ true = before_total.transitive p y p e f in
        let w : before p p ≡ false = before_total.irreflexive p in
        absurd (cc (z, w))

-- a reader below the version that an envelope is of was told what it sees then
pub below_after : (firsts : List First2) (h h' : Handled) (r : Records) (p : Reader) (y : Version) → StandsFor firsts h r → IsIn p r.readers.readers.items →
    ((k : Key) (v : Version) → before y v ≡ false → SameBelow v k h h') → before p.ver (earlier r.low y) ≡ true → IsTold firsts h' p
below_after firsts h h' r p y s i same e =
    let under = below_earlier p.ver r.low y e in
    s.below p i under.0 ∙ ap Some (sym (latest_same_below firsts h h' p.key p.ver (same p.key p.ver (not_above p.ver y under.1))))

-- no version is below the first one
pub none_below : (v : Version) → before v no_version ≡ true → ⊥
unfolding before
none_below v e = grind (arith, nat_tests)
