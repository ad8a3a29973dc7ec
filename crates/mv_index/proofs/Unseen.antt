-- Envelopes that records do not see leave what they stand for.
use Rattle.std.proofs.Common.{◌≡◌, ◌∙◌, Bool, true, false, List, [], ◌++◌, Option, Some, None, ap, sym, refl}
use Rattle.std.specs.Prelude.{is_none, not, filter}
use Rattle.protocol.specs.Words.{Exec, Key, NodeId, before, Choice, ToCommit, Abandon, Content, Body, Get, Puts, Prepare, Decide, Drops}
use Rattle.protocol.specs.declared.First2.{First2}
use Rattle.protocol.specs.Lists.{one_when}
use Rattle.protocol.specs.Replica.Taken.{Handled, dropped}
use Rattle.protocol.specs.Replica.Acceptor.{decided, commits, new_commit}
use Rattle.protocol.specs.Replica.Held.{abandons, new_abandon}
use Rattle.protocol.specs.Replica.Readers.{Reader as ReaderOf, readers}
use Rattle.mv_index.proofs.Growth.{later_none}
use Rattle.mv_index.specs.declared.reader_list.Reader.{Reader}
use Rattle.mv_index.proofs.Unchanged.{HoldsSame, seen_same, holdings_same}
use Rattle.mv_index.specs.Clash.{voted_content}
use Rattle.mv_index.specs.Records.{StandsFor, WereTold, IsTold}
use Rattle.mv_index.specs.Unseen.{is_unseen}
use Rattle.mv_index.specs.declared.records.Records.{Records}
use Rattle.mv_index.proofs.VotesSame.{after_body, unseen_votes, table_same}

pub told_same : (firsts : List First2) (h h' : Handled) (p : Reader) → HoldsSame h h' → IsTold firsts h p → IsTold firsts h' p
told_same firsts h h' p s t = t ∙ ap Some (sym (seen_same firsts h h' s p.key p.ver))

-- where nothing that is held, no vote and no reader changes, records stand for the longer list
pub stands_same : (firsts : List First2) (h h' : Handled) (r : Records) → HoldsSame h h' → ((x : Exec) → voted_content h' x ≡ voted_content h x) →
    readers h' ≡ readers h → StandsFor firsts h r → StandsFor firsts h' r
stands_same firsts h h' r same votes reads s = record {
  holdings = holdings_same firsts h h' r.holdings same s.holdings;
  voted = λ x. table_same h h' x _ same.dropped_is (votes x) (s.voted x);
  voted_indexed = s.voted_indexed;
  readers_are = s.readers_are ∙ (ap (λ d. filter (λ (p : ReaderOf). before d p.ver) (readers h)) (sym same.dropped_is)
      ∙ ap (filter (λ (p : ReaderOf). before (dropped h') p.ver)) (sym reads));
  keys_rise = s.keys_rise;
  keys_have = s.keys_have;
  touched_rise = s.touched_rise;
  quiet = λ p i e. told_same firsts h h' p same (s.quiet p i e);
  below = λ p i e. told_same firsts h h' p same (s.below p i e);
  whole = s.whole;
}

-- a Get changes nothing that is held
pub get_holds : (h : Handled) (from to : NodeId) (y : Exec) (k : Key) → HoldsSame h (after_body h from to (Get y k))
get_holds h from to y k = record { dropped_is = later_none (dropped h); base_is = refl; commits_are = refl; abandons_are = refl; kept_are = λ v. refl }

-- nor does a Prepare
pub prepare_holds : (h : Handled) (from to : NodeId) (y : Exec) (c : Content) → HoldsSame h (after_body h from to (Prepare y c))
prepare_holds h from to y c = record { dropped_is = later_none (dropped h); base_is = refl; commits_are = refl; abandons_are = refl; kept_are = λ v. refl }

turned : (b : Bool) → not b ≡ true → b ≡ false
turned true e = cc
turned false e = refl

-- a second decision commits and abandons nothing
commits_again : (h : Handled) (y : Exec) (d : Choice) (c : Option Content) → is_none (decided h y) ≡ false → new_commit h (Decide y d c) ≡ []
commits_again h y ToCommit None e = refl
commits_again h y ToCommit (Some k) e = ap (λ t. one_when t (record { exec = y; content = k })) e
commits_again h y Abandon c e = refl

abandons_again : (h : Handled) (y : Exec) (d : Choice) (c : Option Content) → is_none (decided h y) ≡ false → new_abandon h (Decide y d c) ≡ []
abandons_again h y ToCommit c e = refl
abandons_again h y Abandon c e = ap (λ t. one_when t y) e

pub unseen_holds : (h : Handled) (from to : NodeId) (b : Body) → is_unseen h b ≡ true → HoldsSame h (after_body h from to b)
unseen_holds h from to (Get y k) e = absurd cc
unseen_holds h from to (Puts y ws) e = absurd cc
unseen_holds h from to (Decide y d c) e = record {
  dropped_is = later_none (dropped h);
  base_is = refl;
  commits_are = ap (λ l. l ++ commits h) (commits_again h y d c (turned (is_none (decided h y)) e));
  abandons_are = ap (λ l. l ++ abandons h) (abandons_again h y d c (turned (is_none (decided h y)) e));
  kept_are = λ v. refl;
}
unseen_holds h from to (Drops w new) e = absurd cc
unseen_holds h from to _ e = record {
  dropped_is = later_none (dropped h);
  base_is = refl;
  commits_are = refl;
  abandons_are = refl;
  kept_are = λ v. refl;
}

unseen_reads : (h : Handled) (from to : NodeId) (b : Body) → is_unseen h b ≡ true → readers (after_body h from to b) ≡ readers h
unseen_reads h from to (Get y k) e = absurd cc
unseen_reads h from to _ e = refl

pub stands_other : (firsts : List First2) (h : Handled) (from to : NodeId) (b : Body) (r : Records) → is_unseen h b ≡ true → StandsFor firsts h r →
    StandsFor firsts (after_body h from to b) r
stands_other firsts h from to b r e s =
    stands_same firsts h (after_body h from to b) r (unseen_holds h from to b e) (unseen_votes h from to b e) (unseen_reads h from to b e) s

-- and nobody is due anything
pub told_other : (firsts : List First2) (h : Handled) (from to : NodeId) (b : Body) (r : Records) → is_unseen h b ≡ true → WereTold firsts h r →
    WereTold firsts (after_body h from to b) r
told_other firsts h from to b r e t = record { each = λ p i. told_same firsts h (after_body h from to b) p (unseen_holds h from to b e) (t.each p i) }
