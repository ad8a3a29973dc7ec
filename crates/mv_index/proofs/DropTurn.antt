-- What a Drop does to what executions hold, and what they hold at first.
use Rattle.std.proofs.Common.{◌≡◌, Bool, true, false, cond, List, [], ◌∷◌, refl, ap, sym, ◌∙◌, Option, None, ◌&&◌}
use Rattle.std.specs.Prelude.{not}
use Rattle.morty_base.proofs.Orders.{before_total}
use Rattle.protocol.specs.Words.{Version, Exec, Key, NodeId, before, no_version, BaseEntry, Drops}
use Rattle.protocol.specs.Replica.Taken.{Handled, dropped}
use Rattle.protocol.specs.Replica.Held.{kept_put}
use Rattle.mv_index.specs.HeldByExec.{has_commit, is_blocked, last_of_put, open_by}
use Rattle.mv_index.proofs.PutsTurn.{cond_none}

abbrev pub after_drop : Handled → NodeId → NodeId → Version → List BaseEntry → Handled
after_drop h from to w new = record { from = from; to = to; body = Drops w new } ∷ h

pub dropped_now : (h : Handled) (from to : NodeId) (w : Version) (new : List BaseEntry) → before (dropped h) w ≡ true → dropped (after_drop h from to w new) ≡ w
dropped_now h from to w new b = ap (λ t. cond t w (dropped h)) b

-- what is cut twice is cut once
pub cut_again : {A : Type 0} (d w v : Version) (o : Option A) → before d w ≡ true → cond (before w v) (cond (before d v) o None) None ≡ cond (before w v) o None
cut_again {A} d w v o b = go (before w v) refl
  where
    go : (t : Bool) → before w v ≡ t → cond t (cond (before d v) o None) None ≡ cond t o None
    go true e = ap (λ t. cond t o None) (before_total.transitive d w v b e)
    go false e = refl

pub cut_test : (d w v : Version) (o : Bool) → before d w ≡ true → (before w v && (before d v && o)) ≡ (before w v && o)
cut_test d w v o b = go (before w v) refl
  where
    go : (t : Bool) → before w v ≡ t → (t && (before d v && o)) ≡ (t && o)
    go true e = ap (λ t. t && o) (before_total.transitive d w v b e)
    go false e = refl

pub open_cut : (h : Handled) (from to : NodeId) (w : Version) (new : List BaseEntry) (k : Key) (x : Exec) → before (dropped h) w ≡ true →
    cond (before w x.ver) (open_by h k x) None ≡ open_by (after_drop h from to w new) k x
unfolding open_by
open_cut h from to w new k x b =
    go (before w x.ver) refl
    ∙ ap (λ d. cond (before d x.ver && not (has_commit h x.ver)) (last_of_put k x (is_blocked h x.ver) (kept_put h x.ver)) None) (sym
    (dropped_now h from to w new b))
  where
    go : (t : Bool) → before w x.ver ≡ t → cond t (cond (before (dropped h) x.ver && not (has_commit h x.ver))
        (last_of_put k x (is_blocked h x.ver) (kept_put h x.ver)) None) None
        ≡ cond (t && not (has_commit h x.ver)) (last_of_put k x (is_blocked h x.ver) (kept_put h x.ver)) None
    go true e = ap (λ t. cond (t && not (has_commit h x.ver)) (last_of_put k x (is_blocked h x.ver) (kept_put h x.ver)) None) (before_total.transitive
        (dropped h) w x.ver b e)
    go false e = refl

pub none_at_first : {A : Type 0} (v : Version) → let nothing : Option A = None in nothing ≡ cond (before no_version v) nothing nothing
none_at_first v = sym (cond_none (before no_version v))

pub nothing_blocked : (v : Version) → false ≡ (before no_version v && false)
nothing_blocked v = go (before no_version v)
  where
    go : (t : Bool) → false ≡ (t && false)
    go true = refl
    go false = refl

pub nothing_open : (k : Key) (x : Exec) → None ≡ open_by [] k x
unfolding open_by
nothing_open k x = sym (cond_none (before no_version x.ver && true))
