-- No node is due exactly where the history is quiet.
use Rattle.std.proofs.Common.{◌≡◌, Bool, true, false, List, [], ◌∷◌, refl, sym, ◌∙◌, Some, None}
use Rattle.std.specs.Prelude.{not, find}
use Rattle.std.specs.List.{list_all}
use Rattle.morty_base.specs.declared.names.NodeId.{NodeId}
use Rattle.net_core.specs.Marks.{rests}
use Rattle.net_core.specs.Rounds.{turn_order}
use Rattle.net_core.specs.Laws.{QuietOrDue}
use Rattle.net_core.proofs.TurnOrder.{all_in_order}

module _ (q : NodeId → Bool) where
  -- where all pass a test, none is found that fails it, and the other way round
  none_fails : (ns : List NodeId) → list_all q ns ≡ true → find (λ n. not (q n)) ns ≡ None
  none_fails [] e = refl
  none_fails (n ∷ ns) e = go (q n) refl (none_fails ns)
    where
      go : (b : Bool) → q n ≡ b → (list_all q ns ≡ true → find (λ m. not (q m)) ns ≡ None) → find (λ m. not (q m)) (n ∷ ns) ≡ None
      go true p ih = rw p (ih (rw p at e))
      go false p ih = let no : false ≡ true = rw p at e in absurd cc

  all_pass : (ns : List NodeId) → find (λ n. not (q n)) ns ≡ None → list_all q ns ≡ true
  all_pass [] e = refl
  all_pass (n ∷ ns) e = go (q n) refl (all_pass ns)
    where
      go : (b : Bool) → q n ≡ b → (find (λ m. not (q m)) ns ≡ None → list_all q ns ≡ true) → list_all q (n ∷ ns) ≡ true
      go true p ih = rw p (ih (rw p at e))
      go false p ih = let no : Some n ≡ None = rw p at e in absurd cc

pub quiet_or_due : QuietOrDue
quiet_or_due m h = (
  λ quiet. none_fails (rests m h) (turn_order m.nodes h) (all_in_order (rests m h) m.nodes h ∙ quiet),
  λ none. sym (all_in_order (rests m h) m.nodes h) ∙ all_pass (rests m h) (turn_order m.nodes h) none,
)
