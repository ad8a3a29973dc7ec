-- What a replica takes, and what it does not.
use Rattle.std.proofs.Common.{subst, Result, Ok, Err, ◌≡◌, ◌∙◌, Bool, true, false, cond, List, ◌∷◌, ap, sym, ◌&&◌}
use Rattle.std.specs.Prelude.{not, OnOk}
use Rattle.morty_base.specs.declared.list.NoMemory.{NoMemory}
use Rattle.protocol.specs.declared.First2.{First2}
use Rattle.protocol.specs.Words.{Envelope, Body}
use Rattle.protocol.specs.Replica.Taken.{Handled, dropped, takes, after_taking, version_of, lacks_content, is_above}
use Rattle.mv_index.specs.Records.{StandsFor}
use Rattle.mv_index.specs.declared.records.Records.{Records}

-- what is taken, and what is not
pub taken : (h : Handled) (m : Envelope) → takes h m.body ≡ true → m ∷ h ≡ after_taking h m
unfolding after_taking
taken h m e = sym (ap (λ t. cond t (m ∷ h) h) e)

pub not_taken : (h : Handled) (m : Envelope) → takes h m.body ≡ false → h ≡ after_taking h m
unfolding after_taking
not_taken h m e = sym (ap (λ t. cond t (m ∷ h) h) e)

pub takes_by_version : (h : Handled) (b : Body) (t : Bool) → is_above (dropped h) (version_of b) ≡ t → lacks_content b ≡ false → takes h b ≡ t
unfolding takes
takes_by_version h b t e f = ap (λ s. is_above (dropped h) (version_of b) && not s) f ∙ go (is_above (dropped h) (version_of b)) e
  where
    go : (s : Bool) → s ≡ t → (s && true) ≡ t
    go true e = e
    go false e = e

-- what a call leaves standing for one envelope more stands for the list after taking it
pub put_stands : (firsts : List First2) (h : Handled) (m : Envelope) (result : Result (Unit {0}) NoMemory) (r : Records) → takes h m.body ≡ true →
    OnOk result (StandsFor firsts (m ∷ h) r) → OnOk result (StandsFor firsts (after_taking h m) r)
put_stands firsts h m (Ok u) r e s = subst (λ g. StandsFor firsts g r) (taken h m e) s
put_stands firsts h m (Err n) r e s = s
