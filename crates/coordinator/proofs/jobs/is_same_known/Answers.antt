-- Two entries are the same where their keys and values are.
use Rattle.std.proofs.Common.{◌≡◌, ap, ◌∙◌}
use Rattle.std.specs.Prelude.{Bool, ◌==◌, ◌&&◌}
use Rattle.std.specs.Bool.{Decides}
use Rattle.std.specs.Ordering.{int_eq}
use Rattle.std.proofs.lemmas.Bool.Decides.{Decides-and, Decides-eqb, Decides-int_eq}
use Rattle.std.proofs.lemmas.Slice.Eq.{slice_eq-Decides}
use Rattle.txn_lang.specs.Keys.{Entry}
use Rattle.coordinator.proofs.jobs.is_same_known.Goals as goal

abbrev test : Entry → Entry → Bool
test a b = (a.key.table == b.key.table && int_eq a.key.index b.key.index) && int_eq a.value b.value

abbrev Same : Entry → Entry → Type 0
Same a b = ((a.key.table ≡ b.key.table) × (a.key.index ≡ b.key.index)) × (a.value ≡ b.value)

all_same : (a b : Entry) → Same a b → a ≡ b
all_same a b h =
    ap (λ n. record { key = record { table = n; index = a.key.index }; value = a.value }) h.0.0
    ∙ ap (λ z. record { key = record { table = b.key.table; index = z }; value = a.value }) h.0.1
    ∙ ap (λ z. record { key = b.key; value = z }) h.1

same_all : (a b : Entry) → a ≡ b → Same a b
same_all a b e = ((ap (λ (x : Entry). x.key.table) e, ap (λ (x : Entry). x.key.index) e), ap (λ (x : Entry). x.value) e)

same_entry : (a b : Entry) → Decides (test a b) (a ≡ b)
same_entry a b =
    let d : Decides (test a b) (Same a b) =
    Decides-and _ _ (Decides-and _ _ (Decides-eqb a.key.table b.key.table) (Decides-int_eq a.key.index b.key.index)) (Decides-int_eq a.value b.value) in
    ((λ t. all_same a b (d.0 t)), (λ e. d.1 (same_all a b e)))

pub returns : goal.returns
returns c = slice_eq-Decides same_entry c.args.a.now c.args.b.now _ c.eq.ensures
