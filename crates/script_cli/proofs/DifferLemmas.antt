-- Whether versions differ, as it is told and as it is said.
use Rattle.std.proofs.Common.{◌≡◌, Bool, true, false, ◌&&◌, cond, List, [], ◌∷◌, refl, sym, ap, ◌∙◌, Option, None, Some}
use Rattle.std.specs.Prelude.{not}
use Rattle.std.specs.List.{list_all, AllByRecursion, IsDistinct}
use Rattle.std.proofs.lemmas.Map.Keys.{IsDistinct-head, IsDistinct-tail, IsDistinct-cons}
use Rattle.morty_base.specs.declared.names.Version.{Version}
use Rattle.morty_base.specs.Names.{same_version}
use Rattle.serial_ref.specs.declared.item.SerialItem.{SerialItem}
use Rattle.serial_ref.specs.SerialItem.{versions_of, DifferInVersion}
use Rattle.script_cli.specs.declared.words.Command.{Command}
use Rattle.script_cli.specs.declared.words.Command.TheVariants.{Serial}
use Rattle.script_cli.specs.Words.{differ, serial_if}

both : (a b : Bool) → a ≡ true → b ≡ true → (a && b) ≡ true
both true b x y = y
both false b x y = x

front : (a b : Bool) → (a && b) ≡ true → a ≡ true
front true b x = refl
front false b x = x

back : (a b : Bool) → (a && b) ≡ true → b ≡ true
back true b x = x
back false b x = absurd (let e : false ≡ true = x in cc)

not_true : (b : Bool) → not b ≡ true → b ≡ false
not_true true x = absurd (let e : false ≡ true = x in cc)
not_true false x = refl

all_others : (v : Version) (is : List SerialItem) → AllByRecursion (λ w. same_version v w ≡ false) (versions_of is) → list_all (λ j. not (same_version v j.ver)) is ≡ true
all_others v [] others = refl
all_others v (j ∷ js) others = both (not (same_version v j.ver)) (list_all (λ k. not (same_version v k.ver)) js) (ap not others.0) (all_others v js others.1)

others_all : (v : Version) (is : List SerialItem) → list_all (λ j. not (same_version v j.ver)) is ≡ true → AllByRecursion (λ w. same_version v w ≡ false) (versions_of is)
others_all v [] all = tt
others_all v (j ∷ js) all =
    let here = not (same_version v j.ver) in
    let rest = list_all (λ k. not (same_version v k.ver)) js in
    (not_true (same_version v j.ver) (front here rest all), others_all v js (back here rest all))

differ_told : (items : List SerialItem) → DifferInVersion items → differ items ≡ true
differ_told [] apart = refl
differ_told (i ∷ is) apart =
    both (list_all (λ j. not (same_version i.ver j.ver)) is) (differ is)
    (all_others i.ver is (IsDistinct-head same_version i.ver (versions_of is) apart))
    (differ_told is (IsDistinct-tail same_version i.ver (versions_of is) apart))

differ_said : (items : List SerialItem) → differ items ≡ true → DifferInVersion items
unfolding IsDistinct
differ_said [] told = tt
differ_said (i ∷ is) told =
    let here = list_all (λ j. not (same_version i.ver j.ver)) is in
    IsDistinct-cons same_version i.ver (versions_of is) (others_all i.ver is (front here (differ is) told)) (differ_said is (back here (differ is) told))

-- the command of items whose versions differ, and of others
pub serial_where : (said : Option (List SerialItem)) (items : List SerialItem) → said ≡ Some items → DifferInVersion items → Some (Serial items) ≡ serial_if said
serial_where said items is apart =
    sym (ap serial_if is ∙ ap (λ (b : Bool). cond b (Some (Serial items)) None) (differ_told items apart))

pub none_where : (said : Option (List SerialItem)) (items : List SerialItem) → said ≡ Some items → (DifferInVersion items → ⊥) → None ≡ serial_if said
none_where said items is alike = go (differ items) refl
  where
    go : (b : Bool) → differ items ≡ b → None ≡ serial_if said
    go true told = absurd (alike (differ_said items told))
    go false told = sym (ap serial_if is ∙ ap (λ (b : Bool). cond b (Some (Serial items)) None) told)
