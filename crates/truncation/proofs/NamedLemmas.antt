-- What has to be recovered is listed answer by answer.
use Rattle.std.proofs.Common.{◌≡◌, ℕ, ◌+◌, ◌<◌, Bool, true, false, cond, List, [], ◌∷◌, ◌++◌, length, get_or, take, refl, ap, sym, ◌∙◌, add-one}
use Rattle.std.specs.Prelude.{flat_map, map, filter}
use Rattle.std.proofs.Math.Seq.{take-suc}
use Rattle.std.proofs.lemmas.List.{append-nil, append_assoc, map-append}
use Rattle.std.proofs.lemmas.List.Elements.{filter-append}
use Rattle.std.proofs.lemmas.Grind.{flat_map-append}
use Rattle.protocol.specs.Words.{Exec, Kept}
use Rattle.protocol.specs.Lists.{one_when}
use Rattle.protocol.specs.Warden.State.{FencedAnswer}

-- the executions of these
abbrev pub execs : List Kept → List Exec
execs cs = map (λ (c : Kept). c.exec) cs

filter_one : (p : Exec → Bool) (x : Exec) → filter p (x ∷ []) ≡ one_when (p x) x
filter_one p x = go (p x)
  where
    go : (t : Bool) → cond t (x ∷ []) [] ≡ one_when t x
    go true = refl
    go false = refl

taken : {A : Type 0} (xs : List A) (i : ℕ) (d : A) → i < length xs → take (i + 1) xs ≡ take i xs ++ (get_or xs i d ∷ [])
taken xs i d h = ap (λ n. take n xs) (add-one i) ∙ take-suc xs i d h

-- one execution more of an answer
pub named_step : (p : Exec → Bool) (first old new : List Exec) (cs : List Kept) (i : ℕ) (c : Kept) → i < length cs → c ≡ get_or cs i c
    → old ≡ first ++ filter p (execs (take i cs)) → new ≡ old ++ one_when (p c.exec) c.exec → new ≡ first ++ filter p (execs (take (i + 1) cs))
named_step p first old new cs i c h is before now =
    now
    ∙ (ap (λ l. l ++ one_when (p c.exec) c.exec) before
    ∙ (append_assoc first (filter p (execs (take i cs))) (one_when (p c.exec) c.exec)
    ∙ ap (λ l. first ++ l) (ap (λ l. filter p (execs (take i cs)) ++ l)
    (ap (λ (d : Kept). one_when (p d.exec) d.exec) is ∙ sym (filter_one p (get_or cs i c).exec))
    ∙ sym (ap (λ l. filter p (execs l)) (taken cs i c h) ∙ ap (filter p) (map-append (λ (d : Kept). d.exec) (take i cs) (get_or cs i c ∷ []))
    ∙ filter-append p (execs (take i cs)) ((get_or cs i c).exec ∷ [])))))

-- one answer more
pub answers_step : (p : Exec → Bool) (old new : List Exec) (answers : List FencedAnswer) (i : ℕ) (a : FencedAnswer) → i < length answers → a
    ≡ get_or answers i a
    → old ≡ filter p (flat_map (λ (b : FencedAnswer). execs b.voted) (take i answers)) → new ≡ old ++ filter p (execs a.voted)
    → new ≡ filter p (flat_map (λ (b : FencedAnswer). execs b.voted) (take (i + 1) answers))
answers_step p old new answers i a h is before now =
    let f = λ (b : FencedAnswer). execs b.voted in
    now
    ∙ (ap (λ l. l ++ filter p (execs a.voted)) before
    ∙ (ap (λ (b : FencedAnswer). filter p (flat_map f (take i answers)) ++ filter p (execs b.voted)) is
    ∙ sym (ap (λ l. filter p (flat_map f l)) (taken answers i a h)
    ∙ (ap (filter p) (flat_map-append f (take i answers) (get_or answers i a ∷ [])
    ∙ ap (λ l. flat_map f (take i answers) ++ l) (append-nil (execs (get_or answers i a).voted)))
    ∙ filter-append p (flat_map f (take i answers)) (execs (get_or answers i a).voted)))))
