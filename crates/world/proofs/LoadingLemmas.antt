-- The code of one more program.
use Rattle.std.proofs.Common.{◌≡◌, ℕ, ◌+◌, ◌<◌, List, [], ◌∷◌, ◌++◌, map, length, take, get_or, refl, sym, ap, ◌∙◌}
use Rattle.std.proofs.lemmas.List.{take_more, map_push}
use Rattle.flat_code.specs.Operation.{Flat}
use Rattle.flat_code.specs.Does.{IsCodeOf}
use Rattle.coordinator.specs.Execution.{Loaded}
use Rattle.coordinator.specs.Memory.{codes_of}
use Rattle.script.specs.declared.setup.NamedProg.{NamedProg}

-- the codes are those of the programs
pub record AreLoaded (ps : List NamedProg) (codes : List Flat) : Type 0 where
  pub programs : List Loaded
  pub own : map (λ (l : Loaded). l.program) programs ≡ map (λ (p : NamedProg). p.prog) ps
  pub codes_are : codes ≡ codes_of programs

pub none_loaded : AreLoaded [] []
none_loaded = record { programs = []; own = refl; codes_are = refl }

pub one_more : (ps : List NamedProg) (i : ℕ) (p : NamedProg) (codes : List Flat) (code : Flat) → i < length ps → p ≡ get_or ps i p → IsCodeOf code p.prog →
    AreLoaded (take i ps) codes → AreLoaded (take (i + 1) ps) (codes ++ code ∷ [])
one_more ps i p codes code less there is are =
    let l : Loaded = record { program = p.prog; code = code; is_code = is } in
    let more : take (i + 1) ps ≡ take i ps ++ p ∷ [] = take_more ps i p less ∙ ap (λ x. take i ps ++ x ∷ []) (sym there) in
    record {
      programs = are.programs ++ l ∷ [];
      own =
          map_push (λ (x : Loaded). x.program) are.programs l ∙ ap (λ xs. xs ++ p.prog ∷ []) are.own
          ∙ sym (ap (map (λ (x : NamedProg). x.prog)) more ∙ map_push (λ (x : NamedProg). x.prog) (take i ps) p);
      codes_are = ap (λ cs. cs ++ code ∷ []) are.codes_are ∙ sym (map_push (λ (x : Loaded). x.code) are.programs l);
    }
