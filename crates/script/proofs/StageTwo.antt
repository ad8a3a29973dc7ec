-- What reading the tokens of a script says of the second stage.
use Rattle.std.proofs.Common.{◌≡◌, ℕ, ◌+◌, List, [], ◌∷◌, ◌++◌, length, take, map, get_or, Result, Ok, Err, refl, sym, ap, ◌∙◌, subst, arith}
use Rattle.std.proofs.lemmas.List.{append_assoc, length-append, take-map}
use Rattle.std.proofs.Math.ListN.{get_or-map}
use Rattle.std.proofs.Math.Seq.{take-append_seam, get_or-append_seam}
use Rattle.txn_text.specs.declared.kinds.Token.{Token}
use Rattle.txn_text.specs.declared.faults.FaultKind.{FaultKind}
use Rattle.txn_text.specs.declared.faults.TextFault.{TextFault}
use Rattle.txn_text.specs.declared.faults.TextFault.TheVariants.{At, NoMemory}
use Rattle.txn_parse.specs.Symbols.{Lexeme, lexeme, lexemes, symbol_of}
use Rattle.txn_parse.specs.Reading.{syntax_at}
use Rattle.txn_parse.specs.Faults.{IsWithinLimits, IsTheFault, IsFirstPast}
use Rattle.script.specs.Items.{Item}
use Rattle.script.specs.Rules.{Derives, read}
use Rattle.script.specs.Grammar.{script}
use Rattle.script.specs.Stages.{IsWhole, IsReadAs, Stopped, or_limit, cut_fault, IsCutAs}
use Rattle.txn_parse.specs.Gives.{Gives}
use Rattle.script.proofs.Stopping.{reached, failed, bad_fault, end_fault, cut_bad, cut_past}
use Rattle.script.proofs.GrammarFits.{script_fits}
use Rattle.script.proofs.BlocksAreRead.{blocks}

pub whole_ok : (at : ℕ) (ls : List Lexeme) (items : List Item) (rest : List Lexeme) → IsWithinLimits ls → read script at ls ≡ Ok (items, rest) → rest ≡ [] → IsWhole (Derives script) ls items
whole_ok at ls items rest w is none = record { derived = (reached script script_fits at (blocks at) ls items rest is).whole none; within = w }

stopped_fault : (at : ℕ) (ls rest : List Lexeme) → IsWithinLimits ls → Stopped (Derives script) ls rest → (rest ≡ [] → (a : List Item) → Derives script ls a → ⊥) → IsTheFault (Derives script) at ls (syntax_at at rest)
stopped_fault at ls [] w s proper = end_fault (Derives script) at ls w s (proper refl)
stopped_fault at ls (l ∷ more) w s proper = bad_fault (Derives script) at ls l more w s

pub whole_err : (at : ℕ) (ls : List Lexeme) (f : TextFault) → IsWithinLimits ls → read script at ls ≡ Err f → IsTheFault (Derives script) at ls f
whole_err at ls f w is =
    let x = failed script script_fits at (blocks at) ls f is in
    subst (IsTheFault (Derives script) at ls) (sym x.place) (stopped_fault at ls x.rest w x.stopped x.proper)

pub whole_rest : (at : ℕ) (ls : List Lexeme) (items : List Item) (rest : List Lexeme) → IsWithinLimits ls → read script at ls ≡ Ok (items, rest) → (rest ≡ [] → ⊥) → IsTheFault (Derives script) at ls (syntax_at at rest)
whole_rest at ls items rest w is some = stopped_fault at ls rest w (reached script script_fits at (blocks at) ls items rest is).stopped (λ none a d. absurd (some none))

-- a call that gave a fault
pub gave_fault : {X : Type 0} (view : X → List Item × List Lexeme) (at : ℕ) (ls : List Lexeme) (f : TextFault) → IsWithinLimits ls → Gives view (Err f) (read script at ls) → IsReadAs (Derives script) at ls (let r : Result (List Item) TextFault = Err f in r)
gave_fault view at ls (At line kind) w g = whole_err at ls (At line kind) w g
gave_fault view at ls NoMemory w g = tt

pub left_fault : (at : ℕ) (ls : List Lexeme) (items : List Item) (rest : List Lexeme) → IsWithinLimits ls → read script at ls ≡ Ok (items, rest) → (rest ≡ [] → ⊥) → IsReadAs (Derives script) at ls (let r : Result (List Item) TextFault = Err (syntax_at at rest) in r)
left_fault at ls items [] w is some = absurd (some refl)
left_fault at ls items (l ∷ more) w is some = whole_rest at ls items (l ∷ more) w is some

-- where reading of cut tokens stopped
cut_as : (at : ℕ) (cut : List Lexeme) (limit f : TextFault) (rest : List Lexeme) → Stopped (Derives script) cut rest → f ≡ cut_fault rest limit → IsCutAs at cut limit f
cut_as at cut limit (At line kind) rest s is = (rest, s, is)
cut_as at cut limit NoMemory rest s is = tt

pub cut_ok : (at : ℕ) (cut : List Lexeme) (items : List Item) (rest : List Lexeme) (limit : TextFault) → read script at cut ≡ Ok (items, rest) → IsCutAs at cut limit (cut_fault rest limit)
cut_ok at cut items rest limit is = cut_as at cut limit (cut_fault rest limit) rest (reached script script_fits at (blocks at) cut items rest is).stopped refl

limit_by : (at : ℕ) (limit : TextFault) (rest : List Lexeme) → or_limit (syntax_at at rest) limit ≡ cut_fault rest limit
limit_by at limit [] = refl
limit_by at limit (l ∷ more) = refl

cut_err : (at : ℕ) (cut : List Lexeme) (limit f : TextFault) → read script at cut ≡ Err f → IsCutAs at cut limit (or_limit f limit)
cut_err at cut limit f is =
    let x = failed script script_fits at (blocks at) cut f is in
    cut_as at cut limit (or_limit f limit) x.rest x.stopped (ap (λ g. or_limit g limit) x.place ∙ limit_by at limit x.rest)

pub cut_gave : {X : Type 0} (view : X → List Item × List Lexeme) (at : ℕ) (cut : List Lexeme) (limit f : TextFault) → Gives view (Err f) (read script at cut) → IsCutAs at cut limit (or_limit f limit)
cut_gave view at cut limit (At line kind) g = cut_err at cut limit (At line kind) g
cut_gave view at cut limit NoMemory g = tt

-- the fault of the whole tokens
past_by : (at place : ℕ) (kind : FaultKind) (ls : List Lexeme) (p : IsFirstPast ls place kind) (rest : List Lexeme) → Stopped (Derives script) (p.front ++ p.token ∷ []) rest → IsTheFault (Derives script) at ls (cut_fault rest (At p.token.token.line kind))
past_by at place kind ls p [] s = cut_past (Derives script) at place kind ls p s
past_by at place kind ls p (l ∷ more) s = cut_bad (Derives script) at place kind ls p l more s

cut_read : (at place : ℕ) (kind : FaultKind) (ls : List Lexeme) (p : IsFirstPast ls place kind) (f : TextFault) → IsCutAs at (p.front ++ p.token ∷ []) (At p.token.token.line kind) f → IsReadAs (Derives script) at ls (let r : Result (List Item) TextFault = Err f in r)
cut_read at place kind ls p (At line k) cut = subst (IsTheFault (Derives script) at ls) (sym cut.2) (past_by at place kind ls p cut.0 cut.1)
cut_read at place kind ls p NoMemory cut = tt

-- the tokens up to the one at a place
front_of : (front rest : List Lexeme) (t : Lexeme) (n : ℕ) → length front ≡ n → take (n + 1) (front ++ t ∷ rest) ≡ front ++ t ∷ []
front_of front rest t n is =
    ap (λ m. take (m + 1) (front ++ t ∷ rest)) (sym is) ∙ ap (λ xs. take (length front + 1) xs) (sym (append_assoc front (t ∷ []) rest))
    ∙ take_of (front ++ t ∷ []) rest (length front + 1) (let e = length-append front (t ∷ []) in let g : length (front ++ t ∷ []) ≡ length front + 1 = omega (arith, e) in g)
  where
    take_of : (xs ys : List Lexeme) (n : ℕ) → length xs ≡ n → take n (xs ++ ys) ≡ xs
    take_of xs ys n is = ap (λ m. take m (xs ++ ys)) (sym is) ∙ take-append_seam xs ys

pub read_past : (text : List ℕ) (toks : List Token) (at place : ℕ) (kind : FaultKind) (p : IsFirstPast (lexemes text toks) place kind) (d : Token) (f : TextFault) →
    IsCutAs at (lexemes text (take (place + 1) toks)) (At (get_or toks place d).line kind) f → IsReadAs (Derives script) at (lexemes text toks) (let r : Result (List Item) TextFault = Err f in r)
read_past text toks at place kind p d f cut =
    cut_read at place kind (lexemes text toks) p f
    (subst (λ xs. IsCutAs at xs (At p.token.token.line kind) f) same_front (subst (λ n. IsCutAs at (lexemes text (take (place + 1) toks)) (At n kind) f) same_line cut))
  where
    same_front : lexemes text (take (place + 1) toks) ≡ p.front ++ p.token ∷ []
    same_front = sym (take-map (λ t. lexeme (symbol_of text t) t) (place + 1) toks) ∙ ap (take (place + 1)) p.split ∙ front_of p.front p.rest p.token place p.place

    there : get_or (map (λ t. lexeme (symbol_of text t) t) toks) place (lexeme (symbol_of text d) d) ≡ p.token
    there =
        ap (λ xs. get_or xs place (lexeme (symbol_of text d) d)) p.split
        ∙ ap (λ n. get_or (p.front ++ p.token ∷ p.rest) n (lexeme (symbol_of text d) d)) (sym p.place)
        ∙ get_or-append_seam p.front p.token p.rest (lexeme (symbol_of text d) d)

    same_line : (get_or toks place d).line ≡ p.token.token.line
    same_line = ap (λ (l : Lexeme). l.token.line) (sym (get_or-map (λ t. lexeme (symbol_of text t) t) toks place d) ∙ there)
