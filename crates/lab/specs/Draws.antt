-- What is drawn from a generator: transfers between accounts, one after another.
use Rattle.std.specs.Prelude.{ℕ, zero, suc, ◌+◌, ◌-◌, ◌%◌, nat_le, if◌then◌else◌, List, [], ◌∷◌}
use Rattle.rand_pcg.specs.Lcg.{Lcg, started, increment_of}
use Rattle.rand_pcg.specs.Pcg.{multiplier_64, pcg32}
use Rattle.lab.specs.declared.draws.TheConstants.{ACCOUNTS, GREATEST_AMOUNT}
use Rattle.lab.specs.declared.draws.Transfer.{Transfer}

-- the stream of all generated scripts
abbrev pub stream : ℕ
stream = 54

-- the generator of a seed
unfoldable pub generator : ℕ → Lcg
generator seed = started 64 multiplier_64 seed (increment_of 64 stream)

-- a draw below a number, which is the next word modulo that number, and the generator behind it
unfoldable pub draw : ℕ → Lcg → ℕ × Lcg
draw below g = ((pcg32 g).0 % below, (pcg32 g).1)

-- another account than `from`: the numbers at or above it are moved up by one
abbrev pub apart_from : ℕ → ℕ → ℕ
apart_from from other = if nat_le from other then other + 1 else other

-- what three draws make: the account from which, the account to which, and the amount
abbrev pub transfer_by : ℕ → ℕ → ℕ → Transfer
transfer_by first second third =
    record { from = 1 + first; to = apart_from (1 + first) (1 + second); amount = 1 + third }

-- the next transfer, and the generator behind it
unfoldable pub next_transfer : Lcg → Transfer × Lcg
next_transfer g =
    let first = draw ACCOUNTS g in
    let second = draw (ACCOUNTS - 1) first.1 in
    let third = draw GREATEST_AMOUNT second.1 in
    (transfer_by first.0 second.0 third.0, third.1)

-- so many transfers, one after another
abbrev pub transfers : ℕ → Lcg → List Transfer
transfers zero g = []
transfers (suc n) g = (next_transfer g).0 ∷ transfers n (next_transfer g).1
