-- What is drawn from a generator.
use Rattle.std.specs.Prelude.{ℕ, ◌%◌}
use Rattle.rand_pcg.specs.Lcg.{Lcg, started, increment_of}
use Rattle.rand_pcg.specs.Pcg.{multiplier_64, pcg32}

-- the generator of a state and a stream
unfoldable pub generator : ℕ → ℕ → Lcg
generator state stream = started 64 multiplier_64 state (increment_of 64 stream)

-- a draw below a number, which is the next word modulo that number, and the generator behind it
unfoldable pub draw : ℕ → Lcg → ℕ × Lcg
draw below g = ((pcg32 g).0 % below, (pcg32 g).1)
