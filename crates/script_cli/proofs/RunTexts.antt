-- What is written of a run is of the world of its setup.
use Rattle.std.proofs.Common.{◌≡◌, ℕ, ◌⊎◌, List, reverse, sym, ap, inl, inr}
use Rattle.morty_base.specs.declared.names.Ended.{Ended}
use Rattle.report.specs.Text.{report_of}
use Rattle.msg.specs.declared.Event.{Event}
use Rattle.script.specs.declared.setup.Setup.{Setup}
use Rattle.script_plans.specs.Plans.{scripted}
use Rattle.world_rows.specs.Rows.{rows_of}
use Rattle.world.specs.declared.origin.Origin.{Origin}
use Rattle.world.specs.Origin.{script, world_at}
use Rattle.serial_ref.specs.declared.item.SerialItem.{SerialItem}
use Rattle.script_cli.specs.Runs.{world_for}
use Rattle.script_cli.specs.declared.words.Command.{Command}
use Rattle.script_cli.specs.declared.words.Command.TheVariants.{Run, Serial, Check, Gen}
use Rattle.script_cli.specs.declared.words.Seeded.{Seeded}
use Rattle.script_cli.specs.Due.{rows_for, text_of_run}

-- the rows of a world of an origin are those of its setup
pub rows_are : (o : Origin) (s : Setup) (journal : List Event) → o.setup ≡ s → rows_of (script o) (world_at o (reverse journal)) ≡ rows_for s journal
unfolding world_for
rows_are o s journal own = ap (λ (x : Setup). rows_of (scripted x) (world_for x (reverse journal))) own

-- and so is its mail
pub mail_is : (o : Origin) (s : Setup) (journal : List Event) → o.setup ≡ s → (world_at o (reverse journal)).mail ≡ (world_for s (reverse journal)).mail
unfolding world_for
mail_is o s journal own = ap (λ (x : Setup). (world_for x (reverse journal)).mail) own

-- a command that writes neither a trace nor a summary writes a report
pub is_reported : (c : Command) → ((x : ℕ) × (c ≡ Run x)) ⊎ (((x : List SerialItem) × (c ≡ Serial x)) ⊎ ((c ≡ Check) ⊎ ((x : Seeded) × (c ≡ Gen x)))) →
    (s : Setup) (journal : List Event) (ended : Ended) → report_of s.tables (rows_for s journal) ended ≡ text_of_run c s journal ended
is_reported c (inl is) s journal ended = ap (λ (k : Command). text_of_run k s journal ended) (sym is.1)
is_reported c (inr (inl is)) s journal ended = ap (λ (k : Command). text_of_run k s journal ended) (sym is.1)
is_reported c (inr (inr (inl is))) s journal ended = ap (λ (k : Command). text_of_run k s journal ended) (sym is)
is_reported c (inr (inr (inr is))) s journal ended = ap (λ (k : Command). text_of_run k s journal ended) (sym is.1)
