-- The names of the lower crates as definitions and proofs cite them, from one place: names and their orders, messages
-- and events. A choice of Commit is ToCommit, since a vote is Commit too; the bodies Drop and Vote are Drops and Voted.
pub use Rattle.morty_base.specs.declared.names.Version.{Version}
pub use Rattle.morty_base.specs.declared.names.Exec.{Exec}
pub use Rattle.morty_base.specs.declared.names.Wid.{Wid}
pub use Rattle.morty_base.specs.declared.names.Key.{Key}
pub use Rattle.morty_base.specs.declared.names.NodeId.{NodeId}
pub use Rattle.morty_base.specs.declared.names.NodeId.TheVariants.{Client, Replica, Warden}
pub use Rattle.morty_base.specs.declared.names.Ending.{Ending}
pub use Rattle.morty_base.specs.declared.names.Ending.TheVariants.{Done, Abort, Overflow, ZeroDivisor}
pub use Rattle.morty_base.specs.declared.names.Ended.{Ended}
pub use Rattle.morty_base.specs.declared.names.Ended.TheVariants.{Quiet, Spent, Full}
pub use Rattle.morty_base.specs.Names.{no_version, first_wid, IsBefore, IsUpTo}
unfoldable pub use Rattle.morty_base.specs.Names.{before, same_version, exec_before, same_exec, wid_before, same_wid, key_before, same_key, node_before, same_node}
pub use Rattle.msg.specs.declared.Vote.{Vote}
pub use Rattle.msg.specs.declared.Choice.{Choice}
pub use Rattle.msg.specs.declared.Read.{Read}
pub use Rattle.msg.specs.declared.Write.{Write}
pub use Rattle.msg.specs.declared.Content.{Content}
pub use Rattle.msg.specs.declared.Accept.{Accept}
pub use Rattle.msg.specs.declared.Kept.{Kept}
pub use Rattle.msg.specs.declared.BaseEntry.{BaseEntry}
pub use Rattle.msg.specs.declared.Body.{Body}
pub use Rattle.msg.specs.declared.Envelope.{Envelope}
pub use Rattle.msg.specs.declared.Pick.{Pick}
pub use Rattle.msg.specs.declared.Event.{Event}
pub use Rattle.msg.specs.declared.Vote.TheVariants.{Commit, Tentative, Final}
pub use Rattle.msg.specs.declared.Choice.TheVariants.{Abandon, Commit as ToCommit}
pub use Rattle.msg.specs.declared.Body.TheVariants.{Get, Note, Puts, Prepare, Vote as Voted, Finalize, Accepted, Decide, Ask, Told, Fence, Fenced, Drop as Drops, TooOld}
pub use Rattle.msg.specs.declared.Pick.TheVariants.{Idle, Deliver, Go, Hurry, Recover, Truncate, Stop}
pub use Rattle.msg.specs.declared.Event.TheVariants.{Picked, Ran}
pub use Rattle.msg.specs.Events.{node_of}
