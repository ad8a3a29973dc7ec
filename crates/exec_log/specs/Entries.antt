-- The reads and writes of a log as the keys with values of a replay.
use Rattle.std.specs.Prelude.{List, [], map}
use Rattle.morty_base.specs.declared.names.Ending.{Ending}
use Rattle.morty_base.specs.declared.names.Ending.TheVariants.{Done}
use Rattle.msg.specs.declared.Read.{Read}
use Rattle.msg.specs.declared.Write.{Write}
use Rattle.txn_lang.specs.Keys.{Entry, entry}
use Rattle.exec_log.specs.declared.read.LogRead.{LogRead}

abbrev pub read_entry : LogRead → Entry
read_entry r = entry r.key r.value

abbrev pub write_entry : Write → Entry
write_entry w = entry w.key w.value

-- a read without what is sure of it
abbrev pub read_of : LogRead → Read
read_of r = record { key = r.key; wid = r.wid; value = r.value }

abbrev pub content_entry : Read → Entry
content_entry r = entry r.key r.value

abbrev pub read_entries : List LogRead → List Entry
read_entries reads = map read_entry reads

abbrev pub write_entries : List Write → List Entry
write_entries writes = map write_entry writes

-- the writes made are kept where the ending is Done
abbrev pub kept_writes : Ending → List Write → List Write
kept_writes Done writes = writes
kept_writes _ writes = []
