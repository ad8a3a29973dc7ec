-- What is reported of programs that run one after another.
use Rattle.std.specs.Prelude.{◌≡◌, ℕ, List, [], ◌∷◌, map, unwrap_or}
use Rattle.morty_base.specs.declared.names.Version.{Version}
use Rattle.morty_base.specs.declared.names.Ending.TheVariants.{Done}
use Rattle.morty_base.specs.Names.{first_wid}
use Rattle.msg.specs.declared.Read.{Read}
use Rattle.txn_lang.specs.Keys.{Entry}
use Rattle.txn_lang.specs.Runs.{Run}
use Rattle.txn_lang.specs.Program.{Program, serial, last_map}
use Rattle.report.specs.declared.rows.CommitRow.{CommitRow}
use Rattle.report.specs.declared.rows.Rows.{Rows}
use Rattle.serial_rows.specs.Values.{AreValues}
use Rattle.serial_rows.specs.declared.item.Versioned.{Versioned}

-- a program that runs at a version, as this transaction of the version's client
pub record Item : Type 0 where
  pub ver : Version
  pub txn : ℕ
  pub program : Program

abbrev pub item_of : Versioned → Item
item_of v = record { ver = v.ver; txn = v.txn; program = v.prog.now }

abbrev pub programs_of : List Item → List Program
programs_of items = map (λ i. i.program) items

-- a serial run knows no write names: each read has that of a first value
abbrev pub read_row : Entry → Read
read_row e = record { key = e.key; wid = first_wid; value = e.value }

-- what a program did at its version, which counts as execution 0 of the first try
abbrev pub commit_row : Item → Run → CommitRow
commit_row i r = record {
  exec = record { ver = i.ver; eid = 0 };
  txn = i.txn;
  attempt = 1;
  ending = unwrap_or r.ending Done;
  reads = map read_row r.reads;
  out = r.out;
}

abbrev pub commit_rows : List Item → List Run → List CommitRow
commit_rows (i ∷ is) (r ∷ rs) = commit_row i r ∷ commit_rows is rs
commit_rows _ _ = []

-- the rows of the serial run on these first values
pub record IsSerial (firsts : List Entry) (items : List Item) (rows : Rows) : Type 0 where
  pub commits : rows.commits ≡ commit_rows items (serial firsts (programs_of items))
  pub left : rows.left ≡ []
  pub values : AreValues (last_map firsts (programs_of items)) rows.values
  pub events : rows.events ≡ 0
