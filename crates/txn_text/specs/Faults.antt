-- What is printed of a fault.
use Rattle.std.specs.Prelude.{ℕ, List, codes}
use Rattle.txn_text.specs.declared.faults.FaultKind.{FaultKind}
use Rattle.txn_text.specs.declared.faults.FaultKind.TheVariants.{Byte, LongName, Number, Syntax, Deep, LongExpression, EndOfText, Version, RepeatedSetting, SettingRange, RepeatedTable, TooManyTables, UnknownTable, RepeatedFirst, RepeatedProgram, TooManyPrograms, UnknownLocal, ProgramLimit, ClientOrder, UnknownProgram, TooManyTransactions, AtRange, NetRange, NoSuchNode, WrongNet, PlanRange}

-- the words of a kind of fault
abbrev pub words_of : FaultKind → List ℕ
words_of Byte = codes "byte"
words_of LongName = codes "long name"
words_of Number = codes "number"
words_of Syntax = codes "syntax"
words_of Deep = codes "deep"
words_of LongExpression = codes "long expression"
words_of EndOfText = codes "end of text"
words_of Version = codes "version"
words_of RepeatedSetting = codes "repeated setting"
words_of SettingRange = codes "setting range"
words_of RepeatedTable = codes "repeated table"
words_of TooManyTables = codes "too many tables"
words_of UnknownTable = codes "unknown table"
words_of RepeatedFirst = codes "repeated first"
words_of RepeatedProgram = codes "repeated program"
words_of TooManyPrograms = codes "too many programs"
words_of UnknownLocal = codes "unknown local"
words_of ProgramLimit = codes "program limit"
words_of ClientOrder = codes "client order"
words_of UnknownProgram = codes "unknown program"
words_of TooManyTransactions = codes "too many transactions"
words_of AtRange = codes "at range"
words_of NetRange = codes "net range"
words_of NoSuchNode = codes "no such node"
words_of WrongNet = codes "wrong net"
words_of PlanRange = codes "plan range"
