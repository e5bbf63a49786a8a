-- Definition. The numbers of the warnings' kinds in document 01's table.
use Rattle.std.specs.Prelude.{ℕ}
use Rattle.buffers.specs.declared.warning.WarningKind.{WarningKind}

abbrev pub number_of : WarningKind → ℕ
number_of WarningKind.MalformedRanges = 1
number_of WarningKind.StoppedRanges = 2
number_of WarningKind.RejectedRange = 3
number_of WarningKind.InvalidStatementSequence = 4
number_of WarningKind.LineSequenceMismatch = 5
number_of WarningKind.MissingLineFile = 6
number_of WarningKind.UnrepresentableLine = 7
number_of WarningKind.MissingInlineCallFile = 8
number_of WarningKind.InvalidInlineCallLine = 9
number_of WarningKind.InvalidDeclarationFile = 10
number_of WarningKind.InvalidDeclarationLine = 11
