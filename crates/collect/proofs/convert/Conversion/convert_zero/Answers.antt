-- `convert::Conversion::convert_zero` meets its contract.
use native.Mathlib.Omega.{arith}
use Rattle.tlv.proofs.AnswerLaws.{handed}
use Rattle.collect.proofs.UnitInternLaws.{main-sheet}
use Rattle.collect.proofs.convert.ZeroRowLaws.{zero-asked, zero-refused, zero-unnamed, zero_number}
use Rattle.collect.proofs.convert.Conversion.convert_zero.Goals as goal

pub intern_file-requires-clause-file_span_in : goal.intern_file-requires-clause-file_span_in
intern_file-requires-clause-file_span_in c = rw (main-sheet c.args.self.sheets.main.now c.args.self.sheets.supplementary.now _ c.requires.conversion_in.source) ((zero-asked c.requires.conversion_in c.args.row c.requires.unnumbered c.requires.file_zero).1.1.0)

pub intern_file-requires-clause-of_unit : goal.intern_file-requires-clause-of_unit
intern_file-requires-clause-of_unit c = rw (main-sheet c.args.self.sheets.main.now c.args.self.sheets.supplementary.now _ c.requires.conversion_in.source) ((zero-asked c.requires.conversion_in c.args.row c.requires.unnumbered c.requires.file_zero).1.1.1.0)

pub returns-in_err-added : goal.returns-in_err-added
returns-in_err-added c = rw (handed _ _ c.from_residual.ensures.1) (zero-refused c.requires.conversion_in c.args.row c.requires.unnumbered c.requires.file_zero (rw (main-sheet c.args.self.sheets.main.now c.args.self.sheets.supplementary.now _ c.requires.conversion_in.source) at c.in_err-added.ensures))

pub returns-in_default : goal.returns-in_default
returns-in_default c = zero-unnamed c.requires.conversion_in c.args.row c.requires.unnumbered c.requires.file_zero (rw ((main-sheet c.args.self.sheets.main.now c.args.self.sheets.supplementary.now _ c.requires.conversion_in.source), c.in_default.is) at c.in_ok-added.ensures) c.intern_file.auto.work (omega (arith, c.well_formed.1.1.1.1.1.1.0)) (omega (arith, c.well_formed.1.1.1.1.1.0))

pub returns : goal.returns
returns c = zero_number c.requires.conversion_in c.args.row c.requires.unnumbered c.requires.file_zero c.requires.line_fits c.intern_file.auto.work (rw ((main-sheet c.args.self.sheets.main.now c.args.self.sheets.supplementary.now _ c.requires.conversion_in.source), c.in-Some.is) at c.in_ok-added.ensures) c.insert_index.ensures c.insert_index.auto.work c.convert_line.ensures c.convert_line.auto.work
