-- `joins::join_files` meets its contract. The unit is described, and its header's files are interned.
use mathlib.Core.Path.{refl}
use native.Mathlib.Omega.{arith}
use Rattle.tlv.proofs.AnswerLaws.{handed}
use Rattle.declarations.proofs.OwnDeclarationLaws.{described-files}
use Rattle.declarations.proofs.JoinLaws.{joins-none, join-listed, joins-refused, joins-table}
use Rattle.declarations.proofs.joins.join_files.Goals as goal

pub returns-then-lacks_header : goal.returns-then-lacks_header
returns-then-lacks_header c = joins-none c.requires.declaring_in c.args.input c.requires.unit_known (rw c.of.ensures at c.lacks_header.ensures) (omega (arith, c.well_formed)) c.if-lacks_header.true

pub intern_header_files-requires-clause-files_in : goal.intern_header_files-requires-clause-files_in
intern_header_files-requires-clause-files_in c = described-files c.requires.declaring_in c.args.input c.requires.unit_known (rw c.of.ensures at c.lacks_header.ensures) c.if-lacks_header.false c.describe-described.ensures c.describe-described.auto.work

pub intern_header_files-requires-clause-listed : goal.intern_header_files-requires-clause-listed
intern_header_files-requires-clause-listed c = join-listed c.requires.declaring_in c.args.input c.requires.unit_known (rw c.of.ensures at c.lacks_header.ensures) c.if-lacks_header.false c.describe-described.ensures c.describe-described.auto.work

pub returns-in_err-joined : goal.returns-in_err-joined
returns-in_err-joined c = rw (handed _ _ c.from_residual.ensures.1) (joins-refused c.requires.declaring_in c.args.input c.requires.unit_known (rw c.of.ensures at c.lacks_header.ensures) c.if-lacks_header.false c.describe-described.ensures c.describe-described.auto.work c.in_err-joined.ensures _ refl)

pub returns : goal.returns
returns c = joins-table c.requires.declaring_in c.args.input c.requires.unit_known (rw c.of.ensures at c.lacks_header.ensures) c.if-lacks_header.false c.describe-described.ensures c.describe-described.auto.work c.in_ok-joined.ensures _ refl
