-- `own_declarations::number_of` meets its contract. A unit that was reached is described, and the file looked up in the table.
use Rattle.declarations.proofs.OwnDeclarationLaws.{number-imported, number-reached, number-none, described-files, number-looked}
use Rattle.declarations.proofs.own_declarations.number_of.Goals as goal

pub returns-then-not-here : goal.returns-then-not-here
returns-then-not-here c = number-imported c.requires.declaring_in _ _ c.if-not-here.true c.get_index.ensures

pub returns-then-lacks_header : goal.returns-then-lacks_header
returns-then-lacks_header c = number-reached c.requires.declaring_in _ _ c.if-not-here.false (number-none c.requires.declaring_in c.args.here.now.at.input c.requires.unit_known (rw c.of.ensures at c.lacks_header.ensures) c.if-lacks_header.true)

pub look_up_file-requires-clause-files_in : goal.look_up_file-requires-clause-files_in
look_up_file-requires-clause-files_in c = described-files c.requires.declaring_in c.args.here.now.at.input c.requires.unit_known (rw c.of.ensures at c.lacks_header.ensures) c.if-lacks_header.false c.describe-described.ensures c.describe-described.auto.work

pub returns : goal.returns
returns c = number-reached c.requires.declaring_in _ _ c.if-not-here.false (number-looked c.requires.declaring_in c.args.here.now.at.input c.requires.unit_known (rw c.of.ensures at c.lacks_header.ensures) c.if-lacks_header.false c.describe-described.ensures c.describe-described.auto.work c.look_up_file.ensures)
