-- `collect_placed` has room for the file table and the lines: the fields of a sheet bound both.
use Rattle.tlv.proofs.PlaceFacts.{placed-start}
use Rattle.line_answers.proofs.AnswerLaws.{possible-room, lines-room, collected-rows}
use Rattle.line_answers.proofs.collected.collect_placed.Goals as goal

pub new-table-requires-clause-files_few : goal.new-table-requires-clause-files_few
new-table-requires-clause-files_few c = search possible-room

pub collect_lines-requires-clause-placed : goal.collect_lines-requires-clause-placed
collect_lines-requires-clause-placed c = search placed-start

pub collect_lines-requires-clause-lines_room : goal.collect_lines-requires-clause-lines_room
collect_lines-requires-clause-lines_room c = search lines-room

pub returns : goal.returns
returns c = search collected-rows
