-- `records::put_record` meets its contract.
use Rattle.files.proofs.StoreLaws.{byte-is, put_record}
use Rattle.files.proofs.records.put_record.Goals as goal

pub returns : goal.returns
returns c = put_record c.write.ensures (byte-is c.args.source) c.write-2.ensures c.write-3.ensures c.write-4.ensures
