-- `own_declarations::lacks_header` meets its contract.
use Rattle.declarations.proofs.own_declarations.OwnLineLaws.{header-is}
use Rattle.declarations.proofs.own_declarations.lacks_header.Goals as goal

pub returns : goal.returns
returns c = header-is c.requires _ c.next_own.ensures c.is_none.ensures
