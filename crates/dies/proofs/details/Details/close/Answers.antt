-- `details::Details::close` meets its contract.
use Rattle.dies.proofs.WalkStateLaws.{shut_is}
use Rattle.dies.proofs.details.Details.close.Goals as goal

pub returns : goal.returns
returns c = shut_is c.requires.details_in c.requires.fits c.finish_inlines.ensures.popped c.finish_call_sites-walk.ensures
