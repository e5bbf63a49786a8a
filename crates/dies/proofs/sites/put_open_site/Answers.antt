-- `sites::put_open_site` meets its contract.
use Rattle.dies.proofs.SiteLaws.{put-site}
use Rattle.dies.proofs.sites.put_open_site.Goals as goal

pub returns : goal.returns
returns c = search put-site
