use Rattle.listing.proofs.Wholes.{whole_means}
use Rattle.listing.proofs.laws.whole_means.Goals as goal

pub returns : goal.returns
returns c = whole_means
