use Rattle.listing.proofs.Ordered.{digits_are_signals}
use Rattle.listing.proofs.laws.digits_are_signals.Goals as goal

pub returns : goal.returns
returns c = digits_are_signals
