use Rattle.temporal.proofs.laws.parts_in_order.Goals as goal
use Rattle.temporal.proofs.Order.{parts_in_order}

pub returns : goal.returns
returns c = parts_in_order
