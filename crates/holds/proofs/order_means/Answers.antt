use Rattle.std.proofs.Common.{ℕ}
use Rattle.holds.proofs.Cases.{first_case_means}
use Rattle.holds.proofs.order_means.Goals as goal

pub returns : goal.returns
returns c = first_case_means ℕ
