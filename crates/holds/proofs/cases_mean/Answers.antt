use Rattle.holds.specs.Cases.{Hold}
use Rattle.holds.proofs.Cases.{first_case_means}
use Rattle.holds.proofs.cases_mean.Goals as goal

pub returns : goal.returns
returns c = first_case_means Hold
