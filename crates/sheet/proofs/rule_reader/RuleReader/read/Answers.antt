use Rattle.std.proofs.Common.{◌≡◌, ◌≤◌, IsErrAnd, Ok, rules, sym, subst, arith}
use Rattle.std.specs.Result.{MatchResult}
use Rattle.parts.specs.Places.{formula}
use Rattle.parts.specs.Tables.{parts_of}
use Rattle.roster.specs.declared.fault.RuleFault.TheVariants.{Large}
use Rattle.reader.specs.Answers.{RuleRead}
use Rattle.rule.specs.Ruled.{Ruled as Became}
use Rattle.sheet.proofs.Ruling.{ruled_break, ruled_become}
use Rattle.sheet.proofs.rule_reader.RuleReader.read.Goals as goal

pub returns-in_err-top : goal.returns-in_err-top
returns-in_err-top c =
    λ ws h. let few : c.args.self.now.words.count ≤ 200 = omega arith in
    ruled_break ws c.args.self.now.words _ h few c.as_slice.ensures.items c.args.signals c.args.line c.args.rule.now _ _ c.from_residual.ensures.1 c.in_err-top.ensures.worded

pub returns : goal.returns
returns c =
    λ ws h. let few : c.args.self.now.words.count ≤ 200 = omega arith in
    let read = c.in_ok-top.ensures.worded in
    let stands = subst (λ t. RuleRead c.as_slice.result.now (parts_of t) c.in_ok-top.top) (sym c.table.ensures) read.0 in
    let mapped : MatchResult c.become_part.result (λ x. c.map_err.result ≡ Ok x) (λ e. IsErrAnd c.map_err.result (λ f. f ≡ Large c.args.line)) = search rules in
    let became : Became c.args.rule.now c.become_part.new.self c.args.signals (formula (parts_of c.table.result.now) c.in_ok-top.top) c.become_part.result = search rules in
    ruled_become ws c.args.self.now.words _ h few c.as_slice.ensures.items c.args.signals c.args.line (parts_of c.table.result.now) c.in_ok-top.top stands read.1 c.requires c.args.rule.now c.become_part.new.self _ _ became mapped
