use Rattle.std.proofs.Common.{◌≡◌, Some, rules}
use Rattle.std.proofs.iter.Serving.{serving}
use Rattle.parts.specs.Tables.{parts_of}
use Rattle.grammar.specs.Scan.{unknown}
use Rattle.reader.specs.Answers.{RuleRead}
use Rattle.sheet.proofs.Wording.{fault_within, unknown_fits}
use Rattle.sheet.proofs.rule_reader.read_words.Goals as goal

pub map_err-requires : goal.map_err-requires
map_err-requires c =
    λ e h. let inside = fault_within c.args.words.now _ c.read.result e c.read.ensures.answers h in
    let few = c.requires in
    grind serving

pub returns-in-Some-clause-worded : goal.returns-in-Some-clause-worded
returns-in-Some-clause-worded c =
    let read : RuleRead c.args.words.now (parts_of c.read.new.self.table) c.in_ok-top.top = search rules in
    let found : unknown c.args.signals c.args.words.now ≡ Some c.in-Some.at = cc in
    let fits = unknown_fits c.args.signals c.args.line c.args.words.now c.in-Some.at _ _ read found in
    cc
