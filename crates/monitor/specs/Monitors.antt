-- What a monitor is.
use Rattle.rule.specs.Ruled.{rule_formula}
use Rattle.compact.specs.Compacts.{formula_of}
use Rattle.monitor.specs.Monitoring.{State}
use Rattle.monitor.specs.declared.monitor.Monitor.{Monitor}

abbrev pub state_of : Monitor → State
state_of m = record {
  signals = m.rule.signals;
  rule = rule_formula m.rule;
  obligation = formula_of m.obligation;
  next = m.next;
  decided = m.decided;
}
