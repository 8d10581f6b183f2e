use Rattle.std.proofs.Common.{◌≡◌, ◌≤◌, ◌-◌, vec_len}
use Rattle.agg_base.specs.Lines.{unread, has_ended, Gave, KeepsCounts}
use Rattle.agg_model.specs.declared.limits.TheConstants.{MAX_LINE}
use Rattle.agg_base.proofs.lines.Lines.gather.Given as goal

abbrev pub invariant-loop-end : goal.invariant-loop-end
invariant-loop-end g l = record {
  same : unread l.self ≡ unread l.initial.self;
  gave : Gave l.initial.self l.self;
  ended : has_ended l.self ≡ has_ended l.initial.self;
  counts : KeepsCounts l.initial.self l.self;
  never_falls : g.S.Source.faults l.initial.self.source.now ≤ g.S.Source.faults l.self.source.now;
}

abbrev pub decreases-loop-end : goal.decreases-loop-end
decreases-loop-end g l = MAX_LINE - vec_len l.self.line
