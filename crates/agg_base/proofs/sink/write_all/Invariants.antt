use Rattle.std.proofs.Common.{◌≡◌, ◌≤◌, ◌-◌, take, drop, length}
use Rattle.std.specs.Io.KnownBytes.{append_known}
use Rattle.agg_base.proofs.sink.write_all.Given as goal

abbrev pub invariant-loop-rest : goal.invariant-loop-rest
invariant-loop-rest g l =
    let done = length l.bytes - length l.rest in
    record {
      rest : l.rest ≡ drop done l.bytes;
      within : length l.rest ≤ length l.bytes;
      taken : g.K.Sink.written l.sink ≡ append_known (g.K.Sink.written l.initial.sink) (take done l.bytes);
      never_falls : g.K.Sink.faults l.initial.sink ≤ g.K.Sink.faults l.sink;
    }

abbrev pub decreases-loop-rest : goal.decreases-loop-rest
decreases-loop-rest g l = length l.rest
