use Rattle.std.proofs.Common.{◌≡◌, drop}
use Rattle.std.specs.List.{list_any}
use Rattle.std.specs.Str.{bytes_eq}
use Rattle.agg_reading.specs.After.{source_names}
use Rattle.request_kinds.proofs.after.is_source_name.Given as goal

abbrev pub invariant-loop-source : goal.invariant-loop-source
invariant-loop-source l =
    list_any (bytes_eq l.name) (source_names (drop l.source-index l.sources)) ≡ list_any (bytes_eq l.name) (source_names l.sources)
