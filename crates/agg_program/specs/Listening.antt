-- The one listener of a run, before its first line. The program's own.
use Rattle.std.specs.Prelude.{[], ◌∷◌}
use Rattle.agg_listen.specs.Hearing.{Hearing}
use Rattle.agg_listen.specs.Standing.{Standing}

abbrev pub alone : Standing → Hearing
alone listener = record { line = 1; listeners = listener ∷ [] }
