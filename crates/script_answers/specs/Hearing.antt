-- What listeners hear of the lines of a whole output.
use Rattle.std.specs.Prelude.{List, map, min}
use Rattle.agg_listen.specs.Hearing.{last_number}
use Rattle.agg_listen.specs.declared.listener.Told.{Told}
use Rattle.agg_spec.specs.Written.{Line, told}
use Rattle.agg_spec.specs.Written.{Told as Defined}

-- the same with a number of 64 bits, which stands still at the last one
abbrev pub with_number : Defined → Told
with_number t = record { line = min t.line last_number; status = t.status; bytes = t.bytes }

abbrev pub heard_of : List Line → List Told
heard_of written = map with_number (told written)
