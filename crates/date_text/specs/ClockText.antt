-- What a clock shows, in the two parts in which it is written.
use Rattle.std.specs.Prelude.{ℕ, List, ◌++◌, codes}
use Rattle.date_spec.specs.Calendar.{Date}
use Rattle.date_spec.specs.Instants.{Time}
use Rattle.date_spec.specs.Shapes.{padded}

-- YYYY-MM-DD
abbrev pub date_text : Date → List ℕ
date_text d = padded 4 d.year ++ (codes "-" ++ (padded 2 d.month ++ (codes "-" ++ padded 2 d.day)))

-- hh:mm:ss.mmm
abbrev pub time_text : Time → List ℕ
time_text t = padded 2 t.hour ++ (codes ":" ++ (padded 2 t.minute ++ (codes ":" ++ (padded 2 t.second ++ (codes "." ++ padded 3 t.milli)))))
