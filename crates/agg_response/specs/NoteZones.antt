-- Pipelines whose notes have instants for keys, as a run of the printer has them ('Pipeline aggregations').
use Rattle.std.specs.Prelude.{ℤ, List, map}
use Rattle.agg_model.specs.declared.pipeline.Pipe.{Pipe}
use Rattle.agg_response.specs.declared.note_zones.Dated.{Dated}

-- each with its zone
abbrev pub dated_values : List Dated → List (ℤ × Pipe)
dated_values dated = map (λ d. (d.zone, d.pipe.now)) dated
