-- The statistics of the four breakers, as a pass that has the whole cap shows them.
-- Elasticsearch Reference 8, 'Nodes stats API', 'breakers'.
use Rattle.agg_model.specs.declared.breaker.Limits.{Limits}
use Rattle.agg_model.specs.declared.breaker.Which.{Which}
use Rattle.agg_model.specs.declared.breaker.Which.TheVariants.{Request, Fielddata, Inflight, Parent}
use Rattle.agg_model.specs.declared.breaker.BreakerStats.{BreakerStats}
use Rattle.agg_model.specs.declared.breaker.Totals.{Totals}
use Rattle.breaker_words.specs.declared.view.View.{View}
use Rattle.agg_model.specs.Breakers.{limit_of, overhead_of}
use Rattle.breaker_words.specs.Views.{hold_of, granted_of, trips_of}

abbrev pub stats_of : Limits → View → Which → BreakerStats
stats_of l v x = record { limit = limit_of l x; estimated = hold_of v x; granted = granted_of v x; overhead = overhead_of x; tripped = trips_of v x }

abbrev pub totals_of : Limits → View → Totals
totals_of l v = record { request = stats_of l v Request; fielddata = stats_of l v Fielddata; inflight = stats_of l v Inflight; parent = stats_of l v Parent }
