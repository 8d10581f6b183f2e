-- The four breakers, three children and their parent (Elasticsearch Reference 8, 'Circuit breaker settings').
use Rattle.std.specs.Prelude.{ℕ}
use Rattle.agg_model.specs.declared.costs.TheConstants.{FIELDDATA_OVERHEAD, INFLIGHT_OVERHEAD, PARENT_OVERHEAD, REQUEST_OVERHEAD}
use Rattle.agg_model.specs.declared.breaker.Limits.{Limits}
use Rattle.agg_model.specs.declared.breaker.Child.{Child}
use Rattle.agg_model.specs.declared.breaker.Child.TheVariants as child
use Rattle.agg_model.specs.declared.breaker.Which.{Which}
use Rattle.agg_model.specs.declared.breaker.Which.TheVariants.{Request, Fielddata, Inflight, Parent}

-- a child as one of the four
abbrev pub which_of : Child → Which
which_of child.Request = Request
which_of child.Fielddata = Fielddata
which_of child.Inflight = Inflight

-- in bytes
abbrev pub limit_of : Limits → Which → ℕ
limit_of l Request = l.request
limit_of l Fielddata = l.fielddata
limit_of l Inflight = l.inflight
limit_of l Parent = l.parent

-- in per cent
abbrev pub overhead_of : Which → ℕ
overhead_of Request = REQUEST_OVERHEAD
overhead_of Fielddata = FIELDDATA_OVERHEAD
overhead_of Inflight = INFLIGHT_OVERHEAD
overhead_of Parent = PARENT_OVERHEAD
