-- What tells the kinds of aggregations apart, said once: each kind has its clause of `profile`, and most of what depends on a
-- kind reads that (Elasticsearch Reference 8, 'Aggregations').
use Rattle.std.specs.Prelude.{ℕ, ◌+◌, Bool, true, false, List, [], ◌∷◌, map, length, Option}
use Rattle.std.specs.List.{range_with_len}
use Rattle.std.specs.Option.{option_map_or}
use Rattle.agg_model.specs.declared.key.Key.{Key}
use Rattle.agg_model.specs.declared.key.Key.TheVariants.{Fixed}
use Rattle.agg_model.specs.declared.query.Query.{Query}
use Rattle.agg_model.specs.declared.aggregation.CompositeSource.{CompositeSource}
use Rattle.agg_model.specs.declared.aggregation.Kind.{Kind}
use Rattle.agg_model.specs.Options.{Options, TermsOptions, HistogramOptions, MetricOptions, options_of}

-- what a node has
pub data Form : Type 0 where
  -- a bucket for each value, of which a shard and the answer return the first
  terms : TermsOptions → Form
  -- a bucket for each interval, of numbers or of dates
  histogram : HistogramOptions → Form
  -- a bucket for each combination of the sources' keys, a page of some size behind some key
  pages : List CompositeSource → ℕ → Option Key → Form
  -- the buckets of these keys, which exist from the start
  fixed : List Key → Form
  -- a number
  number : MetricOptions → Form

-- which rows are counted, for those that the aggregation is handed
pub data Steps : Type 0 where
  -- these rows
  same : Steps
  -- the rows of a context beneath them
  down : ℕ → Steps
  -- the rows of a context around them
  up : ℕ → Steps
  -- all roots, whatever it is handed
  all_roots : Steps

pub record Profile : Type 0 where
  pub form : Form
  pub steps : Steps
  -- it stands at the top alone
  pub at_top : Bool
  -- its buckets are members of a `buckets`, and so are counted
  pub listed : Bool

-- the key of a single bucket
abbrev pub one_key : List Key
one_key = Fixed 0 ∷ []

-- the places of the filters, and the place behind them where there is an other bucket
abbrev pub filter_places : List Query → Option (List ℕ) → List Key
filter_places filters other = map Fixed (range_with_len 0 (option_map_or (λ name. length filters + 1) other (length filters)))

-- of the rows that it is handed, anywhere
abbrev pub plain : Form → Profile
plain form = record { form = form; steps = Steps.same; at_top = false; listed = true }

-- one bucket, anywhere
abbrev pub single : Steps → Profile
single steps = record { form = Form.fixed one_key; steps = steps; at_top = false; listed = false }

abbrev pub profile_of : Options → Profile
profile_of (Options.Terms t) = plain (Form.terms t)
profile_of (Options.Histogram h) = plain (Form.histogram h)
profile_of (Options.Filters names filters other) = plain (Form.fixed (filter_places filters other))
profile_of (Options.Filter query) = single Steps.same
profile_of (Options.Missing field) = single Steps.same
profile_of Options.Global = record (single Steps.all_roots) { at_top = true }
profile_of (Options.Nested context) = single (Steps.down context)
profile_of (Options.ReverseNested context) = single (Steps.up context)
profile_of (Options.Composite sources size after) = record (plain (Form.pages sources size after)) { at_top = true }
profile_of (Options.Metric m) = plain (Form.number m)

abbrev pub profile : Kind → Profile
profile k = profile_of (options_of k)
