-- Values as bucket keys (Elasticsearch Reference 8, 'Terms aggregation').
use Rattle.agg_model.specs.declared.key.Key.{Key}
use Rattle.agg_model.specs.declared.key.Key.TheVariants.{Whole, Flag, Word}
use Rattle.agg_model.specs.declared.row.Scalar.{Scalar}
use Rattle.agg_model.specs.declared.row.Scalar.TheVariants as scalar
use Rattle.agg_model.specs.declared.query.Probe.{Probe}
use Rattle.agg_model.specs.declared.query.Probe.TheVariants as probe

-- a value of a field as a key
abbrev pub scalar_key : Scalar → Key
scalar_key (scalar.Whole n) = Whole n
scalar_key (scalar.Word w) = Word w
scalar_key (scalar.Flag b) = Flag b

-- a value that a request names as a key
abbrev pub probe_key : Probe → Key
probe_key (probe.Whole n) = Whole n
probe_key (probe.Word w) = Word w
probe_key (probe.Flag b) = Flag b
