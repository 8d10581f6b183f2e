-- What is around a pipeline, as the definitions say it ('Pipeline aggregations').
use Rattle.agg_reading.specs.PipePaths as paths
use Rattle.request_pipes.specs.declared.placing.Around.{Around}
use Rattle.request_pipes.specs.declared.placing.Around.TheVariants as around

abbrev pub around_value : Around → paths.Around
around_value around.Histogram = paths.Around.histogram
around_value around.Buckets = paths.Around.buckets
around_value around.Other = paths.Around.other
