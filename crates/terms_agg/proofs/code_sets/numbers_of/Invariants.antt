use Rattle.std.proofs.Common.{take}
use Rattle.shard_columns.specs.Dictionary.{words_of}
use Rattle.terms_agg.specs.Codes.{content_in}
use Rattle.terms_agg.specs.Prepared.{StandForEach}
use Rattle.terms_agg.proofs.code_sets.numbers_of.Given as goal

abbrev pub invariant-loop-probe : goal.invariant-loop-probe
invariant-loop-probe l = StandForEach (content_in l.shard l.field) (words_of l.field l.shard.rows) (take l.probe-index l.probes) l.numbers.keys
