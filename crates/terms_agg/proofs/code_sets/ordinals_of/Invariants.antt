use Rattle.std.proofs.Common.{take}
use Rattle.shard_columns.specs.Dictionary.{words_of}
use Rattle.terms_agg.specs.declared.content.Content.TheVariants as hold
use Rattle.terms_agg.specs.Prepared.{StandForEach}
use Rattle.terms_agg.proofs.code_sets.ordinals_of.Given as goal

abbrev pub invariant-loop-probe : goal.invariant-loop-probe
invariant-loop-probe l = StandForEach hold.Words (words_of l.field l.shard.rows) (take l.probe-index l.probes) l.ordinals.items
