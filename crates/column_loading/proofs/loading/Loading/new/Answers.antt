use Rattle.std.proofs.Common.{refl, ap}
use Rattle.column_loading.specs.Loadings.{entries_of}
use Rattle.column_loading.proofs.Loaded.{loaded-none}
use Rattle.column_loading.proofs.loading.Loading.new.Goals as goal

pub returns-clause-none : goal.returns-clause-none
returns-clause-none c = ap (entries_of c.args.mapping.now) c.new.ensures

pub returns-clause-loading : goal.returns-clause-loading
returns-clause-loading c = loaded-none c.args.mapping.now _ c.in_ok-empty_drafts.field-0 c.requires.few c.requires.paths c.requires.some c.ranges.shards.fits c.new.ensures refl refl c.in_ok-empty_drafts.ensures
