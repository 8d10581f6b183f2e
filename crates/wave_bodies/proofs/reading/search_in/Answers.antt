use Rattle.std.proofs.Common.{subst}
use Rattle.std.specs.Prelude.{IfOk, IsTrue}
use Rattle.agg_evaluation.specs.SearchFits.{search_fits}
use Rattle.fitting_laws.proofs.Searches.{search_fits_of}
use Rattle.wave_bodies.proofs.reading.search_in.Goals as goal

pub returns-in-Ok-clause-made : goal.returns-in-Ok-clause-made
returns-in-Ok-clause-made c =
    let m = c.args.index.now.mapping in
    subst (λ r. IfOk r (λ s. IsTrue (search_fits m s))) c.in-Ok.ensures (search_fits_of m c.as_slice.result.now)
