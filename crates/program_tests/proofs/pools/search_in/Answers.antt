use Rattle.std.proofs.Common.{subst}
use Rattle.std.specs.Prelude.{IfOk, IsTrue}
use Rattle.agg_evaluation.specs.SearchFits.{search_fits}
use Rattle.fitting_laws.proofs.Searches.{search_fits_of}
use Rattle.program_tests.proofs.pools.search_in.Goals as goal

pub returns-in-Ok : goal.returns-in-Ok
returns-in-Ok c =
    let m = c.args.index.now.mapping in
    record { made = subst (λ r. IfOk r (λ s. IsTrue (search_fits m s))) c.in-Ok.ensures (search_fits_of m c.as_bytes.result.now) }
