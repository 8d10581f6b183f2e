use Rattle.agg_reading.proofs.Refusing.{no_other}
use Rattle.agg_reading.proofs.QueryRefusals.{a_query}
use Rattle.agg_query.proofs.query.counted_query_at.Goals as goal

pub returns-clause-json : goal.returns-clause-json
returns-clause-json c = no_other (λ x. x) c.query.result _ c.query.ensures.value (a_query 32 c.args.mapping.now c.args.context c.args.before _ _)
