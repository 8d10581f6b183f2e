use Rattle.agg_spec.proofs.WithoutPipelines.{piped-plain, plain-in-range}
use Rattle.agg_spec.proofs.laws.without_pipelines_an_answer_stays_as_it_is.Goals as goal

pub returns-clause-answer : goal.returns-clause-answer
returns-clause-answer c search answer none = piped-plain search answer none

pub returns-clause-range : goal.returns-clause-range
returns-clause-range c search answer none = plain-in-range search answer none
