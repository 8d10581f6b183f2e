-- What an answer to one aggregation is made of: the buckets that are returned, in order, and the numbers beside them.
use Rattle.std.specs.Prelude.{ℕ, List, map, Bool, Some, None}
use Rattle.std.specs.List.{list_all}
use Rattle.agg_model.specs.declared.partial.Bucket.{Bucket}
use Rattle.agg_model.specs.declared.partial.Node.{Node}
use Rattle.agg_model.specs.declared.aggregation.Order.{Order}
use Rattle.agg_model.specs.declared.answer.BucketAnswer.{BucketAnswer}
use Rattle.agg_model.specs.declared.answer.NodeAnswer.{NodeAnswer, roll-NodeAnswer}
use Rattle.agg_evaluation.specs.Trees.{pass_each}
use Rattle.agg_spec.specs.CountErrors.{precision_of, count_error}
use Rattle.agg_spec.specs.Final.{Finisher, finish_bucket}
use Rattle.final_reduce.specs.declared.select.Chosen.{Chosen}
use Rattle.final_reduce.specs.declared.select.Selected.{Selected}

abbrev pub chosen_term : List Order → ℕ → ℕ → Bucket → Chosen
chosen_term order error full b = record { error = Some (count_error (precision_of order) error b.covered full); bucket = b }

abbrev pub chosen_bucket : Bucket → Chosen
chosen_bucket b = record { error = None; bucket = b }

abbrev pub finish_chosen : List Finisher → Chosen → BucketAnswer
finish_chosen children c = finish_bucket children c.error c.bucket

-- the answer that is made of a selection
abbrev pub answer_of : List ℕ → List Finisher → Selected → NodeAnswer
answer_of name children s =
    roll-NodeAnswer (record { name = name; buckets = map (finish_chosen children) s.chosen; error = s.error; other = s.other; metric = s.metric })

-- the buckets have children that pass
abbrev pub chosen_pass : List (Node → Bool) → List Chosen → Bool
chosen_pass tests chosen = list_all (λ c. pass_each tests c.bucket.children) chosen
