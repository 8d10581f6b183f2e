use Rattle.std.proofs.Common.{◌+◌, length, sym, ◌∙◌, ap, arith}
use Rattle.std.proofs.lemmas.List.{length-map}
use Rattle.agg_evaluation.specs.Rows.{row_of}
use Rattle.shard_columns.proofs.Reading.{beneath-few}
use Rattle.shard_columns.proofs.shard.Shard.child_count.Goals as goal

pub overflow_cast-result : goal.overflow_cast-result
overflow_cast-result c = omega (arith, ap length c.children.ensures.rows, length-map c.children.result.now (row_of c.args.self.now.rows), beneath-few c.args.self.now.rows (c.args.path + 1) (row_of c.args.self.now.rows c.args.row), c.children.ensures.few)

pub returns : goal.returns
returns c = sym (length-map c.children.result.now (row_of c.args.self.now.rows)) ∙ ap length c.children.ensures.rows
