use Rattle.std.proofs.Common.{[], length, get_or, refl, ◌∙◌, ap, arith}
use Rattle.shard_columns.specs.Dictionary.{words_of}
use Rattle.shard_columns.proofs.Reading.{words-are, words-few}
use Rattle.shard_columns.proofs.Weighing.{length-words}
use Rattle.shard_columns.proofs.shard.Shard.words.Goals as goal

pub overflow_cast-result : goal.overflow_cast-result
overflow_cast-result c = omega (arith, c.count_of.ensures, ap length (words-are c.self.inside c.args.self.now c.self.view_is c.self.invariant c.args.field c.as_slice.result.now (get_or c.as_slice.result.now c.args.field []) c.as_slice.ensures.value refl), length-words (words_of c.args.field c.args.self.now.rows), words-few c.self.inside c.args.self.now c.self.view_is c.self.invariant c.args.field)

pub returns : goal.returns
returns c = c.count_of.ensures ∙ ap length (words-are c.self.inside c.args.self.now c.self.view_is c.self.invariant c.args.field c.as_slice.result.now (get_or c.as_slice.result.now c.args.field []) c.as_slice.ensures.value refl)
