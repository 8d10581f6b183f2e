use Rattle.std.proofs.Common.{pos, ◌∙◌, ap, rules, refl}
use mir.Syntax.{w128}
use Rattle.std.proofs.lemmas.Int.{to_z-of_z}
use Rattle.agg_model.specs.declared.query.Probe.TheVariants as probe
use Rattle.column_query.proofs.Standing.{number-bounds, place-bound, word-ordered}
use Rattle.column_query.proofs.bounds.bound_of_word.Goals as goal

pub returns-in-Some : goal.returns-in-Some
returns-in-Some c =
    let rows = c.args.shard.now.rows in
    number-bounds rows c.args.field (record { op = c.args.op; value = probe.Word c.args.word.now }) (probe.Word c.args.word.now) (pos c.in-Some.ordinal) _ refl
    (to_z-of_z w128 c.from.result (search rules) ∙ c.from.ensures) (word-ordered rows c.args.field c.args.word.now c.in-Some.ordinal c.in-Some.ensures.found c.requires)

pub returns-in-None : goal.returns-in-None
returns-in-None c =
    let rows = c.args.shard.now.rows in
    place-bound rows c.args.field c.args.op c.without_equal.result c.args.word.now _ c.in-None.ensures.absent c.requires c.without_equal.ensures
    (to_z-of_z w128 c.from-in-None.result (search rules) ∙ (c.from-in-None.ensures ∙ ap pos c.place_of_word.ensures))
