use Rattle.std.proofs.Common.{map, sym, ◌∙◌, ap}
use Rattle.agg_model.specs.declared.mapping.FieldKind.TheVariants.{Boolean}
use Rattle.agg_model.specs.declared.row.Scalar.TheVariants.{Flag}
use Rattle.agg_evaluation.specs.Rows.{values_of, row_of}
use Rattle.shard_columns.specs.Lent.{flags_in}
use Rattle.shard_columns.proofs.Presenting.{flags-all}
use Rattle.shard_columns.proofs.Reading.{home-in, column-sound, flags-lent, of-kind, no-column}
use Rattle.shard_columns.proofs.shard.Shard.flags.Goals as goal

pub flags_at-requires : goal.flags_at-requires
flags_at-requires c = record {
  sound = column-sound c.self.inside c.args.self.now c.self.view_is c.self.invariant c.args.row c.args.field c.as_slice.result.now c.in-Some.column.now c.requires c.as_slice.ensures.value c.in-Some.ensures.some;
  in_range = home-in c.self.inside c.args.self.now c.self.view_is c.self.invariant c.args.row c.requires;
}

pub returns-in-Some-clause-exact : goal.returns-in-Some-clause-exact
returns-in-Some-clause-exact c = c.flags_at.ensures ∙ flags-lent c.self.inside c.args.self.now c.self.view_is c.self.invariant c.args.row c.args.field c.as_slice.result.now c.in-Some.column.now c.requires c.as_slice.ensures.value c.in-Some.ensures.some

pub returns-in-Some-clause-values : goal.returns-in-Some-clause-values
returns-in-Some-clause-values c = λ kind.
    ap (map Flag) (c.flags_at.ensures ∙ flags-lent c.self.inside c.args.self.now c.self.view_is c.self.invariant c.args.row c.args.field c.as_slice.result.now c.in-Some.column.now c.requires c.as_slice.ensures.value c.in-Some.ensures.some)
    ∙ flags-all (values_of c.args.field (row_of c.args.self.now.rows c.args.row)) (of-kind c.self.inside c.args.self.now c.self.view_is c.self.invariant c.args.row c.args.field Boolean kind)

pub returns-in-None-clause-exact : goal.returns-in-None-clause-exact
returns-in-None-clause-exact c = sym (ap flags_in (no-column c.self.inside c.args.self.now c.self.view_is c.self.invariant c.args.row c.args.field c.as_slice.result.now c.requires c.as_slice.ensures.value c.in-None.ensures.none))

pub returns-in-None-clause-values : goal.returns-in-None-clause-values
returns-in-None-clause-values c = λ kind. sym (no-column c.self.inside c.args.self.now c.self.view_is c.self.invariant c.args.row c.args.field c.as_slice.result.now c.requires c.as_slice.ensures.value c.in-None.ensures.none)
