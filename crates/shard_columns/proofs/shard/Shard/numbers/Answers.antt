use Rattle.std.proofs.Common.{sym, ◌∙◌, ap}
use Rattle.shard_columns.specs.Lent.{wholes_in}
use Rattle.shard_columns.proofs.Reading.{home-in, column-sound, wholes-lent, whole-values, no-column}
use Rattle.shard_columns.proofs.shard.Shard.numbers.Goals as goal

pub wholes_at-requires : goal.wholes_at-requires
wholes_at-requires c = record {
  sound = column-sound c.self.inside c.args.self.now c.self.view_is c.self.invariant c.args.row c.args.field c.as_slice.result.now c.in-Some.column.now c.requires c.as_slice.ensures.value c.in-Some.ensures.some;
  in_range = home-in c.self.inside c.args.self.now c.self.view_is c.self.invariant c.args.row c.requires;
}

pub returns-in-Some-clause-exact : goal.returns-in-Some-clause-exact
returns-in-Some-clause-exact c = c.wholes_at.ensures ∙ wholes-lent c.self.inside c.args.self.now c.self.view_is c.self.invariant c.args.row c.args.field c.as_slice.result.now c.in-Some.column.now c.requires c.as_slice.ensures.value c.in-Some.ensures.some

pub returns-in-Some-clause-values : goal.returns-in-Some-clause-values
returns-in-Some-clause-values c = λ holds. whole-values c.self.inside c.args.self.now c.self.view_is c.self.invariant c.args.row c.args.field c.wholes_at.result.now (c.wholes_at.ensures ∙ wholes-lent c.self.inside c.args.self.now c.self.view_is c.self.invariant c.args.row c.args.field c.as_slice.result.now c.in-Some.column.now c.requires c.as_slice.ensures.value c.in-Some.ensures.some) holds

pub returns-in-None-clause-exact : goal.returns-in-None-clause-exact
returns-in-None-clause-exact c = sym (ap wholes_in (no-column c.self.inside c.args.self.now c.self.view_is c.self.invariant c.args.row c.args.field c.as_slice.result.now c.requires c.as_slice.ensures.value c.in-None.ensures.none))

pub returns-in-None-clause-values : goal.returns-in-None-clause-values
returns-in-None-clause-values c = λ holds. sym (no-column c.self.inside c.args.self.now c.self.view_is c.self.invariant c.args.row c.args.field c.as_slice.result.now c.requires c.as_slice.ensures.value c.in-None.ensures.none)
