use Rattle.std.proofs.Common.{List, [], ◌∷◌, ap, subst, sym, length, arith, length-append, get_or}
use Rattle.shard_columns.specs.Numbered.{Known, none_known, HasNone}
use Rattle.shard_columns.proofs.Noting.{IsNumbered-none, none-push, none-first}
use Rattle.shard_columns.proofs.words.WordNumbers.new.Goals as goal

pub loop-field-init : goal.loop-field-init
loop-field-init c = (ap length c.new-by_field.ensures.items, λ f. subst (λ (all : List Known). HasNone (get_or all f none_known)) (sym c.new-by_field.ensures.items) (none-first f))

pub loop-field-preserved : goal.loop-field-preserved
loop-field-preserved c =
    let pushed = c.in_ok-push.ensures.items in (
      omega (arith, ap length pushed, length-append c.loop-field.by_field.items (c.new.result ∷ []), c.loop-field.invariant.0),
      λ f. subst (λ (all : List Known). HasNone (get_or all f none_known)) (sym pushed) (none-push c.loop-field.by_field.items c.new.result c.new.ensures c.loop-field.invariant.1 f),
    )

pub returns-clause-empty : goal.returns-clause-empty
returns-clause-empty c = c.loop-field.invariant.1

pub returns-clause-sound : goal.returns-clause-sound
returns-clause-sound c = IsNumbered-none _ c.loop-field.invariant.1
