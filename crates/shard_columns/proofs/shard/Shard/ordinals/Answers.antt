use Rattle.std.proofs.Common.{ℕ, List, [], ◌<◌, ◌≡◌, length, get_or, map, refl, sym, ◌∙◌, ap, subst}
use Rattle.agg_model.specs.declared.mapping.FieldKind.TheVariants.{Keyword}
use Rattle.agg_model.specs.declared.row.Scalar.TheVariants.{Word}
use Rattle.agg_evaluation.specs.Rows.{values_of, row_of}
use Rattle.shard_columns.specs.Dictionary.{words_of}
use Rattle.shard_columns.specs.Lent.{word_at}
use Rattle.shard_columns.specs.Values.{Words, words_in}
use Rattle.shard_columns.proofs.Presenting.{words-all}
use Rattle.shard_columns.proofs.Ranking.{map-after}
use Rattle.shard_columns.proofs.Reading.{home-in, column-sound, ordinals-lent, words-are, of-kind, no-column}
use Rattle.shard_columns.proofs.shard.Shard.ordinals.Goals as goal

pub ordinals_at-requires : goal.ordinals_at-requires
ordinals_at-requires c = record {
  sound = column-sound c.self.inside c.args.self.now c.self.view_is c.self.invariant c.args.row c.args.field c.as_slice.result.now c.in-Some.column.now c.requires c.as_slice.ensures.value c.in-Some.ensures.some;
  in_range = home-in c.self.inside c.args.self.now c.self.view_is c.self.invariant c.args.row c.requires;
}

pub returns-in-Some-clause-exact : goal.returns-in-Some-clause-exact
returns-in-Some-clause-exact c =
    let words = words-are c.self.inside c.args.self.now c.self.view_is c.self.invariant c.args.field c.self.inside.words.items (get_or c.self.inside.words.items c.args.field []) refl refl in
    (λ i. map (word_at (sym words i)) (c.ordinals_at.ensures i)) ∙ (ordinals-lent c.self.inside c.args.self.now c.self.view_is c.self.invariant c.args.row c.args.field c.as_slice.result.now c.in-Some.column.now c.requires c.as_slice.ensures.value c.in-Some.ensures.some).0

pub returns-in-Some-clause-values : goal.returns-in-Some-clause-values
returns-in-Some-clause-values c = λ kind.
    let words = words-are c.self.inside c.args.self.now c.self.view_is c.self.invariant c.args.field c.self.inside.words.items (get_or c.self.inside.words.items c.args.field []) refl refl in
    let exact : map (word_at (words_of c.args.field c.args.self.now.rows)) c.ordinals_at.result.now ≡ words_in (values_of c.args.field (row_of c.args.self.now.rows c.args.row)) =
    (λ i. map (word_at (sym words i)) (c.ordinals_at.ensures i)) ∙ (ordinals-lent c.self.inside c.args.self.now c.self.view_is c.self.invariant c.args.row c.args.field c.as_slice.result.now c.in-Some.column.now c.requires c.as_slice.ensures.value c.in-Some.ensures.some).0 in
    sym (map-after Word (word_at (words_of c.args.field c.args.self.now.rows)) c.ordinals_at.result.now)
    ∙ (ap (map Word) exact ∙ words-all (values_of c.args.field (row_of c.args.self.now.rows c.args.row)) (of-kind c.self.inside c.args.self.now c.self.view_is c.self.invariant c.args.row c.args.field Keyword kind))

pub returns-in-Some-clause-known : goal.returns-in-Some-clause-known
returns-in-Some-clause-known c = λ k low.
    let words = words-are c.self.inside c.args.self.now c.self.view_is c.self.invariant c.args.field c.self.inside.words.items (get_or c.self.inside.words.items c.args.field []) refl refl in
    let known = (ordinals-lent c.self.inside c.args.self.now c.self.view_is c.self.invariant c.args.row c.args.field c.as_slice.result.now c.in-Some.column.now c.requires c.as_slice.ensures.value c.in-Some.ensures.some).1 in
    subst (λ (ws : Words). get_or c.ordinals_at.result.now k 0 < length ws) words
    (subst (λ (os : List ℕ). get_or os k 0 < length (get_or c.self.inside.words.items c.args.field [])) (sym c.ordinals_at.ensures) (known k (subst (λ (os : List ℕ). k < length os) c.ordinals_at.ensures low)))

pub returns-in-None-clause-exact : goal.returns-in-None-clause-exact
returns-in-None-clause-exact c = sym (ap words_in (no-column c.self.inside c.args.self.now c.self.view_is c.self.invariant c.args.row c.args.field c.as_slice.result.now c.requires c.as_slice.ensures.value c.in-None.ensures.none))

pub returns-in-None-clause-values : goal.returns-in-None-clause-values
returns-in-None-clause-values c = λ kind. sym (no-column c.self.inside c.args.self.now c.self.view_is c.self.invariant c.args.row c.args.field c.as_slice.result.now c.requires c.as_slice.ensures.value c.in-None.ensures.none)
