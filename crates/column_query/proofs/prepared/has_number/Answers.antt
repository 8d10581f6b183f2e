use Rattle.std.proofs.Common.{map, pos, sym, ◌∙◌, ap}
use Rattle.std.specs.List.{list_any}
use Rattle.agg_evaluation.specs.Rows.{values_of, row_of}
use Rattle.shard_columns.specs.Dictionary.{words_of}
use Rattle.shard_columns.proofs.Dictionaries.{words_of-strict}
use Rattle.column_query.specs.declared.content.Content.{Content}
use Rattle.column_query.specs.declared.content.Content.TheVariants as content
use Rattle.column_query.specs.Numbers.{flag_number, is_content}
use Rattle.column_query.specs.Prepared.{passes_number}
use Rattle.column_query.proofs.Lists.{any_mapped}
use Rattle.column_query.proofs.Lending.{AreAll, place_number, whole-numbers, flag-numbers, word-numbers, ordinal-numbers}
use Rattle.column_query.proofs.prepared.has_number.Goals as goal

pub returns-in-Wholes : goal.returns-in-Wholes
returns-in-Wholes c =
    let rows = c.args.shard.now.rows in
    let words = words_of c.args.field rows in
    let values = values_of c.args.field (row_of rows c.args.row) in
    let all : AreAll content.Wholes values = λ v there. ap (λ (x : Content). is_content x v) (sym c.in-Wholes.is) ∙ c.content_of_field.ensures.holds.only v (c.args.row, there) in
    c.has_whole.ensures ∙ ap (list_any (passes_number c.args.test.now)) (c.numbers.ensures.exact ∙ whole-numbers words values all)

pub returns-in-Words : goal.returns-in-Words
returns-in-Words c =
    let rows = c.args.shard.now.rows in
    let words = words_of c.args.field rows in
    let values = values_of c.args.field (row_of rows c.args.row) in
    let ordinals = c.ordinals.result.now in
    let all : AreAll content.Words values = λ v there. ap (λ (x : Content). is_content x v) (sym c.in-Words.is) ∙ c.content_of_field.ensures.holds.only v (c.args.row, there) in
    c.has_ordinal.ensures ∙ (sym (any_mapped (passes_number c.args.test.now) pos ordinals)
    ∙ ap (list_any (passes_number c.args.test.now)) (ordinal-numbers words (words_of-strict c.args.field rows) ordinals c.ordinals.ensures.known
    ∙ (ap (map (place_number words)) c.ordinals.ensures.exact ∙ word-numbers words values all)))

pub returns-in-Flags : goal.returns-in-Flags
returns-in-Flags c =
    let rows = c.args.shard.now.rows in
    let words = words_of c.args.field rows in
    let values = values_of c.args.field (row_of rows c.args.row) in
    let all : AreAll content.Flags values = λ v there. ap (λ (x : Content). is_content x v) (sym c.in-Flags.is) ∙ c.content_of_field.ensures.holds.only v (c.args.row, there) in
    c.has_flag.ensures ∙ (sym (any_mapped (passes_number c.args.test.now) flag_number c.flags.result.now)
    ∙ ap (list_any (passes_number c.args.test.now)) (ap (map flag_number) c.flags.ensures.exact ∙ flag-numbers words values all))
