use Rattle.std.proofs.Common.{length, map, pos, sym, ◌∙◌, ap}
use Rattle.std.specs.List.{list_all}
use Rattle.agg_model.specs.ValueKeys.{scalar_key}
use Rattle.agg_evaluation.specs.Rows.{values_of, row_of}
use Rattle.shard_columns.specs.Dictionary.{words_of}
use Rattle.terms_agg.specs.declared.content.Content.{Content}
use Rattle.terms_agg.specs.declared.content.Content.TheVariants as content
use Rattle.terms_agg.specs.Codes.{is_code_at, is_content, key_at}
use Rattle.terms_agg.specs.Lent.{flag_number}
use Rattle.terms_agg.proofs.Lending.{whole-keys, whole-codes, flag-keys, flag-codes, word-keys, word-codes}
use Rattle.terms_agg.proofs.row_values.row_values.Goals as goal

pub returns-in-Wholes : goal.returns-in-Wholes
returns-in-Wholes c =
    let rows = c.args.shard.now.rows in
    let words = words_of c.args.field rows in
    let values = values_of c.args.field (row_of rows c.args.row) in
    let numbers = c.numbers.result.now in
    let is = sym c.content_of_field.ensures.content ∙ c.in-Wholes.is in
    let all = ap (λ (x : Content). list_all (is_content x) values) (sym c.in-Wholes.is) ∙ c.content_of_field.ensures.values c.args.row in
    record {
      keys = ap (λ (x : Content). map (key_at x words) numbers) is ∙ (ap (map (key_at content.Wholes words)) c.numbers.ensures.exact ∙ whole-keys words values all);
      codes = ap (λ (x : Content). list_all (is_code_at x (length words)) numbers) is ∙ whole-codes (length words) numbers;
    }

pub returns-in-Words : goal.returns-in-Words
returns-in-Words c =
    let rows = c.args.shard.now.rows in
    let words = words_of c.args.field rows in
    let ordinals = c.ordinals.result.now in
    let is = sym c.content_of_field.ensures.content ∙ c.in-Words.is in
    record {
      keys = ap (λ (x : Content). map (key_at x words) (map pos ordinals)) is
          ∙ (word-keys words ordinals ∙ ap (map scalar_key) (c.ordinals.ensures.values (c.content_of_field.ensures.words c.in-Words.is)));
      codes = ap (λ (x : Content). list_all (is_code_at x (length words)) (map pos ordinals)) is ∙ word-codes (length words) ordinals c.ordinals.ensures.known;
    }

pub returns-in-Flags : goal.returns-in-Flags
returns-in-Flags c =
    let rows = c.args.shard.now.rows in
    let words = words_of c.args.field rows in
    let values = values_of c.args.field (row_of rows c.args.row) in
    let flags = c.flags.result.now in
    let is = sym c.content_of_field.ensures.content ∙ c.in-Flags.is in
    let all = ap (λ (x : Content). list_all (is_content x) values) (sym c.in-Flags.is) ∙ c.content_of_field.ensures.values c.args.row in
    record {
      keys = ap (λ (x : Content). map (key_at x words) (map flag_number flags)) is
          ∙ (ap (λ bs. map (key_at content.Flags words) (map flag_number bs)) c.flags.ensures.exact ∙ flag-keys words values all);
      codes = ap (λ (x : Content). list_all (is_code_at x (length words)) (map flag_number flags)) is ∙ flag-codes (length words) flags;
    }
