-- The value of a date field is an instant.
use Rattle.std.proofs.Common.{◌≡◌, sym, ◌∙◌, ap, subst, rules, arith, Ok, inl, inr}
use Rattle.std.proofs.lemmas.Result.{err_from_is_err_and}
use Rattle.std.proofs.lemmas.Int.{ints}
use Rattle.serde_json.specs.View.{view}
use Rattle.json_walk.specs.Places.{pointer}
use Rattle.agg_reading.specs.Reading.{Fails}
use Rattle.agg_reading.specs.Scalars.{instant}
use Rattle.agg_reading.specs.DateHistogram.{dated}
use Rattle.request_kinds.proofs.DatedBounds.{missing_dated, fails_dated, is_dated, no_word, no_flag}
use Rattle.request_kinds.proofs.bounds.dated.Goals as goal

pub returns-in_err-instant : goal.returns-in_err-instant
returns-in_err-instant c =
    let same = missing_dated (pointer c.args.at.now) (view c.args.value.now) in
    let p = err_from_is_err_and c.from_residual.result c.from_residual.ensures.1 in
    rw (p.1, p.2) (fails_dated c.in_err-instant.field-0.0 (dated (pointer c.args.at.now) (instant (view c.args.value.now))) (subst (Fails c.in_err-instant.field-0.0) same c.in_err-instant.ensures))

pub unreachable-requires : goal.unreachable-requires
unreachable-requires c =
    let read = sym (missing_dated (pointer c.args.at.now) (view c.args.value.now)) ∙ c.in_ok-instant.ensures in
    elim c.in-Word.is [
      | inl w ↦ no_word (dated (pointer c.args.at.now) (instant (view c.args.value.now))) w.0 (read ∙ ap Ok w.1)
      | inr b ↦ no_flag (dated (pointer c.args.at.now) (instant (view c.args.value.now))) b.0 (read ∙ ap Ok b.1)
    ]

pub returns : goal.returns
returns c =
    let read = sym (missing_dated (pointer c.args.at.now) (view c.args.value.now)) ∙ c.in_ok-instant.ensures in
    let is = is_dated (dated (pointer c.args.at.now) (instant (view c.args.value.now))) c.in-Whole.instant (read ∙ ap Ok c.in-Whole.is) in
    rw is (search rules)
