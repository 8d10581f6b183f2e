use Rattle.std.proofs.Common.{◌++◌, ◌∙◌, sym, ap, subst, refl, ℕ, List, take, ltb, length, arith}
use Rattle.std.proofs.lemmas.Result.{err_from_is_err_and}
use Rattle.agg_base.proofs.CutLemmas.{take-first_line, plain-append, plain_first_line}
use Rattle.agg_base.proofs.FaultLemmas.{refused}
use Rattle.agg_base.specs.Cut.{IsPlain}
use Rattle.agg_base.proofs.lines.take_piece.Goals as goal

pub returns-in_err-check_limits-clause-refused : goal.returns-in_err-check_limits-clause-refused
returns-in_err-check_limits-clause-refused c =
    let p = err_from_is_err_and c.from_residual.result c.from_residual.ensures.1 in
    let place = c.before_newline-place.ensures.place in
    let answer = sym c.in_err-check_limits.ensures.answer in
    rw (p.1, p.2) (λ rest. refused c.args.position c.args.line.now.items c.args.ahead.now rest c.len.result c.before_newline-place.result (ltb c.before_newline-place.result (length c.args.ahead.now)) c.in_err-check_limits.field-0.0 c.requires.plain (omega arith) (c.len.ensures ∙ c.args.line.now.ok.0) place refl answer)

pub returns-clause-line : goal.returns-clause-line
returns-clause-line c =
    let line = c.args.line.now.items in
    let ahead = c.args.ahead.now in
    c.in_ok-extend_from_slice.ensures.items
    ∙ ap (λ n. line ++ take n ahead) c.before_newline-place.ensures.place
    ∙ ap (λ (t : List ℕ). line ++ t) (take-first_line ahead)

pub returns-clause-plain : goal.returns-clause-plain
returns-clause-plain c =
    let line = c.args.line.now.items in
    let ahead = c.args.ahead.now in
    let is = c.in_ok-extend_from_slice.ensures.items
    ∙ ap (λ n. line ++ take n ahead) c.before_newline-place.ensures.place
    ∙ ap (λ (t : List ℕ). line ++ t) (take-first_line ahead) in
    subst IsPlain (sym is) (plain-append line _ c.requires.plain (plain_first_line ahead))
