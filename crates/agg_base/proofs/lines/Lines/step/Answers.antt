use Rattle.std.proofs.Common.{◌≡◌, ◌<◌, ◌≤◌, vec_len, ◌+◌, ◌-◌, ◌++◌, ◌∙◌, sym, ap, subst, ℕ, List, take, drop, length, arith}
use Rattle.std.specs.Prelude.{slice_range}
use Rattle.std.specs.Io.KnownBytes.{prepend_known}
use Rattle.std.proofs.lemmas.Result.{err_from_is_err_and}
use Rattle.agg_base.specs.Cut.{first_line, fault_of}
use Rattle.agg_base.proofs.StepLemmas.{refused_unread, ended_piece, open_piece, after_piece, length-ahead, nothing_ahead}
use Rattle.agg_base.proofs.CutLemmas.{length-first_line-le}
use Rattle.agg_base.proofs.Gave.{gave_as}
use Rattle.agg_base.proofs.lines.Lines.step.Goals as goal

pub returns-in_err-place-clause-answer : goal.returns-in_err-place-clause-answer
returns-in_err-place-clause-answer g c =
    let p = err_from_is_err_and c.from_residual-in_err-place.result c.from_residual-in_err-place.ensures.1 in
    let was = c.args.self.now in
    let now = c.fill.new.self in
    let left = g.S.Source.left now.source.now in
    let block = slice_range now.buffer.items now.start now.end in
    let ahead = take (now.end - now.start) (drop now.start c.as_slice.result.now) in
    rw (p.1, p.2) (refused_unread was.position now.position was.line.items now.line.items ahead block (prepend_known (slice_range was.buffer.items was.start was.end) (g.S.Source.left was.source.now)) left c.in_err-place.field-0.0
    c.fill.ensures.counts.0 (ap (λ v. v.items) c.fill.ensures.line) (ap (λ (t : List ℕ). take (now.end - now.start) (drop now.start t)) (sym c.as_slice.ensures.value)) c.fill.ensures.to_come
    c.in_err-place.ensures.refused)

pub invariant_of-self-then-is_ended-clause-ordered : goal.invariant_of-self-then-is_ended-clause-ordered
invariant_of-self-then-is_ended-clause-ordered g c =
    let now = c.fill.new.self in
    let long = length-ahead c.as_slice.result.now now.buffer.items now.start now.end c.as_slice.ensures.value now.inside in
    omega (arith, long, c.if-is_ended.true)

pub returns-then-is_ended-clause-took : goal.returns-then-is_ended-clause-took
returns-then-is_ended-clause-took g c =
    let was = c.args.self.now in
    let now = c.fill.new.self in
    let left = g.S.Source.left now.source.now in
    let seen = c.as_slice.result.now in
    let ahead = slice_range seen now.start now.end in
    let long = length-ahead seen now.buffer.items now.start now.end c.as_slice.ensures.value now.inside in
    let below = c.if-is_ended.true in
    let place = c.in_ok-place.ensures.place in (
      sym (ap (prepend_known was.line.items) c.fill.ensures.to_come)
          ∙ ap (λ (t : List ℕ). prepend_known was.line.items (prepend_known (slice_range t now.start now.end) left)) (sym c.as_slice.ensures.value)
          ∙ ended_piece was.line.items c.take_piece.new.line.items ahead (slice_range now.buffer.items (now.start + c.in_ok-place.place + 1) now.end) left
          (c.in_ok-place.ensures.line ∙ ap (λ v. v.items ++ first_line ahead) c.fill.ensures.line)
          (subst (λ n. n < length ahead) place below)
          (after_piece seen now.buffer.items now.start now.end c.in_ok-place.place (length (first_line ahead)) c.as_slice.ensures.value place (omega (arith, long, below))),
      ap (λ n. fault_of n (vec_len c.take_piece.new.line) (vec_len c.take_piece.new.line + 1)) (sym c.fill.ensures.counts.0) ∙ c.in_ok-place.ensures.ended below,
      gave_as c.fill.ensures.gave (omega (arith, c.in_ok-place.ensures.grown, ap (λ v. vec_len v) c.fill.ensures.line, c.fill.ensures.counts.0, long, below)),
    )

pub invariant_of-self-else-is_ended-clause-ordered : goal.invariant_of-self-else-is_ended-clause-ordered
invariant_of-self-else-is_ended-clause-ordered g c =
    let now = c.fill.new.self in
    let seen = c.as_slice.result.now in
    let long = length-ahead seen now.buffer.items now.start now.end c.as_slice.ensures.value now.inside in
    omega (arith, long, length-first_line-le (slice_range seen now.start now.end), c.in_ok-place.ensures.place)

pub returns-clause-took : goal.returns-clause-took
returns-clause-took g c =
    let was = c.args.self.now in
    let now = c.fill.new.self in
    let left = g.S.Source.left now.source.now in
    let seen = c.as_slice.result.now in
    let ahead = slice_range seen now.start now.end in
    let long = length-ahead seen now.buffer.items now.start now.end c.as_slice.ensures.value now.inside in
    let all = c.if-is_ended.false in
    let place = c.in_ok-place.ensures.place in
    let short = length-first_line-le ahead in
    let is_ahead = c.in_ok-fill.ensures.ahead.0 c.if-not-branch.false in
    let used : now.start + c.in_ok-place.place ≡ now.end = omega (arith, long, all, place, short, now.ordered) in (
      ap (λ (t : List ℕ). prepend_known c.take_piece.new.line.items (prepend_known t left)) (nothing_ahead now.buffer.items (now.start + c.in_ok-place.place) now.end used)
          ∙ open_piece was.line.items c.take_piece.new.line.items ahead left (c.in_ok-place.ensures.line ∙ ap (λ v. v.items ++ first_line ahead) c.fill.ensures.line) (subst (λ n. length ahead ≤ n) place all)
          ∙ ap (λ (t : List ℕ). prepend_known was.line.items (prepend_known (slice_range t now.start now.end) left)) c.as_slice.ensures.value
          ∙ ap (prepend_known was.line.items) c.fill.ensures.to_come,
      omega (arith, c.in_ok-place.ensures.grown, ap (λ v. vec_len v) c.fill.ensures.line, all, long, is_ahead),
      c.in_ok-fill.ensures.goes_on c.if-not-branch.false,
      gave_as c.fill.ensures.gave (omega (arith, c.in_ok-place.ensures.grown, ap (λ v. vec_len v) c.fill.ensures.line, c.fill.ensures.counts.0, used, now.ordered)),
    )
