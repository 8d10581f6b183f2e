use Rattle.std.proofs.Common.{◌∙◌, ◌+◌, ℕ, Err, length, ap, sym, arith}
use Rattle.agg_base.specs.Lines.{has_ended}
use Rattle.script_lines.proofs.LineLemmas.{reads_ok, reads_stop}
use Rattle.script_lines.proofs.HandedLemmas.{hands_ok, hands_err}
use Rattle.script_lines.proofs.line.next_line.Goals as goal

pub returns-in-Ok-clause-line : goal.returns-in-Ok-clause-line
returns-in-Ok-clause-line g c =
    reads_ok _ _ _ _ _ _ _ (omega (arith, c.args.lines.now.within)) (c.in-Ok.ensures.answer c.requires) c.in-Ok.ensures.line c.in-Ok.ensures.handed c.in-Ok.ensures.none

pub returns-in-Ok-clause-front : goal.returns-in-Ok-clause-front
returns-in-Ok-clause-front g c bytes front h =
    hands_ok _ bytes front _ _ _ _ _ _ _ _ c.in-Ok.ensures.stays_ended c.in-Ok.ensures.last_line c.in-Ok.ensures.line c.in-Ok.ensures.ended c.in-Ok.ensures.none (c.in-Ok.ensures.answer c.requires) h

pub returns-in-Err-clause-line : goal.returns-in-Err-clause-line
returns-in-Err-clause-line g c =
    reads_stop _ _ _ c.in-Err.fault _ _ _ _ (omega (arith, c.line_number.ensures, c.in-Err.ensures.err.2)) c.fault_of.ensures (c.in-Err.ensures.answer c.requires)

pub returns-in-Err-clause-front : goal.returns-in-Err-clause-front
returns-in-Err-clause-front g c bytes front h =
    let stays = c.in-Err.ensures.err in
    hands_err bytes front _ _ (has_ended c.args.lines.now) _ (g.S.Source.left c.next_line.new.self.source.now) c.in-Err.fault _ _ c.fault_of.ensures
    (λ is. let seen = c.in-Err.ensures.front c.requires (ap Err is) in (seen.0, seen.1, sym stays.0 ∙ seen.2, seen.3 ∙ ap (λ (n : ℕ). n + length seen.0) stays.1))
    (λ is. c.in-Err.ensures.not_ended c.requires (ap Err is))
    h
