use Rattle.std.proofs.Common.{◌≡◌, ◌<◌, ◌+◌, ◌≤◌, ◌==◌, ℕ, zero, suc, false, vec_len, refl, arith}
use Rattle.agg_base.specs.Lines.{position}
use Rattle.agg_model.specs.declared.limits.TheConstants.{MAX_INPUT}
use Rattle.agg_base.proofs.HandedLemmas.{whole_answer, whole_lines, last_answer, last_lines}
use Rattle.agg_base.proofs.lines.Lines.next_line.Goals as goal

pub returns-in-Ok-Newline-clause-answer : goal.returns-in-Ok-Newline-clause-answer
returns-in-Ok-Newline-clause-answer g c _ =
    let mid = c.gather.new.self in
    let took = rw c.in-Ok-Newline.field-0-is at c.in-Ok-Newline.ensures.took in
    whole_answer (position c.args.self.now) (vec_len mid.line) mid.line.items c.hand_out.result mid.plain c.hand_out.ensures.line mid.line.ok.0 _ _ took.0 took.1

pub returns-in-Ok-Newline-clause-lines : goal.returns-in-Ok-Newline-clause-lines
returns-in-Ok-Newline-clause-lines g c =
    let mid = c.gather.new.self in
    let took = rw c.in-Ok-Newline.field-0-is at c.in-Ok-Newline.ensures.took in
    whole_lines (position c.args.self.now) (vec_len mid.line) mid.line.items c.hand_out.result mid.plain c.hand_out.ensures.line mid.line.ok.0 _ _ _ _ _ took.0 c.hand_out.ensures.empty c.hand_out.ensures.to_come refl

some_gathered : (n : ℕ) → false ≡ (n == 0) → 0 < n
some_gathered zero e = absurd cc
some_gathered (suc n) e = omega arith

pub returns-in-Ok-Input-2-clause-answer : goal.returns-in-Ok-Input-2-clause-answer
returns-in-Ok-Input-2-clause-answer g c _ =
    let mid = c.gather.new.self in
    let took = rw c.in-Ok-Input.field-0-is at c.in-Ok-Input.ensures.took in
    let some = some_gathered (vec_len mid.line) c.if-is_empty.ensures in
    let within : position c.args.self.now + vec_len mid.line ≤ MAX_INPUT = omega (arith, mid.within, c.gather.ensures.counts.0) in
    last_answer (position c.args.self.now) (vec_len mid.line) mid.line.items c.hand_out-in-Ok-Input-2.result mid.plain c.hand_out-in-Ok-Input-2.ensures.line mid.line.ok.0 _ _ took.0 took.1 some mid.short within

pub returns-in-Ok-Input-2-clause-lines : goal.returns-in-Ok-Input-2-clause-lines
returns-in-Ok-Input-2-clause-lines g c =
    let mid = c.gather.new.self in
    let took = rw c.in-Ok-Input.field-0-is at c.in-Ok-Input.ensures.took in
    let some = some_gathered (vec_len mid.line) c.if-is_empty.ensures in
    last_lines (position c.args.self.now) (vec_len mid.line) mid.line.items c.hand_out-in-Ok-Input-2.result mid.plain c.hand_out-in-Ok-Input-2.ensures.line mid.line.ok.0 _ _ _ _ _ took.0 took.1 some c.hand_out-in-Ok-Input-2.ensures.empty c.hand_out-in-Ok-Input-2.ensures.to_come refl
