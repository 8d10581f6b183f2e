use Rattle.std.proofs.Common.{◌≡◌, ◌∷◌, ℤ, List, Option, Some, ◌+◌, pos, drop, get_or, length, sym, ◌∙◌, ap, arith, rules, to_z, of_z, w64}
use Rattle.std.specs.Option.{option_eq}
use Rattle.std.specs.Ordering.{int_eq}
use Rattle.std.proofs.lemmas.Int.{to_z-of_z}
use Rattle.std.proofs.lemmas.List.{at_drop_more}
use Rattle.histogram_agg.specs.RowCodes.{kept_codes}
use Rattle.histogram_agg.proofs.Walking.{codes_from, differs, kept, left, repeated, repeats}
use Rattle.histogram_agg.proofs.coder.count_kept.Goals as goal
use Rattle.histogram_agg.proofs.coder.count_kept.Goals.{then-ne+then-keeps, then-ne+else-keeps, else-ne}

pub loop-number-preserved : goal.loop-number-preserved
loop-number-preserved g c =
    let code_of = g.C.Coder.code_of c.args.coder.now in
    let is_kept = g.C.Coder.is_kept c.args.coder.now in
    let i = c.loop-number.number-index in
    let number = get_or c.args.numbers.now i (pos 0) in
    let rest = drop (i + 1) c.args.numbers.now in
    let code = to_z w64 (of_z w64 c.code-code.result) in
    let last = c.loop-number.last in
    let count = c.loop-number.count in
    let few = c.loop-number.invariant.1 in
    let at : code ≡ code_of number = to_z-of_z w64 c.code-code.result (search rules) ∙ c.code-code.ensures ∙ ap code_of (to_z-of_z w64 number (search rules)) in
    let next = at_drop_more (codes_from code_of is_kept last) c.args.numbers.now i (pos 0) c.loop-number-test.true in
    let before : count + length (codes_from code_of is_kept last (number ∷ rest)) ≡ length (kept_codes code_of is_kept c.args.numbers.now) =
    ap (λ (cs : List ℤ). count + length cs) (sym next) ∙ c.loop-number.invariant.0 in
    elim c.if-ne.branch [
      | then-ne+then-keeps w ↦ (
          let new = kept code_of is_kept last number rest code at (differs (option_eq int_eq last (Some code)) c.ne.result c.ne.ensures w.if-ne.true) (sym w.keeps.ensures ∙ w.if-keeps.true) in
          let more : count + length (codes_from code_of is_kept last (number ∷ rest)) ≡ c.if-ne.count + length (codes_from code_of is_kept (Some code) rest) =
          ap (λ (cs : List ℤ). count + length cs) new ∙ omega (arith, w.count-is) in
          (ap (λ (o : Option ℤ). c.if-ne.count + length (codes_from code_of is_kept o rest)) w.last-is ∙ sym more ∙ before, omega (arith, few, w.count-is)))
      | then-ne+else-keeps w ↦ (
          let new = left code_of is_kept last number rest code at (differs (option_eq int_eq last (Some code)) c.ne.result c.ne.ensures w.if-ne.true) (sym w.keeps.ensures ∙ w.if-keeps.false) in
          ((λ j. w.count-is j + length (codes_from code_of is_kept (w.last-is j) rest)) ∙ ap (λ (cs : List ℤ). count + length cs) (sym new) ∙ before, omega (arith, few, w.count-is)))
      | else-ne w ↦ (
          let same = repeated code_of is_kept last number rest code at (repeats (option_eq int_eq last (Some code)) c.ne.result c.ne.ensures w.if-ne.false) in
          ((λ j. w.count-is j + length (codes_from code_of is_kept (w.last-is j) rest)) ∙ ap (λ (cs : List ℤ). count + length cs) (sym same) ∙ before, omega (arith, few, w.count-is)))
    ]
