use Rattle.std.proofs.Common.{◌≡◌, ◌++◌, ◌∷◌, [], ℤ, List, Some, ◌+◌, pos, drop, get_or, sym, ◌∙◌, ap, rules, to_z, of_z, w64}
use Rattle.std.specs.Option.{option_eq}
use Rattle.std.specs.Ordering.{int_eq}
use Rattle.std.proofs.lemmas.Int.{to_z-of_z}
use Rattle.std.proofs.lemmas.List.{append_assoc, at_drop_more}
use Rattle.histogram_agg.specs.RowCodes.{kept_codes}
use Rattle.histogram_agg.proofs.Walking.{codes_from, differs, kept, left, repeated, repeats}
use Rattle.histogram_agg.proofs.coder.push_codes.Goals as goal
use Rattle.histogram_agg.proofs.coder.push_codes.Goals.{then-ne+then-keeps+in_ok-push, then-ne+else-keeps, else-ne}

pub loop-number-preserved : goal.loop-number-preserved
loop-number-preserved g c =
    let code_of = g.C.Coder.code_of c.args.coder.now in
    let is_kept = g.C.Coder.is_kept c.args.coder.now in
    let i = c.loop-number.number-index in
    let number = get_or c.args.numbers.now i (pos 0) in
    let rest = drop (i + 1) c.args.numbers.now in
    let code = to_z w64 (of_z w64 c.code-code.result) in
    let last = c.loop-number.last in
    let codes = c.loop-number.codes.items in
    let at : code ≡ code_of number = to_z-of_z w64 c.code-code.result (search rules) ∙ c.code-code.ensures ∙ ap code_of (to_z-of_z w64 number (search rules)) in
    let next = at_drop_more (codes_from code_of is_kept last) c.args.numbers.now i (pos 0) c.loop-number-test.true in
    let before : codes ++ codes_from code_of is_kept last (number ∷ rest) ≡ c.args.codes.now.items ++ kept_codes code_of is_kept c.args.numbers.now = ap (λ (cs : List ℤ). codes ++ cs) (sym next) ∙ c.loop-number.invariant in
    elim c.if-ne.branch [
      | then-ne+then-keeps+in_ok-push w ↦ (
          let new = kept code_of is_kept last number rest code at (differs (option_eq int_eq last (Some code)) c.ne.result c.ne.ensures w.if-ne.true) (sym w.keeps.ensures ∙ w.if-keeps.true) in
          let items : c.if-ne.codes.items ≡ codes ++ code ∷ [] = ◌∙◌ {c = codes ++ code ∷ []} (ap (λ (v : _). v.items) w.codes-is) w.in_ok-push.ensures.items in
          (λ j. items j ++ codes_from code_of is_kept (w.last-is j) rest) ∙ append_assoc codes (code ∷ []) (codes_from code_of is_kept (Some code) rest) ∙ ap (λ (cs : List ℤ). codes ++ cs) (sym new) ∙ before)
      | then-ne+else-keeps w ↦ (
          let new = left code_of is_kept last number rest code at (differs (option_eq int_eq last (Some code)) c.ne.result c.ne.ensures w.if-ne.true) (sym w.keeps.ensures ∙ w.if-keeps.false) in
          (λ j. (w.codes-is j).items ++ codes_from code_of is_kept (w.last-is j) rest) ∙ ap (λ (cs : List ℤ). codes ++ cs) (sym new) ∙ before)
      | else-ne w ↦ (
          let same = repeated code_of is_kept last number rest code at (repeats (option_eq int_eq last (Some code)) c.ne.result c.ne.ensures w.if-ne.false) in
          (λ j. (w.codes-is j).items ++ codes_from code_of is_kept (w.last-is j) rest) ∙ ap (λ (cs : List ℤ). codes ++ cs) (sym same) ∙ before)
    ]
