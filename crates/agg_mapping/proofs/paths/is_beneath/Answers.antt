use Rattle.std.proofs.Common.{◌≡◌, ℕ, List, [], ◌∷◌, ◌-◌, ◌∙◌, ap, sym, true, length, take, drop, arith, rules, length-drop}
use Rattle.std.specs.Prelude.{nat_eq}
use Rattle.std.specs.List.{starts_with}
use Rattle.std.proofs.lemmas.List.{take_all}
use Rattle.agg_mapping.proofs.Beneath.{starts_with-append}
use Rattle.agg_mapping.proofs.paths.is_beneath.Goals as goal

rest_is : (n : ℕ) (xs : List ℕ) → take (length xs - n) (drop n xs) ≡ drop n xs
rest_is n xs = take_all (length xs - n) (drop n xs) (omega (arith, length-drop n xs))

pub returns-then-starts_with : goal.returns-then-starts_with
returns-then-starts_with c =
    let starts : starts_with nat_eq c.args.path.now c.args.outer.now ≡ true = sym c.starts_with.ensures.value ∙ c.if-starts_with.true in
    let dot = c.starts_with-then-starts_with.ensures.value ∙ ap (λ (xs : List ℕ). starts_with nat_eq xs (46 ∷ [])) (rest_is (length c.args.outer.now) c.args.path.now) in
    rw (starts_with-append c.args.path.now c.args.outer.now (46 ∷ []), starts) dot

pub returns-else-starts_with : goal.returns-else-starts_with
returns-else-starts_with c = rw (starts_with-append c.args.path.now c.args.outer.now (46 ∷ [])) (search rules)
