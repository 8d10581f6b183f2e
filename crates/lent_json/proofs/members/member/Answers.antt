use Rattle.std.proofs.Common.{◌≡◌, ◌+◌, ◌∷◌, true, false, bytes_eq, drop, sym, ap, ◌∙◌, arith}
use Rattle.std.proofs.lemmas.List.{drop_more}
use Rattle.serde_json.specs.Find.{get_member}
use Rattle.lent_json.specs.View.{members_view}
use Rattle.lent_json.proofs.Ordered.{member_here, member_later}
use Rattle.lent_json.proofs.members.member.Goals as goal

pub returns-then-eq : goal.returns-then-eq
returns-then-eq c =
    let xs = c.args.members.now in
    let i = c.loop-key.key-index in
    let x = c.loop-key-item.result in
    let here : drop i xs ≡ x ∷ drop (i + 1) xs = drop_more xs i x (omega (arith, c.loop-key-test.true)) ∙ ap (λ y. y ∷ drop (i + 1) xs) (sym c.loop-key-item.is) in
    let same : bytes_eq c.args.name.now x.0.now ≡ true = grind arith in
    sym (sym c.loop-key.invariant ∙ ap (λ es. get_member c.args.name.now (members_view es)) here ∙ member_here c.args.name.now x (drop (i + 1) xs) same)

pub loop-key-preserved : goal.loop-key-preserved
loop-key-preserved c =
    let xs = c.args.members.now in
    let i = c.loop-key.key-index in
    let x = c.loop-key-item.result in
    let here : drop i xs ≡ x ∷ drop (i + 1) xs = drop_more xs i x (omega (arith, c.loop-key-test.true)) ∙ ap (λ y. y ∷ drop (i + 1) xs) (sym c.loop-key-item.is) in
    let other : bytes_eq c.args.name.now x.0.now ≡ false = grind arith in
    sym (member_later c.args.name.now x (drop (i + 1) xs) other) ∙ ap (λ es. get_member c.args.name.now (members_view es)) (sym here) ∙ c.loop-key.invariant
