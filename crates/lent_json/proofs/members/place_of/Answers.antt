use Rattle.std.proofs.Common.{◌≡◌, ◌+◌, ◌∷◌, Less, Equal, drop, slice_index_or, refl, sym, ◌∙◌, arith}
use Rattle.std.proofs.lemmas.List.{drop_more}
use Rattle.lent_json.proofs.Ordered.{by_name, put_before, put_last, put_over}
use Rattle.lent_json.proofs.members.place_of.Goals as goal

pub returns-in-Less-clause-free : goal.returns-in-Less-clause-free
returns-in-Less-clause-free c = λ value.
    let xs = c.args.members.now in
    let i = c.loop-place.place in
    let x = slice_index_or xs i c.index-members-place.result in
    let here : drop i xs ≡ x ∷ drop (i + 1) xs = drop_more xs i c.index-members-place.result (omega (arith, c.loop-place-test.true)) in
    let less : by_name c.args.name x.0 ≡ Less = sym c.compare.ensures ∙ c.in-Less.is in
    put_before xs i c.args.name value (c.loop-place.invariant c.args.name value refl) x here less

pub returns-in-Equal-clause-taken : goal.returns-in-Equal-clause-taken
returns-in-Equal-clause-taken c = λ value.
    let xs = c.args.members.now in
    let i = c.loop-place.place in
    let x = slice_index_or xs i c.index-members-place.result in
    let here : drop i xs ≡ x ∷ drop (i + 1) xs = drop_more xs i c.index-members-place.result (omega (arith, c.loop-place-test.true)) in
    let equal : by_name c.args.name x.0 ≡ Equal = sym c.compare.ensures ∙ c.in-Equal.is in
    put_over xs i c.args.name value (c.loop-place.invariant c.args.name value refl) x here (omega (arith, c.loop-place-test.true)) equal

pub returns-clause-free : goal.returns-clause-free
returns-clause-free c = λ value.
    let end = c.loop-place-test.false in
    let within = c.loop-place.auto in
    put_last c.args.members.now c.loop-place.place c.args.name value (c.loop-place.invariant c.args.name value refl) (omega (arith, end, within))
