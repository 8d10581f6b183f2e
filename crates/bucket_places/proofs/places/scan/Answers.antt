use Rattle.std.proofs.Common.{◌≡◌, subst, sym, rules, tests, Option, ℕ, ◌∙◌}
use Rattle.std.specs.List.{position_from}
use Rattle.std.specs.Ordering.{int_eq}
use Rattle.std.proofs.lemmas.Iterator.{YieldsList-from_slice}
use Rattle.std.proofs.lemmas.Iterator.Adapters.{position_from-zero}
use Rattle.std.proofs.lemmas.Iterator.Search.{position_from_yields_List}
use Rattle.bucket_places.specs.Places.{Indexes}
use Rattle.bucket_places.proofs.Indexing.{scanned}
use Rattle.bucket_places.proofs.places.scan.Goals as goal

pub returns : goal.returns
returns c =
    let codes = c.args.codes.now in
    let code = c.args.code in
    let found : c.position.result ≡ position_from (λ known. int_eq known code) 0 codes = position_from_yields_List (λ known. int_eq known code) _ _ c.position.result c.position.ensures.ran (YieldsList-from_slice _ c.iter.ensures.rest) (λ x b q k. search (rules, tests)) ∙ position_from-zero (λ known. int_eq known code) codes in
    subst (λ (o : Option ℕ). Indexes codes code o) (sym found) (scanned codes code)
