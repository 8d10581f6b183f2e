use Rattle.std.proofs.Common.{sym, ap, subst, rules, ◌≡◌, ◌++◌, ◌∷◌, [], ◌∙◌, List, ℤ, false, pos, slice_index_or, take, w64, to_z, of_z}
use Rattle.std.specs.List.{list_any}
use Rattle.std.specs.Ordering.{int_eq}
use Rattle.std.proofs.lemmas.Int.{to_z-of_z}
use Rattle.std.proofs.lemmas.List.{length-take, take_more}
use Rattle.bucket_places.specs.Places.{IsIndexed}
use Rattle.bucket_places.proofs.Indexing.{absent-before}
use Rattle.bucket_places.proofs.places.Index.over.Goals as goal

pub loop-place-preserved : goal.loop-place-preserved
loop-place-preserved c =
    let codes = c.args.codes.now in
    let k = c.loop-place.place in
    let code = slice_index_or codes k (pos 0) in
    let same : to_z w64 (of_z w64 code) ≡ code = to_z-of_z w64 code (search rules) in
    let within = c.loop-place-test.true in
    let absent : list_any (int_eq code) (take k codes) ≡ false = absent-before codes k (pos 0) c.requires.distinct within in
    let more = c.in_ok-insert.ensures.more (take k codes) c.loop-place.invariant (ap (λ (x : ℤ). list_any (int_eq x) (take k codes)) same ∙ absent) (search (rules, length-take)) in
    let index = c.insert.new.self in
    subst (λ (xs : List ℤ). IsIndexed xs index.table.items index.others) (ap (λ (x : ℤ). take k codes ++ x ∷ []) same ∙ sym (take_more codes k (pos 0) within)) more
