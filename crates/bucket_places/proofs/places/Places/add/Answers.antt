use Rattle.std.proofs.Common.{arith, sym, ap, subst, rules, ◌≡◌, ◌++◌, ◌∷◌, [], ◌∙◌, List, ℤ, Option, false, true, w64, to_z, of_z}
use Rattle.std.specs.Prelude.{IfSome}
use Rattle.std.specs.Result.{is_err}
use Rattle.std.specs.List.{IsDistinct, list_any}
use Rattle.std.specs.Ordering.{int_eq}
use Rattle.std.proofs.lemmas.Grind.{common_steps}
use Rattle.std.proofs.lemmas.Int.{to_z-of_z}
use Rattle.bucket_places.specs.declared.places.Index.{Index}
use Rattle.bucket_places.specs.Places.{IsIndexed}
use Rattle.bucket_places.proofs.Indexing.{err_given, ok_given, still_distinct}
use Rattle.bucket_places.proofs.places.Places.add.Goals.{In_ok-push}
use Rattle.bucket_places.proofs.places.Places.add.Goals as goal

-- the code has come to the end, and differs from those before it
module _ (c : In_ok-push) where
  same : to_z w64 (of_z w64 c.args.code) ≡ c.args.code
  same = to_z-of_z w64 c.args.code (search rules)

  absent : list_any (int_eq c.args.code) c.self.inside.codes.items ≡ false
  absent = ap (λ (xs : List ℤ). list_any (int_eq c.args.code) xs) c.self.view_is ∙ c.requires.absent

  pushed : c.self.inside.codes.items ++ c.args.code ∷ [] ≡ c.push.new.self.items
  pushed = ap (λ (x : ℤ). c.self.inside.codes.items ++ x ∷ []) (sym same) ∙ sym c.in_ok-push.ensures.items

  distinct : IsDistinct int_eq c.push.new.self.items
  distinct = subst (IsDistinct int_eq) pushed (still_distinct c.self.inside.codes.items c.args.code c.self.invariant.distinct absent)

pub invariant_of-self-else-is_err : goal.invariant_of-self-else-is_err
invariant_of-self-else-is_err c =
    let at = (goal.at.invariant_of-self-else-is_err c).In_ok-push in
    let codes = c.self.inside.codes.items in
    let index = c.insert.new.self in
    let was : IsIndexed codes c.in-Some.index.table.items c.in-Some.index.others = subst (λ (o : Option Index). IfSome o (λ i. IsIndexed codes i.table.items i.others)) c.in-Some.is c.self.invariant.indexed in
    let ok : is_err c.insert.result ≡ false = sym c.is_err.ensures.value ∙ c.if-is_err.false in
    let more = ok_given c.insert.result ok c.insert.ensures.more in
    let now = more codes was (ap (λ (x : ℤ). list_any (int_eq x) codes) (same at) ∙ absent at) (search (rules, c.len-place.ensures)) in record {
      distinct = distinct at;
      indexed = subst (λ (xs : List ℤ). IsIndexed xs index.table.items index.others) (ap (λ (x : ℤ). codes ++ x ∷ []) (same at) ∙ pushed at) now;
    }

pub invariant_of-self-then-is_err : goal.invariant_of-self-then-is_err
invariant_of-self-then-is_err c =
    let codes = c.self.inside.codes.items in
    let index = c.insert.new.self in
    let was : IsIndexed codes c.in-Some.index.table.items c.in-Some.index.others = subst (λ (o : Option Index). IfSome o (λ i. IsIndexed codes i.table.items i.others)) c.in-Some.is c.self.invariant.indexed in
    let err : is_err c.insert.result ≡ true = sym c.is_err.ensures.value ∙ c.if-is_err.true in
    let still = err_given c.insert.result err c.insert.ensures.memory in
    let back : c.pop.new.self.items ≡ codes = grind (arith, common_steps) in record {
      distinct = subst (IsDistinct int_eq) (sym back) c.self.invariant.distinct;
      indexed = subst (λ (xs : List ℤ). IsIndexed xs index.table.items index.others) (sym back) (still codes was);
    }

pub invariant_of-self-in_default : goal.invariant_of-self-in_default
invariant_of-self-in_default c = record {
  distinct = distinct (goal.at.invariant_of-self-in_default c).In_ok-push;
  indexed = subst (λ (o : Option Index). IfSome o (λ i. IsIndexed c.push.new.self.items i.table.items i.others)) (sym c.in_default.is) tt;
}

pub returns-else-is_err-clause-distinct : goal.returns-else-is_err-clause-distinct
returns-else-is_err-clause-distinct c = distinct (goal.at.returns-else-is_err-clause-distinct c).In_ok-push

pub returns-in_default-clause-distinct : goal.returns-in_default-clause-distinct
returns-in_default-clause-distinct c = distinct (goal.at.returns-in_default-clause-distinct c).In_ok-push
