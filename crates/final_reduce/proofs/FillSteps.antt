-- Filling interval after interval: what is done, and what is left.
use Rattle.std.specs.Prelude.{◌≡◌, ℕ, suc, ℤ, pos, ◌+ℤ◌, ◌≤ℤ◌, ◌<ℤ◌, true, false, cond, List, [], ◌∷◌, ◌++◌, map}
use Rattle.std.proofs.Common.{sym, ◌∙◌, ap, subst, arith, append_assoc}
use Rattle.std.proofs.lemmas.Bool.{and_parts}
use Rattle.std.proofs.lemmas.Int.{ints, by_lt_z}
use Rattle.date_spec.proofs.PeriodLemmas.{most_least}
use Rattle.agg_model.specs.declared.key.Key.{Key}
use Rattle.agg_model.specs.declared.key.Key.TheVariants.{Whole}
use Rattle.agg_model.specs.declared.partial.Bucket.{Bucket}
use Rattle.agg_model.specs.declared.aggregation.Bounds.{Bounds}
use Rattle.agg_model.specs.declared.aggregation.Spacing.{Spacing}
use Rattle.agg_evaluation.specs.Conditions.{is_spaced}
use Rattle.agg_evaluation.specs.KeyOrder.{key_eq}
use Rattle.agg_evaluation.specs.Orders.{bucket_key}
use Rattle.agg_evaluation.specs.Spacings.{start_at}
use Rattle.agg_evaluation.specs.Trees.{is_ascending}
use Rattle.agg_evaluation.proofs.KeyLists.{key_eq-self}
use Rattle.list_laws.proofs.Lists.{append-nil}
use Rattle.agg_spec.specs.Filling.{bucket_at, filled_keys}
use Rattle.agg_spec.specs.GapCount.{interval_count}
use Rattle.final_reduce.specs.Steps.{IsSpan, key_numbers, keys_from, taken, left_by}
use Rattle.final_reduce.proofs.SpanLaws.{are_made, span-numbered, span-holds, span-count, span-keys}
use Rattle.final_reduce.proofs.Intervals.{IsNumbered, IsSpacing, no_steps, number-more, one_step, start-rising}
use Rattle.final_reduce.proofs.Filled.{AreAt, behind, all_past, put-found, put-absent, apart}

more_next : (n : ℤ) → n ≤ℤ (n +ℤ pos 1)
more_next n = omega (arith, ints)

from_next : (first n : ℤ) → first ≤ℤ n → first ≤ℤ (n +ℤ pos 1)
from_next first n h = omega (arith, ints, h)

itself : (n : ℤ) → n ≤ℤ n
itself n = omega (arith, ints)

-- The buckets so far, and then those of the intervals from one number on to the last, make all.
pub record IsFilling (s : Spacing) (empty : Key → Bucket) (all filled rest : List Bucket) (first number high : ℤ) : Type 0 where
  pub numbered : IsNumbered s number
  pub held : AreAt s number high rest
  pub up : is_ascending (map bucket_key rest) ≡ true
  pub from : first ≤ℤ number
  pub made : filled ++ map (bucket_at empty rest) (keys_from s number (interval_count number high)) ≡ all

-- one more interval
module _ (s : Spacing) (spaced : IsSpacing s) (empty : Key → Bucket) (all filled : List Bucket) (first number high : ℤ) where
  abbrev next : ℤ
  next = number +ℤ pos 1

  abbrev key : Key
  key = Whole (start_at s number)

  abbrev n : ℕ
  n = interval_count next high

  abbrev Done : List Bucket → Type 0
  Done rest = IsFilling s empty all filled rest first number high

  abbrev Next : Bucket → List Bucket → Type 0
  Next b rest = IsFilling s empty all (filled ++ b ∷ []) rest first next high

  -- past the last one all is done
  pub filling-done : (rest : List Bucket) → high <ℤ number → Done rest → filled ≡ all
  filling-done rest past f = sym (append-nil filled) ∙ ap (λ m. filled ++ map (bucket_at empty rest) (keys_from s number m)) (sym (no_steps number high past)) ∙ f.made

  put : number ≤ℤ high → (b : Bucket) (rest rest' : List Bucket) → map (bucket_at empty rest) (keys_from s number (suc n)) ≡ b ∷ map (bucket_at empty rest') (keys_from s next n)
      → Done rest → (filled ++ b ∷ []) ++ map (bucket_at empty rest') (keys_from s next n) ≡ all
  put within b rest rest' e f =
      append_assoc filled (b ∷ []) (map (bucket_at empty rest') (keys_from s next n)) ∙ ap (λ bs. filled ++ bs) (sym e)
      ∙ ap (λ m. filled ++ map (bucket_at empty rest) (keys_from s number m)) (sym (one_step number high within)) ∙ f.made

  absent : number ≤ℤ high → (rest : List Bucket) (f : Done rest) → AreAt s next high rest → Next (empty key) rest
  absent within rest f later = record {
    numbered = number-more s number next f.numbered (more_next number);
    held = later;
    up = f.up;
    from = from_next first number f.from;
    made = put within (empty key) rest rest (put-absent s spaced empty high rest number f.numbered n later) f;
  }

  found : number ≤ℤ high → (b : Bucket) (bs : List Bucket) (f : Done (b ∷ bs)) → bucket_key b ≡ key → Next b bs
  found within b bs f is =
      let up = and_parts _ _ f.up in
      record {
        numbered = number-more s number next f.numbered (more_next number);
        held = behind s spaced high number f.numbered (bucket_key b) is bs f.held.1 up.0;
        up = up.1;
        from = from_next first number f.from;
        made = put within b (b ∷ bs) bs (put-found s spaced empty b bs number f.numbered n is) f;
      }

  pub filling-next : number ≤ℤ high → (rest : List Bucket) → Done rest → Next (taken key (empty key) rest) (left_by key rest)
  filling-next within [] f = absent within [] f tt
  filling-next within (b ∷ bs) f =
      let at = f.held.0 in
      by_lt_z number at.number
      (λ less.
      let other : key_eq key (bucket_key b) ≡ false = ap (key_eq key) at.is ∙ apart (start_at s number) (start_at s at.number) (start-rising s spaced number at.number f.numbered less) in
      subst (λ t. Next (cond t b (empty key)) (cond t bs (b ∷ bs))) (sym other)
      (absent within (b ∷ bs) f (all_past s spaced high number f.numbered b bs at less f.held.1 (and_parts _ _ f.up).0)))
      (λ most.
      let same : at.number ≡ number = most_least at.number number most at.at_least in
      let is = at.is ∙ ap (λ m. Whole (start_at s m)) same in
      let own : key_eq key (bucket_key b) ≡ true = ap (key_eq key) is ∙ key_eq-self key in
      subst (λ t. Next (cond t b (empty key)) (cond t bs (b ∷ bs))) (sym own) (found within b bs f is))

-- at the first one all is left
pub filling-begins : (s : Spacing) (extended hard : Bounds) (spaced : is_spaced s extended hard ≡ true) (empty : Key → Bucket) (bs : List Bucket) (made : are_made s extended hard spaced bs ≡ true)
    → is_ascending (map bucket_key bs) ≡ true → (first last : ℤ) → IsSpan s extended hard (key_numbers bs) first last
    → IsFilling s empty (map (bucket_at empty bs) (filled_keys s extended hard (key_numbers bs))) [] bs first first last
filling-begins s extended hard spaced empty bs made up first last span = record {
  numbered = span-numbered s extended hard spaced bs made first last span;
  held = span-holds s extended hard spaced bs made first last span;
  up = up;
  from = itself first;
  made = ap (map (bucket_at empty bs)) (ap (keys_from s first) (span-count s extended hard spaced bs made first last span) ∙ sym (span-keys s extended hard spaced bs made first last span));
}
