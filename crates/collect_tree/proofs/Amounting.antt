-- The amounts of a task, one after another.
use Rattle.std.specs.Prelude.{◌≡◌, ℕ, ℤ, pos, ◌-ℤ◌, ◌+◌, ◌<◌, ◌≤◌, List, [], ◌∷◌, ◌++◌, take, Some, slice_get}
use Rattle.std.proofs.Common.{sym, ◌∙◌, ap, subst, arith}
use Rattle.std.proofs.lemmas.Int.{ints}
use Rattle.std.proofs.lemmas.List.{take_all}
use Rattle.agg_model.specs.declared.aggregation.Search.{Search}
use Rattle.agg_model.specs.declared.breaker.Limits.{Limits}
use Rattle.agg_model.specs.declared.breaker.Tripped.{Tripped}
use Rattle.agg_evaluation.specs.Cost.{cost}
use Rattle.agg_evaluation.specs.Rows.{PlacedRow}
use Rattle.agg_evaluation.specs.Shard.{int_sum, shard_answer}
use Rattle.agg_evaluation.specs.Trace.{built, task_overhead}
use Rattle.breaker_words.specs.declared.view.View.{View}
use Rattle.growth_laws.proofs.Sums.{amount-first, amount-last, amount-row, amounts-count, amounts-lead}
use Rattle.growth_laws.specs.Amounts.{amounts, row_count}
use Rattle.task_charges.specs.Charged.{HasPaid}
use Rattle.task_charges.specs.Ended.{IsRefused}
use Rattle.collect_tree.specs.Stops.{IsStopped}
use Rattle.collect_tree.specs.declared.ending.Stop.{Stop}
use Rattle.collect_tree.proofs.Counting.{take-drop, take-next}

-- one more amount is charged or given back: from `held` to `wanted`
module _ (l : Limits) (u w : View) (ns : List ℤ) (k held wanted : ℕ) (here : slice_get ns k ≡ Some (pos wanted -ℤ pos held)) where
  pub paid-next : ((v : View) (some : List ℤ) → HasPaid l v u some → HasPaid l v w (some ++ (pos wanted -ℤ pos held) ∷ []))
      → (v : View) → HasPaid l v u (take k ns) → HasPaid l v w (take (k + 1) ns)
  paid-next step v paid = subst (HasPaid l v w) (sym (take-next ns k _ here)) (step v (take k ns) paid)

  pub refused-next : (t : Tripped)
      → ((v : View) (some more : List ℤ) → HasPaid l v u some → pos held ≡ int_sum some → IsRefused l v w (some ++ (pos wanted -ℤ pos held) ∷ more) t)
      → pos held ≡ int_sum (take k ns) → (v : View) → HasPaid l v u (take k ns) → IsRefused l v w ns t
  refused-next t step sum v paid =
      let split = take-drop ns k _ here in
      subst (λ all. IsRefused l v w all t) (sym split.1) (step v (take k ns) split.0 paid sum)

  -- the same where the task may have stopped for want of memory too
  pub stopped-next : (stop : Stop)
      → ((v : View) (some more : List ℤ) → HasPaid l v u some → pos held ≡ int_sum some → IsStopped l v w (some ++ (pos wanted -ℤ pos held) ∷ more) stop)
      → pos held ≡ int_sum (take k ns) → (v : View) → HasPaid l v u (take k ns) → IsStopped l v w ns stop
  stopped-next stop step sum v paid =
      let split = take-drop ns k _ here in
      subst (λ all. IsStopped l v w all stop) (sym split.1) (step v (take k ns) split.0 paid sum)

module _ (search : Search) (all : List PlacedRow) where
  -- what a task holds with the trees of n roots
  abbrev pub held_at : ℕ → ℕ
  held_at n = task_overhead + cost (built search all n)

  pub held-sum : (n : ℕ) → n ≤ row_count search all → pos (held_at n) ≡ int_sum (take (n + 1) (amounts search all))
  held-sum n within = sym (amounts-lead search all n within)

  pub first-amount : slice_get (amounts search all) 0 ≡ Some (pos (held_at 0))
  first-amount = amount-first search all

  pub next-amount : (n : ℕ) → n < row_count search all → slice_get (amounts search all) (n + 1) ≡ Some (pos (held_at (n + 1)) -ℤ pos (held_at n))
  next-amount n within =
      amount-row search all n within
      ∙ ap Some (let e : (pos (cost (built search all (n + 1))) -ℤ pos (cost (built search all n))) ≡ (pos (held_at (n + 1)) -ℤ pos (held_at n)) = omega (arith, ints) in e)

  pub last-amount : slice_get (amounts search all) (row_count search all + 1) ≡ Some (pos (cost (shard_answer search all)) -ℤ pos (held_at (row_count search all)))
  last-amount = amount-last search all

  pub all-amounts : take (row_count search all + 1 + 1) (amounts search all) ≡ amounts search all
  all-amounts = let count = amounts-count search all in take_all (row_count search all + 1 + 1) (amounts search all) (omega arith)
