use Rattle.std.proofs.Common.{◌==◌, ◌∙◌, ℕ, List, sym, ap}
use Rattle.std.proofs.lemmas.List.{take_at}
use Rattle.std.proofs.lemmas.List.Sorted.{list_any-IsPermutation}
use Rattle.agg_base.specs.Memory.{is_failing}
use Rattle.agg_base.proofs.failing.ascending.Goals as goal

pub returns-clause-same : goal.returns-clause-same
returns-clause-same c call =
    let sorted = c.sort_unstable.new.self in
    let fails : List ℕ → _ = λ numbers. is_failing numbers call in
    ap fails (take_at sorted _ c.into_vec-numbers.result.len (c.sort_unstable.ensures.len ∙ c.as_mut_slice.ensures.len))
    ∙ sym (list_any-IsPermutation (λ n. n == call) c.as_mut_slice.result.now sorted c.sort_unstable.ensures.permutation)
    ∙ ap fails (c.as_mut_slice.ensures.value ∙ c.into_vec-numbers.ensures)
