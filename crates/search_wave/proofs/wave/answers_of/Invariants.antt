use Rattle.std.proofs.Common.{◌≡◌, ◌++◌, map}
use Rattle.std.specs.Vec.Iter.{into_iter_items}
use Rattle.agg_search.specs.declared.solo.Page.{Page}
use Rattle.search_wave.proofs.wave.answers_of.Given as goal

abbrev pub invariant-loop-page : goal.invariant-loop-page
invariant-loop-page l = record {
  left : l.yielded ++ into_iter_items l.page-iterator ≡ l.fn.pages;
  all : l.answers.items ≡ map (λ (p : Page). p.answered) l.yielded;
}
