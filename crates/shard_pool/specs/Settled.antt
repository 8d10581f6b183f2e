-- What is handed out of a search whose results were all joined.
use Rattle.std.specs.Prelude.{◌≡◌, true, false, List, [], ◌∷◌, IsPermutation, IsSortedByKey, ⊤}
use Rattle.std.specs.Ordering.{nat_cmp}
use Rattle.agg_model.specs.declared.outcome.Failure.{Failure}
use Rattle.shard_pool.specs.Gathered.{is_stopped}
use Rattle.shard_pool.specs.declared.gathered.Gathered.{Gathered}
use Rattle.shard_pool.specs.declared.search_end.SearchEnd.{SearchEnd}

-- the end of a search: no parts where it was stopped
pub record IsEndOf (g : Gathered) (e : SearchEnd) : Type 0 where
  pub stopped : is_stopped g ≡ true → e.parts ≡ []
  pub parts : is_stopped g ≡ false → e.parts ≡ g.parts
  pub refused : e.refused ≡ g.refused
  pub memory : e.memory ≡ g.memory
  pub failures : IsPermutation g.failures e.failures
  pub ascending : IsSortedByKey (λ (f : Failure). f.shard) nat_cmp e.failures

-- one for each search
abbrev pub AreEnds : List Gathered → List SearchEnd → Type 0
AreEnds [] [] = ⊤
AreEnds (g ∷ gs) (e ∷ es) = IsEndOf g e × AreEnds gs es
AreEnds _ _ = ⊥
