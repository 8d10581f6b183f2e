-- What listeners hear, line by line and of all lines.
use Rattle.std.specs.Prelude.{◌≡◌, ◌+◌, ℕ, min, List, [], ◌∷◌, map}
use Rattle.std.proofs.Common.{◌∙◌, refl, ap, arith}
use Rattle.agg_listen.specs.Hearing.{Hearing, last_number, next_line}
use Rattle.agg_listen.specs.Standing.{Standing, all_having_heard_each, all_having_heard}
use Rattle.agg_spec.specs.Written.{Line, bulk, answer, settings, error, statistics, told_from}
use Rattle.script_answers.specs.Hearing.{with_number}
use Rattle.script_answers.specs.Outputs.{after_all, told_of}

abbrev at : ℕ → List Standing → Hearing
at n all = record { line = min n last_number; listeners = all }

next-is : (n : ℕ) → next_line (min n last_number) ≡ min (n + 1) last_number
next-is n = omega arith

-- behind one more line
module _ (n : ℕ) (rest : List Line) (all : List Standing)
    (later : (all : List Standing) → (after_all rest (at (n + 1) all)).listeners ≡ all_having_heard_each (map with_number (told_from (n + 1) rest)) all) where
  one-more : (left : List Standing) → (after_all rest (record { line = next_line (min n last_number); listeners = left })).listeners
      ≡ all_having_heard_each (map with_number (told_from (n + 1) rest)) left
  one-more left = ap (λ (k : ℕ). (after_all rest (record { line = k; listeners = left })).listeners) (next-is n) ∙ later left

pub heard-from : (written : List Line) (n : ℕ) (all : List Standing) → (after_all written (at n all)).listeners ≡ all_having_heard_each (map with_number (told_from n written)) all
heard-from [] n all = refl
heard-from (bulk text ∷ rest) n all = one-more n rest all (heard-from rest (n + 1)) all
heard-from (answer a ∷ rest) n all = one-more n rest all (heard-from rest (n + 1)) (all_having_heard (told_of (min n last_number) a) all)
heard-from (settings c ∷ rest) n all = one-more n rest all (heard-from rest (n + 1)) all
heard-from (error text ∷ rest) n all = one-more n rest all (heard-from rest (n + 1)) all
heard-from (statistics t ∷ rest) n all = one-more n rest all (heard-from rest (n + 1)) all
