-- The words and the views that running threads share, and one atomic step on them.
use Rattle.std.specs.Prelude.{◌≡◌, ℕ, ◌+◌, ◌-◌, ◌%◌, List, slice_set}
use mathlib.Core.Option.{some}
use lib.ListN.{get_elem?}
use Rattle.atomic_table.specs.Table.{State}
use Rattle.agg_model.specs.declared.breaker.Limits.{Limits}
use Rattle.breaker_words.specs.declared.view.View.{View}
use Rattle.breaker_words.specs.Breakers.{words_of}
use Rattle.breaker_words.specs.Moves.{BreakerState, Move, run}

abbrev pub Running : Type 0
Running = State (Unit {0}) View

-- they are those of the breaker state k
abbrev pub IsStateOf : BreakerState → Running → Type 0
IsStateOf k s = (s.words ≡ words_of k.word_of k.ceiling) × (s.views ≡ k.passes)

-- they are what the moves make, and the pass i knows v
pub record IsPassAfter (l : Limits) (ms : List Move) (s : Running) (i : ℕ) (v : View) : Type 0 where
  pub state : IsStateOf (run l ms) s
  pub view : get_elem? s.views i ≡ some v

-- what fetch_add and fetch_sub make of a word of 64 bits
abbrev pub word_plus : ℕ → ℕ → ℕ
word_plus n a = (n + a) % 18446744073709551616

abbrev pub word_minus : ℕ → ℕ → ℕ
word_minus n a = (n + (18446744073709551616 - a)) % 18446744073709551616

-- the word at p becomes n, the pass i knows v, and nothing else changes
abbrev pub after_atomic : Running → ℕ → ℕ → ℕ → View → Running
after_atomic s p n i v = record { words = slice_set s.words p n; homes = s.homes; views = slice_set s.views i v }

-- no word changes
abbrev pub with_views : Running → List View → Running
with_views s vs = record { words = s.words; homes = s.homes; views = vs }
