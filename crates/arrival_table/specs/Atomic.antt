-- What one atomic step makes of the words, the slots at home and the views of all desks.
use Rattle.std.specs.Prelude.{◌≡◌, ℕ, suc, ◌+◌, ◌%◌, ◌^◌, ◌<◌, List, [], ◌∷◌, length, slice_index}
use mathlib.Core.Option.{some}
use lib.ListN.{get_elem?}
use Rattle.atomic_table.specs.Table.{State, keeps, takes, gives, stepped}
use Rattle.arrival_moves.specs.declared.label.Label.{Label}
use Rattle.arrival_moves.specs.declared.plan.Plan.{Plan}
use Rattle.arrival_moves.specs.Moves.{Move, run}
use Rattle.arrival_moves.specs.Plans.{IsPlan, task_count, place_of}
use Rattle.arrival_table.specs.declared.cell.Cell.{Cell}
use Rattle.arrival_table.specs.declared.known.Known.{Known}
use Rattle.arrival_table.specs.Outs.{OutOnce}
use Rattle.arrival_table.specs.Steps.{IsStateOf}

abbrev pub Running : Type 0 → Type 0 → Type 0
Running A R = State (Cell A R) Known

-- how many values a word of 64 bits has
abbrev pub word_values : ℕ
word_values = 2 ^ 64

-- what fetch_add of 1 makes of a word
abbrev pub word_plus_one : ℕ → ℕ
word_plus_one n = (n + 1) % word_values

-- where the words of a search and of a batch stand
abbrev pub ticket_word : ℕ → ℕ
ticket_word q = suc q

abbrev pub count_word : Plan → ℕ → ℕ → ℕ
count_word p q b = suc (p.searches + place_of p q b)

abbrev pub stop_word : Plan → ℕ → ℕ
stop_word p q = suc (p.searches + (task_count p + q))

module _ {A R : Type 0} where
  -- the word at w becomes n, the desk i knows d, and no slot moves
  abbrev pub at_word : Running A R → ℕ → ℕ → ℕ → Known → Running A R
  at_word s w n i d = stepped s w n i [] d keeps

  -- at a load of the first word, the slot j, which holds y, comes to the desk i; or goes back from it with y
  abbrev pub taking : Running A R → ℕ → Cell A R → ℕ → Known → Running A R
  taking s j y i d = stepped s 0 (slice_index s.words 0) i [] d (takes j y)

  abbrev pub giving : Running A R → ℕ → Cell A R → ℕ → Known → Running A R
  giving s j y i d = stepped s 0 (slice_index s.words 0) i ((j, y) ∷ []) d gives

  -- only views change
  abbrev pub with_views : Running A R → List Known → Running A R
  with_views s ds = record { words = s.words; homes = s.homes; views = ds }

  -- the slot j is at home and holds y
  abbrev pub IsHome : Running A R → ℕ → Cell A R → Type 0
  IsHome s j y = get_elem? s.homes j ≡ some (some y)

module _ {A R : Type 0} (load : A → Label) (outcome : R → Label) where
  -- words, slots and views are what the moves make, and each slot that is not at home is out with one desk
  abbrev pub IsAfter : Plan → List Move → Running A R → Type 0
  IsAfter p ms s = IsStateOf load outcome p (run p ms) s × OutOnce s.homes s.views

  -- so they are of a table with three slots for each task and words of 64 bits, and the desk i knows d
  pub record IsDeskAfter (p : Plan) (ms : List Move) (s : Running A R) (i : ℕ) (d : Known) : Type 0 where
    pub plan : IsPlan p
    pub state : IsAfter p ms s
    pub slots : length s.homes ≡ task_count p + task_count p + task_count p
    pub words : (w : ℕ) → slice_index s.words w < word_values
    pub view : get_elem? s.views i ≡ some d
