-- The rule that the table keeps between any two atomic steps, and what each step tells its desk.
use Rattle.std.specs.Prelude.{◌≡◌, ℕ, ◌+◌, ◌/◌, ◌<◌, ◌≤◌, IsTrue, List, [], ◌∷◌, ◌++◌, map, length}
use mathlib.Core.Option.{Option, some}
use lib.ListN.{get_elem?}
use Rattle.atomic_table.specs.Table.{State, Me, Step}
use Rattle.arrival_moves.specs.declared.item.Item.{Item}
use Rattle.arrival_moves.specs.declared.label.Label.{Label}
use Rattle.arrival_moves.specs.declared.limits.TheConstants.{ALL_CLAIMS, MAX_TASKS}
use Rattle.arrival_moves.specs.declared.plan.Plan.{Plan}
use Rattle.arrival_table.specs.declared.cell.Cell.{Cell}
use Rattle.arrival_table.specs.declared.cell.Cell.TheVariants.{Vacant, Load, Outcome}
use Rattle.arrival_table.specs.declared.known.Known.{Known}
use Rattle.arrival_moves.specs.AfterMove.{after_claim, after_take_task, after_arrive, after_stop, after_stopped}
use Rattle.arrival_moves.specs.AfterMove.{after_reach_result, after_put, after_count, after_take_result, after_reach_batch, after_put_merged}
use Rattle.arrival_moves.specs.Fairness.{IsOfSearch}
use Rattle.arrival_moves.specs.Hands.{find_item}
use Rattle.arrival_moves.specs.Items.{is_loaded, is_arrived, is_batch}
use Rattle.arrival_moves.specs.Labels.{task_label}
use Rattle.arrival_moves.specs.Lists.{contains}
use Rattle.arrival_moves.specs.Moves.{ArrivalState, Move, run}
use Rattle.arrival_moves.specs.Plans.{task_count, search_of, tasks_of, place_of}
use Rattle.arrival_moves.specs.Slots.{Slot, fresh, holds}
use Rattle.arrival_table.specs.Holding.{AreNew}
use Rattle.arrival_table.specs.Outs.{OutOnce, knows, now_knows, now_has_out}

-- the words of the table: the claim word, ticket words, count words, stop words
abbrev pub words_of : ArrivalState → List ℕ
words_of k = k.claimed ∷ (k.tickets ++ (k.counts ++ k.stops))

-- where the slots of a result and of a batch stand: behind the loads, and behind the results
abbrev pub result_slot : Plan → ℕ → ℕ → ℕ
result_slot p q t = task_count p + place_of p q t

abbrev pub batch_slot : Plan → ℕ → ℕ → ℕ
batch_slot p q b = task_count p + task_count p + place_of p q b

module _ {A R : Type 0} (load : A → Label) (outcome : R → Label) where
  -- a load's slot at home
  abbrev pub IsLoadAt : List (Option (Cell A R)) → ℕ → Slot → Type 0
  IsLoadAt hs j (holds l) = (y : A) × (get_elem? hs j ≡ some (some (Load y))) × (load y ≡ l)
  IsLoadAt hs j _ = Unit {0}

  -- a result's slot at home
  abbrev pub IsOutcomeAt : List (Option (Cell A R)) → ℕ → Slot → Type 0
  IsOutcomeAt hs j fresh = get_elem? hs j ≡ some (some Vacant)
  IsOutcomeAt hs j (holds l) = (y : R) × (get_elem? hs j ≡ some (some (Outcome y))) × (outcome y ≡ l)
  IsOutcomeAt hs j _ = Unit {0}

  -- the words, the slots at home and the views of all desks are as the state says
  pub record IsStateOf (p : Plan) (k : ArrivalState) (s : State (Cell A R) Known) : Type 0 where
    pub words : s.words ≡ words_of k
    pub desks : map (λ (d : Known). d.view) s.views ≡ k.desks
    pub loads : (j : ℕ) (x : Slot) → get_elem? k.loads j ≡ some x → IsLoadAt s.homes j x
    pub results : (j : ℕ) (x : Slot) → get_elem? k.results j ≡ some x → IsOutcomeAt s.homes (task_count p + j) x
    pub batches : (j : ℕ) (x : Slot) → get_elem? k.batches j ≡ some x → IsOutcomeAt s.homes (task_count p + task_count p + j) x

  -- the rule: some list of moves from the opening makes them, and each slot that is not at home is out with one desk
  abbrev pub IsReached : Plan → State (Cell A R) Known → Type 0
  IsReached p s = (ms : List Move) × IsStateOf p (run p ms) s × OutOnce s.homes s.views

  -- of a step, what the desk knew, the word that was found, and what the desk knows after it
  abbrev pub StepTells : Type 1
  StepTells = Step (Cell A R) → Me (Cell A R) Known → ℕ → Me (Cell A R) Known → Type 0

  -- the number that was found is at least the desk's own claims
  abbrev pub Claims : Plan → StepTells
  Claims p s v n w = (w ≡ (now_knows v.0 (after_claim p v.0.view n), v.1)) × (v.0.view.drawn ≤ n) × (n < ALL_CLAIMS)

  -- the load comes with its slot
  abbrev pub TakesTask : ℕ → StepTells
  TakesTask k s v n w = (y : A) × (w ≡ (now_has_out v.0 (after_take_task v.0.view k) k, (k, Load y) ∷ v.1)) × (load y ≡ task_label k)

  -- the only slot that is out goes back, with whatever it holds
  abbrev pub GivesBack : StepTells
  GivesBack s v n w = w ≡ (knows v.0.view, [])

  -- the number that was found is the ticket
  abbrev pub Arrives : Plan → ℕ → StepTells
  Arrives p k s v n w =
      (x : Item) × (find_item (is_loaded k) v.0.view.hand ≡ some x)
      × (w ≡ (now_knows v.0 (after_arrive v.0.view k x (search_of p k) n), v.1)) × (n < tasks_of p (search_of p k))

  -- the desk is at the empty slot of the ticket's result
  abbrev pub ReachesResult : Plan → ℕ → ℕ → StepTells
  ReachesResult p q t s v n w =
      (x : Item) × (find_item (is_arrived q t) v.0.view.hand ≡ some x)
      × (w ≡ (now_has_out v.0 (after_reach_result v.0.view q t x) (result_slot p q t), (result_slot p q t, Vacant) ∷ v.1))
      × (t < tasks_of p q)

  -- the result lies in its slot
  abbrev pub PutsResult : ℕ → ℕ → StepTells
  PutsResult q t s v n w = w ≡ (knows (after_put v.0.view q t), [])

  -- the count that is made
  abbrev pub Counts : Plan → ℕ → ℕ → StepTells
  Counts p q t s v n w = (w ≡ (now_knows v.0 (after_count p v.0.view q t (n + 1)), v.1)) × (n ≤ MAX_TASKS)

  -- the result of a due ticket comes with its slot; it stands for one task of the search, which was not taken before
  abbrev pub TakesResult : Plan → ℕ → ℕ → StepTells
  TakesResult p q t s v n w =
      (x : Item) × (find_item (is_batch q (t / p.batch)) v.0.view.hand ≡ some x) × (y : R)
      × (w ≡ (now_has_out v.0 (after_take_result p v.0.view q t x (outcome y)) (result_slot p q t), (result_slot p q t, Outcome y) ∷ v.1))
      × (t < tasks_of p q) × (length (outcome y).tasks ≡ 1) × IsOfSearch p q (outcome y)
      × AreNew q (t / p.batch) v.0.view (outcome y)

  -- the desk is at the empty slot of the batch's merged result
  abbrev pub ReachesBatch : Plan → ℕ → ℕ → StepTells
  ReachesBatch p q b s v n w =
      (x : Item) × (find_item (is_batch q b) v.0.view.hand ≡ some x)
      × (w ≡ (now_has_out v.0 (after_reach_batch v.0.view q b x) (batch_slot p q b), (batch_slot p q b, Vacant) ∷ v.1))
      × (b < tasks_of p q)

  -- the merged result lies in its slot
  abbrev pub PutsMerged : ℕ → ℕ → StepTells
  PutsMerged q b s v n w = w ≡ (knows (after_put_merged v.0.view q b), [])

  -- the task is marked failed
  abbrev pub Stops : ℕ → StepTells
  Stops k s v n w = w ≡ (now_knows v.0 (after_stop v.0.view k), v.1)

  -- the stop word that is read; it is 1 where the desk had noted the search as stopped
  abbrev pub ReadsStop : ℕ → StepTells
  ReadsStop q s v n w = (w ≡ (now_knows v.0 (after_stopped v.0.view q n), v.1)) × (n ≤ 1) × (IsTrue (contains q v.0.view.stopped) → n ≡ 1)

  -- nothing changes; no desk has more than all claims
  abbrev pub Looks : StepTells
  Looks s v n w = (w ≡ v) × (v.0.view.left + v.0.view.drawn ≤ ALL_CLAIMS)
