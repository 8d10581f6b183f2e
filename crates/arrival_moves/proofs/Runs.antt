-- What holds after every list of moves.
use Rattle.std.proofs.Common.{◌≡◌, ℕ, Bool, true, cond, fold, List, [], ◌∷◌, ap, ◌∙◌, refl}
use mathlib.Core.Option.{some}
use lib.ListN.{get_elem?}
use Rattle.arrival_moves.specs.Fairness.{ClaimsFit, HasShape}
use Rattle.arrival_moves.specs.Hands.{find_item}
use Rattle.arrival_moves.specs.Moves.{ArrivalState, Move, move, run, opened, move_desk, move_item, move_some, move_found}
use Rattle.arrival_moves.specs.Plans.{IsPlan}
use Rattle.arrival_moves.specs.declared.item.Item.{Item}
use Rattle.arrival_moves.specs.declared.plan.Plan.{Plan}
use Rattle.arrival_moves.specs.declared.view.View.{View}
use Rattle.arrival_moves.proofs.Stops.{NotesKept, StopsKept, noted_move, noted_opened, stops_move, stops_opened}
use Rattle.arrival_moves.proofs.TasksOnce.{TasksKept, SlotsFilled, tasks_move, tasks_opened, filled_move, filled_opened}
use Rattle.arrival_moves.proofs.Batches.{BatchesKept, batches_move, batches_opened}
use Rattle.arrival_moves.proofs.LabelsFit.{LabelsFit, labels_move, labels_opened}
use Rattle.arrival_moves.proofs.Shapes.{shape_move, shape_opened}
use Rattle.arrival_moves.proofs.Claims.{claims_move, claims_opened}
use Rattle.arrival_moves.proofs.Loads.{LoadsFit, loads_move, loads_opened}
use Rattle.arrival_moves.proofs.Reached.{ReachedFit, reached_move, reached_opened}
use Rattle.arrival_moves.proofs.Counts.{CountsFit, counts_move, counts_opened}
use Rattle.arrival_moves.proofs.Results.{ResultsFit, results_move, results_opened}
use Rattle.arrival_moves.proofs.Words.{WordsFit, words_move, words_opened}

pub record IsKept (p : Plan) (s : ArrivalState) : Type 0 where
  pub shape : HasShape p s
  pub claims : ClaimsFit p s
  pub loads : LoadsFit p s
  pub words : WordsFit p s
  pub results : ResultsFit p s
  pub reached : ReachedFit p s
  pub counts : CountsFit p s
  pub labels : LabelsFit p s
  pub batches : BatchesKept p s
  pub tasks : TasksKept p s
  pub filled : SlotsFilled s
  pub notes : NotesKept s
  pub stops : StopsKept p s

module _ (p : Plan) (good : IsPlan p) where
  -- every move keeps all of it
  pub kept_move : (s : ArrivalState) (m : Move) → IsKept p s → IsKept p (move p s m)
  kept_move s m f = record { shape = shape_move p s m f.shape; claims = claims_move p s m f.claims; loads = loads_move p s m f.loads; words = words_move p good s m f.shape f.words; results = results_move p good s m f.shape f.words f.results; reached = reached_move p good s m f.shape f.words f.results f.reached; counts = counts_move p good s m f.shape f.words f.counts; labels = labels_move p good s m f.shape f.words f.results f.counts f.labels; batches = batches_move p good s m f.shape f.words f.results f.counts f.labels f.batches; tasks = tasks_move p good s m f.shape f.words f.results f.labels f.batches f.tasks; filled = filled_move p good s m f.labels f.filled; notes = noted_move p s m f.notes; stops = stops_move p good s m f.shape f.words f.results f.labels f.batches f.notes f.stops }

  -- so does a list of moves
  from : (ms : List Move) (s : ArrivalState) → IsKept p s → IsKept p (fold (move p) s ms)
  from [] s f = f
  from (m ∷ ms) s f = from ms (move p s m) (kept_move s m f)

  -- and it holds at the opening
  pub kept_run : (ms : List Move) → IsKept p (run p ms)
  kept_run ms = from ms (opened p) (record { shape = shape_opened p; claims = claims_opened p; loads = loads_opened p; words = words_opened p good; results = results_opened p good; reached = reached_opened p good; counts = counts_opened p good; labels = labels_opened p good; batches = batches_opened p good; tasks = tasks_opened p good; filled = filled_opened p good; notes = noted_opened p good; stops = stops_opened p good })

-- what a desk makes of the state where it may
pub move_desk_is : (s : ArrivalState) (i : ℕ) (may : View → Bool) (act : View → ArrivalState) (v : View) → get_elem? s.desks i ≡ some v → may v ≡ true → move_desk s i may act ≡ act v
unfolding move_desk
move_desk_is s i may act v e m = ap (move_some s may act) e ∙ ap (λ b. cond b (act v) s) m

-- and with an item of its hand
pub move_item_is : (s : ArrivalState) (i : ℕ) (is : Item → Bool) (may : View → Item → Bool) (act : View → Item → ArrivalState) (v : View) (x : Item) → get_elem? s.desks i ≡ some v → find_item is v.hand ≡ some x → may v x ≡ true → move_item s i is may act ≡ act v x
unfolding move_item
move_item_is s i is may act v x e g m = move_desk_is s i (λ _. true) (λ u. move_found s (may u) (act u) (find_item is u.hand)) v e refl ∙ (ap (move_found s (may v) (act v)) g ∙ ap (λ b. cond b (act v x) s) m)
