-- The shard of a number, its rows, and the room that a pass has for its answer.
use Rattle.std.specs.Prelude.{◌≡◌, refl, ℕ, zero, suc, ◌+◌, ◌<◌, ◌≤◌, List, [], ◌∷◌, Some, length, slice_get, slice_index_or}
use Rattle.std.specs.Option.{ForSome}
use Rattle.std.proofs.Common.{ap, arith, subst, sym}
use Rattle.agg_evaluation.specs.Cost.{cost}
use Rattle.agg_evaluation.specs.Rows.{PlacedRow}
use Rattle.agg_evaluation.specs.Shard.{shard_answer}
use Rattle.agg_model.specs.declared.aggregation.Search.{Search}
use Rattle.breaker_words.specs.declared.view.View.{View}
use Rattle.collect_tree.proofs.Rooms.{answer-room}
use Rattle.collect_tree.specs.Room.{HasRoom}
use Rattle.shard_columns.specs.Columns.{Columns}
use Rattle.shard_columns.specs.Index.{rows_by_shard}
use Rattle.shard_columns.specs.Made.{IsSearchFor}

pub rows-here : (ss : List Columns) (i : ℕ) (s : Columns) → slice_get ss i ≡ Some s → slice_index_or (rows_by_shard ss) i [] ≡ s.rows
rows-here [] i s e = absurd (let no : ⊥ = cc in no)
rows-here (x ∷ xs) zero s e = let same : x ≡ s = cc in ap (λ (c : Columns). c.rows) same
rows-here (x ∷ xs) (suc i) s e = rows-here xs i s e

-- a number of a shard has one
some-there : (ss : List Columns) (i : ℕ) → i < length ss → (s : Columns) × (slice_get ss i ≡ Some s)
some-there [] i less = absurd (let no : ⊥ = omega (arith, less) in no)
some-there (x ∷ xs) zero less = (x, refl)
some-there (x ∷ xs) (suc i) less = some-there xs i (omega (arith, less))

-- what is found at a place of a shard is the shard
pub shard-there : (ss : List Columns) (i : ℕ) (s : Columns) → i < length ss → s ≡ slice_index_or ss i s → slice_get ss i ≡ Some s
shard-there [] i s less is = absurd (let no : ⊥ = omega (arith, less) in no)
shard-there (x ∷ xs) zero s less is = ap Some (sym is)
shard-there (x ∷ xs) (suc i) s less is = shard-there xs i s (omega (arith, less)) is

module _ (s : Columns) (search : Search) (made : IsSearchFor s search) (v : View) (room : HasRoom s search v) where
  -- what a task may hold is at least its answer
  room-for-answer : (rows : List PlacedRow) → s.rows ≡ rows → v.accounts.parent.hold + cost (shard_answer search rows) ≤ v.cap
  room-for-answer rows same =
      let twice = answer-room s search made room.ceiling room.is in
      let fits = room.fits in
      subst (λ (rs : List PlacedRow). v.accounts.parent.hold + cost (shard_answer search rs) ≤ v.cap) same (omega arith)

-- so the pass has room for the answer of the shard
pub room-at : (ss : List Columns) (i : ℕ) (search : Search) (v : View) → i < length ss → ForSome (slice_get ss i) (λ s. IsSearchFor s search)
    → ForSome (slice_get ss i) (λ s. HasRoom s search v)
    → v.accounts.parent.hold + cost (shard_answer search (slice_index_or (rows_by_shard ss) i [])) ≤ v.cap
room-at ss i search v less made room =
    let s = some-there ss i less in
    room-for-answer s.0 search (made s.0 s.1) v (room s.0 s.1) (slice_index_or (rows_by_shard ss) i []) (sym (rows-here ss i s.0 s.1))
