-- The answers of an object one after another.
use Rattle.std.specs.Prelude.{◌≡◌, refl, ℕ, zero, suc, ◌+◌, ◌<◌, ◌≤◌, length, List, [], ◌∷◌, ◌++◌, codes, map, drop, slice_get, Some, None, option_map, Result, Ok, Err}
use Rattle.std.specs.Option.{option_map_or}
use Rattle.std.proofs.Common.{◌∙◌, sym, ap, arith, get_or, subst}
use Rattle.std.proofs.lemmas.List.{append_assoc}
use denote.Param.Weighed.{most}
use Rattle.agg_model.specs.declared.aggregation.Agg.{Agg, out-Agg, size-Agg}
use Rattle.agg_model.specs.declared.aggregation.Agg.TheViews.{size_is-Agg}
use Rattle.agg_model.specs.declared.answer.NodeAnswer.{NodeAnswer}
use Rattle.agg_model.specs.declared.pipeline.Pipe.{Pipe}
use Rattle.agg_spec.specs.Notes.{below_agg, note_from_around, object_nodes, piped_nodes, piper, pipes_within, unpiped}
use Rattle.agg_spec.specs.RangeCheck.{check_each, checker}
use Rattle.list_laws.proofs.Lists.{append-nil}
use Rattle.pipeline_agg.specs.Bounds.{AreInRange}
use Rattle.pipeline_agg.specs.Entries.{AreFit, view_of}
use Rattle.pipeline_agg.specs.Objects.{AreNodes, IsKept, IsNode, IsTold, node_entries, node_entry, node_kept, said_below}
use Rattle.pipeline_agg.specs.Placed.{part_of, pipes_of}
use Rattle.pipeline_agg.specs.Told.{IsFit, first_wide, notes_of, unsorted}
use Rattle.pipeline_agg.specs.declared.fault.PipeFault.{PipeFault}
use Rattle.pipeline_agg.specs.declared.fault.PipeFault.TheVariants as fault
use Rattle.pipeline_agg.specs.declared.objects.RemarkedNode.{RemarkedNode}
use Rattle.pipeline_agg.specs.declared.objects.RemarkedNodes.{RemarkedNodes}
use Rattle.pipeline_agg.specs.declared.placed.Part.{Part}
use Rattle.pipeline_agg.specs.declared.remarked.Said.{Said}
use Rattle.pipeline_agg.specs.declared.remarked.Said.TheVariants as said
use Rattle.pipeline_agg.proofs.EntryLaws.{fit-back, fit-front}
use Rattle.pipeline_agg.proofs.InRange.{no-first, no-second}
use Rattle.pipeline_agg.proofs.Wides.{notes-below, wide-below}

-- what prints under an aggregation's name is what its remarks tell
entry-is : (i : ℕ) (a : Agg) (pipes : List Pipe) (n : NodeAnswer) (r : Result RemarkedNode PipeFault) → IsTold r → IsNode a pipes n r → ((out-Agg a).name, said_below i (out-Agg a).name r) ≡ node_entry i a pipes n
entry-is i a pipes n (Ok r) known h =
    let name = (out-Agg a).name in
    let kept = map (below_agg i name) ((piper a).piped pipes n).remarks in
    let none : first_wide (map (below_agg i name) ((piper a).piped (unsorted pipes) n).remarks) ≡ None =
    wide-below i name ((piper a).piped (unsorted pipes) n).remarks ∙ ap (option_map (λ path. codes "/" ++ (name ++ path))) h.2 in
    let notes = ap (map (note_from_around i)) h.1 ∙ notes-below i name ((piper a).piped pipes n).remarks in
    ap (λ (s : Said). (name, s)) (ap said.Notes notes ∙ sym (ap (λ w. option_map_or said.Wide w (said.Notes (notes_of kept))) none))
entry-is i a pipes n (Err (fault.SumRange path)) known h =
    let name = (out-Agg a).name in
    let kept = map (below_agg i name) ((piper a).piped pipes n).remarks in
    let some : first_wide (map (below_agg i name) ((piper a).piped (unsorted pipes) n).remarks) ≡ Some (codes "/" ++ (name ++ path)) =
    wide-below i name ((piper a).piped (unsorted pipes) n).remarks ∙ ap (option_map (λ p. codes "/" ++ (name ++ p))) h in
    ap (λ (s : Said). (name, s)) (sym (ap (λ w. option_map_or said.Wide w (said.Notes (notes_of kept))) some))
entry-is i a pipes n (Err fault.Memory) known h = absurd known

-- its answer is there where no value is out of range
node-there : (i : ℕ) (name : List ℕ) (a : Agg) (pipes : List Pipe) (n : NodeAnswer) (r : Result RemarkedNode PipeFault) → IsTold r → IsNode a pipes n r → IsFit (said_below i name r)
    → node_kept r ≡ ((piper a).piped pipes n).node ∷ []
node-there i name a pipes n (Ok r) known h fit = ap (λ m. m ∷ []) h.0
node-there i name a pipes n (Err (fault.SumRange path)) known h fit = absurd fit
node-there i name a pipes n (Err fault.Memory) known h fit = absurd known

abbrev nodes_of : ℕ → List Agg → List Pipe → List NodeAnswer → List NodeAnswer
nodes_of i aggs pipes nodes = map (λ n. n.node) (piped_nodes i (map piper aggs) pipes nodes)

-- what was told of the answers in front of this place, and what is left
pub record Listed (aggs : List Agg) (pipes : List Pipe) (nodes : List NodeAnswer) (place : ℕ) (left : List NodeAnswer) (told : RemarkedNodes) : Type 0 where
  pub entries_are : map view_of told.entries.items ++ node_entries place (drop place aggs) pipes left ≡ node_entries 0 aggs pipes nodes
  pub nodes_are : AreFit (map view_of told.entries.items) → told.nodes ++ nodes_of place (drop place aggs) pipes left ≡ object_nodes (map piper aggs) pipes nodes
  pub in_range : check_each (map checker (drop place aggs)) left ≡ []

pub start-listed : (aggs : List Agg) (pipes : List Pipe) (nodes : List NodeAnswer) (told : RemarkedNodes) → AreInRange aggs nodes → told.entries.items ≡ [] → told.nodes ≡ [] → Listed aggs pipes nodes 0 nodes told
start-listed aggs pipes nodes told h no-entry no-node = record {
  entries_are = ap (λ es. map view_of es ++ node_entries 0 aggs pipes nodes) no-entry;
  nodes_are = λ fit. ap (λ ns. ns ++ nodes_of 0 aggs pipes nodes) no-node;
  in_range = h;
}

drop-here : (aggs : List Agg) (place : ℕ) (a : Agg) → slice_get aggs place ≡ Some a → drop place aggs ≡ a ∷ drop (place + 1) aggs
drop-here [] place a e = absurd (cc (e))
drop-here (b ∷ aggs) zero a e = same e where
  same : Some b ≡ Some a → b ∷ aggs ≡ a ∷ aggs
  same e = cc (e)
drop-here (b ∷ aggs) (suc place) a e =
    let more : suc place + 1 ≡ suc (place + 1) = omega arith in
    drop-here aggs place a e ∙ ap (λ n. a ∷ drop n (b ∷ aggs)) (sym more)

drop-past : (aggs : List Agg) (place : ℕ) → slice_get aggs place ≡ None → drop place aggs ≡ []
drop-past [] zero e = refl
drop-past [] (suc place) e = refl
drop-past (b ∷ aggs) zero e = absurd (cc (e))
drop-past (b ∷ aggs) (suc place) e = drop-past aggs place e

drop-more-past : (aggs : List Agg) (place : ℕ) → drop place aggs ≡ [] → drop (place + 1) aggs ≡ []
drop-more-past [] zero e = refl
drop-more-past [] (suc place) e =
    let more : suc place + 1 ≡ suc (place + 1) = omega arith in
    ap (λ n. drop {A = Agg} n []) more
drop-more-past (b ∷ aggs) zero e = absurd (cc (e))
drop-more-past (b ∷ aggs) (suc place) e =
    let more : suc place + 1 ≡ suc (place + 1) = omega arith in
    ap (λ n. drop n (b ∷ aggs)) more ∙ drop-more-past aggs place e

appended : {A : Type 0} (xs ys : List A) (x : A) (zs : List A) → ys ≡ xs ++ x ∷ [] → ys ++ zs ≡ xs ++ x ∷ zs
appended xs ys x zs e = ap (λ them. them ++ zs) e ∙ append_assoc xs (x ∷ []) zs

module _ (aggs : List Agg) (pipes : List Pipe) (nodes : List NodeAnswer) (place : ℕ) (n : NodeAnswer) (left : List NodeAnswer) (old : RemarkedNodes) (listed : Listed aggs pipes nodes place (n ∷ left) old) where
  -- the answer here is in range
  pub in-range-here : (a : Agg) → slice_get aggs place ≡ Some a → checker a n ≡ []
  in-range-here a is =
      no-first (checker a n) (check_each (map checker (drop (place + 1) aggs)) left)
      (sym (ap (λ them. check_each (map checker them) (n ∷ left)) (drop-here aggs place a is)) ∙ listed.in_range)

  pub next-listed : (a : Agg) (piped : Result RemarkedNode PipeFault) (new : RemarkedNodes) → slice_get aggs place ≡ Some a → IsNode a (pipes_within place pipes) n piped → IsKept place a piped old new
      → Listed aggs pipes nodes (place + 1) left new
  next-listed a piped new is h kept =
      let rest = drop (place + 1) aggs in
      let dropped = drop-here aggs place a is in
      let entry = entry-is place a (pipes_within place pipes) n piped kept.told h in
      let views = kept.entries ∙ ap (λ e. map view_of old.entries.items ++ e ∷ []) entry in
      record {
        entries_are =
            appended (map view_of old.entries.items) (map view_of new.entries.items) (node_entry place a (pipes_within place pipes) n) (node_entries (place + 1) rest pipes left) views
            ∙ sym (ap (λ them. map view_of old.entries.items ++ node_entries place them pipes (n ∷ left)) dropped) ∙ listed.entries_are;
        nodes_are = λ fit.
            let all : AreFit (map view_of old.entries.items ++ ((out-Agg a).name, said_below place (out-Agg a).name piped) ∷ []) = subst AreFit kept.entries fit in
            let said = fit-back (map view_of old.entries.items) (((out-Agg a).name, said_below place (out-Agg a).name piped) ∷ []) all in
            let there = node-there place (out-Agg a).name a (pipes_within place pipes) n piped kept.told h said.0 in
            appended old.nodes new.nodes ((piper a).piped (pipes_within place pipes) n).node (nodes_of (place + 1) rest pipes left) (kept.nodes ∙ ap (λ ns. old.nodes ++ ns) there)
            ∙ sym (ap (λ them. old.nodes ++ nodes_of place them pipes (n ∷ left)) dropped) ∙ listed.nodes_are (fit-front (map view_of old.entries.items) (((out-Agg a).name, said_below place (out-Agg a).name piped) ∷ []) all);
        in_range =
            no-second (checker a n) (check_each (map checker rest) left)
            (sym (ap (λ them. check_each (map checker them) (n ∷ left)) dropped) ∙ listed.in_range);
      }

  -- an answer without an aggregation
  pub bare-listed : (new : RemarkedNodes) → slice_get aggs place ≡ None → new.nodes ≡ old.nodes ++ n ∷ [] → new.entries.items ≡ old.entries.items → Listed aggs pipes nodes (place + 1) left new
  bare-listed new is nodes-so entries-so =
      let past = drop-past aggs place is in
      let more = drop-more-past aggs place past in
      record {
        entries_are =
            (λ i. map view_of (entries-so i) ++ node_entries (place + 1) (more i) pipes left)
            ∙ sym (ap (λ them. map view_of old.entries.items ++ node_entries place them pipes (n ∷ left)) past) ∙ listed.entries_are;
        nodes_are = λ fit.
            ap (λ them. new.nodes ++ nodes_of (place + 1) them pipes left) more
            ∙ appended old.nodes new.nodes n (map (λ m. m.node) (map unpiped left)) nodes-so
            ∙ sym (ap (λ them. old.nodes ++ nodes_of place them pipes (n ∷ left)) past) ∙ listed.nodes_are (subst (λ es. AreFit (map view_of es)) entries-so fit);
        in_range = ap (λ them. check_each (map checker them) left) more;
      }

no-entries : (i : ℕ) (aggs : List Agg) (pipes : List Pipe) → node_entries i aggs pipes [] ≡ []
no-entries i [] pipes = refl
no-entries i (a ∷ aggs) pipes = refl

no-nodes : (i : ℕ) (aggs : List Agg) (pipes : List Pipe) → nodes_of i aggs pipes [] ≡ []
no-nodes i [] pipes = refl
no-nodes i (a ∷ aggs) pipes = refl

-- no answer is left
pub end-listed : (aggs : List Agg) (pipes : List Pipe) (nodes : List NodeAnswer) (place : ℕ) (told : RemarkedNodes) → Listed aggs pipes nodes place [] told → AreNodes aggs pipes nodes told
end-listed aggs pipes nodes place told listed =
    let views = map view_of told.entries.items in
    let all : views ≡ node_entries 0 aggs pipes nodes = sym (append-nil views) ∙ ap (λ es. views ++ es) (sym (no-entries place (drop place aggs) pipes)) ∙ listed.entries_are in
    record {
      entries = all;
      nodes_are = λ fit.
          sym (append-nil told.nodes) ∙ ap (λ ns. told.nodes ++ ns) (sym (no-nodes place (drop place aggs) pipes)) ∙ listed.nodes_are (subst AreFit (sym all) fit);
    }

-- the aggregations below an aggregation are smaller than it
pub children_less : (a : Agg) → most size-Agg (out-Agg a).children < size-Agg a
children_less a = omega (arith, size_is-Agg a)

pub get-within : {A : Type 0} (xs : List A) (i : ℕ) (x : A) → slice_get xs i ≡ Some x → i < length xs
get-within [] i x e = absurd (cc (e))
get-within (y ∷ xs) zero x e = omega arith
get-within (y ∷ xs) (suc i) x e = let within : i < length xs = get-within xs i x e in omega arith

-- an aggregation is no greater than the greatest beside it
pub size-at : (aggs : List Agg) (i : ℕ) (a : Agg) → slice_get aggs i ≡ Some a → size-Agg a ≤ most size-Agg aggs
size-at [] i a e = absurd (cc (e))
size-at (b ∷ aggs) zero a e = let same : size-Agg b ≡ size-Agg a = sizes e in omega arith where
  sizes : Some b ≡ Some a → size-Agg b ≡ size-Agg a
  sizes e = let same : b ≡ a = cc (e) in ap size-Agg same
size-at (b ∷ aggs) (suc i) a e = let less : size-Agg a ≤ most size-Agg aggs = size-at aggs i a e in omega arith

-- the pipelines that are kept at a place
pub part-here : (parts : List Part) (i : ℕ) (p : Part) → i < length parts → p ≡ get_or parts i p → part_of parts i ≡ pipes_of p.placed.items
part-here [] i p within is = absurd (omega arith)
part-here (q ∷ parts) zero p within is = ap (λ (r : Part). pipes_of r.placed.items) (sym is)
part-here (q ∷ parts) (suc i) p within is = part-here parts i p (omega arith) is

pub no-items : {A : Type 0} (xs : List A) (n : ℕ) → n ≡ length xs → n ≡ 0 → xs ≡ []
no-items [] n is none = refl
no-items (x ∷ xs) n is none = absurd (omega (arith, is, none))
