-- Each reading of a script is refused with a number of scripts.
use Rattle.std.specs.Prelude.{◌≡◌, refl, ℕ, ◌+◌, List, [], ◌∷◌, length, Bool, true, false, ◌||◌, ◌==◌, Option, Some, None, Ok, Err, IfErr, cond, if◌then◌else◌, nat_le}
use Rattle.std.specs.List.{list_any}
use Rattle.std.proofs.lemmas.Bool.{false≢true}
use Rattle.serde_json.specs.Data.{Members}
use Rattle.serde_json.specs.Find.{as_object}
use Rattle.agg_model.specs.Lines.{Line, is_beyond_input, is_too_long}
use Rattle.agg_reading.specs.declared.fault.RequestFault.TheVariants.{NotJson, Bad, Memory}
use Rattle.agg_reading.specs.Reading.{Reading, ◌>>=◌, or_refuse}
use Rattle.agg_reading.specs.Json.{reading, object_at}
use Rattle.agg_reading.specs.IndexLine.{index_line_at}
use Rattle.agg_reading.specs.declared.parts.IndexLine.{IndexLine}
use Rattle.agg_reading.specs.declared.parts.Heading.{Heading}
use Rattle.agg_reading.specs.Lines.{Place, start, past, is_empty_line, line_fault, Script, or_fault, checked}
use Rattle.agg_reading.specs.Script.{Loading, at_line, with_action, heading_of, is_delete, actions, source_of, begun, sections, loaded}
use Rattle.agg_reading.specs.Entries.{header_members}
use Rattle.agg_reading.specs.Refusals.{RefusesWith, index_line_refusals, action_refusals, loading_refusals, StopsWith}
use Rattle.agg_reading.proofs.LineRefusals.{an_index_line, an_action}

abbrev Stops : {A : Type 0} → Script A → Type 0
Stops script = StopsWith loading_refusals script

go_on : {A B : Type 0} (r : Script A) (f : A → Script B) → Stops r → ((x : A) → Stops (f x)) → Stops (r >>= f)
go_on (Ok x) f h k = k x
go_on (Err e) f h k = h

either : {A : Type 0} (b : Bool) (r q : Script A) → Stops r → Stops q → Stops (cond b r q)
either true r q h k = h
either false r q h k = k

-- a line within its limits
within : (place : Place) (l : Line) → Stops (checked place l)
unfolding checked line_fault
within place l = elim (is_beyond_input place.read l.size) as (λ b. Stops (or_fault (place.number + 1) (if b then Some 37 else (if is_too_long (length l.text) then Some 30 else None)))) [
  | true ↦ refl
  | false ↦ elim (is_too_long (length l.text)) as (λ b. Stops (or_fault (place.number + 1) (if b then Some 30 else None))) [ true ↦ refl | false ↦ tt ]
]

-- the numbers of a line are numbers of scripts

second : (a b rest : Bool) → (b || false) ≡ true → (a || (b || rest)) ≡ true
second true b rest h = refl
second false true rest h = refl
second false false rest h = absurd (false≢true h)

later : (a b c d rest : Bool) → (c || (d || false)) ≡ true → (a || (b || (c || (d || rest)))) ≡ true
later true b c d rest h = refl
later false true c d rest h = refl
later false false true d rest h = refl
later false false false true rest h = refl
later false false false false rest h = absurd (false≢true h)

index_at : {A : Type 0} (line : ℕ) (r : Reading A) → RefusesWith index_line_refusals r → Stops (at_line line r)
index_at line (Ok x) h = tt
index_at line (Err NotJson) h = absurd (false≢true h)
index_at line (Err (Bad code at)) h = second (30 == code) (31 == code) (list_any (λ n. n == code) (32 ∷ 33 ∷ 34 ∷ 35 ∷ 37 ∷ 38 ∷ [])) h
index_at line (Err Memory) h = absurd (false≢true h)

action_at_line : {A : Type 0} (line : ℕ) (r : Reading A) → RefusesWith action_refusals r → Stops (at_line line r)
action_at_line line (Ok x) h = tt
action_at_line line (Err NotJson) h = absurd (false≢true h)
action_at_line line (Err (Bad code at)) h = later (30 == code) (31 == code) (32 == code) (33 == code) (list_any (λ n. n == code) (34 ∷ 35 ∷ 37 ∷ 38 ∷ [])) h
action_at_line line (Err Memory) h = absurd (false≢true h)

the_heading : (line : ℕ) (l : Line) (now : Loading) → Stops (heading_of line l now)
unfolding heading_of
the_heading line l now = either (nat_le 1048576 now.actions) _ _ refl (action_at_line line _ (an_action now.index.name now.actions l.text).refusal)

mutual
  unfolding actions source_of

  some_lines : (now : Loading) (place : Place) (ls : List Line) → Stops (actions now place ls)
  some_lines now place [] = refl
  some_lines now place (l ∷ ls) =
      go_on (checked place l) _ (within place l) (λ u.
      either (is_empty_line l.text) _ _ tt
      (go_on (heading_of (place.number + 1) l now) _ (the_heading _ l now) (λ heading.
      either (is_delete heading.kind) _ _ (some_lines (with_action heading [] now) (past l place) ls) (a_source heading now (past l place) ls))))

  a_source : (heading : Heading) (now : Loading) (place : Place) (ls : List Line) → Stops (source_of heading now place ls)
  a_source heading now place [] = refl
  a_source heading now place (s ∷ ls) =
      go_on (checked place s) _ (within place s) (λ u.
      either (is_empty_line s.text) _ _ refl (some_lines (with_action heading s.text now) (past s place) ls))

the_sections : (index : IndexLine) (place : Place) (ls : List Line) → Stops (sections index place ls)
unfolding sections
the_sections index place [] = refl
the_sections index place (e ∷ ls) =
    go_on (checked place e) _ (within place e) (λ u. either (is_empty_line e.text) _ _ (some_lines (begun index) (past e place) ls) refl)

pub a_script : (ls : List Line) → Stops (loaded ls)
unfolding loaded
a_script [] = refl
a_script (l ∷ ls) =
    go_on (checked start l) _ (within start l) (λ u.
    go_on (at_line 1 (index_line_at l.text)) _ (index_at 1 _ (an_index_line l.text).refusal) (λ index. the_sections index (past l start) ls))

-- a header is refused alone with 39

unfitting : (line : ℕ) (o : Option Members) → IfErr (at_line line (or_refuse 39 [] o)) (λ e. e ≡ record { number = 39; line = line; path = [] })
unfitting line (Some ms) = tt
unfitting line None = refl

pub a_header : (line : ℕ) (text : List ℕ) → IfErr (header_members line text) (λ e. e ≡ record { number = 39; line = line; path = [] })
unfolding header_members object_at
a_header line text = elim (reading text) as (λ o. IfErr (at_line line (or_refuse 39 [] o >>= object_at 39 [])) (λ e. e ≡ record { number = 39; line = line; path = [] })) [
  | None ↦ refl
  | Some d ↦ unfitting line (as_object d)
]
