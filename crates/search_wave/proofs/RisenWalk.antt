-- Requests, refusals, searches, ends and answers, gone through side by side.
use Rattle.std.specs.Prelude.{◌≡◌, ◌<◌, ℕ, suc, ◌+◌, List, [], ◌∷◌, length, slice_index_or, Option, Some, None}
use Rattle.std.proofs.Common.{ap, ◌∙◌, arith}
use Rattle.agg_model.specs.declared.aggregation.Search.{Search}
use Rattle.agg_model.specs.declared.breaker.Limits.{Limits}
use Rattle.agg_model.specs.declared.breaker.Tripped.{Tripped}
use Rattle.agg_model.specs.declared.outcome.Answered.{Answered}
use Rattle.agg_model.specs.declared.outcome.Outcome.TheVariants as ended
use Rattle.agg_model.specs.declared.outcome.Refused.{Refused}
use Rattle.agg_spec.specs.Charges.{Amounts, amounts_sum, no_amounts}
use Rattle.agg_spec.specs.Index.{Index}
use Rattle.agg_spec.specs.Outcome.{Request as AnyRequest}
use Rattle.breaker_words.specs.declared.view.View.{View}
use Rattle.shard_pool.specs.declared.search_end.SearchEnd.{SearchEnd}
use Rattle.wave_answers.specs.Ended.{AreAnswers, IsAnswer}
use Rattle.wave_bodies.specs.Asking.{AreAsked, IsRefusedAs, IsRunAs}
use Rattle.wave_bodies.specs.declared.asked.Asked.{Asked}
use Rattle.wave_bodies.specs.declared.asked.Asked.TheVariants as asks

-- of two lists, what stands at one place belongs together
abbrev pub Each : {A B : Type 0} → (A → B → Type 0) → List A → List B → Type 0
Each P [] [] = Unit {0}
Each P (x ∷ xs) (y ∷ ys) = P x y × Each P xs ys
Each P _ _ = ⊥

pub each-place : {A B : Type 0} (P : A → B → Type 0) (c : A) (d : B) (xs : List A) (ys : List B) → length ys ≡ length xs → ((q : ℕ) → q < length xs → P (slice_index_or xs q c) (slice_index_or ys q d)) → Each P xs ys
each-place P c d [] [] l h = tt
each-place P c d [] (y ∷ ys) l h = absurd (omega (arith, l))
each-place P c d (x ∷ xs) [] l h = absurd (omega (arith, l))
each-place P c d (x ∷ xs) (y ∷ ys) l h = (h 0 (omega arith), each-place P c d xs ys (omega (arith, l)) (λ q low. h (suc q) (omega (arith, low))))

-- the answer to a body whose charge was refused, and to one that asks for no search
abbrev pub tripped_answer : Tripped → Answered
tripped_answer t = record { outcome = ended.Tripped t; failures = [] }

abbrev pub refused_answer : Refused → Answered
refused_answer r = record { outcome = ended.Refused r; failures = [] }

-- Where something holds of none, and goes on over each request with its answer, it holds of all.
module _ (limits : Limits) (index : Index) (max : ℕ) (v : View) (P : Search → SearchEnd → Type 0) (Q : List AnyRequest → List (Option Tripped) → List Search → List SearchEnd → List Answered → ℕ → Amounts → Type 0) where
  pub record GoesOn : Type 0 where
    pub none : (c : ℕ) (m : Amounts) → c ≡ 0 → m ≡ no_amounts → Q [] [] [] [] [] c m
    pub tripped : (r : AnyRequest) (t : Tripped) (a : Answered) → a ≡ tripped_answer t → (rs : List AnyRequest) (ts : List (Option Tripped)) (searches : List Search) (ends : List SearchEnd) (later : List Answered) (c : ℕ) (m : Amounts)
        → Q rs ts searches ends later c m → Q (r ∷ rs) (Some t ∷ ts) searches ends (a ∷ later) c m
    pub refused : (r : AnyRequest) (w : Refused) (a : Answered) → IsRefusedAs index r w → a ≡ refused_answer w → (rs : List AnyRequest) (ts : List (Option Tripped)) (searches : List Search) (ends : List SearchEnd) (later : List Answered) (c : ℕ) (m : Amounts)
        → Q rs ts searches ends later c m → Q (r ∷ rs) (None ∷ ts) searches ends (a ∷ later) c m
    pub runs : (r : AnyRequest) (search : Search) (e : SearchEnd) (a : Answered) (here : ℕ) (own : Amounts) → IsRunAs index r search → P search e → IsAnswer limits index max v search e a here own
        → (rs : List AnyRequest) (ts : List (Option Tripped)) (searches : List Search) (ends : List SearchEnd) (later : List Answered) (others : ℕ) (told : Amounts) (c : ℕ) (m : Amounts) → c ≡ here + others → m ≡ amounts_sum own told
        → Q rs ts searches ends later others told → Q (r ∷ rs) (None ∷ ts) (search ∷ searches) (e ∷ ends) (a ∷ later) c m

  pub walk : GoesOn → (requests : List AnyRequest) (refusals : List (Option Tripped)) (asked : List Asked) (searches : List Search) (ends : List SearchEnd) (answers : List Answered) (c : ℕ) (m : Amounts)
      → AreAsked index requests refusals asked searches → AreAnswers limits index max v asked searches ends answers c m → Each P searches ends → Q requests refusals searches ends answers c m
  walk g [] [] [] [] [] [] c m a b e = g.none c m b.0 b.1
  walk g [] [] [] [] [] (x ∷ later) c m a b e = absurd b
  walk g [] [] [] [] (y ∷ ends) answers c m a b e = absurd e
  walk g [] [] [] (s ∷ searches) ends answers c m a b e = absurd a
  walk g [] [] (k ∷ more) searches ends answers c m a b e = absurd a
  walk g [] (t ∷ ts) asked searches ends answers c m a b e = absurd a
  walk g (r ∷ rs) [] asked searches ends answers c m a b e = absurd a
  walk g (r ∷ rs) (Some t ∷ ts) [] searches ends answers c m a b e = absurd a
  walk g (r ∷ rs) (Some t ∷ ts) (asks.Tripped u ∷ more) searches ends [] c m a b e = absurd b
  walk g (r ∷ rs) (Some t ∷ ts) (asks.Tripped u ∷ more) searches ends (x ∷ later) c m a b e = g.tripped r t x (b.0 ∙ ap tripped_answer a.0) rs ts searches ends later c m (walk g rs ts more searches ends later c m a.1 b.1 e)
  walk g (r ∷ rs) (Some t ∷ ts) (asks.Refused w ∷ more) searches ends answers c m a b e = absurd a
  walk g (r ∷ rs) (Some t ∷ ts) (asks.Runs ∷ more) searches ends answers c m a b e = absurd a
  walk g (r ∷ rs) (None ∷ ts) [] searches ends answers c m a b e = absurd a
  walk g (r ∷ rs) (None ∷ ts) (asks.Tripped u ∷ more) searches ends answers c m a b e = absurd a
  walk g (r ∷ rs) (None ∷ ts) (asks.Refused w ∷ more) searches ends [] c m a b e = absurd b
  walk g (r ∷ rs) (None ∷ ts) (asks.Refused w ∷ more) searches ends (x ∷ later) c m a b e = g.refused r w x a.0 b.0 rs ts searches ends later c m (walk g rs ts more searches ends later c m a.1 b.1 e)
  walk g (r ∷ rs) (None ∷ ts) (asks.Runs ∷ more) [] ends answers c m a b e = absurd a
  walk g (r ∷ rs) (None ∷ ts) (asks.Runs ∷ more) (s ∷ searches) [] answers c m a b e = absurd e
  walk g (r ∷ rs) (None ∷ ts) (asks.Runs ∷ more) (s ∷ searches) (y ∷ ends) [] c m a b e = absurd b
  walk g (r ∷ rs) (None ∷ ts) (asks.Runs ∷ more) (s ∷ searches) (y ∷ ends) (x ∷ later) c m a b e =
      g.runs r s y x b.0 b.2 a.0 e.0 b.4 rs ts searches ends later b.1 b.3 c m b.6 b.7 (walk g rs ts more searches ends later b.1 b.3 a.1 b.5 e.1)
