-- Rounds behind rounds, and searches in front of a segment.
use Rattle.std.specs.Prelude.{◌≡◌, ◌≤◌, ℕ, Bool, true, false, List, [], ◌∷◌, ◌++◌, map, length, option_to_list, Option, Some, None}
use Rattle.std.specs.List.{AllByRecursion}
use Rattle.std.proofs.Common.{◌∙◌, refl, sym, ap, subst, append_assoc, arith}
use Rattle.list_laws.proofs.Lists.{map-append}
use Rattle.serde_json.specs.Data.{Data}
use Rattle.agg_model.specs.declared.settings.Settings.{Settings}
use Rattle.agg_reading.specs.Entries.{Entry, body, change}
use Rattle.agg_spec.specs.Index.{Index}
use Rattle.agg_spec.specs.Outcome.{Request}
use Rattle.agg_spec.specs.Requests.{Segment, segments, request_of, with_request, to_full_waves}
use Rattle.agg_spec.specs.Rounds.{Round}
use Rattle.agg_spec.specs.Answers.{ArePages, AreWaves, AreRounds, page_after}
use Rattle.script_answers.proofs.Batches.{none-batched, one-batched, first-batched, full-behind}

-- ---- rounds behind rounds

all-append : {A : Type 0} (P : A → Type 0) (xs ys : List A) → AllByRecursion P xs → AllByRecursion P ys → AllByRecursion P (xs ++ ys)
all-append P [] ys first later = later
all-append P (x ∷ xs) ys first later = (first.0, all-append P xs ys first.1 later)

module _ (index : Index) (columns : ℕ) where
  pages-append : (xs ys : List Request) (rs ss : List Round) → ArePages index columns xs rs → ArePages index columns ys ss → ArePages index columns (xs ++ ys) (rs ++ ss)
  pages-append [] ys [] ss first later = later
  pages-append [] ys (r ∷ rs) ss first later = absurd first
  pages-append (x ∷ xs) ys [] ss first later = absurd first
  pages-append (x ∷ xs) ys (r ∷ rs) ss first later = (
    first.0,
    subst (λ zs. ArePages index columns zs (rs ++ ss)) (append_assoc (option_to_list (page_after index columns x r.answers)) xs ys)
        (pages-append (option_to_list (page_after index columns x r.answers) ++ xs) ys rs ss first.1 later),
  )

  abbrev pub Formed : Settings → Bool → List Request → List Round → Type 0
  Formed settings b requests rounds = elim b [ true ↦ ArePages index columns requests rounds | false ↦ AreWaves index columns settings.width requests rounds ]

  formed-append : (settings : Settings) (b : Bool) (xs ys : List Request) (rs ss : List Round) → 1 ≤ settings.width → length xs ≡ settings.width
      → Formed settings b xs rs → Formed settings b ys ss → Formed settings b (xs ++ ys) (rs ++ ss)
  formed-append settings true xs ys rs ss some full first later = pages-append xs ys rs ss first later
  formed-append settings false xs ys rs ss some full first later =
      map-append (λ (round : Round). round.requests) rs ss
      ∙ ap (λ waves. waves ++ map (λ (round : Round). round.requests) ss) (first ∙ one-batched settings.width xs (omega (arith, some, full)) (omega (arith, full)))
      ∙ ap (λ waves. xs ∷ waves) later
      ∙ sym (first-batched settings.width xs ys some full)

  pub rounds-append : (P : Round → Type 0) (settings : Settings) (xs ys : List Request) (rs ss : List Round) → 1 ≤ settings.width → length xs ≡ settings.width
      → AreRounds index columns P settings xs rs → AreRounds index columns P settings ys ss → AreRounds index columns P settings (xs ++ ys) (rs ++ ss)
  rounds-append P settings xs ys rs ss some full first later = record {
    form = formed-append settings settings.scan xs ys rs ss some full first.form later.form;
    each = all-append (λ round. (round.settings ≡ settings) × P round) rs ss first.each later.each;
  }

  nothing-formed : (settings : Settings) (b : Bool) → 1 ≤ settings.width → Formed settings b [] []
  nothing-formed settings true some = tt
  nothing-formed settings false some = sym (none-batched settings.width some)

  -- without a search there is no round
  pub no-rounds : (P : Round → Type 0) (settings : Settings) → 1 ≤ settings.width → AreRounds index columns P settings [] []
  no-rounds P settings some = record { form = nothing-formed settings settings.scan some; each = tt }

-- ---- searches in front of a segment

-- the first segment with these searches before its own
abbrev pub in_front : List Request → Segment → Segment
in_front xs s = record s { requests = xs ++ s.requests }

-- what the segments of entries begin with; there is always one
pub record Begins (index : Index) (es : List Entry) : Type 0 where
  pub first : Segment
  pub rest : List Segment
  pub are : segments index es ≡ first ∷ rest

pub begins : (index : Index) (es : List Entry) → Begins index es
begins index [] = record { first = record { requests = []; change = None }; rest = []; are = refl }
begins index (body b ∷ es) =
    let later = begins index es in
    record { first = record later.first { requests = request_of index b ∷ later.first.requests }; rest = later.rest; are = ap (with_request (request_of index b)) later.are }
begins index (change line ∷ es) = record { first = record { requests = []; change = Some line }; rest = segments index es; are = refl }

pub bodies-in-front : (index : Index) (bodies : List (List ℕ)) (es : List Entry) (s : Segment) (rest : List Segment) → segments index es ≡ s ∷ rest
    → segments index (map body bodies ++ es) ≡ in_front (map (request_of index) bodies) s ∷ rest
bodies-in-front index [] es s rest are = are
bodies-in-front index (b ∷ bodies) es s rest are = ap (with_request (request_of index b)) (bodies-in-front index bodies es s rest are)

cut-in-front : (width : ℕ) (xs ys : List Request) (c : Option Data) → 1 ≤ width → length xs ≡ width
    → to_full_waves width (record { requests = xs ++ ys; change = c }) c ≡ in_front xs (to_full_waves width (record { requests = ys; change = c }) c)
cut-in-front width xs ys (Some line) some full = refl
cut-in-front width xs ys None some full = ap (λ zs. record { requests = zs; change = None }) (full-behind width xs ys some full)

-- full waves are never cut
pub full-stays : (width : ℕ) (xs : List Request) (s : Segment) → 1 ≤ width → length xs ≡ width
    → to_full_waves width (in_front xs s) s.change ≡ in_front xs (to_full_waves width s s.change)
full-stays width xs s some full = cut-in-front width xs s.requests s.change some full
