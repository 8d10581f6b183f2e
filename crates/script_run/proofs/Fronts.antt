-- Lines that stand in front of others, and the entries behind them.
use Rattle.std.specs.Prelude.{◌≡◌, ◌⊎◌, ℕ, ◌==◌, ◌&&◌, Bool, true, false, if◌then◌else◌, List, [], ◌∷◌, ◌++◌, Option, Some, None}
use Rattle.std.specs.Option.{option_map_or}
use Rattle.std.specs.Str.{bytes_eq}
use Rattle.std.proofs.Common.{inl, inr, refl, ◌∙◌, sym, ap, eq-eqb}
use Rattle.std.proofs.lemmas.Bool.{eqb-true}
use Rattle.std.proofs.lemmas.Slice.Eq.{bytes_eq-Decides}
use Rattle.agg_model.specs.Lines.{Line}
use Rattle.agg_reading.specs.Entries.{Entries, entries}
use Rattle.agg_reading.specs.Lines.{Place}

abbrev same_line : Line → Line → Bool
same_line a b = bytes_eq a.text b.text && (a.size == b.size)

-- what stands behind the front, if it is one
abbrev pub strip : List Line → List Line → Option (List Line)
strip [] ls = Some ls
strip (f ∷ fs) [] = None
strip (f ∷ fs) (l ∷ ls) = if same_line f l then strip fs ls else None

and-both : (a b : Bool) → a ≡ true → b ≡ true → (a && b) ≡ true
and-both a b first second = ap (λ (x : Bool). x && b) first ∙ second

same-itself : (l : Line) → same_line l l ≡ true
same-itself l = and-both (bytes_eq l.text l.text) (l.size == l.size) ((bytes_eq-Decides l.text l.text).1 refl) (eq-eqb l.size l.size refl)

both : (a b : Bool) → (a && b) ≡ true → (a ≡ true) × (b ≡ true)
both true b h = (refl, h)
both false b h = absurd (let no : ⊥ = cc in no)

same-is : (a b : Line) → same_line a b ≡ true → a ≡ b
same-is a b same =
    let parts = both (bytes_eq a.text b.text) (a.size == b.size) same in
    ap (λ (text : List ℕ). record { text = text; size = a.size }) ((bytes_eq-Decides a.text b.text).0 parts.0)
    ∙ ap (λ (size : ℕ). record { text = b.text; size = size }) (eqb-true a.size b.size parts.1)

strip-step : (b : Bool) (fs ls later : List Line) → b ≡ true → strip fs ls ≡ Some later → (if b then strip fs ls else None) ≡ Some later
strip-step true fs ls later is rest = rest
strip-step false fs ls later is rest = absurd (let no : ⊥ = cc in no)

pub strip-append : (front later : List Line) → strip front (front ++ later) ≡ Some later
strip-append [] later = refl
strip-append (f ∷ fs) later = strip-step (same_line f f) fs (fs ++ later) later (same-itself f) (strip-append fs later)

-- the front is one, or it is none
abbrev pub Tells : List Line → List Line → Type 0
Tells front ls = ((later : List Line) × (ls ≡ front ++ later)) ⊎ (strip front ls ≡ None)

tells-step : (f l : Line) (fs ls : List Line) (b : Bool) → same_line f l ≡ b → Tells fs ls → ((later : List Line) × (l ∷ ls ≡ f ∷ (fs ++ later))) ⊎ ((if b then strip fs ls else None) ≡ None)
tells-step f l fs ls true same (inl found) = inl (found.0, ap (λ (x : Line). x ∷ ls) (sym (same-is f l same)) ∙ ap (λ (xs : List Line). f ∷ xs) found.1)
tells-step f l fs ls true same (inr none) = inr none
tells-step f l fs ls false same rest = inr refl

pub strip-tells : (front ls : List Line) → Tells front ls
strip-tells [] ls = inl (ls, refl)
strip-tells (f ∷ fs) [] = inr refl
strip-tells (f ∷ fs) (l ∷ ls) = tells-step f l fs ls (same_line f l) refl (strip-tells fs ls)

-- the entries behind the front, or others where there is no such front
abbrev pub behind_front : List Line → Place → Entries → List Line → Entries
behind_front front place others ls = option_map_or (entries place) (strip front ls) others

pub behind-front : (front later : List Line) (place : Place) (others : Entries) → behind_front front place others (front ++ later) ≡ entries place later
behind-front front later place others = ap (λ (o : Option (List Line)). option_map_or (entries place) o others) (strip-append front later)

pub behind-none : (front ls : List Line) (place : Place) (others : Entries) → strip front ls ≡ None → behind_front front place others ls ≡ others
behind-none front ls place others none = ap (λ (o : Option (List Line)). option_map_or (entries place) o others) none
