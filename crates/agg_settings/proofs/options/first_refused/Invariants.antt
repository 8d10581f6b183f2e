use Rattle.std.proofs.Common.{◌≡◌, ℕ, Bool, List, map, drop}
use Rattle.std.specs.Prelude.{not, find}
use Rattle.std.specs.Borrow.{Bor}
use Rattle.agg_settings.specs.Entries.{is_entry}
use Rattle.agg_settings.proofs.options.first_refused.Given as goal

abbrev now : Bor (List ℕ) → List ℕ
now s = s.now

abbrev is_no_entry : List ℕ → Bool
is_no_entry entry = not (is_entry entry)

abbrev pub invariant-loop-entry : goal.invariant-loop-entry
invariant-loop-entry l = find is_no_entry (map now (drop l.entry-index l.entries)) ≡ find is_no_entry (map now l.entries)
