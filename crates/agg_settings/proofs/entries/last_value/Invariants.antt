use Rattle.std.proofs.Common.{◌≡◌, ℕ, List, None, option_map, map, drop}
use Rattle.std.specs.Borrow.{Bor}
use Rattle.std.specs.List.{fold}
use Rattle.agg_settings.specs.Entries.{newer}
use Rattle.agg_settings.proofs.entries.last_value.Given as goal

abbrev now : Bor (List ℕ) → List ℕ
now s = s.now

-- the entries that are left, after the last so far, give what all give
abbrev pub invariant-loop-entry : goal.invariant-loop-entry
invariant-loop-entry l = fold (newer l.key) (option_map now l.last) (map now (drop l.entry-index l.entries)) ≡ fold (newer l.key) None (map now l.entries)
