use Rattle.std.proofs.Common.{◌≡◌, ℕ, List, map, take}
use Rattle.std.specs.Borrow.{Bor}
use Rattle.agg_settings.proofs.command.slices.Given as goal

-- the words so far
abbrev pub invariant-loop-word : goal.invariant-loop-word
invariant-loop-word l = map (λ (s : Bor (List ℕ)). s.now) l.slices.items ≡ take l.word-index l.words
