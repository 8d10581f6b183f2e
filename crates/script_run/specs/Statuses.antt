-- The exit statuses of a run.
use Rattle.std.specs.Prelude.{◌≡◌, ◌≤◌, ◌⊎◌, ℕ}
use Rattle.script_run.specs.declared.status.Status.{Status}
use Rattle.script_run.specs.declared.status.Status.TheVariants.{Finished, Usage, ReadFault, WriteFault, Refused, TooHeavy, Memory}

abbrev pub code_of : Status → ℕ
code_of Finished = 0
code_of Usage = 2
code_of ReadFault = 3
code_of WriteFault = 4
code_of Refused = 5
code_of TooHeavy = 6
code_of Memory = 7

-- an exit status of the program: 0, or one of 2 to 7
abbrev pub IsExitStatus : ℕ → Type 0
IsExitStatus status = (status ≡ 0) ⊎ ((2 ≤ status) × (status ≤ 7))

-- a status that comes where the words are refused: the line that says so was written, or could not be written, or memory ran out
abbrev pub IsOfRefusedWords : ℕ → Type 0
IsOfRefusedWords status = (status ≡ 2) ⊎ (status ≡ 4) ⊎ (status ≡ 7)
