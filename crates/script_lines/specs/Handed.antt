-- Which lines of an input were handed out, and which stand whole in what was read of it.
use Rattle.std.specs.Prelude.{◌≡◌, ℕ, List, ◌++◌, filter, length, nat_lt, Option, Some, Bool, false}
use Rattle.agg_model.specs.Lines.{Line, lines}

-- its newline was read
abbrev pub is_whole : Line → Bool
is_whole l = nat_lt (length l.text) l.size

-- a text is these lines, each with its newline, whatever stands behind it
pub record AreWhole (text : List ℕ) (front : List Line) : Type 0 where
  pub behind : (more : List ℕ) → lines (text ++ more) ≡ front ++ lines more
  pub whole : filter is_whole front ≡ front

-- Of the input these lines were handed out, `read` bytes, and the bytes left are still to come. Each has its newline, unless
-- the source has ended.
pub record IsHanded (bytes : List ℕ) (front : List Line) (left : Option (List ℕ)) (read : ℕ) (ended : Bool) : Type 0 where
  pub text : List ℕ
  pub rest : List ℕ
  pub to_come : left ≡ Some rest
  pub input : bytes ≡ text ++ rest
  pub count : read ≡ length text
  pub lines : lines bytes ≡ front ++ lines rest
  pub newlines : ended ≡ false → AreWhole text front
