-- The words of the command line, of what the system tells of it. The program's own.
use Rattle.std.specs.Prelude.{ℕ, List, [], ◌∷◌, map, drop, Option, Some, None, Result, Ok, Err, String, string_bytes}
use Rattle.std.specs.IoError.{error_kind}
use Rattle.std.specs.Vec.Iter.{into_iter_items}
use Rattle.std.specs.declared.vec.IntoIter.{IntoIter}
use Rattle.std.specs.Global.{Global}
use Rattle.std.specs.declared.io.Error.{Error}
use Rattle.std.specs.declared.io.ErrorKind.{ErrorKind}
use Rattle.std.specs.declared.io.ErrorKind.TheVariants.{OutOfMemory}

-- one word that is outside the grammar, for words that are not text
abbrev pub no_text : List (List ℕ)
no_text = [] ∷ []

-- none where memory was wanted
abbrev pub words_unless_wanting : ErrorKind → Option (List (List ℕ))
words_unless_wanting OutOfMemory = None
words_unless_wanting _ = Some no_text

-- the words behind the program's name
abbrev pub words_given : Result (IntoIter (String Global) Global) Error → Option (List (List ℕ))
words_given (Ok all) = Some (map string_bytes (drop 1 (into_iter_items all)))
words_given (Err error) = words_unless_wanting (error_kind error)
