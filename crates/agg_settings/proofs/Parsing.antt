-- What a parse of the command says of its words.
use Rattle.std.proofs.Common.{◌≡◌, ◌∙◌, ◌⊎◌, Bool, true, false, true≢false, refl, sym, ap, subst, List, [], ◌∷◌, inl, inr}
use Rattle.std.specs.Prelude.{◌≢◌, ◌↔◌, IsTrue, Result, Ok, Err, IfErr, IsErrAnd}
use Rattle.clap.specs.Simple.{App, HasMatchesOf, is_simple}
use Rattle.clap.specs.Walk.{Text, rows_of}
use Rattle.clap.specs.Faults.{fault_of, is_simple_and_free}
use Rattle.clap.specs.Kinds.{FailsBy, IsAmong, Kinds}
use Rattle.clap.specs.Matches.{found_of}
use Rattle.clap.specs.declared.error.Error.{Error}
use Rattle.clap.specs.declared.error.kind.ErrorKind.{ErrorKind}
use Rattle.clap.specs.declared.error.kind.ErrorKind.TheVariants.{OutOfMemory}
use Rattle.clap.specs.declared.parser.matches.ArgMatches.{ArgMatches}
use Rattle.clap.proofs.OnLiterals.{clap_on_literals}
use Rattle.agg_settings.specs.Words.{command, is_command, is_faultless, rows_in}
use Rattle.agg_settings.specs.Usages.{IsUsage, RefusesWords}
use Rattle.agg_settings.specs.declared.fault.SettingsFault.{SettingsFault}
use Rattle.agg_settings.specs.declared.fault.SettingsFault.TheVariants.{Usage, Memory}

-- the command is one whose matches are exact
simple : is_simple command ≡ true
unfolding clap_on_literals command
simple = refl

-- and whose faults are
simple_and_free : is_simple_and_free command ≡ true
unfolding clap_on_literals command
simple_and_free = refl

-- how a parse of the command may end
pub failing : (a : App) (words : List Text) (r : Result ArgMatches Error) → a ≡ command → (is_simple_and_free a ≡ true → FailsBy (fault_of a words) r) → FailsBy (fault_of command words) r
failing a words r e h = subst (λ (b : App). is_simple_and_free b ≡ true → FailsBy (fault_of b words) r) e h simple_and_free

-- words without a fault are taken
pub taken : (words : List Text) → fault_of command words ≡ [] → is_command words ≡ true
unfolding is_command
taken words e = ap is_faultless e

-- what the matches have
pub matched : (a : App) (words : List Text) (m : ArgMatches) → a ≡ command → HasMatchesOf a words m → rows_of (found_of m) ≡ rows_in words
unfolding rows_in
matched a words m e h = (subst (λ (b : App). HasMatchesOf b words m) e h simple).0

-- a fault is there where an error other than want of memory comes
some_fault : (kinds : Kinds) (k : ErrorKind) → k ≢ OutOfMemory → (k ≡ OutOfMemory) ⊎ IsAmong k kinds → is_faultless kinds ≡ false
some_fault kinds k other (inl memory) = absurd (other memory)
some_fault [] k other (inr among) = absurd among
some_fault (x ∷ xs) k other (inr among) = refl

-- words with a fault are not taken
pub not_taken : (words : List Text) (k : ErrorKind) (is_memory : Bool) → (IsTrue is_memory ↔ (k ≡ OutOfMemory)) → is_memory ≡ false → (k ≡ OutOfMemory) ⊎ IsAmong k (fault_of command words) → is_command words ≡ false
unfolding is_command
not_taken words k is_memory says other h = some_fault (fault_of command words) k (λ memory. true≢false (sym (says.1 memory) ∙ other)) h

-- the refusal of such words
pub refuses : {T : Type 0} (r : Result T SettingsFault) (is_taken : Bool) → is_taken ≡ false → IsErrAnd r (IsUsage [] []) → IfErr r (RefusesWords is_taken)
refuses (Ok x) is_taken e h = tt
refuses (Err (Usage u)) is_taken e h = (e, h)
refuses (Err Memory) is_taken e h = tt
