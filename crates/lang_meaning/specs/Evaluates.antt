-- **A program is evaluated**: what is read of the source, what the sink is given, and how it ends, all by what the program means.
--
-- All that is said here is said of every input that begins with what was read, and ends there where the end of the source was met. A
-- source that tells its bytes has just one such input: what it told.
use Rattle.std.specs.Prelude.{◌≡◌, ◌<◌, ◌^◌, ⊤, ℕ, false, List, Option}
use Rattle.base.specs.Given.{WasGiven}
use Rattle.lang_meaning.specs.declared.evaluation.EvaluationEnd.{EvaluationEnd}
use Rattle.lang_meaning.specs.declared.evaluation.EvaluationEnd.TheVariants as endings
use Rattle.lang_meaning.specs.Prefixes.{IsPrefix, IsLastOf}
use Rattle.lang_meaning.specs.Evaluation.{Evaluation, meaning_with, end_of, Taken, Begins, WasTaken}

-- the program ended as it means, and all that it prints was given
pub record HasEnded (e : Evaluation) (input : List ℕ) (given given' : Option (List ℕ)) (end : EvaluationEnd) : Type 0 where
  pub ends : end_of (meaning_with e input) ≡ end
  pub printed : WasGiven given (meaning_with e input).printed given'

-- a beginning of what the program prints was given
pub record IsCutOff (e : Evaluation) (input : List ℕ) (given given' : Option (List ℕ)) : Type 0 where
  pub front : List ℕ
  pub prefix : IsPrefix front (meaning_with e input).printed
  pub printed : WasGiven given front given'

-- so many forms may begin, and each counts a unit or more
abbrev pub most_forms : ℕ
most_forms = 2 ^ 63

-- the same, where the program counts more units
pub record IsSpent (e : Evaluation) (input : List ℕ) (given given' : Option (List ℕ)) : Type 0 where
  pub many : most_forms < (meaning_with e input).units
  pub cut_off : IsCutOff e input given given'

-- the same, where the end of the source was not met, and the program takes all that was read, whatever comes behind it: so it
-- does not end before
pub record ReadsOn (e : Evaluation) (t : Taken) (input : List ℕ) (b : Begins t input) (given given' : Option (List ℕ)) : Type 0 where
  pub not_all : t.all ≡ false
  pub takes : IsLastOf (meaning_with e input).left b.rest
  pub cut_off : IsCutOff e input given given'

-- what stands at each end
abbrev pub EndsSo : (end : EvaluationEnd) (e : Evaluation) (t : Taken) (input : List ℕ) → Begins t input → (given given' : Option (List ℕ)) → Type 0
EndsSo endings.Value e t input b given given' = HasEnded e input given given' endings.Value
EndsSo (endings.Unhandled class site) e t input b given given' = HasEnded e input given given' (endings.Unhandled class site)
EndsSo (endings.Full asked left) e t input b given given' = (left < asked) × HasEnded e input given given' (endings.Full asked left)
EndsSo endings.More e t input b given given' = HasEnded e input given given' endings.More
EndsSo endings.Spent e t input b given given' = IsSpent e input given given'
EndsSo endings.ReadFault e t input b given given' = ReadsOn e t input b given given'
EndsSo endings.WriteFault e t input b given given' = IsCutOff e input given given'

-- where the source rose in faults, and where the sink did: what a fault tells
abbrev pub Tells : EvaluationEnd → (SourceRises SinkRises : Type 0) → Type 0
Tells endings.ReadFault SourceRises SinkRises = SourceRises
Tells endings.WriteFault SourceRises SinkRises = SinkRises
Tells end SourceRises SinkRises = ⊤

-- it was read so far, and ended so
pub record Evaluates (e : Evaluation) (left left' given given' : Option (List ℕ)) (end : EvaluationEnd) : Type 0 where
  pub taken : Taken
  pub was_taken : WasTaken left taken left'
  pub ends : (input : List ℕ) (b : Begins taken input) → EndsSo end e taken input b given given'

-- it was read so far, and broke off
pub record BreaksOff (e : Evaluation) (left left' given given' : Option (List ℕ)) : Type 0 where
  pub taken : Taken
  pub was_taken : WasTaken left taken left'
  pub cut_off : (input : List ℕ) → Begins taken input → IsCutOff e input given given'
