-- What primitives of the streams make of what stands beside the machine.
use Rattle.std.specs.Prelude.{◌≡◌, ℕ, Bool, false, true, ◌||◌, List, [], ◌∷◌, ◌++◌, slice_get, Some, is_some}
use Rattle.lang_meaning.specs.declared.primitive.Primitive.{Primitive}
use Rattle.lang_meaning.specs.declared.primitive.Primitive.TheVariants as p
use Rattle.lang_meaning.specs.declared.program.ProgramRows.{ProgramRows}
use Rattle.lang_meaning.specs.Classes.{fetch}
use Rattle.lang_meaning.specs.Primitives.{primitive, as_stream, as_character}
use Rattle.flat_language.specs.FlatForm.{FlatForm, prim}
use Rattle.eval_store.specs.declared.word.Word.{Word}
use Rattle.eval_store.specs.Words.{value_of_word, values_of}
use Rattle.eval_store.specs.View.{Beside, state_of}
use Rattle.eval_primitives.specs.declared.answer.Answer.{Answer}
use Rattle.eval_primitives.specs.Answers.{told}
use Rattle.eval_state.specs.declared.frame.Operator.{Operator}
use Rattle.eval_state.specs.declared.frame.Operator.TheVariants.{Compute}
use Rattle.eval_state.specs.declared.machine.Control.{Control}
use Rattle.eval_state.specs.declared.machine.Control.TheVariants.{Evaluate}
use Rattle.eval_state.specs.declared.machine.Machine.{Machine}
use Rattle.eval_step.specs.declared.evaluator.Evaluator.{Evaluator}
use Rattle.eval_step.specs.Runs.{Stands}

-- whether a primitive with these arguments takes from what is read, or looks at it; and whether something is there, or nothing is left to read
abbrev pub is_reading : Primitive → Bool
is_reading p.GetByte = true
is_reading p.PeekByte = true
is_reading which = false

abbrev pub reads : Primitive → List Word → Bool
reads which [] = is_reading which
reads which (w ∷ ws) = false

abbrev pub operation_reads : Operator → List Word → Bool
operation_reads (Compute which) ws = reads which ws
operation_reads o ws = false

abbrev pub form_reads : FlatForm → Bool
form_reads (prim which fs) = is_reading which
form_reads f = false

abbrev pub control_reads : Control → Bool
control_reads (Evaluate f s) = form_reads f.now
control_reads c = false

abbrev pub is_fed : Evaluator → Bool
is_fed e = e.ended || is_some (slice_get e.ahead.items e.taken)

-- a primitive of the streams answers so, and that is what stands beside the machine then
pub record IsAnsweredBeside (names : List (List ℕ)) (new : Evaluator) (written unread : List ℕ) (b : Beside) (which : Primitive) (ws : List Word) (a : Answer) : Type 0 where
  pub beside : Beside
  pub stands : Stands names new written unread beside
  pub told : (rows : ProgramRows)
      → primitive names rows which (values_of names ws) (state_of names new.machine.store b) ≡ told names a (state_of names new.machine.store beside)

-- the machine is as it was
pub record IsStreamed (old new : Evaluator) (which : Primitive) (ws : List Word) (a : Answer) : Type 0 where
  pub machine : new.machine ≡ old.machine
  pub ended : new.ended ≡ old.ended
  pub comes : (names : List (List ℕ)) (written unread : List ℕ) (b : Beside) → Stands names old written unread b
      → IsAnsweredBeside names new written unread b which ws a

-- a value is a stream, the standard output or not; and it is a character
pub record IsStream (m : Machine) (w : Word) (is_output : Bool) : Type 0 where
  pub is : (names : List (List ℕ)) (b : Beside) → as_stream (fetch (state_of names m.store b) (value_of_word names w)) ≡ Some is_output

pub record IsCharacter (w : Word) (code : ℕ) : Type 0 where
  pub is : (names : List (List ℕ)) → as_character (value_of_word names w) ≡ Some code

-- a byte more was printed
pub record IsPrinted (old new : Evaluator) (byte : ℕ) : Type 0 where
  pub machine : new.machine ≡ old.machine
  pub ended : new.ended ≡ old.ended
  pub stands : (names : List (List ℕ)) (written unread : List ℕ) (b : Beside) → Stands names old written unread b
      → Stands names new written unread (record b { printed = b.printed ++ byte ∷ [] })
