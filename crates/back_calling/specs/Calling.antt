-- **A procedure that a form calls**: what the call comes to, the form comes to. And what many forms do: the site is stored, and a routine is called.
use Rattle.std.specs.Prelude.{◌≡◌, ⊤, ℕ, ◌+◌, ◌*◌, ◌<◌, ◌≤◌, List, [], ◌∷◌, ◌++◌, Some, length, slice_get}
use Rattle.lang_meaning.specs.Values.{Value}
use Rattle.flat_language.specs.FlatSignals.{signal, signal_domain_error}
use Rattle.flat_language.specs.FlatState.{FlatEvaluated}
use Rattle.flat_laws.specs.FlatLater.{FlatLater}
use Rattle.mid_code.specs.Meaning.{Context, exec, exec_step}
use Rattle.mid_code.specs.MidCode.{code_of}
use Rattle.mid_code.specs.State.{Registers, register, falls, MidState}
use Rattle.mid_code.specs.State.{charged as mid_charged, ends as mid_ends}
use Rattle.back_lowering.specs.ControlWords.{site_address}
use Rattle.back_lowering.specs.Codes.{with_two}
use Rattle.back_lowering.specs.Leaves.{site_stored, failing, failing_with, domain_error}
use Rattle.back_lowering.specs.Routines.{failing_routine, failing_with_routine, domain_routine}
use Rattle.back_lowering.specs.Steps.{Steps, call, call_number}
use Rattle.back_relation.specs.Setting.{Setting}
use Rattle.back_relation.specs.Room.{failing_words}
use Rattle.back_relation.specs.Ends.{CallEnds}
use Rattle.back_relation.specs.Forms.{context_at, code_at}
use Rattle.back_relation.specs.Procedures.{called}
use Rattle.back_relation.specs.RoutineClaims.{Does}
use Rattle.back_relation.specs.Starts.{Start, EndsFrom}
use Rattle.back_calling.specs.Storing.{stored_at, standing_world}

-- these words are in these registers
abbrev pub WordsIn : Registers → List ℕ → List ℕ → Type 0
WordsIn regs [] [] = ⊤
WordsIn regs [] (w ∷ ws) = ⊥
WordsIn regs (r ∷ rs) [] = ⊥
WordsIn regs (r ∷ rs) (w ∷ ws) = (register r regs ≡ Some w) × WordsIn regs rs ws

abbrev pub call_cost : List ℕ → ℕ
call_cost arguments = 40 + 6 * length arguments

-- what is between the storing of the site and the call: steps that only set registers, and have the arguments there
pub record Between (c : Context) (steps : Steps) (regs : Registers) (y : MidState) (d cost : ℕ) (arguments ws : List ℕ) : Type 0 where
  pub regs' : Registers
  pub runs : exec c (code_of steps) regs y ≡ mid_ends falls regs' (mid_charged cost y)
  pub arguments_there : WordsIn regs' arguments ws
  pub below : (i : ℕ) → i < d → slice_get regs' i ≡ slice_get regs i
  pub count : length regs' ≡ length regs

-- the registers but two are as they were
pub record AllButTwo (u t : ℕ) (regs regs' : Registers) : Type 0 where
  pub count : length regs' ≡ length regs
  pub same : (i : ℕ) → (i ≡ u → ⊥) → (i ≡ t → ⊥) → slice_get regs' i ≡ slice_get regs i

module _ (setting : Setting) where
  -- a call by a number, and by one in a register, with the result in a register at or behind the first one
  pub record LawOfFormCalls : Type 0 where
    pub by_number :
        (c : Context) (a : Start setting) (credit d number : ℕ) (arguments ws : List ℕ) (r : FlatEvaluated) → a.d ≤ d → d < length a.regs
        → WordsIn a.regs arguments ws → FlatLater a.z r.state
        → CallEnds setting credit a.turns a.rs a.valid a.w a.around a.z (mid_charged (call_cost arguments) a.y) r
        (called c number ws (mid_charged (call_cost arguments) a.y))
        → EndsFrom setting (credit + call_cost arguments) a d r (exec_step c (call d number arguments) a.regs a.y)
    pub by_register :
        (c : Context) (a : Start setting) (credit d of number : ℕ) (arguments ws : List ℕ) (r : FlatEvaluated) → a.d ≤ d → d < length a.regs
        → register of a.regs ≡ Some number → WordsIn a.regs arguments ws → FlatLater a.z r.state
        → CallEnds setting credit a.turns a.rs a.valid a.w a.around a.z (mid_charged (call_cost arguments) a.y) r
        (called c number ws (mid_charged (call_cost arguments) a.y))
        → EndsFrom setting (credit + call_cost arguments) a d r (exec_step c (call_number d of arguments) a.regs a.y)

  -- **the site is stored in u and t, further steps set registers, and a routine is called**, with the result in d
  abbrev pub LawOfSitedCalls : Type 0
  LawOfSitedCalls =
      (k : ℕ) (a : Start setting) (total room credit cost d u t routine : ℕ) (steps : Steps) (arguments ws : List ℕ) (r : FlatEvaluated)
      → credit + 20 + cost + call_cost arguments ≤ total → a.d ≤ d → d ≤ u → u < t → t < length a.regs → room ≤ a.n → FlatLater a.z r.state
      → ((regs : Registers) (number paid : ℕ) → AllButTwo u t a.regs regs
      → Between (code_at setting k a.turns) steps regs (stored_at site_address number paid a.y) d cost arguments ws)
      → ((number paid : ℕ)
      → Does setting k a.turns a.rs a.valid (standing_world a.w a.y) a.around a.z (stored_at site_address number paid a.y) room credit routine ws r)
      → EndsFrom setting total a d r
      (exec (code_at setting k a.turns) (code_of (site_stored a.s.code.site u t ++ (steps ++ (call d routine arguments ∷ [])))) a.regs a.y)

  -- a new condition is signalled: of a class, with one slot, of a domain error
  pub record LawOfFailing : Type 0 where
    pub class_alone :
        (k credit : ℕ) (a : Start setting) (d class : ℕ) → a.d ≤ d → d + 1 < length a.regs → failing_words ≤ a.n
        → ((number paid : ℕ)
        → Does setting k a.turns a.rs a.valid (standing_world a.w a.y) a.around a.z (stored_at site_address number paid a.y) failing_words credit
        (failing_routine setting.at) (class ∷ []) (signal (context_at setting k) class [] a.around a.z))
        → EndsFrom setting (credit + 72) a d (signal (context_at setting k) class [] a.around a.z)
        (exec (code_at setting k a.turns) (code_of (failing setting.at a.s.code.site d class)) a.regs a.y)
    pub with_word :
        (k credit : ℕ) (a : Start setting) (d class word : ℕ) (v : Value) → a.d ≤ d → d + 1 < length a.regs → failing_words ≤ a.n
        → ((number paid : ℕ)
        → Does setting k a.turns a.rs a.valid (standing_world a.w a.y) a.around a.z (stored_at site_address number paid a.y) failing_words credit
        (failing_with_routine setting.at) (class ∷ word ∷ []) (signal (context_at setting k) class (v ∷ []) a.around a.z))
        → EndsFrom setting (credit + 84) a d (signal (context_at setting k) class (v ∷ []) a.around a.z)
        (exec (code_at setting k a.turns) (code_of (failing_with setting.at a.s.code.site d class word)) a.regs a.y)
    pub domain :
        (k credit : ℕ) (a : Start setting) (d of class word : ℕ) (v : Value) → a.d ≤ d → of < d → d + 1 < length a.regs → failing_words ≤ a.n
        → register of a.regs ≡ Some word
        → ((number paid : ℕ)
        → Does setting k a.turns a.rs a.valid (standing_world a.w a.y) a.around a.z (stored_at site_address number paid a.y) failing_words credit
        (domain_routine setting.at) (word ∷ class ∷ []) (signal_domain_error (context_at setting k) (signal (context_at setting k)) v class a.around a.z))
        → EndsFrom setting (credit + 78) a d (signal_domain_error (context_at setting k) (signal (context_at setting k)) v class a.around a.z)
        (exec (code_at setting k a.turns) (code_of (domain_error setting.at a.s.code.site d of class)) a.regs a.y)
    -- a routine is called with the words in d and the next register
    pub two :
        (k room credit : ℕ) (a : Start setting) (d routine first second : ℕ) (r : FlatEvaluated) → a.d ≤ d → d + 3 < length a.regs → room ≤ a.n
        → register d a.regs ≡ Some first → register (d + 1) a.regs ≡ Some second → FlatLater a.z r.state
        → ((number paid : ℕ)
        → Does setting k a.turns a.rs a.valid (standing_world a.w a.y) a.around a.z (stored_at site_address number paid a.y) room credit routine
        (first ∷ second ∷ []) r)
        → EndsFrom setting (credit + 72) a d r (exec (code_at setting k a.turns) (code_of (with_two setting.names setting.at setting.program a.s.code.site d routine)) a.regs a.y)
