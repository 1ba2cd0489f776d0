-- **The law of functions that take further arguments**: a level is judged, their list is made, and the body is entered.
use Rattle.std.specs.Prelude.{◌≡◌, ℕ, suc, ◌+◌, ◌*◌, ◌≤◌, true, List, [], Some, None, length, slice_get, is_some}
use Rattle.lang_meaning.specs.Values.{Value}
use Rattle.flat_language.specs.declared.program.FlatProcedure.{FlatProcedure}
use Rattle.flat_language.specs.FlatSignals.{FlatSignals, descend, enter}
use Rattle.mid_code.specs.Meaning.{exec}
use Rattle.mid_code.specs.MidCode.{code_of}
use Rattle.mid_arena.specs.Places.{WordsOf}
use Rattle.back_lowering.specs.Calls.{call_with_rest}
use Rattle.back_lowering.specs.Program.{extra_of}
use Rattle.back_lowering.specs.Registers.{of_code, enough_for}
use Rattle.back_relation.specs.Setting.{Setting}
use Rattle.back_relation.specs.Placed.{IsPlaced}
use Rattle.back_relation.specs.Room.{routine_words}
use Rattle.back_relation.specs.Forms.{below_at, context_at, code_at}
use Rattle.back_relation.specs.Procedures.{BodyDoes}
use Rattle.back_relation.specs.Starts.{Start, EndsAt}
use Rattle.back_values.specs.Arguments.{WordsIn}

-- what the call of a function with further arguments costs beside its units
abbrev pub rest_credit : (arguments : ℕ) → ℕ
rest_credit n = 350 + 20 * n

-- From a point where the words of all arguments are in registers: a function of a definition that takes further arguments is called as the meaning
-- applies it, if its body does what is claimed of it.
abbrev pub LawOfRestCalls : Type 0
LawOfRestCalls =
    (setting : Setting) (k : ℕ) (a : Start setting) (number : ℕ) (q : FlatProcedure) (wrong : FlatSignals) (vs : List Value) (ws : List ℕ) → IsPlaced setting
    → slice_get setting.program.procedures number ≡ Some q → is_some q.rest ≡ true → length q.required ≤ length vs → a.turns ≤ setting.turns_each
    → ((j : ℕ) → k ≡ suc j → BodyDoes setting j number (extra_of setting.names setting.at setting.program number) q) → WordsOf a.w.places vs ws → WordsIn a.d ws a.regs → routine_words ≤ a.n
    → enough_for (of_code (code_of (call_with_rest setting.at setting.program number q (length ws) a.d a.s.code.site))) ≤ length a.regs
    → EndsAt setting (rest_credit (length vs)) a
    (descend (below_at setting k) (λ entered. enter (context_at setting k) wrong q [] None vs a.around entered) a.around a.z)
    (exec (code_at setting k a.turns) (code_of (call_with_rest setting.at setting.program number q (length ws) a.d a.s.code.site)) a.regs a.y)
