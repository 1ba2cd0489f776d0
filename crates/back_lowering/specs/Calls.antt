-- The code of calls. A function whose number is known is entered at its body, with the arguments in registers. Any other function is applied
-- by a routine to words of a block, which the caller lends.
use Rattle.std.specs.Prelude.{ℕ, zero, suc, ◌+◌, ◌*◌, ◌-◌, Bool, true, false, nat_le, List, [], ◌∷◌, ◌++◌, Option, Some, None, length, flat_map, map, is_some, slice_get, if◌then◌else◌}
use Rattle.lang_meaning.specs.declared.program.MethodRow.{MethodRow}
use Rattle.lang_meaning.specs.declared.program.GenericRow.{GenericRow}
use Rattle.lang_meaning.specs.declared.program.FunctionRow.{FunctionRow}
use Rattle.lang_meaning.specs.declared.program.Callee.{Callee}
use Rattle.lang_meaning.specs.declared.program.Callee.TheVariants as callee
use Rattle.lang_meaning.specs.Objects.{program_error_class, undefined_function_class}
use Rattle.lang_meaning.specs.Lookup.{text, is_in}
use Rattle.lang_meaning.specs.Literals.{function_row}
use Rattle.lang_meaning.specs.Signals.{takes}
use Rattle.flat_language.specs.declared.program.FlatProcedure.{FlatProcedure}
use Rattle.flat_language.specs.declared.program.FlatProgram.{FlatProgram}
use Rattle.flat_language.specs.FlatNodes.{homes}
use Rattle.mid_code.specs.declared.operation.Arithmetic.TheVariants as which
use Rattle.mid_code.specs.MidCode.{with_block, code_of}
use Rattle.mid_arena.specs.Tags.{nil_word, cons_tag}
use Rattle.back_lowering.specs.Scope.{registers_from}
use Rattle.back_lowering.specs.declared.scope.SitePlace.{SitePlace}
use Rattle.back_lowering.specs.declared.scope.Scope.{Scope}
use Rattle.back_lowering.specs.Placement.{body_of_procedure, symbol_word}
use Rattle.back_lowering.specs.declared.placement.Placement.{Placement}
use Rattle.back_lowering.specs.Routines.{level_routine, function_routine, generic_routine}
use Rattle.back_lowering.specs.Sites.{asks_site}
use Rattle.back_lowering.specs.Steps.{Steps, move, constant, compute, load, store, request, call, words_stored}
use Rattle.back_lowering.specs.Leaves.{site_stored, failing, failing_with}

-- whether a procedure is a method of a generic function
abbrev pub is_method : FlatProgram → ℕ → Bool
is_method program p = is_in p (flat_map (λ (g : GenericRow). map (λ (m : MethodRow). m.procedure) g.methods) program.generics)

-- The body of a procedure takes the words of its variables, and where it is a method the address of its chain, how many arguments it was
-- called with and where they are. The body of a form's function takes the function itself behind the variables.
abbrev pub variable_count : FlatProcedure → ℕ
variable_count p = length (homes p)

abbrev pub method_parameters : ℕ
method_parameters = 3

-- a site is stored for a body that asks for it
abbrev pub site_for : Bool → SitePlace → (d t : ℕ) → Steps
site_for true site d t = site_stored site d t
site_for false site d t = []

-- registers t three times, where a method is called by its name: it has no chain
abbrev pub no_method : Bool → (t : ℕ) → List ℕ
no_method true t = t ∷ t ∷ t ∷ []
no_method false t = []

-- A list of the words in so many registers from d on comes to t: conses from the last one to the first; t to t + 2 are used.
abbrev pub list_of : (count d t : ℕ) → Steps
list_of zero d t = constant t nil_word ∷ []
list_of (suc n) d t =
    list_of n (d + 1) t
    ++ (constant (t + 1) 2 ∷ request (t + 1) (t + 1) ∷ store d (t + 1) 0 ∷ store t (t + 1) 4
    ∷ constant (t + 2) cons_tag ∷ compute t which.Add (t + 1) (t + 2) ∷ [])

module _ (at : Placement) (program : FlatProgram) where
  -- so many words in registers from d on are those of a block, whose address is in the register behind them, while the steps run
  abbrev pub with_words : (count d : ℕ) → Steps → Steps
  with_words count d steps =
      with_block (d + count) count d (code_of (words_stored count d (d + count) (d + count + 1) 0 ++ steps)) (code_of []) ∷ []

  -- the body of a procedure is entered with the words in registers from d on
  abbrev pub enter_body : (p : ℕ) → FlatProcedure → (variables : List ℕ) → (d t : ℕ) → SitePlace → Steps
  enter_body p q variables d t site =
      site_for (asks_site q.body) site t (t + 1)
      ++ (constant t 0 ∷ call d (body_of_procedure at p) (variables ++ no_method (is_method program p) t) ∷ [])

  -- a wrong number of arguments is judged where there is a level
  abbrev pub wrong_number : (d : ℕ) → SitePlace → Steps
  wrong_number d site = call d (level_routine at) [] ∷ failing at site d program_error_class

  -- the words behind those of the required variables are one list, which is made only where there is a level for the body
  abbrev pub call_with_rest : (p : ℕ) → FlatProcedure → (count d : ℕ) → SitePlace → Steps
  call_with_rest p q count d site =
      call (d + count) (level_routine at) []
      ∷ list_of (count - length q.required) (d + length q.required) (d + count)
      ++ enter_body p q (registers_from d (length q.required) ++ (d + count) ∷ []) d (d + count + 1) site

  abbrev pub call_procedure : (p : ℕ) → Option FlatProcedure → (count d : ℕ) → SitePlace → Steps
  call_procedure p None count d site = call d (level_routine at) [] ∷ constant d nil_word ∷ []
  call_procedure p (Some q) count d site =
      if takes (length q.required) (is_some q.rest) count then
      (if is_some q.rest then call_with_rest p q count d site else enter_body p q (registers_from d count) d (d + count) site)
      else wrong_number d site

  -- a generic function is applied by its number
  abbrev pub call_generic : (g : ℕ) → Option GenericRow → (count d : ℕ) → SitePlace → Steps
  call_generic g None count d site = constant d nil_word ∷ []
  call_generic g (Some row) count d site =
      if takes row.required row.rest count then
      with_words count d
      (site_stored site (d + count + 1) (d + count + 2)
      ++ (constant (d + count + 1) (at.generics + 4 * g) ∷ load (d + count + 1) (d + count + 1) 0 ∷ constant (d + count + 2) count
      ∷ call d (generic_routine at) ((d + count + 1) ∷ (d + count + 2) ∷ (d + count) ∷ []) ∷ []))
      else failing at site d program_error_class

  abbrev pub call_callee : Callee → (count d : ℕ) → SitePlace → Steps
  call_callee (callee.Procedure p) count d site = call_procedure p (slice_get program.procedures p) count d site
  call_callee (callee.Generic g) count d site = call_generic g (slice_get program.generics g) count d site

  -- the function of a name is applied to the words in registers from d on
  abbrev pub call_name : (name : ℕ) → Option FunctionRow → (count d : ℕ) → SitePlace → Steps
  call_name name None count d site = failing_with at site d undefined_function_class (symbol_word at name)
  call_name name (Some f) count d site = call_callee f.callee count d site

  -- the value in d is applied to the words in the registers behind it
  abbrev pub call_value_code : (count d : ℕ) → SitePlace → Steps
  call_value_code count d site =
      with_words count (d + 1)
      (site_stored site (d + count + 2) (d + count + 3)
      ++ (constant (d + count + 2) count ∷ call d (function_routine at) (d ∷ (d + count + 2) ∷ (d + 1 + count) ∷ []) ∷ []))
