-- Short words for steps of middle code.
use Rattle.std.specs.Prelude.{ℕ, zero, suc, ◌+◌, ◌≤◌, nat_le, pos, negsuc, List, [], ◌∷◌, ◌++◌, if◌then◌else◌}
use Rattle.mid_code.specs.declared.operation.Arithmetic.{Arithmetic}
use Rattle.mid_code.specs.declared.operation.Arithmetic.TheVariants as which
use Rattle.mid_code.specs.declared.operation.Callee.TheVariants.{Procedure, Word}
use Rattle.mid_code.specs.declared.operation.Comparison.{Comparison}
use Rattle.mid_code.specs.declared.operation.Comparison.TheVariants.{Equal, Different}
use Rattle.mid_code.specs.declared.operation.Operation.TheVariants.{Move, Constant, Compute, Load, Store, Request, Call}
use Rattle.mid_code.specs.declared.operation.Test.{Test}
use Rattle.mid_code.specs.MidCode.{MidStep, perform, choose, code_of}
use Rattle.mid_arena.specs.Tags.{nil_word}

abbrev pub Steps : Type 0
Steps = List MidStep

abbrev pub move : (to from : ℕ) → MidStep
move to from = perform (Move to from)

abbrev pub constant : (to word : ℕ) → MidStep
constant to word = perform (Constant to word)

abbrev pub compute : (to : ℕ) → Arithmetic → (first second : ℕ) → MidStep
compute to how first second = perform (Compute to how first second)

-- the word at an offset from an address
abbrev pub load : (to base offset : ℕ) → MidStep
load to base offset = perform (Load to base (pos offset))

abbrev pub store : (from base offset : ℕ) → MidStep
store from base offset = perform (Store from base (pos offset))

-- the header of an object, from a pointer to it
abbrev pub load_header : (to pointer : ℕ) → MidStep
load_header to pointer = perform (Load to pointer (negsuc 1))

abbrev pub request : (to words : ℕ) → MidStep
request to words = perform (Request to words)

abbrev pub call : (to procedure : ℕ) → (arguments : List ℕ) → MidStep
call to procedure arguments = perform (Call to (Procedure procedure) arguments)

-- a call of the procedure whose number is in a register
abbrev pub call_number : (to number : ℕ) → (arguments : List ℕ) → MidStep
call_number to number arguments = perform (Call to (Word number) arguments)

abbrev pub test_of : Comparison → (first second : ℕ) → Test
test_of how first second = record { comparison = how; first = first; second = second }

-- one or the other, as two registers compare
abbrev pub where_so : Comparison → (a b : ℕ) → (first second : Steps) → MidStep
where_so how a b first second = choose (test_of how a b) (code_of first) (code_of second)

abbrev pub if_equal : (a b : ℕ) → (first second : Steps) → MidStep
if_equal a b first second = where_so Equal a b first second

abbrev pub if_different : (a b : ℕ) → (first second : Steps) → MidStep
if_different a b first second = where_so Different a b first second

-- The same as `if_equal`, written with the opposite test: a jump is behind the code that stands first, and none behind the likely one.
abbrev pub if_likely_equal : (a b : ℕ) → (likely other : Steps) → MidStep
if_likely_equal a b likely other = if_different a b other likely

-- one or the other, as the value in d is true or nil; t is used
abbrev pub if_true : (d t : ℕ) → (first second : Steps) → Steps
if_true d t first second = constant t nil_word ∷ if_different d t first second ∷ []

-- an instruction holds offsets up to that one
abbrev pub most_offset : ℕ
most_offset = 2047

-- the word at an address that is known; t is used
abbrev pub load_from : (to t address : ℕ) → Steps
load_from to t address =
    if nat_le address most_offset then constant t 0 ∷ load to t address ∷ [] else constant t address ∷ load to t 0 ∷ []

abbrev pub store_to : (from t address : ℕ) → Steps
store_to from t address =
    if nat_le address most_offset then constant t 0 ∷ store from t address ∷ [] else constant t address ∷ store from t 0 ∷ []

-- the word at an offset from an address, whatever the offset; t is used, where it may be `to`
abbrev pub load_far : (to base t offset : ℕ) → Steps
load_far to base t offset =
    if nat_le offset most_offset then load to base offset ∷ []
    else constant t offset ∷ compute t which.Add t base ∷ load to t 0 ∷ []

abbrev pub store_far : (from base t offset : ℕ) → Steps
store_far from base t offset =
    if nat_le offset most_offset then store from base offset ∷ []
    else constant t offset ∷ compute t which.Add t base ∷ store from t 0 ∷ []

-- words in registers from d on are stored one after another, from an offset on; t is used
abbrev pub words_stored : (count d base t offset : ℕ) → Steps
words_stored zero d base t offset = []
words_stored (suc n) d base t offset = store_far d base t offset ++ words_stored n (d + 1) base t (offset + 4)

-- words one after another are loaded into registers from d on, each of which is used on its way
abbrev pub words_loaded : (count d base offset : ℕ) → Steps
words_loaded zero d base offset = []
words_loaded (suc n) d base offset = load_far d base d offset ++ words_loaded n (d + 1) base (offset + 4)
