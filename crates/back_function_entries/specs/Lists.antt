-- **The laws of lists of arguments**: words in registers one after another become a list, from the last one to the first.
use Rattle.std.specs.Prelude.{◌≡◌, ℕ, ◌+◌, ◌<◌, ◌≤◌, List, ◌++◌, Some, length, slice_get}
use Rattle.lang_meaning.specs.Values.{Value}
use Rattle.flat_language.specs.FlatSignals.{make_list}
use Rattle.flat_language.specs.FlatState.{FlatState, FlatEvaluated}
use Rattle.mid_code.specs.Meaning.{exec}
use Rattle.mid_code.specs.MidCode.{code_of}
use Rattle.mid_code.specs.State.{Registers, register, MidState, MidOutcome, Next}
use Rattle.mid_arena.specs.Places.{WordsOf, word_of}
use Rattle.back_lowering.specs.Calls.{list_of}
use Rattle.back_lowering.specs.Registers.{of_code, enough_for}
use Rattle.back_lowering.specs.Steps.{Steps}
use Rattle.back_relation.specs.Setting.{Setting}
use Rattle.back_relation.specs.Placed.{IsPlaced}
use Rattle.back_relation.specs.Worlds.{World}
use Rattle.back_relation.specs.Things.{Things}
use Rattle.back_relation.specs.Around.{RoomFor}
use Rattle.back_relation.specs.Ends.{WorldKept, Around, FullThere, Stopped}
use Rattle.back_relation.specs.Forms.{FormEnds, code_at}
use Rattle.back_relation.specs.Starts.{FlatGrown, Start, EndsAt, ReachedFrom}
use Rattle.back_values.specs.Arguments.{WordsIn}

-- what comes before the conses, which their units pay
abbrev pub list_credit : ℕ
list_credit = 6

module _ (setting : Setting) where
  -- a list was made, and its word is in a register; those in front of it are as they were
  pub record ListMade (t : ℕ) (list : Value) (w w' : World) (z z' : FlatState) (regs regs' : Registers) (y y' : MidState) : Type 0 where
    pub world : WorldKept setting w w' z z' y y'
    pub back : Around setting list_credit z z' y y'
    pub word : ℕ
    pub of_value : word_of w'.places list ≡ Some word
    pub in_register : register t regs' ≡ Some word
    pub count : length regs' ≡ length regs
    pub below : (r : ℕ) → r < t → slice_get regs' r ≡ slice_get regs r
    pub frame : z'.frame ≡ z.frame
    pub captured : z'.captured ≡ z.captured
    pub up : z.state.units ≤ z'.state.units

  -- what a list comes to: what goes on where it was made; or the meaning has no words left; or the code has none
  pub data ListEnd (t : ℕ) (w : World) (z : FlatState) (regs : Registers) (y : MidState) (next : Value → FlatState → FlatEvaluated) (rest : Next) (r : FlatEvaluated) (q : MidOutcome) : Type 0 where
    made : (list : Value) (w' : World) (z' : FlatState) (regs' : Registers) (y' : MidState) → ListMade t list w w' z z' regs regs' y y' → r ≡ next list z' → q ≡ rest regs' y'
        → ListEnd t w z regs y next rest r q
    no_words : FullThere setting r q → ListEnd t w z regs y next rest r q
    no_space : Stopped setting list_credit z y r q → ListEnd t w z regs y next rest r q

  -- from a point a list was made
  pub record ListThere (a : Start setting) (t : ℕ) (list : Value) (w' : World) (z' : FlatState) (regs' : Registers) (y' : MidState) : Type 0 where
    pub made : ListMade t list a.w w' a.z z' a.regs regs' a.y y'
    pub reached : ReachedFrom setting list_credit a a.d w' z' regs' y'

-- **A list of the words in registers is made**, whatever is around, or there are no words for it.
abbrev pub LawOfMadeLists : Type 0
LawOfMadeLists =
    (setting : Setting) (k n room : ℕ) (vs : List Value) (ws : List ℕ) (d t : ℕ) (w : World) (z : FlatState) (regs : Registers) (y : MidState) (rest : Steps)
    (next : Value → FlatState → FlatEvaluated) → IsPlaced setting → Things setting w z y → RoomFor setting.limit room z.state y → WordsOf w.places vs ws → WordsIn d ws regs
    → d + length ws ≤ t → enough_for (of_code (code_of (list_of (length ws) d t))) ≤ length regs → ((v : Value) (z : FlatState) → FlatGrown z (next v z).state)
    → ListEnd setting t w z regs y next (λ g x. exec (code_at setting k n) (code_of rest) g x) (make_list setting.limit vs z next)
    (exec (code_at setting k n) (code_of (list_of (length ws) d t ++ rest)) regs y)

-- **What goes on with a list**: where from there code does what the meaning does, all of it does, from any point.
abbrev pub LawOfListsAt : Type 0
LawOfListsAt =
    (setting : Setting) (k credit : ℕ) (a : Start setting) (vs : List Value) (ws : List ℕ) (d t : ℕ) (rest : Steps) (next : Value → FlatState → FlatEvaluated) → IsPlaced setting
    → WordsOf a.w.places vs ws → WordsIn d ws a.regs → a.d ≤ d → d + length ws ≤ t → enough_for (of_code (code_of (list_of (length ws) d t))) ≤ length a.regs
    → ((v : Value) (z : FlatState) → FlatGrown z (next v z).state)
    → ((list : Value) (w' : World) (z' : FlatState) (regs' : Registers) (y' : MidState) → ListThere setting a t list w' z' regs' y'
    → FormEnds setting credit a.turns a.rs a.valid a.s a.d w' a.env a.around z' regs' y' (next list z') (exec (code_at setting k a.turns) (code_of rest) regs' y'))
    → EndsAt setting (list_credit + credit) a (make_list setting.limit vs a.z next)
    (exec (code_at setting k a.turns) (code_of (list_of (length ws) d t ++ rest)) a.regs a.y)
