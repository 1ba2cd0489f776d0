-- **Inside a routine**: each point of its body is where the rest of a call begins. What was done there is done before what follows; a word is
-- returned; another routine is called, and what that comes to is returned, or the code goes on with it.
use Rattle.std.specs.Prelude.{◌≡◌, ℕ, ◌+◌, ◌*◌, ◌<◌, ◌≤◌, List, ◌∷◌, Some, length, slice_set}
use Rattle.lang_meaning.specs.State.{DynamicContext}
use Rattle.lang_meaning.specs.Values.{Value, nil}
use Rattle.flat_language.specs.FlatState.{FlatState, FlatEvaluated, gives, go_on}
use Rattle.mid_code.specs.Costs.{return_cost}
use Rattle.mid_code.specs.Law.{Grown}
use Rattle.mid_code.specs.Meaning.{Context, exec, exec_step}
use Rattle.mid_code.specs.MidCode.{return_word, code_of}
use Rattle.mid_code.specs.State.{Registers, register, MidState, MidOutcome, Next}
use Rattle.mid_code.specs.State.{charged as mid_charged, go_on as mid_go_on}
use Rattle.mid_arena.specs.Places.{word_of}
use Rattle.back_lowering.specs.Steps.{Steps, call}
use Rattle.back_relation.specs.Setting.{Setting}
use Rattle.back_relation.specs.Worlds.{World, Standing}
use Rattle.back_relation.specs.Things.{Things}
use Rattle.back_relation.specs.Ends.{WorldKept, Around, Ends, Returned, CallEnds}
use Rattle.back_relation.specs.Forms.{code_at}
use Rattle.back_relation.specs.Procedures.{called}
use Rattle.back_relation.specs.RoutineClaims.{Looks}
use Rattle.back_relation.specs.Starts.{FlatGrown, Start, EndsFrom, ReachedFrom}
use Rattle.back_calling.specs.Calling.{WordsIn, call_cost}

module _ (setting : Setting) where
  -- what was done, and what the rest comes to; units that were charged pay for turns
  abbrev pub LawOfGoingOn : Type 0
  LawOfGoingOn =
      (c1 c2 credit m1 m : ℕ) (rs valid : List Standing) (w w1 : World) (around : DynamicContext) (z z1 : FlatState) (y y1 : MidState) (r : FlatEvaluated) (q : MidOutcome)
      → WorldKept setting w w1 z z1 y y1 → Around setting c1 z z1 y y1 → c1 + c2 ≤ credit → m + 16 * z.state.units ≤ m1 + 16 * z1.state.units
      → z1.frame ≡ z.frame → CallEnds setting c2 m1 rs valid w1 around z1 y1 r q → CallEnds setting credit m rs valid w around z y r q

  -- no routine falls out of its end, so what is behind such code does not run
  abbrev pub LawOfPassing : Type 0
  LawOfPassing =
      (credit m : ℕ) (rs valid : List Standing) (w : World) (around : DynamicContext) (z : FlatState) (y : MidState) (r : FlatEvaluated) (q : MidOutcome) (next : Next)
      → ((g : Registers) (x : MidState) → Grown x (next g x).state) → CallEnds setting credit m rs valid w around z y r q
      → CallEnds setting credit m rs valid w around z y r (mid_go_on q next)

  -- a word is returned
  abbrev pub LawOfReturns : Type 0
  LawOfReturns =
      (c : Context) (credit m of word : ℕ) (ss : Steps) (rs valid : List Standing) (w : World) (around : DynamicContext) (z : FlatState) (y : MidState) (regs : Registers) (v : Value)
      → Things setting w z y → register of regs ≡ Some word → word_of w.places v ≡ Some word → return_cost ≤ credit
      → CallEnds setting credit m rs valid w around z y (gives v z) (exec c (code_of (return_word of ∷ ss)) regs y)

  -- what a call comes to is returned
  abbrev pub LawOfReturning : Type 0
  LawOfReturning =
      (k n credit m t number : ℕ) (arguments ws : List ℕ) (ss : Steps) (rs valid : List Standing) (w : World) (around : DynamicContext) (z : FlatState) (y : MidState)
      (regs : Registers) (r : FlatEvaluated)
      → WordsIn regs arguments ws → t < length regs → Things setting w z y → z.state.units ≤ r.state.state.units
      → CallEnds setting credit m rs valid w around z (mid_charged (call_cost arguments) y) r
      (called (code_at setting k n) number ws (mid_charged (call_cost arguments) y))
      → CallEnds setting (credit + call_cost arguments + return_cost) m rs valid w around z y r
      (exec (code_at setting k n) (code_of (call t number arguments ∷ return_word t ∷ ss)) regs y)

  -- a call, and what goes on with its result
  abbrev pub LawOfCallsThen : Type 0
  LawOfCallsThen =
      (c : Context) (c1 c2 credit m1 m2 m t number : ℕ) (arguments ws : List ℕ) (rs valid : List Standing) (w : World) (around : DynamicContext) (z : FlatState) (y : MidState)
      (regs : Registers) (r : FlatEvaluated) (f : Value → FlatState → FlatEvaluated) (next : Next)
      → WordsIn regs arguments ws → Things setting w z y → c1 + call_cost arguments + c2 ≤ credit → m ≤ m1
      → m + 16 * z.state.units ≤ m2 + 16 * r.state.state.units
      → ((v : Value) (x : FlatState) → FlatGrown x (f v x).state) → ((g : Registers) (x : MidState) → Grown x (next g x).state)
      → CallEnds setting c1 m1 rs valid w around z (mid_charged (call_cost arguments) y) r (called c number ws (mid_charged (call_cost arguments) y))
      → ((x : Returned setting (c1 + call_cost arguments) w z y r (called c number ws (mid_charged (call_cost arguments) y)))
      → CallEnds setting c2 m2 rs valid x.w' around r.state (called c number ws (mid_charged (call_cost arguments) y)).state (f x.result r.state)
      (next (slice_set regs t (Some x.word)) (called c number ws (mid_charged (call_cost arguments) y)).state))
      → CallEnds setting credit m rs valid w around z y (go_on r f) (mid_go_on (exec_step c (call t number arguments) regs y) next)

  -- a call of a routine that only looks, and what goes on with its word: in a routine
  abbrev pub LawOfLooking : Type 0
  LawOfLooking =
      (c : Context) (k turns m t number most word c2 credit : ℕ) (arguments ws : List ℕ) (rs valid : List Standing) (w : World) (around : DynamicContext) (z : FlatState)
      (y : MidState) (regs : Registers) (r : FlatEvaluated) (next : Next)
      → WordsIn regs arguments ws → Things setting w z y → m ≤ turns → most + call_cost arguments + c2 ≤ credit → FlatGrown z r.state
      → ((g : Registers) (x : MidState) → Grown x (next g x).state)
      → Ends setting most
      (Looks setting k turns rs valid w around z (mid_charged (call_cost arguments) y) most word (called c number ws (mid_charged (call_cost arguments) y)))
      ⊥ turns z (mid_charged (call_cost arguments) y) (gives nil z) (called c number ws (mid_charged (call_cost arguments) y))
      → (WorldKept setting w w z z y (called c number ws (mid_charged (call_cost arguments) y)).state
      → Around setting (most + call_cost arguments) z z y (called c number ws (mid_charged (call_cost arguments) y)).state
      → CallEnds setting c2 m rs valid w around z (called c number ws (mid_charged (call_cost arguments) y)).state r
      (next (slice_set regs t (Some word)) (called c number ws (mid_charged (call_cost arguments) y)).state))
      → CallEnds setting credit m rs valid w around z y r (mid_go_on (exec_step c (call t number arguments) regs y) next)

  -- in a form, whose register t has the word then
  abbrev pub LawOfFormLooking : Type 0
  LawOfFormLooking =
      (c : Context) (a : Start setting) (k d t number most word credit : ℕ) (arguments ws : List ℕ) (r : FlatEvaluated) (next : Next)
      → a.d ≤ t → t < length a.regs → most + call_cost arguments ≤ credit → WordsIn a.regs arguments ws → FlatGrown a.z r.state → ((g : Registers) (x : MidState) → Grown x (next g x).state)
      → Ends setting most
      (Looks setting k a.turns a.rs a.valid a.w a.around a.z (mid_charged (call_cost arguments) a.y) most word
      (called c number ws (mid_charged (call_cost arguments) a.y)))
      ⊥ a.turns a.z (mid_charged (call_cost arguments) a.y) (gives nil a.z) (called c number ws (mid_charged (call_cost arguments) a.y))
      → (ReachedFrom setting (most + call_cost arguments) a t a.w a.z (slice_set a.regs t (Some word)) (called c number ws (mid_charged (call_cost arguments) a.y)).state
      → EndsFrom setting credit a d r (next (slice_set a.regs t (Some word)) (called c number ws (mid_charged (call_cost arguments) a.y)).state))
      → EndsFrom setting credit a d r (mid_go_on (exec_step c (call t number arguments) a.regs a.y) next)
