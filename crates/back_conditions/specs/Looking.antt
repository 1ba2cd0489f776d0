-- What is shown of the routines that only look: a word is returned, and all but the cost is as it was.
use Rattle.std.specs.Prelude.{◌≡◌, ℕ, ◌+◌, ◌*◌, ◌^◌, ◌≤◌, List, [], ◌∷◌, Option, Some, None, slice_get, if◌then◌else◌}
use Rattle.std.specs.Str.{bytes_eq}
use Rattle.lang_meaning.specs.Classes.{class_of, fetch}
use Rattle.lang_meaning.specs.Lookup.{text, passed}
use Rattle.lang_meaning.specs.Primitives.{is_function}
use Rattle.lang_meaning.specs.State.{DynamicContext}
use Rattle.lang_meaning.specs.Values.{Value, nil}
use Rattle.flat_language.specs.FlatState.{FlatState, gives}
use Rattle.mid_code.specs.State.{MidState}
use Rattle.back_lowering.specs.Placement.{dynamic_address}
use Rattle.back_lowering.specs.Routines.{binding_routine, is_function_routine, class_routine}
use Rattle.back_relation.specs.Setting.{Setting}
use Rattle.back_relation.specs.Room.{looking_words}
use Rattle.back_relation.specs.Around.{CallBegins, AroundStands}
use Rattle.back_relation.specs.Ends.{Ends}
use Rattle.back_relation.specs.Forms.{code_at}
use Rattle.back_relation.specs.Placed.{IsPlaced, HasDynamic}
use Rattle.back_relation.specs.Procedures.{called}
use Rattle.back_relation.specs.Things.{Things}
use Rattle.back_relation.specs.Worlds.{World, on_stack, Standing}
use Rattle.back_relation.specs.RoutineClaims.{WordIs, Looks, IsFunctionDoes, BindingDoes, ClassDoes, is_function_cost, class_cost}

-- Such a routine returns a word, for at most so much, wherever so many words are left: no site has to be stored for it.
abbrev pub LooksAnywhere :
    (setting : Setting) (k turns : ℕ) (rs valid : List Standing) → World → DynamicContext → FlatState → MidState → (room most routine : ℕ) → List ℕ → (word : ℕ) → Type 0
LooksAnywhere setting k turns rs valid w around z y room most routine ws word =
    looking_words ≤ room → CallBegins setting rs valid room w around z y
    → Ends setting most (Looks setting k turns rs valid w around z y most word (called (code_at setting k turns) routine ws y)) ⊥ turns z y (gives nil z)
    (called (code_at setting k turns) routine ws y)

-- whether a value is a function: 1, or 0
abbrev pub LawOfFunctionTests : Type 0
LawOfFunctionTests =
    (setting : Setting) (k turns : ℕ) (rs valid : List Standing) (w : World) (around : DynamicContext) (z : FlatState) (y : MidState) (room : ℕ) → IsPlaced setting
    → (v : Value) (word : ℕ) → WordIs setting w word v
    → LooksAnywhere setting k turns rs valid w around z y room is_function_cost (is_function_routine setting.at) (word ∷ []) (if is_function (fetch z.state v) then 1 else 0)

abbrev pub LawOfFunctionClaims : Type 0
LawOfFunctionClaims =
    (setting : Setting) (k turns : ℕ) (rs valid : List Standing) (w : World) (around : DynamicContext) (z : FlatState) (y : MidState) → IsPlaced setting
    → IsFunctionDoes setting k turns rs valid w around z y

-- The number of a value's class, four times. It is sought by the tag of the word, by the header of the object, and in the class: that costs
-- more than to see whether it is a function.
abbrev pub LawOfClassNumbers : Type 0
LawOfClassNumbers =
    (setting : Setting) (k turns : ℕ) (rs valid : List Standing) (w : World) (around : DynamicContext) (z : FlatState) (y : MidState) (room : ℕ) → IsPlaced setting
    → (v : Value) (word : ℕ) → WordIs setting w word v
    → LooksAnywhere setting k turns rs valid w around z y room class_cost (class_routine setting.at) (word ∷ []) (4 * class_of z.state v)

abbrev pub LawOfClassClaims : Type 0
LawOfClassClaims =
    (setting : Setting) (k turns : ℕ) (rs valid : List Standing) (w : World) (around : DynamicContext) (z : FlatState) (y : MidState) → IsPlaced setting
    → ClassDoes setting k turns rs valid w around z y

-- the variable that is bound innermost to a name
abbrev pub binding_under : List ℕ → List (List ℕ × ℕ) → Option ℕ
binding_under name [] = None
binding_under name (b ∷ bs) = if bytes_eq name b.0 then Some b.1 else binding_under name bs

-- where its value stands: in the binding's cell, or among the outermost values
abbrev pub PlaceOf : Setting → World → (n address : ℕ) → Option ℕ → Type 0
PlaceOf setting w n address None = address ≡ dynamic_address setting.at n
PlaceOf setting w n address (Some i) = slice_get w.boxes i ≡ Some (on_stack address)

abbrev pub binding_most : List ℕ → List (List ℕ × ℕ) → ℕ
binding_most name bs = 98 + 70 * passed (λ (b : List ℕ × ℕ). bytes_eq name b.0) bs

-- Where the value of a dynamic variable is: that is known of what is around, before the routine is called.
abbrev pub LawOfBindings : Type 0
LawOfBindings =
    (setting : Setting) (k turns : ℕ) (rs valid : List Standing) (w : World) (around : DynamicContext) (z : FlatState) (y : MidState) (room : ℕ) → IsPlaced setting
    → Things setting w z y → AroundStands setting w rs valid around z y → (n : ℕ) → HasDynamic setting n
    → (address : ℕ) × (address + 4 ≤ 2 ^ 32) × PlaceOf setting w n address (binding_under (text setting.names n) around.bindings)
    × LooksAnywhere setting k turns rs valid w around z y room (binding_most (text setting.names n) around.bindings) (binding_routine setting.at)
    (dynamic_address setting.at n ∷ []) address

abbrev pub LawOfBindingClaims : Type 0
LawOfBindingClaims =
    (setting : Setting) (k turns : ℕ) (rs valid : List Standing) (w : World) (around : DynamicContext) (z : FlatState) (y : MidState) → IsPlaced setting
    → Things setting w z y → AroundStands setting w rs valid around z y → BindingDoes setting k turns rs valid w around z y
