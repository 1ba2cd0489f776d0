-- **What the registers of an activation hold.**
use Rattle.std.specs.Prelude.{◌≡◌, ◌⊎◌, ⊤, ℕ, ◌+◌, ◌*◌, ◌^◌, ◌<◌, ◌≤◌, Bool, true, List, [], ◌∷◌, ◌++◌, Option, Some, None, length, slice_get}
use Rattle.base.specs.declared.place.Place.{Place}
use Rattle.lang_meaning.specs.Values.{Value}
use Rattle.lang_meaning.specs.Objects.{Called}
use Rattle.lang_meaning.specs.State.{DynamicContext, Exit}
use Rattle.flat_language.specs.declared.place.Home.{Home}
use Rattle.flat_language.specs.declared.place.Home.TheVariants as home
use Rattle.lang_meaning.specs.declared.scope.ExitForm.{ExitForm}
use Rattle.flat_language.specs.FlatExits.{FlatExits, with_own}
use Rattle.flat_language.specs.FlatStanding.{FlatScope, with_homes}
use Rattle.flat_language.specs.FlatStanding.{with_exit as flat_with_exit}
use Rattle.flat_language.specs.FlatState.{FrameSlot, holds, holds_box, Captured, FlatEnvironment, FlatState, under}
use Rattle.mid_code.specs.Arena.{Arena, stack_from}
use Rattle.mid_code.specs.State.{Registers, register, MidState}
use Rattle.mid_arena.specs.Places.{Spot, of_object, spot_of, word_of}
use Rattle.mid_arena.specs.Standing.{ValuesAt}
use Rattle.mid_arena.specs.Tags.{object_tag}
use Rattle.back_lowering.specs.declared.scope.SitePlace.{SitePlace}
use Rattle.back_lowering.specs.declared.scope.Reach.{Reach}
use Rattle.back_lowering.specs.declared.scope.OwnExit.{OwnExit}
use Rattle.back_lowering.specs.declared.scope.Scope.{Scope}
use Rattle.back_lowering.specs.declared.scope.SitePlace.TheVariants.{Known, Held}
use Rattle.back_lowering.specs.declared.scope.Reach.TheVariants.{AtOnce, ByTransfer, BySearch}
use Rattle.back_lowering.specs.Scope as code
use Rattle.back_relation.specs.Setting.{Setting}
use Rattle.back_relation.specs.Chains.{ChainAt, ChainTakes}
use Rattle.back_relation.specs.Worlds.{World, BoxIs, MethodIs, Plain, Standing, record_of_exit, first_stop}
use Rattle.back_relation.specs.Things.{AreOfKinds, AreMadeBy, SiteIs}

-- what is known of a form's surroundings when its code is written: where it stands, which forms made its exits, whether the call of its
-- method is kept, and its registers
pub record FormScope : Type 0 where
  pub flat : FlatScope
  pub exits : FlatExits
  pub keeps_method : Bool
  pub code : Scope

abbrev pub with_slots : List Home → List ℕ → FormScope → FormScope
with_slots hs rs s = record s { flat = with_homes hs s.flat; code = code.with_slots rs s.code }

abbrev pub with_exit : ExitForm → (serial record_register : ℕ) → FormScope → FormScope
with_exit form e r s = record s { flat = flat_with_exit s.flat; exits = with_own form s.exits; code = code.with_exit e r s.code }

abbrev pub inside_cleanup : FormScope → FormScope
inside_cleanup s = record s { code = code.inside_cleanup s.code }

abbrev pub in_cleanup : FormScope → FormScope
in_cleanup s = record s { code = code.in_cleanup s.code }

abbrev pub at_site : ℕ → FormScope → FormScope
at_site n s = record s { code = code.at_site n s.code }

-- a register that is no slot's
abbrev pub NoSlot : Scope → ℕ → Type 0
NoSlot s r = (n : ℕ) → slice_get s.slots n ≡ Some r → ⊥

-- a register of the activation's own: below the first one that code may use, and no slot's
abbrev pub IsOwn : Scope → (d r : ℕ) → Type 0
IsOwn s d r = (r < d) × NoSlot s r

-- the registers of a scope are below the first one that code may use, and differ from those of slots
pub record ScopeStands (s : Scope) (d : ℕ) : Type 0 where
  pub slots_below : (n r : ℕ) → slice_get s.slots n ≡ Some r → r < d
  pub slots_apart : (m n r : ℕ) → slice_get s.slots m ≡ Some r → slice_get s.slots n ≡ Some r → m ≡ n
  pub exits : (n : ℕ) (x : OwnExit) → slice_get s.exits n ≡ Some x → IsOwn s d x.serial × IsOwn s d x.record_register
  pub self : IsOwn s d s.function
  pub method : (m : ℕ) → s.method ≡ Some m → IsOwn s d m × IsOwn s d (m + 1) × IsOwn s d (m + 2)
  pub site : (r : ℕ) → s.site ≡ Held r → IsOwn s d r

-- the registers below the first one are as they were, but for those of slots
pub record RegistersKept (s : Scope) (d : ℕ) (regs regs' : Registers) : Type 0 where
  pub count : length regs' ≡ length regs
  pub same : (i : ℕ) → i < d → NoSlot s i → slice_get regs' i ≡ slice_get regs i

-- what a slot of a home has, and its word
abbrev pub SlotHas : Home → Option FrameSlot → Type 0
SlotHas home.Slot o = (v : Value) × (o ≡ Some (holds v))
SlotHas home.Boxed o = (i : ℕ) × (o ≡ Some (holds_box i))

abbrev pub SlotIs : World → (word : ℕ) → FrameSlot → Type 0
SlotIs w word (holds v) = word_of w.places v ≡ Some word
SlotIs w word (holds_box i) = BoxIs w i word

-- How an exit of the activation may be left. At once: its record is that of the valid exit, and a transfer to it stops there first. By a
-- transfer: its record is that of the valid exit. By a search: its number alone is known.
abbrev pub ExitReached : Reach → (rs valid : List Standing) → List Exit → (exit : ℕ) → (record_word : Option ℕ) → Type 0
ExitReached AtOnce rs valid exits e word =
    (r : Standing) × (outer : List Standing) × (word ≡ Some r.address) × (record_of_exit e exits valid ≡ Some r)
    × (first_stop r.address rs ≡ r ∷ outer)
ExitReached ByTransfer rs valid exits e word = (r : Standing) × (word ≡ Some r.address) × (record_of_exit e exits valid ≡ Some r)
ExitReached BySearch rs valid exits e word = ⊤

-- the function itself, where it captured something: its object, and a pointer to it
pub record SelfStands (w : World) (made : List (ℕ × List Captured)) (pointer : ℕ) (cs : List Captured) : Type 0 where
  pub number : ℕ
  pub captured : under number made ≡ Some cs
  pub spot : Spot
  pub there : spot_of w.places (of_object number) ≡ Some spot
  pub here : pointer ≡ spot.address + object_tag

abbrev pub SelfHeld : World → List (ℕ × List Captured) → (self_word : Option ℕ) → List Captured → Type 0
SelfHeld w made word [] = ⊤
SelfHeld w made word (c ∷ cs) = (pointer : ℕ) × (word ≡ Some pointer) × SelfStands w made pointer (c ∷ cs)

-- values are the last arguments of a call that is kept in the heap, where its arguments stand behind its chain and their number
pub record KeptAmong (methods : List (ℕ × Called)) (address : ℕ) (vs : List Value) : Type 0 where
  pub number : ℕ
  pub start : ℕ
  pub call : Called
  pub is_kept : slice_get methods number ≡ Some (start, call)
  pub before : List Value
  pub arguments : call.arguments ≡ before ++ vs
  pub here : address ≡ start + 8 + 4 * length before

abbrev pub ArgumentsKept : World → (address : ℕ) → List Value → Type 0
ArgumentsKept w address vs = KeptAmong w.methods address vs

-- the arguments of a method at an address: kept in the heap, for this call or for one before it in the chain, or lent in a block of the stack,
-- as long as it stands
pub data ArgumentsHeld (w : World) (a : Arena) (address : ℕ) (called : Called) : Type 0 where
  in_heap : ArgumentsKept w address called.arguments → ArgumentsHeld w a address called
  on_stack :
      (stack_from a ≤ address → ValuesAt w.places a address called.arguments)
      → ((k : ℕ) → k < 4 * length called.arguments → Plain w (address + k)) → ArgumentsHeld w a address called

-- they are in the heap, or their block stands, at a word
abbrev pub ArgumentsThere : World → Arena → (address : ℕ) → Called → Type 0
ArgumentsThere w a address called = ArgumentsKept w address called.arguments ⊎ ((stack_from a ≤ address) × (address < 2 ^ 32))

module _ (setting : Setting) where
  -- the call of a method in three registers: its chain, or 0, how many arguments there are, and where they are
  pub record CallHeld (w : World) (a : Arena) (keeps_method : Bool) (regs : Registers) (m : ℕ) (called : Called) : Type 0 where
    pub chain : ℕ
    pub arguments : ℕ
    pub chain_word : register m regs ≡ Some chain
    pub count_word : register (m + 1) regs ≡ Some (length called.arguments)
    pub arguments_word : register (m + 2) regs ≡ Some arguments
    pub chain_stands : ChainAt setting chain called.rest
    pub takes : ChainTakes setting (length called.arguments) called.rest
    pub held : ArgumentsHeld w a arguments called
    pub kept : keeps_method ≡ true → (start : ℕ) × (arguments ≡ start + 8) × MethodIs w start called

  abbrev pub MethodHeld : World → Arena → (keeps_method : Bool) → Registers → Option ℕ → Option Called → Type 0
  MethodHeld w a keeps regs None None = ⊤
  MethodHeld w a keeps regs None (Some called) = ⊥
  MethodHeld w a keeps regs (Some m) None =
      (count arguments : ℕ) × (register m regs ≡ Some 0) × (register (m + 1) regs ≡ Some count) × (register (m + 2) regs ≡ Some arguments)
  MethodHeld w a keeps regs (Some m) (Some called) = CallHeld w a keeps regs m called

  abbrev pub MethodThere : World → Arena → Registers → Option ℕ → Option Called → Type 0
  MethodThere w a regs (Some m) (Some called) =
      (arguments : ℕ) → register (m + 2) regs ≡ Some arguments → ArgumentsThere w a arguments called
  MethodThere w a regs m called = ⊤

  -- the word of a site
  abbrev pub SiteHeld : Registers → SitePlace → Place → Type 0
  SiteHeld regs (Known n) place = SiteIs setting n place
  SiteHeld regs (Held r) place = (n : ℕ) × (register r regs ≡ Some n) × SiteIs setting n place

  pub record ActivationStands (s : FormScope) (rs valid : List Standing) (w : World) (env : FlatEnvironment) (around : DynamicContext) (z : FlatState) (regs : Registers) (y : MidState) : Type 0 where
    -- slots
    pub slot_count : length s.code.slots ≡ length z.frame
    pub home_count : length s.flat.homes ≡ length z.frame
    pub homes : (n : ℕ) (h : Home) → slice_get s.flat.homes n ≡ Some h → SlotHas h (slice_get z.frame n)
    pub slots :
        (n r : ℕ) (f : FrameSlot) → slice_get s.code.slots n ≡ Some r → slice_get z.frame n ≡ Some f
        → (word : ℕ) × (register r regs ≡ Some word) × SlotIs w word f
    -- exits
    pub exit_count : length s.code.exits ≡ length env.exits
    pub flat_count : s.flat.exits ≡ length env.exits
    pub exits :
        (n : ℕ) (x : OwnExit) → slice_get s.code.exits n ≡ Some x
        → (e : ℕ) × (slice_get env.exits n ≡ Some e) × (register x.serial regs ≡ Some e)
        × ExitReached x.reach rs valid around.exits e (register x.record_register regs)
    pub exit_forms : (n e : ℕ) → slice_get env.exits n ≡ Some e → slice_get w.exit_forms e ≡ Some (slice_get s.exits.own n)
    -- what the function captured, itself, the call of its method, and the site
    pub kinds : AreOfKinds s.flat.captured env.captured
    pub made_by : AreMadeBy w env.captured s.exits.captured
    pub self : SelfHeld w z.captured (register s.code.function regs) env.captured
    pub method : MethodHeld w y.arena s.keeps_method regs s.code.method env.method
    pub site : SiteHeld regs s.code.site around.site
