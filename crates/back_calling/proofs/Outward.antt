-- What registers hold goes on standing where a call came back or a cut passes: the stack may begin further out.
use Rattle.std.proofs.Common.{◌≡◌, ℕ, ◌+◌, ◌*◌, ◌<◌, ◌≤◌, Bool, List, [], ◌∷◌, length, Option, Some, None, sym, ap, ◌∙◌, subst, arith}
use Rattle.std.specs.Prelude.{slice_get}
use Rattle.lang_meaning.specs.Values.{Value}
use Rattle.lang_meaning.specs.Objects.{Called}
use Rattle.lang_meaning.specs.State.{DynamicContext}
use Rattle.flat_language.specs.FlatState.{FrameSlot, holds, holds_box, Captured, FlatEnvironment, FlatState, under}
use Rattle.flat_laws.specs.FlatLater.{FlatLater}
use Rattle.mid_code.specs.Arena.{stack_from}
use Rattle.mid_code.specs.State.{Registers, register, MidState}
use Rattle.mid_arena.specs.Places.{Spot, of_object, spot_of}
use Rattle.mid_arena.specs.Standing.{ValueAt}
use Rattle.mid_arena.proofs.Owners.{object_within}
use Rattle.back_relation.specs.Setting.{Setting}
use Rattle.back_relation.specs.Worlds.{World, Later, Standing}
use Rattle.back_relation.specs.StackWords.{StackKept}
use Rattle.back_relation.specs.Things.{Things}
use Rattle.back_relation.specs.Activation.{FormScope, SlotHas, SlotIs, SelfHeld, ArgumentsHeld, in_heap, on_stack, MethodHeld, ActivationStands}
use Rattle.back_relation.proofs.Activations.{made_by_later, kept_later}
use Rattle.back_relation.proofs.Worlds.{word_later, plain_later}

-- the stack begins no further in, and what stands of it is kept
pub record Outward (w w' : World) (y y' : MidState) : Type 0 where
  pub from : stack_from y.arena ≤ stack_from y'.arena
  pub stack : StackKept w w' y y'

slot_out : {w w' : World} → Later w w' → (word : ℕ) (f : FrameSlot) → SlotIs w word f → SlotIs w' word f
slot_out l word (holds v) h = word_later l v word h
slot_out l word (holds_box i) h = l.boxes i word h

-- what functions with a spot captured is known as before
abbrev pub CapturedKept : World → (before after : List (ℕ × List Captured)) → Type 0
CapturedKept w before after = (n : ℕ) (s : Spot) → spot_of w.places (of_object n) ≡ Some s → under n after ≡ under n before

-- so it is in a later state of the meaning
pub captured_later : (setting : Setting) {w : World} {z z' : FlatState} {y : MidState} → Things setting w z y → FlatLater z z' → CapturedKept w z.captured z'.captured
captured_later setting {w} t l n s e = l.functions.same n (let within = object_within w.places n s e in omega (arith, within, t.represents.count))

pub self_out :
    {w w' : World} (made made' : List (ℕ × List Captured)) (word : Option ℕ) → Later w w' → CapturedKept w made made'
    → (cs : List Captured) → SelfHeld w made word cs → SelfHeld w' made' word cs
self_out made made' word l kept [] h = tt
self_out made made' word l kept (c ∷ cs) h = (
  h.0,
  h.1,
  record {
    number = h.2.number;
    captured = kept h.2.number h.2.spot h.2.there ∙ h.2.captured;
    spot = h.2.spot;
    there = l.spots (of_object h.2.number) h.2.spot h.2.there;
    here = h.2.here;
  },
)

module _ (setting : Setting) {w w' : World} {y y' : MidState} (l : Later w w') (h : Outward w w' y y') where
  arguments_out : (address : ℕ) (called : Called) → ArgumentsHeld w y.arena address called → ArgumentsHeld w' y'.arena address called
  arguments_out address called (in_heap k) = in_heap (kept_later l k)
  arguments_out address called (on_stack values plain) =
      on_stack (λ low i few. value i few low (values (omega (arith, low, h.from)) i few)) (λ k few. plain_later (address + k) l (plain k few))
    where
      value : {v : Value} (i : ℕ) → i < length called.arguments → stack_from y'.arena ≤ address → ValueAt w.places y.arena (address + 4 * i) v → ValueAt w'.places y'.arena (address + 4 * i) v
      value {v} i few low at = record {
        word = at.word;
        of_value = word_later l v at.word at.of_value;
        stands = h.stack.words (address + 4 * i) (omega (arith, low, h.from)) (omega arith) (plain (4 * i) (omega arith)) ∙ at.stands;
      }

  pub method_out :
      (keeps : Bool) (regs : Registers) (method : Option ℕ) (called : Option Called) → MethodHeld setting w y.arena keeps regs method called
      → MethodHeld setting w' y'.arena keeps regs method called
  method_out keeps regs None None k = tt
  method_out keeps regs None (Some c) k = k
  method_out keeps regs (Some m) None k = k
  method_out keeps regs (Some m) (Some c) k = record {
    chain = k.chain;
    arguments = k.arguments;
    chain_word = k.chain_word;
    count_word = k.count_word;
    arguments_word = k.arguments_word;
    chain_stands = k.chain_stands;
    takes = k.takes;
    held = arguments_out k.arguments c k.held;
    kept = λ keep. let there = k.kept keep in (there.0, there.1, (there.2.0, l.methods there.2.0 (there.0, c) there.2.1));
  }

  -- **an activation goes on standing**, with its registers as they were
  pub activation_out :
      {s : FormScope} {rs valid : List Standing} {env : FlatEnvironment} {around : DynamicContext} {z z' : FlatState} {regs : Registers}
      → z'.frame ≡ z.frame → CapturedKept w z.captured z'.captured → ActivationStands setting s rs valid w env around z regs y
      → ActivationStands setting s rs valid w' env around z' regs y'
  activation_out {s} {rs} {valid} {env} {around} {z} {z'} {regs} frame kept t = record {
    slot_count = t.slot_count ∙ ap length (sym frame);
    home_count = t.home_count ∙ ap length (sym frame);
    homes = λ n home e. subst (λ fs. SlotHas home (slice_get fs n)) (sym frame) (t.homes n home e);
    slots = λ n r f e g.
        let old = t.slots n r f e (ap (λ fs. slice_get fs n) (sym frame) ∙ g) in
        (old.0, old.1, slot_out l old.0 f old.2);
    exit_count = t.exit_count;
    flat_count = t.flat_count;
    exits = t.exits;
    exit_forms = λ n e f. l.exit_forms e (slice_get s.exits.own n) (t.exit_forms n e f);
    kinds = t.kinds;
    made_by = made_by_later l env.captured s.exits.captured t.made_by;
    self = self_out z.captured z'.captured (register s.code.function regs) l kept env.captured t.self;
    method = method_out s.keeps_method regs s.code.method env.method t.method;
    site = t.site;
  }
