-- What the registers of an activation hold goes on standing: in a later world, where the registers that code may not use are as they were.
use Rattle.std.proofs.Common.{◌≡◌, ℕ, ◌+◌, ◌*◌, ◌<◌, ◌≤◌, Bool, List, [], ◌∷◌, length, Option, Some, None, refl, sym, ap, ◌∙◌, subst, arith}
use Rattle.std.specs.Prelude.{slice_get}
use Rattle.base.specs.declared.place.Place.{Place}
use Rattle.lang_meaning.specs.declared.scope.ExitForm.{ExitForm}
use Rattle.lang_meaning.specs.Values.{Value}
use Rattle.lang_meaning.specs.Objects.{Called}
use Rattle.lang_meaning.specs.State.{DynamicContext}
use Rattle.flat_language.specs.FlatState.{FrameSlot, holds, holds_box, Captured, of_value, of_box, of_exit, of_method, FlatEnvironment, FlatState, under}
use Rattle.mid_code.specs.Arena.{stack_from}
use Rattle.mid_code.specs.State.{Registers, register, MidState}
use Rattle.mid_arena.specs.Places.{of_object}
use Rattle.mid_arena.specs.Standing.{ValueAt}
use Rattle.back_lowering.specs.declared.scope.SitePlace.{SitePlace}
use Rattle.back_lowering.specs.declared.scope.SitePlace.TheVariants.{Known, Held}
use Rattle.back_relation.specs.Setting.{Setting}
use Rattle.back_relation.specs.Worlds.{World, Later, Standing}
use Rattle.back_relation.specs.Things.{MadeBy, AreMadeBy}
use Rattle.back_relation.specs.Activation.{FormScope, ScopeStands, SlotHas, SlotIs, ExitReached, SelfHeld, ArgumentsKept, ArgumentsHeld, in_heap, on_stack, CallHeld, MethodHeld, SiteHeld, ActivationStands}
use Rattle.back_relation.proofs.Worlds.{word_later, plain_later, Same, stack_same}

-- registers below the first one that code may use are as they were
abbrev pub SameBelow : (d : ℕ) → Registers → Registers → Type 0
SameBelow d regs regs' = (r : ℕ) → r < d → register r regs' ≡ register r regs

slot_later : {w w' : World} → Later w w' → (word : ℕ) (f : FrameSlot) → SlotIs w word f → SlotIs w' word f
slot_later l word (holds v) h = word_later l v word h
slot_later l word (holds_box i) h = l.boxes i word h

pub made_by_later : {w w' : World} → Later w w' → (cs : List Captured) (forms : List (Option ExitForm)) → AreMadeBy w cs forms → AreMadeBy w' cs forms
made_by_later l [] [] h = tt
made_by_later l [] (f ∷ fs) h = h
made_by_later l (c ∷ cs) [] h = h
made_by_later {w} {w'} l (c ∷ cs) (f ∷ fs) h = (one c h.0, made_by_later l cs fs h.1)
  where
    one : (c : Captured) → MadeBy w c f → MadeBy w' c f
    one (of_exit (Some e)) k = l.exit_forms e f k
    one (of_exit None) k = tt
    one (of_value v) k = tt
    one (of_box o) k = tt
    one (of_method o) k = tt

self_later :
    {w w' : World} (made made' : List (ℕ × List Captured)) (word word' : Option ℕ) → Later w w'
    → ((n : ℕ) (cs : List Captured) → under n made ≡ Some cs → under n made' ≡ Some cs) → word' ≡ word
    → (cs : List Captured) → SelfHeld w made word cs → SelfHeld w' made' word' cs
self_later made made' word word' l kept same [] h = tt
self_later made made' word word' l kept same (c ∷ cs) h = (
  h.0,
  same ∙ h.1,
  record {
    number = h.2.number;
    captured = kept h.2.number (c ∷ cs) h.2.captured;
    spot = h.2.spot;
    there = l.spots (of_object h.2.number) h.2.spot h.2.there;
    here = h.2.here;
  },
)

-- what was kept is kept
pub kept_later : {w w' : World} → Later w w' → {address : ℕ} {vs : List Value} → ArgumentsKept w address vs → ArgumentsKept w' address vs
kept_later l k = record {
  number = k.number;
  start = k.start;
  call = k.call;
  is_kept = l.methods k.number (k.start, k.call) k.is_kept;
  before = k.before;
  arguments = k.arguments;
  here = k.here;
}

module _ (setting : Setting) {w w' : World} {y y' : MidState} (l : Later w w') (h : Same w w' y y') where
  pub arguments_later : (address : ℕ) (called : Called) → ArgumentsHeld w y.arena address called → ArgumentsHeld w' y'.arena address called
  arguments_later address called (in_heap k) = in_heap (kept_later l k)
  arguments_later address called (on_stack values plain) =
      on_stack (λ low i few. value i few low (values (omega (arith, low, stack_same h)) i few)) (λ k few. plain_later (address + k) l (plain k few))
    where
      value : {v : Value} (i : ℕ) → i < length called.arguments → stack_from y'.arena ≤ address → ValueAt w.places y.arena (address + 4 * i) v → ValueAt w'.places y'.arena (address + 4 * i) v
      value {v} i few low at = record {
        word = at.word;
        of_value = word_later l v at.word at.of_value;
        stands = h.stack.words (address + 4 * i) (omega (arith, low, stack_same h)) (omega arith) (plain (4 * i) (omega arith)) ∙ at.stands;
      }

  call_later :
      (keeps : Bool) (regs regs' : Registers) (m : ℕ) (called : Called) → register m regs' ≡ register m regs → register (m + 1) regs' ≡ register (m + 1) regs
      → register (m + 2) regs' ≡ register (m + 2) regs → CallHeld setting w y.arena keeps regs m called → CallHeld setting w' y'.arena keeps regs' m called
  call_later keeps regs regs' m called e f g k = record {
    chain = k.chain;
    arguments = k.arguments;
    chain_word = e ∙ k.chain_word;
    count_word = f ∙ k.count_word;
    arguments_word = g ∙ k.arguments_word;
    chain_stands = k.chain_stands;
    takes = k.takes;
    held = arguments_later k.arguments called k.held;
    kept = λ keep. let there = k.kept keep in (there.0, there.1, (there.2.0, l.methods there.2.0 (there.0, called) there.2.1));
  }

  pub method_later :
      (keeps : Bool) (regs regs' : Registers) (method : Option ℕ) (called : Option Called)
      → ((m : ℕ) → method ≡ Some m → (register m regs' ≡ register m regs) × (register (m + 1) regs' ≡ register (m + 1) regs) × (register (m + 2) regs' ≡ register (m + 2) regs))
      → MethodHeld setting w y.arena keeps regs method called → MethodHeld setting w' y'.arena keeps regs' method called
  method_later keeps regs regs' None None same k = tt
  method_later keeps regs regs' None (Some c) same k = k
  method_later keeps regs regs' (Some m) None same k =
      let e = same m refl in (k.0, k.1, e.0 ∙ k.2, e.1 ∙ k.3, e.2 ∙ k.4)
  method_later keeps regs regs' (Some m) (Some c) same k = let e = same m refl in call_later keeps regs regs' m c e.0 e.1 e.2 k

site_later : (setting : Setting) (regs regs' : Registers) (p : SitePlace) (place : Place) → ((r : ℕ) → p ≡ Held r → register r regs' ≡ register r regs)
    → SiteHeld setting regs p place → SiteHeld setting regs' p place
site_later setting regs regs' (Known n) place same k = k
site_later setting regs regs' (Held r) place same k = (k.0, same r refl ∙ k.1, k.2)

-- **an activation goes on standing**
pub activation_later :
    (setting : Setting) {s : FormScope} {d : ℕ} {rs valid : List Standing} {w w' : World} {env : FlatEnvironment} {around : DynamicContext} {z z' : FlatState} {regs regs' : Registers} {y y' : MidState}
    → Later w w' → Same w w' y y' → z'.frame ≡ z.frame → ((n : ℕ) (cs : List Captured) → under n z.captured ≡ Some cs → under n z'.captured ≡ Some cs)
    → SameBelow d regs regs' → ScopeStands s.code d → ActivationStands setting s rs valid w env around z regs y → ActivationStands setting s rs valid w' env around z' regs' y'
activation_later setting {s} {d} {rs} {valid} {w} {w'} {env} {around} {z} {z'} {regs} {regs'} {y} {y'} l h frame kept same scope t = record {
  slot_count = t.slot_count ∙ ap length (sym frame);
  home_count = t.home_count ∙ ap length (sym frame);
  homes = λ n home e. subst (λ fs. SlotHas home (slice_get fs n)) (sym frame) (t.homes n home e);
  slots = λ n r f e g.
      let old = t.slots n r f e (ap (λ fs. slice_get fs n) (sym frame) ∙ g) in
      (old.0, same r (scope.slots_below n r e) ∙ old.1, slot_later l old.0 f old.2);
  exit_count = t.exit_count;
  flat_count = t.flat_count;
  exits = λ n x e.
      let old = t.exits n x e in
      let own = scope.exits n x e in (
        old.0,
        old.1,
        same x.serial own.0.0 ∙ old.2,
        subst (λ o. ExitReached x.reach rs valid around.exits old.0 o) (sym (same x.record_register own.1.0)) old.3,
      );
  exit_forms = λ n e f. l.exit_forms e (slice_get s.exits.own n) (t.exit_forms n e f);
  kinds = t.kinds;
  made_by = made_by_later l env.captured s.exits.captured t.made_by;
  self =
      self_later z.captured z'.captured (register s.code.function regs) (register s.code.function regs') l kept (same s.code.function scope.self.0) env.captured t.self;
  method =
      method_later setting l h s.keeps_method regs regs' s.code.method env.method
      (λ m e. let own = scope.method m e in (same m own.0.0, same (m + 1) own.1.0, same (m + 2) own.2.0)) t.method;
  site = site_later setting regs regs' s.code.site around.site (λ r e. same r (scope.site r e).0) t.site;
}
