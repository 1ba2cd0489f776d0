-- A slot is set: its register has the new word.
use Rattle.std.proofs.Common.{◌≡◌, ℕ, ◌+◌, ◌<◌, Bool, true, false, List, length, Some, refl, sym, ap, ◌∙◌, subst, arith}
use Rattle.std.specs.Prelude.{slice_get, slice_set, ◌==◌}
use Rattle.std.proofs.lemmas.Bool.Decides.{nat_tests}
use Rattle.std.proofs.lemmas.Option.{slice_get_within}
use Rattle.std.proofs.Math.ListN.{length-set}
use Rattle.base.specs.declared.place.Place.{Place}
use Rattle.lang_meaning.specs.State.{DynamicContext}
use Rattle.lang_meaning.specs.Values.{Value}
use Rattle.flat_language.specs.declared.place.Home.{Home}
use Rattle.flat_language.specs.declared.place.Home.TheVariants as home
use Rattle.flat_language.specs.FlatState.{FrameSlot, holds, FlatEnvironment, FlatState}
use Rattle.mid_code.specs.State.{Registers, register, MidState}
use Rattle.mid_arena.specs.Places.{word_of}
use Rattle.mid_arena.proofs.Lists.{set_here, set_elsewhere}
use Rattle.mid_arena.proofs.Registers.{register_here, register_beside}
use Rattle.back_lowering.specs.declared.scope.SitePlace.{SitePlace}
use Rattle.back_lowering.specs.declared.scope.SitePlace.TheVariants.{Known, Held}
use Rattle.back_relation.specs.Setting.{Setting}
use Rattle.back_relation.specs.Worlds.{World, Standing}
use Rattle.back_relation.specs.Activation.{FormScope, NoSlot, ScopeStands, RegistersKept, SlotHas, SlotIs, ExitReached, SelfHeld, SiteHeld, ActivationStands}
use Rattle.back_relation.proofs.Activations.{method_later}
use Rattle.back_relation.proofs.Straight.{same_here}
use Rattle.back_relation.proofs.Worlds.{later_same}
use Rattle.back_values.proofs.Frames.{framed}

module _ (setting : Setting) {s : FormScope} {d : ℕ} {rs valid : List Standing} {w : World} {env : FlatEnvironment} {around : DynamicContext} {z : FlatState} {regs : Registers} {y : MidState}
    (i r word : ℕ) (v : Value) (scope : ScopeStands s.code d) (at : slice_get s.code.slots i ≡ Some r) (stands : slice_get s.flat.homes i ≡ Some home.Slot)
    (is : word_of w.places v ≡ Some word) (there : r < length regs) (t : ActivationStands setting s rs valid w env around z regs y) where
  abbrev fs : List FrameSlot
  fs = slice_set z.frame i (holds v)

  abbrev after : Registers
  after = slice_set regs r (Some word)

  -- a register that is no slot's is as it was
  pub other_same : (q : ℕ) → NoSlot s.code q → register q after ≡ register q regs
  other_same q free = register_beside regs r q (Some word) (λ e. free i (at ∙ ap (λ n. Some n) e))

  within : i < length z.frame
  within = omega (arith, t.slot_count, slice_get_within s.code.slots i r at)

  home_of : (n : ℕ) (h : Home) → slice_get s.flat.homes n ≡ Some h → SlotHas h (slice_get fs n)
  home_of n h e = by (n == i) refl
    where
      by : (b : Bool) → (n == i) ≡ b → SlotHas h (slice_get fs n)
      by true g =
          let same : n ≡ i = grind (arith, nat_tests) in
          let is_slot : home.Slot ≡ h = cc (sym stands ∙ ap (slice_get s.flat.homes) (sym same) ∙ e) in
          subst (λ k. SlotHas k (slice_get fs n)) is_slot (v, ap (slice_get fs) same ∙ set_here z.frame i (holds v) within)
      by false g = subst (λ o. SlotHas h o) (sym (set_elsewhere z.frame i n (holds v) (λ same. absurd (grind (arith, nat_tests))))) (t.homes n h e)

  slot_of : (n q : ℕ) (f : FrameSlot) → slice_get s.code.slots n ≡ Some q → slice_get fs n ≡ Some f → (x : ℕ) × (register q after ≡ Some x) × SlotIs w x f
  slot_of n q f e g = by (n == i) refl
    where
      by : (b : Bool) → (n == i) ≡ b → (x : ℕ) × (register q after ≡ Some x) × SlotIs w x f
      by true k =
          let same : n ≡ i = grind (arith, nat_tests) in
          let here : r ≡ q = cc (sym at ∙ ap (slice_get s.code.slots) (sym same) ∙ e) in
          let new : holds v ≡ f = cc (sym (set_here z.frame i (holds v) within) ∙ ap (slice_get fs) (sym same) ∙ g) in
          (word, subst (λ p. register p after ≡ Some word) here (register_here regs r word there), subst (SlotIs w word) new is)
      by false k =
          let other : i ≡ n → ⊥ = λ same. absurd (grind (arith, nat_tests)) in
          let old = t.slots n q f e (sym (set_elsewhere z.frame i n (holds v) other) ∙ g) in
          (old.0, register_beside regs r q (Some word) (λ same. other (scope.slots_apart i n q (at ∙ ap (λ p. Some p) same) e)) ∙ old.1, old.2)

  site_of : (p : SitePlace) (place : Place) → ((q : ℕ) → p ≡ Held q → register q after ≡ register q regs) → SiteHeld setting regs p place → SiteHeld setting after p place
  site_of (Known n) place same k = k
  site_of (Held q) place same k = (k.0, same q refl ∙ k.1, k.2)

  pub activation_set : ActivationStands setting s rs valid w env around (framed fs z) after y
  activation_set = record {
    slot_count = t.slot_count ∙ sym (length-set z.frame i (holds v));
    home_count = t.home_count ∙ sym (length-set z.frame i (holds v));
    homes = home_of;
    slots = slot_of;
    exit_count = t.exit_count;
    flat_count = t.flat_count;
    exits = λ n x e.
        let old = t.exits n x e in
        let own = scope.exits n x e in (
          old.0,
          old.1,
          other_same x.serial own.0.1 ∙ old.2,
          subst (λ o. ExitReached x.reach rs valid around.exits old.0 o) (sym (other_same x.record_register own.1.1)) old.3,
        );
    exit_forms = t.exit_forms;
    kinds = t.kinds;
    made_by = t.made_by;
    self = subst (λ o. SelfHeld w z.captured o env.captured) (sym (other_same s.code.function scope.self.1)) t.self;
    method =
        method_later setting (later_same w) (same_here w {y = y} {y' = y} refl) s.keeps_method regs after s.code.method env.method
        (λ m e. let own = scope.method m e in (other_same m own.0.1, other_same (m + 1) own.1.1, other_same (m + 2) own.2.1)) t.method;
    site = site_of s.code.site around.site (λ q e. other_same q (scope.site q e).1) t.site;
  }

  pub registers_of_set : RegistersKept s.code d regs after
  registers_of_set = record {
    count = length-set regs r (Some word);
    same = λ q few free. set_elsewhere regs r q (Some word) (λ e. free i (at ∙ ap (λ n. Some n) e));
  }
