-- New slots in registers one after another: the activation stands with them, and without them again behind their end.
use Rattle.std.proofs.Common.{◌≡◌, ◌⊎◌, inl, inr, ℕ, zero, suc, ◌+◌, ◌<◌, ◌≤◌, List, [], ◌∷◌, ◌++◌, length, take, Some, refl, sym, ap, ◌∙◌, subst, length-append, arith}
use Rattle.std.specs.Prelude.{slice_get}
use Rattle.std.proofs.lemmas.Option.{slice_get_within}
use Rattle.base.specs.Names.{slice_get-front}
use Rattle.lang_meaning.specs.Values.{Value}
use Rattle.lang_meaning.specs.State.{DynamicContext}
use Rattle.flat_language.specs.declared.place.Home.{Home}
use Rattle.flat_language.specs.declared.place.Home.TheVariants as home
use Rattle.flat_language.specs.FlatState.{FrameSlot, holds, holds_box, FlatEnvironment, FlatState, new_slots}
use Rattle.mid_code.specs.State.{Registers, register, MidState}
use Rattle.back_lowering.specs.declared.scope.Scope.{Scope}
use Rattle.back_lowering.specs.Scope.{registers_from}
use Rattle.back_lowering.specs.Scope as code
use Rattle.back_relation.specs.Setting.{Setting}
use Rattle.back_relation.specs.Worlds.{World, Standing}
use Rattle.back_relation.specs.Activation.{FormScope, with_slots, IsOwn, ScopeStands, RegistersKept, SlotHas, SlotIs, ActivationStands}
use Rattle.back_values.specs.Boxes.{SlotsIn}
use Rattle.back_values.proofs.Frames.{framed}

-- ---- lists

-- an item of two lists one behind the other
pub item_of : {X : Type 0} (xs ys : List X) (n : ℕ) (x : X) → slice_get (xs ++ ys) n ≡ Some x
    → (slice_get xs n ≡ Some x) ⊎ ((j : ℕ) × (n ≡ length xs + j) × (slice_get ys j ≡ Some x))
item_of [] ys n x e = inr (n, omega arith, e)
item_of (u ∷ xs) ys zero x e = inl e
item_of (u ∷ xs) ys (suc n) x e = by (item_of xs ys n x e)
  where
    by :
        (slice_get xs n ≡ Some x) ⊎ ((j : ℕ) × (n ≡ length xs + j) × (slice_get ys j ≡ Some x))
        → (slice_get xs n ≡ Some x) ⊎ ((j : ℕ) × (suc n ≡ suc (length xs) + j) × (slice_get ys j ≡ Some x))
    by (inl f) = inl f
    by (inr f) = let same = f.1 in inr (f.0, omega (arith, same), f.2)

pub item_behind_at : {X : Type 0} (xs ys : List X) (j n : ℕ) (x : X) → n ≡ length xs + j → slice_get ys j ≡ Some x → slice_get (xs ++ ys) n ≡ Some x
item_behind_at [] ys j n x same e = let at : j ≡ n = omega (arith, same) in subst (λ i. slice_get ys i ≡ Some x) at e
item_behind_at (u ∷ xs) ys j zero x same e = absurd (omega (arith, same))
item_behind_at (u ∷ xs) ys j (suc n) x same e = item_behind_at xs ys j n x (omega (arith, same)) e

-- the first items of a list
pub taken_get : {X : Type 0} (k n : ℕ) (xs : List X) → n < k → slice_get (take k xs) n ≡ slice_get xs n
taken_get zero n xs h = absurd (omega arith)
taken_get (suc k) n [] h = refl
taken_get (suc k) zero (x ∷ xs) h = refl
taken_get (suc k) (suc n) (x ∷ xs) h = taken_get k n xs (omega arith)

pub taken_count : {X : Type 0} (k : ℕ) (xs : List X) → k ≤ length xs → length (take k xs) ≡ k
taken_count zero xs h = refl
taken_count (suc k) [] h = absurd (omega arith)
taken_count (suc k) (x ∷ xs) h = ap (λ n. suc n) (taken_count k xs (omega arith))

pub from_count : (d n : ℕ) → length (registers_from d n) ≡ n
from_count d zero = refl
from_count d (suc n) = ap (λ i. suc i) (from_count (d + 1) n)

pub from_get : (d n j r : ℕ) → slice_get (registers_from d n) j ≡ Some r → (r ≡ d + j) × (j < n)
from_get d zero j r e = absurd (cc e)
from_get d (suc n) zero r e = let same : d ≡ r = cc e in (omega (arith, same), omega arith)
from_get d (suc n) (suc j) r e =
    let inner = from_get (d + 1) n j r e in
    let at = inner.0 in
    let few = inner.1 in
    (omega (arith, at), omega (arith, few))

-- ---- new slots

pub slots_count : (hs : List Home) (vs : List Value) (n : ℕ) → length vs ≡ length hs → length (new_slots hs vs n) ≡ length hs
slots_count [] vs n h = refl
slots_count (x ∷ hs) [] n h = absurd (omega (arith, h))
slots_count (home.Slot ∷ hs) (v ∷ vs) n h = ap (λ i. suc i) (slots_count hs vs n (omega (arith, h)))
slots_count (home.Boxed ∷ hs) (v ∷ vs) n h = ap (λ i. suc i) (slots_count hs vs (n + 1) (omega (arith, h)))

slots_have : (hs : List Home) (vs : List Value) (n j : ℕ) (h : Home) → length vs ≡ length hs → slice_get hs j ≡ Some h → SlotHas h (slice_get (new_slots hs vs n) j)
slots_have [] vs n j h same e = absurd (cc e)
slots_have (x ∷ hs) [] n j h same e = absurd (omega (arith, same))
slots_have (home.Slot ∷ hs) (v ∷ vs) n zero h same e = let is : home.Slot ≡ h = cc e in subst (λ k. SlotHas k (Some (holds v))) is (v, refl)
slots_have (home.Boxed ∷ hs) (v ∷ vs) n zero h same e = let is : home.Boxed ≡ h = cc e in subst (λ k. SlotHas k (Some (holds_box n))) is (n, refl)
slots_have (home.Slot ∷ hs) (v ∷ vs) n (suc j) h same e = slots_have hs vs n j h (omega (arith, same)) e
slots_have (home.Boxed ∷ hs) (v ∷ vs) n (suc j) h same e = slots_have hs vs (n + 1) j h (omega (arith, same)) e

slot_in :
    (w : World) (d n j r : ℕ) (fs : List FrameSlot) (f : FrameSlot) (regs : Registers) → SlotsIn w d fs regs → slice_get (registers_from d n) j ≡ Some r
    → slice_get fs j ≡ Some f → (word : ℕ) × (register r regs ≡ Some word) × SlotIs w word f
slot_in w d n j r [] f regs h e g = absurd (cc g)
slot_in w d zero j r (x ∷ fs) f regs h e g = absurd (cc e)
slot_in w d (suc n) zero r (x ∷ fs) f regs h e g =
    let same : d ≡ r = cc e in
    let is : x ≡ f = cc g in
    (h.0.0, subst (λ i. register i regs ≡ Some h.0.0) same h.0.1, subst (SlotIs w h.0.0) is h.0.2)
slot_in w d (suc n) (suc j) r (x ∷ fs) f regs h e g = slot_in w (d + 1) n j r fs f regs h.1 e g

-- a slot has something only where there is a frame for it
has_within : (h : Home) (fs : List FrameSlot) (n : ℕ) → SlotHas h (slice_get fs n) → n < length fs
has_within home.Slot fs n h = slice_get_within fs n (holds h.0) h.1
has_within home.Boxed fs n h = slice_get_within fs n (holds_box h.0) h.1

has_front : (h : Home) (fs gs : List FrameSlot) (n : ℕ) → SlotHas h (slice_get fs n) → SlotHas h (slice_get (fs ++ gs) n)
has_front home.Slot fs gs n h = (h.0, slice_get-front fs gs n (holds h.0) h.1)
has_front home.Boxed fs gs n h = (h.0, slice_get-front fs gs n (holds_box h.0) h.1)

has_behind : (h : Home) (fs gs : List FrameSlot) (j n : ℕ) → n ≡ length fs + j → SlotHas h (slice_get gs j) → SlotHas h (slice_get (fs ++ gs) n)
has_behind home.Slot fs gs j n same h = (h.0, item_behind_at fs gs j n (holds h.0) same h.1)
has_behind home.Boxed fs gs j n same h = (h.0, item_behind_at fs gs j n (holds_box h.0) same h.1)

module _ (setting : Setting) (d : ℕ) {s : FormScope} {rs valid : List Standing} {w : World} {env : FlatEnvironment} {around : DynamicContext} {z : FlatState} {regs : Registers} {y : MidState} where
  -- **with new slots**
  pub activation_extended :
      (hs : List Home) (vs : List Value) (n : ℕ) → length vs ≡ length hs → length s.flat.homes ≡ length s.code.slots → SlotsIn w d (new_slots hs vs n) regs
      → ActivationStands setting s rs valid w env around z regs y
      → ActivationStands setting (with_slots hs (registers_from d (length hs)) s) rs valid w env around (framed (z.frame ++ new_slots hs vs n) z) regs y
  activation_extended hs vs n same homes here t = record {
    slot_count =
        length-append s.code.slots (registers_from d (length hs)) ∙ ap (λ i. length s.code.slots + i) (from_count d (length hs) ∙ sym (slots_count hs vs n same))
        ∙ ap (λ i. i + length (new_slots hs vs n)) t.slot_count ∙ sym (length-append z.frame (new_slots hs vs n));
    home_count =
        length-append s.flat.homes hs ∙ ap (λ i. i + length hs) (homes ∙ t.slot_count) ∙ ap (λ i. length z.frame + i) (sym (slots_count hs vs n same))
        ∙ sym (length-append z.frame (new_slots hs vs n));
    homes = λ i h e. by_home i h (item_of s.flat.homes hs i h e);
    slots = λ i r f e g. by_slot i r f (item_of s.code.slots (registers_from d (length hs)) i r e) (item_of z.frame (new_slots hs vs n) i f g);
    exit_count = t.exit_count;
    flat_count = t.flat_count;
    exits = t.exits;
    exit_forms = t.exit_forms;
    kinds = t.kinds;
    made_by = t.made_by;
    self = t.self;
    method = t.method;
    site = t.site;
  }
    where
      by_home :
          (i : ℕ) (h : Home) → (slice_get s.flat.homes i ≡ Some h) ⊎ ((j : ℕ) × (i ≡ length s.flat.homes + j) × (slice_get hs j ≡ Some h))
          → SlotHas h (slice_get (z.frame ++ new_slots hs vs n) i)
      by_home i h (inl e) = has_front h z.frame (new_slots hs vs n) i (t.homes i h e)
      by_home i h (inr e) =
          let at = e.1 in
          has_behind h z.frame (new_slots hs vs n) e.0 i (omega (arith, at, homes, t.slot_count)) (slots_have hs vs n e.0 h same e.2)

      by_slot :
          (i r : ℕ) (f : FrameSlot)
          → (slice_get s.code.slots i ≡ Some r) ⊎ ((j : ℕ) × (i ≡ length s.code.slots + j) × (slice_get (registers_from d (length hs)) j ≡ Some r))
          → (slice_get z.frame i ≡ Some f) ⊎ ((j : ℕ) × (i ≡ length z.frame + j) × (slice_get (new_slots hs vs n) j ≡ Some f))
          → (word : ℕ) × (register r regs ≡ Some word) × SlotIs w word f
      by_slot i r f (inl e) (inl g) = t.slots i r f e g
      by_slot i r f (inl e) (inr g) =
          let few = slice_get_within s.code.slots i r e in
          let at = g.1 in
          absurd (omega (arith, few, at, t.slot_count))
      by_slot i r f (inr e) (inl g) =
          let few = slice_get_within z.frame i f g in
          let at = e.1 in
          absurd (omega (arith, few, at, t.slot_count))
      by_slot i r f (inr e) (inr g) =
          let at = e.1 in
          let at' = g.1 in
          let one : g.0 ≡ e.0 = omega (arith, at, at', t.slot_count) in
          slot_in w d (length hs) e.0 r (new_slots hs vs n) f regs here e.2 (subst (λ j. slice_get (new_slots hs vs n) j ≡ Some f) one g.2)

  -- **and without them**, by what stood before
  pub activation_dropped :
      {w0 : World} {z0 : FlatState} {regs0 : Registers} {y0 : MidState} (hs : List Home) (new : List ℕ) (k : ℕ) → k ≡ length z0.frame
      → ActivationStands setting s rs valid w0 env around z0 regs0 y0 → ActivationStands setting (with_slots hs new s) rs valid w env around z regs y
      → ActivationStands setting s rs valid w env around (framed (take k z.frame) z) regs y
  activation_dropped {w0} {z0} {regs0} {y0} hs new k count old t =
      let long : k ≤ length z.frame = omega (arith, t.slot_count, length-append s.code.slots new, old.slot_count, count) in
      record {
        slot_count = old.slot_count ∙ sym count ∙ sym (taken_count k z.frame long);
        home_count = old.home_count ∙ sym count ∙ sym (taken_count k z.frame long);
        homes = λ i h e.
            let few : i < k = omega (arith, count, has_within h z0.frame i (old.homes i h e)) in
            subst (λ o. SlotHas h o) (sym (taken_get k i z.frame few)) (t.homes i h (slice_get-front s.flat.homes hs i h e));
        slots = λ i r f e g.
            let few : i < k = omega (arith, count, old.slot_count, slice_get_within s.code.slots i r e) in
            t.slots i r f (slice_get-front s.code.slots new i r e) (sym (taken_get k i z.frame few) ∙ g);
        exit_count = t.exit_count;
        flat_count = t.flat_count;
        exits = t.exits;
        exit_forms = t.exit_forms;
        kinds = t.kinds;
        made_by = t.made_by;
        self = t.self;
        method = t.method;
        site = t.site;
      }

-- ---- scopes

own_extended : (s : Scope) (d n r : ℕ) → IsOwn s d r → IsOwn (code.with_slots (registers_from d n) s) (d + n) r
own_extended s d n r own = (omega (arith, own.0), λ i e. by (item_of s.slots (registers_from d n) i r e))
  where
    by : {i : ℕ} → (slice_get s.slots i ≡ Some r) ⊎ ((j : ℕ) × (i ≡ length s.slots + j) × (slice_get (registers_from d n) j ≡ Some r)) → ⊥
    by {i} (inl e) = own.1 i e
    by {i} (inr e) = let at = (from_get d n e.0 r e.2).0 in omega (arith, at, own.0)

pub scope_extended : (s : Scope) (d n : ℕ) → ScopeStands s d → ScopeStands (code.with_slots (registers_from d n) s) (d + n)
scope_extended s d n t = record {
  slots_below = λ i r e. below i r (item_of s.slots (registers_from d n) i r e);
  slots_apart = λ i j r e f. apart i j r (item_of s.slots (registers_from d n) i r e) (item_of s.slots (registers_from d n) j r f);
  exits = λ i x e. let own = t.exits i x e in (own_extended s d n x.serial own.0, own_extended s d n x.record_register own.1);
  self = own_extended s d n s.function t.self;
  method = λ m e. let own = t.method m e in (own_extended s d n m own.0, own_extended s d n (m + 1) own.1, own_extended s d n (m + 2) own.2);
  site = λ r e. own_extended s d n r (t.site r e);
}
  where
    below : (i r : ℕ) → (slice_get s.slots i ≡ Some r) ⊎ ((j : ℕ) × (i ≡ length s.slots + j) × (slice_get (registers_from d n) j ≡ Some r)) → r < d + n
    below i r (inl e) = let low = t.slots_below i r e in omega (arith, low)
    below i r (inr e) =
        let at = from_get d n e.0 r e.2 in
        let here = at.0 in
        let few = at.1 in
        omega (arith, here, few)

    apart :
        (i j r : ℕ) → (slice_get s.slots i ≡ Some r) ⊎ ((k : ℕ) × (i ≡ length s.slots + k) × (slice_get (registers_from d n) k ≡ Some r))
        → (slice_get s.slots j ≡ Some r) ⊎ ((k : ℕ) × (j ≡ length s.slots + k) × (slice_get (registers_from d n) k ≡ Some r)) → i ≡ j
    apart i j r (inl e) (inl f) = t.slots_apart i j r e f
    apart i j r (inl e) (inr f) =
        let low = t.slots_below i r e in
        let at = (from_get d n f.0 r f.2).0 in
        absurd (omega (arith, low, at))
    apart i j r (inr e) (inl f) =
        let low = t.slots_below j r f in
        let at = (from_get d n e.0 r e.2).0 in
        absurd (omega (arith, low, at))
    apart i j r (inr e) (inr f) =
        let at = (from_get d n e.0 r e.2).0 in
        let at' = (from_get d n f.0 r f.2).0 in
        let here = e.1 in
        let there = f.1 in
        omega (arith, at, at', here, there)

pub registers_dropped : (s : Scope) (d n : ℕ) (regs regs' : Registers) → RegistersKept (code.with_slots (registers_from d n) s) (d + n) regs regs' → RegistersKept s d regs regs'
registers_dropped s d n regs regs' k = record {
  count = k.count;
  same = λ i few free. k.same i (omega (arith, few)) (λ j e. (own_extended s d n i (few, free)).1 j e);
}
