-- New variables, with their homes and values: what is known of them, and their slots and boxes.
use Rattle.std.proofs.Common.{◌≡◌, ℕ, zero, suc, ◌+◌, ◌<◌, Bool, true, false, List, [], ◌∷◌, ◌++◌, refl, sym, ap, subst, ◌∙◌, Some, length, arith}
use Rattle.std.proofs.lemmas.Option.{slice_get_within}
use Rattle.std.specs.List.{range_with_len}
use Rattle.std.specs.Prelude.{slice_get}
use Rattle.lang_meaning.specs.Values.{Value}
use Rattle.flat_language.specs.declared.place.Home.{Home}
use Rattle.flat_language.specs.declared.place.Home.TheVariants as home
use Rattle.flat_language.specs.FlatState.{FrameSlot, new_slots, new_boxes}
use Rattle.flat_language.proofs.Alike.{VariableKind, constant, boxed, slot, World, slot_for, IsInSlot, SlotAlike, VariablesAlike}
use Rattle.flat_language.proofs.Lists.{some_same, behind, behind_all, in_range, length-range, IsThere, is_there}
use Rattle.flat_language.proofs.Frames.{NewValue, NewVariable, more_variables, more_slots}

-- what is known of a new variable with a home and a value, which something sets or nothing does, where the next slot and the next box
-- have these numbers
abbrev pub kind_at : Home → (is_set : Bool) → Value → (n j : ℕ) → VariableKind
kind_at home.Boxed s v n j = boxed j
kind_at home.Slot true v n j = slot n
kind_at home.Slot false v n j = constant v

-- the number of the next box behind it
abbrev pub after_it : Home → ℕ → ℕ
after_it home.Boxed j = j + 1
after_it home.Slot j = j

-- the same of new variables
abbrev pub kinds_at : List Home → (are_set : List Bool) → List Value → (n j : ℕ) → List VariableKind
kinds_at [] ss vs n j = []
kinds_at (h ∷ hs) [] vs n j = []
kinds_at (h ∷ hs) (s ∷ ss) [] n j = []
kinds_at (h ∷ hs) (s ∷ ss) (v ∷ vs) n j = kind_at h s v n j ∷ kinds_at hs ss vs (n + 1) (after_it h j)

-- which of them have the new boxes, where the first one has that number
abbrev pub holders_at : List Home → List Value → ℕ → List ℕ
holders_at [] vs i = []
holders_at (h ∷ hs) [] i = []
holders_at (home.Slot ∷ hs) (v ∷ vs) i = holders_at hs vs (i + 1)
holders_at (home.Boxed ∷ hs) (v ∷ vs) i = i ∷ holders_at hs vs (i + 1)

-- as many as there are values
pub length-kinds : (hs : List Home) (ss : List Bool) (vs : List Value) (n j : ℕ) → length hs ≡ length vs → length ss ≡ length vs → length (kinds_at hs ss vs n j) ≡ length vs
length-kinds [] ss vs n j e f = e
length-kinds (h ∷ hs) [] vs n j e f = f
length-kinds (h ∷ hs) (s ∷ ss) [] n j e f = refl
length-kinds (h ∷ hs) (s ∷ ss) (v ∷ vs) n j e f =
    ap suc (length-kinds hs ss vs (n + 1) (after_it h j) (omega (arith, e)) (omega (arith, f)))

-- as many as there are new boxes
pub length-holders : (hs : List Home) (vs : List Value) (i : ℕ) → length (holders_at hs vs i) ≡ length (new_boxes hs vs)
length-holders [] vs i = refl
length-holders (h ∷ hs) [] i = refl
length-holders (home.Slot ∷ hs) (v ∷ vs) i = length-holders hs vs (i + 1)
length-holders (home.Boxed ∷ hs) (v ∷ vs) i = ap suc (length-holders hs vs (i + 1))

-- as many slots as values
pub length-slots : (hs : List Home) (vs : List Value) (j : ℕ) → length hs ≡ length vs → length (new_slots hs vs j) ≡ length vs
length-slots [] vs j e = e
length-slots (h ∷ hs) [] j e = refl
length-slots (home.Slot ∷ hs) (v ∷ vs) j e = ap suc (length-slots hs vs j (omega (arith, e)))
length-slots (home.Boxed ∷ hs) (v ∷ vs) j e = ap suc (length-slots hs vs (j + 1) (omega (arith, e)))

-- a new variable and its slot
pub record NewSlot (hs : List Home) (vs : List Value) (n i j m : ℕ) (k : VariableKind) : Type 0 where
  pub variable : NewVariable (holders_at hs vs i) vs (new_boxes hs vs) i j m k
  pub here : slice_get (new_slots hs vs j) m ≡ Some (slot_for k variable.now)
  pub in_slot : IsInSlot (n + m) k

-- a value with one more variable in front, which has no box
slot_before : (holders : List ℕ) (boxes : List Value) (i j m : ℕ) (k : VariableKind) (v : Value) → NewValue holders boxes (i + 1) j m k v → NewValue holders boxes i j (suc m) k v
slot_before holders boxes i j m (constant u) v a = a
slot_before holders boxes i j m (slot l) v a = tt
slot_before holders boxes i j m (boxed l) v a =
    (a.0, (a.1.0, a.1.1 ∙ (let e : (i + 1) + m ≡ i + suc m = omega arith in ap Some e), a.1.2))

-- or has one
box_before : (holders : List ℕ) (boxes : List Value) (c : Value) (i j m : ℕ) (k : VariableKind) (v : Value) → NewValue holders boxes (i + 1) (j + 1) m k v
    → NewValue (i ∷ holders) (c ∷ boxes) i j (suc m) k v
box_before holders boxes c i j m (constant u) v a = a
box_before holders boxes c i j m (slot l) v a = tt
box_before holders boxes c i j m (boxed l) v a =
    (suc a.0, (a.1.0 ∙ (let e : (j + 1) + a.0 ≡ j + suc a.0 = omega arith in e), a.1.1 ∙ (let e : (i + 1) + m ≡ i + suc m = omega arith in ap Some e), a.1.2))

-- its slot with one more in front
in_slot_before : (n m : ℕ) (k : VariableKind) → IsInSlot ((n + 1) + m) k → IsInSlot (n + suc m) k
in_slot_before n m (constant u) a = a
in_slot_before n m (boxed l) a = a
in_slot_before n m (slot l) a = a ∙ (let e : (n + 1) + m ≡ n + suc m = omega arith in e)

-- each new variable has its slot
pub new_slot : (hs : List Home) (ss : List Bool) (vs : List Value) (n i j m : ℕ) (k : VariableKind) → slice_get (kinds_at hs ss vs n j) m ≡ Some k → NewSlot hs vs n i j m k
new_slot [] ss vs n i j m k h = absurd (cc h)
new_slot (g ∷ hs) [] vs n i j m k h = absurd (cc h)
new_slot (g ∷ hs) (s ∷ ss) [] n i j m k h = absurd (cc h)
new_slot (home.Slot ∷ hs) (true ∷ ss) (v ∷ vs) n i j zero k h =
    subst (λ l. NewSlot (home.Slot ∷ hs) (v ∷ vs) n i j zero l) (some_same h)
    (record { variable = record { now = v; there = refl; alike = tt }; here = refl; in_slot = omega arith })
new_slot (home.Slot ∷ hs) (false ∷ ss) (v ∷ vs) n i j zero k h =
    subst (λ l. NewSlot (home.Slot ∷ hs) (v ∷ vs) n i j zero l) (some_same h)
    (record { variable = record { now = v; there = refl; alike = refl }; here = refl; in_slot = tt })
new_slot (home.Boxed ∷ hs) (s ∷ ss) (v ∷ vs) n i j zero k h =
    subst (λ l. NewSlot (home.Boxed ∷ hs) (v ∷ vs) n i j zero l) (some_same h)
    (record {
      variable = record { now = v; there = refl; alike = (0, ((let e : j ≡ j + 0 = omega arith in e), (let e : i ≡ i + 0 = omega arith in ap Some e), refl)) };
      here = refl;
      in_slot = tt;
    })
new_slot (home.Slot ∷ hs) (s ∷ ss) (v ∷ vs) n i j (suc m) k h =
    let rest : NewSlot hs vs (n + 1) (i + 1) j m k = new_slot hs ss vs (n + 1) (i + 1) j m k h in record {
      variable = record {
        now = rest.variable.now;
        there = rest.variable.there;
        alike = slot_before (holders_at hs vs (i + 1)) (new_boxes hs vs) i j m k rest.variable.now rest.variable.alike;
      };
      here = rest.here;
      in_slot = in_slot_before n m k rest.in_slot;
    }
new_slot (home.Boxed ∷ hs) (s ∷ ss) (v ∷ vs) n i j (suc m) k h =
    let rest : NewSlot hs vs (n + 1) (i + 1) (j + 1) m k = new_slot hs ss vs (n + 1) (i + 1) (j + 1) m k h in record {
      variable = record {
        now = rest.variable.now;
        there = rest.variable.there;
        alike = box_before (holders_at hs vs (i + 1)) (new_boxes hs vs) v i j m k rest.variable.now rest.variable.alike;
      };
      here = rest.here;
      in_slot = in_slot_before n m k rest.in_slot;
    }

-- a world with new variables in new slots
abbrev pub with_new_slots : World → List Home → List Bool → List Value → (i j : ℕ) → World
with_new_slots w hs ss vs i j = record {
  kinds = w.kinds ++ kinds_at hs ss vs (length w.own) j;
  holders = w.holders ++ holders_at hs vs i;
  own = w.own ++ range_with_len i (length vs);
  start = w.start;
}

module _ {w : World} {variables boxes : List Value} {frame : List FrameSlot} (r : VariablesAlike w variables boxes frame)
    (hs : List Home) (ss : List Bool) (vs : List Value) (e : length hs ≡ length vs) (f : length ss ≡ length vs) where
  -- the numbers of the first variable and of the first box, and what is known
  abbrev i : ℕ
  i = length variables

  abbrev j : ℕ
  j = length boxes

  abbrev kinds : List VariableKind
  kinds = kinds_at hs ss vs (length w.own) j

  -- the slot of a new variable in the longer frame
  new_in_slot : (m : ℕ) → m < length vs
      → SlotAlike (w.kinds ++ kinds) w.start (variables ++ vs) (frame ++ new_slots hs vs j) (length w.own + m) (i + m)
  new_in_slot m b =
      let known : IsThere kinds m = is_there kinds m (omega (arith, b, length-kinds hs ss vs (length w.own) j e f)) in
      let one : NewSlot hs vs (length w.own) i j m known.item = new_slot hs ss vs (length w.own) i j m known.item known.there in record {
        kind = known.item;
        known = behind_all w.kinds kinds i m r.count ∙ known.there;
        now = one.variable.now;
        there = behind variables vs m ∙ one.variable.there;
        here = behind_all frame (new_slots hs vs j) (length w.own) m r.slot_count ∙ one.here;
        in_slot = one.in_slot;
        newer = omega (arith, r.since);
      }

  -- with new variables all is right
  pub new_variables : VariablesAlike (with_new_slots w hs ss vs i j) (variables ++ vs) (boxes ++ new_boxes hs vs) (frame ++ new_slots hs vs j)
  new_variables =
      more_slots
      (more_variables r kinds (holders_at hs vs i) vs (new_boxes hs vs) (length-kinds hs ss vs (length w.own) j e f) (length-holders hs vs i)
      (λ m k h. (new_slot hs ss vs (length w.own) i j m k h).variable))
      (range_with_len i (length vs)) (new_slots hs vs j) (length-slots hs vs j e ∙ sym (length-range i (length vs)))
      (λ m l h.
      subst (λ n. SlotAlike (w.kinds ++ kinds) w.start (variables ++ vs) (frame ++ new_slots hs vs j) (length w.own + m) n)
      (sym (in_range i (length vs) m l h))
      (new_in_slot m (omega (arith, slice_get_within (range_with_len i (length vs)) m l h, length-range i (length vs)))))

-- new variables of dynamic bindings have boxes, with the numbers from one on
abbrev pub boxes_from : ℕ → List Value → List VariableKind
boxes_from j [] = []
boxes_from j (v ∷ vs) = boxed j ∷ boxes_from (j + 1) vs

-- a world with them
abbrev pub with_new_dynamics : World → List Value → (i j : ℕ) → World
with_new_dynamics w vs i j = record w { kinds = w.kinds ++ boxes_from j vs; holders = w.holders ++ range_with_len i (length vs) }

-- as many as there are values
length-boxes : (j : ℕ) (vs : List Value) → length (boxes_from j vs) ≡ length vs
length-boxes j [] = refl
length-boxes j (v ∷ vs) = ap suc (length-boxes (j + 1) vs)

-- each has its box
new_box : (vs : List Value) (i j m : ℕ) (k : VariableKind) → slice_get (boxes_from j vs) m ≡ Some k → NewVariable (range_with_len i (length vs)) vs vs i j m k
new_box [] i j m k h = absurd (cc h)
new_box (v ∷ vs) i j zero k h =
    subst (λ l. NewVariable (range_with_len i (length (v ∷ vs))) (v ∷ vs) (v ∷ vs) i j zero l) (some_same h)
    (record { now = v; there = refl; alike = (0, ((let e : j ≡ j + 0 = omega arith in e), (let e : i ≡ i + 0 = omega arith in ap Some e), refl)) })
new_box (v ∷ vs) i j (suc m) k h =
    let rest : NewVariable (range_with_len (i + 1) (length vs)) vs vs (i + 1) (j + 1) m k = new_box vs (i + 1) (j + 1) m k h in record {
      now = rest.now;
      there = rest.there;
      alike = box_before (range_with_len (i + 1) (length vs)) vs v i j m k rest.now rest.alike;
    }

-- with them all is right
pub new_dynamics : {w : World} {variables boxes : List Value} {frame : List FrameSlot} → VariablesAlike w variables boxes frame → (vs : List Value)
    → VariablesAlike (with_new_dynamics w vs (length variables) (length boxes)) (variables ++ vs) (boxes ++ vs) frame
new_dynamics {w} {variables} {boxes} {frame} r vs =
    more_variables r (boxes_from (length boxes) vs) (range_with_len (length variables) (length vs)) vs vs
    (length-boxes (length boxes) vs) (length-range (length variables) (length vs))
    (λ m k h. new_box vs (length variables) (length boxes) m k h)
