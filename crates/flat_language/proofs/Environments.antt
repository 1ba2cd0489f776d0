-- Environments that match: with new variables, with a new exit, and those of functions.
use Rattle.std.proofs.Common.{◌≡◌, ℕ, suc, ◌+◌, ◌==◌, Bool, true, false, List, [], ◌∷◌, ◌++◌, refl, sym, ap, subst, ◌∙◌, Option, Some, None, length, map, arith, length-append}
use Rattle.std.specs.List.{range_with_len}
use Rattle.std.proofs.lemmas.Option.{get_or_from_slice_get}
use Rattle.std.specs.Prelude.{not, slice_get, slice_set, if◌then◌else◌}
use Rattle.base.specs.AllOf.{AllOf}
use Rattle.lang_meaning.specs.declared.capture.Capture.{Capture}
use Rattle.lang_meaning.specs.declared.capture.Capture.TheVariants.{Variable, Exit, Method}
use Rattle.lang_meaning.specs.Form.{Form}
use Rattle.lang_meaning.specs.Captured.{has_box, sets}
use Rattle.lang_meaning.specs.Values.{Value, nil}
use Rattle.lang_meaning.specs.Objects.{Environment}
use Rattle.lang_meaning.specs.State.{State, DynamicContext, Evaluated, Act, Limit, request, charged}
use Rattle.lang_meaning.specs.Lookup.{under_number, numbered, value_at, set_at, with_variables, with_values, with_exit}
use Rattle.lang_meaning.specs.Signals.{with_boxes}
use Rattle.flat_language.specs.declared.place.Home.{Home}
use Rattle.flat_language.specs.declared.place.Home.TheVariants as home
use Rattle.flat_language.specs.declared.place.VariablePlace.{VariablePlace}
use Rattle.flat_language.specs.declared.place.VariablePlace.TheVariants.{Slot, SlotBox, CapturedValue, CapturedBox}
use Rattle.flat_language.specs.declared.place.ExitPlace.{ExitPlace}
use Rattle.flat_language.specs.declared.place.ExitPlace.TheVariants as exit_place
use Rattle.flat_language.specs.declared.place.MethodPlace.{MethodPlace}
use Rattle.flat_language.specs.declared.place.MethodPlace.TheVariants as method_place
use Rattle.flat_language.specs.declared.program.FlatProcedure.{FlatProcedure}
use Rattle.flat_language.specs.FlatState.{FrameSlot, holds, holds_box, Captured, of_value, of_box, of_exit, of_method, FlatEnvironment, FlatState, FlatEvaluated, FlatAct, under, exit_of, method_of, value_held, box_held, value_in, box_in, exit_in, method_in, captured_part, captured_variable}
use Rattle.flat_language.specs.FlatState as flat_state
use Rattle.flat_language.specs.FlatSignals as flat_signals
use Rattle.flat_language.specs.FlatMeaning as flat_meaning
use Rattle.flat_language.specs.declared.place.Known.{Known}
use Rattle.flat_language.specs.Scope.{Scope, home_of, homes_of, slot_at, in_slots, with_bound, with_around, known_or, known_of, exit_or, method_or, flat_part, flat_parts, captured_place, captured_known, captured_variables, captured_exits, captured_method, seen}
use Rattle.flat_language.proofs.Alike.{VariableKind, constant, boxed, slot, World, alone, StandsIn, BindingsMatch, flat_around, PlaceAt, VariableAt, VariableAlike, VariablesAlike, ExitAt, Matches, KeepsValue, PartIsThere, Beside, twin, Sim, Follows, Acts}
use Rattle.flat_language.proofs.Lists.{in_front, behind, length-range}
use Rattle.flat_language.proofs.Frames.{slot_known, set_in_box, set_in_slot}
use Rattle.flat_language.proofs.NewSlots.{kind_at, after_it, kinds_at, with_new_slots}
use Rattle.flat_language.proofs.Combined.{kept_after, kept_more, same_kept, place_kept, variable_kept, matches_kept, matches_later, bound_later, charges, requests, slots_made, slots_gone, frame_made, frame_left}
pub use Rattle.flat_language.proofs.Lists.{some_same, equal_or_not}

-- which variables the body sets
abbrev pub sets_of : List ℕ → Form → List Bool
sets_of [] body = []
sets_of (v ∷ vs) body = sets v body ∷ sets_of vs body

-- as many as there are variables
length-sets : (vs : List ℕ) (body : Form) → length (sets_of vs body) ≡ length vs
length-sets [] body = refl
length-sets (v ∷ vs) body = ap suc (length-sets vs body)

-- a new variable is at its place
place_new : (w : World) (e : FlatEnvironment) (h : Home) (is_set : Bool) (x : Value) (n j i : ℕ) → slice_get w.own n ≡ Some i
    → slice_get w.kinds i ≡ Some (kind_at h is_set x n j) → PlaceAt w e (slot_at h n) (not is_set) i
place_new w e home.Slot true x n j i p q = (p, q)
place_new w e home.Slot false x n j i p q = (p, (x, q))
place_new w e home.Boxed is_set x n j i p q = (p, (j, q))

-- a place where there are more exits
place_exits : (w : World) (e : FlatEnvironment) (now : List ℕ) (p : VariablePlace) (fixed : Bool) (i : ℕ) → PlaceAt w e p fixed i
    → PlaceAt w (record e { exits = now }) p fixed i
place_exits w e now (Slot n) fixed i h = h
place_exits w e now (SlotBox n) fixed i h = h
place_exits w e now (CapturedValue n) fixed i h = h
place_exits w e now (CapturedBox n) fixed i h = h

variable_exits : (w : World) (e : FlatEnvironment) (now : List ℕ) (k : Known) (o : Option ℕ) → VariableAt w e k o
    → VariableAt w (record e { exits = now }) k o
variable_exits w e now k None h = h
variable_exits w e now k (Some i) h = place_exits w e now k.place k.fixed i h

exit_more : (e : FlatEnvironment) (more : List ℕ) (p : ExitPlace) (i : ℕ) → exit_of p e ≡ Some i → exit_of p (record e { exits = e.exits ++ more }) ≡ Some i
exit_more e more (exit_place.Own n) i h = in_front e.exits more n i h
exit_more e more (exit_place.Captured n) i h = h

method_exits : (e : FlatEnvironment) (now : List ℕ) (p : MethodPlace) → method_of p (record e { exits = now }) ≡ method_of p e
method_exits e now method_place.Own = refl
method_exits e now (method_place.Captured n) = refl

-- the first of a list under a number, and those after it
pub under_first : {X : Type 0} (n m : ℕ) (x : X) (xs : List (ℕ × X)) → (n == m) ≡ true → under n ((m, x) ∷ xs) ≡ Some x
under_first n m x xs h = ap (λ b. if b then Some x else under n xs) h

pub under_after : {X : Type 0} (n m : ℕ) (x : X) (xs : List (ℕ × X)) → (n == m) ≡ false → under n ((m, x) ∷ xs) ≡ under n xs
under_after n m x xs h = ap (λ b. if b then Some x else under n xs) h

number_first : (n m x : ℕ) (xs : List (ℕ × ℕ)) → (n == m) ≡ true → under_number n ((m, x) ∷ xs) ≡ Some x
number_first n m x xs h = ap (λ b. if b then Some x else under_number n xs) h

number_after : (n m x : ℕ) (xs : List (ℕ × ℕ)) → (n == m) ≡ false → under_number n ((m, x) ∷ xs) ≡ under_number n xs
number_after n m x xs h = ap (λ b. if b then Some x else under_number n xs) h

-- new variables in new slots
found : (w : World) (e : FlatEnvironment) (known : List (ℕ × Known)) (around : List (ℕ × ℕ))
    → ((v : ℕ) (k : Known) → under v known ≡ Some k → VariableAt w e k (under_number v around))
    → (vs : List ℕ) (body : Form) (ws : List Value) → length ws ≡ length vs → (n i j : ℕ)
    → ((m l : ℕ) → slice_get (range_with_len i (length ws)) m ≡ Some l → slice_get w.own (n + m) ≡ Some l)
    → ((m : ℕ) (k : VariableKind) → slice_get (kinds_at (homes_of vs body) (sets_of vs body) ws n j) m ≡ Some k → slice_get w.kinds (i + m) ≡ Some k)
    → (v : ℕ) (k : Known) → under v (in_slots vs body n ++ known) ≡ Some k
    → VariableAt w e k (under_number v (numbered vs i ++ around))
found w e known around rest [] body ws len n i j own kinds v k h = rest v k h
found w e known around rest (u ∷ vs) body [] len n i j own kinds v k h = absurd (cc len)
found w e known around rest (u ∷ vs) body (x ∷ ws) len n i j own kinds v k h =
    equal_or_not v u
    (λ same t.
    let at : PlaceAt w e (slot_at (home_of u body) n) (not (sets u body)) i =
    place_new w e (home_of u body) (sets u body) x n j i
    (let q : n + 0 ≡ n = omega arith in subst (λ m. slice_get w.own m ≡ Some i) q (own 0 i refl))
    (let q : i + 0 ≡ i = omega arith in subst (λ m. slice_get w.kinds m ≡ Some (kind_at (home_of u body) (sets u body) x n j)) q (kinds 0 _ refl)) in
    subst (λ o. VariableAt w e k o) (sym (number_first v u i (numbered vs (i + 1) ++ around) t))
    (subst (λ (q : Known). VariableAt w e q (Some i))
    (some_same (sym (under_first v u _ (in_slots vs body (n + 1) ++ known) t) ∙ h)) at))
    (λ f.
    subst (λ o. VariableAt w e k o) (sym (number_after v u i (numbered vs (i + 1) ++ around) f))
    (found w e known around rest vs body ws (omega (arith, len)) (n + 1) (i + 1) (after_it (home_of u body) j)
    (λ m l g. let q : n + suc m ≡ (n + 1) + m = omega arith in subst (λ a. slice_get w.own a ≡ Some l) q (own (suc m) l g))
    (λ m l g. let q : i + suc m ≡ (i + 1) + m = omega arith in subst (λ a. slice_get w.kinds a ≡ Some l) q (kinds (suc m) l g))
    v k (sym (under_after v u _ (in_slots vs body (n + 1) ++ known) f) ∙ h)))

-- as many homes as variables
pub length-homes : (vs : List ℕ) (body : Form) → length (homes_of vs body) ≡ length vs
length-homes [] body = refl
length-homes (v ∷ vs) body = ap suc (length-homes vs body)

-- environments match with them
bound_matches : {w : World} {s : Scope} {env : Environment} {e : FlatEnvironment} → Matches w s env e
    → (vs : List ℕ) (body : Form) (ws : List Value) → length ws ≡ length vs → (i j : ℕ) → length w.kinds ≡ i
    → Matches (with_new_slots w (homes_of vs body) (sets_of vs body) ws i j) (with_bound vs body s) (record env { variables = numbered vs i ++ env.variables }) e
bound_matches {w} {s} {env} {e} m vs body ws len i j count =
    let kinds : List VariableKind = kinds_at (homes_of vs body) (sets_of vs body) ws (length w.own) j in
    let own : List ℕ = range_with_len i (length ws) in
    let u : World = with_new_slots w (homes_of vs body) (sets_of vs body) ws i j in record {
      variables = λ v k h.
          found u e s.variables env.variables
          (λ x q g. variable_kept w u e (kept_more w.kinds kinds) (kept_more w.own own) q (under_number x env.variables) (m.variables x q g))
          vs body ws len s.slots i j
          (λ p l g. subst (λ n. slice_get (w.own ++ own) (n + p) ≡ Some l) m.slots (behind w.own own p ∙ g))
          (λ p l g.
          subst (λ n. slice_get (w.kinds ++ kinds) (n + p) ≡ Some l) count
          (behind w.kinds kinds p ∙ ap (λ n. slice_get (kinds_at (homes_of vs body) (sets_of vs body) ws n j) p) m.slots ∙ g))
          v k h;
      exits = m.exits;
      method = m.method;
      slots = length-append w.own own ∙ ap (λ n. n + length own) m.slots ∙ ap (λ n. s.slots + n) (length-range i (length ws) ∙ len);
      own = m.own;
    }

-- a new exit
pub around_matches : {w : World} {s : Scope} {env : Environment} {e : FlatEnvironment} → Matches w s env e
    → (x : ℕ) (z : State) (y : FlatState) → y.state.exits ≡ z.exits
    → Matches w (with_around x s) (with_exit x z env) (flat_meaning.with_exit y e)
around_matches {w} {s} {env} {e} m x z y same = record {
  variables = λ v k h. variable_exits w e (e.exits ++ y.state.exits ∷ []) k (under_number v env.variables) (m.variables v k h);
  exits = λ u p h. equal_or_not u x
      (λ is t. record {
        number = z.exits;
        one = number_first u x z.exits env.exits t;
        other = subst (λ q. exit_of q (flat_meaning.with_exit y e) ≡ Some z.exits)
            (some_same (sym (under_first u x _ s.exits t) ∙ h))
            (subst (λ n. slice_get (e.exits ++ y.state.exits ∷ []) n ≡ Some z.exits) (let q : length e.exits + 0 ≡ length e.exits = omega arith in q ∙ m.own)
            (behind e.exits (y.state.exits ∷ []) 0 ∙ ap Some same));
      })
      (λ f. let there : ExitAt e p (under_number u env.exits) = m.exits u p (sym (under_after u x _ s.exits f) ∙ h) in record {
        number = there.number;
        one = number_after u x z.exits env.exits f ∙ there.one;
        other = exit_more e (y.state.exits ∷ []) p there.number there.other;
      });
  method = λ p h. method_exits e (e.exits ++ y.state.exits ∷ []) p ∙ m.method p h;
  slots = m.slots;
  own = length-append e.exits (y.state.exits ∷ []) ∙ ap (λ n. n + 1) m.own;
}

-- what a function captured is what it names where it was made
module _ {w : World} {s : Scope} {env : Environment} {e : FlatEnvironment} (m : Matches w s env e)
    {variables boxes : List Value} {frame : List FrameSlot} (r : VariablesAlike w variables boxes frame) (y : FlatState) (same : y.frame ≡ frame) where
  -- what a function captured of a place is there inside
  place_captured : (inside : FlatEnvironment) (n : ℕ) (p : VariablePlace) (fixed : Bool) (i : ℕ) → PlaceAt w e p fixed i → KeepsValue p fixed
      → slice_get inside.captured n ≡ Some (captured_variable p e y) → PlaceAt (alone w.kinds) inside (captured_place p n) fixed i
  place_captured inside n (Slot l) true i h k c =
      let now : VariableAlike w.holders w.start variables boxes i (constant h.1.0) = r.known i (constant h.1.0) h.1.1 in
      let here : slice_get y.frame l ≡ Some (holds h.1.0) =
      ap (λ f. slice_get f l) same ∙ slot_known r l i h.0 (constant h.1.0) h.1.1 now.now now.there ∙ ap (λ v. Some (holds v)) (sym now.alike) in
      (h.1.0, (c ∙ ap (λ o. Some (of_value (value_held o))) here, h.1.1, refl))
  place_captured inside n (Slot l) false i h k c = absurd (cc k)
  place_captured inside n (SlotBox l) fixed i h k c =
      let now : VariableAlike w.holders w.start variables boxes i (boxed h.1.0) = r.known i (boxed h.1.0) h.1.1 in
      let here : slice_get y.frame l ≡ Some (holds_box h.1.0) =
      ap (λ f. slice_get f l) same ∙ slot_known r l i h.0 (boxed h.1.0) h.1.1 now.now now.there in
      (h.1.0, (c ∙ ap (λ o. Some (of_box (box_held o))) here, h.1.1))
  place_captured inside n (CapturedValue l) fixed i h k c =
      (h.0, (c ∙ ap (λ o. Some (of_value (value_in o))) h.1.0, h.1.1, h.1.2))
  place_captured inside n (CapturedBox l) fixed i h k c = (h.0, (c ∙ ap (λ o. Some (of_box (box_in o))) h.1.0, h.1.1))

  variable_captured : (inside : FlatEnvironment) (n : ℕ) (k : Known) (o : Option ℕ) → VariableAt w e k o → KeepsValue k.place k.fixed
      → slice_get inside.captured n ≡ Some (captured_variable k.place e y) → VariableAt (alone w.kinds) inside (captured_known k n) o
  variable_captured inside n k None h g c = h
  variable_captured inside n k (Some i) h g c = place_captured inside n k.place k.fixed i h g c

  abbrev parts_of : List Capture → List Captured
  parts_of parts = map (captured_part e y) (flat_parts s parts)

  -- these parts stand among what was captured, from the n-th on
  abbrev From : FlatEnvironment → ℕ → List Capture → Type 0
  From inside n parts = (j : ℕ) (c : Captured) → slice_get (parts_of parts) j ≡ Some c → slice_get inside.captured (n + j) ≡ Some c

  first_of : (inside : FlatEnvironment) (n : ℕ) (p : Capture) (ps : List Capture) → From inside n (p ∷ ps)
      → slice_get inside.captured n ≡ Some (captured_part e y (flat_part s p))
  first_of inside n p ps f =
      let q : n + 0 ≡ n = omega arith in
      subst (λ l. slice_get inside.captured l ≡ Some (captured_part e y (flat_part s p))) q (f 0 (captured_part e y (flat_part s p)) refl)

  after_first : (inside : FlatEnvironment) (n : ℕ) (p : Capture) (ps : List Capture) → From inside n (p ∷ ps) → From inside (n + 1) ps
  after_first inside n p ps f j c h =
      let q : n + suc j ≡ (n + 1) + j = omega arith in subst (λ l. slice_get inside.captured l ≡ Some c) q (f (suc j) c h)

  variables_captured : (inside : FlatEnvironment) (parts : List Capture) → AllOf (PartIsThere s) parts → (n : ℕ) → From inside n parts
      → (v : ℕ) (k : Known) → under v (captured_variables s parts n) ≡ Some k → VariableAt (alone w.kinds) inside k (under_number v env.variables)
  variables_captured inside [] t n f v k h = absurd (cc h)
  variables_captured inside (Exit x ∷ ps) t n f v k h = variables_captured inside ps t.1 (n + 1) (after_first inside n (Exit x) ps f) v k h
  variables_captured inside (Method ∷ ps) t n f v k h = variables_captured inside ps t.1 (n + 1) (after_first inside n Method ps f) v k h
  variables_captured inside (Variable u ∷ ps) t n f v k h =
      equal_or_not v u
      (λ is b.
      let there : under u s.variables ≡ Some t.0.known = t.0.there in
      let known : known_of s u ≡ t.0.known = ap known_or there in
      subst (λ (q : Known). VariableAt (alone w.kinds) inside q (under_number v env.variables))
      (ap (λ (q : Known). captured_known q n) (sym known) ∙ some_same (sym (under_first v u _ (captured_variables s ps (n + 1)) b) ∙ h))
      (subst (λ x. VariableAt (alone w.kinds) inside (captured_known t.0.known n) (under_number x env.variables)) (sym is)
      (variable_captured inside n t.0.known (under_number u env.variables) (m.variables u t.0.known there) t.0.keeps
      (first_of inside n (Variable u) ps f ∙ ap (λ (q : Known). Some (captured_variable q.place e y)) known))))
      (λ b.
      variables_captured inside ps t.1 (n + 1) (after_first inside n (Variable u) ps f) v k
      (sym (under_after v u _ (captured_variables s ps (n + 1)) b) ∙ h))

  exits_captured : (inside : FlatEnvironment) (parts : List Capture) → AllOf (PartIsThere s) parts → (n : ℕ) → From inside n parts
      → (x : ℕ) (p : ExitPlace) → under x (captured_exits parts n) ≡ Some p → ExitAt inside p (under_number x env.exits)
  exits_captured inside [] t n f x p h = absurd (cc h)
  exits_captured inside (Variable u ∷ ps) t n f x p h = exits_captured inside ps t.1 (n + 1) (after_first inside n (Variable u) ps f) x p h
  exits_captured inside (Method ∷ ps) t n f x p h = exits_captured inside ps t.1 (n + 1) (after_first inside n Method ps f) x p h
  exits_captured inside (Exit u ∷ ps) t n f x p h =
      equal_or_not x u
      (λ is b.
      let there : under u s.exits ≡ Some t.0.place = t.0.there in
      let at : ExitAt e t.0.place (under_number u env.exits) = m.exits u t.0.place there in
      record {
        number = at.number;
        one = ap (λ i. under_number i env.exits) is ∙ at.one;
        other = subst (λ q. exit_of q inside ≡ Some at.number)
            (some_same (sym (under_first x u _ (captured_exits ps (n + 1)) b) ∙ h))
            (ap exit_in (first_of inside n (Exit u) ps f) ∙ ap (λ o. exit_of (exit_or o) e) there ∙ at.other);
      })
      (λ b.
      exits_captured inside ps t.1 (n + 1) (after_first inside n (Exit u) ps f) x p
      (sym (under_after x u _ (captured_exits ps (n + 1)) b) ∙ h))

  methods_captured : (inside : FlatEnvironment) (parts : List Capture) → AllOf (PartIsThere s) parts → (n : ℕ) → From inside n parts
      → (p : MethodPlace) → captured_method parts n ≡ Some p → method_of p inside ≡ env.method
  methods_captured inside [] t n f p h = absurd (cc h)
  methods_captured inside (Variable u ∷ ps) t n f p h = methods_captured inside ps t.1 (n + 1) (after_first inside n (Variable u) ps f) p h
  methods_captured inside (Exit u ∷ ps) t n f p h = methods_captured inside ps t.1 (n + 1) (after_first inside n (Exit u) ps f) p h
  methods_captured inside (Method ∷ ps) t n f p h =
      subst (λ q. method_of q inside ≡ env.method) (some_same h)
      (ap method_in (first_of inside n Method ps f) ∙ ap (λ o. method_of (method_or o) e) t.0.there ∙ m.method t.0.place t.0.there)

  pub seen_matches : (parts : List Capture) → AllOf (PartIsThere s) parts
      → Matches (alone w.kinds) (seen s parts) env (record flat_state.no_environment { captured = map (captured_part e y) (flat_parts s parts) })
  seen_matches parts t =
      let inside : FlatEnvironment = record flat_state.no_environment { captured = map (captured_part e y) (flat_parts s parts) } in
      let all : From inside 0 parts = λ j c h. let q : 0 + j ≡ j = omega arith in ap (λ l. slice_get inside.captured l) q ∙ h in
      record {
        variables = variables_captured inside parts t 0 all;
        exits = exits_captured inside parts t 0 all;
        method = methods_captured inside parts t 0 all;
        slots = refl;
        own = refl;
      }

module _ {ps : List FlatProcedure} where
  -- a word for each box
  boxes : {w : World} (limit : Limit) (vs : List ℕ) (body : Form) (z : State) (y : FlatState) → Beside ps w z y
      → {next : State → Evaluated} {next' : FlatState → FlatEvaluated} → Follows ps w next next'
      → Sim ps w (with_boxes limit vs body z next) (flat_signals.with_boxes limit (homes_of vs body) y next')
  boxes limit [] body z y b c = c z y b
  boxes {w} limit (v ∷ vs) body z y b {next} {next'} c =
      by (has_box v body)
      (requests limit 1 0 z y b (λ entered after a. boxes limit vs body (charged 1 entered) (flat_state.charged 1 after) (charges 1 a) c))
      (boxes limit vs body z y b c)
    where
      by : (h : Bool)
          → Sim ps w (request limit 1 0 z (λ entered. with_boxes limit vs body (charged 1 entered) next))
          (flat_signals.with_boxes limit (home.Boxed ∷ homes_of vs body) y next')
          → Sim ps w (with_boxes limit vs body z next) (flat_signals.with_boxes limit (homes_of vs body) y next')
          → Sim ps w
          (if h then request limit 1 0 z (λ entered. with_boxes limit vs body (charged 1 entered) next) else with_boxes limit vs body z next)
          (flat_signals.with_boxes limit ((if h then home.Boxed else home.Slot) ∷ homes_of vs body) y next')
      by true one other = one
      by false one other = other

  -- a body in the scope of new variables
  run_bound : {u : World} {s : Scope} {env : Environment} {e : FlatEnvironment} {z : State} {y : FlatState} (b : Beside ps u z y) → Matches b.world s env e
      → (vs : List ℕ) (body : Form) (ws : List Value) → length ws ≡ length vs
      → {run : Environment → Act} (run' : FlatAct)
      → ((v : World) (inner : Environment) → Matches v (with_bound vs body s) inner e → Acts ps v (run inner) run')
      → (around : DynamicContext) (bound : BindingsMatch b.world around)
      → Sim ps (with_new_slots b.world (homes_of vs body) (sets_of vs body) ws (length z.variables) (length b.boxes))
      (run (with_variables vs z env) around (with_values ws z)) (run' (flat_around around bound) (flat_state.with_slots (homes_of vs body) ws y))
  run_bound {u} {s} {env} {e} {z} {y} b m vs body ws len run' r around bound =
      let hs : List Home = homes_of vs body in
      let ss : List Bool = sets_of vs body in
      let now : World = with_new_slots b.world hs ss ws (length z.variables) (length b.boxes) in
      let kinds : StandsIn b.world.kinds now.kinds = kept_more b.world.kinds (kinds_at hs ss ws (length b.world.own) (length b.boxes)) in
      r now (with_variables vs z env) (bound_matches m vs body ws len (length z.variables) (length b.boxes) b.related.values.count)
      around (bound_later around.bindings kinds bound) _ _
      (slots_made hs ss ws (length-homes vs body ∙ sym len) (length-sets vs body ∙ sym len) b)

  -- in slots behind those that are there
  pub binds : {w : World} (limit : Limit) {s : Scope} {env : Environment} {e : FlatEnvironment} → Matches w s env e
      → (vs : List ℕ) (body : Form) (hs : List Home) → hs ≡ homes_of vs body
      → (ws : List Value) → length ws ≡ length vs
      → {run : Environment → Act} (run' : FlatAct)
      → ((u : World) (inner : Environment) → Matches u (with_bound vs body s) inner e → Acts ps u (run inner) run')
      → (around : DynamicContext) (bound : BindingsMatch w around) (z : State) (y : FlatState) → Beside ps w z y
      → Sim ps w (with_boxes limit vs body z (λ ready. run (with_variables vs ready env) around (with_values ws ready)))
      (flat_signals.with_boxes limit hs y (λ ready. flat_state.in_new_slots hs ws (λ inner. run' (flat_around around bound) inner) ready))
  binds {w} limit {s} {env} {e} m vs body hs same ws len {run} run' r around bound z y b =
      subst (λ gs. Sim ps w (with_boxes limit vs body z (λ ready. run (with_variables vs ready env) around (with_values ws ready)))
      (flat_signals.with_boxes limit gs y (λ ready. flat_state.in_new_slots gs ws (λ inner. run' (flat_around around bound) inner) ready)))
      (sym same)
      (boxes limit vs body z y b (λ ready after a.
      slots_gone (homes_of vs body) (sets_of vs body) ws a
      (run_bound a (matches_later a.later m) vs body ws len {run = run} run' r around (bound_later around.bindings a.later.kinds bound))))

  -- and in a frame of its own
  pub binds_alone : {w : World} (limit : Limit) {ks : List VariableKind} {s : Scope} {env : Environment} {e : FlatEnvironment} → Matches (alone ks) s env e → StandsIn ks w.kinds
      → (vs : List ℕ) (body : Form) (hs : List Home) → hs ≡ homes_of vs body
      → (ws : List Value) → length ws ≡ length vs
      → {run : Environment → Act} (run' : FlatAct)
      → ((u : World) (inner : Environment) → Matches u (with_bound vs body s) inner e → Acts ps u (run inner) run')
      → (around : DynamicContext) (bound : BindingsMatch w around) (z : State) (y : FlatState) → Beside ps w z y
      → Sim ps w (with_boxes limit vs body z (λ ready. run (with_variables vs ready env) around (with_values ws ready)))
      (flat_signals.with_boxes limit hs y (λ ready. flat_state.in_own_frame (λ inner. run' (flat_around around bound) (flat_state.with_slots hs ws inner)) ready))
  binds_alone {w} limit {ks} {s} {env} {e} m l vs body hs same ws len {run} run' r around bound z y b =
      subst (λ gs. Sim ps w (with_boxes limit vs body z (λ ready. run (with_variables vs ready env) around (with_values ws ready)))
      (flat_signals.with_boxes limit gs y (λ ready. flat_state.in_own_frame (λ inner. run' (flat_around around bound) (flat_state.with_slots gs ws inner)) ready)))
      (sym same)
      (boxes limit vs body z y b (λ ready after a.
      let f : Beside ps (record a.world { own = []; start = ready.variables }) ready (record after { frame = [] }) = frame_made a in
      let kept : StandsIn w.kinds f.world.kinds = kept_after a.later.kinds f.later.kinds in
      frame_left a
      (kept_after f.later.kinds (kept_more f.world.kinds (kinds_at (homes_of vs body) (sets_of vs body) ws (length f.world.own) (length f.boxes)))) f.later.start
      (run_bound f (matches_kept (kept_after l kept) f.later.own m) vs body ws len {run = run} run' r around (bound_later around.bindings kept bound))))

  -- the value of a variable that has a box is that of the box
  pub box_value : {w : World} {z : State} {y : FlatState} (i j : ℕ) → slice_get w.kinds i ≡ Some (boxed j) → Beside ps w z y
      → value_at (Some j) y.state ≡ value_at (Some i) z
  box_value {w} {z} {y} i j h b =
      let now : VariableAlike b.world.holders b.world.start z.variables b.boxes i (boxed j) = b.related.values.known i (boxed j) (b.later.kinds.kept i (boxed j) h) in
      ap (λ (x : FlatState). value_at (Some j) x.state) b.is
      ∙ get_or_from_slice_get b.boxes j now.now nil now.alike.1 ∙ sym (get_or_from_slice_get z.variables i now.now nil now.there)

  -- the value of a variable is that of its place
  pub value_same : {w : World} {z : State} {y : FlatState} (e : FlatEnvironment) (k : Known) (o : Option ℕ) → Beside ps w z y
      → VariableAt w e k o → flat_state.value_of k.place e y ≡ value_at o z
  value_same e k None b h = absurd h
  value_same {w} {z} {y} e k (Some i) b h =
      subst (λ now. flat_state.value_of k.place e now ≡ value_at (Some i) z) (sym b.is)
      (by k.place k.fixed (place_kept w b.world e b.later.kinds (same_kept b.later.own) k.place k.fixed i h))
    where
      r : VariablesAlike b.world z.variables b.boxes b.frame
      r = b.related.values

      known : (l : VariableKind) → slice_get b.world.kinds i ≡ Some l → VariableAlike b.world.holders b.world.start z.variables b.boxes i l
      known l g = r.known i l g

      at : (v : Value) → slice_get z.variables i ≡ Some v → v ≡ value_at (Some i) z
      at v g = sym (get_or_from_slice_get z.variables i v nil g)

      in_box : (j : ℕ) → slice_get b.world.kinds i ≡ Some (boxed j) → value_at (Some j) (record z { store = b.store; variables = b.boxes }) ≡ value_at (Some i) z
      in_box j g = get_or_from_slice_get b.boxes j (known (boxed j) g).now nil (known (boxed j) g).alike.1 ∙ at (known (boxed j) g).now (known (boxed j) g).there

      by : (p : VariablePlace) (fixed : Bool) → PlaceAt b.world e p fixed i
          → flat_state.value_of p e (twin ps z b.store b.boxes b.frame b.captured) ≡ value_at (Some i) z
      by (Slot n) true g =
          let l : VariableKind = constant g.1.0 in
          ap value_held (slot_known r n i g.0 l g.1.1 (known l g.1.1).now (known l g.1.1).there) ∙ at (known l g.1.1).now (known l g.1.1).there
      by (Slot n) false g =
          ap value_held (slot_known r n i g.0 (slot n) g.1 (known (slot n) g.1).now (known (slot n) g.1).there) ∙ at (known (slot n) g.1).now (known (slot n) g.1).there
      by (SlotBox n) fixed g =
          let l : VariableKind = boxed g.1.0 in
          ap (λ s. value_at (box_held s) (record z { store = b.store; variables = b.boxes }))
          (slot_known r n i g.0 l g.1.1 (known l g.1.1).now (known l g.1.1).there)
          ∙ in_box g.1.0 g.1.1
      by (CapturedValue n) fixed g =
          let l : VariableKind = constant g.0 in
          ap value_in g.1.0 ∙ (known l g.1.1).alike ∙ at (known l g.1.1).now (known l g.1.1).there
      by (CapturedBox n) fixed g =
          ap (λ c. value_at (box_in c) (record z { store = b.store; variables = b.boxes })) g.1.0 ∙ in_box g.0 g.1.1

  -- a variable that has a box is set there
  pub variable_set : {w : World} {z : State} {y : FlatState} (i j : ℕ) (v : Value) → slice_get w.kinds i ≡ Some (boxed j) → Beside ps w z y
      → Beside ps w (set_at (Some i) v z) (flat_state.on_state (λ x. set_at (Some j) v x) y)
  variable_set {w} {z} {y} i j v h b = record {
    world = b.world;
    later = b.later;
    store = b.store;
    boxes = slice_set b.boxes j v;
    frame = b.frame;
    captured = b.captured;
    related = record {
      values = set_in_box b.related.values i v j (b.later.kinds.kept i (boxed j) h);
      lengths = b.related.lengths;
      objects = b.related.objects;
    };
    is = ap (λ (x : FlatState). flat_state.on_state (λ x. set_at (Some j) v x) x) b.is;
  }

  -- and one that has a slot is set in the frame
  slot_set : {w : World} {z : State} {y : FlatState} (i n : ℕ) (v : Value) → slice_get w.own n ≡ Some i → slice_get w.kinds i ≡ Some (slot n) → Beside ps w z y
      → Beside ps w (set_at (Some i) v z) (record y { frame = slice_set y.frame n (holds v) })
  slot_set {w} {z} {y} i n v mine h b = record {
    world = b.world;
    later = b.later;
    store = b.store;
    boxes = b.boxes;
    frame = slice_set b.frame n (holds v);
    captured = b.captured;
    related = record {
      values = set_in_slot b.related.values i v n ((same_kept b.later.own).kept n i mine) (b.later.kinds.kept i (slot n) h);
      lengths = b.related.lengths;
      objects = b.related.objects;
    };
    is = ap (λ (x : FlatState). record x { frame = slice_set x.frame n (holds v) }) b.is;
  }

  -- the slot of a variable with a box has the number of the box
  box_of_slot : {w : World} {z : State} {y : FlatState} (i n j : ℕ) → slice_get w.own n ≡ Some i → slice_get w.kinds i ≡ Some (boxed j) → Beside ps w z y
      → box_held (slice_get y.frame n) ≡ Some j
  box_of_slot {w} {z} {y} i n j mine h b =
      let known : slice_get b.world.kinds i ≡ Some (boxed j) = b.later.kinds.kept i (boxed j) h in
      let now : VariableAlike b.world.holders b.world.start z.variables b.boxes i (boxed j) = b.related.values.known i (boxed j) known in
      ap (λ (x : FlatState). box_held (slice_get x.frame n)) b.is
      ∙ ap box_held (slot_known b.related.values n i ((same_kept b.later.own).kept n i mine) (boxed j) known now.now now.there)

  -- a variable that may be set is set by its place
  pub place_set : {w : World} {z : State} {y : FlatState} (e : FlatEnvironment) (k : Known) (o : Option ℕ) → k.fixed ≡ false → Beside ps w z y
      → VariableAt w e k o → (v : Value) → Beside ps w (set_at o v z) (flat_state.set_to k.place v e y)
  place_set e k None f b h v = absurd h
  place_set {w} {z} {y} e k (Some i) f b h v = by k.place k.fixed f h
    where
      by : (p : VariablePlace) (fixed : Bool) → fixed ≡ false → PlaceAt w e p fixed i → Beside ps w (set_at (Some i) v z) (flat_state.set_to p v e y)
      by (Slot n) true f h = absurd (cc f)
      by (Slot n) false f h = slot_set i n v h.0 h.1 b
      by (SlotBox n) fixed f h =
          subst (λ o. Beside ps w (set_at (Some i) v z) (flat_state.on_state (λ x. set_at o v x) y)) (sym (box_of_slot i n h.1.0 h.0 h.1.1 b))
          (variable_set i h.1.0 v h.1.1 b)
      by (CapturedValue n) fixed f h = absurd (let q : true ≡ false = sym h.1.2 ∙ f in cc q)
      by (CapturedBox n) fixed f h =
          subst (λ o. Beside ps w (set_at (Some i) v z) (flat_state.on_state (λ x. set_at (box_in o) v x) y)) (sym h.1.0)
          (variable_set i h.0 v h.1.1 b)
