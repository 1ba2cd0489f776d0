-- Parameters come into their places at an entry: the return address and those that are put into slots are stored.
use Rattle.std.proofs.Common.{◌≡◌, ◌≢◌, ℕ, zero, suc, ◌+◌, ◌*◌, ◌<◌, ◌≤◌, Bool, true, false, List, [], ◌∷◌, ◌++◌, length, refl, sym, ap, subst, ◌∙◌, arith, Some, length-append}
use Rattle.std.specs.Prelude.{slice_index, slice_get, nat_lt, if◌then◌else◌}
use Rattle.std.proofs.lemmas.Bool.Decides.{nat_tests}
use Rattle.rv_encode.specs.declared.instruction.Instr.{Instr}
use Rattle.rv_encode.specs.declared.instruction.Instr.TheVariants.{Lw, Sw}
use Rattle.back_places.specs.declared.place.Place.{Place}
use Rattle.back_places.specs.declared.place.Place.TheVariants.{InRegister, InSlot, AsConstant}
use Rattle.back_places.specs.Places.{Located, from_stack, argument_register}
use Rattle.back_places.specs.Operands.{at_word, at_slot}
use Rattle.back_places.specs.Passing.{parameter_code, parameters_code}
use Rattle.back_places.specs.LineCode.{save_code}
use Rattle.back_places.specs.Facts.{IsPlace, Apart, IsSomewhere, IsParameterPlace, AreParameterPlaces, AllApart, EachApart}
use Rattle.back_places.specs.Relation.{HasCode, IsAt, argument_in, ArePassed}
use Rattle.back_places.specs.StepLaw.{Comes}
use Rattle.back_emission.specs.Moments.{state_at, Beside, later, moment, AreSmall, Ready}
use Rattle.back_emission.proofs.Lengths.{slot_length, either_length}
use Rattle.back_emission.proofs.Passing.{is_value_register}
use Rattle.back_steps.proofs.FrameStores.{IsElsewhere, AreElsewhere, outside_of_places, below_places, AtFrame, Stores, still_at_frame, stores_none, stores_after, stores_on, slot_stored, word_loaded}

-- an argument that is passed in a register, and one that is not
pub in_its_register : (l : Located) (i w : ℕ) (words registers : List ℕ) → i < 14 → argument_in l registers words i ≡ w → slice_index registers (argument_register i) ≡ w
in_its_register l i w words registers low h =
    let e : nat_lt i 14 ≡ true = grind (arith, nat_tests, low) in
    ap (λ t. if t then slice_index registers (argument_register i) else slice_index words (l.arguments_at + i)) (sym e) ∙ h

in_its_word : (l : Located) (i w : ℕ) (words registers : List ℕ) → nat_lt i 14 ≡ false → argument_in l registers words i ≡ w → slice_index words (l.arguments_at + i) ≡ w
in_its_word l i w words registers e h =
    ap (λ t. if t then slice_index registers (argument_register i) else slice_index words (l.arguments_at + i)) (sym e) ∙ h

-- arguments are still passed where the registers of values and the words below a frame are as before
pub passed_still :
    (l : Located) (base i : ℕ) (words words' registers registers' : List ℕ) (ws : List ℕ) → ((q : ℕ) → 7 < q → slice_index registers' q ≡ slice_index registers q)
    → ((j : ℕ) → j < base → slice_index words' j ≡ slice_index words j) → l.arguments_at + i + length ws ≤ base
    → ArePassed l registers words i ws → ArePassed l registers' words' i ws
passed_still l base i words words' registers registers' [] others kept room h = tt
passed_still l base i words words' registers registers' (w ∷ ws) others kept room h =
    (by (nat_lt i 14) refl h.0, passed_still l base (i + 1) words words' registers registers' ws others kept (omega (arith, room)) h.1)
  where
    by : (t : Bool) → nat_lt i 14 ≡ t → (if t then slice_index registers (argument_register i) else slice_index words (l.arguments_at + i)) ≡ w
        → (if t then slice_index registers' (argument_register i) else slice_index words' (l.arguments_at + i)) ≡ w
    by true e k = let is = is_value_register i (grind (arith, nat_tests, e)) in others (argument_register i) is.0 ∙ k
    by false e k = kept (l.arguments_at + i) (omega (arith, room)) ∙ k

-- an argument of those that are passed
pub passed_at :
    (l : Located) (i n w : ℕ) (words registers : List ℕ) (ws : List ℕ) → ArePassed l registers words i ws → slice_get ws n ≡ Some w → argument_in l registers words (i + n) ≡ w
passed_at l i n w words registers [] h e = absurd (cc e)
passed_at l i zero w words registers (x ∷ ws) h e =
    let same : i + 0 ≡ i = omega arith in
    let is : x ≡ w = cc e in
    ap (λ k. argument_in l registers words k) same ∙ h.0 ∙ is
passed_at l i (suc n) w words registers (x ∷ ws) h e =
    let same : i + suc n ≡ i + 1 + n = omega arith in
    ap (λ k. argument_in l registers words k) same ∙ passed_at l (i + 1) n w words registers ws h.1 e

-- the words of places in which something is
abbrev pub ArePut : (registers words : List ℕ) (base : ℕ) → List Place → List ℕ → Type 0
ArePut registers words base [] ws = Unit {0}
ArePut registers words base (p ∷ ps) [] = Unit {0}
ArePut registers words base (p ∷ ps) (w ∷ ws) = (IsSomewhere p → IsAt registers words base p w) × ArePut registers words base ps ws

pub put_at :
    (registers words : List ℕ) (base n w : ℕ) (p : Place) (ps : List Place) (ws : List ℕ) → ArePut registers words base ps ws
    → slice_get ps n ≡ Some p → slice_get ws n ≡ Some w → IsSomewhere p → IsAt registers words base p w
put_at registers words base n w p [] ws h e k some = absurd (cc e)
put_at registers words base n w p (q ∷ ps) [] h e k some = absurd (cc k)
put_at registers words base zero w p (q ∷ ps) (x ∷ ws) h e k some =
    let same : p ≡ q = cc e in
    let is : w ≡ x = cc k in
    subst (λ y. IsAt registers words base p y) (sym is) (subst (λ r. IsSomewhere r → IsAt registers words base r x) (sym same) h.0 some)
put_at registers words base (suc n) w p (q ∷ ps) (x ∷ ws) h e k some = put_at registers words base n w p ps ws h.1 e k some

module _ (l : Located) (Fact : (number line register : ℕ) → Place → Type 0) (base frame : ℕ) where
  -- one parameter comes to its place
  parameter_put :
      (i w : ℕ) (p : Place) (words registers : List ℕ) → AtFrame words registers base frame → IsParameterPlace l Fact i p → IsPlace frame p
      → l.arguments_at + i < base → argument_in l registers words i ≡ w
      → (d : Stores base (p ∷ []) words registers (parameter_code l.arguments_at i p)) × (IsSomewhere p → IsAt d.registers' d.words' base p w)
  parameter_put i w (InRegister r) words registers a is ok below passed =
      (stores_none base frame (InRegister r ∷ []) words registers a, λ some. ap (λ k. slice_index registers k) is.1 ∙ in_its_register l i w words registers is.0 passed)
  parameter_put i w (AsConstant c) words registers a is ok below passed = (stores_none base frame (AsConstant c ∷ []) words registers a, λ some. absurd some)
  parameter_put i w (InSlot k) words registers a is ok below passed = by (nat_lt i 14) refl
    where
      on :
          (f : Stores base [] words registers (at_word (l.arguments_at + i) (Lw 5)))
          → (g : Stores base (InSlot k ∷ []) f.words' f.registers' (at_slot (from_stack 0) k (Sw 5))) → slice_index g.words' (base + k) ≡ w
          → (d : Stores base (InSlot k ∷ []) words registers (at_word (l.arguments_at + i) (Lw 5) ++ at_slot (from_stack 0) k (Sw 5)))
          × (IsSomewhere (InSlot k) → slice_index d.words' (base + k) ≡ w)
      on f g h = (
        stores_on base frame [] (InSlot k ∷ []) words registers (at_word (l.arguments_at + i) (Lw 5)) (at_slot (from_stack 0) k (Sw 5)) a f g,
        λ some. h,
      )

      by : (t : Bool) → nat_lt i 14 ≡ t
          → (d : Stores base (InSlot k ∷ []) words registers
          (if t then at_slot (from_stack 0) k (Sw (argument_register i)) else at_word (l.arguments_at + i) (Lw 5) ++ at_slot (from_stack 0) k (Sw 5)))
          × (IsSomewhere (InSlot k) → slice_index d.words' (base + k) ≡ w)
      by true e =
          let low : i < 14 = grind (arith, nat_tests, e) in
          let high = is_value_register i low in
          let s = slot_stored base frame k (argument_register i) w words registers a ok.1 (in_its_register l i w words registers low passed) (λ q. omega (arith, high.0, q)) in
          (s.0, λ some. s.1)
      by false e =
          let inside : l.arguments_at + i < length words = omega (arith, below, a.frame_is.inside) in
          let one = word_loaded (l.arguments_at + i) w words registers a.small a.ready inside a.frame_is.memory_small (in_its_word l i w words registers e passed) in
          let f = stores_after base frame w [] words registers (at_word (l.arguments_at + i) (Lw 5)) a one in
          let s = slot_stored base frame k 5 w words one.registers' (still_at_frame base frame [] words registers (at_word (l.arguments_at + i) (Lw 5)) a f) ok.1 one.holds (λ q. omega (arith, q)) in
          on f s.0 s.1

  -- a slot apart from others is none of them
  slot_apart : (k : ℕ) (q : Place) → Apart (InSlot k) q → IsElsewhere base q (base + k)
  slot_apart k (InRegister r) h = tt
  slot_apart k (InSlot j) h = λ e. h (omega (arith, e))
  slot_apart k (AsConstant c) h = tt

  slots_apart : (k : ℕ) (ps : List Place) → AllApart l Fact (InSlot k) ps → AreElsewhere base ps (base + k)
  slots_apart k [] h = tt
  slots_apart k (q ∷ ps) h = (slot_apart k q h.0, slots_apart k ps h.1)

  -- what has come to its place is there still when others come to theirs
  put_still :
      (i w : ℕ) (p : Place) (ps : List Place) (words registers : List ℕ) (code : List Instr) → (g : Stores base ps words registers code)
      → IsParameterPlace l Fact i p → AllApart l Fact p ps → IsAt registers words base p w → IsAt g.registers' g.words' base p w
  put_still i w (InRegister r) ps words registers code g is apart h =
      let high = is_value_register i is.0 in
      g.others r (λ e. omega (arith, high.0, is.1, e)) (λ e. omega (arith, high.0, is.1, e)) ∙ h
  put_still i w (InSlot k) ps words registers code g is apart h = g.elsewhere (base + k) (slots_apart k ps apart) ∙ h
  put_still i w (AsConstant c) ps words registers code g is apart h = h

  -- all parameters come to their places
  parameters_put :
      (i : ℕ) (ps : List Place) (ws words registers : List ℕ) → AtFrame words registers base frame → AreParameterPlaces l Fact i ps
      → ((n : ℕ) (p : Place) → slice_get ps n ≡ Some p → IsPlace frame p) → EachApart l Fact ps → ArePassed l registers words i ws → length ws ≡ length ps
      → l.arguments_at + i + length ps ≤ base
      → (d : Stores base ps words registers (parameters_code l.arguments_at i ps)) × ArePut d.registers' d.words' base ps ws
  parameters_put i [] ws words registers a places ok apart passed same below = (stores_none base frame [] words registers a, tt)
  parameters_put i (p ∷ ps) [] words registers a places ok apart passed same below = absurd (omega (arith, same))
  parameters_put i (p ∷ ps) (w ∷ ws) words registers a places ok apart passed same below =
      let code = parameter_code l.arguments_at i p in
      let one = parameter_put i w p words registers a places.0 (ok 0 p refl) (omega (arith, below)) passed.0 in
      let f = one.0 in
      let rest = parameters_put (i + 1) ps ws f.words' f.registers' (still_at_frame base frame (p ∷ []) words registers code a f) places.1 (λ n q e. ok (suc n) q e) apart.1
      (passed_still l base (i + 1) words f.words' registers f.registers' ws (λ q high. f.others q (λ e. omega (arith, high, e)) (λ e. omega (arith, high, e)))
      (λ j low. f.elsewhere j (below_places base (p ∷ []) j low)) (omega (arith, below, same)) passed.1)
      (omega (arith, same)) (omega (arith, below)) in
      let g = rest.0 in (
        stores_on base frame (p ∷ []) ps words registers code (parameters_code l.arguments_at (i + 1) ps) a f g,
        (λ some. put_still i w p ps f.words' f.registers' (parameters_code l.arguments_at (i + 1) ps) g places.0 apart.0 (one.1 some), rest.1),
      )

-- where the return address is kept
abbrev pub saved_places : Bool → List Place
saved_places true = InSlot 0 ∷ []
saved_places false = []

link_saved :
    (l : Located) (base frame : ℕ) (saves : Bool) (words registers : List ℕ) → AtFrame words registers base frame → (saves ≡ true → 0 < frame)
    → (d : Stores base (saved_places saves) words registers (save_code l saves)) × (saves ≡ true → slice_index d.words' base ≡ slice_index registers 1)
link_saved l base frame false words registers a some = (stores_none base frame [] words registers a, λ e. absurd (cc e))
link_saved l base frame true words registers a some =
    let s = slot_stored base frame 0 1 (slice_index registers 1) words registers a (some refl) refl (λ e. omega (arith, e)) in
    let zero_is : base ≡ base + 0 = omega arith in
    (s.0, λ e. ap (λ k. slice_index s.0.words' k) zero_is ∙ s.1)

-- What the code of an entry behind the test for room does: only words of the frame have changed.
pub record FrameFilled (saves : Bool) (base frame : ℕ) (ps : List Place) (ws words registers : List ℕ) (code : List Instr) : Type 0 where
  pub registers' : List ℕ
  pub words' : List ℕ
  pub by :
      (at : ℕ) (o : Beside) → HasCode words at code → at + length code ≤ base
      → Comes (length code) (moment (state_at at registers words) o) (moment (state_at (at + length code) registers' words') (later (length code) o))
  pub others : (q : ℕ) → q ≢ 5 → q ≢ 7 → slice_index registers' q ≡ slice_index registers q
  pub outside : (j : ℕ) → ((k : ℕ) → k < frame → j ≢ base + k) → slice_index words' j ≡ slice_index words j
  pub link : saves ≡ true → slice_index words' base ≡ slice_index registers 1
  pub put : ArePut registers' words' base ps ws
  pub long : length words' ≡ length words
  pub small : AreSmall words'
  pub ready : Ready registers'
  pub bounded : AreSmall registers'

module _ (l : Located) (Fact : (number line register : ℕ) → Place → Type 0) (base frame : ℕ) where
  saved_outside : (saves : Bool) (j : ℕ) → (saves ≡ true → 0 < frame) → ((k : ℕ) → k < frame → j ≢ base + k) → AreElsewhere base (saved_places saves) j
  saved_outside true j some h = (h 0 (some refl), tt)
  saved_outside false j some h = tt

  pub frame_filled :
      (saves : Bool) (ps : List Place) (ws words registers : List ℕ) → AtFrame words registers base frame → (saves ≡ true → 0 < frame) → AreParameterPlaces l Fact 0 ps
      → ((n : ℕ) (p : Place) → slice_get ps n ≡ Some p → IsPlace frame p) → EachApart l Fact ps → ArePassed l registers words 0 ws → length ws ≡ length ps
      → l.arguments_at + length ps ≤ base
      → FrameFilled saves base frame ps ws words registers (save_code l saves ++ parameters_code l.arguments_at 0 ps)
  frame_filled saves ps ws words registers a some places ok apart passed same below =
      let one = link_saved l base frame saves words registers a some in
      let f = one.0 in
      let rest = parameters_put l Fact base frame 0 ps ws f.words' f.registers' (still_at_frame base frame (saved_places saves) words registers (save_code l saves) a f) places ok apart
      (passed_still l base 0 words f.words' registers f.registers' ws (λ q high. f.others q (λ e. omega (arith, high, e)) (λ e. omega (arith, high, e)))
      (λ j low. f.elsewhere j (below_places base (saved_places saves) j low)) (omega (arith, below, same)) passed)
      same (omega (arith, below)) in
      let g = rest.0 in
      let both = stores_on base frame (saved_places saves) ps words registers (save_code l saves) (parameters_code l.arguments_at 0 ps) a f g in
      record {
        registers' = g.registers';
        words' = g.words';
        by = both.by;
        others = both.others;
        outside = λ j h. g.elsewhere j (outside_of_places base frame ps j ok (λ k low high. h k high)) ∙ f.elsewhere j (saved_outside saves j some h);
        link = λ e. g.elsewhere base (outside_of_places base frame ps base ok (λ k low high q. omega (arith, low, q))) ∙ one.1 e;
        put = rest.1;
        long = both.long;
        small = g.small;
        ready = g.ready;
        bounded = g.bounded;
      }

-- how long the code of parameters is at most
parameter_length : (at i : ℕ) (p : Place) → length (parameter_code at i p) ≤ 5
parameter_length at i (InRegister r) = omega arith
parameter_length at i (AsConstant c) = omega arith
parameter_length at i (InSlot k) =
    let near = slot_length (from_stack 0) k (Sw (argument_register i)) in
    let far = slot_length (from_stack 0) k (Sw 5) in
    either_length 5 (nat_lt i 14) (at_slot (from_stack 0) k (Sw (argument_register i))) (at_word (at + i) (Lw 5) ++ at_slot (from_stack 0) k (Sw 5)) (omega (arith, near))
    (omega (arith, far, length-append (at_word (at + i) (Lw 5)) (at_slot (from_stack 0) k (Sw 5))))

pub parameters_length : (at i : ℕ) (ps : List Place) → length (parameters_code at i ps) ≤ 5 * length ps
parameters_length at i [] = omega arith
parameters_length at i (p ∷ ps) =
    let one = parameter_length at i p in
    let rest = parameters_length at (i + 1) ps in
    omega (arith, one, rest, length-append (parameter_code at i p) (parameters_code at (i + 1) ps))

pub save_length : (l : Located) (saves : Bool) → length (save_code l saves) ≤ 1
save_length l true = omega arith
save_length l false = omega arith
