-- Boxes are made one after another.
use Rattle.std.proofs.Common.{◌≡◌, ℕ, suc, ◌+◌, ◌<◌, ◌≤◌, Bool, true, false, List, [], ◌∷◌, ◌++◌, length, Some, refl, sym, ap, ◌∙◌, subst, append_assoc, length-append, arith}
use Rattle.std.specs.Prelude.{slice_set, if◌then◌else◌}
use Rattle.std.proofs.lemmas.Bool.Decides.{nat_tests}
use Rattle.std.proofs.lemmas.List.{append-nil}
use Rattle.std.proofs.Math.ListN.{length-set}
use Rattle.lang_meaning.specs.Prefixes.{IsPrefix}
use Rattle.lang_meaning.specs.State.{Limit, words, unlimited, has_room, full, room_left}
use Rattle.lang_meaning.specs.Values.{Value}
use Rattle.flat_language.specs.declared.place.Home.{Home}
use Rattle.flat_language.specs.declared.place.Home.TheVariants as home
use Rattle.flat_language.specs.FlatSignals.{with_boxes}
use Rattle.flat_language.specs.FlatState.{FlatState, FlatEvaluated, new_slots, new_boxes}
use Rattle.mid_code.specs.Arena.{word_in, left, with_heap}
use Rattle.mid_code.specs.Law.{Grown}
use Rattle.mid_code.specs.Meaning.{Context, exec}
use Rattle.mid_code.specs.MidCode.{code_of}
use Rattle.mid_code.specs.State.{Registers, register, MidState, MidOutcome}
use Rattle.mid_code.proofs.Growth.{exec_grown, levels_grow, turns_grow}
use Rattle.mid_arena.specs.Places.{Places, WordsOf, word_of}
use Rattle.mid_arena.specs.Standing.{ArenaStands}
use Rattle.mid_arena.proofs.OwnWords.{begun_state}
use Rattle.mid_arena.proofs.Lists.{set_elsewhere}
use Rattle.mid_arena.proofs.Making.{Room, is_left, is_wanting, room_for}
use Rattle.mid_arena.proofs.Memory.{heap_below, lent_in_heap}
use Rattle.mid_arena.proofs.Registers.{register_here, register_beside}
use Rattle.mid_arena.proofs.Running.{and_then, and_ends, constant_falls, request_falls, request_wanting, store_falls, move_falls, address_here}
use Rattle.back_lowering.specs.Leaves.{boxes_made}
use Rattle.back_lowering.specs.Registers.{of_code, enough_for}
use Rattle.back_lowering.specs.Steps.{Steps, constant, request, store, move}
use Rattle.back_relation.specs.Setting.{Setting}
use Rattle.back_relation.specs.Placed.{IsPlaced}
use Rattle.back_relation.specs.Worlds.{World}
use Rattle.back_relation.specs.Things.{Things, WithinLimit}
use Rattle.back_relation.specs.Around.{RoomFor}
use Rattle.back_relation.specs.Ends.{PaidFrom, FullThere, Stopped, RoomEnded}
use Rattle.back_relation.specs.Forms.{code_at}
use Rattle.back_relation.specs.Starts.{FlatGrown}
use Rattle.back_relation.proofs.Growth.{same_prefix, same_flat, both_flat}
use Rattle.back_relation.proofs.Starts.{room_after}
use Rattle.back_relation.proofs.Then.{world_then, back_then}
use Rattle.back_relation.proofs.Worlds.{later_same, word_later}
use Rattle.back_values.specs.Arguments.{WordsIn}
use Rattle.back_values.proofs.WordLists.{words_kept, of_values_later}
use Rattle.back_values.specs.Boxes.{box_cost, Clean, extended, SlotsIn, BoxesMade, BoxesEnd, made, no_words, no_space, LawOfBoxes}
use Rattle.back_values.proofs.NewBoxes.{box_asked, box_world, things_boxed, world_boxed, around_boxed, clean_boxed, box_is}

-- code only grows
pub steps_grow : (setting : Setting) (k n : ℕ) (ss : Steps) (regs : Registers) (y : MidState) → Grown y (exec (code_at setting k n) (code_of ss) regs y).state
steps_grow setting k n ss regs y =
    exec_grown (code_at setting k n) (levels_grow setting.procedures setting.turns_each k)
    (turns_grow setting.procedures _ (levels_grow setting.procedures setting.turns_each k) n) (code_of ss) regs y

asked_grows : (z : FlatState) → FlatGrown z (box_asked z)
asked_grows z = record { printed = same_prefix z.state.printed; units = omega arith; exits = omega arith }

pub boxes_grow :
    (limit : Limit) (hs : List Home) (z : FlatState) (next : FlatState → FlatEvaluated) → ((z : FlatState) → FlatGrown z (next z).state)
    → FlatGrown z (with_boxes limit hs z next).state
boxes_grow limit [] z next grown = grown z
boxes_grow limit (home.Slot ∷ hs) z next grown = boxes_grow limit hs z next grown
boxes_grow limit (home.Boxed ∷ hs) z next grown =
    by (has_room limit (z.state.heap + z.state.stack + 1 + 0)) (both_flat (asked_grows z) (boxes_grow limit hs (box_asked z) next grown))
  where
    by :
        (b : Bool) → FlatGrown z (with_boxes limit hs (box_asked z) next).state
        → FlatGrown z (if b then with_boxes limit hs (box_asked z) next
        else record { outcome = full (1 + 0) (room_left limit (z.state.heap + z.state.stack)); state = z }).state
    by true inner = inner
    by false inner = same_flat z

-- no words are left for the meaning
pub full_printed : (z : FlatState) (y : MidState) (q : MidOutcome) → y.printed ≡ z.state.printed → Grown y q.state → IsPrefix z.state.printed q.state.printed
full_printed z y q same g = subst (λ p. IsPrefix p q.state.printed) same (record { rest = g.printed.0; is = sym g.printed.1 })

pub within_asked : (l : Limit) (z : FlatState) → has_room l (z.state.heap + z.state.stack + 1 + 0) ≡ true → WithinLimit l (box_asked z).state
within_asked unlimited z e = tt
within_asked (words m) z e =
    let h : z.state.heap + z.state.stack + 1 + 0 ≤ m = grind (arith, nat_tests) in
    omega (arith, h)

-- no words are left for the code, though the meaning has some: so there is no limit
wanting : (setting : Setting) (l : Limit) (room : ℕ) (z : FlatState) (y : MidState) (r : FlatEvaluated) → has_room l (z.state.heap + z.state.stack + 1 + 0) ≡ true
    → left y.arena < 1 → RoomFor l room z.state y → RoomEnded setting l r.outcome
wanting setting unlimited room z y r e few h = tt
wanting setting (words m) room z y r e few h =
    let g : z.state.heap + z.state.stack + 1 + 0 ≤ m = grind (arith, nat_tests) in
    absurd (omega (arith, g, h, few))

module _ (setting : Setting) (placed : IsPlaced setting) (k n room t : ℕ) (rest : Steps) (next : FlatState → FlatEvaluated) (grown : (z : FlatState) → FlatGrown z (next z).state)
    (Whole : FlatEvaluated → MidOutcome → Type 0) (whole_full : (r : FlatEvaluated) (q : MidOutcome) → FullThere setting r q → Whole r q)
    (z0 : FlatState) (y0 : MidState) (whole_stopped : (r : FlatEvaluated) (q : MidOutcome) → Stopped setting box_cost z0 y0 r q → Whole r q) where
  abbrev c : Context
  c = code_at setting k n

  abbrev code : List Home → ℕ → Steps
  code hs d = boxes_made hs d t ++ rest

  abbrev GoesOn : (hs : List Home) (vs : List Value) (d : ℕ) (before : List Value) (w : World) (z : FlatState) (regs : Registers) (y : MidState) → Type 0
  GoesOn hs vs d before w z regs y =
      (w' : World) (z' : FlatState) (regs' : Registers) (y' : MidState) → BoxesMade setting hs vs d before w w' z z' regs regs' y y'
      → Whole (next z') (exec c (code_of rest) regs' y')

  abbrev Goes : List Home → Type 0
  Goes hs =
      (vs : List Value) (ws : List ℕ) (d : ℕ) (before : List Value) (w : World) (z : FlatState) (regs : Registers) (y : MidState) → Things setting w (extended before z) y
      → Clean w y → RoomFor setting.limit room (extended before z).state y → length vs ≡ length hs → WordsOf w.places vs ws → WordsIn d ws regs → d + length hs ≤ t
      → enough_for (of_code (code_of (boxes_made hs d t))) ≤ length regs → PaidFrom 0 z0 y0 z y → GoesOn hs vs d before w z regs y
      → Whole (with_boxes setting.limit hs z next) (exec c (code_of (code hs d)) regs y)

  nothing_made : (d : ℕ) (before : List Value) (w : World) (z : FlatState) (regs : Registers) (y : MidState) → Things setting w (extended before z) y → Clean w y
      → BoxesMade setting [] [] d before w w z z regs regs y y
  nothing_made d before w z regs y things clean = record {
    variables = before;
    are = sym (append-nil before);
    world = record {
      later = later_same w;
      things = things;
      stack = record { words = λ x low high plain. refl; bindings = λ i a f low high. f };
      end = λ n e. e;
      more_exits = omega arith;
      same_size = refl;
    };
    back = record {
      control = record { current = λ n e. e; link = λ n e. e; handlers = λ n e. e; bindings = λ n e. e };
      blocks = refl;
      charged = omega arith;
      paid = omega arith;
    };
    clean = clean;
    slots = tt;
    count = refl;
    below = λ r few. refl;
    frame = refl;
    captured = refl;
    same_variables = refl;
    up = omega arith;
  }

  -- a slot in front
  slot_too :
      {hs : List Home} {vs : List Value} {d : ℕ} {before : List Value} {w w' : World} {z z' : FlatState} {regs regs' : Registers} {y y' : MidState} (v : Value) (word : ℕ)
      → word_of w.places v ≡ Some word → register d regs ≡ Some word → BoxesMade setting hs vs (d + 1) before w w' z z' regs regs' y y'
      → BoxesMade setting (home.Slot ∷ hs) (v ∷ vs) d before w w' z z' regs regs' y y'
  slot_too {d = d} v word is here m = record {
    variables = m.variables;
    are = m.are;
    world = m.world;
    back = m.back;
    clean = m.clean;
    slots = ((word, ap word_in (m.below d (omega arith)) ∙ here, word_later m.world.later v word is), m.slots);
    count = m.count;
    below = λ r few. m.below r (omega arith);
    frame = m.frame;
    captured = m.captured;
    same_variables = m.same_variables;
    up = m.up;
  }

  -- the steps of a box
  abbrev box_registers : (d x : ℕ) → Registers → Registers
  box_registers d x regs = slice_set (slice_set (slice_set regs t (Some 1)) (t + 1) (Some x)) d (Some x)

  abbrev with_box : (word : ℕ) → MidState → MidState
  with_box word y = begun_state y 1 (word ∷ []) (y.cost + 40)

  box_runs :
      (ss : Steps) (d word : ℕ) (regs : Registers) (y : MidState) → ArenaStands y.arena → 1 ≤ left y.arena → d < t → t + 1 < length regs → register d regs ≡ Some word
      → exec c (code_of (constant t 1 ∷ request (t + 1) t ∷ store d (t + 1) 0 ∷ move d (t + 1) ∷ ss)) regs y
      ≡ exec c (code_of ss) (box_registers d y.arena.heap_to regs) (with_box word y)
  box_runs ss d word regs y arena some before there here =
      let x : ℕ = y.arena.heap_to in
      let regs1 : Registers = slice_set regs t (Some 1) in
      let regs2 : Registers = slice_set regs1 (t + 1) (Some x) in
      let there1 : t + 1 < length regs1 = omega (arith, there, length-set regs t (Some 1)) in
      let below = heap_below arena in
      let pointer : register (t + 1) regs2 ≡ Some x = register_here regs1 (t + 1) x there1 in
      let value : register d regs2 ≡ Some word =
      register_beside regs1 (t + 1) d (Some x) (λ e. omega (arith, e, before)) ∙ register_beside regs t d (Some 1) (λ e. omega (arith, e, before)) ∙ here in
      let run = and_then {c = c} {rs = regs} {z = y} constant_falls
      (and_then (request_falls (register_here regs t 1 (omega (arith, there))) some)
      (and_then (store_falls value pointer (address_here x (omega (arith, below))) (lent_in_heap (with_heap 1 y.arena) x arena.aligned (omega (arith, arena.heap)) (omega arith)))
      (and_then (move_falls pointer) (record { same = refl })))) in
      let cost : y.cost + 6 + 20 + 8 + 6 ≡ y.cost + 40 = omega arith in
      run.same ∙ ap (λ n. exec c (code_of ss) (box_registers d x regs) (begun_state y 1 (word ∷ []) n)) cost

  -- a box in front
  module _ {w : World} {y : MidState} (before : List Value) (z : FlatState) (things : Things setting w (extended before z) y) (clean : Clean w y) (v : Value) (word : ℕ)
      (is : word_of w.places v ≡ Some word) (some : 1 ≤ left y.arena) (within : WithinLimit setting.limit (box_asked z).state) where
    abbrev next_world : World
    next_world = box_world setting placed before z things clean v word 40 is some within (omega arith)

    box_too :
        {hs : List Home} {vs : List Value} {d : ℕ} {w' : World} {z' : FlatState} {regs regs' : Registers} {y' : MidState} → d < t → t + 1 < length regs
        → BoxesMade setting hs vs (d + 1) (before ++ v ∷ []) next_world w' (box_asked z) z' (box_registers d y.arena.heap_to regs) regs' (with_box word y) y'
        → BoxesMade setting (home.Boxed ∷ hs) (v ∷ vs) d before w w' z z' regs regs' y y'
    box_too {hs} {vs} {d} {w'} {z'} {regs} {regs'} {y'} low there m =
        let x : ℕ = y.arena.heap_to in
        let regs1 : Registers = slice_set regs t (Some 1) in
        let regs2 : Registers = slice_set regs1 (t + 1) (Some x) in
        let world1 = world_boxed setting placed before z things clean v word 40 is some within (omega arith) in
        let back1 = around_boxed setting placed before z things clean v word 40 is some within (omega arith) in
        let there2 : d < length regs2 = omega (arith, there, low, length-set regs t (Some 1), length-set regs1 (t + 1) (Some x)) in
        let last : length (before ++ v ∷ []) ≡ length before + 1 = length-append before (v ∷ []) in
        record {
          variables = m.variables;
          are = m.are ∙ append_assoc before (v ∷ []) (new_boxes hs vs);
          world = world_then setting world1 back1 m.world;
          back = back_then setting world1 back1 (omega arith) m.back;
          clean = m.clean;
          slots = (
            (
              x,
              ap word_in (m.below d (omega arith)) ∙ register_here regs2 d x there2,
              m.world.later.boxes (length before) x (box_is setting placed before z things clean v word 40 is some within (omega arith)),
            ),
            subst (λ i. SlotsIn w' (d + 1) (new_slots hs vs i) regs') last m.slots,
          );
          count = m.count ∙ length-set regs2 d (Some x) ∙ length-set regs1 (t + 1) (Some x) ∙ length-set regs t (Some 1);
          below = λ r few.
              m.below r (omega (arith, few)) ∙ set_elsewhere regs2 d r (Some x) (λ e. omega (arith, e, few))
              ∙ set_elsewhere regs1 (t + 1) r (Some x) (λ e. omega (arith, e, few, low)) ∙ set_elsewhere regs t r (Some 1) (λ e. omega (arith, e, few, low));
          frame = m.frame;
          captured = m.captured;
          same_variables = m.same_variables;
          up = let more = m.up in omega (arith, more);
        }

  -- the words of the others stay where they are
  others_stay : (ws : List ℕ) (d x : ℕ) (regs : Registers) → d + 1 + length ws ≤ t → WordsIn (d + 1) ws regs → WordsIn (d + 1) ws (box_registers d x regs)
  others_stay ws d x regs few h =
      let regs1 : Registers = slice_set regs t (Some 1) in
      let regs2 : Registers = slice_set regs1 (t + 1) (Some x) in
      words_kept (d + 1) ws regs (box_registers d x regs)
      (λ r low high.
      register_beside regs2 d r (Some x) (λ e. omega (arith, e, low)) ∙ register_beside regs1 (t + 1) r (Some x) (λ e. omega (arith, e, high, few))
      ∙ register_beside regs t r (Some 1) (λ e. omega (arith, e, high, few)))
      h

  set_count : (d x : ℕ) (regs : Registers) → length (box_registers d x regs) ≡ length regs
  set_count d x regs =
      let regs1 : Registers = slice_set regs t (Some 1) in
      let regs2 : Registers = slice_set regs1 (t + 1) (Some x) in
      length-set regs2 d (Some x) ∙ length-set regs1 (t + 1) (Some x) ∙ length-set regs t (Some 1)

  word_count : (places : Places) (vs : List Value) (ws : List ℕ) → WordsOf places vs ws → length ws ≡ length vs
  word_count places [] [] h = refl
  word_count places [] (w ∷ ws) h = absurd h
  word_count places (v ∷ vs) [] h = absurd h
  word_count places (v ∷ vs) (w ∷ ws) h = ap (λ n. suc n) (word_count places vs ws h.1)

  box_fits :
      (hs : List Home) (d size : ℕ) → enough_for (of_code (code_of (boxes_made (home.Boxed ∷ hs) d t))) ≤ size
      → (t + 1 < size) × (enough_for (of_code (code_of (boxes_made hs (d + 1) t))) ≤ size)
  box_fits hs d size h = (omega (arith, h), omega (arith, h))

  boxed : (hs : List Home) → Goes hs → Goes (home.Boxed ∷ hs)
  boxed hs goes [] ws d before w z regs y things clean h same is inside fits there paid goes_on = absurd (omega (arith, same))
  boxed hs goes (v ∷ vs) [] d before w z regs y things clean h same is inside fits there paid goes_on = absurd is
  boxed hs goes (v ∷ vs) (word ∷ ws) d before w z regs y things clean h same is inside fits there paid goes_on =
      by (has_room setting.limit (z.state.heap + z.state.stack + 1 + 0)) refl
    where
      boxed_code : Steps
      boxed_code = constant t 1 ∷ request (t + 1) t ∷ store d (t + 1) 0 ∷ move d (t + 1) ∷ code hs (d + 1)

      top : t + 1 < length regs
      top = (box_fits hs d (length regs) there).0

      with_room : has_room setting.limit (z.state.heap + z.state.stack + 1 + 0) ≡ true → Room 1 y.arena → Whole (with_boxes setting.limit hs (box_asked z) next) (exec c (code_of boxed_code) regs y)
      with_room e (is_left some) =
          let within : WithinLimit setting.limit (box_asked z).state = within_asked setting.limit z e in
          let low : d < t = omega (arith, fits) in
          let wc = word_count w.places vs ws is.1 in
          let things1 = things_boxed setting placed before z things clean v word 40 is.0 some within (omega arith) in
          let clean1 = clean_boxed setting placed before z things clean v word 40 is.0 some within (omega arith) in
          let world1 = world_boxed setting placed before z things clean v word 40 is.0 some within (omega arith) in
          let back1 = around_boxed setting placed before z things clean v word 40 is.0 some within (omega arith) in
          let regs3 : Registers = box_registers d y.arena.heap_to regs in
          subst (λ q. Whole (with_boxes setting.limit hs (box_asked z) next) q)
          (sym (box_runs (code hs (d + 1)) d word regs y things.represents.arena some low top inside.0))
          (goes vs ws (d + 1) (before ++ v ∷ []) (next_world before z things clean v word is.0 some within) (box_asked z) regs3 (with_box word y) things1 clean1
          (room_after setting.limit room room (extended before z) (extended (before ++ v ∷ []) (box_asked z)) y (with_box word y) (omega arith) back1.charged h) (omega (arith, same))
          (of_values_later world1.later vs ws is.1) (others_stay ws d y.arena.heap_to regs (omega (arith, fits, same, wc)) inside.1) (omega (arith, fits))
          (subst (λ i. enough_for (of_code (code_of (boxes_made hs (d + 1) t))) ≤ i) (sym (set_count d y.arena.heap_to regs)) (box_fits hs d (length regs) there).1)
          (omega (arith, paid, back1.paid)) (λ w' z' regs' y' m. goes_on w' z' regs' y' (box_too before z things clean v word is.0 some within low top m)))
      with_room e (is_wanting few) =
          let run = and_then {c = c} {code = code_of (request (t + 1) t ∷ store d (t + 1) 0 ∷ move d (t + 1) ∷ code hs (d + 1))} {rs = regs} {z = y} constant_falls
          (and_ends tt (request_wanting (register_here regs t 1 (omega (arith, top))) few)) in
          subst (λ q. Whole (with_boxes setting.limit hs (box_asked z) next) q) (sym run.same)
          (whole_stopped _ _
          (record {
            because = (wanting setting setting.limit room (extended before z) y (with_boxes setting.limit hs (box_asked z) next) e few h, few);
            printed =
                subst (λ p. IsPrefix p (with_boxes setting.limit hs (box_asked z) next).state.state.printed) (sym things.represents.printed)
                (boxes_grow setting.limit hs (box_asked z) next grown).printed;
            paid = λ ended. omega (arith, paid, (boxes_grow setting.limit hs (box_asked z) next grown).units);
          }))

      by :
          (b : Bool) → has_room setting.limit (z.state.heap + z.state.stack + 1 + 0) ≡ b
          → Whole (if b then with_boxes setting.limit hs (box_asked z) next
          else record { outcome = full (1 + 0) (room_left setting.limit (z.state.heap + z.state.stack)); state = z }) (exec c (code_of boxed_code) regs y)
      by true e = with_room e (room_for 1 y.arena)
      by false e =
          whole_full _ _
          (record {
            asked = 1 + 0;
            left_then = room_left setting.limit (z.state.heap + z.state.stack);
            outcome = refl;
            printed = full_printed z y (exec c (code_of boxed_code) regs y) things.represents.printed (steps_grow setting k n boxed_code regs y);
          })

  slotted : (hs : List Home) → Goes hs → Goes (home.Slot ∷ hs)
  slotted hs goes [] ws d before w z regs y things clean h same is inside fits there paid goes_on = absurd (omega (arith, same))
  slotted hs goes (v ∷ vs) [] d before w z regs y things clean h same is inside fits there paid goes_on = absurd is
  slotted hs goes (v ∷ vs) (word ∷ ws) d before w z regs y things clean h same is inside fits there paid goes_on =
      goes vs ws (d + 1) before w z regs y things clean h (omega (arith, same)) is.1 inside.1 (omega (arith, fits)) there paid
      (λ w' z' regs' y' m. goes_on w' z' regs' y' (slot_too v word is.0 inside.0 m))

  pub boxes_go_on : (hs : List Home) → Goes hs
  boxes_go_on [] [] ws d before w z regs y things clean h same is inside fits there paid goes_on = goes_on w z regs y (nothing_made d before w z regs y things clean)
  boxes_go_on [] (v ∷ vs) ws d before w z regs y things clean h same is inside fits there paid goes_on = absurd (omega (arith, same))
  boxes_go_on (home.Slot ∷ hs) vs ws d before w z regs y things clean h same is inside fits there paid goes_on =
      slotted hs (boxes_go_on hs) vs ws d before w z regs y things clean h same is inside fits there paid goes_on
  boxes_go_on (home.Boxed ∷ hs) vs ws d before w z regs y things clean h same is inside fits there paid goes_on =
      boxed hs (boxes_go_on hs) vs ws d before w z regs y things clean h same is inside fits there paid goes_on

pub boxes_law : (setting : Setting) → LawOfBoxes setting
boxes_law setting k n room hs vs ws d t w z regs y rest next placed things clean h same is inside fits there grown =
    boxes_go_on setting placed k n room t rest next grown
    (λ r q. BoxesEnd setting hs vs d w z regs y next (λ g x. exec (code_at setting k n) (code_of rest) g x) r q)
    (λ r q f. no_words f) z y (λ r q f. no_space f) hs vs ws d z.state.variables w z regs y things clean h same is inside fits there (omega arith)
    (λ w' z' regs' y' m. made w' z' regs' y' m refl refl)
