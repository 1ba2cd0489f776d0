-- Code that stores words into slots of a frame at the stack pointer, and changes scratch registers beside.
use Rattle.std.proofs.Common.{◌≡◌, ◌≢◌, ℕ, suc, ◌+◌, ◌*◌, ◌^◌, ◌<◌, ◌≤◌, List, [], ◌∷◌, ◌++◌, length, refl, sym, ap, subst, ◌∙◌, arith, Some, length-append}
use Rattle.std.specs.Prelude.{slice_index, slice_set, slice_get}
use Rattle.std.proofs.lemmas.List.{get_or-set_same, get_or-set_other, length-set}
use Rattle.base.specs.Arithmetic.{sum32}
use Rattle.rv_encode.specs.declared.instruction.Instr.{Instr}
use Rattle.rv_encode.specs.declared.instruction.Instr.TheVariants.{Lui, Lw, Sw}
use Rattle.rv_machine.specs.Memory.{bytes_of, number_at, stored_at}
use Rattle.rv_machine.specs.Words.{word_read, word_stored}
use Rattle.rv_machine.specs.Arithmetic.{sign_extended}
use Rattle.rv_machine.specs.Step.{next, execute, load, store}
use Rattle.rv_machine.specs.Run.{Moment}
use Rattle.back_places.specs.declared.place.Place.{Place}
use Rattle.back_places.specs.declared.place.Place.TheVariants.{InRegister, InSlot, AsConstant}
use Rattle.back_places.specs.Places.{from_stack}
use Rattle.back_places.specs.Operands.{high_part, low_part, at_word, at_slot}
use Rattle.back_places.specs.Facts.{IsPlace}
use Rattle.back_places.specs.Relation.{HasCode}
use Rattle.back_places.specs.StepLaw.{Comes}
use Rattle.back_emission.specs.Moments.{state_at, Beside, later, moment, AreSmall, Ready, Prepared, Frame}
use Rattle.back_emission.proofs.Coming.{has_front, has_back, next_place, and_on, and_one, sets_none, sets_on}
use Rattle.back_emission.proofs.Parts.{parts_sum}
use Rattle.back_emission.proofs.Operands.{set_small, prepared_one, reached}
use Rattle.back_emission.proofs.Private.{has_code_kept}

-- a word of the memory that is none of these slots of the frame that begins at a word
abbrev pub IsElsewhere : (base : ℕ) → Place → (j : ℕ) → Type 0
IsElsewhere base (InRegister r) j = Unit {0}
IsElsewhere base (InSlot k) j = j ≢ base + k
IsElsewhere base (AsConstant w) j = Unit {0}

abbrev pub AreElsewhere : (base : ℕ) → List Place → (j : ℕ) → Type 0
AreElsewhere base [] j = Unit {0}
AreElsewhere base (p ∷ ps) j = IsElsewhere base p j × AreElsewhere base ps j

-- no word outside of the frame is a slot of it
outside_of_place : (base frame : ℕ) (p : Place) (j : ℕ) → IsPlace frame p → ((k : ℕ) → 0 < k → k < frame → j ≢ base + k) → IsElsewhere base p j
outside_of_place base frame (InRegister r) j ok h = tt
outside_of_place base frame (InSlot k) j ok h = h k ok.0 ok.1
outside_of_place base frame (AsConstant w) j ok h = tt

pub outside_of_places :
    (base frame : ℕ) (ps : List Place) (j : ℕ) → ((i : ℕ) (p : Place) → slice_get ps i ≡ Some p → IsPlace frame p)
    → ((k : ℕ) → 0 < k → k < frame → j ≢ base + k) → AreElsewhere base ps j
outside_of_places base frame [] j ok h = tt
outside_of_places base frame (p ∷ ps) j ok h = (outside_of_place base frame p j (ok 0 p refl) h, outside_of_places base frame ps j (λ i q e. ok (suc i) q e) h)

below_place : (base : ℕ) (p : Place) (j : ℕ) → j < base → IsElsewhere base p j
below_place base (InRegister r) j h = tt
below_place base (InSlot k) j h = λ e. omega (arith, h, e)
below_place base (AsConstant w) j h = tt

pub below_places : (base : ℕ) (ps : List Place) (j : ℕ) → j < base → AreElsewhere base ps j
below_places base [] j h = tt
below_places base (p ∷ ps) j h = (below_place base p j h, below_places base ps j h)

pub front_elsewhere : (base : ℕ) (ps qs : List Place) (j : ℕ) → AreElsewhere base (ps ++ qs) j → AreElsewhere base ps j
front_elsewhere base [] qs j h = tt
front_elsewhere base (p ∷ ps) qs j h = (h.0, front_elsewhere base ps qs j h.1)

pub back_elsewhere : (base : ℕ) (ps qs : List Place) (j : ℕ) → AreElsewhere base (ps ++ qs) j → AreElsewhere base qs j
back_elsewhere base [] qs j h = h
back_elsewhere base (p ∷ ps) qs j h = back_elsewhere base ps qs j h.1

-- a frame at the stack pointer
pub record AtFrame (words registers : List ℕ) (base frame : ℕ) : Type 0 where
  pub small : AreSmall words
  pub ready : Ready registers
  pub bounded : AreSmall registers
  pub frame_is : Frame registers words (from_stack 0) base frame

-- Code that stands below a frame, and changes its slots and scratch registers alone.
pub record Stores (base : ℕ) (ps : List Place) (words registers : List ℕ) (code : List Instr) : Type 0 where
  pub registers' : List ℕ
  pub words' : List ℕ
  pub by :
      (at : ℕ) (o : Beside) → HasCode words at code → at + length code ≤ base
      → Comes (length code) (moment (state_at at registers words) o) (moment (state_at (at + length code) registers' words') (later (length code) o))
  pub others : (q : ℕ) → q ≢ 5 → q ≢ 7 → slice_index registers' q ≡ slice_index registers q
  pub elsewhere : (j : ℕ) → AreElsewhere base ps j → slice_index words' j ≡ slice_index words j
  pub long : length words' ≡ length words
  pub small : AreSmall words'
  pub ready : Ready registers'
  pub bounded : AreSmall registers'

pub still_at_frame :
    (base frame : ℕ) (ps : List Place) (words registers : List ℕ) (code : List Instr) → AtFrame words registers base frame → (f : Stores base ps words registers code)
    → AtFrame f.words' f.registers' base frame
still_at_frame base frame ps words registers code a f =
    let sp = f.others 2 (λ e. omega (arith, e)) (λ e. omega (arith, e)) in
    record {
      small = f.small;
      ready = f.ready;
      bounded = f.bounded;
      frame_is = record {
        leads = ap (λ x. x + 4 * 0) sp ∙ a.frame_is.leads;
        inside = omega (arith, a.frame_is.inside, f.long);
        memory_small = omega (arith, a.frame_is.memory_small, f.long);
      };
    }

-- the same moment, with its numbers in another form
pub same_arrival :
    (m : Moment) (registers words : List ℕ) (o : Beside) (c c' i i' e e' : ℕ) → c ≡ c' → i ≡ i' → e ≡ e'
    → Comes c m (moment (state_at i registers words) (record o { executed = e })) → Comes c' m (moment (state_at i' registers words) (record o { executed = e' }))
same_arrival m registers words o c c' i i' e e' hc hi he h =
    subst (λ k. Comes k m (moment (state_at i' registers words) (record o { executed = e' }))) hc
    (subst (λ k. Comes c m (moment (state_at k registers words) (record o { executed = e' }))) hi
    (subst (λ k. Comes c m (moment (state_at i registers words) (record o { executed = k }))) he h))

-- no code
abbrev pub stores_none : (base frame : ℕ) (ps : List Place) (words registers : List ℕ) → AtFrame words registers base frame → Stores base ps words registers []
stores_none base frame ps words registers a = record {
  registers' = registers;
  words' = words;
  by = λ at o has fits. (sets_none words registers).by at o tt (omega (arith, fits, a.frame_is.inside, a.frame_is.memory_small));
  others = λ q n5 n7. refl;
  elsewhere = λ j h. refl;
  long = refl;
  small = a.small;
  ready = a.ready;
  bounded = a.bounded;
}

-- code that sets register 5 alone
abbrev pub stores_after :
    (base frame w : ℕ) (ps : List Place) (words registers : List ℕ) (code : List Instr) → AtFrame words registers base frame → Prepared words registers code 5 w 5
    → Stores base ps words registers code
stores_after base frame w ps words registers code a p = record {
  registers' = p.registers';
  words' = words;
  by = λ at o has fits. p.sets.by at o has (omega (arith, fits, a.frame_is.inside, a.frame_is.memory_small));
  others = λ q n5 n7. p.others q n5 n7;
  elsewhere = λ j h. refl;
  long = refl;
  small = a.small;
  ready = p.ready;
  bounded = p.bounded a.bounded;
}

-- one after the other
abbrev pub stores_on :
    (base frame : ℕ) (ps qs : List Place) (words registers : List ℕ) (a b : List Instr) → AtFrame words registers base frame
    → (f : Stores base ps words registers a) → Stores base qs f.words' f.registers' b → Stores base (ps ++ qs) words registers (a ++ b)
stores_on base frame ps qs words registers a b there f g =
    let len : length (a ++ b) ≡ length a + length b = length-append a b in
    record {
      registers' = g.registers';
      words' = g.words';
      by = λ at o has fits.
          let code = has_code_kept words f.words' b (at + length a) f.long (λ j low high. f.elsewhere j (below_places base ps j (omega (arith, high, len, fits)))) (has_back words at a b has) in
          let one = f.by at o (has_front words at a b has) (omega (arith, len, fits)) in
          let two = g.by (at + length a) (later (length a) o) code (omega (arith, len, fits)) in
          same_arrival (moment (state_at at registers words) o) g.registers' g.words' o (length a + length b) (length (a ++ b)) (at + length a + length b) (at + length (a ++ b))
          (o.executed + length a + length b) (o.executed + length (a ++ b)) (sym len) (omega (arith, len)) (omega (arith, len)) (and_on one two);
      others = λ q n5 n7. g.others q n5 n7 ∙ f.others q n5 n7;
      elsewhere = λ j h. g.elsewhere j (back_elsewhere base ps qs j h) ∙ f.elsewhere j (front_elsewhere base ps qs j h);
      long = g.long ∙ f.long;
      small = g.small;
      ready = g.ready;
      bounded = g.bounded;
    }

-- a register into a slot, near or far
pub slot_stored :
    (base frame k x w : ℕ) (words registers : List ℕ) → AtFrame words registers base frame → k < frame → slice_index registers x ≡ w → x ≢ 7
    → (d : Stores base (InSlot k ∷ []) words registers (at_slot (from_stack 0) k (Sw x))) × (slice_index d.words' (base + k) ≡ w)
slot_stored base frame k x w words registers a within holds seven =
    let there = reached words registers (from_stack 0) base frame k a.small a.ready a.frame_is within in
    let ins = Sw x there.from there.offset in
    let place = base + k in
    let inside : place < length words = omega (arith, a.frame_is.inside, within) in
    let fits : w < 2 ^ 32 = omega (arith, a.bounded x, holds) in
    let words1 = slice_set words place w in
    subst (λ c. (d : Stores base (InSlot k ∷ []) words registers c) × (slice_index d.words' (base + k) ≡ w)) (sym (there.is_code (Sw x))) (
      record {
        registers' = there.registers';
        words' = words1;
        by = λ at o has below.
            let B = there.before in
            let len : length (B ++ ins ∷ []) ≡ length B + 1 = length-append B (ins ∷ []) in
            let i = at + length B in
            let here = state_at i there.registers' words in
            let behind : sum32 (4 * i) 4 ≡ 4 * (i + 1) = next_place i (omega (arith, below, len, inside, a.frame_is.memory_small)) in
            let stored : execute ins here ≡ next (state_at (i + 1) there.registers' words1) =
            ap (λ y. store (stored_at 4 y (slice_index there.registers' x) (bytes_of words)) here) there.address
            ∙ ap (λ y. store (stored_at 4 (4 * place) y (bytes_of words)) here) (there.others x seven ∙ holds)
            ∙ ap (λ y. store y here) (word_stored words place w inside)
            ∙ ap (λ y. next (record { pc = y; registers = there.registers'; memory = bytes_of words1 })) behind in
            let comes = and_one (moment (state_at at registers words) o) at words there.registers' B [] ins (state_at (i + 1) there.registers' words1) a.small refl refl there.sets has
            (omega (arith, below, len, inside, a.frame_is.memory_small)) stored in
            same_arrival (moment (state_at at registers words) o) there.registers' words1 o (length B + 1) (length (B ++ ins ∷ [])) (i + 1) (at + length (B ++ ins ∷ []))
            (o.executed + length B + 1) (o.executed + length (B ++ ins ∷ [])) (sym len) (omega (arith, len)) (omega (arith, len)) comes;
        others = λ q n5 n7. there.others q n7;
        elsewhere = λ j h. get_or-set_other words place j w 0 h.0;
        long = length-set words place w;
        small = λ j. set_small words place w j a.small fits;
        ready = there.ready;
        bounded = there.bounded a.bounded;
      },
      get_or-set_same words place w 0 inside,
    )

-- a word of the image into register 5
pub word_loaded :
    (k w : ℕ) (words registers : List ℕ) → AreSmall words → Ready registers → k < length words → length words ≤ 2 ^ 24 → slice_index words k ≡ w
    → Prepared words registers (at_word k (Lw 5)) 5 w 5
word_loaded k w words registers small ready inside low is_word =
    let hi = high_part (4 * k) in
    let lo = low_part (4 * k) in
    let one = prepared_one words registers (Lui 7 hi) 7 (hi * 4096) small ready (omega arith) (omega arith) (omega arith) (λ n. refl) in
    let address : sum32 (slice_index one.registers' 7) (sign_extended 12 lo) ≡ 4 * k = ap (λ x. sum32 x (sign_extended 12 lo)) one.holds ∙ parts_sum (4 * k) (omega (arith, inside, low)) in
    let two = prepared_one words one.registers' (Lw 5 7 lo) 5 (slice_index words k) small one.ready (omega arith) (omega arith) (small k)
    (λ n. ap (λ x. load 5 (number_at 4 x (bytes_of words)) (state_at n one.registers' words)) address
    ∙ ap (λ x. load 5 x (state_at n one.registers' words)) (word_read words k inside (small k))) in
    record {
      registers' = two.registers';
      sets = sets_on one.sets two.sets;
      holds = two.holds ∙ is_word;
      others = λ q ne n7. two.others q ne n7 ∙ one.others q n7 n7;
      bounded = λ h. two.bounded (one.bounded h);
      ready = two.ready;
    }
