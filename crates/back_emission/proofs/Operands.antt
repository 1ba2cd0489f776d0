-- What the code of operands does: a word comes from its place into a register.
use Rattle.std.proofs.Common.{inl, inr, ◌≡◌, ◌≢◌, ℕ, zero, suc, ◌+◌, ◌*◌, ◌^◌, ◌<◌, ◌≤◌, Bool, true, false, List, [], ◌∷◌, ◌++◌, length, refl, sym, ap, subst, ◌∙◌, arith, eqb-true}
use Rattle.std.specs.Prelude.{◌⊎◌, slice_index, slice_set, if◌then◌else◌, ◌==◌, nat_lt, nat_le}
use Rattle.std.proofs.lemmas.Bool.Decides.{nat_tests}
use Rattle.std.proofs.lemmas.List.{get_or-set_same, get_or-set_other, length-set}
use Rattle.base.specs.Arithmetic.{sum32}
use Rattle.rv_encode.specs.declared.instruction.Instr.{Instr}
use Rattle.rv_encode.specs.declared.instruction.Instr.TheVariants.{Lui, Lw, Addi, Add}
use Rattle.rv_machine.specs.Memory.{number_at, bytes_of}
use Rattle.rv_machine.specs.Words.{word_read}
use Rattle.rv_machine.specs.Arithmetic.{sign_extended}
use Rattle.rv_machine.specs.Step.{execute, gives, load}
use Rattle.back_places.specs.declared.place.Place.{Place}
use Rattle.back_places.specs.declared.place.Place.TheVariants.{InRegister, InSlot, AsConstant}
use Rattle.back_places.specs.Places.{Way, from_stack, past_lent, no_way, reachable}
use Rattle.back_places.specs.Operands.{high_part, low_part, is_short, constant_code, slot_offset, at_slot, load_into, read_in, read_code}
use Rattle.back_places.specs.Facts.{IsPlace}
use Rattle.back_places.specs.Relation.{IsAt}
use Rattle.back_emission.specs.Moments.{state_at, AreSmall, Sets, with_word_in, Ready, Prepared, LeadsTo, Frame}
use Rattle.back_emission.proofs.Coming.{sets_none, sets_on, sets_one}
use Rattle.back_emission.proofs.Parts.{small_extended, parts_sum, parts_between, short_is}

-- words with one more are small
pub set_small : (words : List ℕ) (j w i : ℕ) → AreSmall words → w < 2 ^ 32 → slice_index (slice_set words j w) i < 2 ^ 32
set_small [] j w i h small = h i
set_small (x ∷ xs) zero w zero h small = small
set_small (x ∷ xs) zero w (suc i) h small = h (suc i)
set_small (x ∷ xs) (suc j) w zero h small = h zero
set_small (x ∷ xs) (suc j) w (suc i) h small = set_small xs j w i (λ n. h (suc n)) small

-- a register written
pub set_in : (rd value : ℕ) (registers : List ℕ) → 0 < rd → with_word_in rd value registers ≡ slice_set registers rd value
set_in rd value registers h = let e : (rd == 0) ≡ false = grind (arith, nat_tests) in ap (λ b. if b then registers else slice_set registers rd value) e

-- one instruction that gives a word
pub prepared_one :
    (words registers : List ℕ) (ins : Instr) (to word : ℕ) → AreSmall words → Ready registers → 0 < to → to < 32 → word < 2 ^ 32
    → ((i : ℕ) → execute ins (state_at i registers words) ≡ gives to word (state_at i registers words))
    → Prepared words registers (ins ∷ []) to word to
prepared_one words registers ins to word small ready some within fits e = record {
  registers' = slice_set registers to word;
  sets = subst (λ r. Sets words (ins ∷ []) registers r) (set_in to word registers some) (sets_one words registers ins to word small e);
  holds = get_or-set_same registers to word 0 (omega (arith, ready.long, within));
  others = λ q ne n7. get_or-set_other registers to q word 0 ne;
  bounded = λ all i. set_small registers to word i all fits;
  ready = record {
    long = length-set registers to word ∙ ready.long;
    zero_is = get_or-set_other registers to 0 word 0 (λ e'. omega (arith, some, e')) ∙ ready.zero_is;
  };
}

pub prepared_none : (words registers : List ℕ) (to word scratch : ℕ) → Ready registers → slice_index registers to ≡ word → Prepared words registers [] to word scratch
prepared_none words registers to word scratch ready h = record { registers' = registers; sets = sets_none words registers; holds = h; others = λ q ne n7. refl; bounded = λ all. all; ready = ready }

-- two pieces of code, the first for a register that the second may write, or for register 7
pub prepared_on :
    {words registers : List ℕ} {a b : List Instr} {first mid to word : ℕ} (p : Prepared words registers a mid first mid)
    → ((q : ℕ) → q ≢ to → q ≢ 7 → q ≢ mid) → Prepared words p.registers' b to word to → Prepared words registers (a ++ b) to word to
prepared_on {words} {registers} {a} {b} {first} {mid} {to} {word} p other q = record {
  registers' = q.registers';
  sets = sets_on p.sets q.sets;
  holds = q.holds;
  others = λ r ne n7. q.others r ne n7 ∙ p.others r (other r ne n7) n7;
  bounded = λ all. q.bounded (p.bounded all);
  ready = q.ready;
}

-- constants

-- both parts of a word, one after the other
pub parts_prepared :
    (words registers : List ℕ) (to word : ℕ) → AreSmall words → Ready registers → 0 < to → to < 32 → word < 2 ^ 32
    → Prepared words registers (Lui to (high_part word) ∷ Addi to to (low_part word) ∷ []) to word to
parts_prepared words registers to word small ready some within h =
    let p = prepared_one words registers (Lui to (high_part word)) to (high_part word * 4096) small ready some within (omega arith) (λ i. refl) in
    let v : sum32 (slice_index p.registers' to) (sign_extended 12 (low_part word)) ≡ word =
    ap (λ x. sum32 x (sign_extended 12 (low_part word))) p.holds ∙ parts_sum word h in
    prepared_on p (λ q ne n7. ne) (prepared_one words p.registers' (Addi to to (low_part word)) to word small p.ready some within h (λ i. ap (λ x. gives to x (state_at i p.registers' words)) v))

pub constant_prepared :
    (words registers : List ℕ) (to word : ℕ) → AreSmall words → Ready registers → 0 < to → to < 32 → word < 2 ^ 32
    → Prepared words registers (constant_code to word) to word to
constant_prepared words registers to word small ready some within h = by (is_short word) refl
  where
    by : (t : Bool) → is_short word ≡ t
        → Prepared words registers (if t then Addi to 0 (low_part word) ∷ [] else Lui to (high_part word) ∷ Addi to to (low_part word) ∷ []) to word to
    by true e =
        let v : sum32 (slice_index registers 0) (sign_extended 12 (low_part word)) ≡ word =
        ap (λ x. sum32 x (sign_extended 12 (low_part word))) ready.zero_is ∙ ap (λ x. sum32 0 x) (short_is word h e) ∙ omega (arith, h) in
        prepared_one words registers (Addi to 0 (low_part word)) to word small ready some within h (λ i. ap (λ x. gives to x (state_at i registers words)) v)
    by false e = parts_prepared words registers to word small ready some within h

-- an access of a word of the frame: the code before it, and its base register and offset
pub record Reached (words registers : List ℕ) (way : Way) (base k : ℕ) : Type 0 where
  pub before : List Instr
  pub from : ℕ
  pub offset : ℕ
  pub is_code : (access : (base offset : ℕ) → Instr) → at_slot way k access ≡ before ++ access from offset ∷ []
  pub short : length before ≤ 2
  pub registers' : List ℕ
  pub sets : Sets words before registers registers'
  pub address : sum32 (slice_index registers' from) (sign_extended 12 offset) ≡ 4 * (base + k)
  pub others : (q : ℕ) → q ≢ 7 → slice_index registers' q ≡ slice_index registers q
  pub bounded : AreSmall registers → AreSmall registers'
  pub ready : Ready registers'

near_address : (sp depth base k : ℕ) → sp + 4 * depth ≡ 4 * base → 4 * (depth + k) < 2048 → base + k < 2 ^ 24 → sum32 sp (sign_extended 12 (4 * (depth + k))) ≡ 4 * (base + k)
near_address sp depth base k e near small = let s = small_extended (4 * (depth + k)) near in ap (λ x. sum32 sp x) s ∙ omega (arith, e, small)

far_address :
    (sp depth base k : ℕ) → sp + 4 * depth ≡ 4 * base → base + k < 2 ^ 24 → sp < 2 ^ 32
    → sum32 (sum32 (high_part (4 * (depth + k)) * 4096) sp) (sign_extended 12 (low_part (4 * (depth + k)))) ≡ 4 * (base + k)
far_address sp depth base k e small fits = parts_between (4 * (depth + k)) sp (omega (arith, e, small)) fits ∙ omega (arith, e, small)

reached_from_stack :
    (words registers : List ℕ) (depth base frame k : ℕ) → AreSmall words → Ready registers → Frame registers words (from_stack depth) base frame → k < frame
    → Reached words registers (from_stack depth) base k
reached_from_stack words registers depth base frame k small ready f h = by (nat_lt (slot_offset depth k) 2048) refl
  where
    inside : base + k < 2 ^ 24
    inside = omega (arith, f.inside, h, f.memory_small)

    low_stack : slice_index registers 2 < 2 ^ 32
    low_stack = omega (arith, f.leads, inside)

    chosen : (t : Bool) → nat_lt (slot_offset depth k) 2048 ≡ t → (access : (base offset : ℕ) → Instr)
        → at_slot (from_stack depth) k access
        ≡ (if t then access 2 (slot_offset depth k) ∷ []
        else Lui 7 (high_part (slot_offset depth k)) ∷ Add 7 7 2 ∷ access 7 (low_part (slot_offset depth k)) ∷ [])
    chosen t e access =
        ap (λ b. if b then access 2 (slot_offset depth k) ∷ []
        else Lui 7 (high_part (slot_offset depth k)) ∷ Add 7 7 2 ∷ access 7 (low_part (slot_offset depth k)) ∷ []) e

    by : (t : Bool) → nat_lt (slot_offset depth k) 2048 ≡ t → Reached words registers (from_stack depth) base k
    by true e = record {
      before = [];
      from = 2;
      offset = slot_offset depth k;
      is_code = λ access. chosen true e access;
      short = omega arith;
      registers' = registers;
      sets = sets_none words registers;
      address = near_address (slice_index registers 2) depth base k f.leads (grind (arith, nat_tests, e)) inside;
      others = λ q ne. refl;
      bounded = λ all. all;
      ready = ready;
    }
    by false e =
        let hi = high_part (slot_offset depth k) in
        let one = prepared_one words registers (Lui 7 hi) 7 (hi * 4096) small ready (omega arith) (omega arith) (omega arith) (λ i. refl) in
        let sp : slice_index one.registers' 2 ≡ slice_index registers 2 = one.others 2 (λ x. omega (arith, x)) (λ x. omega (arith, x)) in
        let v : sum32 (slice_index one.registers' 7) (slice_index one.registers' 2) ≡ sum32 (hi * 4096) (slice_index registers 2) =
        ap (λ x. sum32 x (slice_index one.registers' 2)) one.holds ∙ ap (λ x. sum32 (hi * 4096) x) sp in
        let two = prepared_one words one.registers' (Add 7 7 2) 7 (sum32 (hi * 4096) (slice_index registers 2)) small one.ready (omega arith) (omega arith) (omega arith)
        (λ i. ap (λ x. gives 7 x (state_at i one.registers' words)) v) in
        record {
          before = Lui 7 hi ∷ Add 7 7 2 ∷ [];
          from = 7;
          offset = low_part (slot_offset depth k);
          is_code = λ access. chosen false e access;
          short = omega arith;
          registers' = two.registers';
          sets = sets_on one.sets two.sets;
          address = ap (λ x. sum32 x (sign_extended 12 (low_part (slot_offset depth k)))) two.holds
              ∙ far_address (slice_index registers 2) depth base k f.leads inside low_stack;
          others = λ q ne. two.others q ne ne ∙ one.others q ne ne;
          bounded = λ all. two.bounded (one.bounded all);
          ready = two.ready;
        }

-- past a block that was lent, by the stack pointer of before in its header
reached_past_lent :
    (words registers : List ℕ) (depth base frame k : ℕ) → AreSmall words → Ready registers → Frame registers words (past_lent depth) base frame
    → k < frame → 4 * (depth + frame) ≤ 2048 → Reached words registers (past_lent depth) base k
reached_past_lent words registers depth base frame k small ready f h near =
    let block = f.leads.0 in
    let inside : base + k < 2 ^ 24 = omega (arith, f.inside, h, f.memory_small) in
    let four : sign_extended 12 4 ≡ 4 = small_extended 4 (omega arith) in
    let there : sum32 (slice_index registers 2) (sign_extended 12 4) ≡ 4 * (block + 1) =
    ap (λ x. sum32 (slice_index registers 2) x) four ∙ omega (arith, f.leads.1, f.leads.2, f.memory_small) in
    let one = prepared_one words registers (Lw 7 2 4) 7 (slice_index words (block + 1)) small ready (omega arith) (omega arith) (small (block + 1))
    (λ i. ap (λ x. load 7 (number_at 4 x (bytes_of words)) (state_at i registers words)) there
    ∙ ap (λ x. load 7 x (state_at i registers words)) (word_read words (block + 1) f.leads.2 (small (block + 1)))) in
    record {
      before = Lw 7 2 4 ∷ [];
      from = 7;
      offset = slot_offset depth k;
      is_code = λ access. refl;
      short = omega arith;
      registers' = one.registers';
      sets = one.sets;
      address = ap (λ x. sum32 x (sign_extended 12 (slot_offset depth k))) one.holds
          ∙ near_address (slice_index words (block + 1)) depth base k f.leads.3 (omega (arith, near, h)) inside;
      others = λ q ne. one.others q ne ne;
      bounded = one.bounded;
      ready = one.ready;
    }

-- a word of the frame that is within reach is in the frame
pub reachable_few : (way : Way) (frame : ℕ) → reachable way frame ≤ frame
reachable_few (from_stack depth) frame = omega arith
reachable_few (past_lent depth) frame = few (nat_le (4 * (depth + frame)) 2048)
  where
    few : (t : Bool) → (if t then frame else 0) ≤ frame
    few true = omega arith
    few false = omega arith
reachable_few no_way frame = omega arith

pub reached :
    (words registers : List ℕ) (way : Way) (base frame k : ℕ) → AreSmall words → Ready registers → Frame registers words way base frame
    → k < reachable way frame → Reached words registers way base k
reached words registers (from_stack depth) base frame k small ready f h = reached_from_stack words registers depth base frame k small ready f h
reached words registers (past_lent depth) base frame k small ready f h = by (nat_le (4 * (depth + frame)) 2048) refl h
  where
    by : (t : Bool) → nat_le (4 * (depth + frame)) 2048 ≡ t → k < (if t then frame else 0) → Reached words registers (past_lent depth) base k
    by true e h = reached_past_lent words registers depth base frame k small ready f h (grind (arith, nat_tests, e))
    by false e h = absurd (omega (arith, h))
reached words registers no_way base frame k small ready f h = absurd (omega (arith, h))

-- a word of the frame is loaded
pub slot_prepared :
    (words registers : List ℕ) (way : Way) (base frame to k : ℕ) → AreSmall words → Ready registers → Frame registers words way base frame
    → k < reachable way frame → 0 < to → to < 32 → Prepared words registers (at_slot way k (Lw to)) to (slice_index words (base + k)) to
slot_prepared words registers way base frame to k small ready f h some within =
    let r = reached words registers way base frame k small ready f h in
    let few = reachable_few way frame in
    let inside : base + k < length words = omega (arith, f.inside, h, few) in
    let one = prepared_one words r.registers' (Lw to r.from r.offset) to (slice_index words (base + k)) small r.ready some within (small (base + k))
    (λ i. ap (λ x. load to (number_at 4 x (bytes_of words)) (state_at i r.registers' words)) r.address
    ∙ ap (λ x. load to x (state_at i r.registers' words)) (word_read words (base + k) inside (small (base + k)))) in
    subst (λ code. Prepared words registers code to (slice_index words (base + k)) to) (sym (r.is_code (Lw to)))
    (record {
      registers' = one.registers';
      sets = sets_on r.sets one.sets;
      holds = one.holds;
      others = λ q ne n7. one.others q ne n7 ∙ r.others q n7;
      bounded = λ all. one.bounded (r.bounded all);
      ready = one.ready;
    })

pub read :
    (words registers : List ℕ) (way : Way) (base frame scratch : ℕ) (p : Place) (w : ℕ) → AreSmall words → Ready registers → Frame registers words way base frame
    → IsPlace (reachable way frame) p → 0 < scratch → scratch < 7 → IsAt registers words base p w → Prepared words registers (read_code way scratch p) (read_in scratch p) w scratch
read words registers way base frame scratch (InRegister r) w small ready f ok some within h = prepared_none words registers r w scratch ready h
read words registers way base frame scratch (InSlot k) w small ready f ok some within h =
    subst (λ x. Prepared words registers (read_code way scratch (InSlot k)) scratch x scratch) h
    (slot_prepared words registers way base frame scratch k small ready f ok.1 some (omega (arith, within)))
read words registers way base frame scratch (AsConstant zero) w small ready f ok some within h = prepared_none words registers 0 w scratch ready (ready.zero_is ∙ h)
read words registers way base frame scratch (AsConstant (suc c)) w small ready f ok some within h =
    subst (λ x. Prepared words registers (constant_code scratch (suc c)) scratch x scratch) h
    (constant_prepared words registers scratch (suc c) small ready some (omega (arith, within)) ok)

pub loaded :
    (words registers : List ℕ) (way : Way) (base frame to : ℕ) (p : Place) (w : ℕ) → AreSmall words → Ready registers → w < 2 ^ 32 → Frame registers words way base frame
    → IsPlace (reachable way frame) p → 0 < to → to < 32 → to ≢ 7 → IsAt registers words base p w → Prepared words registers (load_into way to p) to w to
loaded words registers way base frame to (InRegister r) w small ready word f ok some within seven h = by (r == to) refl
  where
    by : (t : Bool) → (r == to) ≡ t → Prepared words registers (if t then [] else Addi to r 0 ∷ []) to w to
    by true e = let q = eqb-true r to e in prepared_none words registers to w to ready (ap (λ x. slice_index registers x) (sym q) ∙ h)
    by false e =
        let v : sum32 (slice_index registers r) (sign_extended 12 0) ≡ w = ap (λ x. sum32 x (sign_extended 12 0)) h ∙ omega (arith, word) in
        prepared_one words registers (Addi to r 0) to w small ready some within word (λ i. ap (λ x. gives to x (state_at i registers words)) v)
loaded words registers way base frame to (InSlot k) w small ready word f ok some within seven h =
    subst (λ x. Prepared words registers (load_into way to (InSlot k)) to x to) h
    (slot_prepared words registers way base frame to k small ready f ok.1 some within)
loaded words registers way base frame to (AsConstant c) w small ready word f ok some within seven h =
    subst (λ x. Prepared words registers (constant_code to c) to x to) h
    (constant_prepared words registers to c small ready some within ok)

-- where an operand is read, another scratch register is not
pub read_apart : (p : Place) (frame : ℕ) → IsPlace frame p → (read_in 5 p ≢ 6) × (read_in 5 p ≢ 7)
read_apart (InRegister r) frame ok = (λ e. omega (arith, ok.0, e), λ e. omega (arith, ok.0, e))
read_apart (InSlot k) frame ok = (λ e. omega (arith, e), λ e. omega (arith, e))
read_apart (AsConstant zero) frame ok = (λ e. omega (arith, e), λ e. omega (arith, e))
read_apart (AsConstant (suc c)) frame ok = (λ e. omega (arith, e), λ e. omega (arith, e))

-- what is in no scratch register is where it was
pub past_scratch :
    (registers registers' words : List ℕ) (base frame r : ℕ) (p : Place) (w : ℕ) → r < 8
    → ((q : ℕ) → q ≢ r → q ≢ 7 → slice_index registers' q ≡ slice_index registers q)
    → IsPlace frame p → IsAt registers words base p w → IsAt registers' words base p w
past_scratch registers registers' words base frame r (InRegister q) w low others ok h =
    others q (λ e. omega (arith, low, ok.0, e)) (λ e. omega (arith, ok.0, e)) ∙ h
past_scratch registers registers' words base frame r (InSlot k) w low others ok h = h
past_scratch registers registers' words base frame r (AsConstant c) w low others ok h = h

-- a frame seen from registers with the same stack pointer
pub frame_still :
    (registers registers' words : List ℕ) (way : Way) (base frame : ℕ) → slice_index registers' 2 ≡ slice_index registers 2
    → Frame registers words way base frame → Frame registers' words way base frame
frame_still registers registers' words way base frame e f = record { leads = leads way f.leads; inside = f.inside; memory_small = f.memory_small }
  where
    leads : (way : Way) → LeadsTo registers words way base → LeadsTo registers' words way base
    leads (from_stack depth) h = ap (λ x. x + 4 * depth) e ∙ h
    leads (past_lent depth) h = (h.0, e ∙ h.1, h.2, h.3)
    leads no_way h = tt

-- both operands are read: but for registers 5 to 7, all are as before
pub record BothRead (words registers : List ℕ) (code : List Instr) (ra rb a b : ℕ) : Type 0 where
  pub registers' : List ℕ
  pub sets : Sets words code registers registers'
  pub first_is : slice_index registers' ra ≡ a
  pub second_is : slice_index registers' rb ≡ b
  pub others : (q : ℕ) → (q < 5) ⊎ (7 < q) → slice_index registers' q ≡ slice_index registers q
  pub bounded : AreSmall registers → AreSmall registers'
  pub ready : Ready registers'

-- a register that is no scratch register
pub no_scratch : (q r : ℕ) → (q < 5) ⊎ (7 < q) → 4 < r → r < 8 → q ≢ r
no_scratch q r h low high e = elim h [ inl k ↦ omega (arith, k, e, low) | inr k ↦ omega (arith, k, e, high) ]

pub both_read :
    (words registers : List ℕ) (way : Way) (base frame : ℕ) (p q : Place) (a b : ℕ) → AreSmall words → Ready registers → Frame registers words way base frame
    → IsPlace (reachable way frame) p → IsPlace (reachable way frame) q → IsAt registers words base p a → IsAt registers words base q b
    → BothRead words registers (read_code way 5 p ++ read_code way 6 q) (read_in 5 p) (read_in 6 q) a b
both_read words registers way base frame p q a b small ready f okp okq ha hb =
    let one = read words registers way base frame 5 p a small ready f okp (omega arith) (omega arith) ha in
    let f' = frame_still registers one.registers' words way base frame (one.others 2 (λ e. omega (arith, e)) (λ e. omega (arith, e))) f in
    let two = read words one.registers' way base frame 6 q b small one.ready f' okq (omega arith) (omega arith)
    (past_scratch registers one.registers' words base (reachable way frame) 5 q b (omega arith) one.others okq hb) in
    let apart = read_apart p (reachable way frame) okp in
    record {
      registers' = two.registers';
      sets = sets_on one.sets two.sets;
      first_is = two.others (read_in 5 p) apart.0 apart.1 ∙ one.holds;
      second_is = two.holds;
      others = λ r h. two.others r (no_scratch r 6 h (omega arith) (omega arith)) (no_scratch r 7 h (omega arith) (omega arith))
          ∙ one.others r (no_scratch r 5 h (omega arith) (omega arith)) (no_scratch r 7 h (omega arith) (omega arith));
      bounded = λ h. two.bounded (one.bounded h);
      ready = two.ready;
    }
