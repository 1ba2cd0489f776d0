-- A word is given to a register: it comes to its place, and all else stays where it is.
use Rattle.std.proofs.Common.{inl, inr, ◌≡◌, ◌≢◌, ℕ, zero, suc, ◌+◌, ◌*◌, ◌^◌, ◌<◌, true, List, [], ◌∷◌, ◌++◌, length, refl, sym, ap, subst, ◌∙◌, arith, Some, length-append, append_assoc}
use Rattle.std.specs.Prelude.{slice_index, slice_set}
use Rattle.std.proofs.lemmas.List.{get_or-set_same, get_or-set_other}
use Rattle.base.specs.Arithmetic.{sum32}
use Rattle.rv_encode.specs.declared.instruction.Instr.{Instr}
use Rattle.rv_encode.specs.declared.instruction.Instr.TheVariants.{Sw}
use Rattle.rv_machine.specs.Memory.{bytes_of, stored_at}
use Rattle.rv_machine.specs.Words.{word_stored}
use Rattle.rv_machine.specs.Arithmetic.{sign_extended}
use Rattle.rv_machine.specs.Step.{next, execute, store}
use Rattle.rv_machine.specs.Run.{Moment}
use Rattle.mid_code.specs.Arena.{Block}
use Rattle.mid_code.specs.State.{Registers, MidState, charged, register}
use Rattle.mid_lines.specs.declared.line.LineProgram.{LineProgram}
use Rattle.mid_lines.specs.LineMeaning.{Activation, Caller}
use Rattle.mid_lines.specs.StackLaw.{frame_of, StandsOn, CallersStandOn}
use Rattle.back_places.specs.declared.place.Place.{Place}
use Rattle.back_places.specs.declared.place.Place.TheVariants.{InRegister, InSlot, AsConstant}
use Rattle.back_places.specs.Places.{StaticRecord, Located, Way, way_of, reachable}
use Rattle.back_places.specs.Operands.{at_slot}
use Rattle.back_places.specs.Facts.{IsPlace, Apart, Gives}
use Rattle.back_places.specs.Good.{IsGood}
use Rattle.back_places.specs.Relation.{Stands, IsAt, base_of, AreThere, Point}
use Rattle.back_places.specs.StepLaw.{Comes}
use Rattle.back_emission.specs.Arriving.{Given, Arrives}
use Rattle.back_emission.specs.Moments.{state_at, later, moment, beside, Sets, Frame}
use Rattle.back_emission.proofs.Coming.{next_place, stays, same_moment, and_one, sets_on}
use Rattle.back_emission.proofs.Operands.{Reached, reached, reachable_few, frame_still}
use Rattle.back_emission.proofs.Going.{no_change, slot_change, After, goes_on}

-- a register read after another was set
pub register_other : (rs : Registers) (to v : ℕ) (w : ℕ) → v ≢ to → register v (slice_set rs to (Some w)) ≡ register v rs
register_other [] to v w ne = refl
register_other (x ∷ xs) zero zero w ne = absurd (ne refl)
register_other (x ∷ xs) zero (suc v) w ne = refl
register_other (x ∷ xs) (suc to) zero w ne = refl
register_other (x ∷ xs) (suc to) (suc v) w ne = register_other xs to v w (λ e. ne (ap suc e))

pub register_same : (rs : Registers) (to : ℕ) (w x : ℕ) → register to (slice_set rs to (Some w)) ≡ Some x → x ≡ w
register_same [] to w x h = cc h
register_same (y ∷ ys) zero w x h = cc h
register_same (y ∷ ys) (suc to) w x h = register_same ys to w x h

module _ (program : LineProgram) (l : Located) (Fact : (number line register : ℕ) → Place → Type 0) (first : List Block)
    (good : IsGood program l Fact) where
  -- the registers behind code that sets one, scratch registers apart
  pub record SetsOne (a : Activation) (z : MidState) (words : List ℕ) (code : List Instr) (registers : List ℕ) (target : Place) : Type 0 where
    pub registers' : List ℕ
    pub sets : Sets words code registers registers'
    pub after_is : After program l Fact first good z.arena registers registers'
    pub link : slice_index registers' 1 ≡ slice_index registers 1
    pub others : (q : ℕ) → IsPlace (frame_of program a.procedure).words (InRegister q) → Apart (InRegister q) target → slice_index registers' q ≡ slice_index registers q

  -- what is elsewhere is where it was
  stays_at :
      (a : Activation) (registers registers' words words' : List ℕ) (target p : Place) (x : ℕ) (base : ℕ)
      → ((q : ℕ) → IsPlace (frame_of program a.procedure).words (InRegister q) → Apart (InRegister q) target → slice_index registers' q ≡ slice_index registers q)
      → ((k : ℕ) → Apart (InSlot k) target → slice_index words' (base + k) ≡ slice_index words (base + k))
      → IsPlace (frame_of program a.procedure).words p → Apart p target → IsAt registers words base p x → IsAt registers' words' base p x
  stays_at a registers registers' words words' target (InRegister q) x base others slots ok ap' h = others q ok ap' ∙ h
  stays_at a registers registers' words words' target (InSlot k) x base others slots ok ap' h = slots k ap' ∙ h
  stays_at a registers registers' words words' target (AsConstant c) x base others slots ok ap' h = h

  -- a word that is given to a register of the line
  pub arrives :
      (a : Activation) (line line' to w : ℕ) (rs : Registers) (z : MidState) (registers words : List ℕ) → Gives l Fact a.procedure line to line'
      → AreThere program l Fact first registers words (base_of program (length z.arena.memory) a) a.procedure line rs
      → Arrives program l Fact first a z registers words line' (slice_set rs to (Some w)) (l.target a.procedure line) w
  arrives a line line' to w rs z registers words flows there v p x f e = elim (flows v p f) [
    | inl same ↦ inl (same.1, register_same rs to w x (ap (λ u. register u (slice_set rs to (Some w))) (sym same.0) ∙ e))
    | inr other ↦ inr (there v p x other.1 (sym (register_other rs to v w other.0) ∙ e), other.2)
  ]

  pub all_there :
      (a : Activation) (line' w : ℕ) (rs' : Registers) (z : MidState) (registers registers' words words' : List ℕ) (target : Place)
      → Arrives program l Fact first a z registers words line' rs' target w
      → ((q : ℕ) → IsPlace (frame_of program a.procedure).words (InRegister q) → Apart (InRegister q) target → slice_index registers' q ≡ slice_index registers q)
      → ((k : ℕ) → Apart (InSlot k) target → slice_index words' (base_of program (length z.arena.memory) a + k) ≡ slice_index words (base_of program (length z.arena.memory) a + k))
      → IsAt registers' words' (base_of program (length z.arena.memory) a) target w
      → AreThere program l Fact first registers' words' (base_of program (length z.arena.memory) a) a.procedure line' rs'
  all_there a line' w rs' z registers registers' words words' target reach others slots given v p x f e = elim (reach v p x f e) [
    | inl same ↦
        subst (λ q. IsAt registers' words' (base_of program (length z.arena.memory) a) q x) (sym same.0)
        (subst (λ y. IsAt registers' words' (base_of program (length z.arena.memory) a) target y) (sym same.1) given)
    | inr other ↦
        stays_at a registers registers' words words' target p x (base_of program (length z.arena.memory) a) others slots (good.placed a.procedure line' v p f) other.1 other.0
  ]

  -- into a register
  pub given_in_register :
      (a : Activation) (at : ℕ) (known : List StaticRecord) (line' w rd : ℕ) (rs' : Registers) (callers : List Caller) (z : MidState) (cost : ℕ) (m : Moment) (code : List Instr)
      → StandsOn program a z.arena.blocks × CallersStandOn program first callers a.outer → (r : Point program l Fact first a at known callers z m)
      → Stands l r.words at code → l.line_at a.procedure line' ≡ at + length code
      → Arrives program l Fact first a z m.state.registers r.words line' rs' (InRegister rd) w → (l.linked a.procedure line' ≡ true → slice_index m.state.registers 1 ≡ r.link)
      → l.records a.procedure line' ≡ known
      → (s : SetsOne a z r.words code m.state.registers (InRegister rd)) → slice_index s.registers' rd ≡ w
      → Given program l Fact first a line' rs' callers (charged cost z) m (length code)
  given_in_register a at known line' w rd rs' callers z cost m code st r stands behind reach linked records s holds =
      let o = beside m in
      let start = same_moment m at r.words r.pc r.machine.memory in
      let comes = s.sets.by at o stands.has (omega (arith, stands.to, good.low)) in
      record {
        moment' = moment (state_at (l.line_at a.procedure line') s.registers' r.words) (later (length code) o);
        comes = subst (λ j. Comes (length code) m (moment (state_at j s.registers' r.words) (later (length code) o))) (sym behind)
            (subst (λ x. Comes (length code) x (moment (state_at (at + length code) s.registers' r.words) (later (length code) o))) (sym start) comes);
        runs = goes_on program l Fact first good a at known line' rs' callers z cost m s.registers' r.words (later (length code) o)
            st r (no_change program l Fact first good a z.arena r.words r.machine.arena.words_small) s.after_is refl refl
            (all_there a line' w rs' z m.state.registers s.registers' r.words r.words (InRegister rd) reach s.others (λ k d. refl) holds)
            (λ e. s.link ∙ linked e) records;
      }

  -- code that sets registers, and then the address of a slot
  sets_address :
      (a : Activation) (z : MidState) (words registers : List ℕ) (code : List Instr) (way : Way) (base k j : ℕ) (s : SetsOne a z words code registers (InSlot j))
      → (r : Reached words s.registers' way base k) → SetsOne a z words (code ++ r.before) registers (InSlot j)
  sets_address a z words registers code way base k j s r = record {
    registers' = r.registers';
    sets = sets_on s.sets r.sets;
    after_is = record {
      ready = r.ready;
      small = r.bounded s.after_is.small;
      stack = r.others 2 (λ e. omega (arith, e)) ∙ s.after_is.stack;
      heap = r.others 3 (λ e. omega (arith, e)) ∙ s.after_is.heap;
    };
    link = r.others 1 (λ e. omega (arith, e)) ∙ s.link;
    others = λ q ok d. r.others q (λ e. omega (arith, e, ok.0)) ∙ s.others q ok d;
  }

  -- into a slot, by a store from a register whose base and offset are its address
  stored_in_slot :
      (a : Activation) (at : ℕ) (known : List StaticRecord) (line' w k x from offset : ℕ) (rs' : Registers) (callers : List Caller) (z : MidState) (cost : ℕ) (m : Moment) (pre : List Instr)
      → (st : StandsOn program a z.arena.blocks × CallersStandOn program first callers a.outer) → (r : Point program l Fact first a at known callers z m)
      → 0 < k → k < (frame_of program a.procedure).words
      → Frame m.state.registers r.words (way_of known) (base_of program (length z.arena.memory) a) (frame_of program a.procedure).words
      → Stands l r.words at (pre ++ Sw x from offset ∷ [])
      → l.line_at a.procedure line' ≡ at + length (pre ++ Sw x from offset ∷ [])
      → Arrives program l Fact first a z m.state.registers r.words line' rs' (InSlot k) w → (l.linked a.procedure line' ≡ true → slice_index m.state.registers 1 ≡ r.link)
      → l.records a.procedure line' ≡ known
      → (s : SetsOne a z r.words pre m.state.registers (InSlot k))
      → sum32 (slice_index s.registers' from) (sign_extended 12 offset) ≡ 4 * (base_of program (length z.arena.memory) a + k)
      → slice_index s.registers' x ≡ w → w < 2 ^ 32
      → Given program l Fact first a line' rs' callers (charged cost z) m (length (pre ++ Sw x from offset ∷ []))
  stored_in_slot a at known line' w k x from offset rs' callers z cost m pre st r some within frame stands behind reach linked records s address holds small =
      let base = base_of program (length z.arena.memory) a in
      let ins = Sw x from offset in
      let len : length (pre ++ ins ∷ []) ≡ length pre + 1 = length-append pre (ins ∷ []) in
      let inside : base + k < length r.words = omega (arith, frame.inside, within) in
      let words' = slice_set r.words (base + k) w in
      let here = state_at (at + length pre) s.registers' r.words in
      let p : sum32 (4 * (at + length pre)) 4 ≡ 4 * (at + length pre + 1) = next_place (at + length pre) (omega (arith, stands.to, good.low, len)) in
      let stored : execute ins here ≡ next (state_at (at + length pre + 1) s.registers' words') =
      ap (λ y. store (stored_at 4 y (slice_index s.registers' x) (bytes_of r.words)) here) address
      ∙ ap (λ y. store (stored_at 4 (4 * (base + k)) y (bytes_of r.words)) here) holds
      ∙ ap (λ y. store y here) (word_stored r.words (base + k) w inside)
      ∙ ap (λ y. next (record { pc = y; registers = s.registers'; memory = bytes_of words' })) p in
      let o = later 1 (later (length pre) (beside m)) in
      let comes = and_one m at r.words s.registers' pre [] ins (state_at (at + length pre + 1) s.registers' words') r.machine.arena.words_small r.pc r.machine.memory s.sets stands.has (omega (arith, stands.to, good.low, len)) stored in
      let place : at + length pre + 1 ≡ l.line_at a.procedure line' = omega (arith, behind, len) in
      let c = slot_change program l Fact first good a z.arena r.words k w r.machine.arena r.machine.form r.machine.apart st.0 some within small in
      record {
        moment' = moment (state_at (l.line_at a.procedure line') s.registers' words') o;
        comes = subst (λ j. Comes j m (moment (state_at (l.line_at a.procedure line') s.registers' words') o)) (sym len)
            (subst (λ j. Comes (length pre + 1) m (moment (state_at j s.registers' words') o)) place comes);
        runs = goes_on program l Fact first good a at known line' rs' callers z cost m s.registers' words' o
            st r c s.after_is refl refl
            (all_there a line' w rs' z m.state.registers s.registers' r.words words' (InSlot k) reach
            (λ q ok d. s.others q ok tt)
            (λ j d. get_or-set_other r.words (base + k) (base + j) w 0 (λ e. d (omega (arith, e))))
            (get_or-set_same r.words (base + k) w 0 inside))
            (λ e. s.link ∙ linked e) records;
      }

  -- into a slot, near or far
  pub given_in_slot :
      (a : Activation) (at : ℕ) (known : List StaticRecord) (line' w k x : ℕ) (rs' : Registers) (callers : List Caller) (z : MidState) (cost : ℕ) (m : Moment) (pre : List Instr)
      → (st : StandsOn program a z.arena.blocks × CallersStandOn program first callers a.outer) → (r : Point program l Fact first a at known callers z m)
      → 0 < k → k < reachable (way_of known) (frame_of program a.procedure).words
      → Frame m.state.registers r.words (way_of known) (base_of program (length z.arena.memory) a) (frame_of program a.procedure).words
      → Stands l r.words at (pre ++ at_slot (way_of known) k (Sw x))
      → l.line_at a.procedure line' ≡ at + length (pre ++ at_slot (way_of known) k (Sw x))
      → Arrives program l Fact first a z m.state.registers r.words line' rs' (InSlot k) w → (l.linked a.procedure line' ≡ true → slice_index m.state.registers 1 ≡ r.link)
      → l.records a.procedure line' ≡ known
      → (s : SetsOne a z r.words pre m.state.registers (InSlot k)) → slice_index s.registers' x ≡ w → x ≢ 7 → w < 2 ^ 32
      → Given program l Fact first a line' rs' callers (charged cost z) m (length (pre ++ at_slot (way_of known) k (Sw x)))
  unfolding sets_address
  given_in_slot a at known line' w k x rs' callers z cost m pre st r some within frame stands behind reach linked records s holds seven small =
      let way = way_of known in
      let base = base_of program (length z.arena.memory) a in
      let few = reachable_few way (frame_of program a.procedure).words in
      let f = frame_still m.state.registers s.registers' r.words way base (frame_of program a.procedure).words s.after_is.stack frame in
      let there = reached r.words s.registers' way base (frame_of program a.procedure).words k r.machine.arena.words_small s.after_is.ready f within in
      let same : pre ++ at_slot way k (Sw x) ≡ (pre ++ there.before) ++ Sw x there.from there.offset ∷ [] =
      ap (λ c. pre ++ c) (there.is_code (Sw x)) ∙ sym (append_assoc pre there.before (Sw x there.from there.offset ∷ [])) in
      subst (λ c. Given program l Fact first a line' rs' callers (charged cost z) m (length c)) (sym same)
      (stored_in_slot a at known line' w k x there.from there.offset rs' callers z cost m (pre ++ there.before) st r some (omega (arith, within, few)) frame
      (subst (λ c. Stands l r.words at c) same stands) (behind ∙ ap (λ c. at + length c) same) reach linked records
      (sets_address a z r.words m.state.registers pre way base k k s there) there.address (there.others x seven ∙ holds) small)

  -- no code: what is given is nowhere, or nothing is
  pub given_nowhere :
      (a : Activation) (at : ℕ) (known : List StaticRecord) (line' w : ℕ) (rs' : Registers) (callers : List Caller) (z : MidState) (cost : ℕ) (m : Moment)
      → StandsOn program a z.arena.blocks × CallersStandOn program first callers a.outer → (r : Point program l Fact first a at known callers z m)
      → l.line_at a.procedure line' ≡ at
      → Arrives program l Fact first a z m.state.registers r.words line' rs' (AsConstant w) w → (l.linked a.procedure line' ≡ true → slice_index m.state.registers 1 ≡ r.link)
      → l.records a.procedure line' ≡ known
      → Given program l Fact first a line' rs' callers (charged cost z) m 0
  given_nowhere a at known line' w rs' callers z cost m st r behind reach linked records =
      let o = beside m in
      let start = same_moment m at r.words r.pc r.machine.memory in
      record {
        moment' = moment (state_at (l.line_at a.procedure line') m.state.registers r.words) o;
        comes = subst (λ j. Comes 0 m (moment (state_at j m.state.registers r.words) o)) (sym behind)
            (subst (λ x. Comes 0 x (moment (state_at at m.state.registers r.words) o)) (sym start) (stays _));
        runs = goes_on program l Fact first good a at known line' rs' callers z cost m m.state.registers r.words o
            st r (no_change program l Fact first good a z.arena r.words r.machine.arena.words_small)
            (record { ready = record { long = r.machine.long; zero_is = r.machine.zero_is }; small = r.machine.registers_small; stack = refl; heap = refl }) refl refl
            (all_there a line' w rs' z m.state.registers m.state.registers r.words r.words (AsConstant w) reach (λ q ok d. refl) (λ k d. refl) refl)
            linked records;
      }
