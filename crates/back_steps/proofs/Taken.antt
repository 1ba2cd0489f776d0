-- A word in a register that is no place of values comes to its place, and the machine stands at a line.
use Rattle.std.proofs.Common.{inl, inr, ◌≡◌, ◌≢◌, ℕ, ◌+◌, ◌*◌, ◌^◌, ◌<◌, Bool, true, false, List, [], ◌∷◌, length, refl, sym, ap, subst, ◌∙◌, arith, eqb-true}
use Rattle.std.specs.Prelude.{slice_index, ◌==◌, if◌then◌else◌}
use Rattle.base.specs.Arithmetic.{sum32}
use Rattle.rv_encode.specs.declared.instruction.Instr.TheVariants.{Addi}
use Rattle.rv_machine.specs.Arithmetic.{sign_extended}
use Rattle.rv_machine.specs.Step.{gives}
use Rattle.rv_machine.specs.Run.{Moment}
use Rattle.mid_code.specs.Arena.{Block, words_of}
use Rattle.mid_code.specs.State.{Registers, MidState, charged}
use Rattle.mid_lines.specs.declared.line.LineProgram.{LineProgram}
use Rattle.mid_lines.specs.LineMeaning.{Activation, Caller}
use Rattle.mid_lines.specs.StackLaw.{frame_of, blocks_of, StandsOn, CallersStandOn}
use Rattle.back_places.specs.declared.place.Place.{Place}
use Rattle.back_places.specs.declared.place.Place.TheVariants.{InRegister, InSlot, AsConstant}
use Rattle.back_places.specs.Places.{StaticRecord, Located, Way, way_of, reachable}
use Rattle.back_places.specs.Operands.{load_into, move_code}
use Rattle.back_places.specs.Facts.{IsPlace, IsSomewhere}
use Rattle.back_places.specs.Good.{IsGood}
use Rattle.back_places.specs.Relation.{Stands, IsAt, base_of, HeadsHold, CallersWait, Machine, Point}
use Rattle.back_emission.specs.Arriving.{Given, Arrives}
use Rattle.back_emission.specs.Moments.{state_at, AreSmall, Ready, Prepared}
use Rattle.back_emission.proofs.Operands.{prepared_one, prepared_none}
use Rattle.back_emission.proofs.Private.{outer_words, heads_stay, callers_stay}
use Rattle.back_emission.proofs.Going.{OwnKept}
use Rattle.back_emission.proofs.Giving.{given_in_register, given_in_slot}
use Rattle.back_emission.proofs.Moving.{frame_is}

-- a word of any register comes into another
pub register_loaded :
    (words registers : List ℕ) (way : Way) (to q w : ℕ) → AreSmall words → Ready registers → w < 2 ^ 32 → 0 < to → to < 32 → slice_index registers q ≡ w
    → Prepared words registers (load_into way to (InRegister q)) to w to
register_loaded words registers way to q w small ready word some within h = by (q == to) refl
  where
    by : (t : Bool) → (q == to) ≡ t → Prepared words registers (if t then [] else Addi to q 0 ∷ []) to w to
    by true e = let s = eqb-true q to e in prepared_none words registers to w to ready (ap (λ x. slice_index registers x) (sym s) ∙ h)
    by false e =
        let v : sum32 (slice_index registers q) (sign_extended 12 0) ≡ w = ap (λ x. sum32 x (sign_extended 12 0)) h ∙ omega (arith, word) in
        prepared_one words registers (Addi to q 0) to w small ready some within word (λ i. ap (λ x. gives to x (state_at i registers words)) v)

-- what is at a place of values is there still
pub at_place :
    (registers registers' words words' : List ℕ) (base frame : ℕ) (p : Place) (w : ℕ)
    → ((q : ℕ) → 7 < q → q ≢ 10 → q ≢ 11 → q ≢ 17 → slice_index registers' q ≡ slice_index registers q)
    → ((k : ℕ) → k < frame → slice_index words' (base + k) ≡ slice_index words (base + k))
    → IsPlace frame p → IsAt registers words base p w → IsAt registers' words' base p w
at_place registers registers' words words' base frame (InRegister q) w others slots ok h = others q ok.0 ok.2 ok.3 ok.4 ∙ h
at_place registers registers' words words' base frame (InSlot k) w others slots ok h = slots k ok.1 ∙ h
at_place registers registers' words words' base frame (AsConstant c) w others slots ok h = h

module _ (program : LineProgram) (l : Located) (Fact : (number line register : ℕ) → Place → Type 0) (first : List Block)
    (good : IsGood program l Fact) where
  -- what arrives is known where registers of values and slots are as before
  pub arrive_on :
      (a : Activation) (z z' : MidState) (registers registers' words words' : List ℕ) (line' w : ℕ) (rs' : Registers) (target : Place)
      → length z'.arena.memory ≡ length z.arena.memory
      → ((q : ℕ) → 7 < q → q ≢ 10 → q ≢ 11 → q ≢ 17 → slice_index registers' q ≡ slice_index registers q)
      → ((k : ℕ) → k < (frame_of program a.procedure).words → slice_index words' (base_of program (length z.arena.memory) a + k) ≡ slice_index words (base_of program (length z.arena.memory) a + k))
      → Arrives program l Fact first a z registers words line' rs' target w → Arrives program l Fact first a z' registers' words' line' rs' target w
  arrive_on a z z' registers registers' words words' line' w rs' target same others slots reach v p x f e = elim (reach v p x f e) [
    | inl given ↦ inl given
    | inr other ↦ inr (
      subst (λ n. IsAt registers' words' (base_of program n a) p x) (sym same)
          (at_place registers registers' words words' _ _ p x others slots (good.placed a.procedure line' v p f) other.0),
      other.1,
    )
  ]

  -- The machine stands at another position of the same activation, in an arena with the same blocks.
  abbrev pub point_on :
      (a : Activation) (at at' : ℕ) (known : List StaticRecord) (callers : List Caller) (z z' : MidState) (m m' : Moment) (words' : List ℕ)
      → StandsOn program a z.arena.blocks × CallersStandOn program first callers a.outer
      → (r : Point program l Fact first a at known callers z m) → OwnKept program l Fact first good a z.arena r.words words'
      → length z'.arena.memory ≡ length z.arena.memory → Machine program l Fact first z' words' m' → m'.state.pc ≡ 4 * at'
      → Point program l Fact first a at' known callers z' m'
  point_on a at at' known callers z z' m m' words' st r c same machine pc = record {
    words = words';
    link = r.link;
    machine = machine;
    pc = pc;
    saved = λ e. subst (λ k. slice_index words' (base_of program k a) ≡ r.link) (sym same) (c.link e ∙ r.saved e);
    records_are = r.records_are;
    heads = subst (λ k. HeadsHold program l Fact first words' k a a.standing) (sym same)
        (heads_stay program l Fact first (length z.arena.memory) r.words words' good a z.arena.blocks st.0 r.machine.form.fits (λ i p low. c.heads i p low) r.heads);
    waiting =
        let all = outer_words program a a.standing in
        let same_words : words_of z.arena.blocks ≡ words_of (blocks_of program a a.standing) = ap words_of st.0.all in
        subst (λ k. CallersWait program l Fact first words' k callers r.link) (sym same)
        (callers_stay program l Fact first (length z.arena.memory) r.words words' good callers a.outer r.link (omega (arith, all, same_words, r.machine.form.fits)) st.1 c.outer r.waiting);
  }

  -- the word comes to its place
  pub taken :
      (a : Activation) (at : ℕ) (known : List StaticRecord) (line' w q : ℕ) (target : Place) (rs' : Registers) (callers : List Caller) (z : MidState) (cost : ℕ) (m : Moment)
      → (st : StandsOn program a z.arena.blocks × CallersStandOn program first callers a.outer) → (r : Point program l Fact first a at known callers z m)
      → IsPlace (reachable (way_of known) (frame_of program a.procedure).words) target → IsSomewhere target → q ≢ 7 → w < 2 ^ 32
      → slice_index m.state.registers q ≡ w → Stands l r.words at (move_code (way_of known) (InRegister q) target)
      → l.line_at a.procedure line' ≡ at + length (move_code (way_of known) (InRegister q) target)
      → Arrives program l Fact first a z m.state.registers r.words line' rs' target w
      → (l.linked a.procedure line' ≡ true → slice_index m.state.registers 1 ≡ r.link) → l.records a.procedure line' ≡ known
      → Given program l Fact first a line' rs' callers (charged cost z) m (length (move_code (way_of known) (InRegister q) target))
  taken a at known line' w q (InRegister rd) rs' callers z cost m st r ok some seven small is_at stands behind reach linked records =
      let ready : Ready m.state.registers = record { long = r.machine.long; zero_is = r.machine.zero_is } in
      let p = register_loaded r.words m.state.registers (way_of known) rd q w r.machine.arena.words_small ready small (omega (arith, ok.0)) ok.1 is_at in
      given_in_register program l Fact first good a at known line' w rd rs' callers z cost m (load_into (way_of known) rd (InRegister q)) st r stands behind reach linked records
      (record {
        registers' = p.registers';
        sets = p.sets;
        after_is = record {
          ready = p.ready;
          small = p.bounded r.machine.registers_small;
          stack = p.others 2 (λ e. omega (arith, ok.0, e)) (λ e. omega (arith, e));
          heap = p.others 3 (λ e. omega (arith, ok.0, e)) (λ e. omega (arith, e));
        };
        link = p.others 1 (λ e. omega (arith, ok.0, e)) (λ e. omega (arith, e));
        others = λ j fine d. p.others j d (λ e. omega (arith, fine.0, e));
      }) p.holds
  taken a at known line' w q (InSlot k) rs' callers z cost m st r ok some seven small is_at stands behind reach linked records =
      let ready : Ready m.state.registers = record { long = r.machine.long; zero_is = r.machine.zero_is } in
      let f = frame_is program l Fact first good a at known callers z m st.0 r in
      let p = prepared_none r.words m.state.registers q w 5 ready is_at in
      given_in_slot program l Fact first good a at known line' w k q rs' callers z cost m [] st r ok.0 ok.1 f stands behind reach linked records
      (record {
        registers' = p.registers';
        sets = p.sets;
        after_is = record {
          ready = p.ready;
          small = p.bounded r.machine.registers_small;
          stack = p.others 2 (λ e. omega (arith, e)) (λ e. omega (arith, e));
          heap = p.others 3 (λ e. omega (arith, e)) (λ e. omega (arith, e));
        };
        link = p.others 1 (λ e. omega (arith, e)) (λ e. omega (arith, e));
        others = λ j fine d. p.others j (λ e. omega (arith, fine.0, e)) (λ e. omega (arith, fine.0, e));
      }) p.holds seven small
  taken a at known line' w q (AsConstant c) rs' callers z cost m st r ok some seven small is_at stands behind reach linked records = absurd some
