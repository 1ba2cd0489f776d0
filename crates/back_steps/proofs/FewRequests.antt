-- The heap grows by a number of words that is written in the code.
use Rattle.std.proofs.Common.{◌≡◌, ◌≢◌, ℕ, ◌+◌, ◌*◌, ◌/◌, ◌^◌, ◌<◌, ◌≤◌, true, List, [], ◌∷◌, ◌++◌, length, refl, sym, ap, subst, ◌∙◌, arith, length-append, append_assoc}
use Rattle.std.specs.Prelude.{slice_index, slice_set}
use Rattle.std.proofs.lemmas.List.{get_or-set_same, get_or-set_other}
use Rattle.base.specs.Arithmetic.{sum32}
use Rattle.rv_encode.specs.declared.instruction.Instr.{Instr}
use Rattle.rv_encode.specs.declared.instruction.Instr.TheVariants.{Addi, Sw}
use Rattle.rv_machine.specs.Memory.{bytes_of, stored_at}
use Rattle.rv_machine.specs.Words.{word_stored}
use Rattle.rv_machine.specs.Arithmetic.{sign_extended}
use Rattle.rv_machine.specs.Step.{next as goes_to, execute, gives, store}
use Rattle.rv_machine.specs.Run.{Moment}
use Rattle.mid_code.specs.Arena.{Block, left, with_heap}
use Rattle.mid_code.specs.State.{Registers, MidState, charged, with_arena}
use Rattle.mid_lines.specs.declared.line.LineProgram.{LineProgram}
use Rattle.mid_lines.specs.LineMeaning.{Activation, Caller}
use Rattle.mid_lines.specs.StackLaw.{frame_of, StandsOn, CallersStandOn}
use Rattle.back_places.specs.declared.place.Place.{Place}
use Rattle.back_places.specs.declared.place.Place.TheVariants.{InRegister, InSlot, AsConstant}
use Rattle.back_places.specs.Places.{StaticRecord, Located, way_of, reachable}
use Rattle.back_places.specs.Operands.{load_into, move_code, at_slot}
use Rattle.back_places.specs.Facts.{IsPlace, IsSomewhere}
use Rattle.back_places.specs.Good.{IsGood}
use Rattle.back_places.specs.Relation.{Stands, HasProgram, base_of, Machine, Point}
use Rattle.back_places.specs.StepLaw.{Comes}
use Rattle.back_emission.specs.Moments.{state_at, Beside, later, moment, AreSmall, Sets, Ready}
use Rattle.back_emission.specs.Arriving.{Given, Arrives}
use Rattle.back_emission.proofs.Coming.{and_on, and_one, sets_on, has_back, next_place}
use Rattle.back_emission.proofs.Operands.{prepared_one, reached, reachable_few}
use Rattle.back_emission.proofs.Private.{program_kept}
use Rattle.back_emission.proofs.Going.{OwnChange, all_kept, slot_change, stands_at}
use Rattle.back_emission.proofs.Giving.{all_there}
use Rattle.back_emission.proofs.Moving.{frame_is}
use Rattle.back_emission.proofs.NewBlocks.{length_emptied}
use Rattle.back_steps.proofs.Taken.{register_loaded}
use Rattle.back_steps.proofs.Heap.{heap_grown}

module _ (program : LineProgram) (l : Located) (Fact : (number line register : ℕ) → Place → Type 0) (first : List Block)
    (good : IsGood program l Fact) where
  -- the machine of the same arena, with slots changed
  pub slots_changed :
      (a : Activation) (z : MidState) (words words' : List ℕ) (m : Moment) (registers' : List ℕ) (i : ℕ) (o : Beside)
      → Machine program l Fact first z words m → OwnChange program l Fact first good a z.arena words words' → Ready registers' → AreSmall registers'
      → slice_index registers' 2 ≡ slice_index m.state.registers 2 → slice_index registers' 3 ≡ slice_index m.state.registers 3 → o.printed ≡ m.printed → o.input ≡ m.input
      → Machine program l Fact first z words' (moment (state_at i registers' words') o)
  slots_changed a z words words' m registers' i o r c ready small stack heap printed input = record {
    memory = refl;
    arena = record { long = c.long ∙ r.arena.long; words_small = c.small; lent = λ j w h e. c.lent j h ∙ r.arena.lent j w h e };
    code = program_kept program l words words' c.long c.code r.code;
    apart = r.apart;
    form = r.form;
    long = ready.long;
    zero_is = ready.zero_is;
    registers_small = small;
    stack = stack ∙ r.stack;
    heap = heap ∙ r.heap;
    printed = printed ∙ r.printed;
    input = input ∙ r.input;
    input_small = r.input_small;
  }

  -- the same machine with the cost of the line
  charged_machine : (z : MidState) (w : ℕ) (words : List ℕ) (m : Moment) → Machine program l Fact first (with_arena (with_heap w z.arena) z) words m
      → Machine program l Fact first (with_arena (with_heap w z.arena) (charged 20 z)) words m
  charged_machine z w words m h = record {
    memory = h.memory;
    arena = record { long = h.arena.long; words_small = h.arena.words_small; lent = h.arena.lent };
    code = h.code;
    apart = record { laid_below = h.apart.laid_below; arguments_below = h.apart.arguments_below; heap_above = h.apart.heap_above };
    form = record { small = h.form.small; fits = h.form.fits; heap = h.form.heap; grown = h.form.grown; below = h.form.below; laid = h.form.laid };
    long = h.long;
    zero_is = h.zero_is;
    registers_small = h.registers_small;
    stack = h.stack;
    heap = h.heap;
    printed = h.printed;
    input = h.input;
    input_small = h.input_small;
  }

  -- where the heap ended comes into a slot, and then the heap is longer
  longer_in_slot :
      (a : Activation) (at : ℕ) (known : List StaticRecord) (line' w k : ℕ) (rs' : Registers) (callers : List Caller) (z : MidState) (registers words : List ℕ) (o : Beside) (before : List Instr) (from offset : ℕ) (registers1 : List ℕ)
      → (st : StandsOn program a z.arena.blocks × CallersStandOn program first callers a.outer)
      → (r : Point program l Fact first a at known callers z (moment (state_at at registers words) o)) → r.words ≡ words
      → 0 < k → k < (frame_of program a.procedure).words → base_of program (length z.arena.memory) a + k < length r.words → w ≤ left z.arena
      → Sets r.words before registers registers1 → ((q : ℕ) → q ≢ 7 → slice_index registers1 q ≡ slice_index registers q) → AreSmall registers1 → Ready registers1
      → sum32 (slice_index registers1 from) (sign_extended 12 offset) ≡ 4 * (base_of program (length z.arena.memory) a + k)
      → slice_index registers 5 ≡ z.arena.heap_to + 4 * w
      → ((words' : List ℕ) → HasProgram program l words' → Stands l words' at (before ++ Sw 3 from offset ∷ Addi 3 5 0 ∷ []))
      → l.line_at a.procedure line' ≡ at + length before + 1 + 1
      → Arrives program l Fact first a z registers r.words line' rs' (InSlot k) z.arena.heap_to
      → (l.linked a.procedure line' ≡ true → slice_index registers 1 ≡ r.link) → l.records a.procedure line' ≡ known
      → Given program l Fact first a line' rs' callers (with_arena (with_heap w z.arena) (charged 20 z)) (moment (state_at at registers words) o) (length before + 1 + 1)
  longer_in_slot a at known line' w k rs' callers z registers words o before from offset registers1 st r same some within inside room sets others small1 ready1 address five stands_in behind reach linked records =
      let h = r.machine in
      let hp = z.arena.heap_to in
      let below = h.form.below in
      let size = h.form.small in
      let few : hp + 4 * w ≤ 2 ^ 26 = omega (arith, room, below, size) in
      let base = base_of program (length z.arena.memory) a in
      let small = h.arena.words_small in
      let stands = stands_in r.words h.code in
      let long : length (before ++ Sw 3 from offset ∷ Addi 3 5 0 ∷ []) ≡ length before + 2 = length-append before (Sw 3 from offset ∷ Addi 3 5 0 ∷ []) in
      let at1 = at + length before in
      let low : at1 + 2 < 2 ^ 25 = omega (arith, stands.to, good.low, long) in
      let words' = slice_set r.words (base + k) hp in
      let here = state_at at1 registers1 r.words in
      let stored = state_at (at1 + 1) registers1 words' in
      let three = others 3 (λ e. omega (arith, e)) ∙ h.heap in
      let on : sum32 (4 * at1) 4 ≡ 4 * (at1 + 1) = next_place at1 (omega (arith, low)) in
      let does : execute (Sw 3 from offset) here ≡ goes_to stored =
      ap (λ y. store (stored_at 4 y (slice_index registers1 3) (bytes_of r.words)) here) address
      ∙ ap (λ y. store (stored_at 4 (4 * (base + k)) y (bytes_of r.words)) here) three
      ∙ ap (λ y. store y here) (word_stored r.words (base + k) hp inside)
      ∙ ap (λ y. goes_to (record { pc = y; registers = registers1; memory = bytes_of words' })) on in
      let m0 = moment (state_at at registers r.words) o in
      let m = moment (state_at at registers words) o in
      let o1 = later 1 (later (length before) o) in
      let comes1 = and_one m0 at r.words registers1 before (Addi 3 5 0 ∷ []) (Sw 3 from offset) stored small refl refl sets stands.has (omega (arith, low)) does in
      let c = slot_change program l Fact first good a z.arena r.words k hp h.arena h.form h.apart st.0 some within (omega (arith, few)) in
      let mid = moment stored o1 in
      let M = slots_changed a z r.words words' m registers1 (at1 + 1) o1 h c ready1 small1 (others 2 (λ e. omega (arith, e))) (others 3 (λ e. omega (arith, e))) refl refl in
      let five' = others 5 (λ e. omega (arith, e)) ∙ five in
      let v : sum32 (slice_index registers1 5) (sign_extended 12 0) ≡ hp + 4 * w = ap (λ x. sum32 x (sign_extended 12 0)) five' ∙ omega (arith, few) in
      let u = prepared_one words' registers1 (Addi 3 5 0) 3 (hp + 4 * w) c.small ready1 (omega arith) (omega arith) (omega (arith, few)) (λ i. ap (λ x. gives 3 x (state_at i registers1 words')) v) in
      let has = (has_back words' at before (Sw 3 from offset ∷ Addi 3 5 0 ∷ []) (stands_in words' M.code).has).3 in
      let o2 = later 1 o1 in
      let comes2 = u.sets.by (at1 + 1) o1 has (omega (arith, low)) in
      let m' = moment (state_at (l.line_at a.procedure line') u.registers' words') o2 in
      let last = moment (state_at (at1 + 1 + 1) u.registers' words') o2 in
      let comes : Comes (length before + 1 + 1) m0 last = and_on {m' = mid} {m'' = last} comes1 comes2 in
      let grown = heap_grown program l Fact first z words' w mid m' M room refl u.ready (u.bounded small1) (u.others 2 (λ e. omega (arith, e)) (λ e. omega (arith, e))) u.holds refl refl in
      let there = all_there program l Fact first good a line' hp rs' z registers u.registers' r.words words' (InSlot k) reach
      (λ j fine d. u.others j (λ e. omega (arith, fine.0, e)) (λ e. omega (arith, fine.0, e)) ∙ others j (λ e. omega (arith, fine.0, e)))
      (λ j d. get_or-set_other r.words (base + k) (base + j) hp 0 (λ e. d (omega (arith, e)))) (get_or-set_same r.words (base + k) hp 0 inside) in
      record {
        moment' = m';
        comes = subst (λ p. Comes (length before + 1 + 1) m (moment (state_at p u.registers' words') o2)) (sym behind)
            (subst (λ ws. Comes (length before + 1 + 1) (moment (state_at at registers ws) o) last) same comes);
        runs = stands_at program l Fact first good a at known line' rs' callers z (with_arena (with_heap w z.arena) (charged 20 z)) m m' words' st r c.kept (length_emptied (hp / 4) w z.arena.memory)
            (charged_machine z w words' m' grown) refl there
            (λ e. u.others 1 (λ j. omega (arith, j)) (λ j. omega (arith, j)) ∙ others 1 (λ j. omega (arith, j)) ∙ linked e) records;
      }

  -- where the heap ended comes to its place, and then the heap is longer
  pub moved_longer :
      (a : Activation) (at : ℕ) (known : List StaticRecord) (line' w : ℕ) (target : Place) (rs' : Registers) (callers : List Caller) (z : MidState) (registers words : List ℕ) (o : Beside)
      → (st : StandsOn program a z.arena.blocks × CallersStandOn program first callers a.outer)
      → (r : Point program l Fact first a at known callers z (moment (state_at at registers words) o)) → r.words ≡ words
      → IsPlace (reachable (way_of known) (frame_of program a.procedure).words) target → IsSomewhere target → w ≤ left z.arena
      → slice_index registers 5 ≡ z.arena.heap_to + 4 * w
      → ((words' : List ℕ) → HasProgram program l words' → Stands l words' at (move_code (way_of known) (InRegister 3) target ++ Addi 3 5 0 ∷ []))
      → l.line_at a.procedure line' ≡ at + length (move_code (way_of known) (InRegister 3) target ++ Addi 3 5 0 ∷ [])
      → Arrives program l Fact first a z registers r.words line' rs' target z.arena.heap_to
      → (l.linked a.procedure line' ≡ true → slice_index registers 1 ≡ r.link) → l.records a.procedure line' ≡ known
      → Given program l Fact first a line' rs' callers (with_arena (with_heap w z.arena) (charged 20 z)) (moment (state_at at registers words) o) (length (move_code (way_of known) (InRegister 3) target) + 1)
  moved_longer a at known line' w (AsConstant c) rs' callers z registers words o st r same ok some room five stands_in behind reach linked records = absurd some
  moved_longer a at known line' w (InRegister rd) rs' callers z registers words o st r same ok some room five stands_in behind reach linked records =
      let h = r.machine in
      let hp = z.arena.heap_to in
      let below = h.form.below in
      let size = h.form.small in
      let few : hp + 4 * w ≤ 2 ^ 26 = omega (arith, room, below, size) in
      let ready : Ready registers = record { long = h.long; zero_is = h.zero_is } in
      let L = load_into (way_of known) rd (InRegister 3) in
      let stands = stands_in r.words h.code in
      let long : length (L ++ Addi 3 5 0 ∷ []) ≡ length L + 1 = length-append L (Addi 3 5 0 ∷ []) in
      let q = register_loaded r.words registers (way_of known) rd 3 hp h.arena.words_small ready (omega (arith, few)) (omega (arith, ok.0)) ok.1 h.heap in
      let five' = q.others 5 (λ e. omega (arith, ok.0, e)) (λ e. omega (arith, e)) ∙ five in
      let v : sum32 (slice_index q.registers' 5) (sign_extended 12 0) ≡ hp + 4 * w = ap (λ x. sum32 x (sign_extended 12 0)) five' ∙ omega (arith, few) in
      let u = prepared_one r.words q.registers' (Addi 3 5 0) 3 (hp + 4 * w) h.arena.words_small q.ready (omega arith) (omega arith) (omega (arith, few)) (λ i. ap (λ x. gives 3 x (state_at i q.registers' r.words)) v) in
      let sets = sets_on {r'' = u.registers'} q.sets u.sets in
      let o' = later (length (L ++ Addi 3 5 0 ∷ [])) o in
      let m = moment (state_at at registers words) o in
      let m' = moment (state_at (l.line_at a.procedure line') u.registers' r.words) o' in
      let comes : Comes (length (L ++ Addi 3 5 0 ∷ [])) (moment (state_at at registers r.words) o) (moment (state_at (at + length (L ++ Addi 3 5 0 ∷ [])) u.registers' r.words) o') =
      sets.by at o stands.has (omega (arith, stands.to, good.low)) in
      let stack = u.others 2 (λ e. omega (arith, e)) (λ e. omega (arith, e)) ∙ q.others 2 (λ e. omega (arith, ok.0, e)) (λ e. omega (arith, e)) in
      let grown = heap_grown program l Fact first z r.words w m m' h room refl u.ready (u.bounded (q.bounded h.registers_small)) stack u.holds refl refl in
      let kept = all_kept program l Fact first good a z.arena r.words r.words st.0 (λ j k. refl) in
      let there = all_there program l Fact first good a line' hp rs' z registers u.registers' r.words r.words (InRegister rd) reach
      (λ j fine d. u.others j (λ e. omega (arith, fine.0, e)) (λ e. omega (arith, fine.0, e)) ∙ q.others j d (λ e. omega (arith, fine.0, e))) (λ j d. refl)
      (u.others rd (λ e. omega (arith, ok.0, e)) (λ e. omega (arith, ok.0, e)) ∙ q.holds) in
      record {
        moment' = m';
        comes = subst (λ n. Comes n m m') long
            (subst (λ p. Comes (length (L ++ Addi 3 5 0 ∷ [])) m (moment (state_at p u.registers' r.words) o')) (sym behind)
            (subst (λ ws. Comes (length (L ++ Addi 3 5 0 ∷ [])) (moment (state_at at registers ws) o) (moment (state_at (at + length (L ++ Addi 3 5 0 ∷ [])) u.registers' r.words) o')) same comes));
        runs = stands_at program l Fact first good a at known line' rs' callers z (with_arena (with_heap w z.arena) (charged 20 z)) m m' r.words st r kept (length_emptied (hp / 4) w z.arena.memory)
            (charged_machine z w r.words m' grown) refl there
            (λ e. u.others 1 (λ j. omega (arith, j)) (λ j. omega (arith, j)) ∙ q.others 1 (λ j. omega (arith, ok.0, j)) (λ j. omega (arith, j)) ∙ linked e) records;
      }
  moved_longer a at known line' w (InSlot k) rs' callers z registers words o st r same ok some room five stands_in behind reach linked records =
      let h = r.machine in
      let size = length z.arena.memory in
      let base = base_of program size a in
      let frame = (frame_of program a.procedure).words in
      let ready : Ready registers = record { long = h.long; zero_is = h.zero_is } in
      let f = frame_is program l Fact first good a at known callers z (moment (state_at at registers words) o) st.0 r in
      let there = reached r.words registers (way_of known) base frame k h.arena.words_small ready f ok.1 in
      let few = reachable_few (way_of known) frame in
      let within : k < frame = omega (arith, ok.1, few) in
      let code : at_slot (way_of known) k (Sw 3) ≡ there.before ++ Sw 3 there.from there.offset ∷ [] = there.is_code (Sw 3) in
      let whole : at_slot (way_of known) k (Sw 3) ++ Addi 3 5 0 ∷ [] ≡ there.before ++ (Sw 3 there.from there.offset ∷ Addi 3 5 0 ∷ []) =
      ap (λ c. c ++ Addi 3 5 0 ∷ []) code ∙ append_assoc there.before (Sw 3 there.from there.offset ∷ []) (Addi 3 5 0 ∷ []) in
      let long : length (at_slot (way_of known) k (Sw 3)) ≡ length there.before + 1 = ap length code ∙ length-append there.before (Sw 3 there.from there.offset ∷ []) in
      let long2 : length (at_slot (way_of known) k (Sw 3) ++ Addi 3 5 0 ∷ []) ≡ length (at_slot (way_of known) k (Sw 3)) + 1 = length-append (at_slot (way_of known) k (Sw 3)) (Addi 3 5 0 ∷ []) in
      subst (λ n. Given program l Fact first a line' rs' callers (with_arena (with_heap w z.arena) (charged 20 z)) (moment (state_at at registers words) o) (n + 1)) (sym long)
      (longer_in_slot a at known line' w k rs' callers z registers words o there.before there.from there.offset there.registers' st r same ok.0 within (omega (arith, within, f.inside)) room
      there.sets there.others (there.bounded h.registers_small) there.ready there.address five (λ ws code1. subst (λ c. Stands l ws at c) whole (stands_in ws code1)) (omega (arith, behind, long, long2)) reach linked records)
