-- The step of a store.
use Rattle.std.proofs.Common.{inl, inr, ◌≡◌, ◌≢◌, ℕ, zero, suc, ◌+◌, ◌*◌, ◌/◌, ◌%◌, ◌^◌, ◌<◌, ◌≤◌, ℤ, Bool, true, false, ◌&&◌, List, [], ◌∷◌, ◌++◌, length, refl, sym, ap, subst, ◌∙◌, arith, Some, None, append_assoc, length-append, eqb-true, eq-eqb}
use Rattle.std.specs.Prelude.{◌⊎◌, ◌||◌, Option, slice_index, slice_set, slice_get, nat_lt, nat_le, ◌==◌}
use Rattle.std.proofs.lemmas.Bool.Decides.{nat_tests}
use Rattle.std.proofs.lemmas.List.{get_or-set_same, get_or-set_other, length-set}
use Rattle.base.specs.Arithmetic.{sum32}
use Rattle.rv_encode.specs.declared.instruction.Instr.{Instr}
use Rattle.rv_encode.specs.declared.instruction.Instr.TheVariants.{Sw}
use Rattle.rv_machine.specs.Memory.{bytes_of, stored_at}
use Rattle.rv_machine.specs.Words.{word_stored}
use Rattle.rv_machine.specs.Arithmetic.{sign_extended}
use Rattle.rv_machine.specs.Step.{next as goes_to, execute, store}
use Rattle.rv_machine.specs.Run.{Moment}
use Rattle.mid_code.specs.declared.operation.Operation.TheVariants.{Store}
use Rattle.mid_code.specs.Arena.{Arena, Block, begin_of, lent_from, is_record, is_within, is_in_record, is_lent, with_word}
use Rattle.mid_code.specs.Checked.{is_register, is_offset}
use Rattle.mid_code.specs.Words.{address}
use Rattle.mid_code.specs.State.{Registers, MidState, charged, with_arena, register, with_some, choose_by, ends, falls, stuck}
use Rattle.mid_code.specs.Meaning.{exec_step, with_address, store as store_word}
use Rattle.mid_lines.proofs.Conjunctions.{back_true}
use Rattle.mid_lines.specs.declared.line.Line.TheVariants.{Do}
use Rattle.mid_lines.specs.declared.line.LineProgram.{LineProgram}
use Rattle.mid_lines.specs.Lines.{line_of}
use Rattle.mid_lines.specs.LinesChecked.{is_checked_line_program}
use Rattle.mid_lines.specs.LineMeaning.{Activation, Caller, running, next, proceed, state_of}
use Rattle.mid_lines.specs.StackLaw.{frame_of, StageStands}
use Rattle.back_places.specs.declared.place.Place.{Place}
use Rattle.back_places.specs.declared.place.Place.TheVariants.{InRegister, InSlot, AsConstant}
use Rattle.back_places.specs.Places.{Located, way_at}
use Rattle.back_places.specs.Operands.{read_in, read_code}
use Rattle.back_places.specs.Selection.{low_12}
use Rattle.back_places.specs.Facts.{IsPlace, OnlyReads}
use Rattle.back_places.specs.Good.{IsGood}
use Rattle.back_places.specs.Relation.{Stands, IsAt, base_of, InForm, HasArena, IsPrivate, Machine, Runs, Relates}
use Rattle.back_places.specs.StepLaw.{Comes, Follows, weight}
use Rattle.back_places.proofs.LinesInForm.{line_is, line_in_form}
use Rattle.back_emission.specs.Moments.{state_at, Beside, later, moment, beside, AreSmall, Ready}
use Rattle.back_emission.proofs.Coming.{next_place, and_one}
use Rattle.back_emission.proofs.Operands.{set_small, BothRead, both_read}
use Rattle.back_emission.proofs.Private.{lent_apart, lent_where, on_blocks, SamePrivate, program_kept}
use Rattle.back_emission.proofs.Lengths.{read_length}
use Rattle.back_emission.proofs.Going.{all_kept, point_of, stands_at}
use Rattle.back_emission.proofs.Moving.{place_small, frame_is}
use Rattle.back_emission.proofs.Addresses.{address_same, lent_within}
use Rattle.back_emission.proofs.Steps.{nothing, at_line, weighs, next_line}

-- another place of a list in which one was set
get_other : {X : Type 0} (xs : List X) (i j : ℕ) (y : X) → j ≢ i → slice_get (slice_set xs i y) j ≡ slice_get xs j
get_other [] i j y ne = refl
get_other (x ∷ xs) zero zero y ne = absurd (ne refl)
get_other (x ∷ xs) zero (suc j) y ne = refl
get_other (x ∷ xs) (suc i) zero y ne = refl
get_other (x ∷ xs) (suc i) (suc j) y ne = get_other xs i j y (λ e. ne (ap suc e))

get_same : {X : Type 0} (xs : List X) (i : ℕ) (y z : X) → slice_get (slice_set xs i y) i ≡ Some z → z ≡ y
get_same [] i y z h = cc h
get_same (x ∷ xs) zero y z h = cc h
get_same (x ∷ xs) (suc i) y z h = get_same xs i y z h

length_same : {X : Type 0} (xs : List X) (i : ℕ) (y : X) → length (slice_set xs i y) ≡ length xs
length_same [] i y = refl
length_same (x ∷ xs) zero y = refl
length_same (x ∷ xs) (suc i) y = ap suc (length_same xs i y)

-- a word that is lent is in the memory
either_true : (a b : Bool) → (a || b) ≡ true → (a ≡ true) ⊎ (b ≡ true)
either_true true b h = inl refl
either_true false b h = inr h

below_end : (from to a : ℕ) → is_within from to a ≡ true → a < to
below_end from to a h = grind (arith, nat_tests, back_true (nat_le from a) (nat_lt a to) h)

record_inside : (size : ℕ) (bs : List Block) (i : ℕ) → is_in_record size bs (4 * i) ≡ true → i < size
record_inside size [] i h = absurd (cc h)
record_inside size (b ∷ bs) i h = elim (either_true (is_record b.kind && is_within (lent_from size (b ∷ bs)) (begin_of size bs) (4 * i)) (is_in_record size bs (4 * i)) h) [
  | inl k ↦ let w = below_end (lent_from size (b ∷ bs)) (begin_of size bs) (4 * i) (back_true (is_record b.kind) _ k) in omega (arith, w)
  | inr k ↦ record_inside size bs i k
]

lent_inside : (a : Arena) (i : ℕ) → InForm a → is_lent a (4 * i) ≡ true → i < length a.memory
lent_inside a i f h =
    elim (either_true (is_within a.laid_from a.laid_to (4 * i) || is_within a.heap_from a.heap_to (4 * i)) (is_in_record (length a.memory) a.blocks (4 * i)) (back_true (4 * i % 4 == 0) _ h)) [
      | inl k ↦ elim (either_true (is_within a.laid_from a.laid_to (4 * i)) (is_within a.heap_from a.heap_to (4 * i)) k) [
        | inl j ↦ let w = below_end a.laid_from a.laid_to (4 * i) j in omega (arith, w, f.laid, f.grown, f.below)
        | inr j ↦ let w = below_end a.heap_from a.heap_to (4 * i) j in omega (arith, w, f.below)
      ]
      | inr k ↦ record_inside (length a.memory) a.blocks i k
    ]

-- what is lent is the same with a word stored
lent_same : (a : Arena) (i place w : ℕ) → is_lent (with_word place w a) (4 * i) ≡ is_lent a (4 * i)
lent_same a i place w =
    ap (λ size. (4 * i % 4 == 0) && (is_within a.laid_from a.laid_to (4 * i) || is_within a.heap_from a.heap_to (4 * i) || is_in_record size a.blocks (4 * i)))
    (length_same a.memory (place / 4) (Some w))

-- a word in the words of the machine, and in the arena
pub arena_stored :
    (a : Arena) (words : List ℕ) (place w : ℕ) → HasArena words a → place / 4 < length words → w < 2 ^ 32
    → HasArena (slice_set words (place / 4) w) (with_word place w a)
arena_stored a words place w has inside small = record {
  long = length-set words (place / 4) w ∙ has.long ∙ sym (length_same a.memory (place / 4) (Some w));
  words_small = λ j. set_small words (place / 4) w j has.words_small small;
  lent = λ j v h e. by j (j == place / 4) refl v (sym (lent_same a j place w) ∙ h) e;
}
  where
    by : (j : ℕ) (t : Bool) → (j == place / 4) ≡ t → (v : ℕ) → is_lent a (4 * j) ≡ true → slice_get (slice_set a.memory (place / 4) (Some w)) j ≡ Some (Some v) → slice_index (slice_set words (place / 4) w) j ≡ v
    by j true e v h there =
        let q : j ≡ place / 4 = eqb-true j (place / 4) e in
        let is = get_same a.memory (place / 4) (Some w) (Some v) (subst (λ k. slice_get (slice_set a.memory (place / 4) (Some w)) k ≡ Some (Some v)) q there) in
        ap (λ k. slice_index (slice_set words (place / 4) w) k) q ∙ get_or-set_same words (place / 4) w 0 inside ∙ cc is
    by j false e v h there =
        let ne : j ≢ place / 4 = λ q. absurd (cc (e, eq-eqb j (place / 4) q)) in
        get_or-set_other words (place / 4) j w 0 ne ∙ has.lent j v h (sym (get_other a.memory (place / 4) j (Some w) ne) ∙ there)

module _ (program : LineProgram) (l : Located) (Fact : (number line register : ℕ) → Place → Type 0) (first : List Block)
    (checked : is_checked_line_program program ≡ true) (good : IsGood program l Fact) where
  offset_fits : (number line from base : ℕ) (offset : ℤ) → line_of program number line ≡ Some (Do (Store from base offset)) → is_offset offset ≡ true
  offset_fits number line from base offset e =
      let i = line_is program number line (Do (Store from base offset)) checked e in
      let c = i.procedure.registers in
      back_true (is_register c from && is_register c base) (is_offset offset) (line_in_form program number line (Do (Store from base offset)) i)

  -- the machine with a word stored where it is lent
  machine_stored :
      (z : MidState) (cost : ℕ) (words : List ℕ) (m : Moment) (place w : ℕ) (registers' : List ℕ) (i : ℕ) (o : Beside) → Machine program l Fact first z words m
      → (at : ℕ) → l.code_from ≤ at → at ≤ l.code_to → is_lent z.arena (4 * (place / 4)) ≡ true → w < 2 ^ 32 → Ready registers' → AreSmall registers'
      → slice_index registers' 2 ≡ slice_index m.state.registers 2 → slice_index registers' 3 ≡ slice_index m.state.registers 3 → o.printed ≡ m.printed → o.input ≡ m.input
      → Machine program l Fact first (with_arena (with_word place w z.arena) (charged cost z)) (slice_set words (place / 4) w) (moment (state_at i registers' (slice_set words (place / 4) w)) o)
  machine_stored z cost words m place w registers' i o r at from to lent small ready bounded stack heap printed input =
      let k = place / 4 in
      let f = r.form in
      let size : length (slice_set z.arena.memory k (Some w)) ≡ length z.arena.memory = length_same z.arena.memory k (Some w) in
      let inside = lent_inside z.arena k f lent in
      let where_is = lent_where z.arena k f lent in
      record {
        memory = refl;
        arena = record {
          long = (arena_stored z.arena words place w r.arena (omega (arith, inside, r.arena.long)) small).long;
          words_small = (arena_stored z.arena words place w r.arena (omega (arith, inside, r.arena.long)) small).words_small;
          lent = (arena_stored z.arena words place w r.arena (omega (arith, inside, r.arena.long)) small).lent;
        };
        code = program_kept program l words (slice_set words k w) (length-set words k w)
            (λ j low high. get_or-set_other words k j w 0 (λ e. elim where_is [ inl h ↦ omega (arith, h, low, e, r.apart.laid_below, r.apart.arguments_below) | inr h ↦ omega (arith, h, high, e, r.apart.heap_above) ])) r.code;
        apart = record { laid_below = r.apart.laid_below; arguments_below = r.apart.arguments_below; heap_above = r.apart.heap_above };
        form = record {
          small = omega (arith, size, f.small);
          fits = omega (arith, size, f.fits);
          heap = f.heap;
          grown = f.grown;
          below = omega (arith, size, f.below);
          laid = f.laid;
        };
        long = ready.long;
        zero_is = ready.zero_is;
        registers_small = bounded;
        stack = omega (arith, stack, r.stack, size);
        heap = heap ∙ r.heap;
        printed = printed ∙ r.printed;
        input = input ∙ r.input;
        input_small = r.input_small;
      }

  past :
      (registers registers' words words' : List ℕ) (base frame : ℕ) (p : Place) (w : ℕ) → ((q : ℕ) → (q < 5) ⊎ (7 < q) → slice_index registers' q ≡ slice_index registers q)
      → ((k : ℕ) → k < frame → slice_index words' (base + k) ≡ slice_index words (base + k)) → IsPlace frame p → IsAt registers words base p w → IsAt registers' words' base p w
  past registers registers' words words' base frame (InRegister q) w others kept ok h = others q (inr ok.0) ∙ h
  past registers registers' words words' base frame (InSlot k) w others kept ok h = kept k ok.1 ∙ h
  past registers registers' words words' base frame (AsConstant c) w others kept ok h = h

  -- both operands are read, and the word is stored
  stored :
      (a : Activation) (line : ℕ) (rs : Registers) (callers : List Caller) (z : MidState) (m : Moment) (C : List Instr) (ra rb x b off place : ℕ)
      → (st : StageStands program first (running a line rs callers z)) → (r : Runs program l Fact first a line rs callers z m)
      → BothRead r.words m.state.registers C ra rb x b → x < 2 ^ 32
      → (reads : List ℕ) → OnlyReads l Fact a.procedure line reads
      → Stands l r.words (l.line_at a.procedure line) (C ++ Sw ra rb off ∷ [])
      → l.line_at a.procedure (line + 1) ≡ l.line_at a.procedure line + length (C ++ Sw ra rb off ∷ [])
      → sum32 b (sign_extended 12 off) ≡ 4 * (place / 4) → is_lent z.arena (4 * (place / 4)) ≡ true
      → next program (running a line rs callers z) ≡ running a (line + 1) rs callers (with_arena (with_word place x z.arena) (charged 8 z))
      → length C ≤ 6 → weight program (running a line rs callers z) ≡ 0
      → Follows program l Fact first (running a line rs callers z) m
  stored a line rs callers z m C ra rb x b off place st r p small reads g stands behind address lent goes few light =
      let k = place / 4 in
      let at = l.line_at a.procedure line in
      let words = r.words in
      let words' = slice_set words k x in
      let size = length z.arena.memory in
      let base = base_of program size a in
      let ins = Sw ra rb off in
      let long : length (C ++ ins ∷ []) ≡ length C + 1 = length-append C (ins ∷ []) in
      let inside : k < length words = let h = lent_inside z.arena k r.machine.form lent in omega (arith, h, r.machine.arena.long) in
      let o = later 1 (later (length C) (beside m)) in
      let there : at + length C + 1 ≡ l.line_at a.procedure (line + 1) = omega (arith, behind, long) in
      let here = state_at (at + length C) p.registers' words in
      let pc : sum32 (4 * (at + length C)) 4 ≡ 4 * (at + length C + 1) = next_place (at + length C) (omega (arith, stands.to, good.low, long)) in
      let does : execute ins here ≡ goes_to (state_at (at + length C + 1) p.registers' words') =
      ap (λ y. store (stored_at 4 (sum32 y (sign_extended 12 off)) (slice_index p.registers' ra) (bytes_of words)) here) p.second_is
      ∙ ap (λ y. store (stored_at 4 y (slice_index p.registers' ra) (bytes_of words)) here) address
      ∙ ap (λ y. store (stored_at 4 (4 * k) y (bytes_of words)) here) p.first_is
      ∙ ap (λ y. store y here) (word_stored words k x inside)
      ∙ ap (λ y. goes_to (record { pc = y; registers = p.registers'; memory = bytes_of words' })) pc in
      let comes = and_one m at words p.registers' C [] ins (state_at (at + length C + 1) p.registers' words') r.machine.arena.words_small r.pc r.machine.memory p.sets stands.has (omega (arith, stands.to, good.low, long)) does in
      let m' = moment (state_at (l.line_at a.procedure (line + 1)) p.registers' words') o in
      let same : SamePrivate size z.arena.blocks words words' = λ j h. get_or-set_other words k j x 0 (λ e. lent_apart z.arena k r.machine.form lent (subst (λ n. IsPrivate size z.arena.blocks n) e h)) in
      let machine = machine_stored z 8 words m place x p.registers' (l.line_at a.procedure (line + 1)) o r.machine at stands.from (omega (arith, stands.to)) lent small p.ready (p.bounded r.machine.registers_small)
      (p.others 2 (inl (omega arith))) (p.others 3 (inl (omega arith))) refl refl in
      let runs = stands_at program l Fact first good a at (l.records a.procedure line) (line + 1) rs callers z (with_arena (with_word place x z.arena) (charged 8 z)) m m' words' st
      (point_of program l Fact first good a line rs callers z m r) (all_kept program l Fact first good a z.arena words words' st.0 same) (length_same z.arena.memory k (Some x)) machine refl
      (λ v q w f h. past m.state.registers p.registers' words words' base (frame_of program a.procedure).words q w p.others
      (λ j low. same (base + j) (on_blocks program size a z.arena.blocks j st.0 low)) (good.placed a.procedure line v q (g.keeps.facts v q f)) (r.there v q w (g.keeps.facts v q f) h))
      (λ h. p.others 1 (inl (omega arith)) ∙ r.links.linked (g.keeps.linked h)) g.keeps.records in
      record {
        count = length C + 1;
        moment = m';
        comes = subst (λ n. Comes (length C + 1) m (moment (state_at n p.registers' words') o)) there comes;
        relates = subst (λ y. Relates program l Fact first y m') (sym goes) (st, runs);
        cheap = subst (λ y. length C + 1 + z.cost ≤ (state_of y).cost) (sym goes) (omega (arith, few));
        heavy = λ u. omega (arith, light);
      }

  pub store_follows :
      (a : Activation) (line from v : ℕ) (offset : ℤ) (rs : Registers) (callers : List Caller) (z : MidState) (m : Moment)
      → line_of program a.procedure line ≡ Some (Do (Store from v offset))
      → Relates program l Fact first (running a line rs callers z) m → Follows program l Fact first (running a line rs callers z) m
  unfolding exec_step with_some choose_by proceed
  store_follows a line from v offset rs callers z m e r = by (register from rs) (register v rs) refl refl
    where
      light : weight program (running a line rs callers z) ≡ 0
      light = weighs program l Fact first good a line rs callers z (Do (Store from v offset)) e

      start : (x : Option ℕ) → register from rs ≡ x
          → next program (running a line rs callers z) ≡ proceed program a (line + 1) callers (with_some x (λ w. with_address v offset (λ b. store_word b w (ends falls))) rs (charged 8 z))
      start x h =
          at_line program l Fact first good a line rs callers z (Do (Store from v offset)) e
          ∙ ap (λ u. proceed program a (line + 1) callers (with_some u (λ w. with_address v offset (λ b. store_word b w (ends falls))) rs (charged 8 z))) h

      second : (w : ℕ) (x : Option ℕ) → register from rs ≡ Some w → register v rs ≡ x
          → next program (running a line rs callers z) ≡ proceed program a (line + 1) callers (with_some x (λ b. store_word (address b offset) w (ends falls)) rs (charged 8 z))
      second w x h k = start (Some w) h ∙ ap (λ u. proceed program a (line + 1) callers (with_some u (λ b. store_word (address b offset) w (ends falls)) rs (charged 8 z))) k

      third : (w b : ℕ) (t : Bool) → register from rs ≡ Some w → register v rs ≡ Some b → is_lent z.arena (address b offset) ≡ t
          → next program (running a line rs callers z)
          ≡ proceed program a (line + 1) callers (choose_by t (λ rs' y. ends falls rs' (with_arena (with_word (address b offset) w y.arena) y)) (ends stuck) rs (charged 8 z))
      third w b t h k q =
          second w (Some b) h k
          ∙ ap (λ u. proceed program a (line + 1) callers (choose_by u (λ rs' y. ends falls rs' (with_arena (with_word (address b offset) w y.arena) y)) (ends stuck) rs (charged 8 z))) q

      lent_or_not : (w b : ℕ) (t : Bool) → register from rs ≡ Some w → register v rs ≡ Some b → is_lent z.arena (address b offset) ≡ t → Follows program l Fact first (running a line rs callers z) m
      lent_or_not w b false h k q = nothing program l Fact first good (running a line rs callers z) m (charged 8 z) (third w b false h k q) (omega arith)
      lent_or_not w b true h k q =
          let g = good.lines a.procedure line (Do (Store from v offset)) e in
          let ff = g.reads.0 in
          let fv = g.reads.1.0 in
          let way = way_at l a.procedure line in
          let p = l.source a.procedure line from in
          let s = l.source a.procedure line v in
          let words = r.1.words in
          let ws = r.1.machine.arena.words_small in
          let regs = m.state.registers in
          let ready : Ready regs = record { long = r.1.machine.long; zero_is = r.1.machine.zero_is } in
          let f = frame_is program l Fact first good a (l.line_at a.procedure line) (l.records a.procedure line) callers z m r.0.0 (point_of program l Fact first good a line rs callers z m r.1) in
          let okp = good.sources a.procedure line from ff in
          let oks = good.sources a.procedure line v fv in
          let ap' = r.1.there from p w ff h in
          let as' = r.1.there v s b fv k in
          let sw = place_small regs words _ _ p w r.1.machine.registers_small ws okp ap' in
          let sb = place_small regs words _ _ s b r.1.machine.registers_small ws oks as' in
          let both = both_read words regs way _ _ p s w b ws ready f okp oks ap' as' in
          let A = read_code way 5 p in
          let B = read_code way 6 s in
          let ins = Sw (read_in 5 p) (read_in 6 s) (low_12 offset) in
          let same : A ++ (B ++ ins ∷ []) ≡ (A ++ B) ++ ins ∷ [] = sym (append_assoc A B (ins ∷ [])) in
          let place = lent_within z.arena (address b offset) q in
          stored a line rs callers z m (A ++ B) (read_in 5 p) (read_in 6 s) w b (low_12 offset) (address b offset) r.0 r.1 both sw (from ∷ v ∷ []) g
          (subst (λ c. Stands l words (l.line_at a.procedure line) c) same (r.1.machine.code.lines a.procedure line (Do (Store from v offset)) e))
          (next_line program l Fact first good a.procedure line (Do (Store from v offset)) e refl ∙ ap (λ c. l.line_at a.procedure line + length c) same)
          (address_same b offset sb (offset_fits a.procedure line from v offset e) ∙ place)
          (subst (λ x. is_lent z.arena x ≡ true) place q) (third w b true h k q)
          (omega (arith, length-append A B, read_length way 5 p, read_length way 6 s)) light

      by : (x y : Option ℕ) → register from rs ≡ x → register v rs ≡ y → Follows program l Fact first (running a line rs callers z) m
      by None y h k = nothing program l Fact first good (running a line rs callers z) m (charged 8 z) (start None h) (omega arith)
      by (Some w) None h k = nothing program l Fact first good (running a line rs callers z) m (charged 8 z) (second w None h k) (omega arith)
      by (Some w) (Some b) h k = lent_or_not w b (is_lent z.arena (address b offset)) h k refl
