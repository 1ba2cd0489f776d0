-- The steps of moves, constants and computations.
use Rattle.std.proofs.Common.{◌≡◌, ℕ, ◌+◌, ◌^◌, ◌<◌, true, List, [], ◌∷◌, ◌++◌, length, refl, sym, ap, subst, ◌∙◌, arith, Some, None, append_assoc}
use Rattle.std.specs.Prelude.{Option, slice_index, slice_set}
use Rattle.std.proofs.lemmas.Bool.Decides.{nat_tests}
use Rattle.rv_encode.specs.declared.instruction.Instr.{Instr}
use Rattle.rv_machine.specs.Step.{gives}
use Rattle.rv_machine.specs.Run.{Moment}
use Rattle.mid_code.proofs.WordBounds.{computed_bounded}
use Rattle.mid_code.specs.declared.operation.Arithmetic.{Arithmetic}
use Rattle.mid_code.specs.declared.operation.Operation.TheVariants.{Move, Constant, Compute}
use Rattle.mid_code.specs.Arena.{Block}
use Rattle.mid_code.specs.Checked.{is_register, is_constant}
use Rattle.mid_code.specs.State.{Registers, MidState, charged, register, with_some, with_register, gives as gives_word}
use Rattle.mid_code.specs.Meaning.{exec_step}
use Rattle.mid_code.specs.Words.{computed}
use Rattle.mid_lines.proofs.Conjunctions.{back_true}
use Rattle.mid_lines.specs.declared.line.Line.TheVariants.{Do}
use Rattle.mid_lines.specs.declared.line.LineProgram.{LineProgram}
use Rattle.mid_lines.specs.Lines.{line_of}
use Rattle.mid_lines.specs.LinesChecked.{is_checked_line_program}
use Rattle.mid_lines.specs.LineMeaning.{Activation, Caller, running, next, proceed}
use Rattle.mid_lines.specs.StackLaw.{frame_of, StandsOn, CallersStandOn}
use Rattle.back_places.specs.declared.place.Place.{Place}
use Rattle.back_places.specs.declared.place.Place.TheVariants.{InRegister, InSlot, AsConstant}
use Rattle.back_places.specs.Places.{StaticRecord, Located, way_of, way_at, reachable}
use Rattle.back_places.specs.Operands.{read_in, read_code, given_in, keep_code, move_code}
use Rattle.back_places.specs.Selection.{arithmetic_of, immediate_of, binary_code, short_code, compute_code}
use Rattle.back_places.specs.Facts.{IsPlace, IsSomewhere}
use Rattle.back_places.specs.Good.{IsGood}
use Rattle.back_places.specs.Relation.{Stands, IsAt, base_of, Point, Relates}
use Rattle.back_places.specs.StepLaw.{Follows}
use Rattle.back_places.proofs.LinesInForm.{line_is, line_in_form}
use Rattle.back_emission.specs.Moments.{state_at, Ready}
use Rattle.back_emission.specs.Arriving.{Given, Arrives}
use Rattle.back_emission.proofs.Operands.{read, both_read}
use Rattle.back_emission.proofs.Arithmetic.{arithmetic_same, immediate_same}
use Rattle.back_emission.proofs.Lengths.{move_length, compute_length}
use Rattle.back_emission.proofs.Going.{point_of}
use Rattle.back_emission.proofs.Giving.{arrives}
use Rattle.back_emission.proofs.Moving.{place_small, holds_somewhere, frame_is, moved}
use Rattle.back_emission.proofs.Keeping.{gave_of_one, gave_of_two, given_is, kept}
use Rattle.back_emission.proofs.Steps.{nothing, follows, at_line, weighs, next_line}

module _ (program : LineProgram) (l : Located) (Fact : (number line register : ℕ) → Place → Type 0) (first : List Block)
    (checked : is_checked_line_program program ≡ true) (good : IsGood program l Fact) where
  pub move_follows :
      (a : Activation) (line to from : ℕ) (rs : Registers) (callers : List Caller) (z : MidState) (m : Moment)
      → line_of program a.procedure line ≡ Some (Do (Move to from))
      → Relates program l Fact first (running a line rs callers z) m → Follows program l Fact first (running a line rs callers z) m
  unfolding exec_step with_some proceed
  move_follows a line to from rs callers z m e r = by (register from rs) refl
    where
      by : (o : Option ℕ) → register from rs ≡ o → Follows program l Fact first (running a line rs callers z) m
      by None h =
          nothing program l Fact first good (running a line rs callers z) m (charged 6 z)
          (at_line program l Fact first good a line rs callers z (Do (Move to from)) e ∙ ap (λ u. proceed program a (line + 1) callers (with_some u (gives_word to) rs (charged 6 z))) h) (omega arith)
      by (Some w) h =
          let g = good.lines a.procedure line (Do (Move to from)) e in
          let fact = g.gives.reads.0 in
          let source = l.source a.procedure line from in
          let target = l.target a.procedure line in
          let code = move_code (way_at l a.procedure line) source target in
          let light = weighs program l Fact first good a line rs callers z (Do (Move to from)) e in
          follows program l Fact first good a line (line + 1) rs (slice_set rs to (Some w)) callers z 6 m (length code) r.0
          (at_line program l Fact first good a line rs callers z (Do (Move to from)) e ∙ ap (λ u. proceed program a (line + 1) callers (with_some u (gives_word to) rs (charged 6 z))) h)
          (moved program l Fact first good a (l.line_at a.procedure line) (l.records a.procedure line) (line + 1) w source target (slice_set rs to (Some w)) callers z 6 m r.0
          (point_of program l Fact first good a line rs callers z m r.1) (good.targets a.procedure line) (good.sources a.procedure line from fact) (holds_somewhere target w g.somewhere)
          (r.1.there from source w fact h) (r.1.machine.code.lines a.procedure line (Do (Move to from)) e) (next_line program l Fact first good a.procedure line (Do (Move to from)) e refl)
          (arrives program l Fact first good a line (line + 1) to w rs z m.state.registers r.1.words g.gives.flows r.1.there) (λ x. r.1.links.linked (g.gives.linked x)) g.gives.records)
          (let n = move_length (way_at l a.procedure line) source target in omega (arith, n))
          (omega (arith, light))

  constant_small : (number line to word : ℕ) → line_of program number line ≡ Some (Do (Constant to word)) → word < 2 ^ 32
  constant_small number line to word e =
      let i = line_is program number line (Do (Constant to word)) checked e in
      let fits = back_true (is_register i.procedure.registers to) (is_constant word) (line_in_form program number line (Do (Constant to word)) i) in
      grind (arith, nat_tests, fits)

  pub constant_follows :
      (a : Activation) (line to word : ℕ) (rs : Registers) (callers : List Caller) (z : MidState) (m : Moment)
      → line_of program a.procedure line ≡ Some (Do (Constant to word))
      → Relates program l Fact first (running a line rs callers z) m → Follows program l Fact first (running a line rs callers z) m
  unfolding exec_step proceed
  constant_follows a line to word rs callers z m e r =
      let g = good.lines a.procedure line (Do (Constant to word)) e in
      let target = l.target a.procedure line in
      let code = move_code (way_at l a.procedure line) (AsConstant word) target in
      let light = weighs program l Fact first good a line rs callers z (Do (Constant to word)) e in
      let n = move_length (way_at l a.procedure line) (AsConstant word) target in
      follows program l Fact first good a line (line + 1) rs (slice_set rs to (Some word)) callers z 6 m (length code) r.0
      (at_line program l Fact first good a line rs callers z (Do (Constant to word)) e)
      (moved program l Fact first good a (l.line_at a.procedure line) (l.records a.procedure line) (line + 1) word (AsConstant word) target (slice_set rs to (Some word)) callers z 6 m r.0
      (point_of program l Fact first good a line rs callers z m r.1) (good.targets a.procedure line) (constant_small a.procedure line to word e) g.1
      refl (r.1.machine.code.lines a.procedure line (Do (Constant to word)) e) (next_line program l Fact first good a.procedure line (Do (Constant to word)) e refl)
      (arrives program l Fact first good a line (line + 1) to word rs z m.state.registers r.1.words g.0.flows r.1.there) (λ x. r.1.links.linked (g.0.linked x)) g.0.records)
      (omega (arith, n)) (omega (arith, light))

  -- a word is computed of two operands into its place
  binary_to :
      (a : Activation) (at : ℕ) (known : List StaticRecord) (line' x y : ℕ) (o : Arithmetic) (p q target : Place) (rs' : Registers) (callers : List Caller) (z : MidState) (cost : ℕ) (m : Moment)
      → (st : StandsOn program a z.arena.blocks × CallersStandOn program first callers a.outer) → (r : Point program l Fact first a at known callers z m)
      → IsPlace (reachable (way_of known) (frame_of program a.procedure).words) target → IsSomewhere target
      → IsPlace (reachable (way_of known) (frame_of program a.procedure).words) p → IsPlace (reachable (way_of known) (frame_of program a.procedure).words) q
      → IsAt m.state.registers r.words (base_of program (length z.arena.memory) a) p x → IsAt m.state.registers r.words (base_of program (length z.arena.memory) a) q y
      → Stands l r.words at (binary_code (way_of known) p q target (arithmetic_of o))
      → l.line_at a.procedure line' ≡ at + length (binary_code (way_of known) p q target (arithmetic_of o))
      → Arrives program l Fact first a z m.state.registers r.words line' rs' target (computed o x y)
      → (l.linked a.procedure line' ≡ true → slice_index m.state.registers 1 ≡ r.link) → l.records a.procedure line' ≡ known
      → Given program l Fact first a line' rs' callers (charged cost z) m (length (binary_code (way_of known) p q target (arithmetic_of o)))
  binary_to a at known line' x y o p q target rs' callers z cost m st r ok somewhere okp okq hx hy stands behind arrive linked records =
      let way = way_of known in
      let ws = r.machine.arena.words_small in
      let sx = place_small m.state.registers r.words _ _ p x r.machine.registers_small ws okp hx in
      let sy = place_small m.state.registers r.words _ _ q y r.machine.registers_small ws okq hy in
      let small = computed_bounded o x y sx sy in
      let ready : Ready m.state.registers = record { long = r.machine.long; zero_is = r.machine.zero_is } in
      let f = frame_is program l Fact first good a at known callers z m st.0 r in
      let both = both_read r.words m.state.registers way _ _ p q x y ws ready f okp okq hx hy in
      let to = given_in target in
      let is = given_is _ target ok somewhere in
      let ins = arithmetic_of o to (read_in 5 p) (read_in 6 q) in
      let c = gave_of_two r.words m.state.registers (read_code way 5 p ++ read_code way 6 q) ins to (read_in 5 p) (read_in 6 q) x y (computed o x y) ws (omega (arith, is.0)) is.1 small both
      (λ i. arithmetic_same o to (read_in 5 p) (read_in 6 q) (state_at i both.registers' r.words)
      ∙ ap (λ k. gives to (computed o k (slice_index both.registers' (read_in 6 q))) (state_at i both.registers' r.words)) both.first_is
      ∙ ap (λ k. gives to (computed o x k) (state_at i both.registers' r.words)) both.second_is) in
      let same = append_assoc (read_code way 5 p ++ read_code way 6 q) (ins ∷ []) (keep_code way target) ∙ append_assoc (read_code way 5 p) (read_code way 6 q) (ins ∷ keep_code way target) in
      subst (λ k. Given program l Fact first a line' rs' callers (charged cost z) m (length k)) same
      (kept program l Fact first good a at known line' (computed o x y) target rs' callers z cost m ((read_code way 5 p ++ read_code way 6 q) ++ ins ∷ []) st r ok somewhere small c
      (subst (λ k. Stands l r.words at k) (sym same) stands) (behind ∙ ap (λ k. at + length k) (sym same)) arrive linked records)

  -- the same with a word as the second operand
  short_to :
      (a : Activation) (at : ℕ) (known : List StaticRecord) (line' x y : ℕ) (o : Arithmetic) (p target : Place) (rs' : Registers) (callers : List Caller) (z : MidState) (cost : ℕ) (m : Moment)
      → (st : StandsOn program a z.arena.blocks × CallersStandOn program first callers a.outer) → (r : Point program l Fact first a at known callers z m)
      → IsPlace (reachable (way_of known) (frame_of program a.procedure).words) target → IsSomewhere target
      → IsPlace (reachable (way_of known) (frame_of program a.procedure).words) p → y < 2 ^ 32
      → IsAt m.state.registers r.words (base_of program (length z.arena.memory) a) p x
      → (i : Option Instr) → immediate_of o (given_in target) (read_in 5 p) y ≡ i
      → Stands l r.words at (short_code (way_of known) p y target o i)
      → l.line_at a.procedure line' ≡ at + length (short_code (way_of known) p y target o i)
      → Arrives program l Fact first a z m.state.registers r.words line' rs' target (computed o x y)
      → (l.linked a.procedure line' ≡ true → slice_index m.state.registers 1 ≡ r.link) → l.records a.procedure line' ≡ known
      → Given program l Fact first a line' rs' callers (charged cost z) m (length (short_code (way_of known) p y target o i))
  short_to a at known line' x y o p target rs' callers z cost m st r ok somewhere okp fits hx None h stands behind arrive linked records =
      binary_to a at known line' x y o p (AsConstant y) target rs' callers z cost m st r ok somewhere okp fits hx refl stands behind arrive linked records
  short_to a at known line' x y o p target rs' callers z cost m st r ok somewhere okp fits hx (Some ins) h stands behind arrive linked records =
      let way = way_of known in
      let ws = r.machine.arena.words_small in
      let sx = place_small m.state.registers r.words _ _ p x r.machine.registers_small ws okp hx in
      let small = computed_bounded o x y sx fits in
      let ready : Ready m.state.registers = record { long = r.machine.long; zero_is = r.machine.zero_is } in
      let f = frame_is program l Fact first good a at known callers z m st.0 r in
      let one = read r.words m.state.registers way _ _ 5 p x ws ready f okp (omega arith) (omega arith) hx in
      let to = given_in target in
      let is = given_is _ target ok somewhere in
      let c = gave_of_one r.words m.state.registers (read_code way 5 p) ins 5 to (read_in 5 p) x (computed o x y) ws (omega (arith, is.0)) is.1 small (omega arith) (omega arith) one
      (λ i. immediate_same o to (read_in 5 p) y ins (state_at i one.registers' r.words) fits h
      ∙ ap (λ k. gives to (computed o k y) (state_at i one.registers' r.words)) one.holds) in
      let same = append_assoc (read_code way 5 p) (ins ∷ []) (keep_code way target) in
      subst (λ k. Given program l Fact first a line' rs' callers (charged cost z) m (length k)) same
      (kept program l Fact first good a at known line' (computed o x y) target rs' callers z cost m (read_code way 5 p ++ ins ∷ []) st r ok somewhere small c
      (subst (λ k. Stands l r.words at k) (sym same) stands) (behind ∙ ap (λ k. at + length k) (sym same)) arrive linked records)

  computed_to :
      (a : Activation) (at : ℕ) (known : List StaticRecord) (line' x y : ℕ) (o : Arithmetic) (p q target : Place) (rs' : Registers) (callers : List Caller) (z : MidState) (cost : ℕ) (m : Moment)
      → (st : StandsOn program a z.arena.blocks × CallersStandOn program first callers a.outer) → (r : Point program l Fact first a at known callers z m)
      → IsPlace (reachable (way_of known) (frame_of program a.procedure).words) target → IsSomewhere target
      → IsPlace (reachable (way_of known) (frame_of program a.procedure).words) p → IsPlace (reachable (way_of known) (frame_of program a.procedure).words) q
      → IsAt m.state.registers r.words (base_of program (length z.arena.memory) a) p x → IsAt m.state.registers r.words (base_of program (length z.arena.memory) a) q y
      → Stands l r.words at (compute_code (way_of known) p q target o)
      → l.line_at a.procedure line' ≡ at + length (compute_code (way_of known) p q target o)
      → Arrives program l Fact first a z m.state.registers r.words line' rs' target (computed o x y)
      → (l.linked a.procedure line' ≡ true → slice_index m.state.registers 1 ≡ r.link) → l.records a.procedure line' ≡ known
      → Given program l Fact first a line' rs' callers (charged cost z) m (length (compute_code (way_of known) p q target o))
  computed_to a at known line' x y o p (InRegister q) target rs' callers z cost m st r ok somewhere okp okq hx hy stands behind arrive linked records =
      binary_to a at known line' x y o p (InRegister q) target rs' callers z cost m st r ok somewhere okp okq hx hy stands behind arrive linked records
  computed_to a at known line' x y o p (InSlot k) target rs' callers z cost m st r ok somewhere okp okq hx hy stands behind arrive linked records =
      binary_to a at known line' x y o p (InSlot k) target rs' callers z cost m st r ok somewhere okp okq hx hy stands behind arrive linked records
  computed_to a at known line' x y o p (AsConstant c) target rs' callers z cost m st r ok somewhere okp okq hx hy stands behind arrive linked records =
      short_to a at known line' x c o p target rs' callers z cost m st r ok somewhere okp okq hx (immediate_of o (given_in target) (read_in 5 p) c) refl stands behind
      (subst (λ k. Arrives program l Fact first a z m.state.registers r.words line' rs' target (computed o x k)) (sym hy) arrive) linked records

  pub compute_follows :
      (a : Activation) (line to ra rb : ℕ) (o : Arithmetic) (rs : Registers) (callers : List Caller) (z : MidState) (m : Moment)
      → line_of program a.procedure line ≡ Some (Do (Compute to o ra rb))
      → Relates program l Fact first (running a line rs callers z) m → Follows program l Fact first (running a line rs callers z) m
  unfolding exec_step with_some proceed
  compute_follows a line to ra rb o rs callers z m e r = by (register ra rs) (register rb rs) refl refl
    where
      goes : (x : Option ℕ) → register ra rs ≡ x
          → next program (running a line rs callers z) ≡ proceed program a (line + 1) callers (with_some x (λ u. with_register rb (λ v. gives_word to (computed o u v))) rs (charged 10 z))
      goes x hx =
          at_line program l Fact first good a line rs callers z (Do (Compute to o ra rb)) e
          ∙ ap (λ u. proceed program a (line + 1) callers (with_some u (λ u. with_register rb (λ v. gives_word to (computed o u v))) rs (charged 10 z))) hx

      second : (x : ℕ) (y : Option ℕ) → register ra rs ≡ Some x → register rb rs ≡ y
          → next program (running a line rs callers z) ≡ proceed program a (line + 1) callers (with_some y (λ v. gives_word to (computed o x v)) rs (charged 10 z))
      second x y hx hy = goes (Some x) hx ∙ ap (λ w. proceed program a (line + 1) callers (with_some w (λ v. gives_word to (computed o x v)) rs (charged 10 z))) hy

      by : (x y : Option ℕ) → register ra rs ≡ x → register rb rs ≡ y → Follows program l Fact first (running a line rs callers z) m
      by None y hx hy = nothing program l Fact first good (running a line rs callers z) m (charged 10 z) (goes None hx) (omega arith)
      by (Some x) None hx hy = nothing program l Fact first good (running a line rs callers z) m (charged 10 z) (second x None hx hy) (omega arith)
      by (Some x) (Some y) hx hy =
          let g = good.lines a.procedure line (Do (Compute to o ra rb)) e in
          let fa = g.gives.reads.0 in
          let fb = g.gives.reads.1.0 in
          let p = l.source a.procedure line ra in
          let q = l.source a.procedure line rb in
          let target = l.target a.procedure line in
          let light = weighs program l Fact first good a line rs callers z (Do (Compute to o ra rb)) e in
          let n = compute_length (way_at l a.procedure line) p q target o in
          follows program l Fact first good a line (line + 1) rs (slice_set rs to (Some (computed o x y))) callers z 10 m _ r.0 (second x (Some y) hx hy)
          (computed_to a (l.line_at a.procedure line) (l.records a.procedure line) (line + 1) x y o p q target
          (slice_set rs to (Some (computed o x y))) callers z 10 m r.0 (point_of program l Fact first good a line rs callers z m r.1) (good.targets a.procedure line) g.somewhere
          (good.sources a.procedure line ra fa) (good.sources a.procedure line rb fb) (r.1.there ra p x fa hx) (r.1.there rb q y fb hy)
          (r.1.machine.code.lines a.procedure line (Do (Compute to o ra rb)) e) (next_line program l Fact first good a.procedure line (Do (Compute to o ra rb)) e refl)
          (arrives program l Fact first good a line (line + 1) to (computed o x y) rs z m.state.registers r.1.words g.gives.flows r.1.there) (λ h. r.1.links.linked (g.gives.linked h)) g.gives.records)
          (omega (arith, n)) (omega (arith, light))
