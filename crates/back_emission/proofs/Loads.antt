-- The step of a load.
use Rattle.std.proofs.Common.{◌≡◌, ℕ, ◌+◌, ◌*◌, ◌/◌, ◌^◌, ◌<◌, ℤ, true, ◌&&◌, List, [], ◌∷◌, ◌++◌, length, refl, sym, ap, subst, ◌∙◌, arith, Some, None, append_assoc, length-append}
use Rattle.std.specs.Prelude.{Option, slice_index, slice_set}
use Rattle.base.specs.Arithmetic.{sum32}
use Rattle.rv_encode.specs.declared.instruction.Instr.TheVariants.{Lw}
use Rattle.rv_machine.specs.Memory.{bytes_of, number_at}
use Rattle.rv_machine.specs.Words.{word_read}
use Rattle.rv_machine.specs.Arithmetic.{sign_extended}
use Rattle.rv_machine.specs.Step.{load, gives}
use Rattle.rv_machine.specs.Run.{Moment}
use Rattle.mid_code.specs.declared.operation.Operation.TheVariants.{Load}
use Rattle.mid_code.specs.Arena.{Block, word_at}
use Rattle.mid_code.specs.Checked.{is_register, is_offset}
use Rattle.mid_code.specs.Words.{address}
use Rattle.mid_code.specs.State.{Registers, MidState, charged, register, with_some, gives as gives_word}
use Rattle.mid_code.specs.Meaning.{exec_step, load as load_word}
use Rattle.mid_lines.proofs.Conjunctions.{back_true}
use Rattle.mid_lines.specs.declared.line.Line.TheVariants.{Do}
use Rattle.mid_lines.specs.declared.line.LineProgram.{LineProgram}
use Rattle.mid_lines.specs.Lines.{line_of}
use Rattle.mid_lines.specs.LinesChecked.{is_checked_line_program}
use Rattle.mid_lines.specs.LineMeaning.{Activation, Caller, running, next, proceed}
use Rattle.back_places.specs.declared.place.Place.{Place}
use Rattle.back_places.specs.Places.{Located, way_at}
use Rattle.back_places.specs.Operands.{read_in, read_code, given_in, keep_code}
use Rattle.back_places.specs.Selection.{low_12}
use Rattle.back_places.specs.Good.{IsGood}
use Rattle.back_places.specs.Relation.{Stands, Relates}
use Rattle.back_places.specs.StepLaw.{Follows, weight}
use Rattle.back_places.proofs.LinesInForm.{line_is, line_in_form}
use Rattle.back_emission.specs.Moments.{state_at, Ready}
use Rattle.back_emission.proofs.Operands.{read}
use Rattle.back_emission.proofs.Lengths.{read_length, keep_length}
use Rattle.back_emission.proofs.Going.{point_of}
use Rattle.back_emission.proofs.Giving.{arrives}
use Rattle.back_emission.proofs.Moving.{place_small, frame_is}
use Rattle.back_emission.proofs.Addresses.{address_same, word_there}
use Rattle.back_emission.proofs.Keeping.{gave_of_one, given_is, kept}
use Rattle.back_emission.proofs.Steps.{nothing, follows, at_line, weighs, next_line}

module _ (program : LineProgram) (l : Located) (Fact : (number line register : ℕ) → Place → Type 0) (first : List Block)
    (checked : is_checked_line_program program ≡ true) (good : IsGood program l Fact) where
  offset_fits : (number line to base : ℕ) (offset : ℤ) → line_of program number line ≡ Some (Do (Load to base offset)) → is_offset offset ≡ true
  offset_fits number line to base offset e =
      let i = line_is program number line (Do (Load to base offset)) checked e in
      let c = i.procedure.registers in
      back_true (is_register c to && is_register c base) (is_offset offset) (line_in_form program number line (Do (Load to base offset)) i)

  pub load_follows :
      (a : Activation) (line to v : ℕ) (offset : ℤ) (rs : Registers) (callers : List Caller) (z : MidState) (m : Moment)
      → line_of program a.procedure line ≡ Some (Do (Load to v offset))
      → Relates program l Fact first (running a line rs callers z) m → Follows program l Fact first (running a line rs callers z) m
  unfolding exec_step with_some proceed
  load_follows a line to v offset rs callers z m e r = by (register v rs) refl
    where
      light : weight program (running a line rs callers z) ≡ 0
      light = weighs program l Fact first good a line rs callers z (Do (Load to v offset)) e

      goes : (x : Option ℕ) → register v rs ≡ x
          → next program (running a line rs callers z) ≡ proceed program a (line + 1) callers (with_some x (λ b. load_word to (address b offset)) rs (charged 8 z))
      goes x h =
          at_line program l Fact first good a line rs callers z (Do (Load to v offset)) e
          ∙ ap (λ u. proceed program a (line + 1) callers (with_some u (λ b. load_word to (address b offset)) rs (charged 8 z))) h

      found : (b : ℕ) (x : Option ℕ) → register v rs ≡ Some b → word_at z.arena (address b offset) ≡ x
          → next program (running a line rs callers z) ≡ proceed program a (line + 1) callers (with_some x (gives_word to) rs (charged 8 z))
      found b x h k = goes (Some b) h ∙ ap (λ u. proceed program a (line + 1) callers (with_some u (gives_word to) rs (charged 8 z))) k

      loaded_word : (b w : ℕ) → register v rs ≡ Some b → word_at z.arena (address b offset) ≡ Some w → Follows program l Fact first (running a line rs callers z) m
      loaded_word b w h k =
          let g = good.lines a.procedure line (Do (Load to v offset)) e in
          let fact = g.gives.reads.0 in
          let way = way_at l a.procedure line in
          let p = l.source a.procedure line v in
          let target = l.target a.procedure line in
          let words = r.1.words in
          let ws = r.1.machine.arena.words_small in
          let regs = m.state.registers in
          let ready : Ready regs = record { long = r.1.machine.long; zero_is = r.1.machine.zero_is } in
          let f = frame_is program l Fact first good a (l.line_at a.procedure line) (l.records a.procedure line) callers z m r.0.0 (point_of program l Fact first good a line rs callers z m r.1) in
          let ok = good.sources a.procedure line v fact in
          let is_at = r.1.there v p b fact h in
          let fits = place_small regs words _ _ p b r.1.machine.registers_small ws ok is_at in
          let there = word_there z.arena words (address b offset) w r.1.machine.arena k in
          let i = address b offset / 4 in
          let small : w < 2 ^ 32 = let s = ws i in omega (arith, s, there.is_word) in
          let one = read words regs way _ _ 5 p b ws ready f ok (omega arith) (omega arith) is_at in
          let t = given_in target in
          let is = given_is _ target (good.targets a.procedure line) g.somewhere in
          let ins = Lw t (read_in 5 p) (low_12 offset) in
          let reached : sum32 (slice_index one.registers' (read_in 5 p)) (sign_extended 12 (low_12 offset)) ≡ 4 * i =
          ap (λ x. sum32 x (sign_extended 12 (low_12 offset))) one.holds ∙ address_same b offset fits (offset_fits a.procedure line to v offset e) ∙ there.place in
          let c = gave_of_one words regs (read_code way 5 p) ins 5 t (read_in 5 p) b w ws (omega (arith, is.0)) is.1 small (omega arith) (omega arith) one
          (λ n. ap (λ x. load t (number_at 4 x (bytes_of words)) (state_at n one.registers' words)) reached
          ∙ ap (λ x. load t x (state_at n one.registers' words)) (word_read words i there.within (ws i))
          ∙ ap (λ x. gives t x (state_at n one.registers' words)) there.is_word) in
          let K = keep_code way target in
          let A = read_code way 5 p in
          let same = append_assoc A (ins ∷ []) K in
          let stands = r.1.machine.code.lines a.procedure line (Do (Load to v offset)) e in
          let behind = next_line program l Fact first good a.procedure line (Do (Load to v offset)) e refl in
          let given = kept program l Fact first good a (l.line_at a.procedure line) (l.records a.procedure line) (line + 1) w target (slice_set rs to (Some w)) callers z 8 m (A ++ ins ∷ []) r.0
          (point_of program l Fact first good a line rs callers z m r.1) (good.targets a.procedure line) g.somewhere small c
          (subst (λ x. Stands l words (l.line_at a.procedure line) x) (sym same) stands) (behind ∙ ap (λ x. l.line_at a.procedure line + length x) (sym same))
          (arrives program l Fact first good a line (line + 1) to w rs z regs words g.gives.flows r.1.there) (λ x. r.1.links.linked (g.gives.linked x)) g.gives.records in
          follows program l Fact first good a line (line + 1) rs (slice_set rs to (Some w)) callers z 8 m (length ((A ++ ins ∷ []) ++ K)) r.0 (found b (Some w) h k) given
          (omega (arith, length-append (A ++ ins ∷ []) K, length-append A (ins ∷ []), read_length way 5 p, keep_length way target)) (omega (arith, light))

      with_base : (b : ℕ) → register v rs ≡ Some b → (x : Option ℕ) → word_at z.arena (address b offset) ≡ x → Follows program l Fact first (running a line rs callers z) m
      with_base b h None k = nothing program l Fact first good (running a line rs callers z) m (charged 8 z) (found b None h k) (omega arith)
      with_base b h (Some w) k = loaded_word b w h k

      by : (x : Option ℕ) → register v rs ≡ x → Follows program l Fact first (running a line rs callers z) m
      by None h = nothing program l Fact first good (running a line rs callers z) m (charged 8 z) (goes None h) (omega arith)
      by (Some b) h = with_base b h (word_at z.arena (address b offset)) refl
