-- The step of a call, whole.
use Rattle.std.proofs.Common.{◌≡◌, ℕ, zero, suc, ◌+◌, ◌-◌, ◌*◌, ◌^◌, ◌<◌, ◌≤◌, Bool, true, false, List, [], ◌∷◌, ◌++◌, length, refl, sym, ap, subst, ◌∙◌, arith, Some, None, length-append}
use Rattle.std.specs.Prelude.{Option, slice_get, nat_lt, nat_le, if◌then◌else◌}
use Rattle.std.specs.List.{list_all}
use Rattle.std.proofs.lemmas.Bool.Decides.{nat_tests}
use Rattle.rv_encode.specs.declared.instruction.Instr.TheVariants.{Lw, Sw}
use Rattle.rv_machine.specs.Run.{Moment}
use Rattle.mid_code.specs.declared.operation.Callee.{Callee}
use Rattle.mid_code.specs.declared.operation.Callee.TheVariants.{Procedure, Word}
use Rattle.mid_code.specs.declared.operation.Operation.TheVariants.{Call}
use Rattle.mid_code.specs.Arena.{Block}
use Rattle.mid_code.specs.State.{Registers, MidState, charged, register}
use Rattle.mid_lines.proofs.Conjunctions.{back_true}
use Rattle.mid_lines.specs.declared.line.Line.TheVariants.{Do}
use Rattle.mid_lines.specs.declared.line.LineProcedure.{LineProcedure}
use Rattle.mid_lines.specs.declared.line.LineProgram.{LineProgram}
use Rattle.mid_lines.specs.Lines.{line_of}
use Rattle.mid_lines.specs.LinesChecked.{line_fits, line_calls, takes, is_checked_line_program}
use Rattle.mid_lines.specs.LineMeaning.{Activation, Caller, running, next, call, words_in, callee_in, state_of}
use Rattle.back_places.specs.declared.place.Place.{Place}
use Rattle.back_places.specs.Places.{Located, Way, way_at, argument_register}
use Rattle.back_places.specs.Operands.{load_into, read_in, read_code, at_word}
use Rattle.back_places.specs.Selection.{jump_code}
use Rattle.back_places.specs.Passing.{are_in_order, argument_word_code, argument_code, arguments_code, stored_code, fetched_code, pass_code}
use Rattle.back_places.specs.LineCode.{sources, before_call_code, call_code}
use Rattle.back_places.specs.Good.{IsGood}
use Rattle.back_places.specs.Relation.{EntersIn, Relates}
use Rattle.back_places.specs.StepLaw.{Comes, Follows, weight}
use Rattle.back_places.proofs.LinesInForm.{all_at, line_is}
use Rattle.back_emission.proofs.Lengths.{either_length, load_length, read_length}
use Rattle.back_emission.proofs.Calls.{call_by_number, call_by_word, call_of_none}
use Rattle.back_emission.proofs.Steps.{nothing, at_line, weighs}

word_length : (at : ℕ) (way : Way) (i : ℕ) (p : Place) → length (argument_word_code at way i p) ≤ 5
word_length at way i p = omega (arith, read_length way 5 p, length-append (read_code way 5 p) (at_word (at + i) (Sw (read_in 5 p))))

argument_length : (at : ℕ) (way : Way) (i : ℕ) (p : Place) → length (argument_code at way i p) ≤ 5
argument_length at way i p =
    let h = load_length way (argument_register i) p in
    either_length 5 (nat_lt i 14) (load_into way (argument_register i) p) (argument_word_code at way i p) (omega (arith, h)) (word_length at way i p)

arguments_length : (at : ℕ) (way : Way) (i : ℕ) (ps : List Place) → length (arguments_code at way i ps) ≤ 5 * length ps
arguments_length at way i [] = omega arith
arguments_length at way i (p ∷ ps) =
    let h = arguments_length at way (i + 1) ps in
    omega (arith, h, argument_length at way i p, length-append (argument_code at way i p) (arguments_code at way (i + 1) ps))

stored_length : (at : ℕ) (way : Way) (i : ℕ) (ps : List Place) → length (stored_code at way i ps) ≤ 5 * length ps
stored_length at way i [] = omega arith
stored_length at way i (p ∷ ps) =
    let h = stored_length at way (i + 1) ps in
    omega (arith, h, word_length at way i p, length-append (argument_word_code at way i p) (stored_code at way (i + 1) ps))

fetched_length : (at i count : ℕ) → length (fetched_code at i count) ≤ 2 * (14 - i)
fetched_length at i zero = omega arith
fetched_length at i (suc count) = by (fetched_length at (i + 1) count) (nat_lt i 14) refl
  where
    by : length (fetched_code at (i + 1) count) ≤ 2 * (14 - (i + 1)) → (t : Bool) → nat_lt i 14 ≡ t → length ((if t then at_word (at + i) (Lw (argument_register i)) else []) ++ fetched_code at (i + 1) count) ≤ 2 * (14 - i)
    by rest true e = let within : i < 14 = grind (arith, nat_tests, e) in omega (arith, rest, within, length-append (at_word (at + i) (Lw (argument_register i))) (fetched_code at (i + 1) count))
    by rest false e = omega (arith, rest)

pub pass_length : (at : ℕ) (way : Way) (ps : List Place) → length (pass_code at way ps) ≤ 5 * length ps + 28
pass_length at way ps =
    either_length (5 * length ps + 28) (are_in_order 0 ps) (arguments_code at way 0 ps) (stored_code at way 0 ps ++ fetched_code at 0 (length ps))
    (let h = arguments_length at way 0 ps in omega (arith, h))
    (omega (arith, stored_length at way 0 ps, fetched_length at 0 (length ps), length-append (stored_code at way 0 ps) (fetched_code at 0 (length ps))))

module _ (program : LineProgram) (l : Located) (Fact : (number line register : ℕ) → Place → Type 0) (first : List Block)
    (checked : is_checked_line_program program ≡ true) (good : IsGood program l Fact) where
  sources_count : (number line : ℕ) (rs : List ℕ) → length (sources l number line rs) ≡ length rs
  sources_count number line [] = refl
  sources_count number line (r ∷ rs) = ap suc (sources_count number line rs)

  -- a procedure that is called by its number is there
  callee_there : (number line to n : ℕ) (arguments : List ℕ) → line_of program number line ≡ Some (Do (Call to (Procedure n) arguments)) → slice_get program.procedures n ≡ None → ⊥
  callee_there number line to n arguments e none =
      let i = line_is program number line (Do (Call to (Procedure n) arguments)) checked e in
      let p = i.procedure in
      let rest = back_true (nat_le p.parameters p.registers) _ i.sound in
      let both = back_true (nat_lt p.frame (2 ^ 24)) _ rest in
      let calls = back_true (list_all (line_fits p.registers (length p.lines)) p.lines) _ both in
      let fits = all_at (line_calls program.procedures) p.lines line (Do (Call to (Procedure n) arguments)) calls i.line_there in
      absurd (cc (sym fits ∙ ap (λ o. takes o (length arguments)) none))

  pub call_follows :
      (a : Activation) (line to : ℕ) (callee : Callee) (arguments : List ℕ) (rs : Registers) (callers : List Caller) (z : MidState) (m : Moment)
      → line_of program a.procedure line ≡ Some (Do (Call to callee arguments))
      → Relates program l Fact first (running a line rs callers z) m → Follows program l Fact first (running a line rs callers z) m
  call_follows a line to callee arguments rs callers z m e r = by (words_in arguments rs) refl callee refl
    where
      caller : Caller
      caller = record { activation = a; line = line + 1; registers = rs; result = to }

      heavy : weight program (running a line rs callers z) ≡ 1
      heavy = weighs program l Fact first good a line rs callers z (Do (Call to callee arguments)) e

      goes : (ws : Option (List ℕ)) (n : Option ℕ) → words_in arguments rs ≡ ws → callee_in callee rs ≡ n
          → next program (running a line rs callers z) ≡ call ws n (record { activation = a; line = line + 1; registers = rs; result = to } ∷ callers) (charged (40 + 6 * length arguments) z)
      goes ws n h k =
          at_line program l Fact first good a line rs callers z (Do (Call to callee arguments)) e
          ∙ ap (λ u. call u (callee_in callee rs) (record { activation = a; line = line + 1; registers = rs; result = to } ∷ callers) (charged (40 + 6 * length arguments) z)) h
          ∙ ap (λ u. call ws u (record { activation = a; line = line + 1; registers = rs; result = to } ∷ callers) (charged (40 + 6 * length arguments) z)) k

      entered :
          (ws : List ℕ) (n count : ℕ) (m' : Moment) → words_in arguments rs ≡ Some ws → callee_in callee rs ≡ Some n → Comes count m m'
          → EntersIn program l Fact first (slice_get program.procedures n) n ws (record { activation = a; line = line + 1; registers = rs; result = to } ∷ callers) (charged (40 + 6 * length arguments) z) m'
          → count ≤ 40 + 6 * length arguments → 1 ≤ count → Follows program l Fact first (running a line rs callers z) m
      entered ws n count m' h k comes there few some = record {
        count = count;
        moment = m';
        comes = comes;
        relates = subst (λ t. Relates program l Fact first t m') (sym (goes (Some ws) (Some n) h k)) (r.0, there);
        cheap = subst (λ t. count + z.cost ≤ (state_of t).cost) (sym (goes (Some ws) (Some n) h k)) (omega (arith, few));
        heavy = λ u. omega (arith, heavy, some);
      }

      by_procedure : (ws : List ℕ) (n : ℕ) → words_in arguments rs ≡ Some ws → callee ≡ Procedure n → (o : Option LineProcedure) → slice_get program.procedures n ≡ o → Follows program l Fact first (running a line rs callers z) m
      by_procedure ws n h c None q = absurd (callee_there a.procedure line to n arguments (e ∙ ap (λ k. Some (Do (Call to k arguments))) c) q)
      by_procedure ws n h c (Some p) q =
          let e' = e ∙ ap (λ k. Some (Do (Call to k arguments))) c in
          let t = call_by_number program l Fact first good a line to n arguments ws rs callers z (40 + 6 * length arguments) m p e' q r.0 r.1 h in
          let C = before_call_code l a.procedure line (Procedure n) arguments in
          let J = jump_code (l.near a.procedure line) 1 (l.line_at a.procedure line + length C) (l.entry_at n) in
          let n2 = jump_count (l.near a.procedure line) (l.line_at a.procedure line + length C) (l.entry_at n) in
          entered ws n (length (call_code l a.procedure line (Procedure n) arguments)) t.0 h (ap (λ k. callee_in k rs) c) t.1
          (subst (λ o. EntersIn program l Fact first o n ws (record { activation = a; line = line + 1; registers = rs; result = to } ∷ callers) (charged (40 + 6 * length arguments) z) t.0) (sym q) t.2)
          (omega (arith, length-append C J, n2, pass_length l.arguments_at (way_at l a.procedure line) (sources l a.procedure line arguments), sources_count a.procedure line arguments))
          (omega (arith, length-append C J, n2))
        where
          jump_count : (near : Bool) (from to : ℕ) → (1 ≤ length (jump_code near 1 from to)) × (length (jump_code near 1 from to) ≤ 2)
          jump_count true from to = (omega arith, omega arith)
          jump_count false from to = (omega arith, omega arith)

      few_before : (v : ℕ) → length (before_call_code l a.procedure line (Word v) arguments) ≤ 5 * length arguments + 31
      few_before v =
          let L = load_into (way_at l a.procedure line) 6 (l.source a.procedure line v) in
          let C = pass_code l.arguments_at (way_at l a.procedure line) (sources l a.procedure line arguments) in
          omega (arith, length-append L C, load_length (way_at l a.procedure line) 6 (l.source a.procedure line v), pass_length l.arguments_at (way_at l a.procedure line) (sources l a.procedure line arguments), sources_count a.procedure line arguments)

      by_word : (ws : List ℕ) (v n : ℕ) → words_in arguments rs ≡ Some ws → callee ≡ Word v → register v rs ≡ Some n → (o : Option LineProcedure) → slice_get program.procedures n ≡ o → Follows program l Fact first (running a line rs callers z) m
      by_word ws v n h c k None q =
          let e' = e ∙ ap (λ u. Some (Do (Call to u arguments))) c in
          let t = call_of_none program l Fact first good a line to n v arguments ws rs callers z m e' r.0 r.1 h k in
          let few = few_before v in
          entered ws n (length (before_call_code l a.procedure line (Word v) arguments) + 1) t.0 h (ap (λ u. callee_in u rs) c ∙ k) t.1
          (subst (λ o. EntersIn program l Fact first o n ws (record { activation = a; line = line + 1; registers = rs; result = to } ∷ callers) (charged (40 + 6 * length arguments) z) t.0) (sym q) tt)
          (omega (arith, few)) (omega arith)
      by_word ws v n h c k (Some p) q =
          let e' = e ∙ ap (λ u. Some (Do (Call to u arguments))) c in
          let t = call_by_word program l Fact first good a line to n v arguments ws rs callers z (40 + 6 * length arguments) m p e' q r.0 r.1 h k in
          let few = few_before v in
          entered ws n (length (before_call_code l a.procedure line (Word v) arguments) + 5) t.0 h (ap (λ u. callee_in u rs) c ∙ k) t.1
          (subst (λ o. EntersIn program l Fact first o n ws (record { activation = a; line = line + 1; registers = rs; result = to } ∷ callers) (charged (40 + 6 * length arguments) z) t.0) (sym q) t.2)
          (omega (arith, few)) (omega arith)

      in_register : (ws : List ℕ) (v : ℕ) → words_in arguments rs ≡ Some ws → callee ≡ Word v → (o : Option ℕ) → register v rs ≡ o → Follows program l Fact first (running a line rs callers z) m
      in_register ws v h c None k =
          nothing program l Fact first good (running a line rs callers z) m (charged (40 + 6 * length arguments) z) (goes (Some ws) None h (ap (λ u. callee_in u rs) c ∙ k)) (omega arith)
      in_register ws v h c (Some n) k = by_word ws v n h c k (slice_get program.procedures n) refl

      by : (ws : Option (List ℕ)) → words_in arguments rs ≡ ws → (c : Callee) → callee ≡ c → Follows program l Fact first (running a line rs callers z) m
      by None h c q = nothing program l Fact first good (running a line rs callers z) m (charged (40 + 6 * length arguments) z) (goes None (callee_in callee rs) h refl) (omega arith)
      by (Some ws) h (Procedure n) q = by_procedure ws n h q (slice_get program.procedures n) refl
      by (Some ws) h (Word v) q = in_register ws v h q (register v rs) refl
