-- The trivial allocation is good.
use Rattle.std.proofs.Common.{inl, inr, ◌≡◌, ◌≢◌, ℕ, zero, suc, ◌+◌, ◌<◌, ◌≤◌, Bool, true, false, ◌&&◌, List, [], ◌∷◌, length, Some, refl, sym, ap, subst, ◌∙◌, arith, eqb-true, eq-eqb}
use Rattle.std.specs.Prelude.{◌⊎◌, ◌==◌, nat_le, slice_get}
use Rattle.std.specs.List.{list_all}
use Rattle.std.proofs.lemmas.Bool.Decides.{nat_tests}
use Rattle.mid_code.specs.declared.operation.Callee.{Callee}
use Rattle.mid_code.specs.declared.operation.Callee.TheVariants.{Procedure, Word}
use Rattle.mid_code.specs.declared.operation.Operation.{Operation}
use Rattle.mid_code.specs.declared.operation.Operation.TheVariants as operation
use Rattle.mid_code.specs.Checked.{is_register, is_offset, operation_fits, callee_fits, test_fits}
use Rattle.mid_lines.proofs.Conjunctions.{front_true, back_true}
use Rattle.mid_lines.specs.declared.line.Line.{Line}
use Rattle.mid_lines.specs.declared.line.Line.TheVariants.{Do, Branch, Switch, Jump, Lay, Landed, GiveBack, Lend, GiveBackLent, Return, Cut, Halt, Unhandled}
use Rattle.mid_lines.specs.declared.line.LineProcedure.{LineProcedure}
use Rattle.mid_lines.specs.declared.line.LineProgram.{LineProgram}
use Rattle.mid_lines.specs.LinesChecked.{line_fits, is_target, is_sound_in, is_checked_line_program}
use Rattle.mid_lines.specs.StackLaw.{frame_of}
use Rattle.back_places.specs.declared.place.Place.{Place}
use Rattle.back_places.specs.declared.place.Place.TheVariants.{InRegister, InSlot, AsConstant}
use Rattle.back_places.specs.Places.{StaticRecord, with_landing, only_lent, Located, way_at, reachable, argument_register}
use Rattle.back_places.specs.Facts.{IsPlace, Apart, Outlasts, IsSomewhere, CanHold, Gives, Keeps, Reads, ToLandings, KeepsEach, GivesWord, Computes, GoodOperation, GoodLine, callee_registers, AreParameterPlaces, AllApart, EachApart, GoodEntry}
use Rattle.back_places.specs.Trivial.{own_slot, own_slots, InOwnSlot, TargetIs, ToRecords, SameRecords, RecordsFollow, ArgumentsFit, IsTrivial, LawOfOwnSlots}
use Rattle.back_places.specs.Good.{reach_at}
use Rattle.back_places.proofs.LinesInForm.{LineIs, line_is, line_in_form, frame_words, register_below, all_at}

-- slots of different registers are apart
slots_apart : (v w : ℕ) (p q : Place) → p ≡ own_slot v → q ≡ own_slot w → v ≢ w → Apart p q
slots_apart v w (InRegister r) q h k ne = absurd (cc h)
slots_apart v w (AsConstant c) q h k ne = absurd (cc h)
slots_apart v w (InSlot i) (InRegister r) h k ne = absurd (cc k)
slots_apart v w (InSlot i) (AsConstant c) h k ne = absurd (cc k)
slots_apart v w (InSlot i) (InSlot j) h k ne = λ e. let a : i ≡ v + 1 = cc h in let b : j ≡ w + 1 = cc k in ne (omega (arith, a, b, e))

slot_outlasts : (v : ℕ) (p : Place) → p ≡ own_slot v → Outlasts p
slot_outlasts v (InRegister r) h = absurd (cc h)
slot_outlasts v (InSlot k) h = tt
slot_outlasts v (AsConstant c) h = absurd (cc h)

slot_somewhere : (v : ℕ) (p : Place) → p ≡ own_slot v → IsSomewhere p
slot_somewhere v (InRegister r) h = tt
slot_somewhere v (InSlot k) h = tt
slot_somewhere v (AsConstant c) h = absurd (cc h)

slot_holds : (v w : ℕ) (p : Place) → p ≡ own_slot v → CanHold p w
slot_holds v w (InRegister r) h = tt
slot_holds v w (InSlot k) h = tt
slot_holds v w (AsConstant c) h = absurd (cc h)

-- the slots of parameters
slot_at : (v count i : ℕ) (p : Place) → slice_get (own_slots v count) i ≡ Some p → (p ≡ own_slot (v + i)) × (i < count)
slot_at v zero i p h = absurd (cc h)
slot_at v (suc count) zero p h = let e : v + 0 ≡ v = omega arith in (cc (h, ap own_slot e), omega arith)
slot_at v (suc count) (suc i) p h =
    let deeper = slot_at (v + 1) count i p h in
    let e : v + 1 + i ≡ v + suc i = omega arith in
    (deeper.0 ∙ ap own_slot e, omega (arith, deeper.1))

slot_there : (v count i : ℕ) → i < count → slice_get (own_slots v count) i ≡ Some (own_slot (v + i))
slot_there v zero i h = absurd (omega (arith, h))
slot_there v (suc count) zero h = let e : v ≡ v + 0 = omega arith in ap (λ k. Some (own_slot k)) e
slot_there v (suc count) (suc i) h =
    let e : v + 1 + i ≡ v + suc i = omega arith in
    slot_there (v + 1) count i (omega (arith, h)) ∙ ap (λ k. Some (own_slot k)) e

slots_count : (v count : ℕ) → length (own_slots v count) ≡ count
slots_count v zero = refl
slots_count v (suc count) = ap suc (slots_count (v + 1) count)

module _ (program : LineProgram) (l : Located) (checked : is_checked_line_program program ≡ true) (t : IsTrivial program l) where
  parameter_places : (i v count : ℕ) → AreParameterPlaces l (InOwnSlot program) i (own_slots v count)
  parameter_places i v zero = tt
  parameter_places i v (suc count) = (tt, parameter_places (i + 1) (v + 1) count)

  apart_from_later : (u v count : ℕ) → u < v → AllApart l (InOwnSlot program) (own_slot u) (own_slots v count)
  apart_from_later u v zero h = tt
  apart_from_later u v (suc count) h = (λ e. omega (arith, h, e), apart_from_later u (v + 1) count (omega (arith, h)))

  each_apart : (v count : ℕ) → EachApart l (InOwnSlot program) (own_slots v count)
  each_apart v zero = tt
  each_apart v (suc count) = (apart_from_later v (v + 1) count (omega arith), each_apart (v + 1) count)

  -- a register of the procedure of a line has a slot in its frame
  known : (number line : ℕ) (x : Line) (i : LineIs program number line x) (r : ℕ) → is_register i.procedure.registers r ≡ true → InOwnSlot program number line r (l.source number line r)
  known number line x i r h =
      record { place_is = t.sources number line r; procedure = i.procedure; there = i.there; within = register_below i.procedure.registers r h }

  many_known :
      (number line : ℕ) (x : Line) (i : LineIs program number line x) (rs : List ℕ) → list_all (is_register i.procedure.registers) rs ≡ true
      → Reads l (InOwnSlot program) number line rs
  many_known number line x i [] h = tt
  many_known number line x i (r ∷ rs) h =
      (known number line x i r (front_true (is_register i.procedure.registers r) _ h), many_known number line x i rs (back_true (is_register i.procedure.registers r) _ h))

  gives : (number line to next : ℕ) → l.target number line ≡ own_slot to → Gives l (InOwnSlot program) number line to next
  gives number line to next target v p f = by (v == to) refl
    where
      by : (b : Bool) → (v == to) ≡ b → ((v ≡ to) × (p ≡ l.target number line)) ⊎ ((v ≢ to) × InOwnSlot program number line v p × Apart p (l.target number line))
      by true e = let q : v ≡ to = eqb-true v to e in inl (q, f.place_is ∙ ap own_slot q ∙ sym target)
      by false e =
          let ne : v ≢ to = λ q. absurd (cc (e, eq-eqb v to q)) in
          inr (ne, record { place_is = f.place_is; procedure = f.procedure; there = f.there; within = f.within }, slots_apart v to p (l.target number line) f.place_is target ne)

  keeps : (number line next : ℕ) → l.records number next ≡ l.records number line → Keeps l (InOwnSlot program) number line next
  keeps number line next h = record {
    facts = λ v p f. record { place_is = f.place_is; procedure = f.procedure; there = f.there; within = f.within };
    linked = λ e. absurd (cc (e, t.unlinked number next));
    records = h;
  }

  never : (number line next : ℕ) → l.linked number next ≡ true → l.linked number line ≡ true
  never number line next e = absurd (cc (e, t.unlinked number next))

  to_landings : (number line : ℕ) (records : List StaticRecord) → ToRecords l number records → ToLandings l (InOwnSlot program) number line records
  to_landings number line [] h = tt
  to_landings number line (only_lent ∷ records) h = to_landings number line records h
  to_landings number line (with_landing words landing ∷ records) h = (
    record {
      facts = λ v p f. (record { place_is = f.place_is; procedure = f.procedure; there = f.there; within = f.within }, slot_outlasts v p f.place_is);
      unlinked = t.unlinked number landing;
      records = h.0;
    },
    to_landings number line records h.1,
  )

  keeps_each : (number line : ℕ) (targets : List ℕ) → SameRecords l number line targets → KeepsEach l (InOwnSlot program) number line targets
  keeps_each number line [] h = tt
  keeps_each number line (next ∷ more) h = (keeps number line next h.0, keeps_each number line more h.1)

  gives_word :
      (number line to : ℕ) (read : List ℕ) → Reads l (InOwnSlot program) number line read → l.target number line ≡ own_slot to
      → l.records number (line + 1) ≡ l.records number line → GivesWord l (InOwnSlot program) number line to read
  gives_word number line to read reads target records = record {
    reads = reads;
    flows = gives number line to (line + 1) target;
    linked = never number line (line + 1);
    records = records;
  }

  computes :
      (number line to : ℕ) (read : List ℕ) → Reads l (InOwnSlot program) number line read → l.target number line ≡ own_slot to
      → l.records number (line + 1) ≡ l.records number line → Computes l (InOwnSlot program) number line to read
  computes number line to read reads target records = record { gives = gives_word number line to read reads target records; somewhere = slot_somewhere to _ target }

  callee_known :
      (number line : ℕ) (x : Line) (i : LineIs program number line x) (callee : Callee) → callee_fits i.procedure.registers callee ≡ true
      → Reads l (InOwnSlot program) number line (callee_registers callee)
  callee_known number line x i (Procedure n) h = tt
  callee_known number line x i (Word r) h = (known number line x i r h, tt)

  good_operation :
      (number line : ℕ) (o : Operation) (i : LineIs program number line (Do o)) → operation_fits i.procedure.registers o ≡ true
      → TargetIs (l.target number line) (Do o) → RecordsFollow l number line (Do o) → ArgumentsFit l (Do o) → GoodOperation l (InOwnSlot program) number line o
  good_operation number line (operation.Move to from) i h target records fit =
      let c = i.procedure.registers in
      computes number line to (from ∷ []) (known number line _ i from (back_true (is_register c to) (is_register c from) h), tt) target records
  good_operation number line (operation.Constant to word) i h target records fit =
      (gives_word number line to [] tt target records, slot_holds to word _ target)
  good_operation number line (operation.Compute to which first second) i h target records fit =
      let c = i.procedure.registers in
      let front = front_true (is_register c to && is_register c first) (is_register c second) h in
      computes number line to (first ∷ second ∷ [])
      (known number line _ i first (back_true (is_register c to) (is_register c first) front), (known number line _ i second (back_true (is_register c to && is_register c first) (is_register c second) h), tt)) target records
  good_operation number line (operation.Load to base offset) i h target records fit =
      let c = i.procedure.registers in
      let front = front_true (is_register c to && is_register c base) (is_offset offset) h in
      computes number line to (base ∷ []) (known number line _ i base (back_true (is_register c to) (is_register c base) front), tt) target records
  good_operation number line (operation.Store from base offset) i h target records fit =
      let c = i.procedure.registers in
      let front = front_true (is_register c from && is_register c base) (is_offset offset) h in
      record {
        reads = (known number line _ i from (front_true (is_register c from) (is_register c base) front), (known number line _ i base (back_true (is_register c from) (is_register c base) front), tt));
        keeps = keeps number line (line + 1) records;
      }
  good_operation number line (operation.Request to words) i h target records fit =
      let c = i.procedure.registers in
      computes number line to (words ∷ []) (known number line _ i words (back_true (is_register c to) (is_register c words) h), tt) target records
  good_operation number line (operation.Draw to base offset) i h target records fit =
      let c = i.procedure.registers in
      let front = front_true (is_register c to && is_register c base) (is_offset offset) h in
      computes number line to (base ∷ []) (known number line _ i base (back_true (is_register c to) (is_register c base) front), tt) target records
  good_operation number line (operation.Put from) i h target records fit =
      record { reads = (known number line _ i from h, tt); keeps = keeps number line (line + 1) records }
  good_operation number line (operation.Get to) i h target records fit = computes number line to [] tt target records
  good_operation number line (operation.Call to callee arguments) i h target records fit =
      let c = i.procedure.registers in
      let front = front_true (is_register c to && callee_fits c callee) (list_all (is_register c) arguments) h in
      record {
        reads = many_known number line _ i arguments (back_true (is_register c to && callee_fits c callee) (list_all (is_register c) arguments) h);
        reads_callee = callee_known number line _ i callee (back_true (is_register c to) (callee_fits c callee) front);
        few = fit;
        flows = λ v p f. elim (gives number line to (line + 1) target v p f) [
          | inl same ↦ inl same
          | inr other ↦ inr (other.0, other.1, slot_outlasts v p f.place_is, other.2)
        ];
        unlinked = t.unlinked number (line + 1);
        saves = t.saves number;
        landings = to_landings number line (l.records number line) (t.landings number line);
        records = records;
        somewhere = slot_somewhere to _ target;
      }

  good_line :
      (number line : ℕ) (x : Line) (i : LineIs program number line x) → line_fits i.procedure.registers (length i.procedure.lines) x ≡ true
      → TargetIs (l.target number line) x → RecordsFollow l number line x → ArgumentsFit l x → GoodLine l (InOwnSlot program) number line x
  good_line number line (Do o) i h target records fit = good_operation number line o i h target records fit
  good_line number line (Branch test otherwise) i h target records fit =
      let c = i.procedure.registers in
      let tests = front_true (test_fits c test) (is_target (length i.procedure.lines) otherwise) h in (
        record {
          reads = (known number line _ i test.first (front_true (is_register c test.first) (is_register c test.second) tests), (known number line _ i test.second (back_true (is_register c test.first) (is_register c test.second) tests), tt));
          keeps = keeps number line (line + 1) records.0;
        },
        keeps number line otherwise records.1,
      )
  good_line number line (Switch r targets) i h target records fit =
      let c = i.procedure.registers in
      ((known number line _ i r (front_true (is_register c r) (list_all (is_target (length i.procedure.lines)) targets) h), tt), keeps_each number line targets records)
  good_line number line (Jump to) i h target records fit = keeps number line to records
  good_line number line (Lay block words landing) i h target records fit = record {
    reads = tt;
    flows = gives number line block (line + 1) target;
    linked = never number line (line + 1);
    records = records;
    somewhere = slot_somewhere block _ target;
  }
  good_line number line (Lend block words) i h target records fit =
      let c = i.procedure.registers in
      record {
        reads = (known number line _ i words (back_true (is_register c block) (is_register c words) h), tt);
        flows = gives number line block (line + 1) target;
        linked = never number line (line + 1);
        records = records;
        somewhere = slot_somewhere block _ target;
      }
  good_line number line (Landed r) i h target records fit = record {
    flows = gives number line r (line + 1) target;
    unlinked = t.unlinked number (line + 1);
    saves = t.saves number;
    records = records;
    somewhere = slot_somewhere r _ target;
  }
  good_line number line (GiveBack words) i h target records fit = record {
    facts = λ v p f. record { place_is = f.place_is; procedure = f.procedure; there = f.there; within = f.within };
    linked = never number line (line + 1);
    record_is = records.0;
    records = records.1;
  }
  good_line number line GiveBackLent i h target records fit = record {
    facts = λ v p f. record { place_is = f.place_is; procedure = f.procedure; there = f.there; within = f.within };
    linked = never number line (line + 1);
    record_is = records.0;
    records = records.1;
  }
  good_line number line (Return r) i h target records fit = record { reads = (known number line _ i r h, tt); link = inr (t.saves number); way = records }
  good_line number line (Cut block word) i h target records fit =
      let c = i.procedure.registers in
      record {
        reads = (known number line _ i block (front_true (is_register c block) (is_register c word) h), (known number line _ i word (back_true (is_register c block) (is_register c word) h), tt));
        landings = to_landings number line (l.records number line) (t.landings number line);
        saves = t.saves number;
      }
  good_line number line (Halt r) i h target records fit = (known number line _ i r h, tt)
  good_line number line (Unhandled class site condition) i h target records fit =
      let c = i.procedure.registers in
      let rest = back_true (is_register c class) (is_register c site && is_register c condition) h in (
        known number line _ i class (front_true (is_register c class) (is_register c site && is_register c condition) h),
        (
          known number line _ i site (front_true (is_register c site) (is_register c condition) rest),
          (known number line _ i condition (back_true (is_register c site) (is_register c condition) rest), tt),
        ),
      )

  parameters_fit : (number : ℕ) (p : LineProcedure) → slice_get program.procedures number ≡ Some p → p.parameters ≤ p.registers
  parameters_fit number p h =
      let sound = all_at (is_sound_in program.procedures) program.procedures number p checked h in
      let few = front_true (nat_le p.parameters p.registers) _ sound in
      grind (arith, nat_tests, few)

  good_entry : (number : ℕ) (p : LineProcedure) → slice_get program.procedures number ≡ Some p → GoodEntry l (InOwnSlot program) number p.frame p.parameters
  good_entry number p h =
      let is = t.parameters number p h in
      record {
        as_many = ap length is ∙ slots_count 0 p.parameters;
        few = t.few number p h;
        places = subst (λ ps. AreParameterPlaces l (InOwnSlot program) 0 ps) (sym is) (parameter_places 0 0 p.parameters);
        in_frame = λ i q e. in_frame i q (sym (ap (λ ps. slice_get ps i) is) ∙ e);
        apart = subst (λ ps. EachApart l (InOwnSlot program) ps) (sym is) (each_apart 0 p.parameters);
        facts = λ v q f. put v q f (nat_le p.parameters v) refl;
        no_records = t.first number;
      }
    where
      in_frame : (i : ℕ) (q : Place) → slice_get (own_slots 0 p.parameters) i ≡ Some q → IsPlace p.frame q
      in_frame i q e =
          let a = slot_at 0 p.parameters i q e in
          let few = parameters_fit number p h in
          let frame = t.frames number p h in
          subst (λ x. IsPlace p.frame x) (sym a.0) (omega arith, omega (arith, a.1, few, frame))

      put : (v : ℕ) (q : Place) → InOwnSlot program number 0 v q → (b : Bool) → nat_le p.parameters v ≡ b
          → (p.parameters ≤ v) ⊎ ((v < 14) × (q ≡ InRegister (argument_register v))) ⊎ ((slice_get (l.parameters number) v ≡ Some q) × IsSomewhere q)
      put v q f true e = inl (grind (arith, nat_tests, e))
      put v q f false e =
          let below : v < p.parameters = grind (arith, nat_tests, e) in
          let zero_is : 0 + v ≡ v = omega arith in
          inr (inr (ap (λ ps. slice_get ps v) (t.parameters number p h) ∙ slot_there 0 p.parameters v below ∙ ap (λ k. Some (own_slot k)) zero_is ∙ ap Some (sym f.place_is), slot_somewhere v q f.place_is))

  placed : (number line v : ℕ) (p : Place) → InOwnSlot program number line v p → IsPlace (frame_of program number).words p
  placed number line v p f =
      let frame = t.frames number f.procedure f.there in
      let words = frame_words program number f.procedure f.there in
      subst (λ x. IsPlace (frame_of program number).words x) (sym f.place_is) (omega arith, omega (arith, f.within, frame, words))

  within_reach : (number line v : ℕ) → InOwnSlot program number line v (l.source number line v) → IsPlace (reach_at program l number line) (l.source number line v)
  within_reach number line v f =
      let reach = t.reach number line f.procedure f.there in
      let words = ap (λ n. reachable (way_at l number line) n) (frame_words program number f.procedure f.there) in
      subst (λ x. IsPlace (reach_at program l number line) x) (sym f.place_is) (omega arith, omega (arith, f.within, reach, words))

pub law_of_own_slots : LawOfOwnSlots
law_of_own_slots program l checked t = (
  λ number line x e.
      let i = line_is program number line x checked e in
      good_line program l checked t number line x i (line_in_form program number line x i) (t.targets number line x e) (t.records number line x e) (t.arguments number line x e),
  good_entry program l checked t,
  placed program l checked t,
  within_reach program l checked t,
)
