-- The steps around the form of a main form, one after another.
use Rattle.std.proofs.Common.{◌≡◌, ℕ, ◌+◌, ◌<◌, ◌≤◌, true, List, [], ◌∷◌, Option, Some, refl, ◌∙◌, arith}
use Rattle.std.specs.Prelude.{◌%◌, ◌^◌}
use Rattle.mid_code.specs.declared.operation.Arithmetic.TheVariants as which
use Rattle.mid_code.specs.Arena.{is_lent, word_at}
use Rattle.mid_code.specs.Meaning.{Context, exec}
use Rattle.mid_code.specs.MidCode.{end_unhandled, code_of}
use Rattle.mid_code.specs.State.{Registers, falls, unhandled, ends, MidState, charged, with_some}
use Rattle.mid_code.specs.Words.{computed}
use Rattle.mid_arena.proofs.Running.{StepsTo, RunsTo, and_then, and_ends, none_left, parts_then, costing, compute_falls}
use Rattle.back_lowering.specs.ControlWords.{control_address, current_address, link_address, landing_address, handlers_address, bindings_address, end_address, record_serial, record_kind, record_outer, record_link, end_kind}
use Rattle.back_lowering.specs.Records.{record_laid}
use Rattle.back_lowering.specs.Steps.{constant, store}
use Rattle.back_relation.specs.Stores.{stores}
use Rattle.back_relation.proofs.Windows.{constant_in, load_in, store_in, stored_elsewhere, stored_lent}
use Rattle.back_exits.specs.RecordSteps.{ControlSays, ControlLent, RecordLent, record_stores, with_stores}
use Rattle.back_levels.specs.MainSteps.{end_laid, end_landed, end_stores, LawOfMainSteps}

-- ---- laying

module _ (c : Context) (tail : Registers) (r1 r2 r3 r4 r5 r6 r7 : Option ℕ) (address current link handlers bindings : ℕ) (y : MidState) (control : ControlLent y.arena)
    (record_lent : RecordLent y.arena address) (says : ControlSays y.arena current link handlers bindings) where
  above : 220 ≤ address
  above = record_lent.above

  aligned : address % 4 ≡ 0
  aligned = record_lent.aligned

  low : address + 24 < 2 ^ 32
  low = record_lent.low

  abbrev p1 : ℕ × ℕ
  p1 = (address + record_kind, end_kind)

  abbrev p2 : ℕ × ℕ
  p2 = (address + record_outer, current)

  abbrev p3 : ℕ × ℕ
  p3 = (current_address, address)

  abbrev link_put : ℕ × ℕ
  link_put = (address + record_link, link)

  abbrev serial_put : ℕ × ℕ
  serial_put = (address + record_serial, 0)

  abbrev valid_put : ℕ × ℕ
  valid_put = (link_address, address)

  lent_control : (ps : List (ℕ × ℕ)) (k : ℕ) → k < 36 → k % 4 ≡ 0 → is_lent (stores ps y.arena) (control_address + k) ≡ true
  lent_control ps k h e = stored_lent ps y.arena (control_address + k) ∙ control k h e

  lent_record : (ps : List (ℕ × ℕ)) (k : ℕ) → k < 24 → k % 4 ≡ 0 → is_lent (stores ps y.arena) (address + k) ≡ true
  lent_record ps k h e = stored_lent ps y.arena (address + k) ∙ record_lent.lent k h e

  behind_kind : (x w : ℕ) → x < 220 → word_at y.arena x ≡ Some w → word_at (stores (p1 ∷ []) y.arena) x ≡ Some w
  behind_kind x w h e =
      let g = above in stored_elsewhere (p1 ∷ []) y.arena x (omega (arith, aligned), tt) ((λ same. omega (arith, same, g, h)), tt) ∙ e

  behind_outer : (x w : ℕ) → x < 220 → word_at y.arena x ≡ Some w → word_at (stores (p1 ∷ p2 ∷ []) y.arena) x ≡ Some w
  behind_outer x w h e =
      let g = above in
      stored_elsewhere (p1 ∷ p2 ∷ []) y.arena x (omega (arith, aligned), (omega (arith, aligned), tt))
      ((λ same. omega (arith, same, g, h)), ((λ same. omega (arith, same, g, h)), tt))
      ∙ e

  abbrev registers : (used next : Option ℕ) → Registers
  registers used next = Some address ∷ Some current ∷ Some link ∷ Some handlers ∷ Some bindings ∷ r5 ∷ used ∷ next ∷ tail

  -- a record is laid
  record_runs :
      RunsTo c (code_of (record_laid 0 6 end_kind)) (Some address ∷ r1 ∷ r2 ∷ r3 ∷ r4 ∷ r5 ∷ r6 ∷ r7 ∷ tail) y
      (ends falls (registers (Some 0) (Some end_kind)) (with_stores (record_stores end_kind address current) 68 y))
  record_runs =
      costing {n = y.cost + 68}
      (and_then (constant_in c [] 0 refl _ _ 6 6 0 refl)
      (and_then (constant_in c [] 0 refl _ _ 7 7 end_kind refl)
      (and_then (store_in c [] 0 refl _ _ 7 7 0 0 address record_kind end_kind refl refl refl refl (omega (arith, low)) (lent_record [] record_kind (omega arith) refl))
      (and_then (load_in c [] 0 refl _ _ 1 1 6 6 0 current_address current refl refl refl (omega arith) (behind_kind current_address current (omega arith) says.current_word))
      (and_then (store_in c [] 0 refl _ _ 1 1 0 0 address record_outer current refl refl refl refl (omega (arith, low)) (lent_record (p1 ∷ []) record_outer (omega arith) refl))
      (and_then (load_in c [] 0 refl _ _ 2 2 6 6 0 link_address link refl refl refl (omega arith) (behind_outer link_address link (omega arith) says.link_word))
      (and_then (load_in c [] 0 refl _ _ 3 3 6 6 0 handlers_address handlers refl refl refl (omega arith) (behind_outer handlers_address handlers (omega arith) says.handlers_word))
      (and_then (load_in c [] 0 refl _ _ 4 4 6 6 0 bindings_address bindings refl refl refl (omega arith) (behind_outer bindings_address bindings (omega arith) says.bindings_word))
      (and_then (store_in c [] 0 refl _ _ 0 0 6 6 0 current_address address refl refl refl refl (omega arith) (lent_control (p1 ∷ p2 ∷ []) 0 (omega arith) refl))
      none_left)))))))))
      (omega arith)

  -- it is that of the end
  pub laid_runs :
      RunsTo c (code_of end_laid) (Some address ∷ r1 ∷ r2 ∷ r3 ∷ r4 ∷ r5 ∷ r6 ∷ r7 ∷ tail) y
      (ends falls (registers (Some 0) (Some 0)) (with_stores (end_stores address current link) 106 y))
  laid_runs =
      costing {n = y.cost + 106}
      (parts_then (record_laid 0 6 end_kind) (constant 7 0 ∷ store 7 0 record_serial ∷ store 2 0 record_link ∷ store 0 6 link_address ∷ store 0 6 end_address ∷ [])
      record_runs
      (and_then (constant_in c [] 0 refl _ _ 7 7 0 refl)
      (and_then (store_in c [] 0 refl _ _ 7 7 0 0 address record_serial 0 refl refl refl refl (omega (arith, low)) (lent_record (p1 ∷ p2 ∷ p3 ∷ []) record_serial (omega arith) refl))
      (and_then (store_in c [] 0 refl _ _ 2 2 0 0 address record_link link refl refl refl refl (omega (arith, low)) (lent_record (p1 ∷ p2 ∷ p3 ∷ serial_put ∷ []) record_link (omega arith) refl))
      (and_then (store_in c [] 0 refl _ _ 0 0 6 6 0 link_address address refl refl refl refl (omega arith) (lent_control (p1 ∷ p2 ∷ p3 ∷ serial_put ∷ link_put ∷ []) 4 (omega arith) refl))
      (and_then (store_in c [] 0 refl _ _ 0 0 6 6 0 end_address address refl refl refl refl (omega arith) (lent_control (p1 ∷ p2 ∷ p3 ∷ serial_put ∷ link_put ∷ valid_put ∷ []) 32 (omega arith) refl))
      none_left))))))
      (omega arith)

-- ---- landing

unhandled_ends :
    (c : Context) (tail : Registers) (r0 r1 r2 r3 r4 : Option ℕ) (class site condition : ℕ) (y : MidState)
    → StepsTo c (end_unhandled 6 7 5) (r0 ∷ r1 ∷ r2 ∷ r3 ∷ r4 ∷ Some condition ∷ Some class ∷ Some site ∷ tail) y
    (ends (unhandled class site condition) (r0 ∷ r1 ∷ r2 ∷ r3 ∷ r4 ∷ Some condition ∷ Some class ∷ Some site ∷ tail) (charged 14 y))
unfolding exec with_some
unhandled_ends c tail r0 r1 r2 r3 r4 class site condition y = record { same = refl }

pub landed_runs :
    (c : Context) (tail : Registers) (r0 r1 r2 r3 r4 r6 r7 : Option ℕ) (condition class number site : ℕ) (y : MidState)
    → condition + 2 < 2 ^ 32 → class + 2 < 2 ^ 32 → word_at y.arena (condition + 2) ≡ Some class → word_at y.arena (class + 2) ≡ Some number
    → word_at y.arena landing_address ≡ Some site
    → RunsTo c (code_of end_landed) (r0 ∷ r1 ∷ r2 ∷ r3 ∷ r4 ∷ Some condition ∷ r6 ∷ r7 ∷ tail) y
    (ends (unhandled (computed which.ShiftRight number 2) site condition)
    (r0 ∷ r1 ∷ r2 ∷ r3 ∷ r4 ∷ Some condition ∷ Some (computed which.ShiftRight number 2) ∷ Some site ∷ tail) (charged 60 y))
landed_runs c tail r0 r1 r2 r3 r4 r6 r7 condition class number site y low below e f g =
    costing {n = y.cost + 60}
    (and_then (load_in c [] 0 refl _ _ 6 6 5 5 condition 2 class refl refl refl low e)
    (and_then (load_in c [] 0 refl _ _ 6 6 6 6 class 2 number refl refl refl below f)
    (and_then (constant_in c [] 0 refl _ _ 7 7 2 refl)
    (and_then (compute_falls refl refl)
    (and_then (constant_in c [] 0 refl _ _ 7 7 0 refl)
    (and_then (load_in c [] 0 refl _ _ 7 7 7 7 0 landing_address site refl refl refl (omega arith) g)
    (and_ends tt (unhandled_ends c tail r0 r1 r2 r3 r4 (computed which.ShiftRight number 2) site condition _))))))))
    (omega arith)

pub main_steps_law : LawOfMainSteps
main_steps_law = record {
  parts = λ names at program f. refl;
  laid = λ c tail r1 r2 r3 r4 r5 r6 r7 address current link handlers bindings y control lent says.
      (laid_runs c tail r1 r2 r3 r4 r5 r6 r7 address current link handlers bindings y control lent says).same;
  landed = λ c tail r0 r1 r2 r3 r4 r6 r7 condition class number site y low below e f g.
      (landed_runs c tail r0 r1 r2 r3 r4 r6 r7 condition class number site y low below e f g).same;
}
