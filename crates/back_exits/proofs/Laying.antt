-- The steps of control records, one after another.
use Rattle.std.proofs.Common.{◌≡◌, ℕ, ◌+◌, ◌<◌, ◌≤◌, true, false, List, [], ◌∷◌, ◌++◌, length, Option, Some, refl, ◌∙◌, arith}
use Rattle.std.specs.Prelude.{◌%◌, ◌^◌, ◌-◌, ◌==◌, slice_set, pos}
use Rattle.mid_code.specs.Arena.{is_lent, word_at, with_word}
use Rattle.mid_code.specs.Meaning.{Context}
use Rattle.mid_code.specs.declared.operation.Operation.TheVariants.{Draw}
use Rattle.mid_code.specs.MidCode.{perform, code_of}
use Rattle.mid_code.specs.State.{Registers, register, falls, ends, MidState, charged, with_arena}
use Rattle.mid_arena.proofs.Registers.{register_here, register_beside}
use Rattle.mid_arena.proofs.Running.{StepsTo, RunsTo, and_then, none_left, parts_then, costing, constant_falls, store_falls, address_above}
use Rattle.back_lowering.specs.ControlWords.{control_address, current_address, link_address, serials_address, handlers_address, bindings_address, record_serial, record_kind, record_outer, record_link}
use Rattle.back_lowering.specs.Records.{record_laid, exit_laid, record_left, record_landed}
use Rattle.back_lowering.specs.Steps.{store}
use Rattle.back_relation.specs.Stores.{stores}
use Rattle.back_relation.proofs.Windows.{constant_in, load_in, store_in, draw_in, stored_elsewhere, stored_lent}
use Rattle.back_exits.specs.RecordSteps.{ControlSays, ControlLent, RecordLent, record_stores, exit_stores, left_stores, landed_stores, record_registers, with_stores, LawOfRecordSteps}

-- ---- laying

module _ (c : Context) (front tail : Registers) (d : ℕ) (many : length front ≡ d) (r0 r2 r3 r4 r5 r6 r7 : Option ℕ) (kind address current link handlers bindings : ℕ) (y : MidState)
    (control : ControlLent y.arena) (record_lent : RecordLent y.arena address) (says : ControlSays y.arena current link handlers bindings) where
  above : 220 ≤ address
  above = record_lent.above

  aligned : address % 4 ≡ 0
  aligned = record_lent.aligned

  low : address + 24 < 2 ^ 32
  low = record_lent.low

  abbrev p1 : ℕ × ℕ
  p1 = (address + record_kind, kind)

  abbrev p2 : ℕ × ℕ
  p2 = (address + record_outer, current)

  abbrev p3 : ℕ × ℕ
  p3 = (current_address, address)

  lent_control : (ps : List (ℕ × ℕ)) (k : ℕ) → k < 36 → k % 4 ≡ 0 → is_lent (stores ps y.arena) (control_address + k) ≡ true
  lent_control ps k h e = stored_lent ps y.arena (control_address + k) ∙ control k h e

  lent_record : (ps : List (ℕ × ℕ)) (k : ℕ) → k < 24 → k % 4 ≡ 0 → is_lent (stores ps y.arena) (address + k) ≡ true
  lent_record ps k h e = stored_lent ps y.arena (address + k) ∙ record_lent.lent k h e

  -- a control word in front of which only words of the record were stored
  behind_kind : (x w : ℕ) → x < 220 → word_at y.arena x ≡ Some w → word_at (stores (p1 ∷ []) y.arena) x ≡ Some w
  behind_kind x w h e =
      let g = above in
      stored_elsewhere (p1 ∷ []) y.arena x (omega (arith, aligned), tt) ((λ same. omega (arith, same, g, h)), tt) ∙ e

  behind_outer : (x w : ℕ) → x < 220 → word_at y.arena x ≡ Some w → word_at (stores (p1 ∷ p2 ∷ []) y.arena) x ≡ Some w
  behind_outer x w h e =
      let g = above in
      stored_elsewhere (p1 ∷ p2 ∷ []) y.arena x (omega (arith, aligned), (omega (arith, aligned), tt))
      ((λ same. omega (arith, same, g, h)), ((λ same. omega (arith, same, g, h)), tt))
      ∙ e

  -- **a record is laid**
  pub laid_runs :
      RunsTo c (code_of (record_laid (d + 1) (d + 6) kind)) (front ++ r0 ∷ Some address ∷ r2 ∷ r3 ∷ r4 ∷ r5 ∷ r6 ∷ r7 ∷ tail) y
      (ends falls (record_registers front r0 address current link handlers bindings (Some 0) (Some kind) tail) (with_stores (record_stores kind address current) 68 y))
  laid_runs =
      costing {n = y.cost + 68}
      (and_then (constant_in c front d many _ _ (d + 6) 6 0 (omega arith))
      (and_then (constant_in c front d many _ _ (d + 6 + 1) 7 kind (omega arith))
      (and_then (store_in c front d many _ _ (d + 6 + 1) 7 (d + 1) 1 address record_kind kind (omega arith) (omega arith) refl refl (omega (arith, low)) (lent_record [] record_kind (omega arith) refl))
      (and_then (load_in c front d many _ _ (d + 1 + 1) 2 (d + 6) 6 0 current_address current (omega arith) (omega arith) refl (omega arith) (behind_kind current_address current (omega arith) says.current_word))
      (and_then (store_in c front d many _ _ (d + 1 + 1) 2 (d + 1) 1 address record_outer current (omega arith) (omega arith) refl refl (omega (arith, low)) (lent_record (p1 ∷ []) record_outer (omega arith) refl))
      (and_then (load_in c front d many _ _ (d + 1 + 2) 3 (d + 6) 6 0 link_address link (omega arith) (omega arith) refl (omega arith) (behind_outer link_address link (omega arith) says.link_word))
      (and_then (load_in c front d many _ _ (d + 1 + 3) 4 (d + 6) 6 0 handlers_address handlers (omega arith) (omega arith) refl (omega arith) (behind_outer handlers_address handlers (omega arith) says.handlers_word))
      (and_then (load_in c front d many _ _ (d + 1 + 4) 5 (d + 6) 6 0 bindings_address bindings (omega arith) (omega arith) refl (omega arith) (behind_outer bindings_address bindings (omega arith) says.bindings_word))
      (and_then (store_in c front d many _ _ (d + 1) 1 (d + 6) 6 0 current_address address (omega arith) (omega arith) refl refl (omega arith) (lent_control (p1 ∷ p2 ∷ []) 0 (omega arith) refl))
      none_left)))))))))
      (omega arith)

  module _ (drawn : ℕ) (drawn_word : word_at y.arena serials_address ≡ Some drawn) (fewer : (drawn == 2 ^ 32 - 1) ≡ false) where
    serial_there : word_at (stores (p1 ∷ p2 ∷ p3 ∷ []) y.arena) serials_address ≡ Some drawn
    serial_there =
        let g = above in
        stored_elsewhere (p1 ∷ p2 ∷ p3 ∷ []) y.arena serials_address (omega (arith, aligned), (omega (arith, aligned), (refl, tt)))
        ((λ same. omega (arith, same, g)), ((λ same. omega (arith, same, g)), ((λ same. omega (arith, same)), tt)))
        ∙ drawn_word

    abbrev p4 : ℕ × ℕ
    p4 = (serials_address, drawn + 1)

    abbrev p5 : ℕ × ℕ
    p5 = (address + record_serial, drawn + 1)

    abbrev p6 : ℕ × ℕ
    p6 = (address + record_link, link)

    -- **the record of an exit**
    pub exit_runs :
        RunsTo c (code_of (exit_laid d (d + 1) (d + 6) kind)) (front ++ r0 ∷ Some address ∷ r2 ∷ r3 ∷ r4 ∷ r5 ∷ r6 ∷ r7 ∷ tail) y
        (ends falls (record_registers front (Some (drawn + 1)) address current link handlers bindings (Some 0) (Some kind) tail)
        (with_stores (record_stores kind address current ++ exit_stores address link drawn) 118 y))
    exit_runs =
        costing {n = y.cost + 118}
        (parts_then (record_laid (d + 1) (d + 6) kind)
        (perform (Draw d (d + 6) (pos serials_address)) ∷ store d (d + 1) record_serial ∷ store (d + 1 + 2) (d + 1) record_link ∷ store (d + 1) (d + 6) link_address ∷ [])
        laid_runs
        (and_then (draw_in c front d many _ _ d 0 (d + 6) 6 0 serials_address drawn (omega arith) (omega arith) refl (omega arith) serial_there fewer (lent_control (p1 ∷ p2 ∷ p3 ∷ []) 8 (omega arith) refl))
        (and_then (store_in c front d many _ _ d 0 (d + 1) 1 address record_serial (drawn + 1) (omega arith) (omega arith) refl refl (omega (arith, low)) (lent_record (p1 ∷ p2 ∷ p3 ∷ p4 ∷ []) record_serial (omega arith) refl))
        (and_then (store_in c front d many _ _ (d + 1 + 2) 3 (d + 1) 1 address record_link link (omega arith) (omega arith) refl refl (omega (arith, low)) (lent_record (p1 ∷ p2 ∷ p3 ∷ p4 ∷ p5 ∷ []) record_link (omega arith) refl))
        (and_then (store_in c front d many _ _ (d + 1) 1 (d + 6) 6 0 link_address address (omega arith) (omega arith) refl refl (omega arith) (lent_control (p1 ∷ p2 ∷ p3 ∷ p4 ∷ p5 ∷ p6 ∷ []) 4 (omega arith) refl))
        none_left)))))
        (omega arith)

-- ---- leaving

module _ (c : Context) (regs : Registers) (b t : ℕ) (y : MidState) (there : t < length regs) (control : ControlLent y.arena) where
  abbrev emptied : Registers
  emptied = slice_set regs t (Some 0)

  lent_again : (ps : List (ℕ × ℕ)) (k : ℕ) → k < 36 → k % 4 ≡ 0 → is_lent (stores ps y.arena) (control_address + k) ≡ true
  lent_again ps k h e = stored_lent ps y.arena (control_address + k) ∙ control k h e

  -- a word in a register behind the record is stored among the control words
  stored_back :
      (x : MidState) (r k w : ℕ) → r < t → k < 36 → register r regs ≡ Some w → is_lent x.arena (control_address + k) ≡ true
      → StepsTo c (store r t (control_address + k)) emptied x (ends falls emptied (with_arena (with_word (control_address + k) w x.arena) (charged 8 x)))
  stored_back x r k w before few e lent =
      store_falls (register_beside regs t r (Some 0) (λ same. omega arith) ∙ e) (register_here regs t 0 there)
      (address_above 0 (control_address + k) (control_address + k) (omega arith) (omega arith)) lent

  module _ (current link : ℕ) (current_there : register (b + 1) regs ≡ Some current) (link_there : register (b + 2) regs ≡ Some link) where
    abbrev q1 : ℕ × ℕ
    q1 = (current_address, current)

    abbrev q2 : ℕ × ℕ
    q2 = (link_address, link)

    -- **a record is left**
    pub left_runs : b + 2 < t → RunsTo c (code_of (record_left b t)) regs y (ends falls emptied (with_stores (left_stores current link) 22 y))
    left_runs before =
        costing {n = y.cost + 22}
        (and_then constant_falls
        (and_then (stored_back _ (b + 1) 0 current (omega arith) (omega arith) current_there (lent_again [] 0 (omega arith) refl))
        (and_then (stored_back _ (b + 2) 4 link (omega arith) (omega arith) link_there (lent_again (q1 ∷ []) 4 (omega arith) refl))
        none_left)))
        (omega arith)

    -- **a transfer landed**
    pub landed_runs :
        (handlers bindings : ℕ) → register (b + 3) regs ≡ Some handlers → register (b + 4) regs ≡ Some bindings → b + 4 < t
        → RunsTo c (code_of (record_landed b t)) regs y (ends falls emptied (with_stores (landed_stores current link handlers bindings) 38 y))
    landed_runs handlers bindings handlers_there bindings_there before =
        costing {n = y.cost + 38}
        (and_then constant_falls
        (and_then (stored_back _ (b + 1) 0 current (omega arith) (omega arith) current_there (lent_again [] 0 (omega arith) refl))
        (and_then (stored_back _ (b + 2) 4 link (omega arith) (omega arith) link_there (lent_again (q1 ∷ []) 4 (omega arith) refl))
        (and_then (stored_back _ (b + 3) 20 handlers (omega arith) (omega arith) handlers_there (lent_again (q1 ∷ q2 ∷ []) 20 (omega arith) refl))
        (and_then (stored_back _ (b + 4) 24 bindings (omega arith) (omega arith) bindings_there (lent_again (q1 ∷ q2 ∷ (handlers_address, handlers) ∷ []) 24 (omega arith) refl))
        none_left)))))
        (omega arith)

pub record_steps_law : LawOfRecordSteps
record_steps_law = record {
  laid = λ c front tail d r0 r2 r3 r4 r5 r6 r7 kind address current link handlers bindings y many control lent says.
      (laid_runs c front tail d many r0 r2 r3 r4 r5 r6 r7 kind address current link handlers bindings y control lent says).same;
  exit_laid = λ c front tail d r0 r2 r3 r4 r5 r6 r7 kind address current link handlers bindings drawn y many control lent says drawn_word fewer.
      (exit_runs c front tail d many r0 r2 r3 r4 r5 r6 r7 kind address current link handlers bindings y control lent says drawn drawn_word fewer).same;
  left = λ c regs b t current link y before there e f control. (left_runs c regs b t y there control current link e f before).same;
  landed = λ c regs b t current link handlers bindings y before there e f g h control.
      (landed_runs c regs b t y there control current link e f handlers bindings g h before).same;
}
