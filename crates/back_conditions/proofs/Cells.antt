-- The cells of dynamic bindings: how they are stored one after another, and what stands there.
use Rattle.std.proofs.Common.{◌≡◌, ℕ, zero, suc, ◌+◌, ◌*◌, ◌%◌, ◌^◌, ◌<◌, ◌≤◌, Bool, true, false, nat_le, List, [], ◌∷◌, ◌++◌, length, Some, refl, sym, ap, ◌∙◌, subst, arith}
use Rattle.std.specs.Prelude.{⊤, if◌then◌else◌, slice_get, slice_set}
use Rattle.std.proofs.Math.ListN.{length-set}
use Rattle.base.specs.Arithmetic.{sum32}
use Rattle.flat_language.specs.FlatForm.{FlatDynamics, no_dynamic, dynamic_and}
use Rattle.flat_language.specs.FlatNodes.{count_dynamics}
use Rattle.mid_code.specs.declared.operation.Arithmetic.TheVariants as which
use Rattle.mid_code.specs.Arena.{Arena, is_lent, word_in, with_word}
use Rattle.mid_code.specs.Meaning.{Context}
use Rattle.mid_code.specs.MidCode.{code_of}
use Rattle.mid_code.specs.State.{Registers, register, falls, ends, MidState, charged}
use Rattle.mid_arena.proofs.Lists.{set_elsewhere}
use Rattle.mid_arena.proofs.Memory.{lent_with_word}
use Rattle.mid_arena.proofs.Registers.{register_here, register_beside}
use Rattle.mid_arena.proofs.Running.{RunsTo, and_then, none_left, parts_then, costing, constant_falls, move_falls, compute_known, store_falls, address_above}
use Rattle.mid_arena.proofs.WordFacts.{sum_fits}
use Rattle.back_lowering.specs.Codes.{bindings_laid}
use Rattle.back_lowering.specs.ControlWords.{binding_variable, binding_value, binding_outer, binding_words}
use Rattle.back_lowering.specs.Placement.{dynamic_address}
use Rattle.back_lowering.specs.Registers.{of_code, enough_for}
use Rattle.back_lowering.specs.Steps.{Steps, move, constant, compute, store, store_far, most_offset}
use Rattle.back_relation.specs.Setting.{Setting}
use Rattle.back_relation.specs.Stores.{stores}
use Rattle.back_relation.proofs.Fitting.{registers_front, registers_behind}

-- words in registers one after another
abbrev pub WordsFrom : ℕ → List ℕ → Registers → Type 0
WordsFrom d [] regs = ⊤
WordsFrom d (w ∷ ws) regs = (register d regs ≡ Some w) × WordsFrom (d + 1) ws regs

pub words_kept :
    (d t : ℕ) (ws : List ℕ) (regs regs' : Registers) → d + length ws ≤ t → ((i : ℕ) → i < t → slice_get regs' i ≡ slice_get regs i) → WordsFrom d ws regs → WordsFrom d ws regs'
words_kept d t [] regs regs' h same ws_there = tt
words_kept d t (w ∷ ws) regs regs' h same ws_there =
    (ap word_in (same d (omega (arith, h))) ∙ ws_there.0, words_kept (d + 1) t ws regs regs' (omega (arith, h)) same ws_there.1)

-- a register that is set twice
twice : (h : Registers) (r u v : ℕ) → slice_set (slice_set h r (Some u)) r (Some v) ≡ slice_set h r (Some v)
twice [] r u v = refl
twice (x ∷ h) zero u v = refl
twice (x ∷ h) (suc r) u v = ap (λ rs. x ∷ rs) (twice h r u v)

-- ---- a word that is stored at any offset

pub record StoredFar (c : Context) (code : Steps) (u x word : ℕ) (regs : Registers) (y : MidState) : Type 0 where
  pub regs' : Registers
  pub total : ℕ
  pub runs : RunsTo c (code_of code) regs y (ends falls regs' (record y { arena = with_word x word y.arena; cost = total }))
  pub same : (i : ℕ) → (u ≡ i → ⊥) → slice_get regs' i ≡ slice_get regs i
  pub count : length regs' ≡ length regs
  pub within : total ≤ y.cost + 24
  pub least : y.cost ≤ total

pub stored_far :
    (c : Context) (from base u offset address x word : ℕ) (regs : Registers) (y : MidState) → register from regs ≡ Some word → register base regs ≡ Some address
    → (u ≡ from → ⊥) → (u ≡ base → ⊥) → address + offset ≡ x → x < 2 ^ 32 → is_lent y.arena x ≡ true
    → enough_for (of_code (code_of (store_far from base u offset))) ≤ length regs → StoredFar c (store_far from base u offset) u x word regs y
stored_far c from base u offset address x word regs y from_there base_there other_from other_base at low lent enough = by (nat_le offset most_offset) enough
  where
    by :
        (q : Bool)
        → enough_for (of_code (code_of (if q then store from base offset ∷ [] else constant u offset ∷ compute u which.Add u base ∷ store from u 0 ∷ []))) ≤ length regs
        → StoredFar c (if q then store from base offset ∷ [] else constant u offset ∷ compute u which.Add u base ∷ store from u 0 ∷ []) u x word regs y
    by true h = record {
      regs' = regs;
      total = y.cost + 8;
      runs = and_then (store_falls from_there base_there (address_above address offset x at low) lent) none_left;
      same = λ i other. refl;
      count = refl;
      within = omega arith;
      least = omega arith;
    }
    by false h =
        let there : u < length regs = omega (arith, h) in
        let there_again : u < length (slice_set regs u (Some offset)) = subst (λ n. u < n) (sym (length-set regs u (Some offset))) there in
        record {
          regs' = slice_set (slice_set regs u (Some offset)) u (Some x);
          total = y.cost + 24;
          runs =
              costing {n = y.cost + 24}
              (and_then constant_falls
              (and_then
              (compute_known (register_here regs u offset there) (register_beside regs u base (Some offset) other_base ∙ base_there)
              (sum_fits offset address (omega (arith, at, low)) ∙ omega (arith, at)))
              (and_then
              (store_falls
              (register_beside (slice_set regs u (Some offset)) u from (Some x) other_from ∙ register_beside regs u from (Some offset) other_from ∙ from_there)
              (register_here (slice_set regs u (Some offset)) u x there_again) (address_above x 0 x (omega arith) low) lent)
              none_left)))
              (omega arith);
          same = λ i other. set_elsewhere (slice_set regs u (Some offset)) u i (Some x) other ∙ set_elsewhere regs u i (Some offset) other;
          count = length-set (slice_set regs u (Some offset)) u (Some x) ∙ length-set regs u (Some offset);
          within = omega arith;
          least = omega arith;
        }

-- ---- the cells

module _ (setting : Setting) where
  abbrev pub variable_word : ℕ → ℕ
  variable_word n = dynamic_address setting.at n

  -- where the cell outside is
  abbrev pub outer_cell : (address old offset : ℕ) → FlatDynamics → ℕ
  outer_cell address old offset no_dynamic = old
  outer_cell address old offset (dynamic_and n f ds) = address + offset

  -- what is stored
  abbrev pub cell_words : (address old offset : ℕ) → FlatDynamics → List ℕ → List (ℕ × ℕ)
  cell_words address old offset no_dynamic ws = []
  cell_words address old offset (dynamic_and n f ds) [] = []
  cell_words address old offset (dynamic_and n f ds) (w ∷ ws) =
      (address + offset + binding_variable, variable_word n) ∷ (address + offset + binding_value, w)
      ∷ (address + offset + binding_outer, outer_cell address old (offset + 4 * binding_words) ds)
      ∷ cell_words address old (offset + 4 * binding_words) ds ws

  pub record CellsLaid (c : Context) (code : Steps) (t : ℕ) (ps : List (ℕ × ℕ)) (most : ℕ) (regs : Registers) (y : MidState) : Type 0 where
    pub regs' : Registers
    pub total : ℕ
    pub runs : RunsTo c (code_of code) regs y (ends falls regs' (record y { arena = stores ps y.arena; cost = total }))
    pub same : (i : ℕ) → i < t → slice_get regs' i ≡ slice_get regs i
    pub count : length regs' ≡ length regs
    pub within : total ≤ y.cost + most
    pub least : y.cost ≤ total

  module _ (c : Context) (b old t address outer size : ℕ) (b_old : b < old) (old_t : old < t) (aligned : address % 4 ≡ 0) (low : address + size < 2 ^ 32) where
    -- the block's words are lent
    abbrev BlockLent : Arena → Type 0
    BlockLent m = (k : ℕ) → k < size → k % 4 ≡ 0 → is_lent m (address + k) ≡ true

    lent_at : (m : Arena) (offset k : ℕ) → BlockLent m → offset + k < size → offset % 4 ≡ 0 → k % 4 ≡ 0 → is_lent m (address + offset + k) ≡ true
    lent_at m offset k h few e f =
        let there = h (offset + k) few (omega (arith, e, f)) in
        let same : address + (offset + k) ≡ address + offset + k = omega arith in
        subst (λ x. is_lent m x ≡ true) same there

    lent_on : (m : Arena) (x w : ℕ) → BlockLent m → BlockLent (with_word x w m)
    lent_on m x w h k few e = lent_with_word m x w (address + k) ∙ h k few e

    -- one cell, and those behind it; `os` are the steps that put where the cell outside is into t
    one_cell :
        (n d offset w next most : ℕ) (os rest : Steps) (ps : List (ℕ × ℕ)) (regs : Registers) (y : MidState) → d < b → register d regs ≡ Some w
        → register b regs ≡ Some address → register old regs ≡ Some outer → t < length regs → offset + 12 ≤ size → offset % 4 ≡ 0 → BlockLent y.arena
        → enough_for (of_code (code_of (constant t (variable_word n)
        ∷ (store_far t b (t + 1) (offset + binding_variable)
        ++ (store_far d b (t + 1) (offset + binding_value) ++ (os ++ (store_far t b (t + 1) (offset + binding_outer) ++ rest)))))))
        ≤ length regs
        → ((g : Registers) (v : MidState) → register b g ≡ Some address → register old g ≡ Some outer → t < length g
        → (cost : ℕ) × RunsTo c (code_of os) g v (ends falls (slice_set g t (Some next)) (charged cost v)) × (cost ≤ 16))
        → ((g : Registers) (v : MidState) → ((i : ℕ) → i < t → slice_get g i ≡ slice_get regs i) → length g ≡ length regs
        → BlockLent v.arena → enough_for (of_code (code_of rest)) ≤ length g → CellsLaid c rest t ps most g v)
        → CellsLaid c
        (constant t (variable_word n)
        ∷ (store_far t b (t + 1) (offset + binding_variable)
        ++ (store_far d b (t + 1) (offset + binding_value) ++ (os ++ (store_far t b (t + 1) (offset + binding_outer) ++ rest)))))
        t
        ((address + offset + binding_variable, variable_word n) ∷ (address + offset + binding_value, w) ∷ (address + offset + binding_outer, next) ∷ ps)
        (94 + most) regs y
    one_cell n d offset w next most os rest ps regs y d_b d_there b_there old_there t_there few even lent enough outer_runs rest_runs =
        record {
          regs' = last.regs';
          total = last.total;
          runs =
              and_then constant_falls
              (parts_then first_code _ first.runs
              (parts_then second_code _ second.runs
              (parts_then os _ (outer_into.1)
              (parts_then third_code rest third.runs last.runs))));
          same = λ i h. last.same i h ∙ third_same i h;
          count = last.count ∙ third_count;
          within = omega (arith, last.within, third.within, outer_into.2, second.within, first.within);
          least = omega (arith, last.least, third.least, second.least, first.least);
        }
      where
        first_code : Steps
        first_code = store_far t b (t + 1) (offset + binding_variable)

        second_code : Steps
        second_code = store_far d b (t + 1) (offset + binding_value)

        third_code : Steps
        third_code = store_far t b (t + 1) (offset + binding_outer)

        names_first : enough_for (of_code (code_of (first_code ++ (second_code ++ (os ++ (third_code ++ rest)))))) ≤ length regs
        names_first = registers_behind (constant t (variable_word n) ∷ []) (first_code ++ (second_code ++ (os ++ (third_code ++ rest)))) (length regs) enough

        names_second : enough_for (of_code (code_of (second_code ++ (os ++ (third_code ++ rest))))) ≤ length regs
        names_second = registers_behind first_code (second_code ++ (os ++ (third_code ++ rest))) (length regs) names_first

        names_outer : enough_for (of_code (code_of (os ++ (third_code ++ rest)))) ≤ length regs
        names_outer = registers_behind second_code (os ++ (third_code ++ rest)) (length regs) names_second

        names_third : enough_for (of_code (code_of (third_code ++ rest))) ≤ length regs
        names_third = registers_behind os (third_code ++ rest) (length regs) names_outer

        names_rest : enough_for (of_code (code_of rest)) ≤ length regs
        names_rest = registers_behind third_code rest (length regs) names_third

        r0 : Registers
        r0 = slice_set regs t (Some (variable_word n))

        r0_count : length r0 ≡ length regs
        r0_count = length-set regs t (Some (variable_word n))

        y0 : MidState
        y0 = charged 6 y

        first : StoredFar c first_code (t + 1) (address + offset + binding_variable) (variable_word n) r0 y0
        first =
            stored_far c t b (t + 1) (offset + binding_variable) address (address + offset + binding_variable) (variable_word n) r0 y0
            (register_here regs t (variable_word n) t_there) (register_beside regs t b (Some (variable_word n)) (λ e. omega (arith, e, b_old, old_t)) ∙ b_there)
            (λ e. omega (arith, e)) (λ e. omega (arith, e, b_old, old_t)) (omega arith) (omega (arith, few, low)) (lent_at y.arena offset binding_variable lent (omega (arith, few)) even refl)
            (subst (λ m. enough_for (of_code (code_of first_code)) ≤ m) (sym r0_count) (registers_front first_code (second_code ++ (os ++ (third_code ++ rest))) (length regs) names_first))

        first_same : (i : ℕ) → i < t → slice_get first.regs' i ≡ slice_get regs i
        first_same i h = first.same i (λ e. omega (arith, e, h)) ∙ set_elsewhere regs t i (Some (variable_word n)) (λ e. omega (arith, e, h))

        y2 : MidState
        y2 = record y0 { arena = with_word (address + offset + binding_variable) (variable_word n) y0.arena; cost = first.total }

        second : StoredFar c second_code (t + 1) (address + offset + binding_value) w first.regs' y2
        second =
            stored_far c d b (t + 1) (offset + binding_value) address (address + offset + binding_value) w first.regs' y2
            (ap word_in (first_same d (omega (arith, d_b, b_old, old_t))) ∙ d_there) (ap word_in (first_same b (omega (arith, b_old, old_t))) ∙ b_there)
            (λ e. omega (arith, e, d_b, b_old, old_t)) (λ e. omega (arith, e, b_old, old_t)) (omega arith) (omega (arith, few, low))
            (lent_at y2.arena offset binding_value (lent_on y.arena (address + offset + binding_variable) (variable_word n) lent) (omega (arith, few)) even refl)
            (subst (λ m. enough_for (of_code (code_of second_code)) ≤ m) (sym (first.count ∙ r0_count)) (registers_front second_code (os ++ (third_code ++ rest)) (length regs) names_second))

        second_same : (i : ℕ) → i < t → slice_get second.regs' i ≡ slice_get regs i
        second_same i h = second.same i (λ e. omega (arith, e, h)) ∙ first_same i h

        second_count : length second.regs' ≡ length regs
        second_count = second.count ∙ first.count ∙ r0_count

        y3 : MidState
        y3 = record y2 { arena = with_word (address + offset + binding_value) w y2.arena; cost = second.total }

        t_second : t < length second.regs'
        t_second = subst (λ m. t < m) (sym second_count) t_there

        outer_into : (cost : ℕ) × RunsTo c (code_of os) second.regs' y3 (ends falls (slice_set second.regs' t (Some next)) (charged cost y3)) × (cost ≤ 16)
        outer_into =
            outer_runs second.regs' y3 (ap word_in (second_same b (omega (arith, b_old, old_t))) ∙ b_there) (ap word_in (second_same old old_t) ∙ old_there) t_second

        r3 : Registers
        r3 = slice_set second.regs' t (Some next)

        r3_count : length r3 ≡ length regs
        r3_count = length-set second.regs' t (Some next) ∙ second_count

        y4 : MidState
        y4 = charged outer_into.0 y3

        third : StoredFar c third_code (t + 1) (address + offset + binding_outer) next r3 y4
        third =
            stored_far c t b (t + 1) (offset + binding_outer) address (address + offset + binding_outer) next r3 y4 (register_here second.regs' t next t_second)
            (register_beside second.regs' t b (Some next) (λ e. omega (arith, e, b_old, old_t)) ∙ ap word_in (second_same b (omega (arith, b_old, old_t))) ∙ b_there)
            (λ e. omega (arith, e)) (λ e. omega (arith, e, b_old, old_t)) (omega arith) (omega (arith, few, low))
            (lent_at y4.arena offset binding_outer
            (lent_on y2.arena (address + offset + binding_value) w (lent_on y.arena (address + offset + binding_variable) (variable_word n) lent)) (omega (arith, few)) even refl)
            (subst (λ m. enough_for (of_code (code_of third_code)) ≤ m) (sym r3_count) (registers_front third_code rest (length regs) names_third))

        third_same : (i : ℕ) → i < t → slice_get third.regs' i ≡ slice_get regs i
        third_same i h =
            third.same i (λ e. omega (arith, e, h)) ∙ set_elsewhere second.regs' t i (Some next) (λ e. omega (arith, e, h)) ∙ second_same i h

        third_count : length third.regs' ≡ length regs
        third_count = third.count ∙ r3_count

        y5 : MidState
        y5 = record y4 { arena = with_word (address + offset + binding_outer) next y4.arena; cost = third.total }

        last : CellsLaid c rest t ps most third.regs' y5
        last =
            rest_runs third.regs' y5 third_same third_count
            (lent_on y4.arena (address + offset + binding_outer) next
            (lent_on y2.arena (address + offset + binding_value) w (lent_on y.arena (address + offset + binding_variable) (variable_word n) lent)))
            (subst (λ m. enough_for (of_code (code_of rest)) ≤ m) (sym third_count) names_rest)

    abbrev laid_steps : (d offset : ℕ) → FlatDynamics → Steps
    laid_steps d offset ds = bindings_laid setting.names setting.at setting.program d b old t offset ds

    -- **all cells**
    pub cells_laid :
        (ds : FlatDynamics) (ws : List ℕ) (d offset : ℕ) (regs : Registers) (y : MidState) → length ws ≡ count_dynamics ds → d + length ws ≤ b → WordsFrom d ws regs
        → register b regs ≡ Some address → register old regs ≡ Some outer → t < length regs → offset + 12 * length ws ≤ size → offset % 4 ≡ 0 → BlockLent y.arena
        → enough_for (of_code (code_of (laid_steps d offset ds))) ≤ length regs
        → CellsLaid c (laid_steps d offset ds) t (cell_words address outer offset ds ws) (94 * length ws) regs y
    cells_laid no_dynamic ws d offset regs y many below there b_there old_there t_there few even lent enough = record {
      regs' = regs;
      total = y.cost;
      runs = none_left;
      same = λ i h. refl;
      count = refl;
      within = omega arith;
      least = omega arith;
    }
    cells_laid (dynamic_and n f ds) [] d offset regs y many below there b_there old_there t_there few even lent enough = absurd (omega (arith, many))
    cells_laid (dynamic_and n f no_dynamic) (w ∷ ws) d offset regs y many below there b_there old_there t_there few even lent enough =
        less
        (one_cell n d offset w outer (94 * length ws) (move t old ∷ []) [] [] regs y (omega (arith, below)) there.0 b_there old_there t_there (omega (arith, few)) even lent enough
        (λ g v b_g old_g t_g. (6, and_then (move_falls old_g) none_left, omega arith))
        (λ g v same count lent_g names. record { regs' = g; total = v.cost; runs = none_left; same = λ i h. refl; count = refl; within = omega arith; least = omega arith }))
      where
        less :
            {code : Steps} {ps : List (ℕ × ℕ)} → CellsLaid c code t ps (94 + 94 * length ws) regs y → CellsLaid c code t ps (94 * length (w ∷ ws)) regs y
        less l = record { regs' = l.regs'; total = l.total; runs = l.runs; same = l.same; count = l.count; within = omega (arith, l.within); least = l.least }
    cells_laid (dynamic_and n f (dynamic_and m g ds)) (w ∷ ws) d offset regs y many below there b_there old_there t_there few even lent enough =
        less
        (one_cell n d offset w (address + (offset + 4 * binding_words)) (94 * length ws) (constant t (offset + 4 * binding_words) ∷ compute t which.Add t b ∷ [])
        (laid_steps (d + 1) (offset + 4 * binding_words) (dynamic_and m g ds)) (cell_words address outer (offset + 4 * binding_words) (dynamic_and m g ds) ws)
        regs y (omega (arith, below)) there.0 b_there old_there t_there (omega (arith, few)) even lent enough
        (λ h v b_h old_h t_h. (
          16,
          costing
              (and_then constant_falls
              (subst
              (λ rs. RunsTo c (code_of (compute t which.Add t b ∷ [])) (slice_set h t (Some (offset + 4 * binding_words))) (charged 6 v) (ends falls rs (charged 10 (charged 6 v))))
              (twice h t (offset + 4 * binding_words) (address + (offset + 4 * binding_words)))
              (and_then
              (compute_known (register_here h t (offset + 4 * binding_words) t_h)
              (register_beside h t b (Some (offset + 4 * binding_words)) (λ e. omega (arith, e, b_old, old_t)) ∙ b_h) (next_sum (omega (arith, few, many))))
              none_left)))
              (omega arith),
          omega arith,
        ))
        (λ h v same count lent_h names.
        cells_laid (dynamic_and m g ds) ws (d + 1) (offset + 4 * binding_words) h v (omega (arith, many)) (omega (arith, below))
        (words_kept (d + 1) t ws regs h (omega (arith, below, b_old, old_t)) same there.1) (ap word_in (same b (omega (arith, b_old, old_t))) ∙ b_there)
        (ap word_in (same old old_t) ∙ old_there) (subst (λ k. t < k) (sym count) t_there) (omega (arith, few)) (omega (arith, even)) lent_h names))
      where
        less :
            {code : Steps} {ps : List (ℕ × ℕ)} → CellsLaid c code t ps (94 + 94 * length ws) regs y → CellsLaid c code t ps (94 * length (w ∷ ws)) regs y
        less l = record { regs' = l.regs'; total = l.total; runs = l.runs; same = l.same; count = l.count; within = omega (arith, l.within); least = l.least }

        next_sum : offset + 4 * binding_words ≤ size → sum32 (offset + 4 * binding_words) address ≡ address + (offset + 4 * binding_words)
        next_sum few = sum_fits (offset + 4 * binding_words) address (omega (arith, low, few)) ∙ omega arith
