-- The words of values that stand one after another come into registers.
use Rattle.std.proofs.Common.{◌≡◌, ℕ, zero, suc, ◌+◌, ◌*◌, ◌/◌, ◌^◌, ◌<◌, ◌≤◌, Bool, true, false, List, [], ◌∷◌, ◌++◌, length, Option, Some, None, refl, sym, ap, ◌∙◌, subst, arith}
use Rattle.std.specs.Prelude.{slice_get, slice_set, slice_index_or, if◌then◌else◌}
use Rattle.std.proofs.Math.ListN.{length-set}
use Rattle.lang_meaning.specs.Values.{Value, nil}
use Rattle.mid_code.specs.Arena.{Arena, is_lent, word_in, word_at}
use Rattle.mid_code.specs.Meaning.{Context}
use Rattle.mid_code.specs.MidCode.{code_of}
use Rattle.mid_code.specs.State.{Registers, register, falls, ends, charged, MidState}
use Rattle.mid_arena.specs.Places.{Places, WordsOf}
use Rattle.mid_arena.specs.Standing.{ValueAt}
use Rattle.mid_arena.proofs.Registers.{register_here, register_beside}
use Rattle.mid_arena.proofs.Running.{RunsTo, none_left, parts_then}
use Rattle.back_lowering.specs.Scope.{registers_from}
use Rattle.back_lowering.specs.Steps.{load_far, words_loaded}
use Rattle.back_calling.specs.Calling.{WordsIn}
use Rattle.back_values.proofs.Far.{load_far_runs, charged_twice}

-- where a word stands there is memory

some_there : (ms : List (Option ℕ)) (i w : ℕ) → word_in (slice_get ms i) ≡ Some w → i < length ms
some_there [] i w e = absurd (cc e)
some_there (m ∷ ms) zero w e = omega arith
some_there (m ∷ ms) (suc i) w e = let l = some_there ms i w e in omega (arith, l)

pub word_below : (a : Arena) (x w : ℕ) → word_at a x ≡ Some w → x < 4 * length a.memory
word_below a x w e = by (is_lent a x) e
  where
    by : (b : Bool) → (if b then word_in (slice_get a.memory (x / 4)) else None) ≡ Some w → x < 4 * length a.memory
    by true e = let l = some_there a.memory (x / 4) w e in omega (arith, l)
    by false e = absurd (cc e)

-- ---- loads

pub record Loads (c : Context) (places : Places) (d offset : ℕ) (vs : List Value) (regs : Registers) (y : MidState) : Type 0 where
  pub after : Registers
  pub count : length after ≡ length regs
  pub ws : List ℕ
  pub of_values : WordsOf places vs ws
  pub below : (i : ℕ) → i < d → register i after ≡ register i regs
  -- with others they are what a call takes
  pub there : (rs ms : List ℕ) → WordsIn after rs ms → WordsIn after (registers_from d (length vs) ++ rs) (ws ++ ms)
  pub cost : ℕ
  pub within : cost ≤ 24 * length vs
  pub run : RunsTo c (code_of (words_loaded (length vs) d 3 offset)) regs y (ends falls after (charged cost y))

pub loads_run :
    (c : Context) (places : Places) (a : Arena) (d offset b : ℕ) (vs : List Value) (regs : Registers) (y : MidState) → y.arena ≡ a → length a.memory ≤ 2 ^ 24 → 3 < d → d + length vs ≤ length regs
    → register 3 regs ≡ Some b → ((i : ℕ) → i < length vs → ValueAt places a (b + offset + 4 * i) (slice_index_or vs i nil)) → Loads c places d offset vs regs y
loads_run c places a d offset b [] regs y same size low fits here values =
    let no_cost : y.cost ≡ y.cost + 0 = omega arith in
    record {
      after = regs;
      count = refl;
      ws = [];
      of_values = tt;
      below = λ i few. refl;
      there = λ rs ms h. h;
      cost = 0;
      within = omega arith;
      run = record { same = none_left.same ∙ ap (λ n. ends falls regs (record y { cost = n })) no_cost };
    }
loads_run c places a d offset b (v ∷ vs) regs y same size low fits here values =
    let first = values 0 (omega arith) in
    let at : b + offset + 4 * 0 ≡ b + offset = omega arith in
    let stands : word_at a (b + offset) ≡ Some first.word = ap (λ x. word_at a x) (sym at) ∙ first.stands in
    let limit = word_below a (b + offset) first.word stands in
    let one = load_far_runs c regs y d 3 offset b first.word (omega (arith, fits)) (λ e. omega (arith, e, low)) here (omega (arith, limit, size)) (ap (λ m. word_at m (b + offset)) same ∙ stands) in
    let set : ℕ = first.word in
    let regs1 : Registers = slice_set regs d (Some set) in
    let size1 : length regs1 ≡ length regs = length-set regs d (Some set) in
    let others = loads_run c places a (d + 1) (offset + 4) b vs regs1 (charged one.cost y) same size (omega (arith, low)) (omega (arith, fits, size1))
    (register_beside regs d 3 (Some set) (λ e. omega (arith, e, low)) ∙ here)
    (λ i few. let moved : b + offset + 4 * suc i ≡ b + (offset + 4) + 4 * i = omega arith in subst (λ x. ValueAt places a x (slice_index_or vs i nil)) moved (values (suc i) (omega (arith, few)))) in
    record {
      after = others.after;
      count = others.count ∙ size1;
      ws = set ∷ others.ws;
      of_values = (first.of_value, others.of_values);
      below = λ i few. others.below i (omega (arith, few)) ∙ register_beside regs d i (Some set) (λ e. omega (arith, e, few));
      there = λ rs ms h. (others.below d (omega arith) ∙ register_here regs d set (omega (arith, fits)), others.there rs ms h);
      cost = one.cost + others.cost;
      within = let l1 = one.within in let l2 = others.within in omega (arith, l1, l2);
      run = record {
        same = ◌∙◌ {b = ends falls others.after (charged others.cost (charged one.cost y))}
            (parts_then (load_far d 3 d offset) (words_loaded (length vs) (d + 1) 3 (offset + 4)) one.run others.run).same
            (ap (λ x. ends falls others.after x) (charged_twice one.cost others.cost (one.cost + others.cost) y refl));
      };
    }
