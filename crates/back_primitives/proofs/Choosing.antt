-- Steps that set registers behind the first ones and choose: the code goes on with what was chosen, and a value may come at once.
use Rattle.std.proofs.Common.{◌≡◌, ℕ, ◌+◌, ◌<◌, ◌≤◌, Bool, true, false, List, [], ◌∷◌, length, Some, refl, sym, ap, ◌∙◌, subst, arith}
use Rattle.std.specs.Prelude.{slice_get, slice_set, ◌==◌, ◌%◌, ◌&&◌, not, bit_and, bit_or, if◌then◌else◌}
use Rattle.std.proofs.lemmas.Bool.{eq-eqb, ne_eqb}
use Rattle.std.proofs.lemmas.Bool.Decides.{nat_tests}
use Rattle.std.proofs.lemmas.Nat.{and_mask, or_mod, and_or_self, and_le_l, or_comm}
use Rattle.std.proofs.Math.ListN.{length-set}
use Rattle.lang_meaning.specs.Values.{Value}
use Rattle.flat_language.specs.FlatState.{FlatEvaluated, gives}
use Rattle.mid_code.specs.Arena.{word_in}
use Rattle.mid_code.specs.Meaning.{Context, exec}
use Rattle.mid_code.specs.declared.operation.Arithmetic.TheVariants as arithmetic
use Rattle.mid_code.specs.declared.operation.Comparison.{Comparison}
use Rattle.mid_code.specs.declared.operation.Comparison.TheVariants.{Equal, Different}
use Rattle.mid_code.specs.MidCode.{MidStep, MidCode, code_of}
use Rattle.mid_code.specs.State.{Registers, register, falls, ends, MidState, MidOutcome, jumped}
use Rattle.mid_code.specs.State.{charged as mid_charged}
use Rattle.mid_code.specs.Words.{compares}
use Rattle.mid_arena.specs.Places.{word_of}
use Rattle.mid_arena.proofs.Lists.{set_elsewhere}
use Rattle.mid_arena.proofs.Registers.{register_here, register_beside}
use Rattle.mid_arena.proofs.Running.{RunsTo, and_then, constant_falls, compute_known, choose_first, choose_second}
use Rattle.back_lowering.specs.Steps.{Steps, constant, compute, where_so, if_equal, if_likely_equal}
use Rattle.back_lowering.specs.Primitives.{where_tag, where_likely_tag, where_integers}
use Rattle.back_relation.specs.Setting.{Setting}
use Rattle.back_relation.specs.Ends.{done}
use Rattle.back_relation.specs.Starts.{Start, EndsAt, ReachedFrom}
use Rattle.back_relation.proofs.Activations.{activation_later}
use Rattle.back_relation.proofs.Choices.{jumps}
use Rattle.back_relation.proofs.Parts.{single_step}
use Rattle.back_relation.proofs.Starts.{start_after, reached_same, behind}
use Rattle.back_relation.proofs.Straight.{same_here, world_cost, around_cost}
use Rattle.back_relation.proofs.Worlds.{later_same}
use Rattle.back_primitives.specs.Calling.{WordsIn}

-- ---- registers

-- as many registers, those below one as they were
pub record Beside (d : ℕ) (regs regs' : Registers) : Type 0 where
  pub count : length regs' ≡ length regs
  pub same : (i : ℕ) → i < d → slice_get regs' i ≡ slice_get regs i

pub beside_none : (d : ℕ) (regs : Registers) → Beside d regs regs
beside_none d regs = record { count = refl; same = λ i few. refl }

pub beside_set : {d : ℕ} {regs regs' : Registers} (r word : ℕ) → d ≤ r → Beside d regs regs' → Beside d regs (slice_set regs' r (Some word))
beside_set {d} {regs} {regs'} r word low b = record {
  count = length-set regs' r (Some word) ∙ b.count;
  same = λ i few. set_elsewhere regs' r i (Some word) (λ e. omega (arith, low, few, e)) ∙ b.same i few;
}

pub beside_less : {d e : ℕ} {regs regs' : Registers} → d ≤ e → Beside e regs regs' → Beside d regs regs'
beside_less l b = record { count = b.count; same = λ i few. b.same i (omega (arith, few, l)) }

pub beside_then : {d : ℕ} {regs regs' regs'' : Registers} → Beside d regs regs' → Beside d regs' regs'' → Beside d regs regs''
beside_then b e = record { count = e.count ∙ b.count; same = λ i few. e.same i few ∙ b.same i few }

pub register_kept : {d : ℕ} {regs regs' : Registers} (r : ℕ) → r < d → Beside d regs regs' → register r regs' ≡ register r regs
register_kept r few b = ap word_in (b.same r few)

pub words_kept : {e : ℕ} {regs regs' : Registers} (d : ℕ) (ws : List ℕ) → d + length ws ≤ e → Beside e regs regs' → WordsIn d ws regs → WordsIn d ws regs'
words_kept d [] low b h = tt
words_kept d (w ∷ ws) low b h = (register_kept d (omega (arith, low)) b ∙ h.0, words_kept (d + 1) ws (omega (arith, low)) b h.1)

module _ (setting : Setting) where
  pub reached_beside :
      {credit : ℕ} (a : Start setting) (regs : Registers) (cost : ℕ) → Beside a.d a.regs regs → cost ≤ credit
      → ReachedFrom setting credit a a.d a.w a.z regs (mid_charged cost a.y)
  reached_beside a regs cost b few = record {
    kept = record {
      world = world_cost setting cost a.begins.call.things;
      activation =
          activation_later setting {d = a.d} {y = a.y} {y' = mid_charged cost a.y} (later_same a.w) (same_here a.w refl) refl (λ n cs k. k)
          (λ r low. register_kept r low b) a.begins.scope a.begins.activation;
      registers = record { count = b.count; same = λ i low n. b.same i low };
    };
    back = around_cost setting a.z a.y cost few;
  }

  -- the start where the code goes on
  abbrev pub start_beside : (a : Start setting) (regs : Registers) (cost : ℕ) → Beside a.d a.regs regs → Start setting
  start_beside a regs cost b =
      start_after setting a a.d a.d a.n (omega arith) (omega arith) (omega arith) a.begins.first (reached_beside {credit = cost} a regs cost b (omega arith))

  -- **a value comes at once**
  pub quick_ends :
      {credit : ℕ} (a : Start setting) (c : Context) (code : MidCode) (regs : Registers) (cost word : ℕ) (v : Value)
      → RunsTo c code a.regs a.y (ends falls regs (mid_charged cost a.y)) → Beside a.d a.regs regs → register a.d regs ≡ Some word
      → word_of a.w.places v ≡ Some word → cost ≤ credit → EndsAt setting credit a (gives v a.z) (exec c code a.regs a.y)
  quick_ends {credit} a c code regs cost word v run b there of_value few =
      subst (λ o. EndsAt setting credit a (gives v a.z) o) (sym run.same)
      (done (record {
        result = v;
        outcome = refl;
        end = refl;
        w' = a.w;
        reached = reached_beside a regs cost b few;
        word = word;
        in_register = there;
        of_value = of_value;
      }))

  -- with more paid before
  pub ends_less : {c1 credit : ℕ} (a : Start setting) {r : FlatEvaluated} {q : MidOutcome} → c1 ≤ credit → EndsAt setting c1 a r q → EndsAt setting credit a r q
  ends_less {c1} a enough e = behind setting {c1 = 0} {c2 = c1} a a.d (omega arith) (reached_same setting {credit = 0} a a.d) (omega (arith, enough)) (omega arith) e

  -- ---- choices

  -- code comes to what was chosen, behind steps that set registers from t on
  pub record Chosen (c : Context) (regs : Registers) (y : MidState) (t most : ℕ) (code first second : Steps) (b : Bool) : Type 0 where
    pub regs' : Registers
    pub cost : ℕ
    pub run : exec c (code_of code) regs y ≡ jumped (exec c (code_of (if b then first else second)) regs' (mid_charged cost y))
    pub beside : Beside t regs regs'
    pub within : cost + 2 ≤ most

  pub chosen_ends :
      {c1 credit t most : ℕ} {code first second : Steps} {b : Bool} (a : Start setting) (c : Context) (h : Chosen c a.regs a.y t most code first second b) (low : a.d ≤ t)
      (r : FlatEvaluated) → a.z.state.units ≤ r.state.state.units → c1 + most ≤ credit
      → EndsAt setting c1 (start_beside a h.regs' h.cost (beside_less low h.beside)) r
      (exec c (code_of (if b then first else second)) h.regs' (mid_charged h.cost a.y))
      → EndsAt setting credit a r (exec c (code_of code) a.regs a.y)
  chosen_ends {c1} {credit} a c h low r up enough e =
      subst (λ o. EndsAt setting credit a r o) (sym h.run)
      (behind setting {c1 = h.cost} {c2 = c1 + 2} a a.d (omega arith) (reached_beside {credit = h.cost} a h.regs' h.cost (beside_less low h.beside) (omega arith))
      (let small = h.within in omega (arith, small, enough)) (omega arith)
      (jumps setting {c1 = c1} (start_beside a h.regs' h.cost (beside_less low h.beside)) (omega arith) up e))

-- one of two, as two registers compare
pub compared :
    (c : Context) (how : Comparison) (p q v w : ℕ) (first second : Steps) (b : Bool) (regs : Registers) (y : MidState) → register p regs ≡ Some v
    → register q regs ≡ Some w → compares how v w ≡ b
    → RunsTo c (code_of (where_so how p q first second ∷ [])) regs y (jumped (exec c (code_of (if b then first else second)) regs (mid_charged 12 y)))
compared c how p q v w first second true regs y e f so =
    record { same = single_step c (where_so how p q first second) regs y ∙ (choose_first e f so (record { same = refl })).same }
compared c how p q v w first second false regs y e f so =
    record { same = single_step c (where_so how p q first second) regs y ∙ (choose_second e f so (record { same = refl })).same }

-- the same where the likely one stands second
pub other_way : {X : Type 0} (b : Bool) (x y : X) → (if not b then y else x) ≡ (if b then x else y)
other_way true x y = refl
other_way false x y = refl

pub compared_likely :
    (c : Context) (p q v w : ℕ) (likely other : Steps) (b : Bool) (regs : Registers) (y : MidState) → register p regs ≡ Some v → register q regs ≡ Some w
    → (v == w) ≡ b
    → RunsTo c (code_of (if_likely_equal p q likely other ∷ [])) regs y (jumped (exec c (code_of (if b then likely else other)) regs (mid_charged 12 y)))
compared_likely c p q v w likely other b regs y e f so =
    subst (λ ss. RunsTo c (code_of (if_likely_equal p q likely other ∷ [])) regs y (jumped (exec c (code_of ss) regs (mid_charged 12 y))))
    (other_way b likely other) (compared c Different p q v w other likely (not b) regs y e f (ap not so))

-- the same run, with its cost in one sum
pub in_sum :
    {c : Context} {code : MidCode} {regs : Registers} {y : MidState} (cost : ℕ) (then_code : MidCode) (regs' : Registers) (y' : MidState)
    → RunsTo c code regs y (jumped (exec c then_code regs' y'))
    → y' ≡ record y { cost = y'.cost } → y'.cost ≡ y.cost + cost
    → exec c code regs y ≡ jumped (exec c then_code regs' (mid_charged cost y))
in_sum {c} {code} {regs} {y} cost then_code regs' y' run same sum =
    run.same ∙ ap (λ x. jumped (exec c then_code regs' x)) (same ∙ ap (λ n. record y { cost = n }) sum)

-- ---- tags

-- the two lowest bits
pub low_bits : (w : ℕ) → bit_and w 3 ≡ w % 4
low_bits w = and_mask w 2

or_none : (a m : ℕ) → bit_or a m ≡ 0 → m ≡ 0
or_none a m e =
    let self : bit_and 0 m ≡ m = subst (λ x. bit_and x m ≡ m) e (and_or_self m a) in
    let few = and_le_l 0 m in
    omega (arith, self, few)

-- those of two words together
pub both_low : (w x : ℕ) → w % 4 ≡ 0 → x % 4 ≡ 0 → bit_and (bit_or w x) 3 ≡ 0
both_low w x e f = low_bits (bit_or w x) ∙ or_mod w x 2 ∙ ap (λ r. bit_or r (x % 4)) e ∙ ap (λ r. bit_or 0 r) f

pub both_were : (w x : ℕ) → bit_and (bit_or w x) 3 ≡ 0 → (w % 4 ≡ 0) × (x % 4 ≡ 0)
both_were w x e =
    let together : bit_or (w % 4) (x % 4) ≡ 0 = sym (or_mod w x 2) ∙ sym (low_bits (bit_or w x)) ∙ e in
    (or_none (x % 4) (w % 4) (or_comm (x % 4) (w % 4) ∙ together), or_none (w % 4) (x % 4) together)

pub both_tested : (w x : ℕ) → (bit_and (bit_or w x) 3 == 0) ≡ (w % 4 == 0) && (x % 4 == 0)
both_tested w x = by (w % 4 == 0) (x % 4 == 0) refl refl
  where
    zero_was : (n : ℕ) → (n == 0) ≡ true → n ≡ 0
    zero_was n e = grind (arith, nat_tests)

    other_was : (n : ℕ) → (n == 0) ≡ false → n ≡ 0 → ⊥
    other_was n e f = let same : (n == 0) ≡ true = eq-eqb n 0 f in absurd (cc (sym e ∙ same))

    by : (b b' : Bool) → (w % 4 == 0) ≡ b → (x % 4 == 0) ≡ b' → (bit_and (bit_or w x) 3 == 0) ≡ b && b'
    by true true e f = eq-eqb _ _ (both_low w x (zero_was (w % 4) e) (zero_was (x % 4) f))
    by true false e f = ne_eqb _ _ (λ same. other_was (x % 4) f (both_were w x same).1)
    by false b' e f = ne_eqb _ _ (λ same. other_was (w % 4) e (both_were w x same).0)

module _ (setting : Setting) (c : Context) (regs : Registers) (y : MidState) (t : ℕ) (there : t + 1 < length regs) where
  -- the tag of a word, by some choice
  tag_chosen_by :
      (of w tag : ℕ) (choice : MidStep) (first second : Steps) (b : Bool) → register of regs ≡ Some w → of < t
      → ((regs' : Registers) (y' : MidState) → register t regs' ≡ Some (w % 4) → register (t + 1) regs' ≡ Some tag
      → RunsTo c (code_of (choice ∷ [])) regs' y' (jumped (exec c (code_of (if b then first else second)) regs' (mid_charged 12 y'))))
      → Chosen setting c regs y t 36 (constant t 3 ∷ compute t arithmetic.And of t ∷ constant (t + 1) tag ∷ choice ∷ []) first second b
  tag_chosen_by of w tag choice first second b held low chooses =
      let r1 : Registers = slice_set regs t (Some 3) in
      let r2 : Registers = slice_set r1 t (Some (w % 4)) in
      let r3 : Registers = slice_set r2 (t + 1) (Some tag) in
      let n1 : length r1 ≡ length regs = length-set regs t (Some 3) in
      let n2 : length r2 ≡ length r1 = length-set r1 t (Some (w % 4)) in
      let of_there : register of r1 ≡ Some w = register_beside regs t of (Some 3) (λ e. omega (arith, e, low)) ∙ held in
      let mask : register t r1 ≡ Some 3 = register_here regs t 3 (omega (arith, there)) in
      let left_there : register t r3 ≡ Some (w % 4) =
      register_beside r2 (t + 1) t (Some tag) (λ e. omega (arith, e)) ∙ register_here r1 t (w % 4) (omega (arith, there, n1)) in
      let right_there : register (t + 1) r3 ≡ Some tag = register_here r2 (t + 1) tag (omega (arith, there, n1, n2)) in
      record {
        regs' = r3;
        cost = 34;
        run =
            in_sum 34 (code_of (if b then first else second)) r3 (mid_charged 12 (mid_charged 6 (mid_charged 10 (mid_charged 6 y))))
            (and_then constant_falls
            (and_then (compute_known of_there mask (low_bits w))
            (and_then constant_falls
            (chooses r3 _ left_there right_there))))
            refl (omega arith);
        beside = beside_set (t + 1) tag (omega arith) (beside_set t (w % 4) (omega arith) (beside_set t 3 (omega arith) (beside_none t regs)));
        within = omega arith;
      }

  pub tag_chosen :
      (of w tag : ℕ) (first second : Steps) (b : Bool) → register of regs ≡ Some w → of < t → (w % 4 == tag) ≡ b
      → Chosen setting c regs y t 36 (where_tag of t tag first second) first second b
  tag_chosen of w tag first second b held low so =
      tag_chosen_by of w tag (if_equal t (t + 1) first second) first second b held low
      (λ regs' y' left right. compared c Equal t (t + 1) (w % 4) tag first second b regs' y' left right so)

  pub likely_tag_chosen :
      (of w tag : ℕ) (likely other : Steps) (b : Bool) → register of regs ≡ Some w → of < t → (w % 4 == tag) ≡ b
      → Chosen setting c regs y t 36 (where_likely_tag of t tag likely other) likely other b
  likely_tag_chosen of w tag likely other b held low so =
      tag_chosen_by of w tag (if_likely_equal t (t + 1) likely other) likely other b held low
      (λ regs' y' left right. compared_likely c t (t + 1) (w % 4) tag likely other b regs' y' left right so)

  -- whether two words are integers
  pub integers_chosen :
      (p q v w : ℕ) (first second : Steps) (b : Bool) → register p regs ≡ Some v → register q regs ≡ Some w → (v % 4 == 0) && (w % 4 == 0) ≡ b
      → Chosen setting c regs y t 46 (where_integers (p ∷ q ∷ []) t first second) first second b
  integers_chosen p q v w first second b held also so =
      let r1 : Registers = slice_set regs t (Some (bit_or v w)) in
      let r2 : Registers = slice_set r1 (t + 1) (Some 3) in
      let r3 : Registers = slice_set r2 t (Some (bit_and (bit_or v w) 3)) in
      let r4 : Registers = slice_set r3 (t + 1) (Some 0) in
      let n1 : length r1 ≡ length regs = length-set regs t (Some (bit_or v w)) in
      let n2 : length r2 ≡ length r1 = length-set r1 (t + 1) (Some 3) in
      let n3 : length r3 ≡ length r2 = length-set r2 t (Some (bit_and (bit_or v w) 3)) in
      let both : register t r2 ≡ Some (bit_or v w) =
      register_beside r1 (t + 1) t (Some 3) (λ e. omega (arith, e)) ∙ register_here regs t (bit_or v w) (omega (arith, there)) in
      let mask : register (t + 1) r2 ≡ Some 3 = register_here r1 (t + 1) 3 (omega (arith, there, n1)) in
      let left_there : register t r4 ≡ Some (bit_and (bit_or v w) 3) =
      register_beside r3 (t + 1) t (Some 0) (λ e. omega (arith, e)) ∙ register_here r2 t (bit_and (bit_or v w) 3) (omega (arith, there, n1, n2)) in
      let right_there : register (t + 1) r4 ≡ Some 0 = register_here r3 (t + 1) 0 (omega (arith, there, n1, n2, n3)) in
      record {
        regs' = r4;
        cost = 44;
        run =
            in_sum 44 (code_of (if b then first else second)) r4 (mid_charged 12 (mid_charged 6 (mid_charged 10 (mid_charged 6 (mid_charged 10 y)))))
            (and_then (compute_known held also refl)
            (and_then constant_falls
            (and_then (compute_known both mask refl)
            (and_then constant_falls
            (compared_likely c t (t + 1) (bit_and (bit_or v w) 3) 0 first second b r4 _ left_there right_there (both_tested v w ∙ so))))))
            refl (omega arith);
        beside =
            beside_set (t + 1) 0 (omega arith)
            (beside_set t (bit_and (bit_or v w) 3) (omega arith) (beside_set (t + 1) 3 (omega arith) (beside_set t (bit_or v w) (omega arith) (beside_none t regs))));
        within = omega arith;
      }
