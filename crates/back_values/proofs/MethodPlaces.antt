-- The call of a method comes into three registers.
use Rattle.std.proofs.Common.{◌≡◌, inl, ℕ, ◌+◌, ◌^◌, ◌<◌, ◌≤◌, true, false, [], ◌∷◌, length, Option, Some, None, refl, sym, ap, ◌∙◌, subst, arith}
use Rattle.std.specs.Prelude.{slice_get, slice_set}
use Rattle.std.proofs.lemmas.Bool.{eq-eqb, ne_eqb}
use Rattle.std.proofs.Math.ListN.{length-set}
use Rattle.base.specs.Arithmetic.{sum32}
use Rattle.lang_meaning.specs.Objects.{Called}
use Rattle.flat_language.specs.declared.place.CapturedKind.TheVariants as kind
use Rattle.flat_language.specs.declared.place.MethodPlace.TheVariants as method_place
use Rattle.flat_language.specs.FlatState.{of_method, method_in, method_of}
use Rattle.mid_code.specs.declared.operation.Arithmetic.TheVariants as which
use Rattle.mid_code.specs.Meaning.{Context, exec}
use Rattle.mid_code.specs.MidCode.{code_of}
use Rattle.mid_code.specs.State.{Registers, register, falls, ends}
use Rattle.mid_code.specs.State.{charged as mid_charged}
use Rattle.mid_arena.specs.Places.{of_other}
use Rattle.mid_arena.proofs.Lists.{set_elsewhere}
use Rattle.mid_arena.proofs.Memory.{spot_low}
use Rattle.mid_arena.proofs.Registers.{register_here, register_beside}
use Rattle.mid_arena.proofs.Running.{and_then, none_left, constant_falls, move_falls, load_falls, compute_known, choose_first_falls, choose_second_falls, address_up, address_here, parts_then}
use Rattle.back_lowering.specs.Codes.{method_into}
use Rattle.back_lowering.specs.Leaves.{captured_into, captured_offset}
use Rattle.back_lowering.specs.Registers.{of_code, enough_for}
use Rattle.back_lowering.specs.Steps.{Steps, constant, load, compute, if_equal}
use Rattle.back_relation.specs.Setting.{Setting}
use Rattle.back_relation.specs.Worlds.{World, MethodIs}
use Rattle.back_relation.specs.Activation.{FormScope, ArgumentsKept, MethodHeld, MethodThere, in_heap}
use Rattle.back_relation.specs.Forms.{code_at}
use Rattle.back_relation.specs.Points.{Point}
use Rattle.back_relation.proofs.Fitting.{registers_behind}
use Rattle.back_values.specs.Methods.{LawOfMethodPlaces}
use Rattle.back_values.proofs.CapturedWords.{PartThere, of_kind, is_method, part_there}
use Rattle.back_values.proofs.Far.{load_far_runs}

-- one register has one word
pub one_word : (o : Option ℕ) (x y : ℕ) → o ≡ Some x → o ≡ Some y → x ≡ y
one_word o x y e f = cc (sym e ∙ f)

never_kept : false ≡ true → ⊥
never_kept e = absurd (cc e)

-- three registers one after another are set
module _ (regs : Registers) (d a b c : ℕ) (there : d + 2 < length regs) where
  abbrev pub three : Registers
  three = slice_set (slice_set (slice_set regs d (Some a)) (d + 1) (Some b)) (d + 2) (Some c)

  pub three_count : length three ≡ length regs
  three_count =
      length-set (slice_set (slice_set regs d (Some a)) (d + 1) (Some b)) (d + 2) (Some c) ∙ length-set (slice_set regs d (Some a)) (d + 1) (Some b) ∙ length-set regs d (Some a)

  pub three_first : register d three ≡ Some a
  three_first =
      register_beside (slice_set (slice_set regs d (Some a)) (d + 1) (Some b)) (d + 2) d (Some c) (λ e. omega (arith, e))
      ∙ register_beside (slice_set regs d (Some a)) (d + 1) d (Some b) (λ e. omega (arith, e)) ∙ register_here regs d a (omega (arith, there))

  pub three_second : register (d + 1) three ≡ Some b
  three_second =
      register_beside (slice_set (slice_set regs d (Some a)) (d + 1) (Some b)) (d + 2) (d + 1) (Some c) (λ e. omega (arith, e))
      ∙ register_here (slice_set regs d (Some a)) (d + 1) b (omega (arith, there, length-set regs d (Some a)))

  pub three_third : register (d + 2) three ≡ Some c
  three_third =
      register_here (slice_set (slice_set regs d (Some a)) (d + 1) (Some b)) (d + 2) c
      (omega (arith, there, length-set regs d (Some a), length-set (slice_set regs d (Some a)) (d + 1) (Some b)))

  pub three_below : (i : ℕ) → i < d → slice_get three i ≡ slice_get regs i
  three_below i few =
      set_elsewhere (slice_set (slice_set regs d (Some a)) (d + 1) (Some b)) (d + 2) i (Some c) (λ e. omega (arith, e, few))
      ∙ set_elsewhere (slice_set regs d (Some a)) (d + 1) i (Some b) (λ e. omega (arith, e, few)) ∙ set_elsewhere regs d i (Some a) (λ e. omega (arith, e, few))

-- all arguments of a call that is kept
kept_whole : (w : World) (start : ℕ) (called : Called) → MethodIs w start called → ArgumentsKept w (start + 8) called.arguments
kept_whole w start called k = record { number = k.0; start = start; call = called; is_kept = k.1; before = []; arguments = refl; here = omega arith }

module _ (setting : Setting) (s : FormScope) (d m size k turns : ℕ) (q : Point setting s d m size) where
  abbrev con : Context
  con = code_at setting k turns

  -- ---- of the activation

  abbrev own_code : Option ℕ → Steps
  own_code o = method_into setting.names setting.at setting.program (record s.code { method = o }) d method_place.Own

  record OwnLoaded (o : Option ℕ) (called : Option Called) : Type 0 where
    pub after : Registers
    pub count : length after ≡ size
    pub below : (i : ℕ) → i < d → slice_get after i ≡ slice_get q.regs i
    pub held : MethodHeld setting q.w q.y.arena false after (Some d) called
    pub stands : MethodThere setting q.w q.y.arena after (Some d) called
    pub run : exec con (code_of (own_code o)) q.regs q.y ≡ ends falls after (mid_charged 18 q.y)

  costs : (regs : Registers) → ends falls regs (mid_charged 6 (mid_charged 6 (mid_charged 6 q.y))) ≡ ends falls regs (mid_charged 18 q.y)
  costs regs = let cost : q.y.cost + 6 + 6 + 6 ≡ q.y.cost + 18 = omega arith in ap (λ x. ends falls regs (record q.y { cost = x })) cost

  module _ (there : d + 2 < length q.regs) where
    abbrev three_of : (a b c : ℕ) → Registers
    three_of a b c = three q.regs d a b c there

    moved :
        (r a b c : ℕ) → r + 2 < d → register r q.regs ≡ Some a → register (r + 1) q.regs ≡ Some b → register (r + 2) q.regs ≡ Some c
        → exec con (code_of (own_code (Some r))) q.regs q.y ≡ ends falls (three_of a b c) (mid_charged 18 q.y)
    moved r a b c low e f g =
        let run = and_then {c = con} {rs = q.regs} {z = q.y} (move_falls e)
        (and_then (move_falls (register_beside q.regs d (r + 1) (Some a) (λ at. omega (arith, at, low)) ∙ f))
        (and_then
        (move_falls
        (register_beside (slice_set q.regs d (Some a)) (d + 1) (r + 2) (Some b) (λ at. omega (arith, at, low)) ∙ register_beside q.regs d (r + 2) (Some a) (λ at. omega (arith, at, low)) ∙ g))
        none_left)) in
        run.same ∙ costs (three_of a b c)

    zeros : exec con (code_of (own_code None)) q.regs q.y ≡ ends falls (three_of 0 0 0) (mid_charged 18 q.y)
    zeros =
        let run = and_then {c = con} {rs = q.regs} {z = q.y} constant_falls (and_then constant_falls (and_then constant_falls none_left)) in
        run.same ∙ costs (three_of 0 0 0)

    own_loaded :
        (o : Option ℕ) (called : Option Called) → ((r : ℕ) → o ≡ Some r → r + 2 < d) → MethodHeld setting q.w q.y.arena s.keeps_method q.regs o called
        → MethodThere setting q.w q.y.arena q.regs o called → OwnLoaded o called
    own_loaded None None own h stand = record {
      after = three_of 0 0 0;
      count = three_count q.regs d 0 0 0 there ∙ q.count;
      below = three_below q.regs d 0 0 0 there;
      held = (0, 0, three_first q.regs d 0 0 0 there, three_second q.regs d 0 0 0 there, three_third q.regs d 0 0 0 there);
      stands = tt;
      run = zeros;
    }
    own_loaded None (Some called) own h stand = absurd h
    own_loaded (Some r) None own h stand = record {
      after = three_of 0 h.0 h.1;
      count = three_count q.regs d 0 h.0 h.1 there ∙ q.count;
      below = three_below q.regs d 0 h.0 h.1 there;
      held = (h.0, h.1, three_first q.regs d 0 h.0 h.1 there, three_second q.regs d 0 h.0 h.1 there, three_third q.regs d 0 h.0 h.1 there);
      stands = tt;
      run = moved r 0 h.0 h.1 (own r refl) h.2 h.3 h.4;
    }
    own_loaded (Some r) (Some called) own h stand =
        let n : ℕ = length called.arguments in
        record {
          after = three_of h.chain n h.arguments;
          count = three_count q.regs d h.chain n h.arguments there ∙ q.count;
          below = three_below q.regs d h.chain n h.arguments there;
          held = record {
            chain = h.chain;
            arguments = h.arguments;
            chain_word = three_first q.regs d h.chain n h.arguments there;
            count_word = three_second q.regs d h.chain n h.arguments there;
            arguments_word = three_third q.regs d h.chain n h.arguments there;
            chain_stands = h.chain_stands;
            takes = h.takes;
            held = h.held;
            kept = λ e. absurd (never_kept e);
          };
          stands = λ x e.
              let same : h.arguments ≡ x = one_word (register (d + 2) (three_of h.chain n h.arguments)) h.arguments x (three_third q.regs d h.chain n h.arguments there) e in
              stand x (h.arguments_word ∙ ap (λ i. Some i) same);
          run = moved r h.chain n h.arguments (own r refl) h.chain_word h.count_word h.arguments_word;
        }

  own_fits : (o : Option ℕ) → enough_for (of_code (code_of (own_code o))) ≤ size → d + 2 < length q.regs
  own_fits None fits = omega (arith, fits, q.count)
  own_fits (Some r) fits = omega (arith, fits, q.count)

  -- ---- captured

  module _ (i : ℕ) where
    abbrev load_steps : Steps
    load_steps = load d (d + 2) 0 ∷ load (d + 1) (d + 2) 4 ∷ constant (d + 3) 8 ∷ compute (d + 2) which.Add (d + 2) (d + 3) ∷ []

    abbrev branch : Steps
    branch = constant d 0 ∷ if_equal (d + 2) d (constant (d + 1) 0 ∷ []) load_steps ∷ []

    abbrev captured_code : Steps
    captured_code = method_into setting.names setting.at setting.program s.code d (method_place.Captured i)

    branch_fits : enough_for (of_code (code_of branch)) ≤ size → d + 3 < size
    branch_fits fits = omega (arith, fits)

    record CapturedLoaded (called : Option Called) : Type 0 where
      pub after : Registers
      pub count : length after ≡ size
      pub below : (j : ℕ) → j < d → slice_get after j ≡ slice_get q.regs j
      pub held : MethodHeld setting q.w q.y.arena false after (Some d) called
      pub stands : MethodThere setting q.w q.y.arena after (Some d) called
      pub cost : ℕ
      pub within : cost ≤ 100
      pub run : exec con (code_of captured_code) q.regs q.y ≡ ends falls after (mid_charged cost q.y)

    captured_loaded : d + 3 < length q.regs → (called : Option Called) → PartThere q.w q.y.arena (register s.code.function q.regs) i (of_method called) → CapturedLoaded called
    captured_loaded there None at =
        let own = q.begins.scope.self.0 in
        let l = load_far_runs con q.regs q.y (d + 2) s.code.function (captured_offset i) at.pointer at.at.word (omega (arith, there)) (λ e. omega (arith, own, e)) at.held at.low at.at.stands in
        let few = l.within in
        let regs1 : Registers = slice_set q.regs (d + 2) (Some at.at.word) in
        let regs2 : Registers = slice_set regs1 d (Some 0) in
        let regs3 : Registers = slice_set regs2 (d + 1) (Some 0) in
        let count1 : length regs1 ≡ length q.regs = length-set q.regs (d + 2) (Some at.at.word) in
        let count2 : length regs2 ≡ length q.regs = length-set regs1 d (Some 0) ∙ count1 in
        let word : register (d + 2) regs2 ≡ Some at.at.word =
        register_beside regs1 d (d + 2) (Some 0) (λ e. omega (arith, e)) ∙ register_here q.regs (d + 2) at.at.word (omega (arith, there)) in
        let zero_there : register d regs2 ≡ Some 0 = register_here regs1 d 0 (omega (arith, there, count1)) in
        let run = parts_then {c = con} (captured_into s.code (d + 2) i) branch l.run
        (and_then constant_falls
        (and_then (choose_first_falls word zero_there (eq-eqb at.at.word 0 at.at.is) (and_then constant_falls none_left)) none_left)) in
        let total : ℕ = l.cost + 26 in
        let cost : q.y.cost + l.cost + 6 + 12 + 6 + 2 ≡ q.y.cost + total = omega arith in
        record {
          after = regs3;
          count = length-set regs2 (d + 1) (Some 0) ∙ count2 ∙ q.count;
          below = λ j low.
              set_elsewhere regs2 (d + 1) j (Some 0) (λ e. omega (arith, e, low)) ∙ set_elsewhere regs1 d j (Some 0) (λ e. omega (arith, e, low))
              ∙ set_elsewhere q.regs (d + 2) j (Some at.at.word) (λ e. omega (arith, e, low));
          held = (
            0,
            at.at.word,
            register_beside regs2 (d + 1) d (Some 0) (λ e. omega (arith, e)) ∙ zero_there,
            register_here regs2 (d + 1) 0 (omega (arith, there, count2)),
            register_beside regs2 (d + 1) (d + 2) (Some 0) (λ e. omega (arith, e)) ∙ word,
          );
          stands = tt;
          cost = total;
          within = omega (arith, few);
          run = run.same ∙ ap (λ x. ends falls regs3 (record q.y { cost = x })) cost;
        }
    captured_loaded there (Some called) at =
        let own = q.begins.scope.self.0 in
        let x : ℕ = at.at.word in
        let l = load_far_runs con q.regs q.y (d + 2) s.code.function (captured_offset i) at.pointer x (omega (arith, there)) (λ e. omega (arith, own, e)) at.held at.low at.at.stands in
        let few = l.within in
        let some = at.at.is.0 in
        let kept = at.at.is.1 in
        let stood = q.begins.call.things.methods kept.0 x called kept.1 in
        let r = q.begins.call.things.represents in
        let end = spot_low r.arena (r.spots (of_other stood.spot.number) _ stood.spot.there) in
        let low : x + 8 < 2 ^ 32 = omega (arith, end) in
        let n : ℕ = length called.arguments in
        let regs1 : Registers = slice_set q.regs (d + 2) (Some x) in
        let regs2 : Registers = slice_set regs1 d (Some 0) in
        let regs3 : Registers = slice_set regs2 d (Some stood.chain) in
        let regs4 : Registers = slice_set regs3 (d + 1) (Some n) in
        let regs5 : Registers = slice_set regs4 (d + 3) (Some 8) in
        let regs6 : Registers = slice_set regs5 (d + 2) (Some (x + 8)) in
        let count1 : length regs1 ≡ length q.regs = length-set q.regs (d + 2) (Some x) in
        let count2 : length regs2 ≡ length q.regs = length-set regs1 d (Some 0) ∙ count1 in
        let count3 : length regs3 ≡ length q.regs = length-set regs2 d (Some stood.chain) ∙ count2 in
        let count4 : length regs4 ≡ length q.regs = length-set regs3 (d + 1) (Some n) ∙ count3 in
        let count5 : length regs5 ≡ length q.regs = length-set regs4 (d + 3) (Some 8) ∙ count4 in
        let word2 : register (d + 2) regs2 ≡ Some x =
        register_beside regs1 d (d + 2) (Some 0) (λ e. omega (arith, e)) ∙ register_here q.regs (d + 2) x (omega (arith, there)) in
        let zero_there : register d regs2 ≡ Some 0 = register_here regs1 d 0 (omega (arith, there, count1)) in
        let word3 : register (d + 2) regs3 ≡ Some x = register_beside regs2 d (d + 2) (Some stood.chain) (λ e. omega (arith, e)) ∙ word2 in
        let word4 : register (d + 2) regs4 ≡ Some x = register_beside regs3 (d + 1) (d + 2) (Some n) (λ e. omega (arith, e)) ∙ word3 in
        let word5 : register (d + 2) regs5 ≡ Some x = register_beside regs4 (d + 3) (d + 2) (Some 8) (λ e. omega (arith, e)) ∙ word4 in
        let sum : sum32 x 8 ≡ x + 8 = sum_is x low in
        let run = parts_then {c = con} (captured_into s.code (d + 2) i) branch l.run
        (and_then constant_falls
        (and_then
        (choose_second_falls word2 zero_there (ne_eqb x 0 (λ e. omega (arith, e, some)))
        (and_then (load_falls word2 (address_here x (omega (arith, low))) stood.chain_word)
        (and_then (load_falls word3 (address_up x 4 (omega (arith, low))) stood.count)
        (and_then constant_falls
        (and_then (compute_known {how = which.Add} word5 (register_here regs4 (d + 3) 8 (omega (arith, there, count4))) sum) none_left)))))
        none_left)) in
        let total : ℕ = l.cost + 52 in
        let cost : q.y.cost + l.cost + 6 + 12 + 8 + 8 + 6 + 10 + 2 ≡ q.y.cost + total = omega arith in
        let chain_there : register d regs6 ≡ Some stood.chain =
        register_beside regs5 (d + 2) d (Some (x + 8)) (λ e. omega (arith, e)) ∙ register_beside regs4 (d + 3) d (Some 8) (λ e. omega (arith, e))
        ∙ register_beside regs3 (d + 1) d (Some n) (λ e. omega (arith, e)) ∙ register_here regs2 d stood.chain (omega (arith, there, count2)) in
        let count_there : register (d + 1) regs6 ≡ Some n =
        register_beside regs5 (d + 2) (d + 1) (Some (x + 8)) (λ e. omega (arith, e)) ∙ register_beside regs4 (d + 3) (d + 1) (Some 8) (λ e. omega (arith, e))
        ∙ register_here regs3 (d + 1) n (omega (arith, there, count3)) in
        let arguments_there : register (d + 2) regs6 ≡ Some (x + 8) = register_here regs5 (d + 2) (x + 8) (omega (arith, there, count5)) in
        record {
          after = regs6;
          count = length-set regs5 (d + 2) (Some (x + 8)) ∙ count5 ∙ q.count;
          below = λ j few_j.
              set_elsewhere regs5 (d + 2) j (Some (x + 8)) (λ e. omega (arith, e, few_j)) ∙ set_elsewhere regs4 (d + 3) j (Some 8) (λ e. omega (arith, e, few_j))
              ∙ set_elsewhere regs3 (d + 1) j (Some n) (λ e. omega (arith, e, few_j)) ∙ set_elsewhere regs2 d j (Some stood.chain) (λ e. omega (arith, e, few_j))
              ∙ set_elsewhere regs1 d j (Some 0) (λ e. omega (arith, e, few_j)) ∙ set_elsewhere q.regs (d + 2) j (Some x) (λ e. omega (arith, e, few_j));
          held = record {
            chain = stood.chain;
            arguments = x + 8;
            chain_word = chain_there;
            count_word = count_there;
            arguments_word = arguments_there;
            chain_stands = stood.chain_stands;
            takes = stood.takes;
            held = in_heap (kept_whole q.w x called kept);
            kept = λ e. absurd (never_kept e);
          };
          stands = λ y e. let same : x + 8 ≡ y = one_word (register (d + 2) regs6) (x + 8) y arguments_there e in inl (subst (λ a. ArgumentsKept q.w a called.arguments) same (kept_whole q.w x called kept));
          cost = total;
          within = omega (arith, few);
          run = run.same ∙ ap (λ c. ends falls regs6 (record q.y { cost = c })) cost;
        }
      where
        sum_is : (x : ℕ) → x + 8 < 2 ^ 32 → sum32 x 8 ≡ x + 8
        sum_is x low = omega (arith, low)

pub method_places_law : LawOfMethodPlaces
method_places_law setting s d m size k turns method_place.Own q stands known fits =
    let there : d + 2 < length q.regs = own_fits setting s d m size k turns q s.code.method fits in
    let l = own_loaded setting s d m size k turns q there s.code.method q.env.method (λ r e. (q.begins.scope.method r e).2.0) q.begins.activation.method q.begins.method_there in
    record {
      after = l.after;
      count = l.count;
      below = l.below;
      held = l.held;
      stands = l.stands;
      cost = 18;
      within = omega arith;
      run = l.run;
    }
method_places_law setting s d m size k turns (method_place.Captured i) q stands known fits =
    let behind_word = registers_behind (captured_into s.code (d + 2) i) (branch setting s d m size k turns q i) size fits in
    let last = branch_fits setting s d m size k turns q i behind_word in
    let there : d + 3 < length q.regs = omega (arith, last, q.count) in
    let found = of_kind s.flat.captured q.env.captured i kind.Method q.begins.activation.kinds stands in
    let o = is_method found.0 found.2 in
    let e : slice_get q.env.captured i ≡ Some (of_method o.0) = found.1 ∙ ap (λ z. Some z) o.1 in
    let at = part_there setting q.begins.call.things known (register s.code.function q.regs) q.env.captured q.begins.activation.self i (of_method o.0) e in
    let l = captured_loaded setting s d m size k turns q i there o.0 at in
    let same : method_of (method_place.Captured i) q.env ≡ o.0 = ap method_in e in
    record {
      after = l.after;
      count = l.count;
      below = l.below;
      held = subst (λ c. MethodHeld setting q.w q.y.arena false l.after (Some d) c) (sym same) l.held;
      stands = subst (λ c. MethodThere setting q.w q.y.arena l.after (Some d) c) (sym same) l.stands;
      cost = l.cost;
      within = l.within;
      run = l.run;
    }
